-- Reading and writing undo each other, said of the two calls. Assumes nothing: these are definitions.
use Rattle.std.specs.Prelude.{◌≡◌, List, ℕ, ◌*◌, ◌≤◌, length, take}
use Rattle.wire.specs.Bytes.{Bytes, filled, signed_filled}
use Rattle.transducer.specs.Answer.{Header}
use Rattle.transducer.specs.Answer.{Written}
use Rattle.transducer.specs.Format.{max_states, max_arcs, max_fields, max_bytes}
use Rattle.transducer.specs.Weight.{Weight}
use Rattle.codec.specs.Entry.{ReadSays, read_refusal, WriteSays, write_refusal, given}

-- The four buffers that reading is lent, and the four runs that writing is handed.
pub record Four : Type 0 where
  pub final_states : List ℕ
  pub final_weights : List Weight
  pub fields : List ℕ
  pub arc_weights : List Weight

-- `read` was answered as its contract says, and so was `write`.
abbrev pub AnswersRead : (bytes : List ℕ) → Header → (lent left : Four) → Type 0
AnswersRead bs r a a' =
    ReadSays bs
    (read_refusal bs (length a.final_states) (length a.final_weights) (length a.fields) (length a.arc_weights))
    r a.final_states a'.final_states a.final_weights a'.final_weights a.fields a'.fields a.arc_weights a'.arc_weights

abbrev pub AnswersWrite : (states arcs finals start : ℕ) → Four → Written → (lent left : List ℕ) → Type 0
AnswersWrite n m f start a r out out' =
    WriteSays (given n m f start a.final_states a.final_weights a.fields a.arc_weights)
    (write_refusal n m f start a.final_states a.final_weights a.fields a.arc_weights (length out))
    r out out'

-- Bytes are read and not refused; what reading answered and left is written, into a buffer that is long enough.
-- That the input is bytes holds of a slice of bytes.
pub record ReadThenWritten : Type 0 where
  pub bytes : List ℕ
  pub are_bytes : Bytes bytes
  pub reading : Header
  pub lent : Four
  pub left : Four
  pub read : AnswersRead bytes reading lent left
  pub read_well : reading.refusal ≡ 0
  pub writing : Written
  pub out : List ℕ
  pub out_left : List ℕ
  pub written : AnswersWrite reading.states reading.arcs reading.finals reading.start left writing out out_left
  pub room : max_bytes ≤ length out

-- Writing is not refused, and gives the same bytes, zeros behind them.
pub record SameBytes (c : ReadThenWritten) : Type 0 where
  pub accepted : c.writing.refusal ≡ 0
  pub len : c.writing.len ≡ length c.bytes
  pub bytes : c.out_left ≡ filled (length c.out) c.bytes

-- Four numbers and four runs are written and not refused; what was written, at the length told, is read into buffers that are long enough.
pub record WrittenThenRead : Type 0 where
  pub states : ℕ
  pub arcs : ℕ
  pub finals : ℕ
  pub start : ℕ
  pub runs : Four
  pub writing : Written
  pub out : List ℕ
  pub out_left : List ℕ
  pub written : AnswersWrite states arcs finals start runs writing out out_left
  pub written_well : writing.refusal ≡ 0
  pub reading : Header
  pub lent : Four
  pub left : Four
  pub read : AnswersRead (take writing.len out_left) reading lent left
  pub final_states_room : max_states ≤ length lent.final_states
  pub final_weights_room : max_states ≤ length lent.final_weights
  pub fields_room : max_fields ≤ length lent.fields
  pub arc_weights_room : max_arcs ≤ length lent.arc_weights

-- Reading is not refused, and gives the four numbers and, of each run, what stands for the finals or the arcs, zeros behind it.
pub record SameTransducer (c : WrittenThenRead) : Type 0 where
  pub accepted : c.reading.refusal ≡ 0
  pub states : c.reading.states ≡ c.states
  pub arcs : c.reading.arcs ≡ c.arcs
  pub finals : c.reading.finals ≡ c.finals
  pub start : c.reading.start ≡ c.start
  pub final_states : c.left.final_states ≡ filled (length c.lent.final_states) (take c.finals c.runs.final_states)
  pub final_weights : c.left.final_weights ≡ signed_filled (length c.lent.final_weights) (take c.finals c.runs.final_weights)
  pub fields : c.left.fields ≡ filled (length c.lent.fields) (take (4 * c.arcs) c.runs.fields)
  pub arc_weights : c.left.arc_weights ≡ signed_filled (length c.lent.arc_weights) (take c.arcs c.runs.arc_weights)
