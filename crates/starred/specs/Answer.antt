-- A case: a call, what it is handed, and what it answers; and what the definitions give, which the calls' contracts cite.
-- Assumes nothing: these are definitions.
use Rattle.std.specs.Prelude.{◌≡◌, cond, List, [], ◌∷◌, map, ℕ, eqb, length}
use Rattle.transducer.specs.Format.{Transducer, max_states, max_arcs, max_fields, max_origins, max_bytes, max_path, decode}
use Rattle.transducer.specs.Encode.{encode}
use Rattle.transducer.specs.Path.{written_by, path_cost}
use Rattle.transducer.specs.Weight.{Weight, no_weight, amount}
use Rattle.codec.specs.Entry.{arc_fields, read_refusal}
use Rattle.explore.specs.Explore.{keeps}
use Rattle.compose.specs.Compose.{composed}
use Rattle.compose.specs.Entry.{compose_refusal, origin_pairs}
use Rattle.lattice.specs.Lattice.{lattice, lattice_origins}
use Rattle.lattice.specs.ApplyEntry.{apply_refusal}
use Rattle.paths.specs.Count.{path_count, nth_path}
use Rattle.paths.specs.Entry.{count_refusal, nth_refusal}
use Rattle.distance.specs.Entry.{costs_to_come, costs_refusal}
use Rattle.shortest.specs.Shortest.{shortest}
use Rattle.shortest.specs.Entry.{shortest_refusal}
use Rattle.listing.specs.Entry.{listing_refusal, text_of}

-- A call with the bytes, the string and the number that it is handed (paper 01: reading a table, the join, applying a code, the count, reading k,
-- the cheapest reading, the listing; paper 02: the costs to come).
pub data Call : Type 0 where
  reading : (table : List ℕ) → Call
  composing : (left right : List ℕ) → Call
  applying : (string table : List ℕ) → Call
  counting : (table : List ℕ) → Call
  kth_path : (table : List ℕ) → (k : ℕ) → Call
  shortest_path : (table : List ℕ) → Call
  listing : (left right code : List ℕ) → Call
  distances : (table : List ℕ) → Call

-- What a call leaves in each buffer that it was lent: what it writes with zeros behind, what stood there before, or zeros only.
pub data Left : Type 0 where
  written : Left
  kept : Left
  zeros : Left

-- What a call answers: the refusal or 0, what it leaves in the buffers, a cost, the other numbers in the answer's order, and what it writes to the front of
-- each buffer that it hands over, those of weights by themselves.
pub record Answer : Type 0 where
  pub refusal : ℕ
  pub left : Left
  pub cost : Weight
  pub numbers : List ℕ
  pub buffers : List (List ℕ)
  pub weights : List (List Weight)

pub record Case : Type 0 where
  pub call : Call
  pub answer : Answer

infix 20 ◌gives◌
abbrev pub ◌gives◌ : Call → Answer → Case
c gives a = record { call = c; answer = a }

-- Answers as rows have them. A refusal by a number that leaves the buffers as they were, and one that leaves only zeros in them.
abbrev pub refused_leaving : Left → (number : ℕ) → Answer
refused_leaving left number = record { refusal = number; left = left; cost = no_weight; numbers = []; buffers = []; weights = [] }

abbrev pub refused : (number : ℕ) → Answer
refused number = refused_leaving kept number

abbrev pub refused_with_zeros : (number : ℕ) → Answer
refused_with_zeros number = refused_leaving zeros number

-- Without refusal: a transducer written, with its length and origins; a count; a path with its cost.
abbrev pub writes : (len : ℕ) → (bytes origins : List ℕ) → Answer
writes len bytes origins = record { refusal = 0; left = written; cost = no_weight; numbers = len ∷ []; buffers = bytes ∷ origins ∷ []; weights = [] }

abbrev pub counts : ℕ → Answer
counts count = record { refusal = 0; left = written; cost = no_weight; numbers = count ∷ []; buffers = []; weights = [] }

abbrev pub path_told : (cost : Weight) → (arcs labels : List ℕ) → Answer
path_told cost arcs labels =
    record { refusal = 0; left = written; cost = cost; numbers = length arcs ∷ length labels ∷ []; buffers = arcs ∷ labels ∷ []; weights = [] }

abbrev pub tells : (cost : ℕ) → (arcs labels : List ℕ) → Answer
tells cost arcs labels = path_told (amount cost) arcs labels

-- The cells of costs to come.
abbrev pub cells_told : (cells : List Weight) → Answer
cells_told cells = record { refusal = 0; left = written; cost = no_weight; numbers = []; buffers = []; weights = cells ∷ [] }

-- A listing, and the refusal that its text says.
abbrev pub lists : (said : ℕ) → (text : List ℕ) → Answer
lists said text = record { refusal = 0; left = written; cost = no_weight; numbers = length text ∷ said ∷ []; buffers = text ∷ []; weights = [] }

-- The bytes of a transducer are accepted: its four numbers, final states and weights, arc fields, arc weights.
abbrev pub table_read : (states arcs finals start : ℕ) → (final_states : List ℕ) → (final_weights : List Weight) → (fields : List ℕ)
    → (arc_weights : List Weight) → Answer
table_read n m f start a b c d =
    record { refusal = 0; left = written; cost = no_weight; numbers = n ∷ m ∷ f ∷ start ∷ []; buffers = a ∷ c ∷ []; weights = b ∷ d ∷ [] }

-- Like `table_read`, for weights that are not below 0.
abbrev pub reads : (states arcs finals start : ℕ) → (final_states final_weights fields arc_weights : List ℕ) → Answer
reads n m f start a b c d = table_read n m f start a (map amount b) c (map amount d)

-- An answer, or a refusal if its number is not 0.
unfoldable pub or_refused : Left → (number : ℕ) → Answer → Answer
or_refused left number a = cond (eqb number 0) a (refused_leaving left number)

-- Like `or_refused`, for a call that builds a transducer: some of its refusals leave zeros.
unfoldable pub built_or_refused : (number : ℕ) → Answer → Answer
built_or_refused number a = or_refused (cond (keeps number) kept zeros) number a

-- A transducer read, one written with its origins, and a path told.
unfoldable pub read_answer : Transducer → Answer
read_answer t =
    table_read t.states (length t.arcs) (length t.finals) t.start
    (map (λ f. f.state) t.finals) (map (λ f. f.weight) t.finals) (arc_fields t.arcs) (map (λ a. a.weight) t.arcs)

unfoldable pub write_answer : Transducer → (origins : List ℕ) → Answer
write_answer t origins = writes (length (encode t)) (encode t) origins

unfoldable pub path_answer : Transducer → (path : List ℕ) → Answer
path_answer t p = path_told (path_cost t p) p (written_by t p)

-- What the definitions give for each call, lent buffers of the least lengths.
unfoldable pub defined : Call → Answer
defined (reading bs) = or_refused kept (read_refusal bs max_states max_states max_fields max_arcs) (read_answer (decode bs))
defined (composing xs ys) =
    built_or_refused (compose_refusal xs ys max_bytes max_origins max_states)
    (write_answer (composed (decode xs) (decode ys)).result (origin_pairs (composed (decode xs) (decode ys)).steps))
defined (applying cs bs) =
    built_or_refused (apply_refusal cs bs max_bytes max_arcs max_states) (write_answer (lattice cs (decode bs)) (lattice_origins cs (decode bs)))
defined (counting bs) = or_refused kept (count_refusal bs) (counts (path_count (decode bs)))
defined (kth_path bs k) = or_refused kept (nth_refusal bs k max_path max_path) (path_answer (decode bs) (nth_path (decode bs) k))
defined (shortest_path bs) = or_refused kept (shortest_refusal bs max_path max_path) (path_answer (decode bs) (shortest (decode bs)))
defined (listing xs ys cs) = lists (listing_refusal xs ys cs) (text_of xs ys cs)
defined (distances bs) = or_refused kept (costs_refusal bs max_states) (cells_told (costs_to_come (decode bs)))

-- The cases of a table hold: what the definitions give is what the table says, row by row.
abbrev pub AllHold : List Case → Type 0
AllHold cs = map (λ c. defined c.call) cs ≡ map (λ c. c.answer) cs
