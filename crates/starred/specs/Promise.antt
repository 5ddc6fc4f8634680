-- What the calls promise comes to the cases: whatever a call answers and leaves behind by its contract, lent buffers of at least the
-- least lengths, is the answer of a case. Assumes nothing: these are definitions.
use Rattle.std.specs.Prelude.{◌≡◌, List, [], ◌∷◌, ◌++◌, ℕ, ◌-◌, ◌≤◌, length, get_or, replicate}
use Rattle.transducer.specs.Answer.{Header}
use Rattle.transducer.specs.Answer.{Written}
use Rattle.transducer.specs.Format.{max_states, max_arcs, max_fields, max_origins, max_bytes, max_path}
use Rattle.transducer.specs.Weight.{Weight, no_weight}
use Rattle.codec.specs.Entry.{read_refusal, ReadSays}
use Rattle.compose.specs.Entry.{compose_refusal, ComposeSays}
use Rattle.lattice.specs.ApplyEntry.{apply_refusal, ApplySays}
use Rattle.paths.specs.Answer.{Counted}
use Rattle.report.specs.Answer.{Told}
use Rattle.paths.specs.Entry.{count_refusal, CountSays, nth_refusal, NthSays}
use Rattle.distance.specs.Entry.{costs_refusal, CostsSay}
use Rattle.shortest.specs.Entry.{shortest_refusal, ShortestSays}
use Rattle.listing.specs.Answer.{Listed}
use Rattle.listing.specs.Text.{least_room}
use Rattle.listing.specs.Entry.{text_room, ListingSays}
use Rattle.starred.specs.Answer.{Call, Left, Answer, Case}
use Rattle.starred.specs.Answer.Call.{reading, composing, applying, counting, kth_path, shortest_path, listing, distances}
use Rattle.starred.specs.Answer.Left.{written, kept, zeros}

-- The i-th of the other numbers of an answer, and what is written to the i-th buffer; 0 and nothing on refusal.
unfoldable pub number : Answer → (i : ℕ) → ℕ
number x i = get_or x.numbers i 0

unfoldable pub buffer : Answer → (i : ℕ) → List ℕ
buffer x i = get_or x.buffers i []

unfoldable pub weights : Answer → (i : ℕ) → List Weight
weights x i = get_or x.weights i []

-- What a lent buffer holds after the call, by what it held before and what is written. This does not use the definitions that the contracts cite
-- (`left_in`, `left_behind`): a row says by itself what is left in the buffers, so that it refuses these if they are misread.
unfoldable pub after : {A : Type 0} → (blank : A) → Left → (before xs : List A) → List A
after blank written before xs = xs ++ replicate (length before - length xs) blank
after blank kept before xs = before
after blank zeros before xs = replicate (length before) blank

abbrev pub numbers_after : Answer → (i : ℕ) → (before : List ℕ) → List ℕ
numbers_after x i before = after 0 x.left before (buffer x i)

abbrev pub weights_after : Answer → (i : ℕ) → (before : List Weight) → List Weight
weights_after x i before = after no_weight x.left before (weights x i)

-- A path told: its cost, how many arcs and labels it has, and both.
pub record TellsAs (x : Answer) (r : Told) (a a' b b' : List ℕ) : Type 0 where
  pub refusal : r.refusal ≡ x.refusal
  pub cost : r.cost ≡ x.cost
  pub arc_count : r.arcs ≡ number x 0
  pub label_count : r.labels ≡ number x 1
  pub arcs : a' ≡ numbers_after x 0 a
  pub labels : b' ≡ numbers_after x 1 b

-- A transducer written with its origins, and a buffer lent only to work in.
pub record WritesAs (x : Answer) (r : Written) (a a' b b' c c' : List ℕ) : Type 0 where
  pub refusal : r.refusal ≡ x.refusal
  pub length_told : r.len ≡ number x 0
  pub table : a' ≡ numbers_after x 0 a
  pub origins : b' ≡ numbers_after x 1 b
  pub work : c' ≡ after 0 x.left c []

pub record DecodesAs (x : Answer) (r : Header) (a a' : List ℕ) (b b' : List Weight) (c c' : List ℕ) (d d' : List Weight) : Type 0 where
  pub refusal : r.refusal ≡ x.refusal
  pub states : r.states ≡ number x 0
  pub arcs : r.arcs ≡ number x 1
  pub finals : r.finals ≡ number x 2
  pub start : r.start ≡ number x 3
  pub final_states : a' ≡ numbers_after x 0 a
  pub final_weights : b' ≡ weights_after x 0 b
  pub fields : c' ≡ numbers_after x 1 c
  pub arc_weights : d' ≡ weights_after x 1 d

pub record CountsAs (x : Answer) (r : Counted) : Type 0 where
  pub refusal : r.refusal ≡ x.refusal
  pub count : r.count ≡ number x 0

pub record ListsAs (x : Answer) (r : Listed) (out out' : List ℕ) : Type 0 where
  pub refusal : r.refusal ≡ x.refusal
  pub length_told : r.len ≡ number x 0
  pub said : r.said ≡ number x 1
  pub text : out' ≡ numbers_after x 0 out

pub record CostsAs (x : Answer) (r : ℕ) (cells cells' : List Weight) : Type 0 where
  pub refusal : r ≡ x.refusal
  pub cells_left : cells' ≡ weights_after x 0 cells

unfoldable pub Promises : Call → Answer → Type 0
Promises (reading bs) x =
    (r : Header) (a a' : List ℕ) (b b' : List Weight) (c c' : List ℕ) (d d' : List Weight) → max_states ≤ length a → max_states ≤ length b
    → max_fields ≤ length c → max_arcs ≤ length d
    → ReadSays bs (read_refusal bs (length a) (length b) (length c) (length d)) r a a' b b' c c' d d' → DecodesAs x r a a' b b' c c' d d'
Promises (composing xs ys) x =
    (r : Written) (a a' b b' c c' : List ℕ) → max_bytes ≤ length a → max_origins ≤ length b → max_states ≤ length c
    → ComposeSays xs ys (compose_refusal xs ys (length a) (length b) (length c)) r a a' b b' c c' → WritesAs x r a a' b b' c c'
Promises (applying cs bs) x =
    (r : Written) (a a' b b' c c' : List ℕ) → max_bytes ≤ length a → max_arcs ≤ length b → max_states ≤ length c
    → ApplySays cs bs (apply_refusal cs bs (length a) (length b) (length c)) r a a' b b' c c' → WritesAs x r a a' b b' c c'
Promises (counting bs) x = (r : Counted) → CountSays bs (count_refusal bs) r → CountsAs x r
Promises (kth_path bs k) x =
    (r : Told) (a a' b b' : List ℕ) → max_path ≤ length a → max_path ≤ length b → NthSays bs k (nth_refusal bs k (length a) (length b)) r a a' b b'
    → TellsAs x r a a' b b'
Promises (shortest_path bs) x =
    (r : Told) (a a' b b' : List ℕ) → max_path ≤ length a → max_path ≤ length b → ShortestSays bs (shortest_refusal bs (length a) (length b)) r a a' b b'
    → TellsAs x r a a' b b'
Promises (listing xs ys cs) x =
    (r : Listed) (out out' : List ℕ) → least_room ≤ length out → ListingSays xs ys cs (text_room (length out)) r out out' → ListsAs x r out out'
Promises (distances bs) x =
    (r : ℕ) (cells cells' : List Weight) → max_states ≤ length cells → CostsSay bs (costs_refusal bs (length cells)) r cells cells' → CostsAs x r cells cells'

-- The cases of a table are what their calls promise.
unfoldable pub AllPromised : List Case → Type 0
AllPromised [] = Unit
AllPromised (c ∷ cs) = Promises c.call c.answer × AllPromised cs
