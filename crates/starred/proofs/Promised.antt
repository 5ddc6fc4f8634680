-- The calls promise what the definitions give, for buffers of any sufficient lengths; so each case of the table is what its call answers.
--     promises_defined     the contract of a call gives the answer by the definitions
--     all_promised         and so, for each row of the table, the answer of that row
-- Assumes nothing.
use mathlib.Core.Path.{◌≡◌, refl, sym, subst, ap, ◌∙◌}
use mathlib.Core.Bool.{Bool, true, false, cond}
use mathlib.Core.List.{List, [], ◌∷◌}
use Prim.Native.Nat.{ℕ, ◌≤◌}
use native.Mathlib.Nat.{sub-zero}
use borrow.Author.Tests.{le-ltb, eqb-true}
use lib.Dec.{eqb}
use lib.ListN.{length, get_or, drop}
use Rattle.wire.specs.Bytes.{filled, signed_filled}
use Rattle.transducer.specs.Answer.{Written}
use Rattle.transducer.specs.Format.{max_arcs, max_bytes, max_fields, max_origins, max_path, max_states, Transducer, decode}
use Rattle.transducer.specs.Encode.{encode}
use Rattle.transducer.specs.Entry.{unless, cost_unless, left_in, weights_left_in}
use Rattle.transducer.specs.Weight.{Weight, no_weight}
use Rattle.codec.specs.Entry.{read_room, read_refusal, ReadSays}
use Rattle.explore.specs.Explore.{keeps, left_behind, BuiltSays}
use Rattle.compose.specs.Compose.{composed}
use Rattle.compose.specs.Entry.{compose_room, compose_refusal, ComposeSays, origin_pairs}
use Rattle.lattice.specs.Lattice.{lattice, lattice_origins}
use Rattle.lattice.specs.ApplyEntry.{apply_room, apply_refusal, ApplySays}
use Rattle.paths.specs.Count.{path_count, nth_path}
use Rattle.report.specs.Answer.{Told}
use Rattle.report.specs.Tell.{PathTold}
use Rattle.paths.specs.Entry.{count_refusal, nth_refusal, NthSays}
use Rattle.distance.specs.Entry.{costs_to_come, costs_refusal, CostsSay}
use Rattle.shortest.specs.Shortest.{shortest}
use Rattle.shortest.specs.Entry.{shortest_refusal, ShortestSays}
use Rattle.listing.specs.Entry.{text_room, ListingSays}
use Rattle.starred.specs.Answer.{Call, Left, Answer, Case, AllHold, refused, refused_leaving, counts, cells_told, or_refused, built_or_refused}
use Rattle.starred.specs.Answer.{read_answer, write_answer, path_answer, defined}
use Rattle.starred.specs.Answer.Call.{reading, composing, applying, counting, kth_path, shortest_path, listing, distances}
use Rattle.starred.specs.Answer.Left.{written, kept, zeros}
use Rattle.starred.specs.Promise.{number, buffer, weights, after, numbers_after, weights_after, TellsAs, WritesAs, Promises, AllPromised}
use Rattle.starred.specs.Cases.{cases}
use Rattle.starred.proofs.AllHold.{all_hold}

-- An answer unless refused: its refusal, its numbers, its cost.

refusal_of : (l : Left) (n : ℕ) (y : Answer) → y.refusal ≡ 0 → n ≡ (or_refused l n y).refusal
unfolding or_refused
refusal_of l n y h = on (eqb n 0) refl
  where
    on : (b : Bool) → eqb n 0 ≡ b → n ≡ (cond b y (refused_leaving l n)).refusal
    on true e = eqb-true n 0 e ∙ sym h
    on false e = refl

number_of : (l : Left) (n : ℕ) (y : Answer) (i : ℕ) → unless n (number y i) ≡ number (or_refused l n y) i
unfolding or_refused unless number
number_of l n y i = on (eqb n 0)
  where
    on : (b : Bool) → cond b (number y i) 0 ≡ number (cond b y (refused_leaving l n)) i
    on true = refl
    on false = refl

cost_of : (l : Left) (n : ℕ) (y : Answer) → cost_unless n y.cost ≡ (or_refused l n y).cost
unfolding or_refused cost_unless
cost_of l n y = on (eqb n 0)
  where
    on : (b : Bool) → cond b y.cost no_weight ≡ (cond b y (refused_leaving l n)).cost
    on true = refl
    on false = refl

-- What is left in a buffer, for each definition of it that the contracts cite: a refusal keeps it, but for those of a call that builds which leave zeros.

left_in_of : (n : ℕ) (y : Answer) (i : ℕ) (before : List ℕ) → y.left ≡ written → left_in n before (buffer y i) ≡ numbers_after (or_refused kept n y) i before
unfolding or_refused left_in filled after
left_in_of n y i before h = on (eqb n 0)
  where
    on : (b : Bool)
        → cond b (filled (length before) (buffer y i)) before
        ≡ after 0 (cond b y (refused n)).left before (buffer (cond b y (refused n)) i)
    on true = rw h refl
    on false = refl

weights_left_in_of : (n : ℕ) (y : Answer) (i : ℕ) (before : List Weight) → y.left ≡ written
    → weights_left_in n before (weights y i) ≡ weights_after (or_refused kept n y) i before
unfolding or_refused weights_left_in signed_filled after
weights_left_in_of n y i before h = on (eqb n 0)
  where
    on : (b : Bool)
        → cond b (signed_filled (length before) (weights y i)) before
        ≡ after no_weight (cond b y (refused n)).left before (weights (cond b y (refused n)) i)
    on true = rw h refl
    on false = refl

-- `from` is what the buffer gets of an answer that is no refusal.
left_behind_of : (n : ℕ) (y : Answer) (from : Answer → List ℕ) (before : List ℕ) → y.left ≡ written
    → left_behind n before (from y) ≡ after 0 (built_or_refused n y).left before (from (built_or_refused n y))
unfolding or_refused built_or_refused left_behind filled after
left_behind_of n y from before h = on (eqb n 0) (keeps n)
  where
    on : (b k : Bool)
        → cond b (filled (length before) (from y)) (cond k before (filled (length before) []))
        ≡ after 0 (cond b y (refused_leaving (cond k kept zeros) n)).left before (from (cond b y (refused_leaving (cond k kept zeros) n)))
    on true k = rw h refl
    on false true = refl
    on false false = rw sub-zero refl

-- Sufficient lengths, all alike: 10 does not hold.

read_enough : (bs : List ℕ) (a b c d : ℕ) → max_states ≤ a → max_states ≤ b → max_fields ≤ c → max_arcs ≤ d
    → read_refusal bs a b c d ≡ read_refusal bs max_states max_states max_fields max_arcs
unfolding read_refusal read_room
read_enough bs a b c d ha hb hc hd = rw (le-ltb a max_states ha, le-ltb b max_states hb, le-ltb c max_fields hc, le-ltb d max_arcs hd) refl

compose_enough : (xs ys : List ℕ) (a b c : ℕ) → max_bytes ≤ a → max_origins ≤ b → max_states ≤ c
    → compose_refusal xs ys a b c ≡ compose_refusal xs ys max_bytes max_origins max_states
unfolding compose_refusal compose_room
compose_enough xs ys a b c ha hb hc = rw (le-ltb a max_bytes ha, le-ltb b max_origins hb, le-ltb c max_states hc) refl

apply_enough : (cs bs : List ℕ) (a b c : ℕ) → max_bytes ≤ a → max_arcs ≤ b → max_states ≤ c
    → apply_refusal cs bs a b c ≡ apply_refusal cs bs max_bytes max_arcs max_states
unfolding apply_refusal apply_room
apply_enough cs bs a b c ha hb hc = rw (le-ltb a max_bytes ha, le-ltb b max_arcs hb, le-ltb c max_states hc) refl

nth_enough : (bs : List ℕ) (k a b : ℕ) → max_path ≤ a → max_path ≤ b → nth_refusal bs k a b ≡ nth_refusal bs k max_path max_path
unfolding nth_refusal
nth_enough bs k a b ha hb = rw (le-ltb a max_path ha, le-ltb b max_path hb) refl

shortest_enough : (bs : List ℕ) (a b : ℕ) → max_path ≤ a → max_path ≤ b → shortest_refusal bs a b ≡ shortest_refusal bs max_path max_path
unfolding shortest_refusal
shortest_enough bs a b ha hb = rw (le-ltb a max_path ha, le-ltb b max_path hb) refl

-- Each contract, with the number by which its call is refused.

read_promised : (bs : List ℕ) → Promises (reading bs) (defined (reading bs))
unfolding Promises defined number buffer weights read_answer
read_promised bs r a a' b b' c c' d d' ha hb hc hd says =
    let n = read_refusal bs max_states max_states max_fields max_arcs in
    let y = read_answer (decode bs) in
    let e = read_enough bs (length a) (length b) (length c) (length d) ha hb hc hd in
    let told = subst (λ (m : ℕ). ReadSays bs m r a a' b b' c c' d d') e says in
    record {
      refusal = told.refusal_is ∙ refusal_of kept n y refl;
      states = told.states_is ∙ number_of kept n y 0;
      arcs = told.arcs_is ∙ number_of kept n y 1;
      finals = told.finals_is ∙ number_of kept n y 2;
      start = told.start_is ∙ number_of kept n y 3;
      final_states = told.final_states ∙ left_in_of n y 0 a refl;
      final_weights = told.final_weights ∙ weights_left_in_of n y 0 b refl;
      fields = told.fields ∙ left_in_of n y 1 c refl;
      arc_weights = told.arc_weights ∙ weights_left_in_of n y 1 d refl;
    }

-- Two calls write a transducer with its origins.
written_as : (n : ℕ) (t : Transducer) (os : List ℕ) {r : Written} {a a' b b' c c' : List ℕ} → BuiltSays (encode t) os n r a a' b b' c c'
    → WritesAs (built_or_refused n (write_answer t os)) r a a' b b' c c'
unfolding built_or_refused number buffer write_answer
written_as n t os {a = a} {b = b} {c = c} says =
    let y = write_answer t os in
    let l = cond (keeps n) kept zeros in
    record {
      refusal = says.refusal_is ∙ refusal_of l n y refl;
      length_told = says.len_is ∙ number_of l n y 0;
      table = says.table ∙ left_behind_of n y (λ x. buffer x 0) a refl;
      origins = says.origins ∙ left_behind_of n y (λ x. buffer x 1) b refl;
      work = says.work ∙ left_behind_of n y (λ x. []) c refl;
    }

compose_promised : (xs ys : List ℕ) → Promises (composing xs ys) (defined (composing xs ys))
unfolding Promises defined
compose_promised xs ys r a a' b b' c c' ha hb hc says =
    let z = composed (decode xs) (decode ys) in
    written_as (compose_refusal xs ys max_bytes max_origins max_states) z.result (origin_pairs z.steps)
    (subst (λ (m : ℕ). ComposeSays xs ys m r a a' b b' c c') (compose_enough xs ys (length a) (length b) (length c) ha hb hc) says)

apply_promised : (cs bs : List ℕ) → Promises (applying cs bs) (defined (applying cs bs))
unfolding Promises defined
apply_promised cs bs r a a' b b' c c' ha hb hc says =
    written_as (apply_refusal cs bs max_bytes max_arcs max_states) (lattice cs (decode bs)) (lattice_origins cs (decode bs))
    (subst (λ (m : ℕ). ApplySays cs bs m r a a' b b' c c') (apply_enough cs bs (length a) (length b) (length c) ha hb hc) says)

count_promised : (bs : List ℕ) → Promises (counting bs) (defined (counting bs))
unfolding Promises defined number
count_promised bs r says =
    let n = count_refusal bs in
    let y = counts (path_count (decode bs)) in
    record { refusal = says.refusal_is ∙ refusal_of kept n y refl; count = says.count_is ∙ number_of kept n y 0 }

-- Two calls tell a path.
told_as : (n : ℕ) (t : Transducer) (p : List ℕ) {r : Told} {a a' b b' : List ℕ} → PathTold t p n r a a' b b'
    → TellsAs (or_refused kept n (path_answer t p)) r a a' b b'
unfolding number buffer path_answer
told_as n t p {a = a} {b = b} says =
    let y = path_answer t p in
    record {
      refusal = says.refusal_is ∙ refusal_of kept n y refl;
      cost = says.cost_is ∙ cost_of kept n y;
      arc_count = says.arcs_is ∙ number_of kept n y 0;
      label_count = says.labels_is ∙ number_of kept n y 1;
      arcs = says.arcs ∙ left_in_of n y 0 a refl;
      labels = says.labels ∙ left_in_of n y 1 b refl;
    }

nth_promised : (bs : List ℕ) (k : ℕ) → Promises (kth_path bs k) (defined (kth_path bs k))
unfolding Promises defined
nth_promised bs k r a a' b b' ha hb says =
    told_as (nth_refusal bs k max_path max_path) (decode bs) (nth_path (decode bs) k)
    (subst (λ (m : ℕ). NthSays bs k m r a a' b b') (nth_enough bs k (length a) (length b) ha hb) says)

shortest_promised : (bs : List ℕ) → Promises (shortest_path bs) (defined (shortest_path bs))
unfolding Promises defined
shortest_promised bs r a a' b b' ha hb says =
    told_as (shortest_refusal bs max_path max_path) (decode bs) (shortest (decode bs))
    (subst (λ (m : ℕ). ShortestSays bs m r a a' b b') (shortest_enough bs (length a) (length b) ha hb) says)

text_enough : (room : ℕ) → 602996 ≤ room → text_room room ≡ 0
unfolding text_room
text_enough room h = rw (le-ltb room 602996 h) refl

listing_promised : (xs ys cs : List ℕ) → Promises (listing xs ys cs) (defined (listing xs ys cs))
unfolding Promises defined number buffer unless left_in filled after
listing_promised xs ys cs r out out' h says =
    let told = subst (λ (m : ℕ). ListingSays xs ys cs m r out out') (text_enough (length out) h) says in
    record { refusal = told.refusal_is; length_told = told.len_is; said = told.said_is; text = told.text }

costs_enough : (bs : List ℕ) (a : ℕ) → max_states ≤ a → costs_refusal bs a ≡ costs_refusal bs max_states
unfolding costs_refusal
costs_enough bs a h = rw (le-ltb a max_states h) refl

costs_promised : (bs : List ℕ) → Promises (distances bs) (defined (distances bs))
unfolding Promises defined weights
costs_promised bs r cells cells' h says =
    let n = costs_refusal bs max_states in
    let y = cells_told (costs_to_come (decode bs)) in
    let told = subst (λ (m : ℕ). CostsSay bs m r cells cells') (costs_enough bs (length cells) h) says in
    record { refusal = told.refusal_is ∙ refusal_of kept n y refl; cells_left = told.cells_are ∙ weights_left_in_of n y 0 cells refl }

promises_defined : (k : Call) → Promises k (defined k)
promises_defined (reading bs) = read_promised bs
promises_defined (composing xs ys) = compose_promised xs ys
promises_defined (applying cs bs) = apply_promised cs bs
promises_defined (counting bs) = count_promised bs
promises_defined (kth_path bs k) = nth_promised bs k
promises_defined (shortest_path bs) = shortest_promised bs
promises_defined (listing xs ys cs) = listing_promised xs ys cs
promises_defined (distances bs) = costs_promised bs

-- So is each row of a table that holds.

pub hold_promised : (cs : List Case) → AllHold cs → AllPromised cs
unfolding AllPromised
hold_promised [] h = tt
hold_promised (c ∷ cs) h = (
  subst (λ (x : Answer). Promises c.call x) (ap (λ (xs : List Answer). get_or xs 0 (refused 0)) h) (promises_defined c.call),
  hold_promised cs (ap (λ (xs : List Answer). drop 1 xs) h),
)

pub all_promised : (x y z : ℕ) → AllPromised (cases x y z)
all_promised x y z = hold_promised (cases x y z) (all_hold x y z)
