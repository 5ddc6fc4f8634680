-- Inverting: its paths are those of the transducer, with what they read and write exchanged; it can be written if no arc bears 65,535; and inverting twice
-- changes nothing. Assumes nothing.
use mathlib.Core.Path.{◌≡◌, refl, ap, ◌∙◌}
use mathlib.Core.Bool.{Bool, true, false, ◌&&◌}
use mathlib.Core.List.{List, [], ◌∷◌, map}
use Prim.Native.Nat.{ℕ}
use native.Mathlib.Omega.{arith}
use lib.Dec.{ltb, eqb}
use lib.ListN.{length, length-map, get_or-map}
use Rattle.wire.specs.Bytes.{Bytes, every}
use Rattle.transducer.specs.declared.Arc.{Arc}
use Rattle.transducer.specs.Format.{Transducer, Good, refusal, decode, any, head_good, content_refusal, first_of}
use Rattle.transducer.specs.Format.{states_good, sources_stay, order_good, labels_good, all_labels_good, weight_good, weights_good}
use Rattle.transducer.specs.Path.{arc, no_arc, runs, ends, accepts, read_by, written_by, arcs_cost, path_cost}
use Rattle.transducer.proofs.RoundTrip.{accepted_good}
use borrow.Author.Tests.{ne_eqb, ltb-true}
use Rattle.wire.proofs.Bool.{and-true}
use Rattle.transducer.specs.Each.{has_no_any_input, plain}
use Rattle.transducer.proofs.Good.{good_tests}
use Rattle.transducer.proofs.Fits.{named_plain}
use Rattle.derived.specs.Inverted.{inverted_arc, inverted}

every_map : {A B : Type 0} (f : B → Bool) (g : A → B) (xs : List A) → every f (map g xs) ≡ every (λ x. f (g x)) xs
unfolding every
every_map f g [] = refl
every_map f g (x ∷ xs) = rw (every_map f g xs)

arc_twice : (a : Arc) → inverted_arc (inverted_arc a) ≡ a
unfolding inverted_arc
arc_twice a = refl

arcs_twice : (xs : List Arc) → map inverted_arc (map inverted_arc xs) ≡ xs
arcs_twice [] = refl
arcs_twice (a ∷ as') = rw (arc_twice a, arcs_twice as')

-- Inverting twice gives the first transducer.
pub inverted_twice : (t : Transducer) → inverted (inverted t) ≡ t
unfolding inverted
inverted_twice t =
    ap (λ (xs : List Arc). record { states = t.states; start = t.start; finals = t.finals; arcs = xs }) (arcs_twice t.arcs)

-- Paths

pub arc_inverted : (t : Transducer) (i : ℕ) → arc (inverted t) i ≡ inverted_arc (arc t i)
unfolding arc inverted inverted_arc
arc_inverted t i = get_or-map inverted_arc t.arcs i no_arc

length_inverted : (t : Transducer) → length (inverted t).arcs ≡ length t.arcs
unfolding inverted
length_inverted t = length-map t.arcs inverted_arc

source_inverted : (t : Transducer) (i : ℕ) → (arc (inverted t) i).source ≡ (arc t i).source
unfolding inverted_arc
source_inverted t i = ap (λ (a : Arc). a.source) (arc_inverted t i)

target_inverted : (t : Transducer) (i : ℕ) → (arc (inverted t) i).target ≡ (arc t i).target
unfolding inverted_arc
target_inverted t i = ap (λ (a : Arc). a.target) (arc_inverted t i)

weight_inverted : (t : Transducer) (i : ℕ) → (arc (inverted t) i).weight ≡ (arc t i).weight
unfolding inverted_arc
weight_inverted t i = ap (λ (a : Arc). a.weight) (arc_inverted t i)

input_inverted : (t : Transducer) (i : ℕ) → (arc (inverted t) i).input ≡ (arc t i).output
unfolding inverted_arc
input_inverted t i = ap (λ (a : Arc). a.input) (arc_inverted t i)

output_inverted : (t : Transducer) (i : ℕ) → (arc (inverted t) i).output ≡ (arc t i).input
unfolding inverted_arc
output_inverted t i = ap (λ (a : Arc). a.output) (arc_inverted t i)

runs_inverted : (t : Transducer) (s : ℕ) (p : List ℕ) → runs (inverted t) s p ≡ runs t s p
unfolding runs
runs_inverted t s [] = refl
runs_inverted t s (i ∷ p) = rw (length_inverted t, source_inverted t i, target_inverted t i, runs_inverted t (arc t i).target p)

ends_inverted : (t : Transducer) (s : ℕ) (p : List ℕ) → ends (inverted t) s p ≡ ends t s p
unfolding ends
ends_inverted t s [] = refl
ends_inverted t s (i ∷ p) = rw (target_inverted t i, ends_inverted t (arc t i).target p)

-- A path is accepting before and after, reads what it wrote and writes what it read, at the same cost.
pub accepts_inverted : (t : Transducer) (p : List ℕ) → accepts (inverted t) p ≡ accepts t p
unfolding accepts inverted
accepts_inverted t p = rw (runs_inverted t t.start p, ends_inverted t t.start p)

pub reads_inverted : (t : Transducer) (p : List ℕ) → read_by (inverted t) p ≡ written_by t p
unfolding read_by written_by
reads_inverted t [] = refl
reads_inverted t (i ∷ p) = rw (input_inverted t i, reads_inverted t p)

pub writes_inverted : (t : Transducer) (p : List ℕ) → written_by (inverted t) p ≡ read_by t p
unfolding read_by written_by
writes_inverted t [] = refl
writes_inverted t (i ∷ p) = rw (output_inverted t i, writes_inverted t p)

arcs_cost_inverted : (t : Transducer) (p : List ℕ) → arcs_cost (inverted t) p ≡ arcs_cost t p
unfolding arcs_cost
arcs_cost_inverted t [] = refl
arcs_cost_inverted t (i ∷ p) = rw (weight_inverted t i, arcs_cost_inverted t p)

pub costs_inverted : (t : Transducer) (p : List ℕ) → path_cost (inverted t) p ≡ path_cost t p
unfolding path_cost inverted
costs_inverted t p = rw (arcs_cost_inverted t p, ends_inverted t t.start p)

-- Bytes

stay_inverted : (floor : ℕ) (xs : List Arc) → sources_stay floor (map inverted_arc xs) ≡ sources_stay floor xs
unfolding sources_stay inverted_arc
stay_inverted floor [] = refl
stay_inverted floor (a ∷ as') = rw (stay_inverted a.source as')

states_inverted : (t : Transducer) → states_good (inverted t) ≡ states_good t
unfolding states_good inverted inverted_arc
states_inverted t = rw (every_map (λ (a : Arc). ltb a.source t.states && ltb a.target t.states) inverted_arc t.arcs)

order_inverted : (t : Transducer) → order_good (inverted t) ≡ order_good t
unfolding order_good inverted
order_inverted t = rw (stay_inverted 0 t.arcs)

weights_inverted : (t : Transducer) → weights_good (inverted t) ≡ weights_good t
unfolding weights_good inverted inverted_arc
weights_inverted t = rw (every_map (λ (a : Arc). weight_good a.weight) inverted_arc t.arcs)

-- An arc that bears no 65,535 is good either way round.
labels_of : (xs : List Arc) → every (λ a. ltb a.input any && ltb a.output any) xs ≡ true
    → every (λ a. labels_good a.input a.output) (map inverted_arc xs) ≡ true
unfolding every labels_good inverted_arc
labels_of [] h = refl
labels_of (a ∷ as') h =
    let p = and-true (ltb a.input any && ltb a.output any) (every (λ b. ltb b.input any && ltb b.output any) as') h in
    let q = and-true (ltb a.input any) (ltb a.output any) p.0 in
    let n : eqb a.output any ≡ false = ne_eqb a.output any (λ e. omega (arith, ltb-true a.output any q.1, e)) in
    rw (n, q.0, q.1, labels_of as' p.1)

plain_of : (xs : List Arc) → every (λ a. ltb a.input any && ltb a.output any) xs ≡ true
    → every (λ a. ltb a.input any && ltb a.output any) (map inverted_arc xs) ≡ true
unfolding every inverted_arc
plain_of [] h = refl
plain_of (a ∷ as') h =
    let p = and-true (ltb a.input any && ltb a.output any) (every (λ b. ltb b.input any && ltb b.output any) as') h in
    let q = and-true (ltb a.input any) (ltb a.output any) p.0 in
    rw (q.0, q.1, plain_of as' p.1)

-- If no arc bears 65,535, none does inverted.
pub plain_inverted : (t : Transducer) → plain t ≡ true → plain (inverted t) ≡ true
unfolding plain inverted
plain_inverted t h = plain_of t.arcs h

head_inverted : (t : Transducer) → head_good (inverted t).states (length (inverted t).arcs) (length (inverted t).finals) (inverted t).start
    ≡ head_good t.states (length t.arcs) (length t.finals) t.start
unfolding inverted
head_inverted t = rw (length-map t.arcs inverted_arc)

labels_arcs : (t : Transducer) → plain t ≡ true → every (λ a. labels_good a.input a.output) (inverted t).arcs ≡ true
unfolding plain inverted
labels_arcs t h = labels_of t.arcs h

pub inverted_good : (t : Transducer) → Good t → plain t ≡ true → Good (inverted t)
unfolding content_refusal first_of all_labels_good plain
inverted_good t g none =
    let c = good_tests t g in
    let l : every (λ a. labels_good a.input a.output) (inverted t).arcs ≡ true = labels_arcs t none in
    record {
      head = head_inverted t ∙ g.head;
      content = rw (states_inverted t, order_inverted t, weights_inverted t, c.states, c.order, c.weights, l);
    }

-- What `invert_into` asks of accepted bytes is enough.
pub inverted_accepted : (bs : List ℕ) → Bytes bs → refusal bs ≡ 0 → has_no_any_input (decode bs) ≡ true → Good (inverted (decode bs))
inverted_accepted bs b h none =
    let g : Good (decode bs) = accepted_good bs b h in
    inverted_good (decode bs) g (named_plain (decode bs) (good_tests (decode bs) g).labels none)
