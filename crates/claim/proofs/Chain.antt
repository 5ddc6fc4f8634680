-- A lattice behind a transducer whose paths are known, and the composition's pairs, put one behind the other. Assumes nothing.
use mathlib.Core.Path.{◌≡◌, sym, ap, ◌∙◌}
use mathlib.Core.Bool.{true}
use mathlib.Core.List.{List}
use Prim.Native.Nat.{ℕ}
use Rattle.transducer.specs.Format.{Transducer, decode}
use Rattle.transducer.specs.Path.{accepts, read_by, written_by, path_cost}
use Rattle.transducer.specs.Each.{path_passed, plain}
use Rattle.transducer.specs.Weight.{plus}
use Rattle.compose.specs.Claim.{met_at, TwoPaths, OneToOne, Pair as Composed-pair, StandsFor as Composed-stands}
use Rattle.trim.specs.Trim.{through}
use Rattle.lattice.specs.Lattice.{ReadsAs, ReadsOneToOne}
use Rattle.lattice.proofs.Plain.{reads_string, writes_same, every_reading}
use Rattle.claim.specs.Kind.{Kind, those, StandsFor, PathsAre}
use Rattle.claim.specs.Claim.{Pair, Pairs, to_pair}

-- A lattice behind a transducer without 65,535 whose paths are of a kind: its paths are those of the kind that read the string.
module _ (K : Kind) (OfString : K.Thing → Type 0) (cs : List ℕ) (these : (x : K.Thing) → K.Is x → K.input x ≡ cs → OfString x)
    (are_these : (x : K.Thing) → OfString x → K.Is x × (K.input x ≡ cs)) (z w : Transducer) (ls : List ℕ) (to : List ℕ → K.Thing)
    (are : PathsAre K z to) (none : plain z ≡ true) (reads : ReadsOneToOne cs z w ls) where
  leads : (p : List ℕ) → accepts w p ≡ true → StandsFor (those K OfString) w p (to (through ls p))
  leads p h =
      let r : ReadsAs cs z w p (through ls p) = reads.leads p h in
      let s : StandsFor K z (through ls p) (to (through ls p)) = are.leads (through ls p) r.accepting in
      let whole : read_by z (through ls p) ≡ cs = reads_string cs z w none p (through ls p) r in
      record {
        is = these (to (through ls p)) s.is (sym s.reads ∙ whole);
        reads = r.same_input ∙ sym whole ∙ s.reads;
        writes = writes_same cs z w none p (through ls p) r ∙ s.writes;
        costs = r.same_cost ∙ s.costs;
      }

  never_two : (p q : List ℕ) → accepts w p ≡ true → accepts w q ≡ true → to (through ls p) ≡ to (through ls q) → p ≡ q
  never_two p q h k e =
      reads.never_two p q h k (are.never_two (through ls p) (through ls q) (reads.leads p h).accepting (reads.leads q k).accepting e)

  every : (x : K.Thing) → OfString x → (p : List ℕ) × (accepts w p ≡ true) × (to (through ls p) ≡ x)
  every x h =
      let i = are_these x h in
      let q = are.every x i.0 in
      let s : StandsFor K z q.0 x = rw q.2 at (are.leads q.0 q.1) in
      let whole : read_by z q.0 ≡ cs = s.reads ∙ i.1 in
      let p = every_reading cs z w none ls reads q.0 q.1 whole in
      (p.0, p.1, ap to p.2 ∙ q.2)

  pub lattice_paths : PathsAre (those K OfString) w (λ p. to (through ls p))
  lattice_paths = record { leads = leads; never_two = never_two; every = every }

-- The pairs of a composition, as a kind.
abbrev ComposedPairs : (t u : Transducer) → Kind
ComposedPairs t u =
    record {
      Thing = TwoPaths;
      Is = λ x. Composed-pair t u x.left x.right;
      input = λ x. read_by t x.left;
      output = λ x. path_passed u (written_by t x.left) x.right;
      cost = λ x. plus (path_cost t x.left) (path_cost u x.right);
    }

abbrev met : (origins path : List ℕ) → TwoPaths
met os p = record { left = met_at os 0 p; right = met_at os 1 p }

composed_paths : (t u z : Transducer) (os : List ℕ) → OneToOne t u z os → PathsAre (ComposedPairs t u) z (met os)
composed_paths t u z os one =
    record {
      leads =
          λ p h. let s : Composed-stands t u z p (met_at os 0 p) (met_at os 1 p) = one.leads p h in
          record { is = s.pair; reads = s.reads; writes = s.writes; costs = s.costs };
      never_two = λ p q h k e. one.never_two p q h k (ap (λ (x : TwoPaths). x.left) e) (ap (λ (x : TwoPaths). x.right) e);
      every =
          λ x pair. let q = one.every x.left x.right pair in
          (q.0, q.1, λ i. record { left = q.2 i; right = q.3 i });
    }

pub chain_pairs : (xs ys cs : List ℕ) (z w : Transducer) (os ls : List ℕ) → OneToOne (decode xs) (decode ys) z os → plain z ≡ true
    → ReadsOneToOne cs z w ls → PathsAre (Pairs xs ys cs) w (to_pair os ls)
unfolding to_pair
chain_pairs xs ys cs z w os ls one none reads =
    lattice_paths (ComposedPairs (decode xs) (decode ys)) (Pair xs ys cs) cs
    (λ x p h. record { left_accepts = p.left_accepts; left_reads = h; right_accepts = p.right_accepts; meets = p.meets })
    (λ x p. (record { left_accepts = p.left_accepts; right_accepts = p.right_accepts; meets = p.meets }, p.left_reads))
    z w ls (met os) (composed_paths (decode xs) (decode ys) z os one) none reads
