-- Laws of `runs` and `non_empty`, one arc or label at a time, and that a path writes no more labels than it has arcs. Assumes nothing.
use Rattle.std.proofs.Common.{◌≡◌, ℕ, suc, ◌<◌, ◌≤◌, Bool, true, false, cond, ◌&&◌, eqb, ltb, List, [], ◌∷◌, length, arith, ltb-true, lt-ltb, eq-eqb, ne_eqb, eqb-true}
use Rattle.wire.proofs.Bool.{and-true}
use Rattle.transducer.specs.Format.{Transducer}
use Rattle.transducer.specs.Path.{arc, runs, non_empty, written_by}

-- A path of at least one arc: the arc leaves the state, and the rest runs from its target.
pub record Runs (t : Transducer) (q : ℕ) (i : ℕ) (path : List ℕ) : Type 0 where
  pub below : i < length t.arcs
  pub leaves : (arc t i).source ≡ q
  pub rest : runs t (arc t i).target path ≡ true

pub runs_cons : (t : Transducer) (q i : ℕ) (path : List ℕ) → runs t q (i ∷ path) ≡ true → Runs t q i path
unfolding runs
runs_cons t q i path h =
    let here : Bool = ltb i (length t.arcs) && eqb (arc t i).source q in
    let both : (here ≡ true) × (runs t (arc t i).target path ≡ true) = and-true here (runs t (arc t i).target path) h in
    let two : (ltb i (length t.arcs) ≡ true) × (eqb (arc t i).source q ≡ true) = and-true (ltb i (length t.arcs)) (eqb (arc t i).source q) both.0 in
    record { below = ltb-true i (length t.arcs) two.0; leaves = eqb-true (arc t i).source q two.1; rest = both.1 }

pub cons_runs : (t : Transducer) (q i : ℕ) (path : List ℕ) → Runs t q i path → runs t q (i ∷ path) ≡ true
unfolding runs
cons_runs t q i path r =
    let a : ltb i (length t.arcs) ≡ true = lt-ltb i (length t.arcs) r.below in
    let b : eqb (arc t i).source q ≡ true = eq-eqb (arc t i).source q r.leaves in
    let c : runs t (arc t i).target path ≡ true = r.rest in
    rw (a, b, c)

pub empty_passed : (x : ℕ) (xs : List ℕ) → x ≡ 0 → non_empty x xs ≡ xs
unfolding non_empty
empty_passed x xs e = rw (eq-eqb x 0 e)

pub symbol_kept : (x : ℕ) (xs : List ℕ) → (x ≡ 0 → ⊥) → non_empty x xs ≡ x ∷ xs
unfolding non_empty
symbol_kept x xs h = rw (ne_eqb x 0 h)

pub written_by_short : (t : Transducer) (p : List ℕ) → length (written_by t p) ≤ length p
unfolding written_by non_empty
written_by_short t [] = omega arith
written_by_short t (i ∷ p) = on (eqb (arc t i).output 0) (written_by_short t p)
  where
    on : (b : Bool) → length (written_by t p) ≤ length p → length (cond b (written_by t p) ((arc t i).output ∷ written_by t p)) ≤ suc (length p)
    on true h = omega arith
    on false h = omega arith
