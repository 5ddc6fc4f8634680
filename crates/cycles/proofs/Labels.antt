-- The labels that a path reads and writes, end to end. Assumes nothing.
use mathlib.Core.Path.{◌≡◌, refl, ap, ◌∙◌}
use mathlib.Core.Bool.{Bool, true, false, cond}
use mathlib.Core.List.{List, [], ◌∷◌, ◌++◌}
use Prim.Native.Nat.{ℕ, ◌+◌}
use lib.Dec.{eqb}
use lib.ListN.{length, length-append}
use Rattle.transducer.specs.Format.{Transducer}
use Rattle.transducer.specs.Path.{arc, non_empty, read_by, written_by}

front_append : (x : ℕ) (a b : List ℕ) → non_empty x (a ++ b) ≡ non_empty x a ++ b
unfolding non_empty
front_append x a b = on (eqb x 0)
  where
    on : (d : Bool) → cond d (a ++ b) (x ∷ (a ++ b)) ≡ cond d a (x ∷ a) ++ b
    on true = refl
    on false = refl

pub written_append : (t : Transducer) (p q : List ℕ) → written_by t (p ++ q) ≡ written_by t p ++ written_by t q
unfolding written_by
written_append t [] q = refl
written_append t (i ∷ p) q =
    ap (non_empty (arc t i).output) (written_append t p q) ∙ front_append (arc t i).output (written_by t p) (written_by t q)

pub read_append : (t : Transducer) (p q : List ℕ) → read_by t (p ++ q) ≡ read_by t p ++ read_by t q
unfolding read_by
read_append t [] q = refl
read_append t (i ∷ p) q = ap (non_empty (arc t i).input) (read_append t p q) ∙ front_append (arc t i).input (read_by t p) (read_by t q)

pub labels_append : (t : Transducer) (p q : List ℕ) → length (written_by t (p ++ q)) ≡ length (written_by t p) + length (written_by t q)
labels_append t p q = ap length (written_append t p q) ∙ length-append (written_by t p) (written_by t q)
