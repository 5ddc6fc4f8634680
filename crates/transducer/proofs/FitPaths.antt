-- Paths that fit a string, one arc at a time; and where no arc bears 65,535, a path fits what it reads and passes on what it writes. Assumes nothing.
use Rattle.std.proofs.Common.{◌≡◌, ℕ, suc, true, ◌&&◌, eqb, List, [], ◌∷◌, length, sym, refl, ◌∙◌, ap₂, arith, eq-eqb, ne_eqb, eqb-true}
use borrow.Author.Tests.{eqb-false}
use Rattle.wire.proofs.Bool.{by_test, and-true, true_and}
use Rattle.transducer.specs.Format.{Transducer}
use Rattle.transducer.specs.Path.{arc, non_empty, read_by, written_by}
use Rattle.transducer.specs.Each.{fits, passed, symbol_for, left_by, path_fits, path_passed, has_no_any_input, plain}
use Rattle.transducer.proofs.Fits.{fits_reads, fits_empty, reads_fits, passed_output, named_input, plain_named, plain_output}
use Rattle.transducer.proofs.Paths.{empty_passed, symbol_kept}

module _ (t : Transducer) (i : ℕ) (p : List ℕ) where
  -- An arc that reads nothing.
  pub path_fits_none : (cs : List ℕ) → (arc t i).input ≡ 0 → path_fits t cs (i ∷ p) ≡ path_fits t cs p
  unfolding path_fits symbol_for left_by
  path_fits_none cs e = rw (eq-eqb (arc t i).input 0 e, reads_fits t 0 (arc t i) e)

  pub path_passed_none : (cs : List ℕ) → (arc t i).input ≡ 0 → path_passed t cs (i ∷ p) ≡ non_empty (passed 0 (arc t i)) (path_passed t cs p)
  unfolding path_passed symbol_for left_by
  path_passed_none cs e = rw (eq-eqb (arc t i).input 0 e)

  -- An arc that reads.
  pub path_fits_some : (c : ℕ) (cs : List ℕ) → ((arc t i).input ≡ 0 → ⊥) → path_fits t (c ∷ cs) (i ∷ p) ≡ fits t c (arc t i) && path_fits t cs p
  unfolding path_fits symbol_for left_by
  path_fits_some c cs reads = rw (ne_eqb (arc t i).input 0 reads)

  pub path_passed_some : (c : ℕ) (cs : List ℕ) → ((arc t i).input ≡ 0 → ⊥)
      → path_passed t (c ∷ cs) (i ∷ p) ≡ non_empty (passed c (arc t i)) (path_passed t cs p)
  unfolding path_passed symbol_for left_by
  path_passed_some c cs reads = rw (ne_eqb (arc t i).input 0 reads)

  path_fits_short : ((arc t i).input ≡ 0 → ⊥) → path_fits t [] (i ∷ p) ≡ true → ⊥
  unfolding path_fits symbol_for left_by
  path_fits_short reads h =
      let f : fits t 0 (arc t i) && path_fits t [] p ≡ true = rw (ne_eqb (arc t i).input 0 reads) at h in
      reads (fits_empty t (arc t i) (and-true (fits t 0 (arc t i)) (path_fits t [] p) f).0)

  -- What the first arc of a path that fits takes: nothing, or the first symbol, which it fits.
  pub data Took (cs : List ℕ) : Type 0 where
    quiet : (arc t i).input ≡ 0 → path_fits t cs p ≡ true → Took cs
    took : (c : ℕ) (rest : List ℕ) → cs ≡ c ∷ rest → ((arc t i).input ≡ 0 → ⊥) → fits t c (arc t i) ≡ true → path_fits t rest p ≡ true → Took cs

  pub path_took : (cs : List ℕ) → path_fits t cs (i ∷ p) ≡ true → Took cs
  path_took cs h =
      by_test (eqb (arc t i).input 0)
      (λ e. let none : (arc t i).input ≡ 0 = eqb-true (arc t i).input 0 e in quiet none (sym (path_fits_none cs none) ∙ h))
      (λ e. on cs h (eqb-false (arc t i).input 0 e))
    where
      on : (cs : List ℕ) → path_fits t cs (i ∷ p) ≡ true → ((arc t i).input ≡ 0 → ⊥) → Took cs
      on [] h reads = absurd (path_fits_short reads h)
      on (c ∷ cs) h reads =
          let f = and-true (fits t c (arc t i)) (path_fits t cs p) (sym (path_fits_some c cs reads) ∙ h) in
          took c cs refl reads f.0 f.1

-- A path of no arcs fits nothing but the empty string.
pub path_fits_end : (t : Transducer) (cs : List ℕ) → path_fits t cs [] ≡ true → cs ≡ []
unfolding path_fits
path_fits_end t [] h = refl
path_fits_end t (c ∷ cs) h = absurd (let z : suc (length cs) ≡ 0 = eqb-true (suc (length cs)) 0 h in omega arith)

-- Nothing has changed without 65,535

-- A path fits what it reads, whatever it reads.
pub read_path_fits : (t : Transducer) (p : List ℕ) → path_fits t (read_by t p) p ≡ true
unfolding path_fits read_by
read_path_fits t [] = refl
read_path_fits t (i ∷ p) =
    by_test (eqb (arc t i).input 0)
    (λ e. let none : (arc t i).input ≡ 0 = eqb-true (arc t i).input 0 e in
    rw (empty_passed (arc t i).input (read_by t p) none) (path_fits_none t i p (read_by t p) none ∙ read_path_fits t p))
    (λ e. let reads : (arc t i).input ≡ 0 → ⊥ = eqb-false (arc t i).input 0 e in
    rw (symbol_kept (arc t i).input (read_by t p) reads)
    (path_fits_some t i p (arc t i).input (read_by t p) reads
    ∙ true_and (fits t (arc t i).input (arc t i)) (path_fits t (read_by t p) p) (reads_fits t (arc t i).input (arc t i) refl) (read_path_fits t p)))

-- Without an arc for any symbol a path fits only what it reads.
pub path_fits_named : (t : Transducer) → has_no_any_input t ≡ true → (cs p : List ℕ) → path_fits t cs p ≡ true → read_by t p ≡ cs
unfolding read_by
path_fits_named t all cs [] h = sym (path_fits_end t cs h)
path_fits_named t all cs (i ∷ p) h = on (path_took t i p cs h) (λ cs' h'. path_fits_named t all cs' p h')
  where
    on : Took t i p cs → ((cs' : List ℕ) → path_fits t cs' p ≡ true → read_by t p ≡ cs') → non_empty (arc t i).input (read_by t p) ≡ cs
    on (quiet none f) rest = empty_passed (arc t i).input (read_by t p) none ∙ rest cs f
    on (took c cs' is reads f more) rest =
        symbol_kept (arc t i).input (read_by t p) reads
        ∙ ap₂ ◌∷◌ (fits_reads t c (arc t i) (named_input t all i) f) (rest cs' more) ∙ sym is

-- Without 65,535 a path passes on what it writes.
pub path_passed_plain : (t : Transducer) → plain t ≡ true → (cs p : List ℕ) → path_passed t cs p ≡ written_by t p
unfolding path_passed written_by
path_passed_plain t none cs [] = refl
path_passed_plain t none cs (i ∷ p) =
    ap₂ non_empty (passed_output (symbol_for (arc t i) cs) (arc t i) (plain_output t none i)) (path_passed_plain t none (left_by (arc t i) cs) p)

pub path_fits_plain : (t : Transducer) → plain t ≡ true → (cs p : List ℕ) → path_fits t cs p ≡ true → read_by t p ≡ cs
path_fits_plain t none = path_fits_named t (plain_named t none)
