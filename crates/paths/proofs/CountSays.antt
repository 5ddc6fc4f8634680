-- What `count` and `count_accepted` answer, case by case: a refusal of 1 to 8, 14, and success. Assumes nothing.
use mathlib.Core.Path.{◌≡◌, refl, sym, ◌∙◌}
use mathlib.Core.Bool.{true, false}
use mathlib.Core.List.{List}
use Prim.Native.Nat.{ℕ}
use borrow.Author.Tests.{ne_eqb}
use lib.Dec.{eqb}
use Rattle.transducer.specs.Format.{decode, refusal}
use Rattle.transducer.specs.Entry.{or_else, unless}
use Rattle.transducer.proofs.Answers.{none_or_else}
use Rattle.capped.specs.declared.Count.{Count}
use Rattle.paths.specs.Answer.{Counted}
use Rattle.paths.specs.Count.{endless, path_count}
use Rattle.paths.specs.Sweep.{at_state, Totalled}
use Rattle.paths.specs.Entry.{accepted_count_refusal, count_refusal, CountSays}
use Rattle.paths.proofs.NthSays.{start_count}
use Rattle.paths.proofs.Ready.{Sized}

-- 1 to 8
pub count_bad : {bs : List ℕ} {n : ℕ} → n ≡ refusal bs → (n ≡ 0 → ⊥) → CountSays bs (count_refusal bs) (record { refusal = n; count = 0 })
unfolding count_refusal or_else unless
count_bad {bs} {n} e h =
    let test : eqb n 0 ≡ false = ne_eqb n 0 h in
    rw (← e, test) (record { refusal_is = refl; count_is = rw test })

-- Accepted bytes are answered as `count_accepted` does.
pub count_passed : {bs : List ℕ} {n : ℕ} {r : Counted} → n ≡ refusal bs → n ≡ 0 → CountSays bs (accepted_count_refusal (decode bs)) r
    → CountSays bs (count_refusal bs) r
unfolding count_refusal
count_passed {bs} e h says = rw (none_or_else (refusal bs) (accepted_count_refusal (decode bs)) (sym e ∙ h)) says

-- 14
pub count_endless : {bs : List ℕ} → endless (decode bs) ≡ true → CountSays bs (accepted_count_refusal (decode bs)) (record { refusal = 14; count = 0 })
unfolding unless
count_endless ends = rw ends (record { refusal_is = refl; count_is = refl })

-- The count
pub count_known : {bs : List ℕ} {c : ℕ} → endless (decode bs) ≡ false → c ≡ path_count (decode bs)
    → CountSays bs (accepted_count_refusal (decode bs)) (record { refusal = 0; count = c })
unfolding unless
count_known finite k = rw finite (record { refusal_is = refl; count_is = k })

pub count_found : {bs : List ℕ} {cs : List Count} {start : ℕ} → Sized (decode bs) → Totalled (decode bs) cs → start ≡ (decode bs).start
    → CountSays bs (accepted_count_refusal (decode bs)) (record { refusal = 0; count = at_state cs start })
count_found {bs} {cs} {start} z k s = count_known k.finite (start_count (decode bs) z cs start k s)
