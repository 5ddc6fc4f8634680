-- The search for an arc for any symbol: what is left of it gives the whole. Assumes nothing.
use Rattle.std.proofs.Common.{◌≡◌, ℕ, suc, ◌+◌, ◌-◌, ◌*◌, ◌<◌, ◌≤◌, Bool, true, false, ◌&&◌, ltb, List, sym, refl, ap, ◌∙◌, arith, le-ltb, lt-ltb}
use Rattle.wire.specs.Bytes.{Bytes, two, every, places}
use Rattle.transducer.specs.declared.Arc.{Arc}
use Rattle.transducer.specs.Format.{arc_bytes, arcs_at, any, arc_at, head_finals, head_arcs, refusal, decode}
use Rattle.transducer.specs.Each.{has_no_any_input}
use Rattle.transducer.proofs.Offsets.{decode_arcs}

-- Whether none of `count` arcs from a place on is for any symbol.
abbrev pub named_from : (bs : List ℕ) → (count at : ℕ) → Bool
named_from bs count at = every (λ a. ltb a.input any) (places count at 16 (arc_at bs))

-- What is left of the search, when it has come to i, gives the whole.
pub record NameSearch (bs : List ℕ) (at count i : ℕ) : Type 0 where
  pub same : named_from bs (count - i) (at + arc_bytes * i) ≡ named_from bs count at

pub searching_first : (bs : List ℕ) (at count : ℕ) → NameSearch bs at count 0
searching_first bs at count =
    let all : count - 0 ≡ count = omega arith in
    let front : at + arc_bytes * 0 ≡ at = omega arith in
    record { same = rw (all, front) refl }

module _ {bs : List ℕ} {at count i : ℕ} (s : NameSearch bs at count i) where
  step : i < count → named_from bs (count - i) (at + arc_bytes * i)
      ≡ ltb (two bs (at + arc_bytes * i + 6)) any && named_from bs (count - (i + 1)) (at + arc_bytes * (i + 1))
  unfolding every places arc_at
  step l =
      let more : count - i ≡ suc (count - (i + 1)) = omega arith in
      let next : at + arc_bytes * (i + 1) ≡ at + arc_bytes * i + 16 = omega arith in
      rw (more, next)

  pub searching_any : i < count → two bs (at + arc_bytes * i + 6) ≡ any → false ≡ named_from bs count at
  searching_any l e = (rw (e, le-ltb any any (omega arith)) at (sym (step l))) ∙ s.same

  pub searching_next : i < count → two bs (at + arc_bytes * i + 6) < any → NameSearch bs at count (i + 1)
  searching_next l h = record { same = (rw (lt-ltb (two bs (at + arc_bytes * i + 6)) any h) at (sym (step l))) ∙ s.same }

  pub searching_stop : count ≤ i → true ≡ named_from bs count at
  unfolding every places
  searching_stop l = let none : count - i ≡ 0 = omega arith in rw none at s.same

pub named_decode : (bs : List ℕ) (count at : ℕ) → Bytes bs → refusal bs ≡ 0 → count ≡ head_arcs bs → at ≡ arcs_at (head_finals bs)
    → named_from bs count at ≡ has_no_any_input (decode bs)
unfolding has_no_any_input
named_decode bs count at bytes ok count_is at-is = rw (count_is, at-is) (ap (every (λ (a : Arc). ltb a.input any)) (sym (decode_arcs bs bytes ok)))
