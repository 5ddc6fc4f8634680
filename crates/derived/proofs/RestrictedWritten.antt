-- The head written anew in front of the finals and the arcs that are left. Assumes nothing.
use mathlib.Core.Path.{◌≡◌, refl, sym, ap, subst, ◌∙◌}
use mathlib.Core.Bool.{Bool}
use mathlib.Core.List.{List, ◌++◌, append_assoc}
use Prim.Native.Nat.{ℕ, ◌+◌, ◌*◌, ◌≤◌}
use native.Mathlib.Omega.{arith}
use lib.ListN.{length, take, drop}
use lib.Seq.{sets, sets-eq, drop_at}
use Rattle.wire.specs.Bytes.{Bytes}
use Rattle.transducer.specs.declared.Arc.{Arc}
use Rattle.transducer.specs.Format.{Transducer, refusal, decode, arc_bytes, arcs_at}
use Rattle.transducer.specs.Encode.{head_record, final_records, arc_records, encode}
use Rattle.transducer.specs.Weight.{Weight}
use Rattle.transducer.proofs.Encode.{length_head_record, length_encode}
use Rattle.trim.specs.Passing.{passing, PassingPut}
use Rattle.derived.specs.Put.{Puts}
use Rattle.derived.specs.Restricted.{unchanged, restricted, origins_restricted, within_bound}
use Rattle.derived.proofs.Written.{puts_by, head_of, behind_front}

-- The restricted transducer is written, with the number that each of its arcs had.
abbrev pub Restricts : (test : Arc → Bool) → (t : Transducer) → (len : ℕ) → (out numbers numbers' : List ℕ) → Type 0
Restricts test t len out ns ns' = Puts (restricted test t) len out × (ns' ≡ sets ns 0 (origins_restricted test t))

pub restricts : (test : Arc → Bool) (bs : List ℕ) → Bytes bs → refusal bs ≡ 0 → (n f first at count len : ℕ) (o1 o2 o3 ns ns' : List ℕ)
    → n ≡ (decode bs).states → f ≡ length (decode bs).finals → first ≡ (decode bs).start → at ≡ arcs_at f → at + arc_bytes * count ≤ length o1
    → take at o1 ≡ take at bs → PassingPut test unchanged (decode bs).arcs at count o1 o2 ns ns' → length o2 ≡ length o1
    → o3 ≡ sets o2 0 (head_record n count f first) → len ≡ at + arc_bytes * count → Restricts test (decode bs) len o3 ns ns'
unfolding encode restricted origins_restricted
restricts test bs bytes ok n f first at count len o1 o2 o3 ns ns' states finals start place room copied put same head long =
    let t : Transducer = decode bs in
    let l : List Arc = passing test unchanged t.arcs in
    let h₀ : List ℕ = head_of t in
    let h : List ℕ = head_record n count f first in
    let fs : List ℕ = final_records t.finals in
    let a : List ℕ = arc_records l in
    let x : List ℕ = drop (at + length a) o1 in
    let lh : length h ≡ 12 = length_head_record n count f first in
    let lh₀ : length h₀ ≡ 12 = length_head_record t.states (length t.arcs) (length t.finals) t.start in
    let two : o2 ≡ h₀ ++ (fs ++ (a ++ x)) =
    behind_front bs bytes ok at l o1 o2 (omega (arith, place, finals)) (omega (arith, room, put.count_is)) copied put.table in
    let rest : drop 12 o2 ≡ fs ++ (a ++ x) = ap (drop 12) two ∙ drop_at h₀ (fs ++ (a ++ x)) 12 lh₀ in
    let three : o3 ≡ h ++ drop 12 o2 =
    head ∙ (sets-eq h o2 0 (omega (arith, lh, same, room, place)) ∙ ap (λ (k : ℕ). h ++ drop (0 + k) o2) lh) in
    let heads : h ≡ head_of (restricted test t) = rw (states, finals, start, put.count_is) refl in
    let all : encode (restricted test t) ≡ (h ++ fs) ++ a = ap (λ (r : List ℕ). (r ++ fs) ++ a) (sym heads) in (
      puts_by (restricted test t) len o3 x (omega (arith, length_encode (restricted test t), put.count_is, long, place, finals))
          (three
          ∙ (ap (λ (r : List ℕ). h ++ r) rest
          ∙ (sym (append_assoc h fs (a ++ x)) ∙ (sym (append_assoc (h ++ fs) a x) ∙ ap (λ (r : List ℕ). r ++ x) (sym all))))),
      put.numbers_are,
    )

-- A bound that was stored as bits is the bound itself.
pub restricts_by : (cs rs : List Weight) (x y : Weight) (t : Transducer) (ns : List ℕ) {len : ℕ} {out ns' : List ℕ} → x ≡ y
    → Restricts (within_bound cs rs x) t len out ns ns' → Restricts (within_bound cs rs y) t len out ns ns'
restricts_by cs rs x y t ns {len} {out} {ns'} e k = subst (λ (w : Weight). Restricts (within_bound cs rs w) t len out ns ns') e k
