-- Where accepting paths and the things of a kind stand one to one, those things are infinitely many exactly where the paths are, and else the
-- list of all paths leads to each of them once; so the path count is theirs. Assumes nothing.
use mathlib.Core.Path.{◌≡◌, refl, sym, ap, subst}
use mathlib.Core.Bool.{Bool, true, false}
use mathlib.Core.Logic.{◌⊎◌, inl, inr, ◌↔◌}
use mathlib.Core.List.{List, [], ◌∷◌, map}
use mathlib.Core.List.Memᴰ.{cases_cons as first-or-later, map as in_map}
use mathlib.Core.List.Memᴰ.{not-nil as none_in, of_map}
use mathlib.Core.List.{Memᴰ as Mem}
use Prim.Native.Nat.{ℕ, zero, suc, ◌≤◌, min}
use native.Mathlib.Omega.{arith}
use lib.ListN.{length, length-map}
use Rattle.transducer.specs.Format.{Transducer, refusal, decode}
use Rattle.transducer.specs.Path.{accepts}
use Rattle.transducer.proofs.Members.{Distinct, distinct_places, places_distinct, no_longer, map_distinct}
use Rattle.transducer.proofs.Runs.{Within}
use Rattle.paths.specs.Answer.{Counted}
use Rattle.paths.specs.Count.{paths, endless, path_count}
use Rattle.paths.specs.Entry.{count_refusal, CountSays}
use Rattle.paths.proofs.Called.{refused_14, counted_none, count_told}
use Rattle.paths.proofs.Endless.{mem_paths, paths_distinct, not_endless_listed, endless_escapes}
use Rattle.claim.specs.Kind.{Kind, PathsAre, InfinitelyMany, EachOnce, Counts}

-- So many accepting paths, no two the same.
record Paths (w : Transducer) (n : ℕ) : Type 0 where
  list : List (List ℕ)
  long : length list ≡ n
  apart : Distinct (λ p. p) list
  accepted : (p : List ℕ) → Mem p list → accepts w p ≡ true

many_paths : (w : Transducer) → Within w → endless w ≡ true → (n : ℕ) → Paths w n
unfolding Distinct
many_paths w within h zero = record { list = []; long = refl; apart = tt; accepted = λ p m. absurd (none_in m) }
many_paths w within h (suc n) = more (many_paths w within h n)
  where
    more : Paths w n → Paths w (suc n)
    more l =
        let e = endless_escapes w within h l.list in
        record {
          list = e.0 ∷ l.list;
          long = ap suc l.long;
          apart = ((λ p m same. e.2 (subst (λ (q : List ℕ). Mem q l.list) (sym same) m)), l.apart);
          accepted = λ p m. on p e.0 e.1 (first-or-later m);
        }
      where
        on : (p q : List ℕ) → accepts w q ≡ true → (p ≡ q) ⊎ Mem p l.list → accepts w p ≡ true
        on p q a (inl same) = rw same a
        on p q a (inr m) = l.accepted p m

-- Two lists that have each thing of a kind once are as long.
pub each_once_long : (K : Kind) (l m : List K.Thing) → EachOnce K l → EachOnce K m → length l ≡ length m
each_once_long K l m p q =
    let up : length l ≤ length m = no_longer l m (places_distinct l p.once) (λ x h. q.all x (p.only x h)) in
    let down : length m ≤ length l = no_longer m l (places_distinct m q.once) (λ x h. p.all x (q.only x h)) in
    omega arith

module _ (K : Kind) (w : Transducer) (within : Within w) (to : List ℕ → K.Thing) (are : PathsAre K w to) where
  all_listed : endless w ≡ false → (x : K.Thing) → K.Is x → Mem x (map to (paths w))
  all_listed e x h =
      let r = are.every x h in
      rw r.2 at (in_map to (not_endless_listed w within e r.0 r.1))

  only_listed : (x : K.Thing) → Mem x (map to (paths w)) → K.Is x
  only_listed x m =
      let o = of_map to (paths w) m in
      rw o.2 at (are.leads o.0 (mem_paths w o.0 o.1)).is

  distinct_listed : Distinct (λ x. x) (map to (paths w))
  distinct_listed = map_distinct to (paths w) (λ p q m k. are.never_two p q (mem_paths w p m) (mem_paths w q k)) (paths_distinct w)

  pub listed_once : endless w ≡ false → EachOnce K (map to (paths w))
  listed_once e =
      record {
        only = only_listed;
        all = all_listed e;
        once = λ i j d. distinct_places (λ x. x) (map to (paths w)) d i j distinct_listed;
      }

  endless_infinite : endless w ≡ true → InfinitelyMany K
  endless_infinite h l all =
      let ps : Paths w (suc (length l)) = many_paths w within h (suc (length l)) in
      let apart : Distinct (λ x. x) (map to ps.list) =
      map_distinct to ps.list (λ p q m k. are.never_two p q (ps.accepted p m) (ps.accepted q k)) ps.apart in
      let fits : length (map to ps.list) ≤ length l =
      no_longer (map to ps.list) l apart
      (λ x m. let o = of_map to ps.list m in rw o.2 at (all (to o.0) (are.leads o.0 (ps.accepted o.0 o.1)).is)) in
      let long : length ps.list ≡ suc (length l) = ps.long in
      omega (arith, length-map ps.list to)

  pub endless_infinitely_many : (endless w ≡ true) ↔ InfinitelyMany K
  endless_infinitely_many = (endless_infinite, λ out. on (endless w) refl out)
    where
      on : (b : Bool) → endless w ≡ b → InfinitelyMany K → endless w ≡ true
      on true e out = e
      on false e out = absurd (out (map to (paths w)) (all_listed e))

  -- Any list that has each of them once is as long as that of the paths.
  number_of_paths : endless w ≡ false → (l : List K.Thing) → EachOnce K l → length l ≡ length (paths w)
  number_of_paths e l each = omega (arith, each_once_long K l (map to (paths w)) each (listed_once e), length-map (paths w) to)

-- The count's answer

module _ (K : Kind) (bs : List ℕ) (to : List ℕ → K.Thing) (ok : refusal bs ≡ 0) (within : Within (decode bs)) (are : PathsAre K (decode bs) to)
    (r : Counted) (says : CountSays bs (count_refusal bs) r) where
  abbrev w : Transducer
  w = decode bs

  infinite : (endless w ≡ true) ↔ InfinitelyMany K
  infinite = endless_infinitely_many K w within to are

  finite : (InfinitelyMany K → ⊥) → (l : List K.Thing) × EachOnce K l
  finite h = on (endless w) refl
    where
      on : (b : Bool) → endless w ≡ b → (l : List K.Thing) × EachOnce K l
      on true e = absurd (h (infinite.0 e))
      on false e = (map to (paths w), listed_once K w within to are e)

  number : (l : List K.Thing) → EachOnce K l → (r.refusal ≡ 0) × (r.count ≡ min 99 (length l))
  unfolding path_count
  number l each = on (endless w) refl
    where
      on : (b : Bool) → endless w ≡ b → (r.refusal ≡ 0) × (r.count ≡ min 99 (length l))
      on true e = absurd (infinite.0 e l each.all)
      on false e =
          let none : r.refusal ≡ 0 = counted_none bs r ok says e in
          let count : r.count ≡ min 99 (length (paths w)) = count_told bs r ok says none in
          (none, rw (number_of_paths K w within to are e l each) count)

  pub counts : Counts K r
  counts =
      let refused : (r.refusal ≡ 14) ↔ (endless w ≡ true) = refused_14 bs r ok says in
      record { endless = (λ h. infinite.0 (refused.0 h), λ out. refused.1 (infinite.1 out)); finite = finite; number = number }
