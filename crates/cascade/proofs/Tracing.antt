-- Laws of traced origins: the loop that traces them in place, and where a path leads by them. Assumes nothing.
use mathlib.Core.Path.{◌≡◌, refl, sym, ap, ap₂, ◌∙◌}
use mathlib.Core.Bool.{Bool, true, false, cond}
use mathlib.Core.List.{List, [], ◌∷◌, ◌++◌, map}
use Prim.Native.Nat.{ℕ, zero, suc, ◌+◌, ◌*◌, ◌≤◌, ◌<◌}
use native.Mathlib.Nat.{zero-add, add-zero}
use native.Mathlib.Omega.{arith}
use lib.Dec.{ltb, eqb}
use lib.ListN.{length, get_or, set, take, drop}
use lib.Seq.{sets, take-suc, length-take-le, get_or-drop, set-get_or, get_or-set_other}
use borrow.Author.Tests.{eqb-true, ne_eqb, le-ltb, lt-ltb, ltb-true}
use Rattle.wire.specs.Bytes.{every, filled}
use Rattle.wire.proofs.Bool.{and-true, true_and}
use Rattle.wire.proofs.Places.{get_or_filled}
use Rattle.transducer.specs.Format.{Transducer, barred, max_arcs}
use Rattle.transducer.specs.Path.{arc, runs, accepts}
use Rattle.transducer.proofs.Encode.{sets_then}
use Rattle.transducer.proofs.Paths.{Runs, runs_cons}
use Rattle.transducer.proofs.Runs.{accepts_accepting}
use Rattle.explore.proofs.MovedArcs.{drop_sets_before}
use Rattle.compose.specs.Claim.{led, met_at}
use Rattle.trim.specs.Trim.{through}
use Rattle.cascade.specs.Tracing.{traced, left_traced}

-- Place by place

pub length_left_traced : (ls os : List ℕ) → length (left_traced ls os) ≡ length os
unfolding left_traced
length_left_traced ls [] = refl
length_left_traced ls (i ∷ []) = refl
length_left_traced ls (i ∷ (j ∷ os)) = ap (λ (n : ℕ). suc (suc n)) (length_left_traced ls os)

left_at : (ls os : List ℕ) (i : ℕ) → 2 * i + 1 < length os → get_or (left_traced ls os) (2 * i + 0) 0 ≡ traced ls (get_or os (2 * i + 0) 0)
unfolding left_traced
left_at ls [] i h = absurd (omega arith)
left_at ls (x ∷ []) i h = absurd (omega arith)
left_at ls (x ∷ (y ∷ os)) zero h = refl
left_at ls (x ∷ (y ∷ os)) (suc i) h =
    let e : 2 * suc i + 0 ≡ suc (suc (2 * i + 0)) = omega arith in
    rw e (left_at ls os i (omega arith))

right_at : (ls os : List ℕ) (i : ℕ) → get_or (left_traced ls os) (2 * i + 1) 0 ≡ get_or os (2 * i + 1) 0
unfolding left_traced
right_at ls [] i = refl
right_at ls (x ∷ []) i = refl
right_at ls (x ∷ (y ∷ os)) zero = refl
right_at ls (x ∷ (y ∷ os)) (suc i) =
    let e : 2 * suc i + 1 ≡ suc (suc (2 * i + 1)) = omega arith in
    rw e (right_at ls os i)

-- Zeros behind the origins of the lattice change nothing.
pub left_traced_filled : (room : ℕ) (ls os : List ℕ) → left_traced (filled room ls) os ≡ left_traced ls os
unfolding left_traced traced
left_traced_filled room ls [] = refl
left_traced_filled room ls (i ∷ []) = refl
left_traced_filled room ls (i ∷ (j ∷ os)) =
    ap₂ (λ (x : ℕ) (l : List ℕ). cond (ltb i max_arcs) x i ∷ (j ∷ l)) (get_or_filled room ls i) (left_traced_filled room ls os)

-- The loop

left_traced_snoc : (ls : List ℕ) (k : ℕ) (xs : List ℕ) (a b : ℕ) → length xs ≡ 2 * k
    → left_traced ls (xs ++ (a ∷ (b ∷ []))) ≡ left_traced ls xs ++ (traced ls a ∷ (b ∷ []))
unfolding left_traced
left_traced_snoc ls zero [] a b h = refl
left_traced_snoc ls zero (x ∷ xs) a b h = absurd (omega arith)
left_traced_snoc ls (suc k) [] a b h = absurd (omega arith)
left_traced_snoc ls (suc k) (x ∷ []) a b h = absurd (omega arith)
left_traced_snoc ls (suc k) (x ∷ (y ∷ xs)) a b h =
    ap (λ (l : List ℕ). traced ls x ∷ (y ∷ l)) (left_traced_snoc ls k xs a b (omega arith))

snoc_two : (xs : List ℕ) (a b : ℕ) → (xs ++ (a ∷ [])) ++ (b ∷ []) ≡ xs ++ (a ∷ (b ∷ []))
snoc_two [] a b = refl
snoc_two (x ∷ xs) a b = ap (◌∷◌ x) (snoc_two xs a b)

take_two : (l : List ℕ) (n : ℕ) → suc n < length l → take (suc (suc n)) l ≡ take n l ++ (get_or l n 0 ∷ (get_or l (suc n) 0 ∷ []))
take_two l n h =
    take-suc l (suc n) 0 h
    ∙ ap (λ (xs : List ℕ). xs ++ (get_or l (suc n) 0 ∷ [])) (take-suc l n 0 (omega arith))
    ∙ snoc_two (take n l) (get_or l n 0) (get_or l (suc n) 0)

-- The left origins of the first i arcs are traced, and all else is as it was.
pub record Tracing (arcs : List ℕ) (count : ℕ) (origins₀ origins : List ℕ) (i : ℕ) : Type 0 where
  pub within : i ≤ count
  pub kept : length origins ≡ length origins₀
  pub front : origins ≡ sets origins₀ 0 (left_traced arcs (take (2 * i) origins₀))

pub tracing_first : (arcs : List ℕ) (count : ℕ) (origins : List ℕ) → Tracing arcs count origins origins 0
unfolding left_traced
tracing_first arcs count origins = record { within = omega arith; kept = refl; front = refl }

module _ (arcs : List ℕ) (count : ℕ) (origins₀ origins : List ℕ) (i : ℕ) (inv : Tracing arcs count origins₀ origins i)
    (room : 2 * count ≤ length origins₀) where
  pub tracing_stop : count ≤ i → origins ≡ sets origins₀ 0 (left_traced arcs (take (2 * count) origins₀))
  tracing_stop stop = let all : i ≡ count = omega (arith, inv.within) in rw all at inv.front

  module _ (less : i < count) where
    pub tracing_room : 2 * i + 1 < length origins
    tracing_room = omega (arith, inv.kept)

    front_long : length (left_traced arcs (take (2 * i) origins₀)) ≡ 2 * i
    front_long = length_left_traced arcs (take (2 * i) origins₀) ∙ length-take-le (2 * i) origins₀ (omega arith)

    untouched : (n : ℕ) → 2 * i ≤ n → get_or origins n 0 ≡ get_or origins₀ n 0
    untouched n h =
        let first : (l : List ℕ) → get_or l n 0 ≡ get_or (drop n l) 0 0 = λ l. ap (λ (m : ℕ). get_or l m 0) (sym (add-zero n)) ∙ sym (get_or-drop n l 0 0) in
        first origins
        ∙ ap (λ (l : List ℕ). get_or (drop n l) 0 0) inv.front
        ∙ ap (λ (l : List ℕ). get_or l 0 0)
        (drop_sets_before n origins₀ 0 (left_traced arcs (take (2 * i) origins₀)) (omega (arith, front_long)))
        ∙ sym (first origins₀)

    next : (v : ℕ) (origins' : List ℕ) → v ≡ traced arcs (get_or origins (2 * i) 0) → origins' ≡ set origins (2 * i) v
        → length origins' ≡ length origins → Tracing arcs count origins₀ origins' (i + 1)
    next v origins' is put long =
        let n : ℕ = 2 * i in
        let a : ℕ = get_or origins₀ n 0 in
        let b : ℕ = get_or origins₀ (suc n) 0 in
        let xs : List ℕ = left_traced arcs (take n origins₀) in
        let same : v ≡ traced arcs a = is ∙ ap (traced arcs) (untouched n (omega arith)) in
        let twice : 2 * (i + 1) ≡ suc (suc n) = omega arith in
        let more : left_traced arcs (take (2 * (i + 1)) origins₀) ≡ xs ++ (traced arcs a ∷ (b ∷ [])) =
        ap (λ (m : ℕ). left_traced arcs (take m origins₀)) twice
        ∙ ap (left_traced arcs) (take_two origins₀ n (omega arith))
        ∙ left_traced_snoc arcs i (take n origins₀) a b (length-take-le n origins₀ (omega arith)) in
        let mid : List ℕ = set origins n (traced arcs a) in
        let beside : get_or mid (suc n) 0 ≡ b = get_or-set_other origins n (suc n) (traced arcs a) 0 (λ e. omega arith) ∙ untouched (suc n) (omega arith) in
        let here : origins' ≡ set mid (suc n) b =
        put ∙ ap (set origins n) same ∙ sym (set-get_or mid (suc n) 0) ∙ ap (set mid (suc n)) beside in
        record {
          within = omega arith;
          kept = long ∙ inv.kept;
          front = rw more (sets_then origins₀ 0 n xs (traced arcs a ∷ (b ∷ [])) front_long inv.front (rw zero-add here));
        }

    -- A left origin that is an arc of the lattice, and 65,535.

    pub tracing_next : (j : ℕ) (origins' : List ℕ) → j ≡ get_or origins (2 * i) 0 → j < max_arcs → origins' ≡ set origins (2 * i) (get_or arcs j 0)
        → length origins' ≡ length origins → Tracing arcs count origins₀ origins' (i + 1)
    unfolding traced
    tracing_next j origins' is few put long =
        next (get_or arcs j 0) origins' (rw (← is, lt-ltb j max_arcs few)) put long

    pub tracing_stay : max_arcs ≤ get_or origins (2 * i) 0 → Tracing arcs count origins₀ origins (i + 1)
    unfolding traced
    tracing_stay many =
        next (get_or origins (2 * i) 0) origins (rw (le-ltb (get_or origins (2 * i) 0) max_arcs many)) (sym (set-get_or origins (2 * i) 0)) refl

-- Where a path leads

runs_below : (t : Transducer) (s : ℕ) (p : List ℕ) → runs t s p ≡ true → every (λ i. ltb i (length t.arcs)) p ≡ true
unfolding every
runs_below t s [] h = refl
runs_below t s (i ∷ p) h =
    let r : Runs t s i p = runs_cons t s i p h in
    true_and (ltb i (length t.arcs)) (every (λ i. ltb i (length t.arcs)) p) (lt-ltb i (length t.arcs) r.below)
    (runs_below t (arc t i).target p r.rest)

every_weaker : (m n : ℕ) (p : List ℕ) → m ≤ n → every (λ i. ltb i m) p ≡ true → every (λ i. ltb i n) p ≡ true
unfolding every
every_weaker m n [] few h = refl
every_weaker m n (i ∷ p) few h =
    let both = and-true (ltb i m) (every (λ i. ltb i m) p) h in
    true_and (ltb i n) (every (λ i. ltb i n) p) (lt-ltb i n (omega (arith, ltb-true i m both.0))) (every_weaker m n p few both.1)

-- The arcs of an accepting path are below any number that the transducer has no more arcs than.
pub path_below : (t : Transducer) (n : ℕ) (p : List ℕ) → accepts t p ≡ true → length t.arcs ≤ n → every (λ i. ltb i n) p ≡ true
path_below t n p h few = every_weaker (length t.arcs) n p few (runs_below t t.start p (accepts_accepting t p h).goes)

led_traced : (ls xs : List ℕ) → every (λ i. ltb i max_arcs) (led xs) ≡ true → every (λ i. ltb i barred) (through ls (led xs)) ≡ true
    → led (map (traced ls) xs) ≡ through ls (led xs)
unfolding led traced through every
led_traced ls [] few low = refl
led_traced ls (x ∷ xs) few low = on (eqb x barred) refl few low (λ f l. led_traced ls xs f l)
  where
    on : (b : Bool) → eqb x barred ≡ b → every (λ i. ltb i max_arcs) (cond b (led xs) (x ∷ led xs)) ≡ true
        → every (λ i. ltb i barred) (map (λ i. get_or ls i 0) (cond b (led xs) (x ∷ led xs))) ≡ true
        → (every (λ i. ltb i max_arcs) (led xs) ≡ true → every (λ i. ltb i barred) (map (λ i. get_or ls i 0) (led xs)) ≡ true
        → led (map (traced ls) xs) ≡ map (λ i. get_or ls i 0) (led xs))
        → led (cond (ltb x max_arcs) (get_or ls x 0) x ∷ map (traced ls) xs) ≡ map (λ i. get_or ls i 0) (cond b (led xs) (x ∷ led xs))
    on true e few low rest =
        let is : x ≡ barred = eqb-true x barred e in
        rw (le-ltb x max_arcs (omega arith), e) (rest few low)
    on false e few low rest =
        let f = and-true (ltb x max_arcs) (every (λ i. ltb i max_arcs) (led xs)) few in
        let l = and-true (ltb (get_or ls x 0) barred) (every (λ i. ltb i barred) (map (λ i. get_or ls i 0) (led xs))) low in
        let apart : get_or ls x 0 ≡ barred → ⊥ = λ z. omega (arith, ltb-true (get_or ls x 0) barred l.0) in
        rw (f.0, ne_eqb (get_or ls x 0) barred apart) (ap (◌∷◌ (get_or ls x 0)) (rest f.1 l.1))

lefts_at : (ls os : List ℕ) (n : ℕ) (p : List ℕ) → 2 * n ≤ length os → every (λ i. ltb i n) p ≡ true
    → map (λ i. get_or (left_traced ls os) (2 * i + 0) 0) p ≡ map (traced ls) (map (λ i. get_or os (2 * i + 0) 0) p)
unfolding every
lefts_at ls os n [] room h = refl
lefts_at ls os n (i ∷ p) room h =
    let both = and-true (ltb i n) (every (λ i. ltb i n) p) h in
    ap₂ ◌∷◌ (left_at ls os i (omega (arith, ltb-true i n both.0))) (lefts_at ls os n p room both.1)

rights_at : (ls os p : List ℕ) → map (λ i. get_or (left_traced ls os) (2 * i + 1) 0) p ≡ map (λ i. get_or os (2 * i + 1) 0) p
rights_at ls os [] = refl
rights_at ls os (i ∷ p) = ap₂ ◌∷◌ (right_at ls os i) (rights_at ls os p)

-- By traced origins a path leads to the arcs that the arcs of the lattice come from; on the right nothing is changed.
pub met_traced_left : (ls os : List ℕ) (n : ℕ) (p : List ℕ) → 2 * n ≤ length os → every (λ i. ltb i n) p ≡ true
    → every (λ i. ltb i max_arcs) (met_at os 0 p) ≡ true → every (λ i. ltb i barred) (through ls (met_at os 0 p)) ≡ true
    → met_at (left_traced ls os) 0 p ≡ through ls (met_at os 0 p)
unfolding met_at
met_traced_left ls os n p room below few low = ap led (lefts_at ls os n p room below) ∙ led_traced ls (map (λ i. get_or os (2 * i + 0) 0) p) few low

pub met_traced_right : (ls os p : List ℕ) → met_at (left_traced ls os) 1 p ≡ met_at os 1 p
unfolding met_at
met_traced_right ls os p = ap led (rights_at ls os p)
