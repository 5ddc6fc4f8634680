-- Laws of `arcs_below`: where sources never fall, the arcs of a state are those numbered from one entry of the first-arc index to below the next.
-- Assumes nothing.
use Rattle.std.proofs.Common.{◌≡◌, ℕ, zero, suc, ◌+◌, ◌<◌, ◌≤◌, Bool, true, false, cond, ltb, leb, List, [], ◌∷◌, ◌++◌, length, get_or, take, refl, ap, ◌∙◌, le_of_suc-le-suc, not-suc-le-zero, arith, ltb-true, le-ltb, lt-ltb, leb-true}
use native.Mathlib.Decide.{dec_le}
use Rattle.wire.proofs.Bool.{and-true, true_and}
use Rattle.transducer.specs.declared.Arc.{Arc}
use Rattle.transducer.specs.Format.{Transducer, sources_stay}
use Rattle.transducer.specs.Path.{arc, no_arc}
use Rattle.transducer.specs.Accepted.{arcs_below}
use Rattle.transducer.proofs.Good.{Content, sources_stay_good, arc_states_below}

-- arcs_below

pub arcs_below_lt : (s : ℕ) (a : Arc) (xs : List Arc) → a.source < s → arcs_below s (a ∷ xs) ≡ suc (arcs_below s xs)
unfolding arcs_below
arcs_below_lt s a xs h = rw (lt-ltb a.source s h)

pub arcs_below_ge : (s : ℕ) (a : Arc) (xs : List Arc) → s ≤ a.source → arcs_below s (a ∷ xs) ≡ arcs_below s xs
unfolding arcs_below
arcs_below_ge s a xs h = rw (le-ltb a.source s h)

pub arcs_below_append : (s : ℕ) (xs ys : List Arc) → arcs_below s (xs ++ ys) ≡ arcs_below s xs + arcs_below s ys
unfolding arcs_below
arcs_below_append s [] ys = omega arith
arcs_below_append s (x ∷ xs) ys = on (ltb x.source s) (arcs_below_append s xs ys)
  where
    on : (b : Bool) → arcs_below s (xs ++ ys) ≡ arcs_below s xs + arcs_below s ys →
        cond b (suc (arcs_below s (xs ++ ys))) (arcs_below s (xs ++ ys)) ≡ cond b (suc (arcs_below s xs)) (arcs_below s xs) + arcs_below s ys
    on true h = omega arith
    on false h = h

pub arcs_below_zero : (xs : List Arc) → arcs_below 0 xs ≡ 0
unfolding arcs_below
arcs_below_zero [] = refl
arcs_below_zero (x ∷ xs) = arcs_below_ge 0 x xs (omega arith) ∙ arcs_below_zero xs

pub arcs_below_length : (s : ℕ) (xs : List Arc) → arcs_below s xs ≤ length xs
unfolding arcs_below
arcs_below_length s [] = omega arith
arcs_below_length s (x ∷ xs) = on (ltb x.source s) (arcs_below_length s xs)
  where
    on : (b : Bool) → arcs_below s xs ≤ length xs → cond b (suc (arcs_below s xs)) (arcs_below s xs) ≤ suc (length xs)
    on true h = omega arith
    on false h = omega arith

pub arcs_below_mono : (s r : ℕ) (xs : List Arc) → s ≤ r → arcs_below s xs ≤ arcs_below r xs
unfolding arcs_below
arcs_below_mono s r [] h = omega arith
arcs_below_mono s r (x ∷ xs) h = on (ltb x.source s) refl (arcs_below_mono s r xs h)
  where
    both : (b : Bool) → arcs_below s xs ≤ arcs_below r xs → arcs_below s xs ≤ cond b (suc (arcs_below r xs)) (arcs_below r xs)
    both true k = omega arith
    both false k = k

    on : (b : Bool) → ltb x.source s ≡ b → arcs_below s xs ≤ arcs_below r xs →
        cond b (suc (arcs_below s xs)) (arcs_below s xs) ≤ cond (ltb x.source r) (suc (arcs_below r xs)) (arcs_below r xs)
    on true e k =
        let l : x.source < r = omega (arith, ltb-true x.source s e) in
        rw (lt-ltb x.source r l) (omega arith)
    on false e k = both (ltb x.source r) k

-- Where every source is below s, all arcs are.
pub arcs_below_all : (s : ℕ) (xs : List Arc) → ((i : ℕ) → i < length xs → (get_or xs i no_arc).source < s) → arcs_below s xs ≡ length xs
unfolding arcs_below
arcs_below_all s [] h = refl
arcs_below_all s (x ∷ xs) h =
    arcs_below_lt s x xs (h 0 (omega arith)) ∙ ap suc (arcs_below_all s xs (λ i l. h (suc i) (omega arith)))

-- Sources that never fall

pub stay_none : (floor s : ℕ) (xs : List Arc) → sources_stay floor xs ≡ true → s ≤ floor → arcs_below s xs ≡ 0
unfolding sources_stay arcs_below
stay_none floor s [] h l = refl
stay_none floor s (x ∷ xs) h l =
    let both = and-true (leb floor x.source) (sources_stay x.source xs) h in
    let up : floor ≤ x.source = leb-true floor x.source both.0 in
    arcs_below_ge s x xs (omega arith) ∙ stay_none x.source s xs both.1 (omega arith)

pub stay_floor : (floor : ℕ) (xs : List Arc) (i : ℕ) → sources_stay floor xs ≡ true → i < length xs → floor ≤ (get_or xs i no_arc).source
unfolding sources_stay
stay_floor floor [] i h l = absurd (not-suc-le-zero l)
stay_floor floor (x ∷ xs) zero h l = leb-true floor x.source (and-true (leb floor x.source) (sources_stay x.source xs) h).0
stay_floor floor (x ∷ xs) (suc i) h l =
    let both = and-true (leb floor x.source) (sources_stay x.source xs) h in
    omega (arith, leb-true floor x.source both.0, stay_floor x.source xs i both.1 (le_of_suc-le-suc l))

pub stay_rises : (floor : ℕ) (xs : List Arc) (i j : ℕ) → sources_stay floor xs ≡ true → i ≤ j → j < length xs →
    (get_or xs i no_arc).source ≤ (get_or xs j no_arc).source
unfolding sources_stay
stay_rises floor [] i j h p l = absurd (not-suc-le-zero l)
stay_rises floor (x ∷ xs) zero zero h p l = omega arith
stay_rises floor (x ∷ xs) zero (suc j) h p l =
    stay_floor x.source xs j (and-true (leb floor x.source) (sources_stay x.source xs) h).1 (le_of_suc-le-suc l)
stay_rises floor (x ∷ xs) (suc i) zero h p l = absurd (not-suc-le-zero p)
stay_rises floor (x ∷ xs) (suc i) (suc j) h p l =
    stay_rises x.source xs i j (and-true (leb floor x.source) (sources_stay x.source xs) h).1 (le_of_suc-le-suc p) (le_of_suc-le-suc l)

pub stay_take : (floor i : ℕ) (xs : List Arc) → sources_stay floor xs ≡ true → sources_stay floor (take i xs) ≡ true
unfolding sources_stay
stay_take floor zero xs h = refl
stay_take floor (suc i) [] h = refl
stay_take floor (suc i) (x ∷ xs) h =
    let both = and-true (leb floor x.source) (sources_stay x.source xs) h in
    true_and (leb floor x.source) (sources_stay x.source (take i xs)) both.0 (stay_take x.source i xs both.1)

pub stay_last : (floor : ℕ) (xs : List Arc) (a : Arc) → sources_stay floor (xs ++ (a ∷ [])) ≡ true → floor ≤ a.source
unfolding sources_stay
stay_last floor [] a h = leb-true floor a.source (and-true (leb floor a.source) true h).0
stay_last floor (x ∷ xs) a h =
    let both = and-true (leb floor x.source) (sources_stay x.source (xs ++ (a ∷ []))) h in
    omega (arith, leb-true floor x.source both.0, stay_last x.source xs a both.1)

-- Before the last arc, all arcs are below whatever its source is below.
pub stay_before : (floor s : ℕ) (xs : List Arc) (a : Arc) → sources_stay floor (xs ++ (a ∷ [])) ≡ true → a.source < s → arcs_below s xs ≡ length xs
unfolding sources_stay arcs_below
stay_before floor s [] a h l = refl
stay_before floor s (x ∷ xs) a h l =
    let both = and-true (leb floor x.source) (sources_stay x.source (xs ++ (a ∷ []))) h in
    arcs_below_lt s x xs (omega (arith, stay_last x.source xs a both.1)) ∙ ap suc (stay_before x.source s xs a both.1 l)

-- An arc's source is below s exactly if its number is below that of the first arc from s on.
pub source_below : (floor s : ℕ) (xs : List Arc) (i : ℕ) → sources_stay floor xs ≡ true → i < length xs → (get_or xs i no_arc).source < s → i < arcs_below s xs
unfolding sources_stay
source_below floor s [] i h l k = absurd (not-suc-le-zero l)
source_below floor s (x ∷ xs) zero h l k = rw (arcs_below_lt s x xs k) (omega arith)
source_below floor s (x ∷ xs) (suc i) h l k =
    let both = and-true (leb floor x.source) (sources_stay x.source xs) h in
    let up : x.source ≤ (get_or xs i no_arc).source = stay_floor x.source xs i both.1 (le_of_suc-le-suc l) in
    let more : i < arcs_below s xs = source_below x.source s xs i both.1 (le_of_suc-le-suc l) k in
    rw (arcs_below_lt s x xs (omega arith)) (omega arith)

pub below_source : (floor s : ℕ) (xs : List Arc) (i : ℕ) → sources_stay floor xs ≡ true → i < length xs → i < arcs_below s xs → (get_or xs i no_arc).source < s
unfolding sources_stay
below_source floor s [] i h l k = absurd (not-suc-le-zero l)
below_source floor s (x ∷ xs) i h l k = on i (dec_le (suc x.source) s) l k (λ j m. below_source x.source s xs j both.1 m)
  where
    both : (leb floor x.source ≡ true) × (sources_stay x.source xs ≡ true)
    both = and-true (leb floor x.source) (sources_stay x.source xs) h

    on : (i : ℕ) → Dec (x.source < s) → i < suc (length xs) → i < arcs_below s (x ∷ xs) →
        ((j : ℕ) → j < length xs → j < arcs_below s xs → (get_or xs j no_arc).source < s) → (get_or (x ∷ xs) i no_arc).source < s
    on zero (yes y) l k more = y
    on (suc i) (yes y) l k more = more i (omega arith) (omega (arith, arcs_below_lt s x xs y))
    on i (no n) l k more =
        let up : s ≤ x.source = omega arith in
        absurd (omega (arith, arcs_below_ge s x xs up, stay_none x.source s xs both.1 up))

-- The arcs of a state

-- The arcs that leave s are those numbered from `arcs_below s` to below `arcs_below (s + 1)`.
pub arcs_of_state : (t : Transducer) (i s : ℕ) → Content t → i < length t.arcs → (arc t i).source ≡ s →
    (arcs_below s t.arcs ≤ i) × (i < arcs_below (s + 1) t.arcs)
unfolding arc
arcs_of_state t i s good l e =
    let stay : sources_stay 0 t.arcs ≡ true = sources_stay_good t good in (
      from (dec_le (suc i) (arcs_below s t.arcs)) stay,
      source_below 0 (s + 1) t.arcs i stay l (omega arith),
    )
  where
    from : Dec (i < arcs_below s t.arcs) → sources_stay 0 t.arcs ≡ true → arcs_below s t.arcs ≤ i
    from (yes y) stay = absurd (omega (arith, below_source 0 s t.arcs i stay l y))
    from (no n) stay = omega arith

pub state_of_arcs : (t : Transducer) (i s : ℕ) → Content t → i < length t.arcs → arcs_below s t.arcs ≤ i → i < arcs_below (s + 1) t.arcs →
    (arc t i).source ≡ s
unfolding arc
state_of_arcs t i s good l a b =
    let stay : sources_stay 0 t.arcs ≡ true = sources_stay_good t good in
    let below : (get_or t.arcs i no_arc).source < s + 1 = below_source 0 (s + 1) t.arcs i stay l b in
    from stay below (dec_le (suc (get_or t.arcs i no_arc).source) s)
  where
    from : sources_stay 0 t.arcs ≡ true → (get_or t.arcs i no_arc).source < s + 1 → Dec ((get_or t.arcs i no_arc).source < s) →
        (get_or t.arcs i no_arc).source ≡ s
    from stay below (yes y) = absurd (omega (arith, source_below 0 s t.arcs i stay l y))
    from stay below (no n) = omega arith

-- Every arc is below the number of states.
pub arcs_below_states : (t : Transducer) → Content t → arcs_below t.states t.arcs ≡ length t.arcs
arcs_below_states t good = arcs_below_all t.states t.arcs (λ i l. (arc_states_below t good i no_arc l).0)
