-- What is trimmed stays as it is when trimmed again; and what trimming leaves as it is, is trim if it accepts anything. Assumes nothing.
use mathlib.Core.Path.{◌≡◌, refl, sym, ap, ap₂, subst, ◌∙◌}
use mathlib.Core.Bool.{Bool, true, false, ◌&&◌}
use mathlib.Core.List.{List, [], ◌∷◌, ◌++◌, map}
use Prim.Native.Nat.{ℕ, zero, suc, ◌≤◌, ◌<◌}
use native.Mathlib.Omega.{arith}
use lib.Dec.{ltb}
use lib.ListN.{get_or}
use borrow.Author.Tests.{ltb-true}
use Rattle.wire.specs.Bytes.{every}
use Rattle.wire.proofs.Bool.{and-true}
use Rattle.transducer.specs.declared.Arc.{Arc}
use Rattle.transducer.specs.declared.Final.{Final}
use Rattle.transducer.specs.Format.{Transducer, Good}
use Rattle.transducer.specs.Path.{is_final, ends, accepts}
use Rattle.transducer.proofs.Runs.{accepting_append, accepts_accepting, Within, good_within}
use Rattle.transducer.proofs.Good.{Content, good_tests, finals_inside, arcs_inside}
use Rattle.transducer.proofs.RoundTrip.{good_range}
use Rattle.reach.specs.Reach.{entered, some_arc, accessible, coaccessible}
use Rattle.trim.specs.Passing.{passing}
use Rattle.trim.specs.Trim.{useful, arc_useful, renumbered, moved, kept_arcs, kept_finals, kept_numbers, trimmed, through, Trim}
use Rattle.reach.specs.Counted.{count}
use Rattle.reach.proofs.Counted.{CountedAt, count_onto, count_full}
use Rattle.trim.proofs.Useful.{OnPath, useful_on_path, on_path_useful, on_path_accepts, accepts_on_path, start_useful}
use Rattle.trim.proofs.Kept.{renumbered_count}
use Rattle.trim.proofs.Trimmed.{kept, lone, trimmed_kept, trimmed_lone, LedFrom, kept_led, LedBy, kept_led_by}
use Rattle.trim.proofs.TrimmedGood.{kept_good}

-- A path that leads to two laid end to end is itself two.
pub record Split (os p q r : List ℕ) : Type 0 where
  pub front : List ℕ
  pub back : List ℕ
  pub whole : p ≡ front ++ back
  pub front_leads : through os front ≡ q

pub led_split : (os p q r : List ℕ) → through os p ≡ q ++ r → Split os p q r
unfolding through
led_split os p [] r e = record { front = []; back = p; whole = refl; front_leads = refl }
led_split os [] (i ∷ q) r e = let z : ◌≡◌ {A = ℕ} 0 1 = cc in absurd (omega arith)
led_split os (j ∷ p) (i ∷ q) r e =
    let one : get_or os j 0 ≡ i = cc in
    let more : map (λ j. get_or os j 0) p ≡ q ++ r = cc in
    let s : Split os p q r = led_split os p q r more in
    record { front = j ∷ s.front; back = s.back; whole = ap (λ (l : List ℕ). j ∷ l) s.whole; front_leads = ap₂ ◌∷◌ one s.front_leads }

kept_on_front : (t : Transducer) (s : ℕ) (front back before : List ℕ) → useful t t.start ≡ true → accepts (kept t) (front ++ back) ≡ true
    → through (kept_numbers t 0 t.arcs) front ≡ before → ends t t.start before ≡ s → OnPath (kept t) (renumbered t s)
unfolding kept
kept_on_front t s front back before u a e here =
    let o : OnPath (kept t) (ends (kept t) (renumbered t t.start) front) = accepts_on_path (kept t) front back a in
    let f : LedFrom t (kept t) (kept_numbers t 0 t.arcs) t.start front =
    kept_led t t.start front u (accepting_append (kept t) (renumbered t t.start) front back (accepts_accepting (kept t) (front ++ back) a)).0 in
    let same : ends (kept t) (renumbered t t.start) front ≡ renumbered t s =
    f.there ∙ ap (λ (q : List ℕ). renumbered t (ends t t.start q)) e ∙ ap (renumbered t) here in
    subst (λ (x : ℕ). OnPath (kept t) x) same o

-- A state that is useful stays so.
kept_on_path : (t : Transducer) → Within t → useful t t.start ≡ true → (s : ℕ) → useful t s ≡ true → OnPath (kept t) (renumbered t s)
kept_on_path t w u s v =
    let os : List ℕ = kept_numbers t 0 t.arcs in
    let r : OnPath t s = useful_on_path t s v in
    let l : LedBy t (kept t) os (r.before ++ r.after) = kept_led_by t w (r.before ++ r.after) u (on_path_accepts t s r) in
    let c : Split os l.path r.before r.after = led_split os l.path r.before r.after l.leads in
    kept_on_front t s c.front c.back r.before u (rw c.whole at l.accepting) c.front_leads r.here

kept_useful : (t : Transducer) → Within t → Within (kept t) → useful t t.start ≡ true → Trim (kept t)
unfolding kept
kept_useful t w w' u k h =
    let c : CountedAt (useful t) t.states k = count_onto (useful t) t.states k (rw renumbered_count at h) in
    let v : useful (kept t) (renumbered t c.place) ≡ true =
    on_path_useful (kept t) w' (renumbered t c.place) (kept_on_path t w u c.place c.has) in
    sym (ap (useful (kept t)) (renumbered_count t c.place ∙ c.before)) ∙ v

-- Where a transducer is trim, nothing changes.

pub count_all : (f : ℕ → Bool) (n : ℕ) → ((s : ℕ) → s < n → f s ≡ true) → (k : ℕ) → k ≤ n → count k f ≡ k
unfolding count
count_all f n all zero h = refl
count_all f n all (suc k) h = rw (all k h) (omega (arith, count_all f n all k (omega arith)))

renumbered_same : (t : Transducer) → Trim t → (k : ℕ) → k ≤ t.states → renumbered t k ≡ k
renumbered_same t all k h = renumbered_count t k ∙ count_all (useful t) t.states all k h

pub arcs_same : (t : Transducer) (l : List Arc) → Trim t
    → every (λ a. ltb a.source t.states && ltb a.target t.states) l ≡ true → kept_arcs t l ≡ l
unfolding every passing moved arc_useful
arcs_same t [] all h = refl
arcs_same t (a ∷ l) all h =
    let n : ℕ = t.states in
    let p = and-true (ltb a.source n && ltb a.target n) (every (λ a. ltb a.source n && ltb a.target n) l) h in
    let q = and-true (ltb a.source n) (ltb a.target n) p.0 in
    let from : a.source < n = ltb-true a.source n q.0 in
    let to : a.target < n = ltb-true a.target n q.1 in
    let from_same : renumbered t a.source ≡ a.source = renumbered_same t all a.source (omega arith) in
    let to_same : renumbered t a.target ≡ a.target = renumbered_same t all a.target (omega arith) in
    rw (all a.source from, all a.target to, from_same, to_same, arcs_same t l all p.1)

pub finals_same : (t : Transducer) (l : List Final) → Trim t → every (λ f. ltb f.state t.states) l ≡ true
    → kept_finals t l ≡ l
unfolding every kept_finals
finals_same t [] all h = refl
finals_same t (f ∷ l) all h =
    let n : ℕ = t.states in
    let p = and-true (ltb f.state n) (every (λ f. ltb f.state n) l) h in
    let below : f.state < n = ltb-true f.state n p.0 in
    let same : renumbered t f.state ≡ f.state = renumbered_same t all f.state (omega arith) in
    rw (all f.state below, same, finals_same t l all p.1)

pub kept_same : (t : Transducer) → Good t → Trim t → kept t ≡ t
unfolding kept
kept_same t g all =
    let n : ℕ = t.states in
    let p : Content t = good_tests t g in
    let states : renumbered t n ≡ n = renumbered_same t all n (omega arith) in
    let start : renumbered t t.start ≡ t.start = renumbered_same t all t.start (omega (arith, (good_range t g).start)) in
    rw (states, start, finals_same t t.finals all (finals_inside t p), arcs_same t t.arcs all (arcs_inside t p))

lone_twice : trimmed lone ≡ lone
unfolding lone useful accessible coaccessible entered some_arc is_final
lone_twice = trimmed_lone lone refl

pub trimmed_twice : (t : Transducer) → Good t → trimmed (trimmed t) ≡ trimmed t
trimmed_twice t g = on (useful t t.start) refl
  where
    on : (b : Bool) → useful t t.start ≡ b → trimmed (trimmed t) ≡ trimmed t
    on true u =
        let g' : Good (kept t) = kept_good t u g in
        let w' : Within (kept t) = good_within (kept t) g' in
        let all : Trim (kept t) = kept_useful t (good_within t g) w' u in
        rw (trimmed_kept t u) (trimmed_kept (kept t) (all (kept t).start w'.starts) ∙ kept_same (kept t) g' all)
    on false u = rw (trimmed_lone t u) lone_twice

-- If trimming changes nothing and something accepts, each state lies on an accepting path.
pub trimmed_trim : (t : Transducer) → Within t → trimmed t ≡ t → (p : List ℕ) → accepts t p ≡ true → Trim t
unfolding kept
trimmed_trim t w e p a =
    let same : kept t ≡ t = sym (trimmed_kept t (start_useful t w p a)) ∙ e in
    let all : renumbered t t.states ≡ t.states = ap (λ (u : Transducer). u.states) same in
    count_full t.states (useful t) (omega (arith, all, renumbered_count t t.states))
