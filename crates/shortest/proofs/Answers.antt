-- What `shortest_path` and `shortest_accepted` answer, case by case: a refusal of 1 to 8, a buffer that is too short, 16, 19, and success. Assumes nothing.
use mathlib.Core.Path.{◌≡◌, refl, sym, ap, ◌∙◌}
use mathlib.Core.Bool.{Bool, true, false, ◌||◌, cond}
use mathlib.Core.List.{List, ◌++◌}
use Prim.Native.Nat.{ℕ, ◌-◌, ◌≤◌, ◌<◌}
use native.Mathlib.Omega.{arith}
use borrow.Author.Tests.{ne_eqb, lt-ltb, le-ltb}
use lib.Dec.{eqb, ltb}
use lib.ListN.{length, take, replicate}
use lib.Seq.{take_at}
use Rattle.wire.specs.Bytes.{filled}
use Rattle.wire.proofs.Places.{length_filled}
use Rattle.transducer.specs.Format.{Transducer, max_states, max_path, decode, refusal}
use Rattle.transducer.specs.Path.{accepts, runs, path_cost}
use Rattle.transducer.specs.Entry.{or_else}
use Rattle.transducer.specs.Weight.{Weight, AtMost, Below}
use Rattle.transducer.proofs.Runs.{accepting_accepts}
use Rattle.report.specs.Answer.{Told}
use Rattle.reach.specs.Reach.{accessible, coaccessible}
use Rattle.reach.proofs.Reach.{accessible_start, path_coaccessible}
use Rattle.cycles.specs.Cycles.{NegativeCycleFrom, negative_cycle}
use Rattle.cycles.proofs.Costs.{cost_start}
use Rattle.cycles.proofs.Cycles.{negative_cycle_accepting}
use Rattle.cycles.proofs.NegativeCycles.{falls_start, negative_cycle_true}
use Rattle.report.specs.Tell.{Tells}
use Rattle.report.proofs.PathTold.{refused_told, told_refused, told_found}
use Rattle.reach.proofs.Sized.{Sized}
use Rattle.relax.specs.Size.{Size}
use Rattle.relax.specs.Tentative.{Sizes, unreached, cost_at, by_state, Settled}
use Rattle.distance.specs.Ended.{DistancesSay}
use Rattle.distance.proofs.Settled.{few_arcs, reached_accepting, no_path_none}
use Rattle.shortest.specs.Shortest.{shortest}
use Rattle.shortest.specs.Tight.{first_tight, follow}
use Rattle.shortest.specs.Entry.{accepted_shortest_refusal, shortest_refusal, ShortestSays}
use Rattle.shortest.proofs.Followed.{Followed, followed, rises, follow_shortest}

-- The shortest path along an arc for each state.
pub record Found (t : Transducer) (v : ℕ → ℕ) (start len : ℕ) : Type 0 where
  pub some : coaccessible t.states t t.start ≡ true
  pub rises : negative_cycle t ≡ false
  pub goes : runs t start (follow len t v start) ≡ true
  pub few : len ≤ max_path
  pub many : length (follow len t v start) ≡ len
  pub is : follow len t v start ≡ shortest t
  pub accepted : accepts t (follow len t v start) ≡ true

pub found : (t : Transducer) → Sized t → (cs : List Weight) (ls : Sizes) (start len : ℕ) {r : Bool} → DistancesSay t (accessible t.states t) cs ls r
    → r ≡ true → start ≡ t.start → Below (cost_at cs start) unreached → len ≡ (by_state ls start).arcs
    → Found t (first_tight t (cost_at cs) (by_state ls)) start len
found t z cs ls start len says on e there l =
    let c : ℕ → Weight = cost_at cs in
    let m : ℕ → Size = by_state ls in
    let v : ℕ → ℕ = first_tight t c m in
    let k : Settled t (accessible t.states t) c m = says.settled on in
    let s : ℕ = t.start in
    let below : s < t.states = z.within.starts in
    let some : Below (c s) unreached = rw e at there in
    let few : (m s).arcs < t.states = few_arcs t z (accessible t.states t) c m k s below some in
    let f : Followed t z c m k s (m s).arcs = followed t z c m k (m s).arcs s below (accessible_start t.states t) some refl in
    let most : t.states ≤ max_states = z.states in
    rw (l, e) (record {
      some = reached_accepting t z (accessible t.states t) c m k s below some;
      rises = rises t z c m k;
      goes = f.accepting.goes;
      few = omega arith;
      many = f.arcs;
      is = follow_shortest t z c m k some;
      accepted = accepting_accepts t (follow (m s).arcs t v s) f.accepting;
    })

-- What it costs.
pub found_costs : (t : Transducer) → Sized t → (cs : List Weight) (ls : Sizes) (start len : ℕ) {r : Bool}
    → DistancesSay t (accessible t.states t) cs ls r → r ≡ true → start ≡ t.start → Below (cost_at cs start) unreached → len ≡ (by_state ls start).arcs
    → path_cost t (follow len t (first_tight t (cost_at cs) (by_state ls)) start) ≡ cost_at cs start
found_costs t z cs ls start len says on e there l =
    let c : ℕ → Weight = cost_at cs in
    let m : ℕ → Size = by_state ls in
    let k : Settled t (accessible t.states t) c m = says.settled on in
    let s : ℕ = t.start in
    let some : Below (c s) unreached = rw e at there in
    let f : Followed t z c m k s (m s).arcs = followed t z c m k (m s).arcs s z.within.starts (accessible_start t.states t) some refl in
    rw (l, e) (sym (cost_start t (follow (m s).arcs t (first_tight t c m) s)) ∙ f.costs)

-- The path in its buffer, as it is told.
pub record Stored (t : Transducer) (len : ℕ) (a' : List ℕ) : Type 0 where
  pub taken : take len a' ≡ shortest t
  pub inside : len ≤ length a'
  pub long : length (take len a') ≡ len
  pub accepted : accepts t (take len a') ≡ true

pub stored : (t : Transducer) (v : ℕ → ℕ) (start len : ℕ) (a a' : List ℕ) → Found t v start len → max_path ≤ length a
    → a' ≡ filled (length a) (follow len t v start) → Stored t len a'
unfolding filled
stored t v start len a a' f room put =
    let p : List ℕ = follow len t v start in
    let many : length p ≡ len = f.many in
    let few : len ≤ max_path = f.few in
    let whole : length a' ≡ length a = ap length put ∙ length_filled (length a) p (omega arith) in
    let taken : take len a' ≡ p = ap (λ (x : List ℕ). take len x) put ∙ take_at p (replicate (length a - length p) 0) len many in
    record { taken = taken ∙ f.is; inside = omega arith; long = ap length taken ∙ many; accepted = rw taken f.accepted }

pub stored_costs : (t : Transducer) {v : ℕ → ℕ} {start len : ℕ} {a' : List ℕ} → Stored t len a' → Found t v start len → {x : Weight}
    → path_cost t (follow len t v start) ≡ x → x ≡ path_cost t (take len a')
stored_costs t st f e = sym e ∙ ap (path_cost t) (f.is ∙ sym st.taken)

module _ (bs : List ℕ) {a b : List ℕ} {n : ℕ} {r : Told} (e : n ≡ refusal bs) where
  -- 1 to 8
  pub shortest_bad : (n ≡ 0 → ⊥) → r ≡ refused_told n → ShortestSays bs (shortest_refusal bs (length a) (length b)) r a a b b
  unfolding shortest_refusal or_else
  shortest_bad nonzero h =
      let rest : ℕ = cond (ltb (length a) max_path || ltb (length b) max_path) 10 (accepted_shortest_refusal (decode bs)) in
      let number : cond (eqb (refusal bs) 0) rest (refusal bs) ≡ n = rw (← e, ne_eqb n 0 nonzero) in
      told_refused (decode bs) (shortest (decode bs)) (shortest_refusal bs (length a) (length b)) n r a b number nonzero h

  -- 10
  pub shortest_short_arcs : n ≡ 0 → length a < max_path → r ≡ refused_told 10 → ShortestSays bs (shortest_refusal bs (length a) (length b)) r a a b b
  unfolding shortest_refusal or_else
  shortest_short_arcs z l h =
      let ok : refusal bs ≡ 0 = sym e ∙ z in
      told_refused (decode bs) (shortest (decode bs)) (shortest_refusal bs (length a) (length b)) 10 r a b (rw (ok, lt-ltb (length a) max_path l))
      (λ q. omega arith) h

  pub shortest_short_labels : n ≡ 0 → max_path ≤ length a → length b < max_path → r ≡ refused_told 10
      → ShortestSays bs (shortest_refusal bs (length a) (length b)) r a a b b
  unfolding shortest_refusal or_else
  shortest_short_labels z la l h =
      let ok : refusal bs ≡ 0 = sym e ∙ z in
      told_refused (decode bs) (shortest (decode bs)) (shortest_refusal bs (length a) (length b)) 10 r a b
      (rw (ok, le-ltb (length a) max_path la, lt-ltb (length b) max_path l)) (λ q. omega arith) h

  -- Accepted bytes and enough room: answered as `shortest_accepted` does.
  pub shortest_passed : {a' b' : List ℕ} → n ≡ 0 → max_path ≤ length a → max_path ≤ length b
      → ShortestSays bs (accepted_shortest_refusal (decode bs)) r a a' b b' → ShortestSays bs (shortest_refusal bs (length a) (length b)) r a a' b b'
  unfolding shortest_refusal or_else
  shortest_passed z la lb says =
      let ok : refusal bs ≡ 0 = sym e ∙ z in
      rw (ok, le-ltb (length a) max_path la, le-ltb (length b) max_path lb) says

module _ (bs : List ℕ) {a b : List ℕ} {r : Told} where
  -- 16
  pub shortest_none : {cs : List Weight} {ls : Sizes} {start : ℕ} {d : Bool} → Sized (decode bs)
      → DistancesSay (decode bs) (accessible (decode bs).states (decode bs)) cs ls d → d ≡ true
      → start ≡ (decode bs).start → AtMost unreached (cost_at cs start)
      → r ≡ refused_told 16 → ShortestSays bs (accepted_shortest_refusal (decode bs)) r a a b b
  shortest_none {cs} {ls} {start} size says on s q h =
      let t : Transducer = decode bs in
      let k : Settled t (accessible t.states t) (cost_at cs) (by_state ls) = says.settled on in
      let none : coaccessible t.states t t.start ≡ false =
      no_path_none t size (accessible t.states t) (cost_at cs) (by_state ls) k t.start size.within.starts (accessible_start t.states t)
      (rw s at q) in
      told_refused (decode bs) (shortest (decode bs)) (accepted_shortest_refusal (decode bs)) 16 r a b (rw none) (λ q'. omega arith) h

  -- 19: some path accepts, and a cycle below zero lies on it.
  pub shortest_falls : {cs : List Weight} {ls : Sizes} {d : Bool} → Sized (decode bs)
      → DistancesSay (decode bs) (accessible (decode bs).states (decode bs)) cs ls d → d ≡ false
      → r ≡ refused_told 19 → ShortestSays bs (accepted_shortest_refusal (decode bs)) r a a b b
  shortest_falls {cs} {ls} size says off h =
      let t : Transducer = decode bs in
      let f : NegativeCycleFrom t t.start = falls_start t (says.falls off) in
      let some : coaccessible t.states t t.start ≡ true =
      path_coaccessible t size.within t.start (f.lead ++ (f.cycle ++ f.rest)) (negative_cycle_accepting t t.start f) in
      told_refused (decode bs) (shortest (decode bs)) (accepted_shortest_refusal (decode bs)) 19 r a b
      (rw (some, negative_cycle_true t size.within f)) (λ q'. omega arith) h

  pub shortest_told : {v : ℕ → ℕ} {start len : ℕ} {a' b' : List ℕ} → max_path ≤ length a → Found (decode bs) v start len
      → a' ≡ filled (length a) (follow len (decode bs) v start)
      → Tells (decode bs) (take len a') r b b' → ShortestSays bs (accepted_shortest_refusal (decode bs)) r a a' b b'
  shortest_told {v} {start} {len} {a'} {b'} la f put told' =
      let st : Stored (decode bs) len a' = stored (decode bs) v start len a a' f la put in
      let told : Tells (decode bs) (shortest (decode bs)) r b b' = rw st.taken at told' in
      told_found (decode bs) (shortest (decode bs)) (accepted_shortest_refusal (decode bs)) r a a' b b'
      (rw (f.some, f.rises)) (put ∙ ap (filled (length a)) f.is) told
