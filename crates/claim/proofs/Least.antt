-- Where accepting paths and the things of a kind stand one to one, what the shortest path says of the paths it says of the things: refused by 16 exactly
-- where there is nothing of the kind, by 19 exactly where there is no least cost, and else the least. Assumes nothing.
use mathlib.Core.Path.{◌≡◌, sym, ◌∙◌}
use mathlib.Core.Bool.{true}
use mathlib.Core.Logic.{◌↔◌}
use mathlib.Core.List.{List}
use Prim.Native.Nat.{ℕ}
use Rattle.wire.proofs.Bool.{clash, is_false}
use Rattle.transducer.specs.Format.{Transducer, refusal, decode}
use Rattle.transducer.specs.Path.{accepts, path_cost}
use Rattle.transducer.specs.Weight.{AtMost}
use Rattle.transducer.proofs.Runs.{Within}
use Rattle.compose.specs.Claim.{Least}
use Rattle.shortest.specs.Claim.{ShortestPath, NoLeastCost, BestOfAll, TellsPath, ShortestClaim}
use Rattle.shortest.proofs.Claimed.{shortest_claimed}
use Rattle.claim.specs.Kind.{Kind, StandsFor, PathsAre}
use Rattle.claim.specs.Agree.{Nothing, NoLeast, TellsLeast}

module _ (K : Kind) (bs : List ℕ) (to : List ℕ → K.Thing) (ok : refusal bs ≡ 0) (within : Within (decode bs)) (are : PathsAre K (decode bs) to)
    (call : ShortestPath bs) where
  abbrev w : Transducer
  w = decode bs

  claim : ShortestClaim w call.answer call.arcs_left call.labels_left
  claim =
      shortest_claimed bs call.answer call.arcs call.arcs_left call.labels call.labels_left ok within call.arcs_room call.labels_room
      call.says

  -- A path for each thing, and a thing for each path, at the same cost.
  record PathOf (x : K.Thing) : Type 0 where
    path : List ℕ
    accepting : accepts w path ≡ true
    costs : path_cost w path ≡ K.cost x

  path_of : (x : K.Thing) → K.Is x → PathOf x
  path_of x is =
      let p = are.every x is in
      let s : StandsFor K w p.0 x = rw p.2 at (are.leads p.0 p.1) in
      record { path = p.0; accepting = p.1; costs = s.costs }

  -- 16

  none : (call.answer.refusal ≡ 16) ↔ Nothing K
  none = (
    λ h x is. let p : PathOf x = path_of x is in clash p.accepting (claim.none.0 h p.path),
    λ h. claim.none.1 (λ p. is_false (accepts w p) (λ e. h (to p) (are.leads p e).is)),
  )

  -- 19

  over : NoLeastCost w → NoLeast K
  over h c =
      let p = h c in
      let s : StandsFor K w p.0 (to p.0) = are.leads p.0 p.1 in
      (to p.0, s.is, rw s.costs at p.2)

  back : NoLeast K → NoLeastCost w
  back h c =
      let x = h c in
      let p : PathOf x.0 = path_of x.0 x.1 in
      (p.path, p.accepting, rw p.costs x.2)

  endless : (call.answer.refusal ≡ 19) ↔ NoLeast K
  endless = (λ h. over (claim.bottomless.0 h), λ h. claim.bottomless.1 (back h))

  -- The least cost

  least : (p : List ℕ) → BestOfAll w p → TellsPath w p call.answer call.arcs_left call.labels_left
      → Least K.Thing K.Is K.cost call.answer.cost
  least p best tells =
      let s : StandsFor K w p (to p) = are.leads p best.accepting in
      record { best = to p; holds = s.is; costs = sym s.costs ∙ sym tells.cost; least = no_dearer }
    where
      no_dearer : (x : K.Thing) → K.Is x → AtMost call.answer.cost (K.cost x)
      no_dearer x is =
          let q : PathOf x = path_of x is in
          let low : AtMost (path_cost w p) (path_cost w q.path) = best.least q.path q.accepting in
          rw (tells.cost, ← q.costs) low

  some : (Nothing K → ⊥) → (NoLeast K → ⊥) → (call.answer.refusal ≡ 0) × Least K.Thing K.Is K.cost call.answer.cost
  some h g =
      let r = claim.told (λ e. h (none.0 e)) (λ e. g (endless.0 e)) in
      (r.0, least r.1 r.2 r.3)

  pub tells_least : TellsLeast K call.answer
  tells_least = record { none = none; endless = endless; some = some }
