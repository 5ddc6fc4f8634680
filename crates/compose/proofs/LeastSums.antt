-- Where two kinds of things stand against each other with equal costs, the least cost of the one is the least of the other; so least costs
-- over paths are least sums over pairs. Assumes nothing.
use mathlib.Core.Path.{◌≡◌, sym, ◌∙◌}
use mathlib.Core.List.{List}
use Prim.Native.Nat.{ℕ}
use Rattle.transducer.specs.Format.{Transducer}
use Rattle.transducer.specs.Path.{path_cost}
use Rattle.transducer.specs.Weight.{Weight, plus, AtMost}
use Rattle.transducer.proofs.Weights.{most_both}
use Rattle.compose.specs.Claim.{met_at, StandsFor, OneToOne, Least, PathBetween, TwoPaths, PairBetween, LeastSums}

-- For each x of the one kind there is one of the other, at the same cost.
pub record Matched (X Y : Type 0) (Q : Y → Type 0) (cost : X → Weight) (cost' : Y → Weight) (x : X) : Type 0 where
  pub other : Y
  pub holds : Q other
  pub same : cost' other ≡ cost x

pub least_unique : (X : Type 0) (P : X → Type 0) (cost : X → Weight) (c c' : Weight) → Least X P cost c → Least X P cost c' → c ≡ c'
least_unique X P cost c c' l l' =
    let a : AtMost c (cost l'.best) = l.least l'.best l'.holds in
    let b : AtMost c' (cost l.best) = l'.least l.best l.holds in
    let e : cost l.best ≡ c = l.costs in
    let e' : cost l'.best ≡ c' = l'.costs in
    most_both c c' (rw e' at a) (rw e at b)

module _ (X Y : Type 0) (P : X → Type 0) (Q : Y → Type 0) (cost : X → Weight) (cost' : Y → Weight) where
  pub least_over : ((x : X) → P x → Matched X Y Q cost cost' x) → ((y : Y) → Q y → Matched Y X P cost' cost y) → (c : Weight)
      → Least X P cost c → Least Y Q cost' c
  least_over over back c l =
      let m : Matched X Y Q cost cost' l.best = over l.best l.holds in
      record { best = m.other; holds = m.holds; costs = m.same ∙ l.costs; least = below }
    where
      below : (y : Y) → Q y → AtMost c (cost' y)
      below y q =
          let m : Matched Y X P cost' cost y = back y q in
          let h : AtMost c (cost m.other) = l.least m.other m.holds in
          rw m.same at h

pub least_across : (X Y : Type 0) (P : X → Type 0) (Q : Y → Type 0) (cost : X → Weight) (cost' : Y → Weight)
    → ((x : X) → P x → Matched X Y Q cost cost' x) → ((y : Y) → Q y → Matched Y X P cost' cost y) → (c : Weight)
    → (Least X P cost c → Least Y Q cost' c) × (Least Y Q cost' c → Least X P cost c)
least_across X Y P Q cost cost' over back c =
    (least_over X Y P Q cost cost' over back c, least_over Y X Q P cost' cost back over c)

-- Where paths and pairs stand one to one, least costs are least sums.
module _ (t u z : Transducer) (origins : List ℕ) (one : OneToOne t u z origins) where
  abbrev sum : TwoPaths → Weight
  sum paths = plus (path_cost t paths.left) (path_cost u paths.right)

  path_matched : (input output p : List ℕ) → PathBetween z input output p
      → Matched (List ℕ) TwoPaths (PairBetween t u input output) (path_cost z) sum p
  path_matched input output p h =
      let s : StandsFor t u z p (met_at origins 0 p) (met_at origins 1 p) = one.leads p h.accepting in
      record {
        other = record { left = met_at origins 0 p; right = met_at origins 1 p };
        holds = record { pair = s.pair; reads = sym s.reads ∙ h.reads; writes = sym s.writes ∙ h.writes };
        same = sym s.costs;
      }

  pair_matched : (input output : List ℕ) (paths : TwoPaths) → PairBetween t u input output paths
      → Matched TwoPaths (List ℕ) (PathBetween z input output) sum (path_cost z) paths
  pair_matched input output paths h =
      let r = one.every paths.left paths.right h.pair in
      let s : StandsFor t u z r.0 paths.left paths.right = rw (r.2, r.3) at (one.leads r.0 r.1) in
      record {
        other = r.0;
        holds = record { accepting = r.1; reads = s.reads ∙ h.reads; writes = s.writes ∙ h.writes };
        same = s.costs;
      }

  pub one_to_one_least_sums : LeastSums t u z
  unfolding LeastSums
  one_to_one_least_sums input output c =
      least_across (List ℕ) TwoPaths (PathBetween z input output) (PairBetween t u input output) (path_cost z) sum (path_matched input output)
      (pair_matched input output) c
