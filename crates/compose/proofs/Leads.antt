-- A trail of composed steps leads to a pair of paths, of which the right fits what the left writes. Assumes nothing.
use mathlib.Core.Path.{◌≡◌, refl, sym, ap, ◌∙◌}
use mathlib.Core.Bool.{true}
use mathlib.Core.List.{List, [], ◌∷◌}
use Prim.Native.Nat.{ℕ, ◌<◌}
use lib.ListN.{length}
use Rattle.transducer.specs.Format.{Transducer}
use Rattle.transducer.specs.Path.{arc, runs, ends, non_empty, read_by, written_by, arcs_cost}
use Rattle.transducer.specs.Each.{fits, passed, path_fits, path_passed}
use Rattle.wire.proofs.Bool.{true_and}
use Rattle.explore.specs.Explore.{Step}
use Rattle.steps.specs.declared.Origin.{Origin}
use Rattle.steps.specs.declared.State.{State}
use Rattle.steps.specs.Steps.{left_alone, right_alone, both_step, steps}
use Rattle.transducer.specs.Weight.{plus}
use Rattle.transducer.proofs.Fits.{fits_some}
use Rattle.transducer.proofs.FitPaths.{path_fits_none, path_fits_some, path_passed_none, path_passed_some}
use Rattle.transducer.proofs.Paths.{cons_runs, empty_passed, symbol_kept}
use Rattle.transducer.proofs.Weights.{plus_assoc, plus_behind, plus_across}
use Rattle.explore.proofs.Member.{mem_in}
use Rattle.explore.proofs.Trails.{Trail, inputs, outputs, weights}
use Rattle.compose.proofs.Trail.{add_left, add_right, lefts, rights}
use Rattle.steps.proofs.Moves.{Move, by_left, by_right, by_both, step_move}

pub record Leads (t u : Transducer) (x : State) (ss : List (Step State Origin)) (y : State) : Type 0 where
  pub left_runs : runs t x.left (lefts ss) ≡ true
  pub left_ends : ends t x.left (lefts ss) ≡ y.left
  pub right_runs : runs u x.right (rights ss) ≡ true
  pub right_ends : ends u x.right (rights ss) ≡ y.right
  pub meets : path_fits u (written_by t (lefts ss)) (rights ss) ≡ true
  pub reads : inputs ss ≡ read_by t (lefts ss)
  pub writes : outputs ss ≡ path_passed u (written_by t (lefts ss)) (rights ss)
  pub costs : weights ss ≡ plus (arcs_cost t (lefts ss)) (arcs_cost u (rights ss))

leads_none : (t u : Transducer) (x y : State) → x ≡ y → Leads t u x [] y
unfolding runs ends written_by read_by path_fits path_passed arcs_cost inputs outputs weights lefts rights
leads_none t u x y e =
    record {
      left_runs = refl;
      left_ends = ap (λ (z : State). z.left) e;
      right_runs = refl;
      right_ends = ap (λ (z : State). z.right) e;
      meets = refl;
      reads = refl;
      writes = refl;
      costs = refl;
    }

leads_left : (t u : Transducer) (x : State) (i : ℕ) (ss : List (Step State Origin)) (y : State) → i < length t.arcs → (arc t i).source ≡ x.left
    → (arc t i).output ≡ 0 → Leads t u (left_alone x i (arc t i)).target ss y → Leads t u x (left_alone x i (arc t i) ∷ ss) y
unfolding left_alone ends written_by read_by arcs_cost inputs outputs weights lefts rights add_left add_right
leads_left t u x i ss y below leaves silent l =
    record {
      left_runs = cons_runs t x.left i (lefts ss) (record { below = below; leaves = leaves; rest = l.left_runs });
      left_ends = l.left_ends;
      right_runs = l.right_runs;
      right_ends = l.right_ends;
      meets = rw (empty_passed (arc t i).output (written_by t (lefts ss)) silent) l.meets;
      reads = ap (non_empty (arc t i).input) l.reads;
      writes = empty_passed 0 (outputs ss) refl ∙ (rw (empty_passed (arc t i).output (written_by t (lefts ss)) silent) l.writes);
      costs = ap (plus (arc t i).weight) l.costs ∙ sym (plus_assoc (arc t i).weight (arcs_cost t (lefts ss)) (arcs_cost u (rights ss)));
    }

leads_right : (t u : Transducer) (x : State) (j : ℕ) (ss : List (Step State Origin)) (y : State) → j < length u.arcs → (arc u j).source ≡ x.right
    → (arc u j).input ≡ 0 → Leads t u (right_alone x j (arc u j)).target ss y → Leads t u x (right_alone x j (arc u j) ∷ ss) y
unfolding right_alone ends written_by read_by arcs_cost inputs outputs weights lefts rights add_left add_right
leads_right t u x j ss y below leaves quiet l =
    record {
      left_runs = l.left_runs;
      left_ends = l.left_ends;
      right_runs = cons_runs u x.right j (rights ss) (record { below = below; leaves = leaves; rest = l.right_runs });
      right_ends = l.right_ends;
      meets = path_fits_none u j (rights ss) (written_by t (lefts ss)) quiet ∙ l.meets;
      reads = empty_passed 0 (inputs ss) refl ∙ l.reads;
      writes =
          ap (non_empty (passed 0 (arc u j))) l.writes ∙ sym (path_passed_none u j (rights ss) (written_by t (lefts ss)) quiet);
      costs = ap (plus (arc u j).weight) l.costs ∙ plus_behind (arc u j).weight (arcs_cost t (lefts ss)) (arcs_cost u (rights ss));
    }

leads_both : (t u : Transducer) (x : State) (i j : ℕ) (ss : List (Step State Origin)) (y : State) → i < length t.arcs → j < length u.arcs
    → (arc t i).source ≡ x.left → (arc u j).source ≡ x.right → ((arc t i).output ≡ 0 → ⊥) → fits u (arc t i).output (arc u j) ≡ true
    → Leads t u (both_step i (arc t i) j (arc u j)).target ss y → Leads t u x (both_step i (arc t i) j (arc u j) ∷ ss) y
unfolding both_step ends written_by read_by arcs_cost inputs outputs weights lefts rights add_left add_right
leads_both t u x i j ss y i-below j-below i-leaves j-leaves some fitted l =
    let c : ℕ = (arc t i).output in
    let cs : List ℕ = written_by t (lefts ss) in
    let reads : (arc u j).input ≡ 0 → ⊥ = fits_some u c (arc u j) some fitted in
    record {
      left_runs = cons_runs t x.left i (lefts ss) (record { below = i-below; leaves = i-leaves; rest = l.left_runs });
      left_ends = l.left_ends;
      right_runs = cons_runs u x.right j (rights ss) (record { below = j-below; leaves = j-leaves; rest = l.right_runs });
      right_ends = l.right_ends;
      meets =
          rw (symbol_kept c cs some)
          (path_fits_some u j (rights ss) c cs reads ∙ true_and (fits u c (arc u j)) (path_fits u cs (rights ss)) fitted l.meets);
      reads = ap (non_empty (arc t i).input) l.reads;
      writes = rw (symbol_kept c cs some) (ap (non_empty (passed c (arc u j))) l.writes ∙ sym (path_passed_some u j (rights ss) c cs reads));
      costs =
          ap (plus (plus (arc t i).weight (arc u j).weight)) l.costs
          ∙ plus_across (arc t i).weight (arc u j).weight (arcs_cost t (lefts ss)) (arcs_cost u (rights ss));
    }

leads_step : (t u : Transducer) (x : State) (s : Step State Origin) (ss : List (Step State Origin)) (y : State) → Move t u x s
    → Leads t u s.target ss y → Leads t u x (s ∷ ss) y
leads_step t u x s ss y (by_left m) = rw m.made (leads_left t u x m.left_arc ss y m.below m.leaves m.silent)
leads_step t u x s ss y (by_right m) = rw m.made (leads_right t u x m.right_arc ss y m.below m.leaves m.quiet)
leads_step t u x s ss y (by_both m) =
    rw m.made
    (leads_both t u x m.left_arc m.right_arc ss y m.left_below m.right_below m.left_leaves m.right_leaves m.writes m.fitted)

pub trail_leads : (t u : Transducer) (x : State) (ss : List (Step State Origin)) (y : State) → Trail (steps t u) x ss y → Leads t u x ss y
trail_leads t u x [] y h = leads_none t u x y h
trail_leads t u x (s ∷ ss) y h = leads_step t u x s ss y (step_move t u x s (mem_in h.0)) (trail_leads t u s.target ss y h.1)
