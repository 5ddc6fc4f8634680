-- If the accepting paths of a transducer stand for things of a kind, its listing has a line for each of them. Assumes nothing.
use mathlib.Core.Path.{◌≡◌, refl, ap, ◌∙◌}
use mathlib.Core.Bool.{true, false}
use mathlib.Core.Logic.{◌↔◌}
use mathlib.Core.List.{List, [], ◌∷◌, ◌++◌, map, append_assoc, append-nil, map-append}
use Prim.Native.Nat.{ℕ, zero, suc, ◌+◌, ◌≤◌, ◌<◌}
use native.Mathlib.Omega.{arith}
use lib.ListN.{length, get_or, take, length-map}
use lib.Seq.{take-suc, take_all, length-take-le}
use Rattle.transducer.specs.Format.{Transducer}
use Rattle.transducer.proofs.Runs.{Within}
use Rattle.paths.specs.Count.{paths, endless, nth_path}
use Rattle.paths.proofs.Order.{sorted_places}
use Rattle.paths.proofs.Endless.{mem_paths, paths_sorted}
use Rattle.paths.proofs.NthPath.{nth_path_accepts}
use Rattle.claim.specs.Kind.{Kind, StandsFor, PathsAre, InfinitelyMany, EachOnce}
use Rattle.claim.proofs.Counting.{endless_infinitely_many, listed_once}
use Rattle.listing.specs.Text.{line, line_of, lines}
use Rattle.printed.specs.PrintedText.{InPathOrder, thing_lines}

-- One line more.
thing_lines_snoc : (K : Kind) (k : ℕ) (l : List K.Thing) (x : K.Thing)
    → thing_lines K k (l ++ (x ∷ [])) ≡ thing_lines K k l ++ line (k + length l) (K.cost x) (K.output x)
unfolding thing_lines
thing_lines_snoc K k [] x =
    let e : k + 0 ≡ k = omega arith in
    rw (e, append-nil (line k (K.cost x) (K.output x)))
thing_lines_snoc K k (y ∷ l) x =
    let e : k + 1 + length l ≡ k + suc (length l) = omega arith in
    rw (thing_lines_snoc K (k + 1) l x, e, append_assoc)

module _ (K : Kind) (w : Transducer) (within : Within w) (to : List ℕ → K.Thing) (are : PathsAre K w to) where
  pub infinite : (endless w ≡ true) ↔ InfinitelyMany K
  infinite = endless_infinitely_many K w within to are

  -- The things that the paths lead to.
  abbrev pub all_things : List K.Thing
  all_things = map to (paths w)

  pub things_once : endless w ≡ false → EachOnce K all_things
  things_once e = listed_once K w within to are e

  pub in_path_order : InPathOrder K w to all_things
  in_path_order =
      record {
        paths = paths w;
        accepted = mem_paths w;
        rising = λ j k h l. sorted_places (paths w) j k (paths_sorted w) h l;
        lead = refl;
      }

  -- The line of a path is that of the thing that it stands for.
  line_of_thing : (k : ℕ) → k < length (paths w) → line_of w k ≡ line k (K.cost (to (nth_path w k))) (K.output (to (nth_path w k)))
  unfolding line_of
  line_of_thing k h =
      let r : StandsFor K w (nth_path w k) (to (nth_path w k)) = are.leads (nth_path w k) (nth_path_accepts w k h) in
      rw (r.costs, r.writes)

  lines_up_to : (n : ℕ) → n ≤ length (paths w) → lines w n ≡ thing_lines K 0 (map to (take n (paths w)))
  unfolding lines thing_lines nth_path
  lines_up_to zero h = refl
  lines_up_to (suc n) h =
      let p : List ℕ = get_or (paths w) n [] in
      let l : List K.Thing = map to (take n (paths w)) in
      let long : 0 + length l ≡ n = omega (arith, length-map (take n (paths w)) to, length-take-le n (paths w) (omega arith)) in
      let next : map to (take (suc n) (paths w)) ≡ l ++ (to p ∷ []) =
      ap (map to) (take-suc (paths w) n [] (omega arith)) ∙ map-append to (take n (paths w)) (p ∷ []) in
      rw (next, thing_lines_snoc K 0 l (to p), long, lines_up_to n (omega arith), line_of_thing n (omega arith))

  pub lines_are_things : lines w (length (paths w)) ≡ thing_lines K 0 all_things
  lines_are_things =
      lines_up_to (length (paths w)) (omega arith)
      ∙ ap (λ (l : List (List ℕ)). thing_lines K 0 (map to l)) (take_all (length (paths w)) (paths w) (omega arith))
