-- Origins traced on: each number of a list becomes what stands there in another. Assumes nothing.
use Rattle.std.proofs.Common.{◌≡◌, refl, sym, ap, ap₂, ◌∙◌, List, [], ◌∷◌, ◌++◌, map, ℕ, suc, ◌+◌, ◌-◌, ◌≤◌, ◌<◌, length, get_or, set, take, drop, replicate, length-append, length-take-le, zero-add, arith}
use Rattle.std.proofs.lemmas.List.{length-map}
use Rattle.std.proofs.lemmas.List.Edits.{sets, map_over_more}
use Rattle.std.proofs.lemmas.Grind.{common_steps}
use lib.Seq.{sets-eq, drop_at}
use Rattle.wire.specs.Bytes.{filled}

-- A loop that changes each element in turn: the elements from i on are as they were.
module _ (f : ℕ → ℕ) (xs ys : List ℕ) (i : ℕ) (so_far : ys ≡ map f (take i xs) ++ drop i xs) where
  pub still_there : i < length xs → get_or ys i 0 ≡ get_or xs i 0
  still_there less = grind (arith, common_steps)

  pub one_changed : i < length xs → set ys i (f (get_or ys i 0)) ≡ map f (take (i + 1) xs) ++ drop (i + 1) xs
  one_changed less =
      let less' : i < length ys = grind (arith, common_steps) in
      map_over_more f xs ys i (get_or ys i 0) less so_far (grind (arith, common_steps))

  pub all_changed : length xs ≤ i → ys ≡ map f xs
  all_changed stop = grind (arith, common_steps)

-- A front of some length, changed, stands in place of what was there.
pub front_changed : (f : ℕ → ℕ) (xs : List ℕ) (count : ℕ) → count ≤ length xs
    → map f (take count xs) ++ drop count xs ≡ sets xs 0 (map f (take count xs))
front_changed f xs count room =
    let long : length (map f (take count xs)) ≡ count = length-map (take count xs) f ∙ length-take-le count xs room in
    sym (sets-eq (map f (take count xs)) xs 0 (omega arith)
    ∙ ap (λ (n : ℕ). map f (take count xs) ++ drop n xs) (zero-add _ ∙ long))

-- What is stored over the written part of a buffer, as long as that, takes its place.
pub refilled : (room : ℕ) (xs ys : List ℕ) → length ys ≡ length xs → sets (filled room xs) 0 ys ≡ filled room ys
unfolding filled
refilled room xs ys e =
    let pad : List ℕ = replicate (room - length xs) 0 in
    sets-eq ys (xs ++ pad) 0 (omega (arith, length-append xs pad))
    ∙ ap (λ (n : ℕ). ys ++ drop n (xs ++ pad)) (zero-add (length ys) ∙ e)
    ∙ ap (λ (l : List ℕ). ys ++ l) (drop_at xs pad (length xs) refl)
    ∙ ap (λ (n : ℕ). ys ++ replicate (room - n) 0) (sym e)

-- Two functions that agree on the elements of a list.
pub map_same : (f g : ℕ → ℕ) (ks : List ℕ) → ((j : ℕ) → j < length ks → f (get_or ks j 0) ≡ g (get_or ks j 0)) → map f ks ≡ map g ks
map_same f g [] h = refl
map_same f g (k ∷ ks) h = ap₂ ◌∷◌ (h 0 (omega arith)) (map_same f g ks (λ j l. h (suc j) (omega arith)))
