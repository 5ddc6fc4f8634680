-- What the parts of a walk leave in the buffers, over plain lists: a key stored, a flag set, an arc written, its origins written. Assumes
-- nothing.
use mathlib.Core.Path.{◌≡◌, refl, sym, ap, ◌∙◌}
use mathlib.Core.Bool.{Bool, true, false, ◌||◌, not}
use mathlib.Core.List.{List, [], ◌∷◌, ◌++◌}
use Prim.Native.Nat.{ℕ, suc, ◌+◌, ◌*◌, ◌≤◌, ◌<◌, min}
use native.Mathlib.Nat.{mul-suc, mul-le-mul_left}
use native.Mathlib.Omega.{arith}
use lib.Bits.{bit_or}
use lib.Dec.{ltb, eqb}
use lib.ListN.{length, length-append}
use lib.Seq.{sets, length-sets, take-append-le}
use mir.Val.{bool_byte}
use borrow.Author.Tests.{ltb-true, ltb-false}
use Rattle.transducer.specs.declared.Arc.{Arc}
use Rattle.transducer.specs.Format.{max_arcs, max_states, weight_good}
use Rattle.transducer.specs.Encode.{arc_record}
use Rattle.explore.specs.declared.Walk.{Walk}
use Rattle.explore.specs.Explore.{there, place}
use Rattle.explore.specs.Chain.{Chained}
use Rattle.explore.specs.Walk.{with_key, flag, ArcsHeld, OriginsHeld, Recorded, traced_by, Records}
use Rattle.wire.proofs.Bool.{by_test}
use Rattle.explore.proofs.Member.{place_length}
use Rattle.explore.proofs.Search.{place_new, place_old}
use Rattle.explore.proofs.Writing.{written_next, written_full, front_next}

-- A key stored

module _ (xs : List ℕ) (key count number : ℕ) (long : length xs ≡ count) (is : number ≡ place eqb key xs) where
  pub found_new : number ≡ count → there eqb key xs ≡ false
  found_new e = place_new key xs (sym is ∙ e ∙ sym long)

  pub found_old : (number ≡ count → ⊥) → there eqb key xs ≡ true
  found_old ne = place_old key xs (λ e. ne (is ∙ e ∙ long))

  module _ (states heads links : List ℕ) where
    pub stored_new : number ≡ count → Chained (xs ++ (key ∷ [])) states heads links
        → Chained (with_key key xs) states heads links × (count + 1 ≡ length (with_key key xs))
    unfolding with_key
    stored_new e chained =
        let size : count + 1 ≡ length (xs ++ (key ∷ [])) = omega (arith, length-append xs (key ∷ [])) in
        rw (found_new e) (chained, size)

    pub stored_old : (number ≡ count → ⊥) → Chained xs states heads links
        → Chained (with_key key xs) states heads links × (count ≡ length (with_key key xs))
    unfolding with_key
    stored_old ne chained = rw (found_old ne) (chained, sym long)

-- What a search leaves that stores a new key where it ends: the key's number, the keys with it, and the walk, of which only the states change.
pub record KeyKept (key : ℕ) (xs : List ℕ) (number : ℕ) (w w' : Walk) (states heads links : List ℕ) : Type 0 where
  pub number_is : number ≡ place eqb key xs
  pub small : number < max_states
  pub chained : Chained (with_key key xs) states heads links
  pub counted : w'.states ≡ length (with_key key xs)
  pub rest_stays : w' ≡ record { states = w'.states; arcs = w.arcs; overflow = w.overflow; full = w.full }

module _ (key : ℕ) {xs : List ℕ} {w w' : Walk} {number : ℕ} {s s' h h' l l' : List ℕ} (long : length xs ≡ w.states) (few : length xs ≤ max_states)
    (states : s' ≡ s) (heads : h' ≡ h) (links : l' ≡ l) where
  pub kept_new : place eqb key xs ≡ length xs → (w.states ≡ max_states → ⊥) → Chained (xs ++ (key ∷ [])) s h l → number ≡ w.states
      → w' ≡ record { states = w.states + 1; arcs = w.arcs; overflow = w.overflow; full = w.full } → KeyKept key xs number w w' s' h' l'
  unfolding with_key
  kept_new none room chained is walk =
      let absent : there eqb key xs ≡ false = place_new key xs none in
      let size : length (xs ++ (key ∷ [])) ≡ w.states + 1 = length-append xs (key ∷ []) ∙ omega arith in
      record {
        number_is = is ∙ sym long ∙ sym none;
        small = omega arith;
        chained = rw (states, heads, links, absent) chained;
        counted = rw (walk, absent) (sym size);
        rest_stays = rw walk;
      }

  pub kept_old : number ≡ place eqb key xs → there eqb key xs ≡ true → Chained xs s h l → w' ≡ w → KeyKept key xs number w w' s' h' l'
  unfolding with_key
  kept_old is old chained walk =
      record {
        number_is = is;
        small = omega (arith, place_length eqb key xs old);
        chained = rw (states, heads, links, old) chained;
        counted = rw (walk, old) (sym long);
        rest_stays = rw walk;
      }

-- Flags

-- A flag joined with one more test, as code joins them.
or_flag : (b c : Bool) → bit_or (flag b) (bool_byte c) ≡ flag (b || c)
unfolding flag
or_flag true true = refl
or_flag true false = refl
or_flag false true = refl
or_flag false false = refl

pub flag_true : (b : Bool) → (flag b ≡ 0 → ⊥) → b ≡ true
unfolding flag
flag_true true h = refl
flag_true false h = absurd (h refl)

pub flag_false : (b : Bool) → flag b ≡ 0 → b ≡ false
unfolding flag
flag_false true h = absurd (omega arith)
flag_false false h = refl

-- An arc written

module _ (as' : List Arc) (overflow : Bool) (w w' : Walk) (table : List ℕ) (a : Arc) (held : ArcsHeld as' overflow w table) where
  abbrev light : Bool
  light = weight_good a.weight

  more_dear : w'.overflow ≡ bit_or w.overflow (bool_byte (not light)) → w'.overflow ≡ flag (overflow || not light)
  more_dear e = e ∙ ap (λ (d : ℕ). bit_or d (bool_byte (not light))) held.overflow_is ∙ or_flag overflow (not light)

  pub arcs_held_next : (table' : List ℕ) → w.arcs < max_arcs → w'.arcs ≡ w.arcs + 1 → w'.overflow ≡ bit_or w.overflow (bool_byte (not light))
      → table' ≡ sets table (16 * w.arcs) (arc_record a)
      → ArcsHeld (as' ++ (a ∷ [])) (overflow || not light) w' table'
  arcs_held_next table' less counts dears t =
      let long : length as' ≡ w.arcs = omega (arith, held.arcs_are) in
      record {
        arcs_are = omega (arith, length-append as' (a ∷ []));
        overflow_is = more_dear dears;
        table_long = rw (t, length-sets table (16 * w.arcs) (arc_record a)) held.table_long;
        written = rw t (written_next w.arcs as' a table long less held.table_long held.written);
      }

  pub arcs_held_full : max_arcs ≤ w.arcs → w'.arcs ≡ max_arcs + 1 → w'.overflow ≡ bit_or w.overflow (bool_byte (not light))
      → ArcsHeld (as' ++ (a ∷ [])) (overflow || not light) w' table
  arcs_held_full full counts dears =
      let long : max_arcs ≤ length as' = omega (arith, held.arcs_are) in
      record {
        arcs_are = omega (arith, length-append as' (a ∷ []));
        overflow_is = more_dear dears;
        table_long = held.table_long;
        written = written_full as' a table long held.written;
      }

-- Its origins written

module _ (width count : ℕ) (os vs origins : List ℕ) (held : OriginsHeld width count os origins) (wide : length vs ≡ width) where
  paired_next : length (os ++ vs) ≡ width * suc count
  paired_next = length-append os vs ∙ (rw (held.paired, wide, mul-suc width count))

  pub origins_held_next : count < max_arcs → OriginsHeld width (suc count) (os ++ vs) (sets origins (width * count) vs)
  origins_held_next less =
      let n : min count max_arcs ≡ count = omega arith in
      let n' : min (suc count) max_arcs ≡ suc count = omega arith in
      let e : width * suc count ≡ width * count + length vs = mul-suc width count ∙ ap (λ (k : ℕ). width * count + k) (sym wide) in
      let inside : width * suc count ≤ width * max_arcs = mul-le-mul_left width less in
      let room : width * count + length vs ≤ length origins = omega (arith, held.origins_long) in
      record {
        origins_long = rw (length-sets origins (width * count) vs) held.origins_long;
        paired = paired_next;
        traced = rw (n', e) (front_next os origins (width * count) vs held.paired room (rw n at held.traced));
      }

  pub origins_held_full : max_arcs ≤ count → OriginsHeld width (suc count) (os ++ vs) origins
  origins_held_full full =
      let n : min count max_arcs ≡ max_arcs = omega arith in
      let n' : min (suc count) max_arcs ≡ max_arcs = omega arith in
      let inside : width * max_arcs ≤ width * count = mul-le-mul_left width full in
      let short : width * max_arcs ≤ length os = omega (arith, held.paired) in
      record {
        origins_long = held.origins_long;
        paired = paired_next;
        traced = rw (n', take-append-le (width * max_arcs) os vs short) (rw n at held.traced);
      }

-- An arc and its origins recorded, the origins where there is room for the arc.
pub recorded_more : (width : ℕ) (as' : List Arc) (os vs : List ℕ) (overflow : Bool) (w w' : Walk) (table table' origins origins' : List ℕ) (a : Arc)
    → Recorded width as' os overflow w table origins → Records a w w' table table' → length vs ≡ width → origins' ≡ traced_by width w.arcs vs origins
    → Recorded width (as' ++ (a ∷ [])) (os ++ vs) (overflow || not (weight_good a.weight)) w' table' origins'
unfolding traced_by
recorded_more width as' os vs overflow w w' table table' origins origins' a held records wide o =
    record { arcs_held = records.one_more as' overflow held.arcs_held; origins_held = rw (o, one) both }
  where
    one : length (as' ++ (a ∷ [])) ≡ suc (length as')
    one = length-append as' (a ∷ []) ∙ omega arith

    both : OriginsHeld width (suc (length as')) (os ++ vs) (traced_by width w.arcs vs origins)
    both =
        by_test (ltb w.arcs max_arcs)
        (λ e. let l : w.arcs < max_arcs = ltb-true w.arcs max_arcs e in
        let same : w.arcs ≡ length as' = omega (arith, held.arcs_held.arcs_are) in
        rw (e, same) (origins_held_next width (length as') os vs origins held.origins_held wide (omega arith)))
        (λ e. let l : max_arcs ≤ w.arcs = ltb-false w.arcs max_arcs e in
        rw e (origins_held_full width (length as') os vs origins held.origins_held wide (omega (arith, held.arcs_held.arcs_are))))
