-- What closing the walk leaves: head and finals written in front of the arcs make the bytes of the lattice before trimming. Assumes nothing.
use mathlib.Core.Path.{◌≡◌, refl, sym, ap, ◌∙◌}
use mathlib.Core.List.{List, ◌++◌}
use Prim.Native.Nat.{ℕ, ◌+◌, ◌*◌, ◌-◌, ◌≤◌, min}
use native.Mathlib.Omega.{arith}
use lib.ListN.{length, take, drop, length-append, length-drop, length-take}
use borrow.Author.Rules.{part_to_end}
use lib.Seq.{sets, sets-eq, length-sets, drop-drop, take_all, take_at, drop_at, take-append-le, length-take-le}
use Rattle.transducer.specs.declared.Final.{Final}
use Rattle.transducer.specs.Format.{max_states, max_arcs, max_bytes, head_bytes, arc_bytes, arcs_at, Transducer}
use Rattle.transducer.specs.Encode.{head_record, final_records, arc_records, encode}
use Rattle.transducer.proofs.Encode.{length_final_records, length_arc_records, length_encode}
use Rattle.explore.specs.declared.Walk.{Walk}
use Rattle.explore.specs.Walk.{Sofar, WalkTold}
use Rattle.explore.proofs.EncodeStored.{encode_stored}
use Rattle.explore.proofs.MovedArcs.{drop_sets_before, sets_same}
use Rattle.lattice.specs.Applying.{arcs_place, key_finals, closed, Closes}

-- What is stored at the front is read there.
take_sets : (l xs : List ℕ) → length xs ≤ length l → take (length xs) (sets l 0 xs) ≡ xs
take_sets l xs room =
    ap (λ (r : List ℕ). take (length xs) r) (sets-eq xs l 0 (omega arith)) ∙ take_at xs (drop (0 + length xs) l) (length xs) refl

module _ (codes : List ℕ) (last : ℕ) {b : Sofar} {w : Walk} {held origins states : List ℕ} (told : WalkTold 1 b w held origins states) where
  -- The keys that stand in the buffer of states, and their finals.
  pub told_keys : take w.states states ≡ b.keys
  told_keys = ap (λ (n : ℕ). take n states) told.states_are ∙ told.stored

  pub told_finals : key_finals codes last (take w.states states) ≡ key_finals codes last b.keys
  told_finals = ap (λ (ks : List ℕ). key_finals codes last ks) told_keys

  -- They are all there.
  pub told_room : (w.states ≤ length states) × (w.states ≤ max_states)
  told_room =
      let n : w.states ≡ length b.keys = told.states_are in
      (omega (arith, ap length told.stored, length-take (length b.keys) states), omega (arith, told.few))

  -- The arcs are held in the part of a buffer from 10,252 on.
  module _ (table : List ℕ) (lent : drop arcs_place table ≡ held) where
    pub whole_long : max_bytes ≤ length table
    whole_long = omega (arith, told.recorded.arcs_held.table_long, ap length lent, length-drop arcs_place table)

    -- There is room for head and finals in front of the arcs.
    pub part_room : (finals place : ℕ) → finals ≡ length (key_finals codes last (take w.states states)) → finals ≤ w.states → place ≡ arcs_at finals
        → arcs_at (length (key_finals codes last (take w.states states)))
        ≤ length (take (length table - (arcs_place - place)) (drop (arcs_place - place) table))
    part_room finals place count few there =
        let from : ℕ = arcs_place - place in
        omega (arith, ap length (part_to_end table from), length-drop from table, told_room.1, whole_long)

    module _ (few_arcs : w.arcs ≤ max_arcs) where
      told_arcs : length b.arcs ≡ w.arcs
      told_arcs = omega (arith, told.recorded.arcs_held.arcs_are)

      -- The records of the arcs stand from 10,252 on.
      arcs_stand : take (length (arc_records b.arcs)) (drop arcs_place table) ≡ arc_records b.arcs
      arcs_stand =
          let m : arc_bytes * min (length b.arcs) max_arcs ≡ length (arc_records b.arcs) = omega (arith, told_arcs, length_arc_records b.arcs) in
          ap (λ (n : ℕ). take n (drop arcs_place table)) (sym m)
          ∙ ap (λ (l : List ℕ). take (arc_bytes * min (length b.arcs) max_arcs) l) lent
          ∙ told.recorded.arcs_held.written
          ∙ ap arc_records (take_all max_arcs b.arcs (omega (arith, told_arcs)))

      pub closes : (finals from : ℕ) (part part1 part2 table' : List ℕ) → finals ≡ length (key_finals codes last (take w.states states)) → finals ≤ w.states
          → from ≡ arcs_place - arcs_at finals → part ≡ take (length table - from) (drop from table)
          → part1 ≡ sets part head_bytes (final_records (key_finals codes last (take w.states states)))
          → part2 ≡ sets part1 0 (head_record w.states w.arcs finals 0)
          → table' ≡ take from table ++ (part2 ++ drop (length table - from) (drop from table))
          → Closes (closed codes last b) from table table'
      unfolding closed
      closes finals from part part1 part2 table' count few from_is lent put headed whole =
          let z : Transducer = closed codes last b in
          let fs : List Final = key_finals codes last b.keys in
          let long : max_bytes ≤ length table = whole_long in
          let f_is : finals ≡ length fs = count ∙ ap length told_finals in
          let small : finals ≤ max_states = omega (arith, told.states_are, told.few) in
          let place : from + (arcs_at (length fs)) ≡ arcs_place = omega arith in
          let part_is : part ≡ drop from table = lent ∙ part_to_end table from in
          let size : length part ≡ length table - from = ap length part_is ∙ length-drop from table in
          let h1 : part1 ≡ sets part head_bytes (final_records fs) = put ∙ ap (λ (l : List Final). sets part head_bytes (final_records l)) told_finals in
          let size1 : length part1 ≡ length part = ap length h1 ∙ length-sets part head_bytes (final_records fs) in
          let behind : drop (arcs_at (length fs)) part1 ≡ drop arcs_place table =
          ap (λ (l : List ℕ). drop (arcs_at (length fs)) l) h1
          ∙ drop_sets_before (arcs_at (length fs)) part head_bytes (final_records fs) (omega (arith, length_final_records fs))
          ∙ ap (λ (l : List ℕ). drop (arcs_at (length fs)) l) part_is
          ∙ drop-drop (arcs_at (length fs)) from table
          ∙ ap (λ (n : ℕ). drop n table) place in
          let h2 : part1 ≡ sets part1 (arcs_at (length fs)) (arc_records b.arcs) =
          sets_same part1 (arc_records b.arcs) (arcs_at (length fs)) (omega (arith, length_arc_records b.arcs, told_arcs))
          (ap (λ (l : List ℕ). take (length (arc_records b.arcs)) l) behind ∙ arcs_stand) in
          let h3 : part2 ≡ sets part1 0 (head_record (length b.keys) (length b.arcs) (length fs) 0) =
          headed ∙ (rw (told.states_are, ← told_arcs, f_is)) in
          let fits : arcs_at (length fs) + arc_bytes * length b.arcs ≤ length part = omega (arith, told_arcs) in
          let all : part2 ≡ sets part 0 (encode z) = encode_stored z part fits h1 h2 h3 in
          let front : length (take from table) ≡ from = length-take-le from table (omega arith) in
          let rest : List ℕ = drop (length table - from) (drop from table) in
          let size2 : length part2 ≡ length part = ap length all ∙ length-sets part 0 (encode z) in
          let none : length rest ≡ 0 = length-drop (length table - from) (drop from table) ∙ omega (arith, length-drop from table) in
          record {
            begins = omega arith;
            kept =
                ap length whole
                ∙ omega (arith, length-append (take from table) (part2 ++ rest), length-append part2 rest, front, size2, size, none);
            stands =
                ap (λ (l : List ℕ). take (length (encode z)) (drop from l)) whole
                ∙ ap (λ (l : List ℕ). take (length (encode z)) l) (drop_at (take from table) (part2 ++ rest) from front)
                ∙ take-append-le (length (encode z)) part2 rest (omega (arith, size2, length_encode z))
                ∙ ap (λ (l : List ℕ). take (length (encode z)) l) all
                ∙ take_sets part (encode z) (omega (arith, length_encode z));
          }
