-- From what a walk has told to what is written: the refusal, the table put together, and the origins. Assumes nothing.
use mathlib.Core.Path.{◌≡◌, refl, sym, ap, ◌∙◌}
use mathlib.Core.Bool.{Bool, true, false, not}
use mathlib.Core.List.{List, [], ◌∷◌, map}
use Prim.Native.Nat.{ℕ, suc, ◌+◌, ◌*◌, ◌≤◌, ◌<◌, min}
use native.Mathlib.Nat.{mul-zero, mul-suc}
use native.Mathlib.Omega.{arith}
use lib.ListN.{length, get_or, take, drop, length-append}
use lib.Seq.{sets, take_all, get_or-take}
use Rattle.wire.specs.Bytes.{every, filled, cleared}
use Rattle.transducer.specs.declared.Arc.{Arc}
use Rattle.transducer.specs.Format.{arcs_at, max_arcs, max_states, Transducer, weight_good}
use Rattle.transducer.specs.Encode.{head_record, final_records, arc_records, encode}
use Rattle.transducer.proofs.Encode.{length_final_records, length_encode, cleared_sets}
use Rattle.transducer.specs.Weight.{Weight}
use Rattle.explore.specs.declared.Walk.{Walk}
use Rattle.explore.specs.Explore.{Step, Built, built, built_refusal, finals_from}
use Rattle.explore.specs.Walk.{Keyed, all_origins, explored, flag, WalkTold}
use Rattle.explore.proofs.Built.{over_11}
use Rattle.explore.proofs.EncodeStored.{encode_stored, filled_front}
use Rattle.explore.proofs.ExploredKeys.{
  Keying,
  explored_mirrors,
  explored_keys,
  explored_length,
  explored_key,
  explored_arcs,
  explored_origins,
  explored_dear,
}
use Rattle.explore.proofs.LeftBehind.{overflow_arcs, overflow_finals, none_dear, built_12, built_13, built_0}
use Rattle.explore.proofs.Member.{Mem, mem_here, mem_later}
use Rattle.explore.proofs.MovedArcs.{drop_sets_before}
use Rattle.explore.proofs.Parts.{built_start, built_states, length_steps, length_finals}
use Rattle.explore.proofs.Recording.{flag_true, flag_false}
use Rattle.explore.proofs.Walking.{KeyOf}

pub length_all_origins : {A O : Type 0} (width : ℕ) (os : O → List ℕ) → ((o : O) → length (os o) ≡ width) → (ss : List (Step A O))
    → length (all_origins os ss) ≡ width * length ss
unfolding all_origins
length_all_origins width os wide [] = sym (mul-zero width)
length_all_origins width os wide (s ∷ ss) =
    length-append (os s.origin) (all_origins os ss)
    ∙ (rw (wide s.origin, length_all_origins width os wide ss, mul-suc width (length ss)) (omega arith))

-- Finals by keys are those by states, where they are so for each state.
finals_from_keys : {A : Type 0} (pack : A → ℕ) (final : A → Bool) (final' : ℕ → Bool) (weight : A → Weight) (weight' : ℕ → Weight) (i : ℕ) (xs : List A)
    → ((x : A) → Mem x xs → final' (pack x) ≡ final x) → ((x : A) → Mem x xs → final x ≡ true → weight' (pack x) ≡ weight x)
    → finals_from final' weight' i (map pack xs) ≡ finals_from final weight i xs
unfolding finals_from
finals_from_keys pack final final' weight weight' i [] f w = refl
finals_from_keys pack final final' weight weight' i (x ∷ xs) f w =
    on (final x) refl (finals_from_keys pack final final' weight weight' (suc i) xs (λ y m. f y (mem_later x m)) (λ y m. w y (mem_later x m)))
  where
    on : (b : Bool) → final x ≡ b → finals_from final' weight' (suc i) (map pack xs) ≡ finals_from final weight (suc i) xs
        → finals_from final' weight' i (pack x ∷ map pack xs) ≡ finals_from final weight i (x ∷ xs)
    on true e more = rw (f x (mem_here x xs), e, w x (mem_here x xs) e, more)
    on false e more = rw (f x (mem_here x xs), e, more)

module _ {A O : Type 0} {same : A → A → Bool} {steps : A → List (Step A O)} {first : A} {pack : A → ℕ} {os : O → List ℕ} {next : ℕ → List Keyed}
    {Within : A → Type 0} (k : Keying same steps first pack os next Within) (final : A → Bool) (weight : A → Weight) where
  abbrev made : Built A O
  made = built same steps final weight first

  abbrev z : Transducer
  z = (built same steps final weight first).result

  z_states : z.states ≡ length made.states
  z_states = built_states same steps final weight first

  pub told_11 : max_states < length (explored next (pack first)).keys → built_refusal z ≡ 11
  told_11 over = (over_11 z).1 (omega (arith, explored_length k final weight, z_states))

  module _ {width : ℕ} {w : Walk} {table origins states : List ℕ} (told : WalkTold width (explored next (pack first)) w table origins states) where
    pub told_few : length made.states ≤ max_states
    told_few = omega (arith, explored_length k final weight, told.few)

    few_states : z.states ≤ max_states
    few_states = omega (arith, z_states, told_few)

    pub told_states : w.states ≡ z.states
    told_states = told.states_are ∙ explored_length k final weight ∙ sym z_states

    pub told_arcs : w.arcs ≡ min (length z.arcs) (max_arcs + 1)
    told_arcs = told.recorded.arcs_held.arcs_are ∙ ap (λ (as' : List Arc). min (length as') (max_arcs + 1)) (explored_arcs k final weight told_few)

    pub told_dear : w.overflow ≡ flag (not (every (λ a. weight_good a.weight) z.arcs))
    told_dear = told.recorded.arcs_held.overflow_is ∙ ap flag (explored_dear k final weight told_few)

    pub told_finals : length z.finals ≤ max_states
    told_finals = omega (arith, length_finals same steps final weight first, told_few)

    -- The keys that stand in the buffer of states.
    pub told_keys : take w.states states ≡ map pack made.states
    told_keys = ap (λ (n : ℕ). take n states) told.states_are ∙ told.stored ∙ explored_keys k final weight

    pub told_key : (i : ℕ) → i < w.states → KeyOf pack Within (get_or states i 0)
    told_key i l =
        let n : length (explored next (pack first)).keys ≡ length made.states = explored_length k final weight in
        let h : i < length made.states = omega (arith, told.states_are) in
        let known = explored_key k final weight i first h in
        record {
          state = get_or made.states i first;
          within = known.1;
          key_is =
              sym (get_or-take (length (explored next (pack first)).keys) states i 0 (omega arith))
              ∙ ap (λ (ks : List ℕ). get_or ks i 0) told.stored
              ∙ known.0;
        }

    -- Their finals, where what is read from a key is right for its state.
    pub told_key_finals : (final' : ℕ → Bool) (weight' : ℕ → Weight) → ((x : A) → Within x → final' (pack x) ≡ final x)
        → ((x : A) → Within x → final x ≡ true → weight' (pack x) ≡ weight x)
        → finals_from final' weight' 0 (take w.states states) ≡ z.finals
    unfolding built
    told_key_finals final' weight' f_is w-is =
        ap (λ (ks : List ℕ). finals_from final' weight' 0 ks) told_keys
        ∙ finals_from_keys pack final final' weight weight' 0 made.states
        (λ x m. f_is x ((explored_mirrors k final weight).within x m)) (λ x m e. w-is x ((explored_mirrors k final weight).within x m) e)

    pub told_12 : max_arcs < w.arcs → built_refusal z ≡ 12
    told_12 over = built_12 z few_states (omega (arith, told_arcs))

    module _ (few_arcs : w.arcs ≤ max_arcs) where
      pub arcs_long : length z.arcs ≡ w.arcs
      arcs_long = omega (arith, told_arcs)

      pub told_13_arcs : (w.overflow ≡ 0 → ⊥) → built_refusal z ≡ 13
      told_13_arcs overflow = built_13 z few_states (omega (arith, arcs_long)) (overflow_arcs z (flag_true _ (λ e. overflow (told_dear ∙ e))))

      pub told_13_finals : not (every (λ f. weight_good f.weight) z.finals) ≡ true → built_refusal z ≡ 13
      told_13_finals overflow = built_13 z few_states (omega (arith, arcs_long)) (overflow_finals z overflow)

      pub told_0 : w.overflow ≡ 0 → not (every (λ f. weight_good f.weight) z.finals) ≡ false → built_refusal z ≡ 0
      told_0 cheap light = built_0 z few_states (omega (arith, arcs_long)) (none_dear z (flag_false _ (sym told_dear ∙ cheap)) light)

      -- What stands at the front of the buffer for arcs.
      pub arcs_there : take (16 * w.arcs) table ≡ arc_records z.arcs
      arcs_there =
          let is : (explored next (pack first)).arcs ≡ z.arcs = explored_arcs k final weight told_few in
          let m : 16 * min (length (explored next (pack first)).arcs) max_arcs ≡ 16 * w.arcs = omega (arith, ap length is, arcs_long) in
          ap (λ (n : ℕ). take n table) (sym m)
          ∙ told.recorded.arcs_held.written
          ∙ ap (λ (as' : List Arc). arc_records (take max_arcs as')) is
          ∙ ap arc_records (take_all max_arcs z.arcs (omega (arith, arcs_long)))

      pub length_written : (f : ℕ) → f ≡ length z.finals → length (encode z) ≡ arcs_at f + 16 * w.arcs
      length_written f is = length_encode z ∙ omega (arith, is, arcs_long)

      -- That buffer is the part from a place on of one that the finals are stored in, in front of it.
      module _ (whole : List ℕ) (from : ℕ) (lent : drop from whole ≡ table) (room : arcs_at (length z.finals) ≤ from) where
        -- The arcs stand where they were written.
        pub arcs_stand : (t1 : List ℕ) → t1 ≡ sets whole 12 (final_records z.finals) → take (16 * w.arcs) (drop from t1) ≡ arc_records z.arcs
        arcs_stand t1 finals =
            let behind : drop from t1 ≡ table =
            ap (λ (l : List ℕ). drop from l) finals
            ∙ drop_sets_before from whole 12 (final_records z.finals) (omega (arith, length_final_records z.finals))
            ∙ lent in
            ap (λ (l : List ℕ). take (16 * w.arcs) l) behind ∙ arcs_there

        -- The finals, the arcs moved behind them, the head and zeros behind are the transducer's bytes.
        pub table_written : (f : ℕ) (t1 t2 t3 t4 : List ℕ) → f ≡ length z.finals
            → arcs_at f + 16 * w.arcs ≤ length whole → t1 ≡ sets whole 12 (final_records z.finals)
            → t2 ≡ sets t1 (arcs_at f) (take (16 * w.arcs) (drop from t1))
            → t3 ≡ sets t2 0 (head_record w.states w.arcs f 0)
            → t4 ≡ cleared (arcs_at f + 16 * w.arcs) t3
            → t4 ≡ filled (length whole) (encode z)
        table_written f t1 t2 t3 t4 f_is fits finals moved headed clear =
            let wa : w.arcs ≡ length z.arcs = sym arcs_long in
            let arcs' : t2 ≡ sets t1 (arcs_at (length z.finals)) (arc_records z.arcs) =
            moved
            ∙ ap (λ (n : ℕ). sets t1 (arcs_at n) (take (16 * w.arcs) (drop from t1))) f_is
            ∙ ap (λ (l : List ℕ). sets t1 (arcs_at (length z.finals)) l) (arcs_stand t1 finals) in
            let head' : t3 ≡ sets t2 0 (head_record z.states (length z.arcs) (length z.finals) z.start) =
            headed ∙ (rw (told_states, wa, f_is, built_start same steps final weight first)) in
            cleared_sets (encode z) whole (arcs_at f + 16 * w.arcs) (length_written f f_is) fits
            (encode_stored z whole (omega (arith, f_is, wa)) finals arcs' head') clear

      -- The origins of the arcs, with zeros behind.
      module _ (wide : (o : O) → length (os o) ≡ width) where
        origins_long : length (all_origins os made.steps) ≡ width * w.arcs
        origins_long =
            length_all_origins width os wide made.steps
            ∙ ap (λ (n : ℕ). width * n) (length_steps same steps final weight first ∙ arcs_long)

        origins_traced : take (width * w.arcs) origins ≡ all_origins os made.steps
        origins_traced =
            let is : (explored next (pack first)).arcs ≡ z.arcs = explored_arcs k final weight told_few in
            let m : min (length (explored next (pack first)).arcs) max_arcs ≡ w.arcs = omega (arith, ap length is, arcs_long) in
            (rw m at told.recorded.origins_held.traced)
            ∙ ap (λ (l : List ℕ). take (width * w.arcs) l) (explored_origins k final weight told_few)
            ∙ take_all (width * w.arcs) (all_origins os made.steps) (omega (arith, origins_long))

        pub origins_written : (o1 : List ℕ) → o1 ≡ cleared (width * w.arcs) origins
            → o1 ≡ filled (length origins) (all_origins os made.steps)
        origins_written o1 clear = filled_front (all_origins os made.steps) origins o1 (width * w.arcs) origins_long origins_traced clear
