-- From what the walk has told to what is handed over: 11 and 12, the lattice before trimming as bytes, and its origins traced on. Assumes nothing.
use mathlib.Core.Path.{◌≡◌, refl, sym, ap, subst, ◌∙◌}
use mathlib.Core.Bool.{true}
use mathlib.Core.List.{List, [], ◌++◌, map}
use Prim.Native.Nat.{ℕ, ◌+◌, ◌*◌, ◌-◌, ◌≤◌, ◌<◌, min}
use native.Mathlib.Omega.{arith}
use lib.ListN.{length, get_or, take, drop, replicate, length-map}
use lib.Seq.{sets, take_at, get_or-take}
use Rattle.wire.specs.Bytes.{Bytes, two, low, filled, cleared}
use Rattle.wire.proofs.Low.{two_low_front}
use Rattle.wire.proofs.Places.{length_filled}
use Rattle.transducer.specs.declared.Arc.{Arc}
use Rattle.transducer.specs.Answer.{Written}
use Rattle.transducer.specs.Format.{max_states, max_arcs, max_bytes, arc_bytes, Transducer, Good, refusal, decode}
use Rattle.transducer.specs.Encode.{head_record, encode}
use Rattle.transducer.specs.Accepted.{FinalsByState}
use Rattle.transducer.proofs.Encode.{length_encode}
use Rattle.transducer.proofs.RoundTrip.{accepted_good, good_range, refusal_encode, decode_encode, length_encode_below}
use Rattle.transducer.proofs.Runs.{good_within}
use Rattle.explore.specs.declared.Walk.{Walk}
use Rattle.explore.specs.Explore.{built_refusal}
use Rattle.explore.specs.Walk.{Sofar, WalkTold, RefusedWith}
use Rattle.explore.proofs.Built.{over_11}
use Rattle.explore.proofs.EncodeStored.{filled_front}
use Rattle.explore.proofs.LeftBehind.{built_12, built_0, says_zeroed}
use Rattle.explore.proofs.Parts.{built_start, built_states}
use Rattle.explore.proofs.WalkTold.{told_key_finals}
use Rattle.lattice.specs.Apply.{string_good, same_state, steps, final_state, applied, first_state}
use Rattle.lattice.specs.ApplyEntry.{ApplySays}
use Rattle.lattice.specs.Applying.{arcs_place, found, key_finals, closed, Closes}
use Rattle.lattice.specs.Lattice.{lattice, lattice_origins}
use Rattle.reach.specs.Reach.{AllAccessible}
use Rattle.trim.specs.Parts.{Trims}
use Rattle.trim.specs.Trim.{trimmed, origins_kept}
use Rattle.lattice.proofs.ApplySays.{says_written}
use Rattle.lattice.proofs.BuiltAccessible.{built_accessible}
use Rattle.lattice.proofs.Closing.{told_finals, whole_long}
use Rattle.lattice.proofs.FoundBuilt.{found_length, found_arcs, found_origins}
use Rattle.lattice.proofs.KeyFinals.{key_final, key_weight, pack_final, pack_weight}
use Rattle.lattice.proofs.KeyParts.{keying}
use Rattle.lattice.proofs.LatticeGood.{state_weight, applied_light, good_applied}
use Rattle.lattice.proofs.SameState.{same_state_decides}
use Rattle.lattice.proofs.Tracing.{refilled, map_same}
use Rattle.trim.proofs.TrimmedGood.{trimmed_good}
use Rattle.trim.proofs.TrimmedKeeps.{length_origins, trimmed_arc}

-- The number of arcs stands at 6.
arcs_told : (t : Transducer) (rest : List ℕ) → length t.arcs < 65536 → two (encode t ++ rest) 6 ≡ length t.arcs
unfolding encode head_record two low
arcs_told t rest l = two_low_front (length t.arcs) [] l

module _ (cs bs : List ℕ) (bytes : Bytes bs) (ok : refusal bs ≡ 0) (string : string_good cs ≡ true) where
  abbrev t : Transducer
  t = decode bs

  abbrev z : Transducer
  z = (applied cs (decode bs)).result

  abbrev Says : Written → (a a' b b' c c' : List ℕ) → Type 0
  Says r a a' b b' c c' = ApplySays cs bs (built_refusal (applied cs (decode bs)).result) r a a' b b' c c'

  good : Good (decode bs)
  good = accepted_good bs bytes ok

  z_states : z.states ≡ length (applied cs t).states
  unfolding applied
  z_states = built_states same_state (steps cs t) (final_state cs t) (state_weight t) (first_state t)

  z_start : z.start ≡ 0
  unfolding applied
  z_start = built_start same_state (steps cs t) (final_state cs t) (state_weight t) (first_state t)

  pub says_11 : {r : Written} {a a₀ a' b b' c c₀ c' : List ℕ} → max_states < length (found cs t).keys → length a ≡ length a₀ → length c ≡ length c₀
      → RefusedWith 11 r a a' b b' c c' → Says r a₀ a' b b' c₀ c'
  says_11 {r} {a} {a₀} {a'} {b} {b'} {c} {c₀} {c'} over wide long zeroed =
      let is : built_refusal z ≡ 11 = (over_11 z).1 (omega (arith, found_length cs t good, z_states)) in
      says_zeroed _ _ (built_refusal z) 11 r a a₀ a' b b b' c c₀ c' is (omega arith) (omega arith) wide refl long zeroed

  module _ {w : Walk} {table arcs states : List ℕ} (told : WalkTold 1 (found cs t) w table arcs states) where
    few : length (applied cs t).states ≤ max_states
    few = omega (arith, found_length cs t good, told.few)

    few_states : z.states ≤ max_states
    few_states = omega (arith, z_states, few)

    arcs_are : w.arcs ≡ min (length z.arcs) (max_arcs + 1)
    arcs_are = told.recorded.arcs_held.arcs_are ∙ ap (λ (as' : List Arc). min (length as') (max_arcs + 1)) (found_arcs cs t good few)

    pub says_12 : {r : Written} {a a₀ a' b b' c₀ c' : List ℕ} → max_arcs < w.arcs → length a ≡ length a₀ → length states ≡ length c₀
        → RefusedWith 12 r a a' b b' states c' → Says r a₀ a' b b' c₀ c'
    says_12 {r} {a} {a₀} {a'} {b} {b'} {c₀} {c'} over wide long zeroed =
        let is : built_refusal z ≡ 12 = built_12 z few_states (omega (arith, arcs_are)) in
        says_zeroed _ _ (built_refusal z) 12 r a a₀ a' b b b' states c₀ c' is (omega arith) (omega arith) wide refl long zeroed

-- The lattice before trimming is made: of a good string and accepted bytes, by what the walk has told, with at most 3,072 arcs; `codes` are the final
-- codes, its arcs stand in `table`, and its bytes in `table'` from `from` on.
pub record Made (cs bs : List ℕ) (w : Walk) (table arcs states codes : List ℕ) (from : ℕ) (table' : List ℕ) : Type 0 where
  pub bytes : Bytes bs
  pub accepted : refusal bs ≡ 0
  pub string : string_good cs ≡ true
  pub told : WalkTold 1 (found cs (decode bs)) w (drop arcs_place table) arcs states
  pub few_arcs : w.arcs ≤ max_arcs
  pub by_state : FinalsByState (decode bs) codes
  pub closes : Closes (closed codes (length cs) (found cs (decode bs))) from table table'

-- It is made by what the code that writes head and finals leaves of whatever the walk has told.
pub made : {cs bs : List ℕ} {w : Walk} {table arcs states codes : List ℕ} {from : ℕ} {table' : List ℕ} → Bytes bs → refusal bs ≡ 0 → string_good cs ≡ true
    → WalkTold 1 (found cs (decode bs)) w (drop arcs_place table) arcs states → w.arcs ≤ max_arcs → FinalsByState (decode bs) codes
    → ((b : Sofar) (origins : List ℕ) → WalkTold 1 b w (drop arcs_place table) origins states → Closes (closed codes (length cs) b) from table table')
    → Made cs bs w table arcs states codes from table'
made bytes accepted string told few_arcs by_state closing =
    record {
      bytes = bytes;
      accepted = accepted;
      string = string;
      told = told;
      few_arcs = few_arcs;
      by_state = by_state;
      closes = closing _ _ told;
    }

module _ {cs bs : List ℕ} {w : Walk} {table arcs states codes : List ℕ} {from : ℕ} {table' : List ℕ} (m : Made cs bs w table arcs states codes from table')
  where
    abbrev given : Transducer
    given = decode bs

    abbrev untrimmed : Transducer
    untrimmed = (applied cs (decode bs)).result

    given_good : Good given
    given_good = accepted_good bs m.bytes m.accepted

    few_found : length (applied cs given).states ≤ max_states
    few_found = few cs bs m.bytes m.accepted m.string m.told

    arcs_long : length untrimmed.arcs ≡ w.arcs
    arcs_long = omega (arith, arcs_are cs bs m.bytes m.accepted m.string m.told, m.few_arcs)

    fine : built_refusal untrimmed ≡ 0
    fine =
        built_0 untrimmed (few_states cs bs m.bytes m.accepted m.string m.told) (omega (arith, arcs_long, m.few_arcs))
        (applied_light cs given given_good)

    untrimmed_good : Good untrimmed
    untrimmed_good = (good_applied cs given given_good m.string).1 fine

    untrimmed_accessible : AllAccessible untrimmed
    unfolding applied
    untrimmed_accessible =
        built_accessible same_state (steps cs given) (final_state cs given) (state_weight given) (first_state given) same_state_decides few_found
        (good_within untrimmed untrimmed_good)

    -- It stands as bytes.

    finals_are : key_finals codes (length cs) (found cs given).keys ≡ untrimmed.finals
    unfolding key_finals applied
    finals_are =
        sym (told_finals codes (length cs) m.told)
        ∙ told_key_finals (keying cs given given_good) (final_state cs given) (state_weight given) m.told (key_final codes (length cs))
        (key_weight codes (length cs)) (pack_final cs given given_good codes m.by_state) (pack_weight cs given given_good codes m.by_state)

    closed_is : closed codes (length cs) (found cs given) ≡ untrimmed
    unfolding closed
    closed_is =
        let states_are : length (found cs given).keys ≡ untrimmed.states =
        found_length cs given given_good ∙ sym (z_states cs bs m.bytes m.accepted m.string) in
        let start_is : ◌≡◌ {A = ℕ} 0 untrimmed.start = sym (z_start cs bs m.bytes m.accepted m.string) in
        let arcs-are' : (found cs given).arcs ≡ untrimmed.arcs = found_arcs cs given given_good few_found in
        λ i. record { states = states_are i; start = start_is i; finals = finals_are i; arcs = arcs-are' i }

    ended : Closes untrimmed from table table'
    ended = subst (λ (y : Transducer). Closes y from table table') closed_is m.closes

    -- Where its bytes begin and end.
    pub ends_inside : (from ≤ arcs_place + arc_bytes * w.arcs) × (arcs_place + arc_bytes * w.arcs ≤ length table')
    ends_inside = (omega (arith, ended.begins), omega (arith, ended.kept, whole_long codes (length cs) m.told table refl, m.few_arcs))

    pub bytes_are : take (arcs_place + arc_bytes * w.arcs - from) (drop from table') ≡ encode untrimmed
    bytes_are =
        let size : arcs_place + arc_bytes * w.arcs - from ≡ length (encode untrimmed) = omega (arith, ended.begins, length_encode untrimmed, arcs_long) in
        ap (λ (n : ℕ). take n (drop from table')) size ∙ ended.stands

    pub bytes_accepted : refusal (take (arcs_place + arc_bytes * w.arcs - from) (drop from table')) ≡ 0
    bytes_accepted = rw bytes_are (refusal_encode untrimmed untrimmed_good)

    decoded : decode (take (arcs_place + arc_bytes * w.arcs - from) (drop from table')) ≡ untrimmed
    decoded = ap decode bytes_are ∙ decode_encode untrimmed untrimmed_good

    pub bytes_accessible : AllAccessible (decode (take (arcs_place + arc_bytes * w.arcs - from) (drop from table')))
    bytes_accessible = subst AllAccessible (sym decoded) untrimmed_accessible

    -- What trimming leaves of it

    module _ {len : ℕ} {out out' origins origins' : List ℕ} (room : max_bytes ≤ length out) (room' : max_arcs ≤ length origins)
        (said : Trims (decode (take (arcs_place + arc_bytes * w.arcs - from) (drop from table'))) len out out' origins origins') where
      trims : Trims untrimmed len out out' origins origins'
      trims = subst (λ (y : Transducer). Trims y len out out' origins origins') decoded said

      abbrev ks : List ℕ
      ks = origins_kept untrimmed

      trimmed_fine : Good (trimmed untrimmed)
      trimmed_fine = trimmed_good untrimmed untrimmed_good

      pub len_small : len ≤ max_bytes
      len_small = omega (arith, trims.len_is, length_encode_below (trimmed untrimmed) trimmed_fine)

      pub out_long : length out' ≡ length out
      out_long =
          ap length trims.table
          ∙ length_filled (length out) (encode (trimmed untrimmed)) (omega (arith, length_encode_below (trimmed untrimmed) trimmed_fine))

      few_kept : length (trimmed untrimmed).arcs ≤ max_arcs
      few_kept = (good_range (trimmed untrimmed) trimmed_fine).arcs

      origins_long : length origins' ≡ length origins
      origins_long = ap length trims.origins_are ∙ length_filled (length origins) ks (omega (arith, length_origins untrimmed, few_kept))

      module _ {kept : ℕ} (kept_is : kept ≡ two out' 6) where
        kept_arcs : kept ≡ length ks
        unfolding filled
        kept_arcs =
            kept_is
            ∙ ap (λ (l : List ℕ). two l 6) trims.table
            ∙ arcs_told (trimmed untrimmed) (replicate (length out - length (encode (trimmed untrimmed))) 0) (omega (arith, few_kept))
            ∙ sym (length_origins untrimmed)

        kept_below : (j : ℕ) → j < length ks → get_or ks j 0 < w.arcs
        kept_below j l = omega (arith, (trimmed_arc untrimmed j (omega (arith, length_origins untrimmed))).below, arcs_long)

        kept_front : take kept origins' ≡ ks
        unfolding filled
        kept_front =
            ap (λ (l : List ℕ). take kept l) trims.origins_are
            ∙ take_at ks (replicate (length origins - length ks) 0) kept (sym kept_arcs)

        pub traceable : (kept ≤ length origins') × ((i : ℕ) → i < kept → get_or origins' i 0 < max_arcs)
        traceable = (
          omega (arith, origins_long, kept_arcs, length_origins untrimmed, few_kept),
          λ i l. let same : get_or origins' i 0 ≡ get_or ks i 0 = sym (get_or-take kept origins' i 0 l) ∙ ap (λ (l : List ℕ). get_or l i 0) kept_front in
              omega (arith, kept_below i (omega (arith, kept_arcs)), m.few_arcs),
        )

        -- The arc that an arc came from, before trimming.
        origin_at : (i : ℕ) → i < w.arcs → get_or arcs i 0 ≡ get_or (map (λ s. s.origin) (applied cs given).steps) i 0
        origin_at i l =
            let n : ℕ = 1 * min (length (found cs given).arcs) max_arcs in
            let below : i < n = omega (arith, ap length (found_arcs cs given given_good few_found), arcs_long, m.few_arcs) in
            sym (get_or-take n arcs i 0 below)
            ∙ ap (λ (l : List ℕ). get_or l i 0) m.told.recorded.origins_held.traced
            ∙ get_or-take n (found cs given).origins i 0 below
            ∙ ap (λ (l : List ℕ). get_or l i 0) (found_origins cs given given_good few_found)

        pub says_lattice : {out₀ b' c₀ c' : List ℕ} → length out ≡ length out₀ → length states ≡ length c₀
            → b' ≡ sets origins' 0 (map (λ i. get_or arcs i 0) (take kept origins')) → c' ≡ cleared 0 states
            → ApplySays cs bs (built_refusal untrimmed) (record { refusal = 0; len = len }) out₀ out' origins b' c₀ c'
        unfolding lattice lattice_origins
        says_lattice {out₀} {b'} {c₀} {c'} wide long traced clear =
            let on : ℕ → ℕ = λ i. get_or arcs i 0 in
            let same : map on ks ≡ lattice_origins cs given =
            map_same on (λ i. get_or (map (λ s. s.origin) (applied cs given).steps) i 0) ks (λ j l. origin_at (get_or ks j 0) (kept_below j l)) in
            let origins_are : b' ≡ filled (length origins) (lattice_origins cs given) =
            traced
            ∙ ap (λ (l : List ℕ). sets origins' 0 (map on l)) kept_front
            ∙ ap (λ (l : List ℕ). sets l 0 (map on ks)) trims.origins_are
            ∙ refilled (length origins) ks (map on ks) (length-map ks on)
            ∙ ap (λ (l : List ℕ). filled (length origins) l) same in
            says_written cs bs (built_refusal untrimmed) len out₀ out' origins b' states c₀ c' fine long trims.len_is
            (trims.table ∙ ap (λ (n : ℕ). filled n (encode (trimmed untrimmed))) wide) origins_are (filled_front [] states c' 0 refl refl clear)
