-- What is claimed of a cascade holds of the call with the table, and of applying and composing called one after the other; and if composing first is not
-- refused either, both orders agree. Assumes nothing.
use mathlib.Core.Path.{◌≡◌, refl, sym, ap, subst, ◌∙◌}
use mathlib.Core.Bool.{true, cond}
use mathlib.Core.List.{List}
use Prim.Native.Nat.{ℕ, ◌-◌, ◌*◌, ◌≤◌}
use native.Mathlib.Omega.{arith}
use lib.ListN.{length, replicate, length-append, length-replicate}
use Rattle.wire.specs.Bytes.{Bytes, filled}
use Rattle.wire.proofs.Bool.{passed_last}
use Rattle.wire.proofs.Places.{take_told}
use Rattle.transducer.specs.Format.{Transducer, Good, max_states, max_arcs, max_bytes, max_origins, barred, refusal, decode}
use Rattle.transducer.specs.Encode.{encode}
use Rattle.transducer.specs.Path.{accepts}
use Rattle.transducer.specs.Each.{has_no_any_input, any_refusal, plain}
use Rattle.transducer.specs.Entry.{or_else}
use Rattle.transducer.proofs.Answers.{or_else_none, unless_none}
use Rattle.transducer.proofs.Fits.{named_plain, plain_named}
use Rattle.transducer.proofs.Good.{good_tests}
use Rattle.transducer.proofs.RoundTrip.{accepted_good, good_range}
use Rattle.transducer.proofs.Runs.{good_within}
use Rattle.explore.specs.Explore.{built_refusal}
use Rattle.explore.proofs.LeftBehind.{behind_written}
use Rattle.compose.specs.Claim.{TwoPaths, met_at}
use Rattle.compose.specs.Compose.{composed}
use Rattle.compose.specs.Entry.{origin_pairs, compose_room, composition_refusal}
use Rattle.compose.specs.Composition.{composed_bytes}
use Rattle.compose.proofs.Called.{composable, composed_bytes_are, composed_origins_are, some_composition}
use Rattle.compose.proofs.Called.{composition_read, composition_good, composition_plain, composition_accepted, composition_pairs}
use Rattle.compose.proofs.MetPaths.{met_filled}
use Rattle.trim.specs.Trim.{through}
use Rattle.lattice.specs.Apply.{string_good, applied}
use Rattle.lattice.specs.ApplyEntry.{application_refusal}
use Rattle.lattice.specs.Application.{Application, lattice_bytes}
use Rattle.lattice.specs.Lattice.{lattice, lattice_origins}
use Rattle.lattice.proofs.Called.{Appliable, table_good, lattice_origins_are, some_application, applied_read, applied_good, applied_accepted, applied_reads}
use Rattle.lattice.proofs.LatticeGood.{lattice_plain}
use Rattle.lattice.proofs.LatticeLaw.{through_filled}
use Rattle.claim.specs.Agree.{Holds}
use Rattle.claim.specs.Claim.{Pairs}
use Rattle.claim.specs.Kind.{PathsAre}
use Rattle.claim.proofs.Agreeing.{holds, agree}
use Rattle.claim.proofs.Chain.{chain_pairs}
use Rattle.claim.proofs.Listing.{lists}
use Rattle.cascade.specs.Pairs.{FittingPairs, SamePairs}
use Rattle.cascade.specs.Tracing.{left_traced}
use Rattle.cascade.specs.Entry.{cascade, cascade_origins, tables_refusal, cascade_refusal}
use Rattle.cascade.specs.Cascade.{Claim, Cascaded, cascaded_bytes, leads_to, TwoCalls, two_calls_bytes, two_calls_leads, to_fitting}
use Rattle.cascade.specs.Cascade.{Chained, chained_bytes, chained_leads, Agrees}
use Rattle.cascade.proofs.Pairs.{fitting_paths, same_pairs, paths_pairs, paths_same, same_two}
use Rattle.cascade.proofs.Tracing.{path_below, met_traced_left, met_traced_right}
use Rattle.cascade.proofs.CascadeSays.{length_composed_origins}

-- If the left transducer was accepted and has no arc for any symbol, the pairs are those of `claim`.
plain_left : (xs : List ℕ) → Bytes xs → refusal xs ≡ 0 → has_no_any_input (decode xs) ≡ true → plain (decode xs) ≡ true
plain_left xs bytes ok all = named_plain (decode xs) (good_tests (decode xs) (accepted_good xs bytes ok)).labels all

pub pairs_same : (left right string : List ℕ) → Bytes left → refusal left ≡ 0 → has_no_any_input (decode left) ≡ true → (x : TwoPaths)
    → SamePairs left right string x
pairs_same left right string bytes ok all = same_pairs left right string (plain_left left bytes ok all)

-- Where a path leads by two origins for each arc.
abbrev pub by_origins : (origins path : List ℕ) → TwoPaths
by_origins origins p = record { left = met_at origins 0 p; right = met_at origins 1 p }

-- Applying and composing, called one after the other

module _ {left right string : List ℕ} (c : TwoCalls left right string) where
  abbrev ws : List ℕ
  ws = lattice_bytes c.applying

  good_left : Good (decode left)
  good_left = accepted_good left c.left_bytes (table_good c.applying)

  good_right : Good (decode right)
  good_right = accepted_good right c.right_bytes (composable c.composing).right_good

  good_lattice : Good (decode ws)
  good_lattice = applied_good good_left c.applying

  read_lattice : decode ws ≡ lattice string (decode left)
  read_lattice = applied_read good_left c.applying

  read_composed : decode (two_calls_bytes c) ≡ (composed (decode ws) (decode right)).result
  read_composed = composition_read good_lattice good_right c.composing

  read_result : decode (two_calls_bytes c) ≡ cascade left right string
  read_result = read_composed ∙ ap (λ (t : Transducer). (composed t (decode right)).result) read_lattice

  bytes_result : two_calls_bytes c ≡ encode (cascade left right string)
  bytes_result =
      composed_bytes_are c.composing ∙ ap (λ (t : Transducer). encode (composed t (decode right)).result) read_lattice

  good_result : Good (decode (two_calls_bytes c))
  good_result = composition_good good_lattice good_right c.composing

  plain_result : plain (decode (two_calls_bytes c)) ≡ true
  plain_result = composition_plain good_lattice good_right c.composing

  accepted_result : refusal (two_calls_bytes c) ≡ 0
  accepted_result = composition_accepted good_lattice good_right c.composing

  paths : PathsAre (FittingPairs left right string) (decode (two_calls_bytes c)) (two_calls_leads c)
  paths =
      fitting_paths left right string (decode ws) (decode (two_calls_bytes c)) c.applying.origins_left c.composing.origins_left
      (applied_reads good_left c.applying) (composition_pairs good_lattice good_right c.composing)

  -- Where each path leads, told in any other way.
  module _ (to : List ℕ → TwoPaths) (same : (p : List ℕ) → accepts (decode (two_calls_bytes c)) p ≡ true → to p ≡ two_calls_leads c p) where
    paths_by : PathsAre (FittingPairs left right string) (decode (two_calls_bytes c)) to
    paths_by = paths_same (FittingPairs left right string) (decode (two_calls_bytes c)) (two_calls_leads c) to paths same

    claim_by : Claim left right string (two_calls_bytes c) to
    claim_by =
        record {
          holds = holds (FittingPairs left right string) (two_calls_bytes c) to accepted_result good_result paths_by;
          lists = λ n t.
              lists (FittingPairs left right string) (two_calls_bytes c) to accepted_result (good_within (decode (two_calls_bytes c)) good_result) paths_by
              n.answer n.says t;
        }

    -- Both orders
    agree_by : (d : Chained left right string) → Agrees (two_calls_bytes c) to d
    agree_by d =
        let first = composable d.composing in
        let good_composed : Good (decode (composed_bytes d.composing)) = composition_good good_left good_right d.composing in
        let none : plain (decode left) ≡ true = plain_left left c.left_bytes first.left_good first.left_no_any in
        let chained : Holds (Pairs left right string) (chained_bytes d) (chained_leads d) =
        holds (Pairs left right string) (chained_bytes d) (chained_leads d) (applied_accepted good_composed d.applying)
        (applied_good good_composed d.applying)
        (chain_pairs left right string (decode (composed_bytes d.composing)) (decode (chained_bytes d)) d.composing.origins_left
        d.applying.origins_left (composition_pairs good_left good_right d.composing) (composition_plain good_left good_right d.composing)
        (applied_reads good_composed d.applying)) in
        agree (Pairs left right string) (two_calls_bytes c) (chained_bytes d) to (chained_leads d)
        (holds (Pairs left right string) (two_calls_bytes c) to accepted_result good_result
        (paths_pairs left right string none (decode (two_calls_bytes c)) to paths_by)) chained

  pub two_calls_claim : Claim left right string (two_calls_bytes c) (two_calls_leads c)
  two_calls_claim = claim_by (two_calls_leads c) (λ p h. refl)

  pub two_calls_agree : (d : Chained left right string) → Agrees (two_calls_bytes c) (two_calls_leads c) d
  two_calls_agree = agree_by (two_calls_leads c) (λ p h. refl)

  -- By the left origins traced to the left transducer: ls and os are the origins without the zeros behind them.
  abbrev ls : List ℕ
  ls = lattice_origins string (decode left)

  abbrev os : List ℕ
  os = origin_pairs (composed (decode ws) (decode right)).steps

  through_same : (p : List ℕ) → through c.applying.origins_left p ≡ through ls p
  through_same p = ap (λ (l : List ℕ). through l p) (lattice_origins_are c.applying) ∙ through_filled (length c.applying.origins) ls p

  met_same : (side : ℕ) (p : List ℕ) → met_at c.composing.origins_left side p ≡ met_at os side p
  met_same side p =
      ap (λ (l : List ℕ). met_at l side p) (composed_origins_are c.composing) ∙ met_filled (length c.composing.origins) os side p

  traced_is : cascade_origins left right string ≡ left_traced ls os
  unfolding cascade_origins
  traced_is = ap (λ (t : Transducer). left_traced ls (origin_pairs (composed t (decode right)).steps)) (sym read_lattice)

  traced_same : (p : List ℕ) → accepts (decode (two_calls_bytes c)) p ≡ true → by_origins (cascade_origins left right string) p ≡ two_calls_leads c p
  unfolding to_fitting
  traced_same p h =
      let n : ℕ = length (decode (two_calls_bytes c)).arcs in
      let long : length os ≡ 2 * n =
      length_composed_origins (decode ws) (decode right) ∙ ap (λ (t : Transducer). 2 * length t.arcs) (sym read_composed) in
      let met : accepts (decode ws) (met_at os 0 p) ≡ true =
      rw (met_same 0 p) at ((composition_pairs good_lattice good_right c.composing).leads p h).pair.left_accepts in
      let reads : accepts (decode left) (through ls (met_at os 0 p)) ≡ true =
      rw (through_same (met_at os 0 p)) at ((applied_reads good_left c.applying).leads (met_at os 0 p) met).accepting in
      let traced : (side : ℕ) → met_at (cascade_origins left right string) side p ≡ met_at (left_traced ls os) side p =
      λ side. ap (λ (l : List ℕ). met_at l side p) traced_is in
      same_two (by_origins (cascade_origins left right string) p) (two_calls_leads c p)
      (traced 0
      ∙ met_traced_left ls os n p (omega (arith, long)) (path_below (decode (two_calls_bytes c)) n p h (omega arith))
      (path_below (decode ws) max_arcs (met_at os 0 p) met (good_range (decode ws) good_lattice).arcs)
      (path_below (decode left) barred (through ls (met_at os 0 p)) reads (omega (arith, (good_range (decode left) good_left).arcs)))
      ∙ sym (through_same (met_at os 0 p)) ∙ ap (through c.applying.origins_left) (sym (met_same 0 p)))
      (traced 1 ∙ met_traced_right ls os p ∙ sym (met_same 1 p))

-- The result

-- Nothing was refused.
pub record Passed (left right string : List ℕ) : Type 0 where
  pub left_accepted : refusal left ≡ 0
  pub right_accepted : refusal right ≡ 0
  pub appliable : Appliable string (decode left)
  pub result_fine : built_refusal (cascade left right string) ≡ 0

pub passed : (left right string : List ℕ) (a b c : ℕ) → cascade_refusal left right string a b c ≡ 0 → Passed left right string
unfolding cascade_refusal tables_refusal
passed left right string a b c none =
    let last : ℕ = or_else (built_refusal (applied string (decode left)).result) (built_refusal (cascade left right string)) in
    let room : ℕ = compose_room a b c in
    let one = or_else_none (or_else (refusal left) (refusal right)) (or_else (cond (string_good string) 0 9) (or_else room last)) none in
    let both = or_else_none (refusal left) (refusal right) one.0 in
    let two = or_else_none (cond (string_good string) 0 9) (or_else room last) one.1 in
    let three = or_else_none room last two.1 in
    let four = or_else_none (built_refusal (applied string (decode left)).result) (built_refusal (cascade left right string)) three.1 in
    record {
      left_accepted = both.0;
      right_accepted = both.1;
      appliable = record { string = passed_last (string_good string) 8 two.0; fine = four.0 };
      result_fine = four.1;
    }

-- Applying and composing are then not refused either, in buffers of the least lengths.
module _ {left right string : List ℕ} (left_bytes : Bytes left) (right_bytes : Bytes right) (fine : Passed left right string) where
  put : Application string left
  unfolding application_refusal or_else
  put =
      some_application (replicate max_bytes 0) (replicate max_arcs 0) (replicate max_states 0) (omega (arith, length-replicate {A = ℕ} max_bytes 0))
      (omega (arith, length-replicate {A = ℕ} max_arcs 0)) (omega (arith, length-replicate {A = ℕ} max_states 0)) string left fine.left_accepted
      (rw (fine.appliable.string, fine.appliable.fine))

  composes : composition_refusal (lattice_bytes put) right ≡ 0
  unfolding composition_refusal any_refusal or_else
  composes =
      let good : Good (decode left) = accepted_good left left_bytes fine.left_accepted in
      let all : has_no_any_input (lattice string (decode left)) ≡ true =
      plain_named (lattice string (decode left)) (lattice_plain string (decode left) good fine.appliable.string) in
      rw (applied_accepted good put, applied_read good put, all, fine.right_accepted)
      (ap (λ (t : Transducer). built_refusal (composed t (decode right)).result) (applied_read good put) ∙ fine.result_fine)

  call : TwoCalls left right string
  call =
      record {
        left_bytes = left_bytes;
        right_bytes = right_bytes;
        applying = put;
        composing =
            some_composition (replicate max_bytes 0) (replicate max_origins 0) (replicate max_states 0) (omega (arith, length-replicate {A = ℕ} max_bytes 0))
            (omega (arith, length-replicate {A = ℕ} max_origins 0)) (omega (arith, length-replicate {A = ℕ} max_states 0)) (lattice_bytes put) right composes;
      }

  -- The bytes of the result are zs, and os' leads where its origins do.
  module _ (zs os' : List ℕ) (bytes_are : zs ≡ encode (cascade left right string))
      (leads_as : (side : ℕ) (p : List ℕ) → met_at os' side p ≡ met_at (cascade_origins left right string) side p) where
    are : two_calls_bytes call ≡ zs
    are = bytes_result call ∙ sym bytes_are

    leads_same : (p : List ℕ) → accepts (decode (two_calls_bytes call)) p ≡ true → by_origins os' p ≡ two_calls_leads call p
    leads_same p h =
        same_two (by_origins os' p) (by_origins (cascade_origins left right string) p) (leads_as 0 p) (leads_as 1 p) ∙ traced_same call p h

    by_claim : Claim left right string zs (by_origins os')
    by_claim = subst (λ (bs : List ℕ). Claim left right string bs (by_origins os')) are (claim_by call (by_origins os') leads_same)

    by_agree : (d : Chained left right string) → Agrees zs (by_origins os') d
    by_agree d = subst (λ (bs : List ℕ). Agrees bs (by_origins os') d) are (agree_by call (by_origins os') leads_same d)

    by_paths : PathsAre (FittingPairs left right string) (decode zs) (by_origins os')
    by_paths =
        subst (λ (bs : List ℕ). PathsAre (FittingPairs left right string) (decode bs) (by_origins os')) are
        (paths_by call (by_origins os') leads_same)

    by_good : Good (decode zs)
    by_good = subst (λ (bs : List ℕ). Good (decode bs)) are (good_result call)

    by_plain : plain (decode zs) ≡ true
    by_plain = subst (λ (bs : List ℕ). plain (decode bs) ≡ true) are (plain_result call)

    by_accepted : refusal zs ≡ 0
    by_accepted = subst (λ (bs : List ℕ). refusal bs ≡ 0) are (accepted_result call)

    result_read : decode zs ≡ cascade left right string
    result_read = subst (λ (bs : List ℕ). decode bs ≡ cascade left right string) are (read_result call)

-- The result by its definition
module _ {left right string : List ℕ} (left_bytes : Bytes left) (right_bytes : Bytes right) (fine : Passed left right string) where
  abbrev zs : List ℕ
  zs = encode (cascade left right string)

  abbrev traced_origins : List ℕ
  traced_origins = cascade_origins left right string

  read : decode zs ≡ cascade left right string
  read = result_read left_bytes right_bytes fine zs traced_origins refl (λ side p. refl)

  pub cascade_good : Good (cascade left right string)
  cascade_good = rw read at (by_good left_bytes right_bytes fine zs traced_origins refl (λ side p. refl))

  pub cascade_paths : PathsAre (FittingPairs left right string) (cascade left right string) (by_origins (cascade_origins left right string))
  cascade_paths = rw read at (by_paths left_bytes right_bytes fine zs traced_origins refl (λ side p. refl))

-- The call with the table
module _ {left right string : List ℕ} (c : Cascaded left right string) where
  abbrev number : ℕ
  number = cascade_refusal left right string (length c.table) (length c.origins) (length c.states)

  none : number ≡ 0
  none = sym c.says.refusal_is ∙ c.well

  fine : Passed left right string
  fine = passed left right string (length c.table) (length c.origins) (length c.states) none

  len_is : c.answer.len ≡ length (encode (cascade left right string))
  len_is = c.says.len_is ∙ unless_none number (length (encode (cascade left right string))) none

  table_is : c.table_left ≡ filled (length c.table) (encode (cascade left right string))
  table_is = c.says.table ∙ behind_written c.table (encode (cascade left right string)) number none

  pub cascaded_bytes_are : cascaded_bytes c ≡ encode (cascade left right string)
  cascaded_bytes_are = take_told c.answer.len (length c.table) (encode (cascade left right string)) c.table_left len_is table_is

  leads_as : (side : ℕ) (p : List ℕ) → met_at c.origins_left side p ≡ met_at (cascade_origins left right string) side p
  leads_as side p =
      ap (λ (l : List ℕ). met_at l side p) (c.says.origins ∙ behind_written c.origins (cascade_origins left right string) number none)
      ∙ met_filled (length c.origins) (cascade_origins left right string) side p

  pub claim : Claim left right string (cascaded_bytes c) (leads_to c)
  claim = by_claim c.left_bytes c.right_bytes fine (cascaded_bytes c) c.origins_left cascaded_bytes_are leads_as

  pub orders_agree : (d : Chained left right string) → Agrees (cascaded_bytes c) (leads_to c) d
  orders_agree = by_agree c.left_bytes c.right_bytes fine (cascaded_bytes c) c.origins_left cascaded_bytes_are leads_as

  -- What a caller needs who passes the result on.

  pub cascaded_paths : PathsAre (FittingPairs left right string) (decode (cascaded_bytes c)) (leads_to c)
  cascaded_paths = by_paths c.left_bytes c.right_bytes fine (cascaded_bytes c) c.origins_left cascaded_bytes_are leads_as

  pub cascaded_good : Good (decode (cascaded_bytes c))
  cascaded_good = by_good c.left_bytes c.right_bytes fine (cascaded_bytes c) c.origins_left cascaded_bytes_are leads_as

  pub cascaded_plain : plain (decode (cascaded_bytes c)) ≡ true
  cascaded_plain = by_plain c.left_bytes c.right_bytes fine (cascaded_bytes c) c.origins_left cascaded_bytes_are leads_as

  pub cascaded_accepted : refusal (cascaded_bytes c) ≡ 0
  cascaded_accepted = by_accepted c.left_bytes c.right_bytes fine (cascaded_bytes c) c.origins_left cascaded_bytes_are leads_as

  pub cascaded_read : decode (cascaded_bytes c) ≡ cascade left right string
  cascaded_read = result_read c.left_bytes c.right_bytes fine (cascaded_bytes c) c.origins_left cascaded_bytes_are leads_as

  pub cascaded_fits : c.answer.len ≤ length c.table_left
  unfolding filled
  cascaded_fits =
      let bytes : List ℕ = encode (cascade left right string) in
      omega (arith, len_is, ap length table_is ∙ length-append bytes (replicate (length c.table - length bytes) 0))
