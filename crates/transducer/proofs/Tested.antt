-- The answers of the test that looks first where accepted bytes have their records. Assumes nothing.
use Rattle.std.proofs.Common.{◌≡◌, ℕ, ◌+◌, ◌*◌, ◌<◌, true, false, eqb, List, length, sym, ap, ◌∙◌, arith}
use Rattle.wire.specs.Bytes.{Bytes, four, places, every}
use Rattle.wire.proofs.Bool.{and-true, true_and, clash}
use Rattle.transducer.specs.declared.Arc.{Arc}
use Rattle.transducer.specs.Answer.{Validation}
use Rattle.transducer.specs.Format.{head_bytes, final_bytes, decode, head_states, head_arcs, head_finals, head_start, head_good, first_of}
use Rattle.transducer.specs.Format.{refusal, arcs_at, arc_bytes, arc_at}
use Rattle.transducer.specs.Format.{min_weight, weight_good}
use Rattle.transducer.specs.Path.{arc}
use Rattle.transducer.specs.Check.{head_word, final_word, arc_word, all_checked, diagnosis, NoneBelow, EachUp, EachWrites, EachNamed}
use Rattle.transducer.specs.Accepted.{ValidationSays}
use Rattle.transducer.proofs.Laid.{Laid, laid_decode}
use Rattle.transducer.proofs.Accept.{refused_early, laid_refusal, accepted_content, content_range}
use Rattle.transducer.proofs.Checked.{all_checked_heads, all_checked_content}
use Rattle.transducer.proofs.FastCheck.{none_below_good}
use Rattle.transducer.proofs.Offsets.{arc_offset, length_arcs}
use Rattle.transducer.proofs.Fits.{each_named}

pub refused_short : (bs : List ℕ) → Bytes bs → length bs < 12 → refusal bs ≡ diagnosis bs
refused_short bs b h = refused_early b (λ l. omega (arith, l.long))

pub refused_head_word : (bs : List ℕ) → Bytes bs → (four bs 0 ≡ head_word → ⊥) → refusal bs ≡ diagnosis bs
refused_head_word bs b h = refused_early b (λ l. h l.head)

pub refused_long : (bs : List ℕ) → Bytes bs → (length bs ≡ arcs_at (head_finals bs) + arc_bytes * head_arcs bs → ⊥) → refusal bs ≡ diagnosis bs
refused_long bs b h = refused_early b (λ l. h l.long)

pub refused_heads : (bs : List ℕ) → Bytes bs → (all_checked bs (head_states bs) (head_arcs bs) (head_finals bs)).heads ≡ false →
    refusal bs ≡ diagnosis bs
refused_heads bs b h =
    refused_early b
    (λ l.
    let heads : (all_checked bs (head_states bs) (head_arcs bs) (head_finals bs)).heads ≡ true =
    all_checked_heads bs (head_states bs) (head_arcs bs) (head_finals bs) ∙ true_and _ _ l.finals l.arcs in
    let z : ◌≡◌ {A = ℕ} 0 1 = cc in
    omega arith)

-- Where the records stand at their places, the gathered tests say which of 5 to 8 it is.
pub refusal_checked : (bs : List ℕ) → Bytes bs → four bs 0 ≡ head_word →
    head_good (head_states bs) (head_arcs bs) (head_finals bs) (head_start bs) ≡ true →
    length bs ≡ arcs_at (head_finals bs) + arc_bytes * head_arcs bs →
    (all_checked bs (head_states bs) (head_arcs bs) (head_finals bs)).heads ≡ true →
    first_of (all_checked bs (head_states bs) (head_arcs bs) (head_finals bs)).states
    (all_checked bs (head_states bs) (head_arcs bs) (head_finals bs)).order
    (all_checked bs (head_states bs) (head_arcs bs) (head_finals bs)).labels
    (all_checked bs (head_states bs) (head_arcs bs) (head_finals bs)).weights
    ≡ refusal bs
refusal_checked bs b word good long heads =
    let n = head_states bs in
    let m = head_arcs bs in
    let f = head_finals bs in
    let both : (every (λ w. eqb w final_word) (places f head_bytes final_bytes (four bs)) ≡ true)
    × (every (λ w. eqb w arc_word) (places m (arcs_at f) 16 (four bs)) ≡ true) =
    and-true _ _ (sym (all_checked_heads bs n m f) ∙ heads) in
    let l : Laid bs f m = record { long = long; head = word; finals = both.0; arcs = both.1 } in
    let t = decode bs in
    all_checked_content bs n m f t (ap (λ (d : _). d.states) (laid_decode b l)) (ap (λ (d : _). d.finals) (laid_decode b l))
    (ap (λ (d : _). d.arcs) (laid_decode b l))
    ∙ sym (laid_refusal b l good)

-- What validation tells beside the refusal: no arc of accepted bytes weighs less than a weight that none of their good arcs is below, and each leads up where
-- each record says so; the same of labels and of arcs for any symbol.
pub validation_light : (bs : List ℕ) → Bytes bs → (r : Validation) → r.refusal ≡ refusal bs
    → NoneBelow bs (arcs_at (head_finals bs)) (head_arcs bs) r.least →
    (r.top_sorted ≡ true → EachUp bs (arcs_at (head_finals bs)) (head_arcs bs)) →
    (r.no_output_epsilon ≡ true → EachWrites bs (arcs_at (head_finals bs)) (head_arcs bs)) →
    (r.no_any_input ≡ true → EachNamed bs (arcs_at (head_finals bs)) (head_arcs bs)) → ValidationSays bs r
validation_light bs b r e below up writes named =
    record {
      refusal_is = e;
      light = λ h i l.
          let same : arc (decode bs) i ≡ arc_at bs (arcs_at (head_finals bs) + arc_bytes * i) = arc_offset bs b h i l in
          let within : i < head_arcs bs = omega (arith, l, length_arcs bs b h) in
          let good : weight_good (arc_at bs (arcs_at (head_finals bs) + arc_bytes * i)).weight ≡ true =
          ap (λ (a : Arc). weight_good a.weight) (sym same) ∙ (content_range (decode bs) (accepted_content bs h)).weight i l in
          rw same (below.light i within good);
      rises = λ h u i l.
          let same : arc (decode bs) i ≡ arc_at bs (arcs_at (head_finals bs) + arc_bytes * i) = arc_offset bs b h i l in
          rw same ((up u).rises i (omega (arith, l, length_arcs bs b h)));
      written = λ h u i l.
          let same : arc (decode bs) i ≡ arc_at bs (arcs_at (head_finals bs) + arc_bytes * i) = arc_offset bs b h i l in
          rw same ((writes u).some i (omega (arith, l, length_arcs bs b h)));
      no_any = λ h u.
          each_named (decode bs)
          (λ i l.
          let same : arc (decode bs) i ≡ arc_at bs (arcs_at (head_finals bs) + arc_bytes * i) = arc_offset bs b h i l in
          rw same ((named u).no_any i (omega (arith, l, length_arcs bs b h))));
    }

pub validation_misplaced : (bs : List ℕ) → Bytes bs → (r : Validation) → r.refusal ≡ refusal bs → r.least ≡ min_weight → r.top_sorted ≡ false
    → r.no_output_epsilon ≡ false →
    r.no_any_input ≡ false → ValidationSays bs r
validation_misplaced bs b r e f not-up not-writes not_named =
    validation_light bs b r e (rw f (none_below_good bs (arcs_at (head_finals bs)) (head_arcs bs))) (λ u. clash u not-up) (λ u. clash u not-writes)
    (λ u. clash u not_named)
