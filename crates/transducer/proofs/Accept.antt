-- What refusal and acceptance of bytes rest on.
--     refused_early, refused_head    where the head does not say where the records stand, the walk says which of 1 to 4 it is
--     laid_refusal                   where it does, only the content is left to refuse
--     accepted-..                    what acceptance gives
-- Assumes nothing.
use Rattle.std.proofs.Common.{◌≡◌, ℕ, ◌<◌, Bool, true, false, cond, not, ◌&&◌, eqb, List, length, get_or, eq-eqb, eqb-true}
use Rattle.wire.specs.Bytes.{Bytes}
use Rattle.wire.proofs.Bool.{and-true, true_and, passed, by_test}
use Rattle.transducer.specs.declared.Final.{Final}
use Rattle.transducer.specs.Format.{weight_good}
use Rattle.transducer.specs.Format.{Transducer, framed, records, kinds_good, decode, head_states, head_arcs, head_finals, head_start}
use Rattle.transducer.specs.Format.{head_good, finals_rise, sources_stay, content_refusal, refusal}
use Rattle.transducer.specs.Path.{no_arc, arc}
use Rattle.transducer.specs.Check.{diagnosis}
use Rattle.transducer.proofs.Good.{Content, content_good, finals_rise_good, sources_stay_good}
use Rattle.transducer.proofs.Good.{final_state_below, arc_states_below, arc_labels_below, final_light, arc_light}
use Rattle.transducer.proofs.Laid.{Laid, laid_framed, laid_kinds, laid_finals_count, laid_arcs_count, kinds_laid}

-- Refusal 3's test and refusal 4's, of bytes.

abbrev head_fits : List ℕ → Bool
head_fits bs = head_good (head_states bs) (head_arcs bs) (head_finals bs) (head_start bs)

abbrev counts_fit : List ℕ → Bool
counts_fit bs = eqb (length (decode bs).finals) (head_finals bs) && eqb (length (decode bs).arcs) (head_arcs bs)

counted_laid : {bs : List ℕ} → Bytes bs → framed bs ≡ true → kinds_good (records bs) ≡ true → counts_fit bs ≡ true →
    Laid bs (head_finals bs) (head_arcs bs)
unfolding decode
counted_laid {bs} b fr ks cs =
    let both = and-true (eqb (length (decode bs).finals) (head_finals bs)) (eqb (length (decode bs).arcs) (head_arcs bs)) cs in
    let f : length (decode bs).finals ≡ head_finals bs = eqb-true (length (decode bs).finals) (head_finals bs) both.0 in
    let m : length (decode bs).arcs ≡ head_arcs bs = eqb-true (length (decode bs).arcs) (head_arcs bs) both.1 in
    rw (← f, ← m) (kinds_laid b fr ks)

pub refused_early : {bs : List ℕ} → Bytes bs → (Laid bs (head_finals bs) (head_arcs bs) → ⊥) → refusal bs ≡ diagnosis bs
unfolding refusal diagnosis
refused_early {bs} b never =
    by_test (framed bs)
    (λ fr.
    by_test (kinds_good (records bs))
    (λ ks.
    by_test (head_fits bs)
    (λ hd. by_test (counts_fit bs) (λ cs. absurd (never (counted_laid b fr ks cs))) (λ cs. rw (fr, ks, hd, cs)))
    (λ hd. rw (fr, ks, hd)))
    (λ ks. rw (fr, ks)))
    (λ fr. rw fr)

pub refused_head : (bs : List ℕ) → head_good (head_states bs) (head_arcs bs) (head_finals bs) (head_start bs) ≡ false → refusal bs ≡ diagnosis bs
unfolding refusal diagnosis
refused_head bs hd =
    by_test (framed bs)
    (λ fr. by_test (kinds_good (records bs)) (λ ks. rw (fr, ks, hd)) (λ ks. rw (fr, ks)))
    (λ fr. rw fr)

pub laid_refusal : {bs : List ℕ} → Bytes bs → Laid bs (head_finals bs) (head_arcs bs) →
    head_good (head_states bs) (head_arcs bs) (head_finals bs) (head_start bs) ≡ true → refusal bs ≡ content_refusal (decode bs)
unfolding refusal
laid_refusal {bs} b l hd =
    let cs : counts_fit bs ≡ true =
    true_and (eqb (length (decode bs).finals) (head_finals bs)) (eqb (length (decode bs).arcs) (head_arcs bs))
    (eq-eqb (length (decode bs).finals) (head_finals bs) (laid_finals_count b l))
    (eq-eqb (length (decode bs).arcs) (head_arcs bs) (laid_arcs_count b l)) in
    rw (laid_framed b l, laid_kinds b l, hd, cs)

record AllPassed (bs : List ℕ) : Type 0 where
  framing : framed bs ≡ true
  kinds : kinds_good (records bs) ≡ true
  head : head_fits bs ≡ true
  counts : counts_fit bs ≡ true
  content : content_refusal (decode bs) ≡ 0

all_passed : (bs : List ℕ) → refusal bs ≡ 0 → AllPassed bs
unfolding refusal
all_passed bs h =
    let r4 = cond (not (counts_fit bs)) 4 (content_refusal (decode bs)) in
    let r3 = cond (not (head_fits bs)) 3 r4 in
    let r2 = cond (not (kinds_good (records bs))) 2 r3 in
    let p1 : (framed bs ≡ true) × (r2 ≡ 0) = passed (framed bs) 0 r2 h in
    let p2 : (kinds_good (records bs) ≡ true) × (r3 ≡ 0) = passed (kinds_good (records bs)) 1 r3 p1.1 in
    let p3 : (head_fits bs ≡ true) × (r4 ≡ 0) = passed (head_fits bs) 2 r4 p2.1 in
    let p4 : (counts_fit bs ≡ true) × (content_refusal (decode bs) ≡ 0) = passed (counts_fit bs) 3 (content_refusal (decode bs)) p3.1 in
    record { framing = p1.0; kinds = p2.0; head = p3.0; counts = p4.0; content = p4.1 }

pub accepted_laid : {bs : List ℕ} → Bytes bs → refusal bs ≡ 0 → Laid bs (head_finals bs) (head_arcs bs)
accepted_laid {bs} b h = let p : AllPassed bs = all_passed bs h in counted_laid b p.framing p.kinds p.counts

pub accepted_head : (bs : List ℕ) → refusal bs ≡ 0 → head_good (head_states bs) (head_arcs bs) (head_finals bs) (head_start bs) ≡ true
accepted_head bs h = (all_passed bs h).head

pub accepted_content : (bs : List ℕ) → refusal bs ≡ 0 → content_refusal (decode bs) ≡ 0
accepted_content bs h = (all_passed bs h).content

-- What no refusal of 5 to 8 gives, arc by arc and final by final.
pub record ContentRange (t : Transducer) : Type 0 where
  pub source : (i : ℕ) → i < length t.arcs → (arc t i).source < t.states
  pub target : (i : ℕ) → i < length t.arcs → (arc t i).target < t.states
  pub input : (i : ℕ) → i < length t.arcs → (arc t i).input < 65536
  pub output : (i : ℕ) → i < length t.arcs → (arc t i).output < 65536
  pub weight : (i : ℕ) → i < length t.arcs → weight_good (arc t i).weight ≡ true
  pub final_state : (i : ℕ) (d : Final) → i < length t.finals → (get_or t.finals i d).state < t.states
  pub final_weight : (i : ℕ) (d : Final) → i < length t.finals → weight_good (get_or t.finals i d).weight ≡ true
  pub rise : finals_rise 0 t.finals ≡ true
  pub stay : sources_stay 0 t.arcs ≡ true

pub content_range : (t : Transducer) → content_refusal t ≡ 0 → ContentRange t
unfolding arc
content_range t h =
    let c : Content t = content_good t h in
    record {
      source = λ i l. (arc_states_below t c i no_arc l).0;
      target = λ i l. (arc_states_below t c i no_arc l).1;
      input = λ i l. (arc_labels_below t c i no_arc l).0;
      output = λ i l. (arc_labels_below t c i no_arc l).1;
      weight = λ i l. arc_light t c i no_arc l;
      final_state = final_state_below t c;
      final_weight = final_light t c;
      rise = finals_rise_good t c;
      stay = sources_stay_good t c;
    }
