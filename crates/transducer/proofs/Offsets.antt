-- Where the finals and arcs of accepted bytes stand: final i begins at 12 + 10 i, arc i at 12 + 10 f + 16 i. Assumes nothing.
use Rattle.std.proofs.Common.{◌≡◌, ℕ, ◌+◌, ◌*◌, ◌<◌, ◌≤◌, List, length, get_or, refl, ap, ◌∙◌, arith}
use Rattle.wire.specs.Bytes.{Bytes, places}
use Rattle.wire.proofs.Places.{length_places, get_or_places}
use Rattle.transducer.specs.declared.Final.{Final}
use Rattle.transducer.specs.Format.{head_bytes, final_bytes, arc_bytes, arcs_at, Transducer, decode, refusal, head_states, head_arcs}
use Rattle.transducer.specs.Format.{head_finals, head_start, final_at, arc_at}
use Rattle.transducer.specs.Path.{arc, no_arc}
use Rattle.transducer.proofs.Laid.{laid_decode}
use Rattle.transducer.proofs.Accept.{accepted_laid, accepted_head, accepted_content}
use Rattle.transducer.proofs.Good.{HeadRange, Content, head_range, content_good}

module _ (bs : List ℕ) (bytes : Bytes bs) (ok : refusal bs ≡ 0) where
  pub length_accepted : length bs ≡ arcs_at (head_finals bs) + arc_bytes * head_arcs bs
  length_accepted = (accepted_laid bytes ok).long

  pub decode_states : (decode bs).states ≡ head_states bs
  unfolding decode
  decode_states = refl

  pub decode_start : (decode bs).start ≡ head_start bs
  unfolding decode
  decode_start = refl

  pub decode_finals : (decode bs).finals ≡ places (head_finals bs) head_bytes final_bytes (final_at bs)
  decode_finals = ap (λ (t : Transducer). t.finals) (laid_decode bytes (accepted_laid bytes ok))

  pub decode_arcs : (decode bs).arcs ≡ places (head_arcs bs) (arcs_at (head_finals bs)) 16 (arc_at bs)
  decode_arcs = ap (λ (t : Transducer). t.arcs) (laid_decode bytes (accepted_laid bytes ok))

  pub length_finals : length (decode bs).finals ≡ head_finals bs
  length_finals = ap length decode_finals ∙ length_places (head_finals bs) head_bytes final_bytes (final_at bs)

  pub length_arcs : length (decode bs).arcs ≡ head_arcs bs
  length_arcs = ap length decode_arcs ∙ length_places (head_arcs bs) (arcs_at (head_finals bs)) 16 (arc_at bs)

  pub final_offset : (i : ℕ) (d : Final) → i < length (decode bs).finals → get_or (decode bs).finals i d ≡ final_at bs (head_bytes + final_bytes * i)
  final_offset i d h =
      let below : i < head_finals bs = omega (arith, length_finals) in
      rw decode_finals (get_or_places (head_finals bs) head_bytes final_bytes (final_at bs) i d below)

  pub arc_offset : (i : ℕ) → i < length (decode bs).arcs → arc (decode bs) i ≡ arc_at bs (arcs_at (head_finals bs) + arc_bytes * i)
  unfolding arc
  arc_offset i h =
      let below : i < head_arcs bs = omega (arith, length_arcs) in
      rw decode_arcs (get_or_places (head_arcs bs) (arcs_at (head_finals bs)) 16 (arc_at bs) i no_arc below)

  pub arc_inside : (i : ℕ) → i < length (decode bs).arcs → arcs_at (head_finals bs) + arc_bytes * i + 16 ≤ length bs
  arc_inside i h = omega (arith, length_accepted, length_arcs)

  pub accepted_within : HeadRange (head_states bs) (head_arcs bs) (head_finals bs) (head_start bs)
  accepted_within = head_range (head_states bs) (head_arcs bs) (head_finals bs) (head_start bs) (accepted_head bs ok)

  pub accepted_good : Content (decode bs)
  accepted_good = content_good (decode bs) (accepted_content bs ok)
