-- What an accepted head says: its numbers are those of the transducer, and in range. Assumes nothing.
use Rattle.std.proofs.Common.{◌≡◌, ℕ, ◌<◌, ◌≤◌, List, length, sym, ap, ◌∙◌, arith}
use Rattle.wire.specs.Bytes.{Bytes}
use Rattle.transducer.specs.declared.Head.{Head}
use Rattle.transducer.specs.Format.{max_states, max_arcs, head_bytes, arcs_at, decode, refusal, head_arcs, head_finals, head_start}
use Rattle.transducer.specs.Accepted.{head_in, AcceptedAt}
use Rattle.transducer.proofs.Offsets.{length_accepted, accepted_within, decode_states, decode_start, length_finals, length_arcs}

pub record Headed (bs : List ℕ) (head : Head) : Type 0 where
  pub opened : AcceptedAt bs (arcs_at head.finals)
  pub states_are : head.states ≡ (decode bs).states
  pub arcs_are : head.arcs ≡ length (decode bs).arcs
  pub start_is : head.start ≡ (decode bs).start
  pub finals_are : head.finals ≡ head_finals bs
  pub finals_long : head.finals ≡ length (decode bs).finals
  pub few_states : head.states ≤ max_states
  pub few_arcs : head.arcs ≤ max_arcs
  pub few_finals : head.finals ≤ max_states
  pub start_below : head.start < max_states
  pub start_inside : head.start < head.states
  pub long : head_bytes ≤ length bs

pub head_inside : (bs : List ℕ) → Bytes bs → refusal bs ≡ 0 → head_bytes ≤ length bs
head_inside bs bytes ok = omega (arith, length_accepted bs bytes ok)

pub headed : (bs : List ℕ) → Bytes bs → refusal bs ≡ 0 → (head : Head) → head ≡ head_in bs → Headed bs head
headed bs bytes ok head e =
    let within = accepted_within bs bytes ok in
    let n : head.states ≡ (decode bs).states = ap (λ (h : Head). h.states) e ∙ sym (decode_states bs bytes ok) in
    let m : head.arcs ≡ head_arcs bs = ap (λ (h : Head). h.arcs) e in
    let f : head.finals ≡ head_finals bs = ap (λ (h : Head). h.finals) e in
    let s : head.start ≡ head_start bs = ap (λ (h : Head). h.start) e in
    record {
      opened = record { accepted = ok; first_is = omega (arith, f) };
      states_are = n;
      arcs_are = m ∙ sym (length_arcs bs bytes ok);
      start_is = s ∙ sym (decode_start bs bytes ok);
      finals_are = f;
      finals_long = f ∙ sym (length_finals bs bytes ok);
      few_states = omega (arith, n, decode_states bs bytes ok, within.states);
      few_arcs = omega (arith, m, within.arcs);
      few_finals = omega (arith, f, within.finals, within.states);
      start_below = omega (arith, s, within.start, within.states);
      start_inside = omega (arith, n, s, decode_states bs bytes ok, within.start);
      long = head_inside bs bytes ok;
    }

-- Where the arcs begin, as it is computed.
pub headed_opened : (bs : List ℕ) (head : Head) (first : ℕ) → Headed bs head → first ≡ arcs_at head.finals → AcceptedAt bs first
headed_opened bs head first h e = rw e h.opened
