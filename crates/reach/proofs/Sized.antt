-- What is known of accepted bytes and of good transducers: their states and arcs are few, and the arcs stay within the states. Assumes nothing.
use mathlib.Core.List.{List}
use mathlib.Core.Path.{◌≡◌}
use Prim.Native.Nat.{ℕ, ◌≤◌}
use native.Mathlib.Omega.{arith}
use lib.ListN.{length, get_or}
use Rattle.std.proofs.Common.{Fits, w8}
use Rattle.wire.specs.Bytes.{Bytes}
use Rattle.transducer.specs.Format.{max_arcs, max_states, Transducer, Good, decode, refusal}
use Rattle.transducer.specs.Accepted.{AcceptedAt}
use Rattle.transducer.proofs.Good.{Content, head_range, content_good}
use Rattle.transducer.proofs.Offsets.{accepted_within, accepted_good, decode_states, decode_start, length_arcs}
use Rattle.transducer.proofs.Runs.{Within, good_within, states_good_within}

-- The states and arcs of accepted bytes.
pub record Sized (t : Transducer) : Type 0 where
  pub content : Content t
  pub within : Within t
  pub states : t.states ≤ max_states
  pub arcs : length t.arcs ≤ max_arcs

pub sized : (bs : List ℕ) → Bytes bs → refusal bs ≡ 0 → Sized (decode bs)
sized bs bytes ok =
    let head = accepted_within bs bytes ok in
    let n = decode_states bs bytes ok in
    let s = decode_start bs bytes ok in
    let content = accepted_good bs bytes ok in
    record {
      content = content;
      within = states_good_within (decode bs) content.states (omega (arith, head.start, n, s));
      states = omega (arith, head.states, n);
      arcs = omega (arith, head.arcs, length_arcs bs bytes ok);
    }

-- What a proof knows of a slice of bytes (`type_inv`) says that they are bytes.
pub slice_bytes : (bs : List ℕ) → ((i : ℕ) → Fits w8 (get_or bs i 0)) → Bytes bs
slice_bytes bs fit i = (fit i).fits

pub opened_sized : {bs : List ℕ} {first : ℕ} → ((i : ℕ) → Fits w8 (get_or bs i 0)) → AcceptedAt bs first → Sized (decode bs)
opened_sized {bs} fit opened = sized bs (slice_bytes bs fit) opened.accepted

pub good_sized : (t : Transducer) → Good t → Sized t
good_sized t g =
    let r = head_range t.states (length t.arcs) (length t.finals) t.start g.head in
    record { content = content_good t g.content; within = good_within t g; states = r.states; arcs = r.arcs }
