-- Each answer hands what a served state leaves to a law of `Walking`.
use Rattle.std.proofs.Common.{◌≡◌, ◌∙◌, refl, ap, ℕ, [], arith, get_or}
use Rattle.transducer.specs.Format.{decode}
use Rattle.transducer.proofs.RoundTrip.{good_range}
use Rattle.explore.specs.Explore.{there}
use Rattle.explore.proofs.Chain.{chained_zeros}
use Rattle.explore.proofs.Walking.{walking_first, walking_state, walking_next, walking_full, walking_stop}
use Rattle.lattice.specs.Apply.{first_state}
use Rattle.lattice.specs.Pack.{pack}
use Rattle.lattice.proofs.KeyParts.{key_of_in, keying}
use Rattle.lattice.proofs.applying.walk_all.Goals as goal

pub pack-first_key-requires : goal.pack-first_key-requires
pack-first_key-requires c =
    let range = good_range (decode c.args.operands.now.bytes.now) c.requires.good in
    (omega arith, omega (arith, c.requires.applicable.1, range.start, range.states))

pub loop-s-init : goal.loop-s-init
unfolding there
loop-s-init c =
    let z = c.args.operands.now in
    let t = decode z.bytes.now in
    let room = c.requires.max_arc_bytes_in_bounds in
    let is : c.pack-first_key.result ≡ pack (first_state t) =
    c.pack-first_key.ensures ∙ ap (λ (q : ℕ). pack (record { position = 0; state = q })) c.requires.applicable.1 in
    walking_first (keying z.string.now t c.requires.good) 1 c.pack-first_key.result c.args.table.now c.args.origins.now
    c.insert.new.states c.insert.new.heads c.insert.new.links is room.0 room.1
    (c.insert.ensures.by_index [] refl refl (chained_zeros c.args.states.now room.2))

pub expand_state-walk-requires-clause-applicable : goal.expand_state-walk-requires-clause-applicable
expand_state-walk-requires-clause-applicable c =
    let z = c.args.operands.now in
    let t = decode z.bytes.now in
    let h = c.loop-s in (
      c.requires.applicable.0,
      c.loop-s-test.true,
      key_of_in z.string.now t c.requires.good (get_or h.states h.s 0)
          (walking_state (keying z.string.now t c.requires.good) 1 h.invariant c.loop-s-test.true),
    )

pub returns-then-walk-ne0 : goal.returns-then-walk-ne0
returns-then-walk-ne0 c =
    let z = c.args.operands.now in
    let g = c.loop-s.invariant in
    let call = c.expand_state-walk in
    let out = call.new in
    record {
      full = λ h.
          walking_full (keying z.string.now (decode z.bytes.now) c.requires.good) 1 g c.loop-s-test.true call.result
          out.table out.origins out.states out.heads out.links (call.ensures g.sofar g.walked) h;
      done = λ h. absurd (c.if-walk-ne0.true h);
      table_kept = omega arith;
      origins_kept = omega arith;
      states_kept = omega arith;
    }

pub loop-s-preserved : goal.loop-s-preserved
loop-s-preserved c =
    let z = c.args.operands.now in
    let g = c.loop-s.invariant in
    let call = c.expand_state-walk in
    let out = call.new in
    walking_next (keying z.string.now (decode z.bytes.now) c.requires.good) 1 g c.loop-s-test.true call.result
    out.table out.origins out.states out.heads out.links (call.ensures g.sofar g.walked) c.if-walk-ne0.false

pub returns : goal.returns
returns c =
    let z = c.args.operands.now in
    let g = c.loop-s.invariant in
    record {
      full = λ h. absurd (h g.walked.not_full);
      done = λ h. walking_stop (keying z.string.now (decode z.bytes.now) c.requires.good) 1 g c.loop-s-test.false;
      table_kept = omega arith;
      origins_kept = omega arith;
      states_kept = omega arith;
    }
