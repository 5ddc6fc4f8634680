-- `arcs_held_next` says what `put_arc` leaves, and `arcs_held_full` that what is written stays where there is no room for more.
use Rattle.std.proofs.Common.{rules, to_z, of_z, w32, ◌≡◌, refl, ap, ◌∙◌}
use mathlib.Core.Bool.{Bool, not}
use lib.Bits.{bit_or}
use mir.Val.{bool_byte}
use Rattle.transducer.specs.Format.{weight_good}
use Rattle.explore.proofs.Recording.{arcs_held_next, arcs_held_full}
use Rattle.explore.proofs.record_arc.Goals as goal

pub returns-then-w-lt-MAX_ARCS : goal.returns-then-w-lt-MAX_ARCS
returns-then-w-lt-MAX_ARCS c =
    let a = c.args in
    let back : to_z w32 (of_z w32 a.arc.weight) ≡ a.arc.weight = search rules in
    record {
      states_stay = refl;
      full_stays = refl;
      one_more = λ as' overflow held.
          arcs_held_next as' overflow a.w _ a.table.now a.arc held _ c.if-w-lt-MAX_ARCS.true refl
          (ap (λ (b : Bool). bit_or a.w.overflow (bool_byte (not b))) (c.weight_ok.ensures ∙ ap weight_good back)) c.put_arc.ensures;
    }

pub returns : goal.returns
returns c =
    let a = c.args in
    let back : to_z w32 (of_z w32 a.arc.weight) ≡ a.arc.weight = search rules in
    record {
      states_stay = refl;
      full_stays = refl;
      one_more = λ as' overflow held.
          arcs_held_full as' overflow a.w _ a.table.now a.arc held c.if-w-lt-MAX_ARCS.false refl
          (ap (λ (b : Bool). bit_or a.w.overflow (bool_byte (not b))) (c.weight_ok.ensures ∙ ap weight_good back));
    }
