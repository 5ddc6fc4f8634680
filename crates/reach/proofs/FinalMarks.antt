-- The loop that marks the final states: the marks are those of the finals so far. Assumes nothing.
use mathlib.Core.Path.{◌≡◌, refl, sym, ◌∙◌}
use mathlib.Core.Bool.{Bool, true, false, ◌||◌}
use mathlib.Core.List.{List, [], ◌∷◌, ◌++◌}
use Prim.Native.Nat.{ℕ, ◌+◌, ◌*◌, ◌<◌}
use native.Mathlib.Numerals.{add-one}
use native.Mathlib.Decide.{ℕ_discrete}
use native.Mathlib.Omega.{arith}
use lib.Dec.{eqb}
use lib.ListN.{length, get_or, set, replicate, length-set, length-replicate}
use lib.Seq.{get_or-set_same, get_or-set_other}
use borrow.Author.Tests.{eq-eqb, ne_eqb}
use Rattle.wire.specs.Bytes.{Bytes, places}
use Rattle.wire.proofs.Bool.{or_right}
use Rattle.wire.proofs.Places.{places_snoc}
use Rattle.transducer.specs.declared.Final.{Final}
use Rattle.transducer.specs.Format.{max_states, decode, refusal, head_finals, final_at}
use Rattle.transducer.specs.Path.{is_final}
use Rattle.transducer.proofs.Offsets.{decode_finals}
use Rattle.transducer.proofs.Finals.{is_final_append}
use Rattle.reach.specs.Marks.{Marked}
use Rattle.reach.proofs.Ends.{final_state}
use Rattle.reach.proofs.Closure.{get_or_none}

-- The marks are those of the first i finals.
pub record Marking (bs : List ℕ) (i : ℕ) (ms : List Bool) : Type 0 where
  pub long : length ms ≡ max_states
  pub so_far : (s : ℕ) → get_or ms s false ≡ is_final (places i 12 10 (final_at bs)) s

pub marking_first : (bs : List ℕ) → Marking bs 0 (replicate max_states false)
unfolding places is_final
marking_first bs = record { long = length-replicate {A = Bool} max_states false; so_far = λ s. get_or_none max_states s }

or_false : (a : Bool) → a || false ≡ a
or_false true = refl
or_false false = refl

-- What one mark more says.
one_final : (f : Final) (s : ℕ) → is_final (f ∷ []) s ≡ eqb f.state s
unfolding is_final
one_final f s = or_false (eqb f.state s)

marked_final : (ms : List Bool) (old : List Final) (f : Final) (s : ℕ) → f.state < length ms → get_or ms s false ≡ is_final old s → Dec (s ≡ f.state)
    → get_or (set ms f.state true) s false ≡ is_final old s || eqb f.state s
marked_final ms old f s room is (yes e) =
    rw e (get_or-set_same ms f.state true false room
    ∙ sym (or_right (is_final old f.state) (eqb f.state f.state) (eq-eqb f.state f.state refl)))
marked_final ms old f s room is (no n) =
    get_or-set_other ms f.state s true false n ∙ is ∙ sym (rw (ne_eqb f.state s (λ e. n (sym e))) (or_false (is_final old s)))

module _ (bs : List ℕ) (bytes : Bytes bs) (ok : refusal bs ≡ 0) where
  pub marking_next : {i : ℕ} {ms : List Bool} (f : Final) → i < head_finals bs → f ≡ final_at bs (12 + 10 * i) → Marking bs i ms
      → Marking bs (i + 1) (set ms f.state true)
  marking_next {i} {ms} f h e m =
      let old : List Final = places i 12 10 (final_at bs) in
      let more : places (i + 1) 12 10 (final_at bs) ≡ old ++ (f ∷ []) = rw (add-one, e) (places_snoc i 12 10 (final_at bs)) in
      let room : f.state < length ms = omega (arith, (final_state bs bytes ok i f h refl e).1, m.long) in
      record {
        long = length-set ms f.state true ∙ m.long;
        so_far = λ s. rw (more, is_final_append old (f ∷ []) s, one_final f s) (marked_final ms old f s room (m.so_far s) (ℕ_discrete s f.state));
      }

  pub marking_stop : {i : ℕ} {ms : List Bool} → i ≡ head_finals bs → Marking bs i ms → Marked (is_final (decode bs).finals) ms
  marking_stop {i} e m =
      let all : (decode bs).finals ≡ places i 12 10 (final_at bs) = rw e (decode_finals bs bytes ok) in
      record { long = m.long; at_state = λ s. rw all (m.so_far s) }
