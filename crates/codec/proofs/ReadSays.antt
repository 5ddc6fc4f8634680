-- What `read` answers, case by case: a refusal of 1 to 8, a buffer that is too short, and success. Assumes nothing.
use Rattle.std.proofs.Common.{Ok}
use mathlib.Core.Path.{◌≡◌, refl, sym, ap, ◌∙◌}
use mathlib.Core.Bool.{false, cond, or-true}
use mathlib.Core.List.{List, map}
use Prim.Native.Nat.{ℕ, ◌+◌, ◌*◌, ◌≤◌, ◌<◌}
use native.Mathlib.Omega.{arith}
use borrow.Author.Tests.{lt-ltb, le-ltb, ne_eqb}
use lib.Dec.{ltb, eqb}
use lib.ListN.{length, get_or}
use mir.Val.{Fits}
use mir.Syntax.{w8}
use Rattle.wire.specs.Bytes.{Bytes, two, places, filled, signed_filled}
use Rattle.wire.proofs.Places.{map_places}
use Rattle.transducer.specs.Entry.{or_else, unless, left_in, weights_left_in}
use Rattle.transducer.specs.Weight.{Weight}
use Rattle.transducer.specs.declared.Arc.{Arc}
use Rattle.transducer.specs.declared.Final.{Final}
use Rattle.transducer.specs.Answer.{Header}
use Rattle.transducer.specs.Format.{head_bytes, final_bytes, arc_bytes, max_arcs, max_fields, max_states, decode, refusal, head_arcs, head_finals}
use Rattle.transducer.specs.Format.{weight_at, final_at, arc_at, arcs_at}
use Rattle.transducer.specs.Accepted.{head_in}
use Rattle.transducer.specs.declared.Head.{Head}
use Rattle.transducer.specs.Answer.{header}
use Rattle.codec.specs.Entry.{ReadSays, read_refusal, read_room, arc_fields}
use Rattle.codec.proofs.Copy.{places_shift}
use Rattle.transducer.proofs.Offsets.{length_accepted, decode_states, decode_start, decode_finals, decode_arcs, length_finals, length_arcs, accepted_within}

-- read_room

module _ (a b c d : ℕ) where
  pub short_states : a < max_states → read_room a b c d ≡ 10
  unfolding read_room
  short_states h = rw (lt-ltb a max_states h)

  pub short_weights : b < max_states → read_room a b c d ≡ 10
  unfolding read_room
  short_weights h = rw (lt-ltb b max_states h, or-true (ltb a max_states))

  pub short_fields : c < max_fields → read_room a b c d ≡ 10
  unfolding read_room
  short_fields h = rw (lt-ltb c max_fields h, or-true (ltb b max_states), or-true (ltb a max_states))

  pub short_arc_weights : d < max_arcs → read_room a b c d ≡ 10
  unfolding read_room
  short_arc_weights h = rw (lt-ltb d max_arcs h, or-true (ltb c max_fields), or-true (ltb b max_states), or-true (ltb a max_states))

  pub long_enough : max_states ≤ a → max_states ≤ b → max_fields ≤ c → max_arcs ≤ d → read_room a b c d ≡ 0
  unfolding read_room
  long_enough h₁ h₂ h₃ h₄ = rw (le-ltb a max_states h₁, le-ltb b max_states h₂, le-ltb c max_fields h₃, le-ltb d max_arcs h₄)

-- Refusals

abbrev pub refused_header : ℕ → Header
refused_header n = record { refusal = n; states = 0; arcs = 0; finals = 0; start = 0 }

says_refused : (bs : List ℕ) (number n : ℕ) (r : Header) (a : List ℕ) (b : List Weight) (c : List ℕ) (d : List Weight) → number ≡ n → (n ≡ 0 → ⊥)
    → r ≡ refused_header n → ReadSays bs number r a a b b c c d d
unfolding unless left_in weights_left_in
says_refused bs number n r a b c d e nonzero h =
    let test : eqb n 0 ≡ false = ne_eqb n 0 nonzero in
    rw (e, h) (record {
      refusal_is = refl;
      states_is = rw test;
      arcs_is = rw test;
      finals_is = rw test;
      start_is = rw test;
      final_states = rw test;
      final_weights = rw test;
      fields = rw test;
      arc_weights = rw test;
    })

module _ {bs a : List ℕ} {b : List Weight} {c : List ℕ} {d : List Weight} {n : ℕ} {r : Header} where
  -- 1 to 8
  pub says_bad : n ≡ refusal bs → (n ≡ 0 → ⊥) → r ≡ refused_header n →
      ReadSays bs (read_refusal bs (length a) (length b) (length c) (length d)) r a a b b c c d d
  unfolding read_refusal or_else
  says_bad e nonzero h =
      let room : ℕ = read_room (length a) (length b) (length c) (length d) in
      let number : cond (eqb (refusal bs) 0) room (refusal bs) ≡ n = rw (← e, ne_eqb n 0 nonzero) in
      says_refused bs (read_refusal bs (length a) (length b) (length c) (length d)) n r a b c d number nonzero h

  -- 10
  pub says_short : n ≡ refusal bs → n ≡ 0 → read_room (length a) (length b) (length c) (length d) ≡ 10 → r ≡ refused_header 10 →
      ReadSays bs (read_refusal bs (length a) (length b) (length c) (length d)) r a a b b c c d d
  unfolding read_refusal or_else
  says_short e z room h =
      let number : cond (eqb (refusal bs) 0) (read_room (length a) (length b) (length c) (length d)) (refusal bs) ≡ 10 = rw (← e, z, room) in
      says_refused bs (read_refusal bs (length a) (length b) (length c) (length d)) 10 r a b c d number (λ q. omega arith) h

-- Success

-- The numbers of an accepted head, as `read` uses them.
pub record Counted (bs : List ℕ) (head : Head) : Type 0 where
  pub finals_are : head.finals ≡ head_finals bs
  pub arcs_are : head.arcs ≡ head_arcs bs
  pub few_finals : head.finals ≤ max_states
  pub few_arcs : head.arcs ≤ max_arcs
  pub long : length bs ≡ arcs_at head.finals + arc_bytes * head.arcs

module _ (bs : List ℕ) (bytes : Bytes bs) (ok : refusal bs ≡ 0) where
  pub counted : {head : Head} → head ≡ head_in bs → Counted bs head
  counted {head} h =
      let within = accepted_within bs bytes ok in
      let f : head.finals ≡ head_finals bs = ap (λ (r : Head). r.finals) h in
      let m : head.arcs ≡ head_arcs bs = ap (λ (r : Head). r.arcs) h in
      record { finals_are = f; arcs_are = m; few_finals = omega arith; few_arcs = omega arith; long = omega (arith, length_accepted bs bytes ok) }

  states_read : map (λ f. f.state) (decode bs).finals ≡ places (head_finals bs) 16 10 (two bs)
  unfolding final_at
  states_read =
      rw (decode_finals bs bytes ok, map_places (λ (f : Final). f.state) (head_finals bs) head_bytes final_bytes (final_at bs))
      (sym (places_shift (head_finals bs) 12 4 10 (two bs)))

  weights_read : map (λ f. f.weight) (decode bs).finals ≡ places (head_finals bs) 18 10 (weight_at bs)
  unfolding final_at
  weights_read =
      rw (decode_finals bs bytes ok, map_places (λ (f : Final). f.weight) (head_finals bs) head_bytes final_bytes (final_at bs))
      (sym (places_shift (head_finals bs) 12 6 10 (weight_at bs)))

  arc_weights_read : map (λ f. f.weight) (decode bs).arcs ≡ places (head_arcs bs) (arcs_at (head_finals bs) + 12) 16 (weight_at bs)
  unfolding arc_at
  arc_weights_read =
      rw (decode_arcs bs bytes ok, map_places (λ (a : Arc). a.weight) (head_arcs bs) (arcs_at (head_finals bs)) 16 (arc_at bs))
      (sym (places_shift (head_arcs bs) (arcs_at (head_finals bs)) 12 16 (weight_at bs)))

  pub says_read : {head : Head} {first : ℕ} {a a' : List ℕ} {b b' : List Weight} {c c' : List ℕ} {d d' : List Weight} → max_states ≤ length a
      → max_states ≤ length b → max_fields ≤ length c → max_arcs ≤ length d →
      head ≡ head_in bs → first ≡ arcs_at head.finals →
      a' ≡ filled (length a) (places head.finals 16 10 (two bs)) →
      b' ≡ signed_filled (length b) (places head.finals 18 10 (weight_at bs)) →
      c' ≡ filled (length c) (arc_fields (places head.arcs first 16 (arc_at bs))) →
      d' ≡ signed_filled (length d) (places head.arcs (first + 12) 16 (weight_at bs)) →
      ReadSays bs (read_refusal bs (length a) (length b) (length c) (length d)) (header (Ok head)) a a' b b' c c' d d'
  unfolding read_refusal or_else unless left_in weights_left_in
  says_read {head} {first} {a} {a'} {b} {b'} {c} {c'} {d} {d'} la lb lc ld h place ea eb ec ed =
      rw (ok, long_enough (length a) (length b) (length c) (length d) la lb lc ld, h) (record {
        refusal_is = refl;
        states_is = sym (decode_states bs bytes ok);
        arcs_is = sym (length_arcs bs bytes ok);
        finals_is = sym (length_finals bs bytes ok);
        start_is = sym (decode_start bs bytes ok);
        final_states = rw states_read (rw h at ea);
        final_weights = rw weights_read (rw h at eb);
        fields = rw (decode_arcs bs bytes ok) (rw (place, h) at ec);
        arc_weights = rw arc_weights_read (rw (place, h) at ed);
      })

-- From what the code knows: each byte fits, and the refusal is none.

pub is_bytes : (bs : List ℕ) → ((i : ℕ) → Fits w8 (get_or bs i 0)) → Bytes bs
is_bytes bs given = λ i. omega (arith, given i)

pub head_counted : {bs : List ℕ} {number : ℕ} {head : Head} → ((i : ℕ) → Fits w8 (get_or bs i 0)) → number ≡ refusal bs → number ≡ 0 → head ≡ head_in bs →
    Counted bs head
head_counted {bs} given is none h = counted bs (is_bytes bs given) (sym is ∙ none) h
