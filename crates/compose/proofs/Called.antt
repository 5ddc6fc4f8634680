-- What a call of `compose` leaves behind where it is not refused: the bytes of the composition, the origins of its arcs, and the transducer in those bytes;
-- and the number that refuses it where enough is lent. Assumes nothing.
use mathlib.Core.Path.{◌≡◌, refl, sym, ap, ◌∙◌}
use mathlib.Core.Bool.{true, cond}
use mathlib.Core.List.{List, []}
use Prim.Native.Nat.{ℕ, ◌≤◌}
use native.Mathlib.Omega.{arith}
use borrow.Author.Tests.{le-ltb}
use lib.ListN.{length, length-take}
use Rattle.wire.specs.Bytes.{filled}
use Rattle.wire.proofs.Bool.{passed_last}
use Rattle.wire.proofs.Places.{take_told}
use Rattle.transducer.specs.Answer.{Written}
use Rattle.transducer.specs.Format.{max_states, max_bytes, max_origins, Transducer, Good, refusal, decode}
use Rattle.transducer.specs.Encode.{encode}
use Rattle.transducer.specs.Path.{accepts}
use Rattle.transducer.specs.Each.{has_no_any_input, any_refusal, plain}
use Rattle.transducer.specs.Entry.{or_else, unless}
use Rattle.transducer.proofs.Answers.{or_else_none, unless_none}
use Rattle.transducer.proofs.RoundTrip.{accepted_good}
use Rattle.explore.specs.Explore.{built_refusal, left_behind}
use Rattle.explore.proofs.LeftBehind.{behind_written}
use Rattle.compose.specs.Claim.{met_at, Pair, StandsFor, OneToOne, LeastSums}
use Rattle.compose.specs.Compose.{composed}
use Rattle.compose.specs.Composition.{Composition, composed_bytes, Answered, CompositionClaim}
use Rattle.compose.specs.Entry.{composition, origin_pairs, compose_room, compose_refusal, composition_refusal, ComposeSays}
use Rattle.compose.proofs.Claimed.{composed_one_to_one, composed_least_sums}
use Rattle.compose.proofs.MetPaths.{met_filled}
use Rattle.compose.proofs.Written.{composed_plain, composed_good, refusal_composed, decode_composed}

-- The number

-- Both transducers are accepted, no left arc is for any symbol, and the composition is within the bounds.
pub record Composable (xs ys : List ℕ) : Type 0 where
  pub left_good : refusal xs ≡ 0
  pub left_no_any : has_no_any_input (decode xs) ≡ true
  pub right_good : refusal ys ≡ 0
  pub fine : built_refusal (composition xs ys) ≡ 0

module _ (xs ys : List ℕ) where
  pub compose_number : (a b c : ℕ) → max_bytes ≤ a → max_origins ≤ b → max_states ≤ c → compose_refusal xs ys a b c ≡ composition_refusal xs ys
  unfolding compose_refusal compose_room composition_refusal or_else
  compose_number a b c la lb lc = rw (le-ltb a max_bytes la, le-ltb b max_origins lb, le-ltb c max_states lc)

  none_composable : (a b c : ℕ) → compose_refusal xs ys a b c ≡ 0 → Composable xs ys
  unfolding compose_refusal any_refusal
  none_composable a b c none =
      let rest : ℕ = or_else (compose_room a b c) (built_refusal (composition xs ys)) in
      let one = or_else_none (refusal xs) (or_else (cond (has_no_any_input (decode xs)) 0 18) (or_else (refusal ys) rest)) none in
      let all = or_else_none (cond (has_no_any_input (decode xs)) 0 18) (or_else (refusal ys) rest) one.1 in
      let two = or_else_none (refusal ys) rest all.1 in
      let three = or_else_none (compose_room a b c) (built_refusal (composition xs ys)) two.1 in
      record { left_good = one.0; left_no_any = passed_last (has_no_any_input (decode xs)) 17 all.0; right_good = two.0; fine = three.1 }

  pub unrefused_composable : composition_refusal xs ys ≡ 0 → Composable xs ys
  unrefused_composable none =
      none_composable max_bytes max_origins max_states
      (compose_number max_bytes max_origins max_states (omega arith) (omega arith) (omega arith) ∙ none)

-- A call that was lent enough, refused or not.
pub record ComposedCall (xs ys : List ℕ) (r : Written) (a a' b b' c c' : List ℕ) : Type 0 where
  pub table_room : max_bytes ≤ length a
  pub origins_room : max_origins ≤ length b
  pub states_room : max_states ≤ length c
  pub says : ComposeSays xs ys (compose_refusal xs ys (length a) (length b) (length c)) r a a' b b' c c'

module _ {xs ys : List ℕ} {r : Written} {a a' b b' c c' : List ℕ} (x : ComposedCall xs ys r a a' b b' c c') where
  pub composed_number : r.refusal ≡ composition_refusal xs ys
  composed_number =
      x.says.refusal_is ∙ compose_number xs ys (length a) (length b) (length c) x.table_room x.origins_room x.states_room

  abbrev pub composition_of : r.refusal ≡ 0 → Composition xs ys
  composition_of well =
      record {
        answer = r;
        table = a;
        table_left = a';
        origins = b;
        origins_left = b';
        states = c;
        states_left = c';
        says = x.says;
        well = well;
      }

-- What it leaves

module _ {xs ys : List ℕ} (c : Composition xs ys) where
  abbrev number : ℕ
  number = compose_refusal xs ys (length c.table) (length c.origins) (length c.states)

  none : number ≡ 0
  none = sym c.says.refusal_is ∙ c.well

  pub composable : Composable xs ys
  composable = none_composable xs ys (length c.table) (length c.origins) (length c.states) none

  len_told : c.answer.len ≡ length (encode (composition xs ys))
  len_told = c.says.len_is ∙ unless_none number (length (encode (composition xs ys))) none

  pub composed_bytes_are : composed_bytes c ≡ encode (composition xs ys)
  composed_bytes_are =
      take_told c.answer.len (length c.table) (encode (composition xs ys)) c.table_left len_told
      (c.says.table ∙ behind_written c.table (encode (composition xs ys)) number none)

  -- What is handed on lies within the buffer.
  pub composed_fits : c.answer.len ≤ length c.table_left
  composed_fits = omega (arith, length-take c.answer.len c.table_left, ap length composed_bytes_are, len_told)

  pub composed_origins_are : c.origins_left ≡ filled (length c.origins) (origin_pairs (composed (decode xs) (decode ys)).steps)
  composed_origins_are = c.says.origins ∙ behind_written c.origins (origin_pairs (composed (decode xs) (decode ys)).steps) number none

-- Zeros behind the origins lead nowhere else.
one_filled : (t u z : Transducer) (os os' : List ℕ) (room : ℕ) → os' ≡ filled room os → OneToOne t u z os → OneToOne t u z os'
one_filled t u z os os' room is one = record { leads = leads; never_two = never_two; every = every }
  where
    same : (side : ℕ) (p : List ℕ) → met_at os' side p ≡ met_at os side p
    same side p = ap (λ (o : List ℕ). met_at o side p) is ∙ met_filled room os side p

    leads : (p : List ℕ) → accepts z p ≡ true → StandsFor t u z p (met_at os' 0 p) (met_at os' 1 p)
    leads p h = rw (same 0 p, same 1 p) (one.leads p h)

    never_two : (p q : List ℕ) → accepts z p ≡ true → accepts z q ≡ true → met_at os' 0 p ≡ met_at os' 0 q → met_at os' 1 p ≡ met_at os' 1 q → p ≡ q
    never_two p q h k l r = one.never_two p q h k (sym (same 0 p) ∙ l ∙ same 0 q) (sym (same 1 p) ∙ r ∙ same 1 q)

    every : (x y : List ℕ) → Pair t u x y → (p : List ℕ) × (accepts z p ≡ true) × (met_at os' 0 p ≡ x) × (met_at os' 1 p ≡ y)
    every x y pair = let r = one.every x y pair in (r.0, r.1, same 0 r.0 ∙ r.2, same 1 r.0 ∙ r.3)

-- The transducer in what is handed on.
module _ {xs ys : List ℕ} (good_xs : Good (decode xs)) (good_ys : Good (decode ys)) (c : Composition xs ys) where
  abbrev named_xs : has_no_any_input (decode xs) ≡ true
  named_xs = (composable c).left_no_any

  pub composition_read : decode (composed_bytes c) ≡ composition xs ys
  composition_read = ap decode (composed_bytes_are c) ∙ decode_composed (decode xs) (decode ys) good_xs named_xs good_ys (composable c).fine

  pub composition_good : Good (decode (composed_bytes c))
  composition_good = rw composition_read (composed_good (decode xs) (decode ys) good_xs named_xs good_ys (composable c).fine)

  pub composition_plain : plain (decode (composed_bytes c)) ≡ true
  composition_plain = rw composition_read (composed_plain (decode xs) (decode ys) good_xs named_xs good_ys)

  pub composition_accepted : refusal (composed_bytes c) ≡ 0
  composition_accepted = rw (composed_bytes_are c) (refusal_composed (decode xs) (decode ys) good_xs named_xs good_ys (composable c).fine)

  pub composition_pairs : OneToOne (decode xs) (decode ys) (decode (composed_bytes c)) c.origins_left
  composition_pairs =
      one_filled (decode xs) (decode ys) (decode (composed_bytes c)) (origin_pairs (composed (decode xs) (decode ys)).steps) c.origins_left
      (length c.origins) (composed_origins_are c)
      (rw composition_read (composed_one_to_one (decode xs) (decode ys) good_xs good_ys (composable c).fine))

  pub composition_least_sums : LeastSums (decode xs) (decode ys) (decode (composed_bytes c))
  composition_least_sums = rw composition_read (composed_least_sums (decode xs) (decode ys) good_xs good_ys (composable c).fine)

pub composition_claimed : {left right : List ℕ} (x : Answered left right) → CompositionClaim x
composition_claimed {left} {right} x =
    let good_left : Good (decode left) = accepted_good left x.left_bytes (composable x.call).left_good in
    let good_right : Good (decode right) = accepted_good right x.right_bytes (composable x.call).right_good in
    record { one_to_one = composition_pairs good_left good_right x.call; least_sums = composition_least_sums good_left good_right x.call }

-- There are such calls: whatever is lent, if it is long enough.
module _ (t o s : List ℕ) (long_t : max_bytes ≤ length t) (long_o : max_origins ≤ length o) (long_s : max_states ≤ length s) where
  pub some_composition : (xs ys : List ℕ) → composition_refusal xs ys ≡ 0 → Composition xs ys
  unfolding unless
  some_composition xs ys none =
      record {
        answer = record { refusal = 0; len = length (encode (composition xs ys)) };
        table = t;
        table_left = left_behind 0 t (encode (composition xs ys));
        origins = o;
        origins_left = left_behind 0 o (origin_pairs (composed (decode xs) (decode ys)).steps);
        states = s;
        states_left = left_behind 0 s [];
        says =
            rw (compose_number xs ys (length t) (length o) (length s) long_t long_o long_s, none)
            (record { refusal_is = refl; len_is = refl; table = refl; origins = refl; work = refl });
        well = refl;
      }
