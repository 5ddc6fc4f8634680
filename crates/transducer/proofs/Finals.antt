-- Laws of `is_final`, `final_weight` and `final_code`, and the loop that stores the codes by state. Assumes nothing.
use Rattle.std.proofs.Common.{◌≡◌, ℕ, zero, suc, ◌+◌, ◌*◌, ◌<◌, ◌≤◌, Bool, true, false, cond, not, ◌||◌, eqb, leb, List, [], ◌∷◌, ◌++◌, length, get_or, take, set, replicate, sym, refl, ap, ◌∙◌, add-one, arith, length-set, get_or-set_other, get_or-set_same, eq-eqb, ne_eqb, leb-true}
use native.Mathlib.Decide.{ℕ_discrete}
use lib.ListN.{length-replicate, get_or-replicate}
use Rattle.wire.specs.Bytes.{Bytes, places, every}
use Rattle.wire.proofs.Places.{places_snoc, take_places}
use Rattle.wire.proofs.Bool.{and-true, true_and, by_test}
use Rattle.transducer.specs.declared.Final.{Final}
use Rattle.transducer.specs.Format.{head_bytes, final_bytes, max_states, decode, refusal, finals_rise, head_finals, final_at, weight_good}
use Rattle.transducer.specs.Path.{is_final, final_weight}
use Rattle.transducer.specs.Accepted.{final_code, max_code, FinalsByState}
use Rattle.transducer.specs.Weight.{Weight, code_of, weight_of}
use Rattle.transducer.proofs.Good.{finals_rise_good, final_state_below, final_light, finals_light}
use Rattle.transducer.proofs.Offsets.{length_accepted, decode_states, decode_finals, length_finals, final_offset, accepted_within, accepted_good}
use Rattle.transducer.proofs.Weights.{none_good, code_some, code_most, weight_code}

pub is_final_append : (xs ys : List Final) (s : ℕ) → is_final (xs ++ ys) s ≡ is_final xs s || is_final ys s
unfolding is_final
is_final_append [] ys s = refl
is_final_append (x ∷ xs) ys s = on (eqb x.state s) (is_final xs s) (is_final ys s) (is_final_append xs ys s)
  where
    on : (a b c : Bool) → is_final (xs ++ ys) s ≡ b || c → a || is_final (xs ++ ys) s ≡ a || b || c
    on true b c h = refl
    on false b c h = h

pub final_weight_append : (xs ys : List Final) (s : ℕ) → final_weight (xs ++ ys) s ≡ cond (is_final xs s) (final_weight xs s) (final_weight ys s)
unfolding is_final final_weight
final_weight_append [] ys s = refl
final_weight_append (x ∷ xs) ys s = on (eqb x.state s) (final_weight_append xs ys s)
  where
    on : (a : Bool) → final_weight (xs ++ ys) s ≡ cond (is_final xs s) (final_weight xs s) (final_weight ys s) →
        cond a x.weight (final_weight (xs ++ ys) s) ≡ cond (a || is_final xs s) (cond a x.weight (final_weight xs s)) (final_weight ys s)
    on true h = refl
    on false h = h

-- One more final at the end: of another state nothing changes, of its own the code is that of its weight.
pub final_code_append : (xs ys : List Final) (s : ℕ) → final_code (xs ++ ys) s ≡ cond (is_final xs s) (final_code xs s) (final_code ys s)
unfolding final_code
final_code_append xs ys s =
    rw (is_final_append xs ys s, final_weight_append xs ys s) (on (is_final xs s) (is_final ys s) (final_weight xs s) (final_weight ys s))
  where
    on : (a b : Bool) (v w : Weight) → cond (a || b) (code_of (cond a v w)) 0 ≡ cond a (cond a (code_of v) 0) (cond b (code_of w) 0)
    on true b v w = refl
    on false b v w = refl

pub final_code_other : (xs : List Final) (f : Final) (s : ℕ) → (f.state ≡ s → ⊥) → final_code (xs ++ (f ∷ [])) s ≡ final_code xs s
unfolding final_code is_final final_weight
final_code_other xs f s h =
    let no_match : eqb f.state s ≡ false = ne_eqb f.state s h in
    final_code_append xs (f ∷ []) s ∙ rw no_match (on (is_final xs s) (final_weight xs s))
  where
    on : (a : Bool) (v : Weight) → cond a (cond a (code_of v) 0) 0 ≡ cond a (code_of v) 0
    on true v = refl
    on false v = refl

pub rise_floor : (floor : ℕ) (xs : List Final) (f : Final) → finals_rise floor (xs ++ (f ∷ [])) ≡ true → floor ≤ f.state
unfolding finals_rise
rise_floor floor [] f h = leb-true floor f.state (and-true (leb floor f.state) true h).0
rise_floor floor (x ∷ xs) f h =
    let both = and-true (leb floor x.state) (finals_rise (x.state + 1) (xs ++ (f ∷ []))) h in
    omega (arith, leb-true floor x.state both.0, rise_floor (x.state + 1) xs f both.1)

-- The last of rising finals has a new state.
pub rise_new : (floor : ℕ) (xs : List Final) (f : Final) → finals_rise floor (xs ++ (f ∷ [])) ≡ true → is_final xs f.state ≡ false
unfolding finals_rise is_final
rise_new floor [] f h = refl
rise_new floor (x ∷ xs) f h =
    let both = and-true (leb floor x.state) (finals_rise (x.state + 1) (xs ++ (f ∷ []))) h in
    let above : x.state + 1 ≤ f.state = rise_floor (x.state + 1) xs f both.1 in
    let no_match : eqb x.state f.state ≡ false = ne_eqb x.state f.state (λ e. omega arith) in
    rw (no_match, rise_new (x.state + 1) xs f both.1)

pub rise_take : (floor i : ℕ) (xs : List Final) → finals_rise floor xs ≡ true → finals_rise floor (take i xs) ≡ true
unfolding finals_rise
rise_take floor zero xs h = refl
rise_take floor (suc i) [] h = refl
rise_take floor (suc i) (x ∷ xs) h =
    let both = and-true (leb floor x.state) (finals_rise (x.state + 1) xs) h in
    true_and (leb floor x.state) (finals_rise (x.state + 1) (take i xs)) both.0 (rise_take (x.state + 1) i xs both.1)

pub final_code_last : (floor : ℕ) (xs : List Final) (f : Final) → finals_rise floor (xs ++ (f ∷ [])) ≡ true
    → final_code (xs ++ (f ∷ [])) f.state ≡ code_of f.weight
unfolding final_code is_final final_weight
final_code_last floor xs f h =
    let new : is_final xs f.state ≡ false = rise_new floor xs f h in
    let same : eqb f.state f.state ≡ true = eq-eqb f.state f.state refl in
    final_code_append xs (f ∷ []) f.state ∙ rw (new, same)

-- The weight of a final state is good where those of all finals are, and its code leads back to it.
pub final_weight_good : (fs : List Final) (s : ℕ) → every (λ f. weight_good f.weight) fs ≡ true → weight_good (final_weight fs s) ≡ true
unfolding every final_weight
final_weight_good [] s h = none_good
final_weight_good (f ∷ fs) s h =
    let two = and-true (weight_good f.weight) (every (λ f. weight_good f.weight) fs) h in
    by_test (eqb f.state s) (λ e. rw e two.0) (λ e. rw e (final_weight_good fs s two.1))

pub final_code_most : (fs : List Final) (s : ℕ) → every (λ f. weight_good f.weight) fs ≡ true → final_code fs s ≤ max_code
unfolding final_code
final_code_most fs s h = by_test (is_final fs s) (λ e. rw e (code_most (final_weight fs s) (final_weight_good fs s h))) (λ e. rw e (omega arith))

-- Whether a code is 0 says whether the state is final.
pub final_code_some : (fs : List Final) (s : ℕ) → eqb (final_code fs s) 0 ≡ not (is_final fs s)
unfolding final_code
final_code_some fs s =
    by_test (is_final fs s) (λ e. rw e (ne_eqb (code_of (final_weight fs s)) 0 (code_some (final_weight fs s)))) (λ e. rw e refl)

pub weight_final_code : (fs : List Final) (s : ℕ) → every (λ f. weight_good f.weight) fs ≡ true → is_final fs s ≡ true
    → weight_of (final_code fs s) ≡ final_weight fs s
unfolding final_code
weight_final_code fs s h e = rw e (weight_code (final_weight fs s) (final_weight_good fs s h))

-- The codes of the first `i` finals are stored.
pub record Coded (bs : List ℕ) (i : ℕ) (codes : List ℕ) : Type 0 where
  pub within : i ≤ head_finals bs
  pub long : length codes ≡ max_states
  pub so_far : (s : ℕ) → s < max_states → get_or codes s 0 ≡ final_code (places i head_bytes final_bytes (final_at bs)) s

pub coded_first : (bs : List ℕ) → Coded bs 0 (replicate max_states 0)
unfolding places final_code is_final
coded_first bs =
    record { within = omega arith; long = length-replicate {A = ℕ} max_states 0; so_far = λ s h. get_or-replicate {A = ℕ} max_states s 0 0 h }

-- What one store of a new state's code leaves at each state.
stored_code : (codes : List ℕ) (old : List Final) (f : Final) (s : ℕ) → finals_rise 0 (old ++ (f ∷ [])) ≡ true → f.state < length codes →
    get_or codes s 0 ≡ final_code old s → Dec (f.state ≡ s) → get_or (set codes f.state (code_of f.weight)) s 0 ≡ final_code (old ++ (f ∷ [])) s
stored_code codes old f s rise room is (yes e) =
    rw (← e) (get_or-set_same codes f.state (code_of f.weight) 0 room ∙ sym (final_code_last 0 old f rise))
stored_code codes old f s rise room is (no n) =
    get_or-set_other codes f.state s (code_of f.weight) 0 (λ e. n (sym e)) ∙ is ∙ sym (final_code_other old f s n)

module _ (bs : List ℕ) (bytes : Bytes bs) (ok : refusal bs ≡ 0) where
  pub final_inside : (i : ℕ) → i < head_finals bs → head_bytes + final_bytes * i + final_bytes ≤ length bs
  final_inside i h = omega (arith, length_accepted bs bytes ok)

  -- The final that the loop loads in a turn.
  loaded : {i : ℕ} (f : Final) → i < head_finals bs → f ≡ final_at bs (head_bytes + final_bytes * i) → get_or (decode bs).finals i f ≡ f
  loaded {i} f h e = final_offset bs bytes ok i f (omega (arith, length_finals bs bytes ok)) ∙ sym e

  pub coded_state : {i : ℕ} (f : Final) → i < head_finals bs → f ≡ final_at bs (head_bytes + final_bytes * i) → f.state < max_states
  coded_state {i} f h e =
      let below = final_state_below (decode bs) (accepted_good bs bytes ok) i f (omega (arith, length_finals bs bytes ok)) in
      let here = ap (λ (g : Final). g.state) (loaded f h e) in
      omega (arith, below, here, decode_states bs bytes ok, (accepted_within bs bytes ok).states)

  pub coded_weight : {i : ℕ} (f : Final) → i < head_finals bs → f ≡ final_at bs (head_bytes + final_bytes * i) → weight_good f.weight ≡ true
  coded_weight {i} f h e =
      let light = final_light (decode bs) (accepted_good bs bytes ok) i f (omega (arith, length_finals bs bytes ok)) in
      rw (loaded f h e) at light

  pub coded_next : {i : ℕ} {codes : List ℕ} (f : Final) → i < head_finals bs → f ≡ final_at bs (head_bytes + final_bytes * i) → Coded bs i codes →
      Coded bs (i + 1) (set codes f.state (code_of f.weight))
  coded_next {i} {codes} f h e c =
      let old : List Final = places i head_bytes final_bytes (final_at bs) in
      let more : places (i + 1) head_bytes final_bytes (final_at bs) ≡ old ++ (f ∷ []) =
      rw (add-one, e) (places_snoc i head_bytes final_bytes (final_at bs)) in
      let rise : finals_rise 0 (places (head_finals bs) head_bytes final_bytes (final_at bs)) ≡ true =
      rw (decode_finals bs bytes ok) at (finals_rise_good (decode bs) (accepted_good bs bytes ok)) in
      let rise_more : finals_rise 0 (old ++ (f ∷ [])) ≡ true =
      rw (← more, ← take_places (i + 1) (head_finals bs) head_bytes final_bytes (final_at bs) (omega arith))
      (rise_take 0 (i + 1) (places (head_finals bs) head_bytes final_bytes (final_at bs)) rise) in
      let room : f.state < length codes = omega (arith, coded_state f h e, c.long) in
      record {
        within = omega arith;
        long = length-set codes f.state (code_of f.weight) ∙ c.long;
        so_far = λ s l. rw more (stored_code codes old f s rise_more room (c.so_far s l) (ℕ_discrete f.state s));
      }

  pub coded_stop : {i : ℕ} {codes : List ℕ} → head_finals bs ≤ i → Coded bs i codes → FinalsByState (decode bs) codes
  coded_stop {i} {codes} h c =
      let e : i ≡ head_finals bs = omega (arith, c.within) in
      let all : (decode bs).finals ≡ places i head_bytes final_bytes (final_at bs) = rw e (decode_finals bs bytes ok) in
      let are : (s : ℕ) → s < max_states → get_or codes s 0 ≡ final_code (decode bs).finals s = λ s l. rw all (c.so_far s l) in
      record {
        long = c.long;
        at_state = are;
        small = λ s l. rw (are s l) (final_code_most (decode bs).finals s (finals_light (decode bs) (accepted_good bs bytes ok)));
      }
