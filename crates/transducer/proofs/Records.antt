-- The two walks over records, `framed_from` and `records_from`, by one step at a place, and what a loop that goes so knows.
--     framed_end, framed_more, records_end, records_more     one step, with no word of fuel
--     framed_short, framed_past, framed_next, framed_fits    the framing at a place
--     KindsFrom                                                  a loop over the kinds: what is left decides
-- Assumes nothing.
use Rattle.std.proofs.Common.{◌≡◌, ℕ, zero, suc, ◌+◌, ◌<◌, ◌≤◌, Bool, true, false, not, ◌&&◌, eqb, ltb, leb, List, [], ◌∷◌, length, sym, refl, ◌∙◌, arith, ltb-false, ltb-true, le-ltb, lt-ltb, ne_eqb, eqb-true, le-leb, leb-true}
use borrow.Author.Tests.{lt-leb, not-true}
use Rattle.wire.specs.Bytes.{two}
use Rattle.wire.proofs.Bool.{and-true}
use Rattle.transducer.specs.Format.{Record, framed_from, framed, records_from, records, kind_good, in_order, kinds_good}

-- The walks from a place, with fuel that is always enough, and the record at a place.

abbrev pub framed_at : List ℕ → (at : ℕ) → Bool
framed_at bs at = framed_from (length bs) bs at

abbrev pub records_at : List ℕ → (at : ℕ) → List Record
records_at bs at = records_from (length bs) bs at

abbrev pub record_at : List ℕ → (at : ℕ) → Record
record_at bs at = record { kind = two bs (at + 2); size = two bs at; body = at + 4 }

framed_stop : (k : ℕ) (bs : List ℕ) (at : ℕ) → length bs ≤ at → framed_from k bs at ≡ true
unfolding framed_from
framed_stop zero bs at h = refl
framed_stop (suc k) bs at h = rw (le-ltb at (length bs) h)

framed_fuel : (k l : ℕ) (bs : List ℕ) (at : ℕ) → length bs ≤ at + k → length bs ≤ at + l → framed_from k bs at ≡ framed_from l bs at
unfolding framed_from
framed_fuel zero l bs at h g = sym (framed_stop l bs at (omega arith))
framed_fuel (suc k) zero bs at h g = framed_stop (suc k) bs at (omega arith)
framed_fuel (suc k) (suc l) bs at h g = rw (framed_fuel k l bs (at + 4 + two bs at) (omega arith) (omega arith))

records_stop : (k : ℕ) (bs : List ℕ) (at : ℕ) → length bs ≤ at → records_from k bs at ≡ []
unfolding records_from
records_stop zero bs at h = refl
records_stop (suc k) bs at h = rw (le-ltb at (length bs) h)

records_fuel : (k l : ℕ) (bs : List ℕ) (at : ℕ) → length bs ≤ at + k → length bs ≤ at + l → records_from k bs at ≡ records_from l bs at
unfolding records_from
records_fuel zero l bs at h g = sym (records_stop l bs at (omega arith))
records_fuel (suc k) zero bs at h g = records_stop (suc k) bs at (omega arith)
records_fuel (suc k) (suc l) bs at h g = rw (records_fuel k l bs (at + 4 + two bs at) (omega arith) (omega arith))

pub framed_end : (bs : List ℕ) (at : ℕ) → length bs ≤ at → framed_at bs at ≡ true
framed_end bs at h = framed_stop (length bs) bs at h

pub framed_more : (bs : List ℕ) (at : ℕ) → at < length bs →
    framed_at bs at ≡ leb (at + 4) (length bs) && (leb (at + 4 + two bs at) (length bs) && framed_at bs (at + 4 + two bs at))
unfolding framed_from
framed_more bs at h =
    framed_fuel (length bs) (suc (length bs)) bs at (omega arith) (omega arith) ∙ rw (lt-ltb at (length bs) h)

pub records_end : (bs : List ℕ) (at : ℕ) → length bs ≤ at → records_at bs at ≡ []
records_end bs at h = records_stop (length bs) bs at h

pub records_more : (bs : List ℕ) (at : ℕ) → at < length bs → records_at bs at ≡ record_at bs at ∷ records_at bs (at + 4 + two bs at)
unfolding records_from
records_more bs at h =
    records_fuel (length bs) (suc (length bs)) bs at (omega arith) (omega arith) ∙ rw (lt-ltb at (length bs) h)

-- A case for each way that a test goes.
pub by_order : {A : Type 0} (a b : ℕ) → (a < b → A) → (b ≤ a → A) → A
by_order {A} a b f g = on (ltb a b) refl
  where
    on : (t : Bool) → ltb a b ≡ t → A
    on true e = f (ltb-true a b e)
    on false e = g (ltb-false a b e)

pub by_kind : {A : Type 0} (after : Bool) (kind size : ℕ) → kind_good after kind size ≡ true → (kind ≡ 2 → size ≡ 6 → after ≡ false → A) →
    (kind ≡ 3 → size ≡ 12 → A) → A
unfolding kind_good
by_kind {A} after kind size h f g = on (eqb kind 2) refl
  where
    on : (t : Bool) → eqb kind 2 ≡ t → A
    on true e =
        let both : (not after ≡ true) × (eqb size 6 ≡ true) = and-true (not after) (eqb size 6) (rw e at h) in
        f (eqb-true kind 2 e) (eqb-true size 6 both.1) (not-true after both.0)
    on false e =
        let both : (eqb kind 3 ≡ true) × (eqb size 12 ≡ true) = and-true (eqb kind 3) (eqb size 12) (rw e at h) in
        g (eqb-true kind 3 both.0) (eqb-true size 12 both.1)

-- The framing at a place: no room for a record's head, none for its body, or room for both.

pub framed_short : (bs : List ℕ) (at : ℕ) → at < length bs → length bs < at + 4 → framed_at bs at ≡ false
framed_short bs at h l = framed_more bs at h ∙ rw (lt-leb (at + 4) (length bs) l)

pub framed_past : (bs : List ℕ) (at : ℕ) → at + 4 ≤ length bs → length bs < at + 4 + two bs at → framed_at bs at ≡ false
framed_past bs at h l =
    framed_more bs at (omega arith) ∙ rw (le-leb (at + 4) (length bs) h, lt-leb (at + 4 + two bs at) (length bs) l)

pub framed_next : (bs : List ℕ) (at : ℕ) → at + 4 + two bs at ≤ length bs → framed_at bs at ≡ framed_at bs (at + 4 + two bs at)
framed_next bs at h =
    framed_more bs at (omega arith) ∙ rw (le-leb (at + 4) (length bs) (omega arith), le-leb (at + 4 + two bs at) (length bs) h)

pub framed_fits : (bs : List ℕ) (at : ℕ) → at < length bs → framed_at bs at ≡ true →
    (at + 4 + two bs at ≤ length bs) × (framed_at bs (at + 4 + two bs at) ≡ true)
framed_fits bs at h fr =
    let next = at + 4 + two bs at in
    let a = and-true (leb (at + 4) (length bs)) (leb next (length bs) && framed_at bs next) (sym (framed_more bs at h) ∙ fr) in
    let b = and-true (leb next (length bs)) (framed_at bs next) a.1 in
    (leb-true next (length bs) b.0, b.1)

pub framed_head : (bs : List ℕ) → framed bs ≡ true → 0 < length bs → 4 ≤ length bs
unfolding framed
framed_head bs fr h = omega (arith, (framed_fits bs 0 h fr).0)

-- The kinds, from the first record on.

pub kinds_none : (bs : List ℕ) → length bs ≡ 0 → kinds_good (records bs) ≡ false
unfolding records kinds_good
kinds_none bs h = rw (records_end bs 0 (omega arith))

pub kinds_first : (bs : List ℕ) → 0 < length bs →
    kinds_good (records bs) ≡ (eqb (two bs 2) 1 && eqb (two bs 0) 8) && in_order false (records_at bs (4 + two bs 0))
unfolding records kinds_good
kinds_first bs h = rw (records_more bs 0 h)

pub kinds_not_head : (bs : List ℕ) → 0 < length bs → (two bs 2 ≡ 1 → ⊥) → kinds_good (records bs) ≡ false
kinds_not_head bs h n = kinds_first bs h ∙ rw (ne_eqb (two bs 2) 1 n)

pub kinds_not_8 : (bs : List ℕ) → 0 < length bs → two bs 2 ≡ 1 → (two bs 0 ≡ 8 → ⊥) → kinds_good (records bs) ≡ false
kinds_not_8 bs h k n = kinds_first bs h ∙ rw (k, ne_eqb (two bs 0) 8 n)

-- A loop at a place: the records from here on decide whether all kinds are good.
pub record KindsFrom (bs : List ℕ) (at : ℕ) (after : Bool) : Type 0 where
  pub within : at ≤ length bs
  pub framing : framed_at bs at ≡ true
  pub kinds : in_order after (records_at bs at) ≡ kinds_good (records bs)

pub going_first : (bs : List ℕ) → framed bs ≡ true → 0 < length bs → two bs 2 ≡ 1 → two bs 0 ≡ 8 → KindsFrom bs 12 false
unfolding framed
going_first bs fr h kind size =
    let next : 0 + 4 + two bs 0 ≡ 12 = omega arith in
    let fits = framed_fits bs 0 h fr in
    record {
      within = omega (arith, fits.0);
      framing = rw next at fits.1;
      kinds = sym (kinds_first bs h ∙ rw (kind, size));
    }

pub going_fits : {bs : List ℕ} {at : ℕ} {after : Bool} → KindsFrom bs at after → at < length bs → at + 4 + two bs at ≤ length bs
going_fits {bs} {at} g h = (framed_fits bs at h g.framing).0

going_kind : {bs : List ℕ} {at : ℕ} {after : Bool} → KindsFrom bs at after → at < length bs →
    kinds_good (records bs) ≡ kind_good after (two bs (at + 2)) (two bs at) && in_order (eqb (two bs (at + 2)) 3) (records_at bs (at + 4 + two bs at))
unfolding in_order
going_kind {bs} {at} g h = sym g.kinds ∙ rw (records_more bs at h)

pub going_more : {bs : List ℕ} {at : ℕ} {after : Bool} (kind size : ℕ) → KindsFrom bs at after → at < length bs → kind ≡ two bs (at + 2) →
    size ≡ two bs at → kind_good after kind size ≡ true → KindsFrom bs (at + (4 + size)) (eqb kind 3)
going_more {bs} {at} {after} kind size g h k s good =
    let next : at + 4 + two bs at ≡ at + (4 + size) = omega arith in
    let fits = framed_fits bs at h g.framing in
    record {
      within = omega (arith, fits.0);
      framing = rw next at fits.1;
      kinds = sym (going_kind g h ∙ rw (next, ← k, ← s, good));
    }

pub going_wrong : {bs : List ℕ} {at : ℕ} {after : Bool} (kind size : ℕ) → KindsFrom bs at after → at < length bs → kind ≡ two bs (at + 2) →
    size ≡ two bs at → kind_good after kind size ≡ false → kinds_good (records bs) ≡ false
going_wrong kind size g h k s bad = going_kind g h ∙ rw (← k, ← s, bad)

pub going_done : {bs : List ℕ} {at : ℕ} {after : Bool} → KindsFrom bs at after → length bs ≤ at → kinds_good (records bs) ≡ true
unfolding in_order
going_done {bs} {at} g h = sym g.kinds ∙ rw (records_end bs at h)
