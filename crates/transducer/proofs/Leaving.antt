-- The arcs of a state stand together, and those of them that fit a symbol are told by one label. Assumes nothing.
use Rattle.std.proofs.Common.{◌≡◌, ℕ, suc, ◌<◌, ◌≤◌, true, length, ◌∙◌, add-one, arith}
use native.Mathlib.Decide.{dec_le}
use Rattle.transducer.specs.Format.{Transducer, Good, any}
use Rattle.transducer.specs.Path.{arc}
use Rattle.transducer.specs.Accepted.{arcs_below, Rest, Leaving, FittingLabel}
use Rattle.transducer.proofs.Good.{content_good}
use Rattle.transducer.proofs.Index.{arcs_of_state, state_of_arcs}
use Rattle.transducer.proofs.Index.{arcs_below_length, arcs_below_mono}
use Rattle.transducer.specs.Each.{unnamed, has_no_any_input}
use Rattle.transducer.proofs.Fits.{none_unnamed, label_at, label_any, label_named, fits_label, fits_named, fits_none, named_input}

-- A part of the rest, up to the same end.
pub rest_from : {u : Transducer} {q from to : ℕ} (k : ℕ) → Rest u q from to → from ≤ k → k ≤ to → Rest u q k to
rest_from k r l m =
    record { order = m; within = r.within; sources = λ j p. r.sources j (omega arith); behind = r.behind }

-- The same, as the rest of the state that its first arc leaves.
pub rest_at : {u : Transducer} {q from to : ℕ} (k : ℕ) → Rest u q from to → from ≤ k → k < to → Rest u (arc u k).source k to
rest_at {u} {q} {from} {to} k r l m =
    let is : (arc u k).source ≡ q = r.sources k l m in
    rw is (rest_from k r l (omega arith))

pub state_leaving : (u : Transducer) (q : ℕ) → Good u → Leaving u q (arcs_below q u.arcs) (arcs_below (suc q) u.arcs)
state_leaving u q g =
    let good = content_good u g.content in
    let rises : arcs_below q u.arcs ≤ arcs_below (suc q) u.arcs = arcs_below_mono q (suc q) u.arcs (omega arith) in
    let end : arcs_below (suc q) u.arcs ≤ length u.arcs = arcs_below_length (suc q) u.arcs in
    record {
      rest =
          record {
            order = rises;
            within = end;
            sources = λ j l h. state_of_arcs u j q good (omega arith) l (rw (add-one q) h);
            behind = λ j l h e. let in_state = rw (add-one q) at (arcs_of_state u j q good h e) in omega (arith, in_state.1);
          };
      before = λ j l e. let in_state = arcs_of_state u j q good (omega arith) e in omega (arith, in_state.0);
    }

-- A symbol that none of the state's arcs reads is not named there.
pub leaving_unnamed : {u : Transducer} {q from to : ℕ} (s : ℕ) → Leaving u q from to
    → ((i : ℕ) → from ≤ i → i < to → (arc u i).input ≡ s → ⊥) → unnamed u q s ≡ true
leaving_unnamed {u} {q} {from} {to} s l none =
    none_unnamed u q s (λ i inside leaves reads. on i inside leaves reads (dec_le from i) (dec_le to i))
  where
    on : (i : ℕ) → i < length u.arcs → (arc u i).source ≡ q → (arc u i).input ≡ s → Dec (from ≤ i) → Dec (to ≤ i) → ⊥
    on i inside leaves reads (no before) d = l.before i (omega arith) leaves
    on i inside leaves reads (yes least) (yes behind) = l.rest.behind i behind inside leaves
    on i inside leaves reads (yes least) (no below) = none i least (omega arith) reads

-- The arcs of a state that fit a symbol

module _ (t : Transducer) (from to s : ℕ) where
  -- Those that read it: where no arc is for any symbol, for no symbol, and where one of them reads it.
  pub no_any_label : has_no_any_input t ≡ true → FittingLabel t s from to s
  no_any_label all = λ i l h. fits_named t s (arc t i) (named_input t all i)

  pub no_label : s ≡ 0 → FittingLabel t s from to s
  no_label z = rw z (λ i l h. fits_none t (arc t i))

  module _ {q : ℕ} (leaving : Leaving t q from to) where
    here : FittingLabel t s from to (label_at t q s)
    here i l h = fits_label t q s i (omega (arith, leaving.rest.within)) (leaving.rest.sources i l h)

    pub named_label : (k : ℕ) → from ≤ k → k < to → (arc t k).input ≡ s → FittingLabel t s from to s
    named_label k l h reads =
        let is : label_at t q s ≡ s = label_named t q s k (omega (arith, leaving.rest.within)) (leaving.rest.sources k l h) reads in
        λ i m g. here i m g ∙ (rw is)

    -- Else those for any symbol.
    pub unnamed_label : (s ≡ 0 → ⊥) → ((i : ℕ) → from ≤ i → i < to → (arc t i).input ≡ s → ⊥) → FittingLabel t s from to any
    unnamed_label some none i l h =
        let is : label_at t q s ≡ any = label_any t q s some (leaving_unnamed s leaving none) in
        here i l h ∙ (rw is)
