-- The walk by keys builds what the walk over states does: its keys are those of the states, and where these are at most 1,024 its arcs and
-- origins are the ones built. Assumes nothing.
use mathlib.Core.Path.{◌≡◌, refl, sym, ap, subst, ◌∙◌}
use mathlib.Core.Bool.{Bool, true, false, not, cond}
use mathlib.Core.Logic.{◌⊎◌, inl, inr, ⊎_elim, ◌↔◌}
use mathlib.Core.List.{List, [], ◌∷◌, ◌++◌, map, map-append, append_assoc, append-nil}
use Prim.Native.Nat.{ℕ, zero, suc, ◌+◌, ◌≤◌, ◌<◌}
use native.Mathlib.Omega.{arith}
use lib.Dec.{leb, eqb}
use lib.ListN.{length, get_or, drop, length-map, drop_of_length-le}
use lib.Seq.{drop-cons}
use borrow.Author.Tests.{eq-eqb, ne_eqb, leb-true, leb-false}
use Rattle.wire.specs.Bytes.{every}
use Rattle.transducer.specs.declared.Arc.{Arc}
use Rattle.transducer.specs.Format.{max_states, weight_good}
use Rattle.transducer.specs.Weight.{Weight}
use Rattle.explore.specs.Explore.{Decides, Step, there, place, met, served, numbered, targets, Built, built, arcs_here, arcs_from, steps_from}
use Rattle.explore.specs.Walk.{Keyed, keyed, all_origins, Sofar, with_key, taken, all_taken, state_served, served_from, begun, explored}
use Rattle.wire.proofs.Bool.{by_test, clash}
use Rattle.explore.proofs.Member.{
  Mem,
  at_get_or,
  get_d_at,
  at_map,
  mem_here,
  mem_later,
  mem_cons,
  mem_append,
  mem_nil,
  mem_right,
  mem_get_or,
  mem_there,
  same_of_eq,
}
use Rattle.explore.proofs.Meeting.{Grows, grows_trans, grows_length, grows_get_or, grows_place, met_grows, met_length}
use Rattle.explore.proofs.Serving.{served_step, served_rest, served_grows, served_length}
use Rattle.explore.proofs.TakenSteps.{DearRight, served_from_step, served_from_rest, explored_on, begun_dear, served_on_dear}

-- Keys stand for the states of a walk: no two states within have one key, the walk stays within, and `next` gives the steps of a key's state.
pub record Keying {A O : Type 0} (same : A → A → Bool) (steps : A → List (Step A O)) (first : A) (pack : A → ℕ) (os : O → List ℕ)
    (next : ℕ → List Keyed) (Within : A → Type 0) : Type 0 where
  pub decides : Decides same
  pub injective : (x y : A) → Within x → Within y → pack x ≡ pack y → x ≡ y
  pub first_within : Within first
  pub steps_within : (x : A) (s : Step A O) → Within x → Mem s (steps x) → Within s.target
  pub next_is : (x : A) → Within x → next (pack x) ≡ map (keyed pack os) (steps x)

-- The keys are those of the states xs, and these are within.
pub record Mirrors {A : Type 0} (pack : A → ℕ) (Within : A → Type 0) (b : Sofar) (xs : List A) : Type 0 where
  pub keys_are : b.keys ≡ map pack xs
  pub within : (y : A) → Mem y xs → Within y

-- The keys are those of some states within.
pub record Mirrored {A : Type 0} (pack : A → ℕ) (Within : A → Type 0) (b : Sofar) : Type 0 where
  pub states : List A
  pub mirrors : Mirrors pack Within b states

pub mirrors_length : {A : Type 0} {pack : A → ℕ} {Within : A → Type 0} (b : Sofar) (xs : List A) → Mirrors pack Within b xs
    → length b.keys ≡ length xs
mirrors_length {A} {pack} b xs m = ap length m.keys_are ∙ length-map xs pack

pub mirrors_key : {A : Type 0} {pack : A → ℕ} {Within : A → Type 0} (b : Sofar) (xs : List A) (i : ℕ) (d : A) → Mirrors pack Within b xs
    → i < length xs → get_or b.keys i 0 ≡ pack (get_or xs i d)
mirrors_key {A} {pack} b xs i d m l =
    ap (λ (ks : List ℕ). get_or ks i 0) m.keys_are
    ∙ at_get_or (map pack xs) i (pack (get_or xs i d)) 0 (at_map pack xs i (get_or xs i d) (get_d_at xs i d l))

-- Origins

module _ {A O : Type 0} (os : O → List ℕ) where
  pub all_origins_append : (ss ts : List (Step A O)) → all_origins os (ss ++ ts) ≡ all_origins os ss ++ all_origins os ts
  unfolding all_origins
  all_origins_append [] ts = refl
  all_origins_append (s ∷ ss) ts = rw (all_origins_append ss ts, append_assoc)

  pub taken_origins : (pack : A → ℕ) (i : ℕ) (ss : List (Step A O)) (b : Sofar)
      → (all_taken i (map (keyed pack os) ss) b).origins ≡ b.origins ++ all_origins os ss
  unfolding all_taken taken keyed all_origins
  taken_origins pack i [] b = sym (append-nil b.origins)
  taken_origins pack i (s ∷ ss) b =
      taken_origins pack i ss (taken i (keyed pack os s) b) ∙ append_assoc b.origins (os s.origin) (all_origins os ss)

-- What serving the states from number i on adds to b, where `all` are the states in the end.
pub record Serves {A O : Type 0} (same : A → A → Bool) (steps : A → List (Step A O)) (os : O → List ℕ) (b : Sofar) (i : ℕ) (all : List A) (e : Sofar)
    : Type 0 where
  pub arcs_are : e.arcs ≡ b.arcs ++ arcs_from same steps all i (drop i all)
  pub origins_are : e.origins ≡ b.origins ++ all_origins os (steps_from steps (drop i all))

module _ {A O : Type 0} (same : A → A → Bool) (steps : A → List (Step A O)) (os : O → List ℕ) where
  -- Nothing is left to serve.
  serves_none : (b : Sofar) (i : ℕ) (xs : List A) → length xs ≤ i → Serves same steps os b i xs b
  unfolding arcs_from steps_from all_origins
  serves_none b i xs l =
      let e : drop i xs ≡ [] = drop_of_length-le xs l in
      record { arcs_are = rw e (sym (append-nil b.arcs)); origins_are = rw e (sym (append-nil b.origins)) }

  -- A state x of number i is served, then those behind it.
  serves_more : (b c : Sofar) (i : ℕ) (x : A) (all : List A) (e : Sofar) → drop i all ≡ x ∷ drop (suc i) all
      → c.arcs ≡ b.arcs ++ arcs_here same all i (steps x) → c.origins ≡ b.origins ++ all_origins os (steps x)
      → Serves same steps os c (suc i) all e → Serves same steps os b i all e
  unfolding arcs_from steps_from
  serves_more b c i x all e here arcs origins more =
      let rest : List A = drop (suc i) all in
      record {
        arcs_are =
            more.arcs_are
            ∙ (rw (arcs, here) (append_assoc b.arcs (arcs_here same all i (steps x)) (arcs_from same steps all (suc i) rest)));
        origins_are =
            more.origins_are
            ∙ (rw (origins, here, all_origins_append os (steps x) (steps_from steps rest))
            (append_assoc b.origins (all_origins os (steps x)) (all_origins os (steps_from steps rest))));
      }

module _ {A O : Type 0} {same : A → A → Bool} {steps : A → List (Step A O)} {first : A} {pack : A → ℕ} {os : O → List ℕ} {next : ℕ → List Keyed}
    {Within : A → Type 0} (k : Keying same steps first pack os next Within) where
  abbrev reach : A → List A
  reach x = targets (steps x)

  abbrev with_state : A → List A → List A
  with_state y xs = cond (there same y xs) xs (xs ++ (y ∷ []))

  -- The steps of ss lead to states within.
  abbrev Leading : List (Step A O) → Type 0
  Leading ss = (s : Step A O) → Mem s ss → Within s.target

  -- A key is there, and has the place, that its state is and has.

  same_key : (x y : A) → Within x → Within y → eqb (pack x) (pack y) ≡ same x y
  same_key x y b c =
      by_test (same x y) (λ e. eq-eqb (pack x) (pack y) (ap pack (k.decides.sound x y e)) ∙ sym e)
      (λ e. ne_eqb (pack x) (pack y) (λ p. clash (same_of_eq k.decides x y (k.injective x y b c p)) e) ∙ sym e)

  pub there_key : (x : A) (xs : List A) → Within x → ((y : A) → Mem y xs → Within y) → there eqb (pack x) (map pack xs) ≡ there same x xs
  unfolding there
  there_key x [] b c = refl
  there_key x (y ∷ ys) b c = rw (same_key x y b (c y (mem_here y ys)), there_key x ys b (λ z m. c z (mem_later y m)))

  pub place_key : (x : A) (xs : List A) → Within x → ((y : A) → Mem y xs → Within y) → place eqb (pack x) (map pack xs) ≡ place same x xs
  unfolding place
  place_key x [] b c = refl
  place_key x (y ∷ ys) b c = rw (same_key x y b (c y (mem_here y ys)), place_key x ys b (λ z m. c z (mem_later y m)))

  there_with : (y : A) (ys : List A) → there same y (with_state y ys) ≡ true
  there_with y ys = by_test (there same y ys) (λ e. rw e e) (λ e. rw e (mem_there k.decides (mem_right ys (mem_here y []))))

  -- One step

  pub mirrors_taken : (i : ℕ) (s : Step A O) (b : Sofar) (xs : List A) → Mirrors pack Within b xs → Within s.target
      → Mirrors pack Within (taken i (keyed pack os s) b) (with_state s.target xs)
  unfolding taken keyed with_key
  mirrors_taken i s b xs m w =
      record {
        keys_are =
            ap (λ (ks : List ℕ). cond (there eqb (pack s.target) ks) ks (ks ++ (pack s.target ∷ []))) m.keys_are
            ∙ (rw (there_key s.target xs w m.within) (snoc (there same s.target xs)));
        within = λ y h. inside y (there same s.target xs) h;
      }
    where
      snoc : (c : Bool) → cond c (map pack xs) (map pack xs ++ (pack s.target ∷ [])) ≡ map pack (cond c xs (xs ++ (s.target ∷ [])))
      snoc true = refl
      snoc false = sym (map-append pack xs (s.target ∷ []))

      last : (y : A) → Mem y xs ⊎ Mem y (s.target ∷ []) → Within y
      last y (inl h) = m.within y h
      last y (inr h) = ⊎_elim (λ e. subst (λ (z : A). Within z) e w) (λ n. absurd (mem_nil n)) (mem_cons h)

      inside : (y : A) (c : Bool) → Mem y (cond c xs (xs ++ (s.target ∷ []))) → Within y
      inside y true h = m.within y h
      inside y false h = last y (mem_append xs (s.target ∷ []) h)

  -- The number that a step's target is given is its number in the end.
  taken_place : (i : ℕ) (s : Step A O) (b : Sofar) (xs zs : List A) → Mirrors pack Within b xs → Within s.target
      → Grows (with_state s.target xs) zs → place eqb (pack s.target) (taken i (keyed pack os s) b).keys ≡ place same s.target zs
  taken_place i s b xs zs m w g =
      let y : A = s.target in
      let n = mirrors_taken i s b xs m w in
      ap (λ (ks : List ℕ). place eqb (pack y) ks) n.keys_are
      ∙ place_key y (with_state y xs) w n.within
      ∙ sym (grows_place same y g (there_with y xs))

  -- Several steps

  pub mirrors_all_taken : (i : ℕ) (ss : List (Step A O)) (b : Sofar) (xs : List A) → Mirrors pack Within b xs → Leading ss
      → Mirrors pack Within (all_taken i (map (keyed pack os) ss) b) (met same (targets ss) xs)
  unfolding all_taken met targets
  mirrors_all_taken i [] b xs m lead = m
  mirrors_all_taken i (s ∷ ss) b xs m lead =
      mirrors_all_taken i ss (taken i (keyed pack os s) b) (with_state s.target xs) (mirrors_taken i s b xs m (lead s (mem_here s ss)))
      (λ r h. lead r (mem_later s h))

  pub taken_arcs : (i : ℕ) (ss : List (Step A O)) (b : Sofar) (xs zs : List A) → Mirrors pack Within b xs → Leading ss
      → Grows (met same (targets ss) xs) zs → (all_taken i (map (keyed pack os) ss) b).arcs ≡ b.arcs ++ arcs_here same zs i ss
  unfolding all_taken taken keyed met targets arcs_here
  taken_arcs i [] b xs zs m lead g = sym (append-nil b.arcs)
  taken_arcs i (s ∷ ss) b xs zs m lead g =
      let w : Within s.target = lead s (mem_here s ss) in
      let ys : List A = with_state s.target xs in
      let more = taken_arcs i ss (taken i (keyed pack os s) b) ys zs (mirrors_taken i s b xs m w) (λ r h. lead r (mem_later s h)) g in
      let place_is = taken_place i s b xs zs m w (grows_trans (met_grows same (targets ss) ys) g) in
      let rest : List Arc = arcs_here same zs i ss in
      let a : ℕ → Arc = λ n. record { source = i; input = s.input; output = s.output; target = n; weight = s.weight } in
      more ∙ append_assoc b.arcs (a (place eqb (pack s.target) (taken i (keyed pack os s) b).keys) ∷ []) rest
      ∙ ap (λ (n : ℕ). b.arcs ++ (a n ∷ rest)) place_is

  -- The state of number i is served.

  next_here : (i : ℕ) (b : Sofar) (xs : List A) → Mirrors pack Within b xs → i < length xs
      → next (get_or b.keys i 0) ≡ map (keyed pack os) (steps (get_or xs i first))
  next_here i b xs m l =
      ap next (mirrors_key b xs i first m l) ∙ k.next_is (get_or xs i first) (m.within (get_or xs i first) (mem_get_or xs i first l))

  steps_lead : (i : ℕ) (b : Sofar) (xs : List A) → Mirrors pack Within b xs → i < length xs → Leading (steps (get_or xs i first))
  steps_lead i b xs m l s h = k.steps_within (get_or xs i first) s (m.within (get_or xs i first) (mem_get_or xs i first l)) h

  pub mirrors_served : (i : ℕ) (b : Sofar) (xs : List A) → Mirrors pack Within b xs → i < length xs
      → Mirrors pack Within (state_served next i b) (met same (reach (get_or xs i first)) xs)
  unfolding state_served
  mirrors_served i b xs m l =
      rw (next_here i b xs m l) (mirrors_all_taken i (steps (get_or xs i first)) b xs m (steps_lead i b xs m l))

  served_mirrors : (fuel i : ℕ) (b : Sofar) (xs : List A) → Mirrors pack Within b xs
      → Mirrors pack Within (served_from next fuel i b) (served same reach first fuel i xs)
  unfolding served_from served
  served_mirrors zero i b xs m = m
  served_mirrors (suc fuel) i b xs m =
      let n : length b.keys ≡ length xs = mirrors_length b xs m in
      by_test (leb (length xs) i) (λ e. rw (n, e) m)
      (λ e. rw (n, e)
      (served_mirrors fuel (suc i) (state_served next i b) (met same (reach (get_or xs i first)) xs)
      (mirrors_served i b xs m (leb-false (length xs) i e))))

  pub begun_mirrors : Mirrors pack Within (begun (pack first)) (first ∷ [])
  unfolding begun
  begun_mirrors = record { keys_are = refl; within = one }
    where
      one : (y : A) → Mem y (first ∷ []) → Within y
      one y h = ⊎_elim (λ e. subst (λ (z : A). Within z) e k.first_within) (λ n. absurd (mem_nil n)) (mem_cons h)

  -- The arcs and origins that serving the state of number i adds, where `all` are the states in the end.

  state_arcs : (i : ℕ) (b : Sofar) (xs all : List A) → Mirrors pack Within b xs → i < length xs → Grows (met same (reach (get_or xs i first)) xs) all
      → (state_served next i b).arcs ≡ b.arcs ++ arcs_here same all i (steps (get_or xs i first))
  unfolding state_served
  state_arcs i b xs all m l g =
      rw (next_here i b xs m l) (taken_arcs i (steps (get_or xs i first)) b xs all m (steps_lead i b xs m l) g)

  state_origins : (i : ℕ) (b : Sofar) (xs : List A) → Mirrors pack Within b xs → i < length xs
      → (state_served next i b).origins ≡ b.origins ++ all_origins os (steps (get_or xs i first))
  unfolding state_served
  state_origins i b xs m l = rw (next_here i b xs m l) (taken_origins os pack i (steps (get_or xs i first)) b)

  -- The states that are left are served, where the fuel is enough for them.
  served_serves : (fuel i : ℕ) (b : Sofar) (xs : List A) → Mirrors pack Within b xs → i ≤ length xs
      → length (served same reach first fuel i xs) < i + fuel
      → Serves same steps os b i (served same reach first fuel i xs) (served_from next fuel i b)
  served_serves zero i b xs m l short = absurd (omega (arith, served_length same reach first 0 i xs))
  served_serves (suc fuel) i b xs m l short =
      by_test (leb (length xs) i)
      (λ e. none (leb-true (length xs) i e))
      (λ e. let h : i < length xs = leb-false (length xs) i e in
      let more = served_step same reach first fuel i xs h in
      let short' : length (served same reach first fuel (suc i) ys) < i + suc fuel = rw more at short in
      let grown : length xs ≤ length ys = met_length same (reach (get_or xs i first)) xs in
      rw (more, served_from_step next fuel i b (omega (arith, n)))
      (some h (served_serves fuel (suc i) (state_served next i b) ys (mirrors_served i b xs m h) (omega arith) (omega arith))))
    where
      ys : List A
      ys = met same (reach (get_or xs i first)) xs

      n : length b.keys ≡ length xs
      n = mirrors_length b xs m

      none : length xs ≤ i → Serves same steps os b i (served same reach first (suc fuel) i xs) (served_from next (suc fuel) i b)
      none h =
          rw (served_rest same reach first (suc fuel) i xs h, served_from_rest next (suc fuel) i b (omega (arith, n)))
          (serves_none same steps os b i xs h)

      some : i < length xs
          → Serves same steps os (state_served next i b) (suc i) (served same reach first fuel (suc i) ys)
          (served_from next fuel (suc i) (state_served next i b))
          → Serves same steps os b i (served same reach first fuel (suc i) ys) (served_from next fuel (suc i) (state_served next i b))
      some h more =
          let all : List A = served same reach first fuel (suc i) ys in
          let g : Grows ys all = served_grows same reach first fuel (suc i) ys in
          let whole : Grows xs all = grows_trans (met_grows same (reach (get_or xs i first)) xs) g in
          let here : drop i all ≡ get_or xs i first ∷ drop (suc i) all =
          drop-cons all i first (omega (arith, grows_length whole)) ∙ ap (λ (z : A). z ∷ drop (suc i) all) (grows_get_or i first whole h) in
          serves_more same steps os b (state_served next i b) i (get_or xs i first) all (served_from next fuel (suc i) (state_served next i b)) here
          (state_arcs i b xs all m h g) (state_origins i b xs m h) more

  -- At each stage of the walk the keys are those of states within.

  pub mirrored_begun : Mirrored pack Within (begun (pack first))
  mirrored_begun = record { states = first ∷ []; mirrors = begun_mirrors }

  pub mirrored_served : (i : ℕ) (b : Sofar) → Mirrored pack Within b → i < length b.keys → Mirrored pack Within (state_served next i b)
  mirrored_served i b m l =
      let n : length b.keys ≡ length m.states = mirrors_length b m.states m.mirrors in
      record {
        states = met same (reach (get_or m.states i first)) m.states;
        mirrors = mirrors_served i b m.states m.mirrors (omega arith);
      }

  -- What is built in the end

  module _ (final : A → Bool) (weight : A → Weight) where
    abbrev made : Built A O
    made = built same steps final weight first

    pub explored_mirrors : Mirrors pack Within (explored next (pack first)) made.states
    unfolding explored built numbered
    explored_mirrors = served_mirrors (suc max_states) 0 (begun (pack first)) (first ∷ []) begun_mirrors

    pub explored_keys : (explored next (pack first)).keys ≡ map pack made.states
    explored_keys = explored_mirrors.keys_are

    pub explored_length : length (explored next (pack first)).keys ≡ length made.states
    explored_length = mirrors_length (explored next (pack first)) made.states explored_mirrors

    pub explored_key : (i : ℕ) (d : A) → i < length made.states
        → (get_or (explored next (pack first)).keys i 0 ≡ pack (get_or made.states i d)) × Within (get_or made.states i d)
    explored_key i d l = (
      mirrors_key (explored next (pack first)) made.states i d explored_mirrors l,
      explored_mirrors.within (get_or made.states i d) (mem_get_or made.states i d l),
    )

    pub explored_over : (max_states < length (explored next (pack first)).keys) ↔ (max_states < length made.states)
    explored_over = (λ h. omega (arith, explored_length), λ h. omega (arith, explored_length))

    module _ (few : length made.states ≤ max_states) where
      explored_serves : Serves same steps os (begun (pack first)) 0 made.states (explored next (pack first))
      unfolding explored built numbered begun
      explored_serves = served_serves (suc max_states) 0 (begun (pack first)) (first ∷ []) begun_mirrors (omega arith) (omega arith)

      pub explored_arcs : (explored next (pack first)).arcs ≡ made.result.arcs
      unfolding built begun
      explored_arcs = explored_serves.arcs_are

      pub explored_origins : (explored next (pack first)).origins ≡ all_origins os made.steps
      unfolding built begun
      explored_origins = explored_serves.origins_are

      pub explored_dear : (explored next (pack first)).overflow ≡ not (every (λ a. weight_good a.weight) made.result.arcs)
      explored_dear =
          let right : DearRight (explored next (pack first)) =
          rw (explored_on next (pack first)) (served_on_dear next 0 (begun (pack first)) (begun_dear (pack first))) in
          rw explored_arcs at right
