-- What is known before the first sweep: the costs of the empty paths, with no arcs. Assumes nothing.
use mathlib.Core.Path.{◌≡◌, refl, sym, ap, ◌∙◌}
use mathlib.Core.Bool.{Bool, true, false, cond}
use mathlib.Core.List.{List, [], ◌∷◌, ◌++◌}
use Prim.Native.Nat.{ℕ, zero, suc, ◌+◌, ◌*◌, ◌≤◌, ◌<◌}
use native.Mathlib.Omega.{arith}
use native.Mathlib.Decide.{ℕ_discrete}
use lib.ListN.{length, get_or, set, replicate, length-append, length-set, length-replicate}
use lib.Seq.{get_or-set_same, get_or-set_other}
use borrow.Author.Tests.{ne_eqb}
use Rattle.wire.specs.Bytes.{Bytes}
use Rattle.wire.proofs.Bool.{by_test}
use Rattle.transducer.specs.declared.Final.{Final}
use Rattle.transducer.specs.Answer.{Validation}
use Rattle.transducer.specs.declared.preparing.Shape.{Shape}
use Rattle.transducer.specs.Format.{Transducer, max_states, weight_good, refusal, decode, head_finals, final_at}
use Rattle.transducer.specs.Path.{arc, is_final, final_weight, ends}
use Rattle.transducer.specs.Weight.{Weight, no_weight, AtMost, Below, code_of}
use Rattle.transducer.specs.Accepted.{FinalsByState, ValidationSays}
use Rattle.transducer.proofs.Finals.{final_code_some, weight_final_code, Coded, coded_first, coded_state, coded_weight, coded_next, coded_stop}
use Rattle.transducer.proofs.Good.{finals_light, final_state_below}
use Rattle.transducer.proofs.Offsets.{length_finals, final_offset, accepted_good}
use Rattle.transducer.proofs.Runs.{Accepting, nil_accepting}
use Rattle.transducer.proofs.Weights.{sums, most_trans, InRange, good_range, code_some, weight_code}
use Rattle.reach.proofs.Sized.{Sized}
use Rattle.cycles.specs.Costs.{cost_from}
use Rattle.cycles.proofs.Costs.{cost_nil}
use Rattle.relax.specs.Size.{Size, size_of}
use Rattle.relax.specs.Tentative.{unpacked, Sizes, unreached, cost_at, by_state, no_size, NoWorse, Writes, Rising, PlainCosts, Forward}
use Rattle.relax.specs.Tentative.{own_cost, code_cost, Reached, Tentative, Cells, least_cost}
use Rattle.relax.specs.Begun.{Cleared, NoCosts, OwnCosts, Begun}
use Rattle.relax.proofs.Nearer.{no_worse_same, size_nil}
use Rattle.relax.proofs.Packed.{unpack_none}
use Rattle.relax.proofs.Bounds.{own_most}

-- The cost of the empty path

pub code_own : (t : Transducer) → Sized t → (codes : List ℕ) (s : ℕ) → FinalsByState t codes → s < max_states → code_cost (get_or codes s 0) ≡ own_cost t s
unfolding code_cost own_cost
code_own t z codes s f h =
    rw (f.at_state s h, final_code_some t.finals s)
    (by_test (is_final t.finals s) (λ e. rw e (weight_final_code t.finals s (finals_light t z.content) e)) (λ e. rw e refl))

own_reached : (t : Transducer) → Sized t → (c : ℕ → Weight) (l : ℕ → Size) (s : ℕ) → s < t.states → c s ≡ own_cost t s → l s ≡ no_size
    → Below (own_cost t s) unreached → Reached t c l s
unfolding own_cost ends
own_reached t z c l s b ec el = on (is_final t.finals s) refl ec
  where
    on : (d : Bool) → is_final t.finals s ≡ d → c s ≡ cond d (final_weight t.finals s) unreached
        → Below (cond d (final_weight t.finals s) unreached) unreached → Reached t c l s
    on false e q h = absurd (omega (arith, sums))
    on true e q h =
        let a : Accepting t s [] = nil_accepting t s e in
        record {
          path = [];
          goes = a.goes;
          final = a.final;
          costs = costs;
          size = size_nil t ∙ sym el;
          few = omega arith;
          along = along;
          cycles = λ lead cycle rest w some back. absurd (omega (arith, ap length w, length-append lead (cycle ++ rest), length-append cycle rest));
        }
      where
        costs : cost_from t s [] ≡ c s
        costs = cost_nil t s ∙ sym q

        along : (lead rest : List ℕ) → [] ≡ lead ++ rest
            → NoWorse (c (ends t s lead)) (l (ends t s lead)) (cost_from t (ends t s lead) rest) (size_of t rest)
        along [] [] w = rw (costs, el, size_nil t) (no_worse_same (c s) no_size)
        along [] (x ∷ rest) w = absurd (omega (arith, ap length w))
        along (x ∷ lead) rest w = absurd (omega (arith, ap length w))

-- The costs of the empty paths, with no arcs.
pub nearing_first : (t : Transducer) → Sized t → (codes : List ℕ) (cs : List Weight) (ls : Sizes) → FinalsByState t codes
    → ((s : ℕ) → s < t.states → cost_at cs s ≡ code_cost (get_or codes s 0))
    → ((s : ℕ) → by_state ls s ≡ no_size) → Tentative t (cost_at cs) (by_state ls)
nearing_first t z codes cs ls f e zeros =
    record {
      high = λ s b. rw (is s b) (own_most t z s).0;
      reached = λ s b h. own_reached t z (cost_at cs) (by_state ls) s b (is s b) (zeros s) (rw (is s b) at h);
      empty = λ s b. rw (is s b, zeros s) (no_worse_same (own_cost t s) no_size);
    }
  where
    is : (s : ℕ) → s < t.states → cost_at cs s ≡ own_cost t s
    is s b = e s b ∙ code_own t z codes s f (omega (arith, z.states))

get_or_alike : {A : Type 0} (none : A) (n s : ℕ) → get_or (replicate n none) s none ≡ none
get_or_alike none zero s = refl
get_or_alike none (suc n) zero = refl
get_or_alike none (suc n) (suc s) = get_or_alike none n s

-- An array of zeros, of so many cells.
pub cleared : {A : Type 0} (none : A) (n k : ℕ) → n ≤ k → Cleared none n (replicate k none)
cleared none n k h = record { long = omega (arith, length-replicate k none); blank = get_or_alike none k }

none_yet : {n : ℕ} {ls : Sizes} → Cleared {A = ℕ} 0 n ls → (s : ℕ) → by_state ls s ≡ no_size
none_yet k s = ap unpacked (k.blank s) ∙ unpack_none

-- One more cost is put.
module _ (cs : List Weight) (s : ℕ) (x : Weight) (b : s < length cs) (low : AtMost least_cost x) (high : AtMost x unreached) where
  put_here : cost_at (set cs s x) s ≡ x
  put_here = get_or-set_same cs s x no_weight b

  put_low : ((u : ℕ) → AtMost least_cost (cost_at cs u)) → (u : ℕ) → AtMost least_cost (cost_at (set cs s x) u)
  put_low old u = on (ℕ_discrete u s)
    where
      on : Dec (u ≡ s) → AtMost least_cost (cost_at (set cs s x) u)
      on (yes q) = rw (q, put_here) low
      on (no n) = rw (get_or-set_other cs s u x no_weight n) (old u)

  put_high : ((u : ℕ) → AtMost (cost_at cs u) unreached) → (u : ℕ) → AtMost (cost_at (set cs s x) u) unreached
  put_high old u = on (ℕ_discrete u s)
    where
      on : Dec (u ≡ s) → AtMost (cost_at (set cs s x) u) unreached
      on (yes q) = rw (q, put_here) high
      on (no n) = rw (get_or-set_other cs s u x no_weight n) (old u)

-- The costs of the empty paths by the first i finals, beside the codes of these.
pub record Owned (bs : List ℕ) (i : ℕ) (cs : List Weight) : Type 0 where
  pub codes : List ℕ
  pub coded : Coded bs i codes
  pub long : (decode bs).states ≤ length cs
  pub made : (s : ℕ) → s < (decode bs).states → cost_at cs s ≡ code_cost (get_or codes s 0)
  pub low : (s : ℕ) → AtMost least_cost (cost_at cs s)
  pub high : (s : ℕ) → AtMost (cost_at cs s) unreached

none_code : code_cost 0 ≡ unreached
unfolding code_cost
none_code = refl

some_code : (w : Weight) → weight_good w ≡ true → code_cost (code_of w) ≡ w
unfolding code_cost
some_code w good = rw (ne_eqb (code_of w) 0 (code_some w)) (weight_code w good)

pub owned_first : (bs : List ℕ) (cs : List Weight) → NoCosts (decode bs).states (decode bs).states cs → Owned bs 0 cs
owned_first bs cs n =
    record {
      codes = replicate 1024 0;
      coded = coded_first bs;
      long = n.long;
      made = λ s h. n.none s h ∙ sym (ap code_cost (get_or_alike {A = ℕ} 0 max_states s) ∙ none_code);
      low = n.low;
      high = n.high;
    }

module _ (bs : List ℕ) (b : Bytes bs) (ok : refusal bs ≡ 0) where
  pub owned_state : {i : ℕ} {cs : List Weight} (f : Final) → i < head_finals bs → f ≡ final_at bs (12 + 10 * i) → Owned bs i cs
      → f.state < (decode bs).states
  owned_state {i} f h e k =
      let there : i < length (decode bs).finals = omega (arith, length_finals bs b ok) in
      let is : get_or (decode bs).finals i f ≡ f = final_offset bs b ok i f there ∙ sym e in
      rw is at (final_state_below (decode bs) (accepted_good bs b ok) i f there)

  pub owned_next : {i : ℕ} {cs : List Weight} (f : Final) → i < head_finals bs → f ≡ final_at bs (12 + 10 * i) → Owned bs i cs
      → Owned bs (i + 1) (set cs f.state f.weight)
  owned_next {i} {cs} f h e k =
      record {
        codes = set k.codes u (code_of w);
        coded = coded_next bs b ok f h e k.coded;
        long = omega (arith, length-set cs u w, k.long);
        made = λ s l. made s l (ℕ_discrete s u);
        low = put_low cs u w room (omega (arith, sums, range.low)) (omega (arith, sums, range.high)) k.low;
        high = put_high cs u w room (omega (arith, sums, range.low)) (omega (arith, sums, range.high)) k.high;
      }
    where
      u : ℕ
      u = f.state

      w : Weight
      w = f.weight

      good : weight_good f.weight ≡ true
      good = coded_weight bs b ok f h e

      range : InRange f.weight
      range = good_range f.weight good

      room : f.state < length cs
      room = omega (arith, owned_state f h e k, k.long)

      code_room : f.state < length k.codes
      code_room = omega (arith, coded_state bs b ok f h e, k.coded.long)

      made : (s : ℕ) → s < (decode bs).states → Dec (s ≡ f.state)
          → cost_at (set cs f.state f.weight) s ≡ code_cost (get_or (set k.codes f.state (code_of f.weight)) s 0)
      made s l (yes q) =
          rw q
          (get_or-set_same cs f.state f.weight no_weight room
          ∙ sym (ap code_cost (get_or-set_same k.codes f.state (code_of f.weight) 0 code_room) ∙ some_code f.weight good))
      made s l (no n) =
          get_or-set_other cs f.state s f.weight no_weight n
          ∙ (k.made s l ∙ sym (ap code_cost (get_or-set_other k.codes f.state s (code_of f.weight) 0 n)))

  pub owned_stop : {i : ℕ} {cs : List Weight} → head_finals bs ≤ i → Owned bs i cs → OwnCosts bs cs
  owned_stop h k =
      record { codes = k.codes; finals = coded_stop bs b ok h k.coded; long = k.long; made = k.made; low = k.low; high = k.high }

-- Where no cost of an empty path and no arc's weight is below zero, no weight is; and each arc writes a label.
pub plain_rising : (t : Transducer) → Sized t → (codes : List ℕ) (cs : List Weight) → FinalsByState t codes
    → ((s : ℕ) → s < t.states → cost_at cs s ≡ code_cost (get_or codes s 0)) → {states : ℕ} → states ≡ t.states → {least : Weight}
    → ((i : ℕ) → i < length t.arcs → AtMost least (arc t i).weight) → Writes t → PlainCosts least states cs → Rising t
unfolding own_cost
plain_rising t z codes cs f e n {least} light writes k =
    record {
      writes = writes;
      arcs = λ i h. most_trans no_weight least (arc t i).weight k.arcs (light i h);
      finals = λ s b d.
          let own : own_cost t s ≡ final_weight t.finals s = rw d refl in
          let is : cost_at cs s ≡ final_weight t.finals s = e s b ∙ (code_own t z codes s f (omega (arith, z.states)) ∙ own) in
          rw is at (k.costs s (omega (arith, n)));
    }

-- What the two calls begin with, by what validation told and arrays of zeros.
module _ {bs : List ℕ} {shape : Shape} {cs : List Weight} {ls : Sizes} {seen : Validation} (z : Sized (decode bs)) (k : Begun bs shape cs)
    (look : ValidationSays bs seen) (none : Cleared {A = ℕ} 0 (decode bs).states ls) where
  abbrev t : Transducer
  t = decode bs

  ok : refusal bs ≡ 0
  ok = k.shaped.opened.accepted

  pub begun_nearing : Tentative (decode bs) (cost_at cs) (by_state ls)
  begun_nearing = nearing_first t z k.own.codes cs ls k.own.finals k.own.made (none_yet none)

  pub begun_cells : Cells (decode bs).states cs ls
  begun_cells =
      record {
        costs = k.own.long;
        lens = none.long;
        low = k.own.low;
        high = k.own.high;
        few_labels = λ s. rw (none_yet none s) (omega arith);
        few = λ s. rw (none_yet none s) (omega arith);
      }

  pub begun_rising : {r : Bool} → (r ≡ true → (seen.no_output_epsilon ≡ true) × PlainCosts seen.least shape.states cs) → r ≡ true → Rising (decode bs)
  begun_rising told e =
      plain_rising t z k.own.codes cs k.own.finals k.own.made k.shaped.states_are (look.light ok) (look.written ok (told e).0) (told e).1

  pub begun_forward : {r : Bool}
      → (r ≡ true → (seen.no_output_epsilon ≡ true) × (seen.top_sorted ≡ true) × (weight_good seen.least ≡ true)
      × AtMost seen.least no_weight) → r ≡ true
      → Forward (decode bs) seen.least
  begun_forward told e =
      let known = told e in
      record { up = look.rises ok known.1; writes = look.written ok known.0; good = known.2; negative = known.3; light = look.light ok }
