-- Laws of the look-up: the first place that passes a test, the search along a chain, the chains as they are filled from the last arc to the
-- first, what links say of `reading_from`, and that of `fitting_from`. Assumes nothing.
use mathlib.Core.Path.{◌≡◌, refl, sym, ap, ◌∙◌}
use mathlib.Core.Bool.{Bool, true, false}
use mathlib.Core.List.{List}
use Prim.Native.Nat.{ℕ, zero, suc, ◌+◌, ◌*◌, ◌-◌, ◌≤◌, ◌<◌}
use native.Mathlib.Decide.{ℕ_discrete, dec_le}
use native.Mathlib.Omega.{arith}
use lib.Dec.{eqb}
use lib.ListN.{length, get_or, set, replicate, length-set, length-replicate, get_or-replicate}
use lib.Seq.{get_or-set_same, get_or-set_other}
use borrow.Author.Tests.{eqb-true, eq-eqb, ne_eqb}
use Rattle.wire.proofs.Low.{two_below}
use Rattle.wire.proofs.Bool.{by_test, clash, is_false, and-true}
use Rattle.wire.specs.Bytes.{Bytes, four}
use Rattle.transducer.specs.Format.{max_arcs, Transducer, any, decode}
use Rattle.transducer.specs.Accepted.{AcceptedAt, Rest, Leaving}
use Rattle.transducer.specs.Path.{arc}
use Rattle.transducer.specs.Each.{unnamed, fits, has_no_any_input}
use Rattle.transducer.proofs.Fits.{named_input, label_at, label_none, label_named, label_any, fits_label}
use Rattle.steps.specs.Lookup.{label_buckets, label_bucket, reads, in_bucket, first_of, first_from, Heads, Chain, NextSameLabel, Leads}
use Rattle.steps.specs.declared.Run.{Run}
use Rattle.steps.specs.Runs.{fitting_from, reading_from, Takeable}
use Rattle.transducer.proofs.Leaving.{rest_from, leaving_unnamed}
use Rattle.transducer.proofs.AcceptedAt.{source_in_place, input_in_place}
use Rattle.steps.proofs.Reading.{FirstPassing, first_is, first_unique, first_at_within, NextStep, next_together}

-- first_of

module _ (test : ℕ → Bool) where
  pub first_here : (end j : ℕ) → j < end → test j ≡ true → first_of test (end - j) j ≡ suc j
  unfolding first_of
  first_here end j l e = let more : end - j ≡ suc (end - suc j) = omega arith in rw (more, e)

  pub first_next : (end j : ℕ) → j < end → test j ≡ false → first_of test (end - j) j ≡ first_of test (end - suc j) (suc j)
  unfolding first_of
  first_next end j l e = let more : end - j ≡ suc (end - suc j) = omega arith in rw (more, e)

  pub first_end : (end : ℕ) → first_of test (end - end) end ≡ 0
  unfolding first_of
  first_end end = let none : end - end ≡ 0 = omega arith in rw none

  pub first_most : (n j : ℕ) → first_of test n j ≤ j + n
  unfolding first_of
  first_most zero j = omega arith
  first_most (suc n) j =
      let more : first_of test n (suc j) ≤ suc j + n = first_most n (suc j) in
      by_test (test j) (λ e. rw e (omega arith)) (λ e. rw e (omega arith))

  -- Places that do not pass may be passed over.
  first_skip_by : (d end j : ℕ) → j + d ≤ end → ((i : ℕ) → j ≤ i → i < j + d → test i ≡ false)
      → first_of test (end - j) j ≡ first_of test (end - (j + d)) (j + d)
  first_skip_by zero end j l none = let same : j + 0 ≡ j = omega arith in rw same
  first_skip_by (suc d) end j l none =
      let same : j + suc d ≡ suc j + d = omega arith in
      rw same
      (first_next end j (omega arith) (none j (omega arith) (omega arith))
      ∙ first_skip_by d end (suc j) (omega arith) (λ i p q. none i (omega arith) (omega arith)))

  pub first_skip : (end j k : ℕ) → j ≤ k → k ≤ end → ((i : ℕ) → j ≤ i → i < k → test i ≡ false)
      → first_of test (end - j) j ≡ first_of test (end - k) k
  first_skip end j k l m none =
      let same : j + (k - j) ≡ k = omega arith in
      rw same at (first_skip_by (k - j) end j (omega arith) (λ i p q. none i p (omega arith)))

  pub first_none : (end j : ℕ) → j ≤ end → ((i : ℕ) → j ≤ i → i < end → test i ≡ false) → first_of test (end - j) j ≡ 0
  first_none end j l none = first_skip end j end l (omega arith) none ∙ first_end end

  -- The place that a link leads to, and what there is where it leads nowhere.
  pub record LinkTo (end j i : ℕ) : Type 0 where
    pub least : j ≤ i
    pub most : i < end
    pub passes : test i ≡ true
    pub before : (k : ℕ) → j ≤ k → k < i → test k ≡ false

  -- Both, over what is left from j on.
  pub record LinkSays (end j link : ℕ) : Type 0 where
    pub found : (i : ℕ) → link ≡ suc i → LinkTo end j i
    pub none : link ≡ 0 → (i : ℕ) → j ≤ i → i < end → test i ≡ false

  link_says_by : (n j : ℕ) → LinkSays (j + n) j (first_of test n j)
  unfolding first_of
  link_says_by zero j =
      record { found = λ i e. absurd (let z : ◌≡◌ {A = ℕ} 0 (suc i) = e in omega arith); none = λ e i p q. absurd (omega arith) }
  link_says_by (suc n) j =
      let more : LinkSays (suc j + n) (suc j) (first_of test n (suc j)) = link_says_by n (suc j) in
      by_test (test j)
      (λ t. rw t
      (record {
        found = λ i e.
            let is : j ≡ i = omega arith in
            record { least = omega arith; most = omega arith; passes = rw (← is) t; before = λ k p q. absurd (omega arith) };
        none = λ e. absurd (let z : suc j ≡ 0 = e in omega arith);
      }))
      (λ t. rw t
      (record {
        found = λ i e.
            let f : LinkTo (suc j + n) (suc j) i = more.found i e in
            record {
              least = omega (arith, f.least);
              most = omega (arith, f.most);
              passes = f.passes;
              before = λ k p q. on k t (ℕ_discrete k j) (λ o. f.before k (omega arith) q);
            };
        none = λ e i p q. on i t (ℕ_discrete i j) (λ o. more.none e i (omega arith) (omega arith));
      }))
    where
      on : (k : ℕ) → test j ≡ false → Dec (k ≡ j) → ((k ≡ j → ⊥) → test k ≡ false) → test k ≡ false
      on k t (yes y) rest = rw y t
      on k t (no o) rest = rest o

  pub link_says : (end j : ℕ) → j ≤ end → LinkSays end j (first_of test (end - j) j)
  link_says end j l = let same : j + (end - j) ≡ end = omega arith in rw same at (link_says_by (end - j) j)

-- reads

module _ (u : Transducer) (q label : ℕ) where
  pub reads_true : (j : ℕ) → (arc u j).source ≡ q → (arc u j).input ≡ label → reads u q label j ≡ true
  unfolding reads
  reads_true j s i = rw (eq-eqb (arc u j).source q s, eq-eqb (arc u j).input label i)

  pub reads_both : (j : ℕ) → reads u q label j ≡ true → ((arc u j).source ≡ q) × ((arc u j).input ≡ label)
  unfolding reads
  reads_both j e =
      let both = and-true (eqb (arc u j).source q) (eqb (arc u j).input label) e in
      (eqb-true (arc u j).source q both.0, eqb-true (arc u j).input label both.1)

  -- What leaves the state and reads the label is in the bucket.
  reads_bucket : (j : ℕ) → in_bucket u (label_bucket q label) j ≡ false → reads u q label j ≡ false
  unfolding in_bucket
  reads_bucket j out =
      is_false (reads u q label j)
      (λ e. let both = reads_both j e in
      clash (rw (both.0, both.1) (eq-eqb (label_bucket q label) (label_bucket q label) refl)) out)

-- Source and label of an arc stand side by side, as one number of four bytes.
module _ (bs : List ℕ) (bytes : Bytes bs) (first : ℕ) (opened : AcceptedAt bs first) (q label : ℕ) (j : ℕ) (l : j < length (decode bs).arcs) where
  side_by_side : four bs (first + 16 * j + 4) ≡ (arc (decode bs) j).source + 65536 * (arc (decode bs) j).input
  unfolding four
  side_by_side =
      let place : first + 16 * j + 4 + 2 ≡ first + 16 * j + 6 = omega arith in
      rw (source_in_place bs bytes first opened j l, input_in_place bs bytes first opened j l, place)

  pub side_reads : q < 65536 → four bs (first + 16 * j + 4) ≡ q + 65536 * label → reads (decode bs) q label j ≡ true
  side_reads small e =
      let s : (arc (decode bs) j).source < 65536 = rw (source_in_place bs bytes first opened j l) (two_below bs (first + 16 * j + 4) bytes) in
      let both : (arc (decode bs) j).source + 65536 * (arc (decode bs) j).input ≡ q + 65536 * label = sym side_by_side ∙ e in
      reads_true (decode bs) q label j (omega arith) (omega arith)

  pub side_other : (four bs (first + 16 * j + 4) ≡ q + 65536 * label → ⊥) → reads (decode bs) q label j ≡ false
  side_other other =
      is_false (reads (decode bs) q label j)
      (λ e. let both = reads_both (decode bs) q label j e in other (side_by_side ∙ (rw (both.0, both.1))))

-- The search along a chain

-- What a link leaves to search among n arcs.
unfoldable pub left_of : (n link : ℕ) → ℕ
left_of n zero = 0
left_of n (suc j) = n - j

left_of_some : (n link : ℕ) → (link ≡ 0 → ⊥) → left_of n link ≡ n - (link - 1)
unfolding left_of
left_of_some n zero more = absurd (more refl)
left_of_some n (suc j) more = omega arith

-- The search has come to `next`: from some arc on, it leads to the first of the bucket, and what is left of the search gives the whole.
pub record Along (u : Transducer) (q label from next : ℕ) : Type 0 where
  pub front : ℕ
  pub least : from ≤ front
  pub most : front ≤ length u.arcs
  pub leads : next ≡ first_from u (in_bucket u (label_bucket q label)) front
  pub same : first_from u (reads u q label) front ≡ first_from u (reads u q label) from

module _ {u : Transducer} {q label from head : ℕ} {chain : List ℕ} (l : Leads u q label from chain head) where
  pub along_first : Along u q label from head
  along_first = record { front = from; least = omega arith; most = l.within; leads = l.head_is; same = refl }

  module _ {next : ℕ} (a : Along u q label from next) where
    here : LinkSays (in_bucket u (label_bucket q label)) (length u.arcs) a.front next
    here = rw a.leads (link_says (in_bucket u (label_bucket q label)) (length u.arcs) a.front a.most)

    pub along_none : next ≡ 0 → 0 ≡ first_from u (reads u q label) from
    along_none e =
        sym (first_none (reads u q label) (length u.arcs) a.front a.most (λ i p m. reads_bucket u q label i (here.none e i p m))) ∙ a.same

    module _ (more : next ≡ 0 → ⊥) where
      at : LinkTo (in_bucket u (label_bucket q label)) (length u.arcs) a.front (next - 1)
      at = here.found (next - 1) (omega arith)

      pub along_in : (from ≤ next - 1) × (next - 1 < length u.arcs)
      along_in = (omega (arith, at.least, a.least), at.most)

      -- Up to the arc at hand, none leaves the state and reads the label.
      passed : first_from u (reads u q label) (next - 1) ≡ first_from u (reads u q label) from
      passed =
          let lo = at.least in
          let hi = at.most in
          sym (first_skip (reads u q label) (length u.arcs) a.front (next - 1) lo (omega arith)
          (λ i p m. reads_bucket u q label i (at.before i p m))) ∙ a.same

      pub along_found : reads u q label (next - 1) ≡ true → next ≡ first_from u (reads u q label) from
      along_found e =
          let is : next ≡ suc (next - 1) = omega arith in
          is ∙ sym (first_here (reads u q label) (length u.arcs) (next - 1) at.most e) ∙ passed

      link_is : get_or chain (next - 1) 0 ≡ first_from u (in_bucket u (label_bucket q label)) (suc (next - 1))
      unfolding in_bucket
      link_is =
          let b : label_bucket (arc u (next - 1)).source (arc u (next - 1)).input ≡ label_bucket q label =
          eqb-true (label_bucket (arc u (next - 1)).source (arc u (next - 1)).input) (label_bucket q label) at.passes in
          rw b at (l.chained.are (next - 1) along_in.0 along_in.1)

      pub along_next : reads u q label (next - 1) ≡ false → Along u q label from (get_or chain (next - 1) 0)
      along_next e =
          record {
            front = suc (next - 1);
            least = omega (arith, along_in.0);
            most = at.most;
            leads = link_is;
            same = sym (first_next (reads u q label) (length u.arcs) (next - 1) at.most e) ∙ passed;
          }

      pub along_less : left_of (length u.arcs) (get_or chain (next - 1) 0) < left_of (length u.arcs) next
      unfolding left_of
      along_less =
          let t = link_says (in_bucket u (label_bucket q label)) (length u.arcs) (suc (next - 1)) at.most in
          rw (left_of_some (length u.arcs) next more, link_is) (on (first_from u (in_bucket u (label_bucket q label)) (suc (next - 1))) t)
        where
          on : (m : ℕ) → LinkSays (in_bucket u (label_bucket q label)) (length u.arcs) (suc (next - 1)) m
              → left_of (length u.arcs) m < length u.arcs - (next - 1)
          on zero t = omega (arith, at.most)
          on (suc j) t = let f = t.found j refl in omega (arith, at.most, f.least, f.most)

-- The chains as they are filled

-- The arcs from number `from` on are in the chains.
pub record Filling (u : Transducer) (from : ℕ) (heads chain again : List ℕ) : Type 0 where
  pub within : from ≤ length u.arcs
  pub few : length u.arcs ≤ max_arcs
  pub headed : Heads u from heads
  pub chained : Chain u from chain
  pub repeated : NextSameLabel u from again

pub filling_first : (u : Transducer) (from : ℕ) (heads chain again : List ℕ) → from ≡ length u.arcs → length u.arcs ≤ max_arcs
    → heads ≡ replicate label_buckets 0 → length u.arcs ≤ length chain → length u.arcs ≤ length again → Filling u from heads chain again
filling_first u from heads chain again is few zeros c-long a-long =
    rw is
    (record {
      within = omega arith;
      few = few;
      headed =
          record {
            long = ap length zeros ∙ length-replicate {A = ℕ} label_buckets 0;
            are = λ b l. ap (λ (xs : List ℕ). get_or xs b 0) zeros ∙ get_or-replicate label_buckets b 0 0 l ∙ sym (first_end (in_bucket u b) (length u.arcs));
          };
      chained = record { long = c-long; are = λ j l h. absurd (omega arith) };
      repeated = record { long = a-long; are = λ j l h. absurd (omega arith) };
    })

-- All arcs are in the chains, and a bucket's head leads to its chain.
pub chains_lead : {u : Transducer} {heads chain : List ℕ} (q label b : ℕ) → Heads u 0 heads → Chain u 0 chain → b ≡ label_bucket q label → b < label_buckets
    → Leads u q label 0 chain (get_or heads b 0)
chains_lead q label b h c is l = record { within = omega arith; chained = c; head_is = rw (← is) (h.are b l) }

module _ {u : Transducer} {j : ℕ} {heads chain again : List ℕ} (f : Filling u (suc j) heads chain again) where
  pub filling_leads : (q label b : ℕ) → b ≡ label_bucket q label → b < label_buckets → Leads u q label (suc j) chain (get_or heads b 0)
  filling_leads q label b is l = record { within = f.within; chained = f.chained; head_is = rw (← is) (f.headed.are b l) }

  pub filling_next : (b link next : ℕ) → b ≡ label_bucket (arc u j).source (arc u j).input → b < label_buckets → link ≡ suc j
      → next ≡ first_from u (reads u (arc u j).source (arc u j).input) (suc j)
      → Filling u j (set heads b link) (set chain j (get_or heads b 0)) (set again j next)
  unfolding in_bucket
  filling_next b link next b-is small link_is next_is =
      record {
        within = omega (arith, f.within);
        few = f.few;
        headed = record { long = length-set heads b link ∙ f.headed.long; are = λ k l. head_at k l (ℕ_discrete k b) };
        chained =
            record { long = omega (arith, length-set chain j (get_or heads b 0), f.chained.long); are = λ i l h. chain_at i l h (ℕ_discrete i j) };
        repeated = record { long = omega (arith, length-set again j next, f.repeated.long); are = λ i l h. again_at i l h (ℕ_discrete i j) };
      }
    where
      head_at : (k : ℕ) → k < label_buckets → Dec (k ≡ b) → get_or (set heads b link) k 0 ≡ first_from u (in_bucket u k) j
      head_at k l (yes y) =
          let t : in_bucket u k j ≡ true = eq-eqb (label_bucket (arc u j).source (arc u j).input) k (sym b-is ∙ sym y) in
          rw (first_here (in_bucket u k) (length u.arcs) j f.within t, y)
          (get_or-set_same heads b link 0 (omega (arith, f.headed.long)) ∙ link_is)
      head_at k l (no o) =
          let t : in_bucket u k j ≡ false = ne_eqb (label_bucket (arc u j).source (arc u j).input) k (λ e. o (sym e ∙ sym b-is)) in
          get_or-set_other heads b k link 0 o ∙ f.headed.are k l ∙ sym (first_next (in_bucket u k) (length u.arcs) j f.within t)

      chain_at : (i : ℕ) → j ≤ i → i < length u.arcs → Dec (i ≡ j)
          → get_or (set chain j (get_or heads b 0)) i 0 ≡ first_from u (in_bucket u (label_bucket (arc u i).source (arc u i).input)) (suc i)
      chain_at i l h (yes y) =
          rw y
          (get_or-set_same chain j (get_or heads b 0) 0 (omega (arith, f.chained.long, f.within)) ∙ (rw (← b-is) (f.headed.are b small)))
      chain_at i l h (no o) = get_or-set_other chain j i (get_or heads b 0) 0 o ∙ f.chained.are i (omega arith) h

      again_at : (i : ℕ) → j ≤ i → i < length u.arcs → Dec (i ≡ j)
          → get_or (set again j next) i 0 ≡ first_from u (reads u (arc u i).source (arc u i).input) (suc i)
      again_at i l h (yes y) = rw y (get_or-set_same again j next 0 (omega (arith, f.repeated.long, f.within)) ∙ next_is)
      again_at i l h (no o) = get_or-set_other again j i next 0 o ∙ f.repeated.are i (omega arith) h

-- What links say of `reading_from`

module _ {u : Transducer} {q from to : ℕ} (label : ℕ) (r : Rest u q from to) where
  -- The links of the state's arcs that read the label, from `from` on.
  links : LinkSays (reads u q label) (length u.arcs) from (first_from u (reads u q label) from)
  links = link_says (reads u q label) (length u.arcs) from (omega (arith, r.order, r.within))

  pub link_none : 0 ≡ first_from u (reads u q label) from → to ≡ reading_from u label (to - from) from
  link_none e =
      first_unique u (λ a. eqb a.input label) from to to r.order
      (record {
        least = r.order;
        most = omega arith;
        passes = λ h. absurd (omega arith);
        before = λ m p h is.
            clash (reads_true u q label m (r.sources m p h) (eqb-true (arc u m).input label is)) (links.none (sym e) m p (omega (arith, r.within)));
      })

  pub link_some : (i : ℕ) → suc i ≡ first_from u (reads u q label) from → i ≡ reading_from u label (to - from) from
  link_some i e =
      let f = links.found i (sym e) in
      let both = reads_both u q label i f.passes in
      let inside : i < to = below i f.most both.0 (dec_le (suc i) to) in
      first_unique u (λ a. eqb a.input label) from to i r.order
      (record {
        least = f.least;
        most = omega arith;
        passes = λ h. eq-eqb (arc u i).input label both.1;
        before = λ m p h is. clash (reads_true u q label m (r.sources m p (omega arith)) (eqb-true (arc u m).input label is)) (f.before m p h);
      })
    where
      below : (i : ℕ) → i < length u.arcs → (arc u i).source ≡ q → Dec (i < to) → i < to
      below i m s (yes y) = y
      below i m s (no n) = absurd (r.behind i (omega arith) m s)

-- The same from the first arc on.
pub leaving_links : {u : Transducer} {q from to : ℕ} (label : ℕ) → Leaving u q from to
    → first_from u (reads u q label) 0 ≡ first_from u (reads u q label) from
leaving_links {u} {q} {from} {to} label l =
    let order = l.rest.order in
    let within = l.rest.within in
    first_skip (reads u q label) (length u.arcs) 0 from (omega arith) (omega arith)
    (λ i p h. is_false (reads u q label i) (λ e. l.before i h (reads_both u q label i e).0))

-- The look-up of the state's first arc that reads a label.
module _ {u : Transducer} {q from to : ℕ} (label link : ℕ) (l : Leaving u q from to) (is : link ≡ first_from u (reads u q label) 0) where
  pub fit_none : link ≡ 0 → to ≡ reading_from u label (to - from) from
  fit_none e = link_none label l.rest (sym e ∙ is ∙ leaving_links label l)

  pub fit_some : (link ≡ 0 → ⊥) → link - 1 ≡ reading_from u label (to - from) from
  fit_some more = let e : suc (link - 1) ≡ link = omega arith in link_some label l.rest (link - 1) (e ∙ is ∙ leaving_links label l)

-- The look-up of the next arc that reads what arc j reads.
module _ {u : Transducer} {again : List ℕ} (a : NextSameLabel u 0 again) (j to : ℕ) (l : j < to) (r : Rest u (arc u j).source j to) where
  repeats : get_or again j 0 ≡ first_from u (reads u (arc u j).source (arc u j).input) (suc j)
  repeats = a.are j (omega arith) (omega (arith, r.within))

  pub repeat_none : get_or again j 0 ≡ 0 → to ≡ reading_from u (arc u j).input (to - suc j) (suc j)
  repeat_none e = link_none (arc u j).input (rest_from (suc j) r (omega arith) l) (sym e ∙ repeats)

  pub repeat_some : (get_or again j 0 ≡ 0 → ⊥) → get_or again j 0 - 1 ≡ reading_from u (arc u j).input (to - suc j) (suc j)
  repeat_some more =
      let e : suc (get_or again j 0 - 1) ≡ get_or again j 0 = omega arith in
      link_some (arc u j).input (rest_from (suc j) r (omega arith) l) (get_or again j 0 - 1) (e ∙ repeats)

  pub repeat_most : get_or again j 0 ≤ length u.arcs
  repeat_most =
      let most = first_most (reads u (arc u j).source (arc u j).input) (length u.arcs - suc j) (suc j) in
      omega (arith, repeats, most, r.within)

-- What fits, by what reads

-- The arcs of a state that fit a label are those that read one label.
module _ {u : Transducer} {q from to : ℕ} (label : ℕ) (r : Rest u q from to) where
  pub fitting_label : fitting_from u label (to - from) from ≡ reading_from u (label_at u q label) (to - from) from
  fitting_label =
      first_at_within u (fits u label) (λ a. eqb a.input (label_at u q label)) (to - from) from
      (λ j p h. fits_label u q label j (omega (arith, r.order, r.within)) (r.sources j p (omega (arith, r.order))))

-- The first that reads a label by name, where there is one.
module _ {u : Transducer} {q from to : ℕ} (label k : ℕ) (l : Leaving u q from to) (is : k ≡ reading_from u label (to - from) from) where
  by_label : FirstPassing u (λ a. eqb a.input label) from to k
  by_label = rw is (first_is u (λ a. eqb a.input label) from to l.rest.order)

  pub named_first : k < to → k ≡ fitting_from u label (to - from) from
  named_first h =
      let reads : (arc u k).input ≡ label = eqb-true (arc u k).input label (by_label.passes h) in
      let leaves : (arc u k).source ≡ q = l.rest.sources k by_label.least h in
      let same : label_at u q label ≡ label = label_named u q label k (omega (arith, l.rest.within)) leaves reads in
      is ∙ sym (fitting_label label l.rest ∙ ap (λ (x : ℕ). reading_from u x (to - from) from) same)

  -- Where there is none, the first for any symbol.
  pub wild_first : to ≤ k → (label ≡ 0 → ⊥) → (w : ℕ) → w ≡ reading_from u any (to - from) from → w ≡ fitting_from u label (to - from) from
  wild_first h some w w-is =
      let free : unnamed u q label ≡ true =
      leaving_unnamed label l (λ i p below reads. by_label.before i p (omega arith) (eq-eqb (arc u i).input label reads)) in
      w-is ∙ sym (fitting_label label l.rest ∙ ap (λ (x : ℕ). reading_from u x (to - from) from) (label_any u q label some free))

  -- The empty label is read by name or not at all.
  pub empty_first : label ≡ 0 → k ≡ fitting_from u label (to - from) from
  empty_first z =
      is ∙ sym (fitting_label label l.rest ∙ ap (λ (x : ℕ). reading_from u x (to - from) from) (label_none u q label z ∙ sym z))

-- Where no arc is for any symbol, none is found for it.
pub no_any_none : {u : Transducer} {q from to : ℕ} → has_no_any_input u ≡ true → Leaving u q from to → to ≡ reading_from u any (to - from) from
no_any_none {u} {q} {from} {to} all l =
    first_unique u (λ a. eqb a.input any) from to to l.rest.order
    (record {
      least = l.rest.order;
      most = omega arith;
      passes = λ h. absurd (omega arith);
      before = λ m p h e.
          let below : (arc u m).input < any = named_input u all m in
          let is : (arc u m).input ≡ any = eqb-true (arc u m).input any e in
          omega arith;
    })

-- The next step of a run by the link of the right arc at hand: the arcs that fit its label all read what this one reads.
module _ {u : Transducer} {r : Run} {again : List ℕ} (a : NextSameLabel u 0 again) (j to : ℕ) (ready : Takeable u r j to) (l : j < to)
    (together : r.alone ≡ false)
  where
    rest_here : Rest u (arc u j).source j to
    rest_here = ready.rest together l

    reads_here : (arc u j).input ≡ label_at u (arc u j).source r.label
    reads_here =
        let fitted : fits u r.label (arc u j) ≡ true = rw together at (ready.fits_here l) in
        eqb-true (arc u j).input (label_at u (arc u j).source r.label)
        (sym (fits_label u (arc u j).source r.label j (omega (arith, rest_here.within)) refl) ∙ fitted)

    next_reads : (k : ℕ) → k ≡ reading_from u (arc u j).input (to - suc j) (suc j) → k ≡ fitting_from u r.label (to - suc j) (suc j)
    next_reads k e =
        e ∙ ap (λ (x : ℕ). reading_from u x (to - suc j) (suc j)) reads_here
        ∙ sym (fitting_label r.label (rest_from (suc j) rest_here (omega arith) l))

    pub step_last : get_or again j 0 ≡ 0 → NextStep u r j to to
    step_last e = next_together u r j to to ready l together (next_reads to (repeat_none a j to l rest_here e))

    pub step_more : (get_or again j 0 ≡ 0 → ⊥) → NextStep u r j to (get_or again j 0 - 1)
    step_more e = next_together u r j to (get_or again j 0 - 1) ready l together (next_reads (get_or again j 0 - 1) (repeat_some a j to l rest_here e))

    pub step_link : get_or again j 0 ≤ length u.arcs
    step_link = repeat_most a j to l rest_here
