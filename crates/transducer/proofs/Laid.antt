-- Where the records of a transducer's bytes stand: the head, then f finals of ten bytes, then m arcs of sixteen.
--     laid-..       what bytes laid so are: framing, kinds, what they decode to
--     kinds_laid    bytes whose framing and kinds are right are laid so
-- Assumes nothing.
use Rattle.std.proofs.Common.{◌≡◌, ℕ, zero, suc, ◌+◌, ◌*◌, ◌<◌, ◌≤◌, Bool, true, false, ◌&&◌, eqb, List, [], ◌∷◌, length, sym, refl, ap, ◌∙◌, arith, eqb-true}
use Rattle.wire.specs.Bytes.{Bytes, two, four, places, every}
use Rattle.wire.proofs.Places.{length_places}
use Rattle.wire.proofs.Low.{four_halves}
use Rattle.wire.proofs.Bool.{and-true, never}
use Rattle.transducer.specs.declared.Arc.{Arc}
use Rattle.transducer.specs.declared.Final.{Final}
use Rattle.transducer.specs.Format.{head_bytes, final_bytes, arc_bytes, arcs_at, Record, framed, records, kind_good, in_order, kinds_good}
use Rattle.transducer.specs.Format.{final_at, arc_at, finals_in, arcs_in, decode}
use Rattle.transducer.specs.Format.{head_states, head_start}
use Rattle.transducer.specs.Check.{head_word, final_word, arc_word}
use Rattle.transducer.proofs.Records.{framed_at, records_at, record_at, framed_end, framed_next, framed_fits, records_end, records_more}
use Rattle.transducer.proofs.Records.{by_order, by_kind, kinds_none, kinds_first, KindsFrom, going_first}

-- The head, f finals and m arcs fill the bytes, each with its length and kind in front as one word.
pub record Laid (bs : List ℕ) (f m : ℕ) : Type 0 where
  pub long : length bs ≡ arcs_at f + arc_bytes * m
  pub head : four bs 0 ≡ head_word
  pub finals : every (λ w. eqb w final_word) (places f head_bytes final_bytes (four bs)) ≡ true
  pub arcs : every (λ w. eqb w arc_word) (places m (arcs_at f) 16 (four bs)) ≡ true

-- From where the records stand to the walks: what the walks see from a place on.

record Run (bs : List ℕ) (at : ℕ) (after : Bool) (fs : List Final) (as' : List Arc) : Type 0 where
  framing : framed_at bs at ≡ true
  kinds : in_order after (records_at bs at) ≡ true
  finals : finals_in bs (records_at bs at) ≡ fs
  arcs : arcs_in bs (records_at bs at) ≡ as'

run_none : (bs : List ℕ) (at : ℕ) (after : Bool) → length bs ≤ at → Run bs at after [] []
unfolding in_order finals_in arcs_in
run_none bs at after h =
    let none : records_at bs at ≡ [] = records_end bs at h in
    record { framing = framed_end bs at h; kinds = rw none; finals = rw none; arcs = rw none }

run_final : {bs : List ℕ} {at : ℕ} {fs : List Final} {as' : List Arc} → Bytes bs → at + 10 ≤ length bs → four bs at ≡ final_word →
    Run bs (at + 10) false fs as' → Run bs at false (final_at bs at ∷ fs) as'
unfolding kind_good in_order finals_in arcs_in final_at
run_final {bs} {at} b h w r =
    let halves : (two bs at ≡ 6) × (two bs (at + 2) ≡ 2) = four_halves bs at 6 2 b (omega arith) w in
    let size : two bs at ≡ 6 = halves.0 in
    let kind : two bs (at + 2) ≡ 2 = halves.1 in
    let next : at + 4 + two bs at ≡ at + 10 = omega arith in
    let weight : at + 4 + 2 ≡ at + 6 = omega arith in
    let all : records_at bs at ≡ record_at bs at ∷ records_at bs (at + 10) =
    records_more bs at (omega arith) ∙ ap (λ (n : ℕ). record_at bs at ∷ records_at bs n) next in
    record {
      framing = framed_next bs at (omega arith) ∙ rw (next, r.framing);
      kinds = rw (all, kind, size, r.kinds);
      finals = rw (all, kind, weight, r.finals);
      arcs = rw (all, kind, r.arcs);
    }

run_arc : {bs : List ℕ} {at : ℕ} {as' : List Arc} (after : Bool) → Bytes bs → at + 16 ≤ length bs → four bs at ≡ arc_word →
    Run bs (at + 16) true [] as' → Run bs at after [] (arc_at bs at ∷ as')
unfolding kind_good in_order finals_in arcs_in arc_at
run_arc {bs} {at} after b h w r =
    let halves : (two bs at ≡ 12) × (two bs (at + 2) ≡ 3) = four_halves bs at 12 3 b (omega arith) w in
    let size : two bs at ≡ 12 = halves.0 in
    let kind : two bs (at + 2) ≡ 3 = halves.1 in
    let next : at + 4 + two bs at ≡ at + 16 = omega arith in
    let input : at + 4 + 2 ≡ at + 6 = omega arith in
    let output : at + 4 + 4 ≡ at + 8 = omega arith in
    let target : at + 4 + 6 ≡ at + 10 = omega arith in
    let weight : at + 4 + 8 ≡ at + 12 = omega arith in
    let all : records_at bs at ≡ record_at bs at ∷ records_at bs (at + 16) =
    records_more bs at (omega arith) ∙ ap (λ (n : ℕ). record_at bs at ∷ records_at bs n) next in
    record {
      framing = framed_next bs at (omega arith) ∙ rw (next, r.framing);
      kinds = rw (all, kind, size, r.kinds);
      finals = rw (all, kind, r.finals);
      arcs = rw (all, kind, input, output, target, weight, r.arcs);
    }

-- The arcs to the very end, then the finals in front of them.
run_arcs : (m : ℕ) (bs : List ℕ) (at : ℕ) (after : Bool) → Bytes bs → length bs ≡ at + arc_bytes * m →
    every (λ w. eqb w arc_word) (places m at 16 (four bs)) ≡ true → Run bs at after [] (places m at 16 (arc_at bs))
unfolding places every
run_arcs zero bs at after b h w = run_none bs at after (omega arith)
run_arcs (suc m) bs at after b h w =
    let both : (eqb (four bs at) arc_word ≡ true) × (every (λ w. eqb w arc_word) (places m (at + 16) 16 (four bs)) ≡ true) =
    and-true (eqb (four bs at) arc_word) (every (λ w. eqb w arc_word) (places m (at + 16) 16 (four bs))) w in
    run_arc after b (omega arith) (eqb-true (four bs at) arc_word both.0) (run_arcs m bs (at + 16) true b (omega arith) both.1)

run_all : (f m : ℕ) (bs : List ℕ) (at p : ℕ) → Bytes bs → p ≡ at + 10 * f → length bs ≡ p + arc_bytes * m →
    every (λ w. eqb w final_word) (places f at 10 (four bs)) ≡ true → every (λ w. eqb w arc_word) (places m p 16 (four bs)) ≡ true →
    Run bs at false (places f at 10 (final_at bs)) (places m p 16 (arc_at bs))
unfolding places every
run_all zero m bs at p b e h v w = let same : p ≡ at = omega arith in rw same (run_arcs m bs at false b (omega arith) (rw same at w))
run_all (suc f) m bs at p b e h v w =
    let both : (eqb (four bs at) final_word ≡ true) × (every (λ w. eqb w final_word) (places f (at + 10) 10 (four bs)) ≡ true) =
    and-true (eqb (four bs at) final_word) (every (λ w. eqb w final_word) (places f (at + 10) 10 (four bs))) v in
    run_final b (omega arith) (eqb-true (four bs at) final_word both.0)
    (run_all f m bs (at + 10) p b (omega arith) h both.1 w)

laid_run : {bs : List ℕ} {f m : ℕ} → Bytes bs → Laid bs f m →
    Run bs 12 false (places f head_bytes final_bytes (final_at bs)) (places m (arcs_at f) 16 (arc_at bs))
laid_run {bs} {f} {m} b l = run_all f m bs 12 (arcs_at f) b refl l.long l.finals l.arcs

-- The head record, in front of them all.
record HeadFirst (bs : List ℕ) : Type 0 where
  some : 0 < length bs
  size : two bs 0 ≡ 8
  kind : two bs 2 ≡ 1
  all : records bs ≡ record_at bs 0 ∷ records_at bs 12

head_first : (bs : List ℕ) → two bs 0 ≡ 8 → two bs 2 ≡ 1 → 0 < length bs → HeadFirst bs
unfolding records
head_first bs size kind h =
    let next : 0 + 4 + two bs 0 ≡ 12 = omega arith in
    record {
      some = h;
      size = size;
      kind = kind;
      all = records_more bs 0 h ∙ ap (λ (n : ℕ). record_at bs 0 ∷ records_at bs n) next;
    }

laid_head_first : {bs : List ℕ} {f m : ℕ} → Bytes bs → Laid bs f m → HeadFirst bs
laid_head_first {bs} b l =
    let halves : (two bs 0 ≡ 8) × (two bs (0 + 2) ≡ 1) = four_halves bs 0 8 1 b (omega arith) l.head in
    head_first bs halves.0 halves.1 (omega (arith, l.long))

pub laid_framed : {bs : List ℕ} {f m : ℕ} → Bytes bs → Laid bs f m → framed bs ≡ true
unfolding framed
laid_framed {bs} {f} {m} b l =
    let size : two bs 0 ≡ 8 = (laid_head_first b l).size in
    let next : 0 + 4 + two bs 0 ≡ 12 = omega arith in
    framed_next bs 0 (omega (arith, l.long)) ∙ rw (next, (laid_run b l).framing)

pub laid_kinds : {bs : List ℕ} {f m : ℕ} → Bytes bs → Laid bs f m → kinds_good (records bs) ≡ true
unfolding kinds_good
laid_kinds b l = let h : HeadFirst _ = laid_head_first b l in rw (h.all, h.kind, h.size, (laid_run b l).kinds)

pub laid_finals : {bs : List ℕ} {f m : ℕ} → Bytes bs → Laid bs f m → finals_in bs (records bs) ≡ places f head_bytes final_bytes (final_at bs)
unfolding finals_in
laid_finals b l = let h : HeadFirst _ = laid_head_first b l in rw (h.all, h.kind, (laid_run b l).finals)

pub laid_arcs : {bs : List ℕ} {f m : ℕ} → Bytes bs → Laid bs f m → arcs_in bs (records bs) ≡ places m (arcs_at f) 16 (arc_at bs)
unfolding arcs_in
laid_arcs b l = let h : HeadFirst _ = laid_head_first b l in rw (h.all, h.kind, (laid_run b l).arcs)

pub laid_decode : {bs : List ℕ} {f m : ℕ} → Bytes bs → Laid bs f m →
    decode bs
    ≡ record {
      states = head_states bs;
      start = head_start bs;
      finals = places f head_bytes final_bytes (final_at bs);
      arcs = places m (arcs_at f) 16 (arc_at bs);
    }
unfolding decode
laid_decode b l = rw (laid_finals b l, laid_arcs b l)

pub laid_finals_count : {bs : List ℕ} {f m : ℕ} → Bytes bs → Laid bs f m → length (decode bs).finals ≡ f
laid_finals_count {bs} {f} {m} b l = rw (laid_decode b l, length_places f head_bytes final_bytes (final_at bs))

pub laid_arcs_count : {bs : List ℕ} {f m : ℕ} → Bytes bs → Laid bs f m → length (decode bs).arcs ≡ m
laid_arcs_count {bs} {f} {m} b l = rw (laid_decode b l, length_places m (arcs_at f) 16 (arc_at bs))

-- The final and the arc of a number stand at their places.

-- From the walks to where the records stand: f finals and m arcs from a place to the end.

record RecordsFrom (bs : List ℕ) (at f m : ℕ) : Type 0 where
  long : length bs ≡ at + 10 * f + arc_bytes * m
  finals : every (λ w. eqb w final_word) (places f at 10 (four bs)) ≡ true
  arcs : every (λ w. eqb w arc_word) (places m (at + 10 * f) 16 (four bs)) ≡ true

rest_none : {bs : List ℕ} {at : ℕ} → length bs ≡ at → RecordsFrom bs at 0 0
unfolding places every
rest_none h = record { long = omega arith; finals = refl; arcs = refl }

rest_final : {bs : List ℕ} {at f m : ℕ} → two bs at ≡ 6 → two bs (at + 2) ≡ 2 → RecordsFrom bs (at + 10) f m → RecordsFrom bs at (suc f) m
unfolding places every four
rest_final {bs} {at} {f} {m} size kind r =
    let place : at + 10 * suc f ≡ at + 10 + 10 * f = omega arith in
    record { long = omega (arith, r.long); finals = rw (size, kind, r.finals); arcs = rw place r.arcs }

rest_arc : {bs : List ℕ} {at m : ℕ} → two bs at ≡ 12 → two bs (at + 2) ≡ 3 → RecordsFrom bs (at + 16) 0 m → RecordsFrom bs at 0 (suc m)
unfolding places every four
rest_arc {bs} {at} {m} size kind r =
    let here : at + 0 ≡ at = omega arith in
    let next : at + 16 + 0 ≡ at + 16 = omega arith in
    record { long = omega (arith, r.long); finals = refl; arcs = rw (here, size, kind) (rw next at r.arcs) }

-- The same of the records that were found; behind an arc there is no final.
record RecordsFound (bs : List ℕ) (at : ℕ) (after : Bool) (rs : List Record) : Type 0 where
  rest : RecordsFrom bs at (length (finals_in bs rs)) (length (arcs_in bs rs))
  none : after ≡ true → length (finals_in bs rs) ≡ 0

found_none : {bs : List ℕ} {at : ℕ} (after : Bool) → length bs ≡ at → RecordsFound bs at after []
unfolding finals_in arcs_in
found_none after h = record { rest = rest_none h; none = λ _. refl }

found_final : {bs : List ℕ} {at : ℕ} {rs : List Record} → two bs at ≡ 6 → two bs (at + 2) ≡ 2 → RecordsFound bs (at + 10) false rs →
    RecordsFound bs at false (record_at bs at ∷ rs)
unfolding finals_in arcs_in
found_final {bs} {at} {rs} size kind r =
    record { rest = rw kind (rest_final size kind r.rest); none = λ h. never h }

found_arc : {bs : List ℕ} {at : ℕ} {rs : List Record} (after : Bool) → two bs at ≡ 12 → two bs (at + 2) ≡ 3 → RecordsFound bs (at + 16) true rs →
    RecordsFound bs at after (record_at bs at ∷ rs)
unfolding finals_in arcs_in
found_arc {bs} {at} {rs} after size kind r =
    let none : length (finals_in bs rs) ≡ 0 = r.none refl in
    let rest : RecordsFrom bs (at + 16) 0 (length (arcs_in bs rs)) = rw none at r.rest in
    record { rest = rw (kind, none) (rest_arc size kind rest); none = λ h. rw kind none }

kinds_step : (bs : List ℕ) (at : ℕ) (after : Bool) → at < length bs → framed_at bs at ≡ true → in_order after (records_at bs at) ≡ true →
    ((p : ℕ) (a : Bool) → at < p → p ≤ length bs → framed_at bs p ≡ true → in_order a (records_at bs p) ≡ true → RecordsFound bs p a (records_at bs p)) →
    RecordsFound bs at after (records_at bs at)
unfolding in_order
kinds_step bs at after h fr ks more =
    let next = at + 4 + two bs at in
    let kind = two bs (at + 2) in
    let fits = framed_fits bs at h fr in
    let good = and-true (kind_good after kind (two bs at)) (in_order (eqb kind 3) (records_at bs next)) (rw (records_more bs at h) at ks) in
    let rest : (a : Bool) → eqb kind 3 ≡ a → RecordsFound bs next a (records_at bs next) =
    λ a e. more next a (omega arith) fits.0 fits.1 (rw e at good.1) in
    rw (records_more bs at h)
    (by_kind after kind (two bs at) good.0
    (λ k s a. let e : next ≡ at + 10 = omega arith in rw (a, e) (found_final s k (rw e at (rest false (rw k)))))
    (λ k s. let e : next ≡ at + 16 = omega arith in rw e (found_arc after s k (rw e at (rest true (rw k))))))

kinds_from : (k : ℕ) (bs : List ℕ) (at : ℕ) (after : Bool) → length bs ≤ at + k → at ≤ length bs → framed_at bs at ≡ true →
    in_order after (records_at bs at) ≡ true → RecordsFound bs at after (records_at bs at)
kinds_from zero bs at after fuel h fr ks = rw (records_end bs at (omega arith)) (found_none after (omega arith))
kinds_from (suc k) bs at after fuel h fr ks =
    by_order at (length bs)
    (λ l. kinds_step bs at after l fr ks (λ p a u v. kinds_from k bs p a (omega arith) v))
    (λ l. rw (records_end bs at l) (found_none after (omega arith)))

kinds_head_first : (bs : List ℕ) → kinds_good (records bs) ≡ true → HeadFirst bs
kinds_head_first bs ks =
    by_order 0 (length bs)
    (λ h.
    let both = and-true (eqb (two bs 2) 1 && eqb (two bs 0) 8) (in_order false (records_at bs (4 + two bs 0))) (sym (kinds_first bs h) ∙ ks) in
    let head = and-true (eqb (two bs 2) 1) (eqb (two bs 0) 8) both.0 in
    head_first bs (eqb-true (two bs 0) 8 head.1) (eqb-true (two bs 2) 1 head.0) h)
    (λ h. never (sym (kinds_none bs (omega arith)) ∙ ks))

pub kinds_long : (bs : List ℕ) → framed bs ≡ true → kinds_good (records bs) ≡ true → 12 ≤ length bs
kinds_long bs fr ks = let h : HeadFirst bs = kinds_head_first bs ks in (going_first bs fr h.some h.kind h.size).within

pub kinds_laid : {bs : List ℕ} → Bytes bs → framed bs ≡ true → kinds_good (records bs) ≡ true →
    Laid bs (length (finals_in bs (records bs))) (length (arcs_in bs (records bs)))
unfolding finals_in arcs_in four
kinds_laid {bs} b fr ks =
    let h : HeadFirst bs = kinds_head_first bs ks in
    let g : KindsFrom bs 12 false = going_first bs fr h.some h.kind h.size in
    let found : RecordsFound bs 12 false (records_at bs 12) = kinds_from (length bs) bs 12 false (omega arith) g.within g.framing (g.kinds ∙ ks) in
    rw (h.all, h.kind)
    (record { long = found.rest.long; head = rw (h.size, h.kind); finals = found.rest.finals; arcs = found.rest.arcs })
