-- What trimming leaves: the head written last, the zeros behind, and the answer. Assumes nothing.
use mathlib.Core.Path.{◌≡◌, refl, sym, ap, ◌∙◌}
use mathlib.Core.Bool.{Bool, true, false, cond}
use mathlib.Core.List.{List, [], ◌∷◌, ◌++◌, append-nil, append_assoc}
use Prim.Native.Nat.{ℕ, suc, ◌+◌, ◌*◌, ◌≤◌, ◌<◌}
use native.Mathlib.Nat.{zero-add, suc-add, add-zero}
use native.Mathlib.Omega.{arith}
use lib.Dec.{eqb}
use lib.ListN.{length, get_or, set, take, drop, take-append-drop}
use lib.Seq.{sets, length-sets, sets-eq, length-take-le}
use borrow.Author.Tests.{lt-ltb, le-ltb, ne_eqb}
use Rattle.wire.specs.Bytes.{Bytes, cleared}
use Rattle.wire.proofs.Places.{sets_append}
use Rattle.transducer.specs.Answer.{Written}
use Rattle.transducer.specs.declared.Final.{Final}
use Rattle.transducer.specs.Format.{max_arcs, max_bytes, head_bytes, final_bytes, arc_bytes, arcs_at}
use Rattle.transducer.specs.Format.{Transducer, refusal, decode}
use Rattle.transducer.specs.Encode.{head_record, final_records, arc_records, encode}
use Rattle.transducer.specs.Entry.{or_else, unless, left_in}
use Rattle.transducer.proofs.Encode.{sets_then, length_head_record, length_final_records, length_encode, cleared_sets}
use Rattle.transducer.proofs.RoundTrip.{accepted_good, length_encode_below}
use Rattle.trim.specs.Passing.{PassingPut}
use Rattle.trim.specs.Trim.{useful, arc_useful, renumbered, moved, kept_arcs, kept_finals, trimmed, origins_kept}
use Rattle.trim.specs.Parts.{Renumbered, Trims}
use Rattle.trim.specs.TrimEntry.{trim_room, trim_refusal, TrimSays}
use Rattle.trim.proofs.Passing.{length_passing}
use Rattle.trim.proofs.TrimmedGood.{moved_final, trimmed_good}
use Rattle.trim.proofs.Trimmed.{kept, lone, trimmed_kept, trimmed_lone, origins_some, origins_none}

-- The head in front of what stands

sets_cons : (x : ℕ) (l : List ℕ) (k : ℕ) (vs : List ℕ) → sets (x ∷ l) (suc k) vs ≡ x ∷ sets l k vs
sets_cons x l k [] = refl
sets_cons x l k (v ∷ vs) = sets_cons x (set l k v) (suc k) vs

sets_behind : (hd l : List ℕ) (k : ℕ) (vs : List ℕ) → sets (hd ++ l) (length hd + k) vs ≡ hd ++ sets l k vs
sets_behind [] l k vs = rw zero-add
sets_behind (x ∷ hd) l k vs = rw suc-add (sets_cons x (hd ++ l) (length hd + k) vs ∙ ap (λ (r : List ℕ). x ∷ r) (sets_behind hd l k vs))

drop_sets : (hd l vs : List ℕ) → drop (length hd) (sets (hd ++ l) (length hd + 0) vs) ≡ sets l 0 vs
drop_sets [] l vs = rw zero-add
drop_sets (x ∷ hd) l vs = rw (suc-add, sets_cons x (hd ++ l) (length hd + 0) vs) (drop_sets hd l vs)

pub sets_front_last : (hd out xs : List ℕ) (n : ℕ) {mid last : List ℕ} → length hd ≡ n → n ≤ length out → mid ≡ sets out n xs → last ≡ sets mid 0 hd
    → last ≡ sets out 0 (hd ++ xs)
sets_front_last hd out xs n {mid} {last} long room h1 h2 =
    let whole : (l : List ℕ) → n ≤ length l → sets l 0 hd ≡ hd ++ drop n l = λ l r. sets-eq hd l 0 (omega arith) ∙ rw (zero-add, long) in
    let mid_room : n ≤ length mid = omega (arith, ap length h1, length-sets out n xs) in
    let left : last ≡ hd ++ drop n mid = h2 ∙ whole mid mid_room in
    let split : out ≡ take n out ++ drop n out = sym (take-append-drop n out) in
    let front : length (take n out) ≡ n = length-take-le n out room in
    let behind : drop n mid ≡ sets (drop n out) 0 xs =
    ap (λ (l : List ℕ). drop n l) (h1 ∙ ap (λ (l : List ℕ). sets l n xs) split) ∙ behind_is (take n out) (drop n out) n xs front in
    let right : sets out 0 (hd ++ xs) ≡ hd ++ sets (drop n out) 0 xs =
    sets_append out 0 hd xs ∙ ap (λ (l : List ℕ). sets l (0 + length hd) xs) (whole out room)
    ∙ ap (λ (k : ℕ). sets (hd ++ drop n out) k xs) same ∙ sets_behind hd (drop n out) 0 xs in
    left ∙ ap (λ (l : List ℕ). hd ++ l) behind ∙ sym right
  where
    same : 0 + length hd ≡ length hd + 0
    same = omega arith

    behind_is : (p q : List ℕ) (k : ℕ) (vs : List ℕ) → length p ≡ k → drop k (sets (p ++ q) k vs) ≡ sets q 0 vs
    behind_is p q k vs e =
        let e' : length p + 0 ≡ k = omega arith in
        rw (← e') (ap (λ (j : ℕ). drop j (sets (p ++ q) (length p + 0) vs)) (add-zero (length p)) ∙ drop_sets p q vs)

-- All of it, where the start is useful

kept_length : (t : Transducer) (f m : ℕ) → f ≡ length (kept_finals t t.finals) → m ≡ length (kept_arcs t t.arcs)
    → length (encode (kept t)) ≡ arcs_at f + arc_bytes * m
unfolding kept
kept_length t f m ef em = rw (ef, em) (length_encode (kept t))

module _ (t : Transducer) (out : List ℕ) (u : useful t t.start ≡ true) where
  kept_encode : (n s : ℕ) {o1 o2 o3 : List ℕ} (f m : ℕ) → n ≡ renumbered t t.states → s ≡ renumbered t t.start
      → f ≡ length (kept_finals t t.finals) → m ≡ length (kept_arcs t t.arcs) → head_bytes ≤ length out
      → o1 ≡ sets out head_bytes (final_records (kept_finals t t.finals)) → o2 ≡ sets o1 (arcs_at f) (arc_records (kept_arcs t t.arcs))
      → o3 ≡ sets o2 0 (head_record n m f s) → o3 ≡ sets out 0 (encode (trimmed t))
  unfolding encode kept
  kept_encode n s {o1} {o2} {o3} f m en es ef em room h1 h2 h3 =
      let fs : List ℕ = final_records (kept_finals t t.finals) in
      let as' : List ℕ = arc_records (kept_arcs t t.arcs) in
      let hd : List ℕ =
      head_record (renumbered t t.states) (length (kept_arcs t t.arcs)) (length (kept_finals t t.finals)) (renumbered t t.start) in
      let sized : length fs ≡ final_bytes * f = length_final_records (kept_finals t t.finals) ∙ ap (λ (k : ℕ). final_bytes * k) (sym ef) in
      let body : o2 ≡ sets out head_bytes (fs ++ as') = sets_then out head_bytes (final_bytes * f) fs as' sized h1 h2 in
      let head : o3 ≡ sets o2 0 hd = rw (← en, ← es, ← ef, ← em) h3 in
      let long : length hd ≡ head_bytes =
      length_head_record (renumbered t t.states) (length (kept_arcs t t.arcs)) (length (kept_finals t t.finals)) (renumbered t t.start) in
      let all : o3 ≡ sets out 0 (hd ++ (fs ++ as')) = sets_front_last hd out (fs ++ as') head_bytes long room body head in
      rw (trimmed_kept t u, append_assoc hd fs as') all

pub length_kept_finals : (t : Transducer) (fs : List Final) → length (kept_finals t fs) ≤ length fs
unfolding kept_finals moved_final
length_kept_finals t [] = omega arith
length_kept_finals t (f ∷ fs) = on (useful t f.state) (length_kept_finals t fs)
  where
    on : (b : Bool) → length (kept_finals t fs) ≤ length fs → length (cond b (moved_final t f ∷ kept_finals t fs) (kept_finals t fs)) ≤ suc (length fs)
    on true more = omega arith
    on false more = omega arith

pub index_at : {t : Transducer} {index : List ℕ} → Renumbered t index → (s s' : ℕ) → s ≡ s' → s' ≤ t.states → get_or index s 0 ≡ renumbered t s'
index_at {t} {index} r s s' e l = ap (λ (k : ℕ). get_or index k 0) e ∙ r.at_state s' l

-- Where nothing accepts

encode_lone : encode lone ≡ head_record 1 0 0 0
unfolding encode lone final_records arc_records
encode_lone = append-nil (head_record 1 0 0 0 ++ []) ∙ append-nil (head_record 1 0 0 0)

pub trims_lone : (t : Transducer) (out origins : List ℕ) {o1 o2 g : List ℕ} (s end : ℕ) → s ≡ t.start → useful t s ≡ false → end ≡ head_bytes
    → head_bytes ≤ length out → o1 ≡ sets out 0 (head_record 1 0 0 0) → o2 ≡ cleared end o1 → g ≡ cleared 0 origins → Trims t end out o2 origins g
trims_lone t out origins s end is none ends room h1 h2 h3 =
    let u : useful t t.start ≡ false = rw is at none in
    let long : length (encode lone) ≡ end = ap length encode_lone ∙ length_head_record 1 0 0 0 ∙ sym ends in
    record {
      len_is = rw (trimmed_lone t u) (sym long);
      table = rw (trimmed_lone t u) (cleared_sets (encode lone) out end long (omega arith) (rw encode_lone h1) h2);
      origins_are = rw (origins_none t u) (cleared_sets [] origins 0 refl (omega arith) refl h3);
    }

-- Where something does

pub trims_kept : (t : Transducer) (out origins : List ℕ) {o1 o2 o3 o4 g1 g2 : List ℕ} (s n r f m at : ℕ) → s ≡ t.start → useful t s ≡ true
    → n ≡ renumbered t t.states → r ≡ renumbered t t.start → f ≡ length (kept_finals t t.finals) → at ≡ arcs_at f
    → at + arc_bytes * m ≤ length out → m ≤ length origins
    → o1 ≡ sets out head_bytes (final_records (kept_finals t t.finals)) → PassingPut (arc_useful t) (moved t) t.arcs at m o1 o2 origins g1
    → o3 ≡ sets o2 0 (head_record n m f r) → o4 ≡ cleared (at + arc_bytes * m) o3 → g2 ≡ cleared m g1
    → Trims t (at + arc_bytes * m) out o4 origins g2
trims_kept t out origins {o1} {o2} s n r f m at is some en er ef there room room' h1 put h3 h4 h5 =
    let u : useful t t.start ≡ true = rw is at some in
    let as' : List ℕ = arc_records (kept_arcs t t.arcs) in
    let arcs : o2 ≡ sets o1 (arcs_at f) as' = put.table ∙ ap (λ (k : ℕ). sets o1 k as') there in
    let long : length (encode (trimmed t)) ≡ at + arc_bytes * m = length_trimmed u put.count_is in
    let sized : length (origins_kept t) ≡ m = ap length (origins_some t u) ∙ length_passing (arc_useful t) (moved t) 0 t.arcs ∙ sym put.count_is in
    record {
      len_is = sym long;
      table =
          cleared_sets (encode (trimmed t)) out (at + arc_bytes * m) long room
          (kept_encode t out u n r f m en er ef put.count_is (omega arith) h1 arcs h3) h4;
      origins_are = cleared_sets (origins_kept t) origins m sized room' (rw (origins_some t u) put.numbers_are) h5;
    }
  where
    length_trimmed : useful t t.start ≡ true → m ≡ length (kept_arcs t t.arcs) → length (encode (trimmed t)) ≡ at + arc_bytes * m
    length_trimmed u em =
        ap (λ (z : Transducer). length (encode z)) (trimmed_kept t u) ∙ kept_length t f m ef em ∙ ap (λ (k : ℕ). k + arc_bytes * m) (sym there)

-- The answer

says_refused : (bs : List ℕ) (number n : ℕ) (r : Written) (out origins : List ℕ) → number ≡ n → (n ≡ 0 → ⊥) → r ≡ record { refusal = n; len = 0 }
    → TrimSays bs number r out out origins origins
unfolding unless left_in
says_refused bs number n r out origins e nonzero h =
    let test : eqb n 0 ≡ false = ne_eqb n 0 nonzero in
    rw (e, h) (record { refusal_is = refl; len_is = rw test; table = rw test; origins_are = rw test })

module _ {bs out origins : List ℕ} {n : ℕ} {r : Written} where
  -- 1 to 8
  pub says_bad : n ≡ refusal bs → (n ≡ 0 → ⊥) → r ≡ record { refusal = n; len = 0 }
      → TrimSays bs (trim_refusal bs (length out) (length origins)) r out out origins origins
  unfolding trim_refusal or_else
  says_bad e nonzero h =
      let number : cond (eqb (refusal bs) 0) (trim_room (length out) (length origins)) (refusal bs) ≡ n = rw (← e, ne_eqb n 0 nonzero) in
      says_refused bs (trim_refusal bs (length out) (length origins)) n r out origins number nonzero h

  -- 10
  says_short : n ≡ refusal bs → n ≡ 0 → trim_room (length out) (length origins) ≡ 10 → r ≡ record { refusal = 10; len = 0 }
      → TrimSays bs (trim_refusal bs (length out) (length origins)) r out out origins origins
  unfolding trim_refusal or_else
  says_short e z room h =
      let number : cond (eqb (refusal bs) 0) (trim_room (length out) (length origins)) (refusal bs) ≡ 10 = rw (← e, z, room) in
      says_refused bs (trim_refusal bs (length out) (length origins)) 10 r out origins number (λ q. omega arith) h

  pub says_short_table : n ≡ refusal bs → n ≡ 0 → length out < max_bytes → r ≡ record { refusal = 10; len = 0 }
      → TrimSays bs (trim_refusal bs (length out) (length origins)) r out out origins origins
  unfolding trim_room
  says_short_table e z l h = says_short e z (rw (lt-ltb (length out) max_bytes l)) h

  pub says_short_origins : n ≡ refusal bs → n ≡ 0 → max_bytes ≤ length out → length origins < max_arcs → r ≡ record { refusal = 10; len = 0 }
      → TrimSays bs (trim_refusal bs (length out) (length origins)) r out out origins origins
  unfolding trim_room
  says_short_origins e z k l h = says_short e z (rw (le-ltb (length out) max_bytes k, lt-ltb (length origins) max_arcs l)) h

pub says_trimmed : {bs out out' origins origins' : List ℕ} {len : ℕ} → refusal bs ≡ 0 → max_bytes ≤ length out → max_arcs ≤ length origins
    → Trims (decode bs) len out out' origins origins'
    → TrimSays bs (trim_refusal bs (length out) (length origins)) (record { refusal = 0; len = len }) out out' origins origins'
unfolding trim_refusal trim_room or_else unless left_in
says_trimmed {bs} {out} {out'} {origins} ok l k t =
    rw (ok, le-ltb (length out) max_bytes l, le-ltb (length origins) max_arcs k)
    (record { refusal_is = refl; len_is = t.len_is; table = t.table; origins_are = t.origins_are })

pub trims_short : (bs : List ℕ) {out out' origins origins' : List ℕ} {len : ℕ} → Bytes bs → refusal bs ≡ 0
    → Trims (decode bs) len out out' origins origins' → len ≤ max_bytes
trims_short bs bytes ok t =
    omega (arith, t.len_is, length_encode_below (trimmed (decode bs)) (trimmed_good (decode bs) (accepted_good bs bytes ok)))
