-- What a turn reads stands behind what stood before, and is what the input gave.
use Rattle.std.proofs.Common.{Option, ◌≡◌, ℕ, ◌+◌, ◌-◌, ◌≤◌, List, ◌++◌, rules, arith, length, take, sym, ◌∙◌, subst, le_refl, drop_at, length-take-le}
use Rattle.std.proofs.lemmas.Slice.{take-put_mid_below}
use Rattle.std.specs.Io.KnownBytes.{Consumes, Keeps}
use Rattle.std.proofs.KnownBytes.{Consumes-trans, Consumes-kept}
use borrow.Rule.Slice.PartMut.{put_mid, post_of}
use lib.Seq.{take-add, take-append-le}
use Rattle.files.proofs.read_full.Goals as goal

-- The bytes before those of a turn, and these.
joined : (done n : ℕ) (old part : List ℕ) → done ≤ length old → n ≤ length part →
    take (done + n) (put_mid done (length old - done) old part) ≡ take done old ++ take n part
joined done n old part h l =
    let after = post_of done (length old - done) old in
    let rest : take n (part ++ after) ≡ take n part = take-append-le n part after l in
    take-add done n (put_mid done (length old - done) old part)
    ∙ rw (take-put_mid_below done (length old - done) old part done (le_refl done) h, drop_at (take done old) (part ++ after) done (length-take-le done old h), rest)

module _ (a b c : Option (List ℕ)) (done : ℕ) (old part : List ℕ) (h : done ≤ length old) (p : Consumes a b (take done old)) where
  more : (n : ℕ) → n ≤ length part → Consumes b c (take n part) → Consumes a c (take (done + n) (put_mid done (length old - done) old part))
  more n l q = subst (Consumes a c) (sym (joined done n old part h l)) (Consumes-trans a b c (take done old) (take n part) p q)

  kept : Keeps b c → Consumes a c (take done (put_mid done (length old - done) old part))
  kept q =
      subst (Consumes a c) (sym (take-put_mid_below done (length old - done) old part done (le_refl done) h)) (Consumes-kept a b c (take done old) p q)

pub loop-done-preserved : goal.loop-done-preserved
loop-done-preserved g c =
    let inside = c.loop-done.invariant in
    (search rules, search rules, more _ _ _ c.loop-done.done c.loop-done.bytes c.read.new.buf inside.1 inside.2 c.in-Ok.n c.in-Ok.ensures.bound.0 c.in-Ok.ensures.bytes.0)

pub returns-then-n-eq0-clause-given : goal.returns-then-n-eq0-clause-given
returns-then-n-eq0-clause-given g c =
    let inside = c.loop-done.invariant in
    let none : c.loop-done.done + c.in-Ok.n ≡ c.loop-done.done = omega arith in
    rw none at (more _ _ _ c.loop-done.done c.loop-done.bytes c.read.new.buf inside.1 inside.2 c.in-Ok.n c.in-Ok.ensures.bound.0 c.in-Ok.ensures.bytes.0)

pub returns-in-Err-clause-given : goal.returns-in-Err-clause-given
returns-in-Err-clause-given g c =
    let inside = c.loop-done.invariant in
    kept _ _ _ c.loop-done.done c.loop-done.bytes c.read.new.buf inside.1 inside.2 c.in-Err.ensures.bytes
