use Rattle.std.proofs.Common.{◌≡◌, ◌∙◌, w32, w64, SFits, refl, arith}
use Rattle.std.proofs.Math.Facts.{to_z-of_z}
use Rattle.wire.proofs.Ints.{wider, size}
use Rattle.transducer.specs.Weight.{Weight, plus}
use Rattle.transducer.proofs.Weights.{magnitude_is, magnitude_plus, magnitude_fits}
use Rattle.derived.proofs.restrict.sum_at_most.Goals as goal

-- 64 bits hold the sum of two and of three numbers of 32 bits.
two : (w x : Weight) → SFits w32 w → SFits w32 x → SFits w64 (plus w x)
two w x p q = magnitude_fits (plus w x) (omega (arith, magnitude_plus w x, magnitude_is w, magnitude_is x, size w, size x, p.sfits, q.sfits))

three : (v w x : Weight) → SFits w32 v → SFits w32 w → SFits w32 x → SFits w64 (plus v (plus w x))
three v w x o p q =
    magnitude_fits (plus v (plus w x))
    (omega (
      arith,
      magnitude_plus v (plus w x),
      magnitude_plus w x,
      magnitude_is v,
      magnitude_is w,
      magnitude_is x,
      size v,
      size w,
      size x,
      o.sfits,
      p.sfits,
      q.sfits,
    ))

pub returns : goal.returns
returns c =
    let v = c.args.coming in
    let w = c.args.weight in
    let x = c.args.rest in
    let first : c.from.result ≡ c.args.coming = c.from.ensures ∙ to_z-of_z c.ranges.coming in
    let second : c.from-2.result ≡ c.args.weight = c.from-2.ensures ∙ to_z-of_z c.ranges.weight in
    let third : c.from-3.result ≡ c.args.rest = c.from-3.ensures ∙ to_z-of_z c.ranges.rest in
    rw (
      first,
      second,
      third,
      to_z-of_z (wider v c.ranges.coming),
      to_z-of_z (wider w c.ranges.weight),
      to_z-of_z (wider x c.ranges.rest),
      to_z-of_z (two w x c.ranges.weight c.ranges.rest),
      to_z-of_z (three v w x c.ranges.coming c.ranges.weight c.ranges.rest),
      to_z-of_z c.ranges.most,
    ) refl
