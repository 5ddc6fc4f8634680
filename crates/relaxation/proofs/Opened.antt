-- What accepted bytes are known by: those of a slice fit a byte each, so that there is a transducer of known size in them. Assumes nothing.
use Prim.Native.Nat.{ℕ}
use native.Mathlib.Omega.{arith}
use mathlib.Core.List.{List}
use lib.ListN.{get_or}
use mir.Syntax.{w8}
use mir.Val.{Fits}
use Rattle.wire.specs.Bytes.{Bytes}
use Rattle.transducer.specs.Format.{decode}
use Rattle.transducer.specs.Accepted.{AcceptedAt}
use Rattle.reach.proofs.Sized.{Sized, sized}

pub opened : (bs : List ℕ) {first : ℕ} → ((i : ℕ) → Fits w8 (get_or bs i 0)) → AcceptedAt bs first → Sized (decode bs)
opened bs fit at = let bytes : Bytes bs = λ i. omega (arith, fit i) in sized bs bytes at.accepted
