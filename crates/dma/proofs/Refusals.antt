-- A refusal's number is never 0, which is a thing done.
use Rattle.std.proofs.Common.{◌≡◌, refl}
use mathlib.Core.Bool.{false}
use lib.Dec.{eqb}
use Rattle.dma.specs.declared.Refusal.{Refusal}
use Rattle.dma.specs.declared.Refusal.TheVariants.{NotThere, NotBuilt}
use Rattle.dma.specs.Answers.{status_of}

pub never_0 : (e : Refusal) → eqb (status_of e) 0 ≡ false
never_0 NotThere = refl
never_0 NotBuilt = refl
