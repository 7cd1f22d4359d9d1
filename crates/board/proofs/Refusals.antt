-- No refusal of the timer has the number 0.
use mathlib.Core.Bool.{false}
use mathlib.Core.Path.{◌≡◌, refl}
use lib.Dec.{eqb}
use Rattle.timer.specs.declared.Refusal.{Refusal}
use Rattle.timer.specs.declared.Refusal.TheVariants.{NotThere, OutOfTurn, NotBuilt, TooSmall}
use Rattle.timer.specs.Ports.{status_of}

pub never_0 : (e : Refusal) → eqb (status_of e) 0 ≡ false
never_0 NotThere = refl
never_0 OutOfTurn = refl
never_0 NotBuilt = refl
never_0 TooSmall = refl
