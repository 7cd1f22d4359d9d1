-- What is promised here, at once. The proof is `promises` of proofs/Promises.antt. Demand 2 is in the contracts of the functions (docs/PROMISES.md), and the ranges of
-- the fields are in Exact.antt of the crate `exact`. Above a statement, "Not so" names boards that it rules out.
use Rattle.promises.specs.Demand1.{Demand1}
use Rattle.promises.specs.Demand3.{Demand3}
use Rattle.promises.specs.Outside.{Outside}
use Rattle.promises.specs.Reached.{ReachedBoards}
use Rattle.promises.specs.Chopped.{Chopped}
use Rattle.promises.specs.Taught.{Taught}
use Rattle.promises.specs.Modes.{Modes}
use Rattle.promises.specs.Waves.{Waves}
use Rattle.promises.specs.Withdrawn.{Withdrawn}
use Rattle.promises.specs.Meant.{Meant}
use Rattle.promises.specs.Cascade.{Cascade}
use Rattle.promises.specs.Worked.{Worked}
use Rattle.promises.specs.Examples.{Examples}

pub record Promises : Type 0 where
  pub demand_1 : Demand1
  pub demand_3 : Demand3
  pub outside : Outside
  pub reached : ReachedBoards
  pub chopped : Chopped
  pub taught : Taught
  pub modes : Modes
  pub waves : Waves
  pub withdrawn : Withdrawn
  pub meant : Meant
  pub cascade : Cascade
  pub worked : Worked
  pub examples : Examples
