-- All that is promised is kept.
use Rattle.promises.specs.Promises.{Promises}
use Rattle.promises.proofs.Demand1.{demand_1}
use Rattle.promises.proofs.Demand3.{demand_3}
use Rattle.promises.proofs.Outside.{outside}
use Rattle.promises.proofs.Reached.{reached}
use Rattle.promises.proofs.Chopped.{chopped}
use Rattle.promises.proofs.Taught.{taught}
use Rattle.promises.proofs.Modes.{modes}
use Rattle.promises.proofs.Waves.{waves}
use Rattle.promises.proofs.Withdrawn.{withdrawn}
use Rattle.promises.proofs.Meant.{meant}
use Rattle.promises.proofs.Cascade.{cascade}
use Rattle.promises.proofs.Worked.{worked}
use Rattle.promises.proofs.Examples.{examples}

pub promises : Promises
promises =
    record {
      demand_1 = demand_1;
      demand_3 = demand_3;
      outside = outside;
      reached = reached;
      chopped = chopped;
      taught = taught;
      modes = modes;
      waves = waves;
      withdrawn = withdrawn;
      meant = meant;
      cascade = cascade;
      worked = worked;
      examples = examples;
    }
