use Rattle.std.proofs.Common.{rules}
use Rattle.timer.specs.Steady.{fall0}
use Rattle.timer.proofs.Runs.{ran_once}
use Rattle.timer.proofs.Counter.fall_once.Goals as goal

pub returns : goal.returns
returns c = ran_once _ _ _ _ (c.fall-ran.ensures.moves fall0 (λ m r next q. search rules)) c.rise.ensures.value
