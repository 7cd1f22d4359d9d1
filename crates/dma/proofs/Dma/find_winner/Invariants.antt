use Rattle.std.proofs.Common.{◌≡◌, ◌-◌}
use Rattle.dma.specs.Cycle.{winner_from, winner}
use Rattle.dma.proofs.Dma.find_winner.Given as goal

abbrev pub invariant-loop-k : goal.invariant-loop-k
invariant-loop-k l = winner_from l.self l.k (4 - l.k) ≡ winner l.self
