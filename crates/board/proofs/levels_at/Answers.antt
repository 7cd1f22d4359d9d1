use Rattle.bits.specs.Bits.{masked_of}
use Rattle.timer.specs.Timer.{resets_of}
use Rattle.board.specs.Wiring.{levels_of}
use Rattle.board.proofs.Flags.{added}
use Rattle.board.proofs.levels_at.Goals as goal

pub returns : goal.returns
unfolding levels_of masked_of resets_of
returns c = rw (c.from.ensures, c.int.ensures, c.lines_at.ensures, c.outs.ensures.value, added)
