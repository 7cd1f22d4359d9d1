use Rattle.board.specs.Wiring.{lines_at}
use Rattle.board.proofs.rewire.Goals as goal

pub returns : goal.returns
unfolding lines_at
returns c = rw (c.levels_at.ensures, c.lines-next.ensures, c.lines_at-2.ensures, c.lines_at.ensures)
