use Rattle.board.specs.Wiring.{lines_at}
use Rattle.board.proofs.lines_at.Goals as goal

pub returns : goal.returns
unfolding lines_at
returns c = rw c.lines_by.ensures
