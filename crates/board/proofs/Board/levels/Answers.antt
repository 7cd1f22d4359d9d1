use Rattle.board.specs.Wiring.{levels_of}
use Rattle.board.proofs.Board.levels.Goals as goal

pub returns : goal.returns
unfolding levels_of
returns c = rw (c.levels_at.ensures, c.join.ensures)
