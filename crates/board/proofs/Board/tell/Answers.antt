use Rattle.board.specs.Step.{answered_of}
use Rattle.board.proofs.Board.tell.Goals as goal

pub returns : goal.returns
unfolding answered_of
returns c = rw (c.answer.ensures, c.levels.ensures)
