use Rattle.board.specs.Step.{answered_of}
use Rattle.board.proofs.Board.step_intp.Goals as goal

pub returns : goal.returns
unfolding answered_of
returns c = rw (c.tell.ensures, c.follow.ensures)
