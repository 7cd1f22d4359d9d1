use Rattle.board.specs.Step.{answered_of}
use Rattle.board.specs.Wiring.{fresh_of}
use Rattle.board.proofs.Board.step_reset.Goals as goal

pub returns : goal.returns
unfolding fresh_of answered_of
returns c = rw (c.tell.ensures, c.reset.ensures)
