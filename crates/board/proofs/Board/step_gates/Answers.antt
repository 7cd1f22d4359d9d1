use Rattle.board.specs.Step.{answered_of}
use Rattle.timer.specs.Timer.{gates_of}
use Rattle.board.proofs.Board.step_gates.Goals as goal

pub returns : goal.returns
unfolding answered_of gates_of
returns c = rw (c.tell.ensures, c.follow.ensures, c.set_gates.ensures)
