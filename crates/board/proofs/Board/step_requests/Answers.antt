use Rattle.board.specs.Step.{answered_of}
use Rattle.dma.specs.Registers.{requested_of}
use Rattle.board.proofs.Board.step_requests.Goals as goal

pub returns : goal.returns
unfolding answered_of requested_of
returns c = rw (c.tell.ensures, c.set_requests.ensures)
