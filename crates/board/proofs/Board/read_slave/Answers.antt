use Rattle.board.specs.Step.{answered_of}
use Rattle.board.specs.Operations.{slave_shown}
use Rattle.board.proofs.Board.read_slave.Goals as goal

pub returns : goal.returns
unfolding slave_shown answered_of
returns c = rw (c.tell_turn.ensures, c.read_icu.ensures)
