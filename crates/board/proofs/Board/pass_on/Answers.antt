use Rattle.board.specs.Step.{answered_of}
use Rattle.board.specs.Operations.{slave_gives}
use Rattle.board.proofs.Board.pass_on.Goals as goal

pub returns : goal.returns
unfolding slave_gives answered_of
returns c = rw (c.tell_turn.ensures, c.follow.ensures, c.serve.ensures, c.acknowledge-t.ensures)
