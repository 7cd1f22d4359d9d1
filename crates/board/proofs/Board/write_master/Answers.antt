use Rattle.board.specs.Step.{answered_of}
use Rattle.board.proofs.Board.write_master.Goals as goal

pub returns : goal.returns
unfolding answered_of
returns c = rw (c.tell_turn.ensures, c.write_icu-t.ensures)
