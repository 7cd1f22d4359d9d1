use Rattle.board.specs.Step.{answered_of}
use Rattle.board.proofs.Board.read_master.Goals as goal

pub returns : goal.returns
unfolding answered_of
returns c = rw (c.tell_turn.ensures, c.read_icu-t.ensures, c.lines.ensures)
