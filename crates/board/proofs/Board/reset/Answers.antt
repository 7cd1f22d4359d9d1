use Rattle.board.specs.Wiring.{fresh_of}
use Rattle.board.proofs.Board.reset.Goals as goal

pub returns : goal.returns
unfolding fresh_of
returns c = rw (c.reset-4.ensures, c.reset-3.ensures, c.reset-2.ensures, c.reset.ensures)
