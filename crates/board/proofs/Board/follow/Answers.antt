use Rattle.board.proofs.Board.follow.Goals as goal

pub returns : goal.returns
returns c = rw (c.lines-3.ensures, c.lines-2.ensures, c.lines.ensures)
