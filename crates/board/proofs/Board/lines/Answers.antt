use Rattle.board.proofs.Board.lines.Goals as goal

pub returns : goal.returns
returns c = rw (c.lines_at.ensures, c.join.ensures)
