use Rattle.board.specs.Advance.{advance_of}
use Rattle.board.specs.Step.{answered_of}
use Rattle.board.proofs.Board.step_advance.Goals as goal

pub returns : goal.returns
unfolding advance_of answered_of
returns c = rw (c.tell.ensures, c.rises_payload.ensures, c.run_pulses-a.ensures, c.join-joined.ensures)
