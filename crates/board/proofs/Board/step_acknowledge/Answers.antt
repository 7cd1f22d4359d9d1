use Rattle.board.specs.Operations.{acknowledge_of}
use Rattle.board.specs.Step.{answered_of}
use Rattle.board.proofs.Board.step_acknowledge.Goals as goal

pub returns-then-is_passed_on : goal.returns-then-is_passed_on
unfolding acknowledge_of answered_of
returns-then-is_passed_on c = rw (c.pass_on.ensures, ← c.lines-lines.ensures, ← c.is_passed_on.ensures, c.if-is_passed_on.true)

pub returns-then-is_answered : goal.returns-then-is_answered
unfolding acknowledge_of answered_of
returns-then-is_answered c = rw (c.tell_turn.ensures, c.acknowledge-t.ensures, ← c.lines-lines.ensures, ← c.is_passed_on.ensures, c.if-is_passed_on.false, ← c.is_answered.ensures, c.if-is_answered.true)

pub returns : goal.returns
unfolding acknowledge_of answered_of
returns c = rw (c.tell.ensures, ← c.lines-lines.ensures, ← c.is_passed_on.ensures, c.if-is_passed_on.false, ← c.is_answered.ensures, c.if-is_answered.false)
