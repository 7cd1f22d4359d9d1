use Rattle.board.specs.Step.{blocked, memory_of, outcome_of, step_memory, step_of}
use Rattle.board.proofs.Board.step.Goals as goal

pub returns-in_default : goal.returns-in_default
unfolding blocked outcome_of memory_of step_of step_memory
returns-in_default c = record { result = rw (c.tell.ensures, ← c.decode.ensures, c.in_default.is); memory = rw (← c.decode.ensures, c.in_default.is) }

pub returns-then-is_blocked : goal.returns-then-is_blocked
unfolding blocked outcome_of memory_of step_of step_memory
returns-then-is_blocked c = record { result = rw (c.tell-then-is_blocked.ensures, ← c.decode.ensures, c.in-Some.is, ← c.is_blocked.ensures, c.if-is_blocked.true); memory = rw (← c.decode.ensures, c.in-Some.is, ← c.is_blocked.ensures, c.if-is_blocked.true) }

pub returns : goal.returns
unfolding blocked outcome_of memory_of step_of step_memory
returns c = record { result = rw (c.execute.ensures.result, ← c.decode.ensures, c.in-Some.is, ← c.is_blocked.ensures, c.if-is_blocked.false); memory = rw (c.execute.ensures.memory, ← c.decode.ensures, c.in-Some.is, ← c.is_blocked.ensures, c.if-is_blocked.false) }
