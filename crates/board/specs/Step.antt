-- One record.
use Rattle.std.specs.Prelude.{ℕ, Bool, List, if◌then◌else◌, Option, Some, None}
use Rattle.bits.specs.Choice.{◌and◌}
use Rattle.tape.specs.declared.Operation.{Operation}
use Rattle.tape.specs.declared.Operation.TheVariants.{Reset, Write, Read, Intp, Gates, Requests, SlaveIntp, Acknowledge, Advance, Cycle}
use Rattle.tape.specs.Records.{byte, decode_of, uses_bus}
use Rattle.tape.specs.Answers.{answer_of}
use Rattle.timer.specs.Timer.{gates_of}
use Rattle.dma.specs.Registers.{requested_of}
use Rattle.board.specs.declared.Board.{Board}
use Rattle.board.specs.declared.Stepped.{Stepped}
use Rattle.board.specs.Wiring.{intp_is, timer_is, dma_is, reset_of, followed, levels_of}
use Rattle.board.specs.Operations.{Outcome, done, refused, slave_lines, acknowledge_of, write_of, read_of, cycle_of, cycle_memory}
use Rattle.board.specs.Advance.{advance_of}

-- An operation that is carried out. Lines that change do so all at once.
unfoldable pub execute_of : Board → Operation → List ℕ → Outcome
execute_of b Reset m = done (reset_of b)
execute_of b (Write p x) m = write_of b p x
execute_of b (Read p) m = read_of b p
execute_of b (Intp levels) m = done (followed b (intp_is levels b))
execute_of b (Gates levels) m = done (followed b (timer_is (gates_of b.timer levels) b))
execute_of b (Requests levels) m = done (dma_is (requested_of b.dma levels) b)
execute_of b (SlaveIntp levels) m = done (followed b (slave_lines b levels))
execute_of b Acknowledge m = acknowledge_of b
execute_of b (Advance n) m = advance_of b n
execute_of b (Cycle end x y) m = cycle_of b end x y m

-- No operation but a DMA cycle touches the memory.
unfoldable pub memory_after : Board → Operation → List ℕ → List ℕ
memory_after b (Cycle end x y) m = cycle_memory b end x y m
memory_after b Reset m = m
memory_after b (Write p x) m = m
memory_after b (Read p) m = m
memory_after b (Intp levels) m = m
memory_after b (Gates levels) m = m
memory_after b (Requests levels) m = m
memory_after b (SlaveIntp levels) m = m
memory_after b Acknowledge m = m
memory_after b (Advance n) m = m

-- Status 1: the operation needs the bus while DMA serves a channel.
unfoldable pub blocked : Board → Operation → Bool
blocked b o = b.dma.serving and uses_bus o

-- The order of the checks: 2 by the record's bytes alone, then 1, then what the operation itself refuses.
unfoldable pub outcome_of : Board → Option Operation → List ℕ → Outcome
outcome_of b None m = refused 2 b
outcome_of b (Some o) m = if blocked b o then refused 1 b else execute_of b o m

unfoldable pub memory_of : Board → Option Operation → List ℕ → List ℕ
memory_of b None m = m
memory_of b (Some o) m = if blocked b o then m else memory_after b o m

-- The board and the answer. The levels are those after the record.
unfoldable pub answered_of : ℕ → Outcome → Stepped
answered_of op o =
    record {
      board = o.board;
      answer = answer_of o.status op o.byte (levels_of o.board) o.payload;
    }

unfoldable pub step_of : Board → List ℕ → List ℕ → Stepped
step_of b r m = answered_of (byte r 0) (outcome_of b (decode_of r) m)

unfoldable pub step_memory : Board → List ℕ → List ℕ → List ℕ
step_memory b r m = memory_of b (decode_of r) m
