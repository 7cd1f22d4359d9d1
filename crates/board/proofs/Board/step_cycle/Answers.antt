use Rattle.board.specs.Step.{answered_of}
use Rattle.board.specs.Operations.{cycle_memory, cycle_of}
use Rattle.board.proofs.Board.step_cycle.Goals as goal

pub returns : goal.returns
unfolding cycle_of cycle_memory answered_of
returns c = record { result = rw (c.tell.ensures, c.payload.ensures, c.byte_moved.ensures, c.cycle-c.ensures.dma, c.cycle-c.ensures.report); memory = c.cycle-c.ensures.memory }
