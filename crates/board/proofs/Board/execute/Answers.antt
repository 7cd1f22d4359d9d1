use Rattle.board.specs.Step.{execute_of, memory_after}
use Rattle.board.proofs.Board.execute.Goals as goal

pub returns-in-Reset : goal.returns-in-Reset
unfolding execute_of memory_after
returns-in-Reset c = record { result = rw (c.step_reset.ensures, c.in-Reset.is); memory = rw c.in-Reset.is }

pub returns-in-Write : goal.returns-in-Write
unfolding execute_of memory_after
returns-in-Write c = record { result = rw (c.step_write.ensures, c.in-Write.is); memory = rw c.in-Write.is }

pub returns-in-Read : goal.returns-in-Read
unfolding execute_of memory_after
returns-in-Read c = record { result = rw (c.step_read.ensures, c.in-Read.is); memory = rw c.in-Read.is }

pub returns-in-Intp : goal.returns-in-Intp
unfolding execute_of memory_after
returns-in-Intp c = record { result = rw (c.step_intp.ensures, c.in-Intp.is); memory = rw c.in-Intp.is }

pub returns-in-Gates : goal.returns-in-Gates
unfolding execute_of memory_after
returns-in-Gates c = record { result = rw (c.step_gates.ensures, c.in-Gates.is); memory = rw c.in-Gates.is }

pub returns-in-Requests : goal.returns-in-Requests
unfolding execute_of memory_after
returns-in-Requests c = record { result = rw (c.step_requests.ensures, c.in-Requests.is); memory = rw c.in-Requests.is }

pub returns-in-SlaveIntp : goal.returns-in-SlaveIntp
unfolding execute_of memory_after
returns-in-SlaveIntp c = record { result = rw (c.step_slave_intp.ensures, c.in-SlaveIntp.is); memory = rw c.in-SlaveIntp.is }

pub returns-in-Acknowledge : goal.returns-in-Acknowledge
unfolding execute_of memory_after
returns-in-Acknowledge c = record { result = rw (c.step_acknowledge.ensures, c.in-Acknowledge.is); memory = rw c.in-Acknowledge.is }

pub returns-in-Advance : goal.returns-in-Advance
unfolding execute_of memory_after
returns-in-Advance c = record { result = rw (c.step_advance.ensures, c.in-Advance.is); memory = rw c.in-Advance.is }

pub returns-in-Cycle : goal.returns-in-Cycle
unfolding execute_of memory_after
returns-in-Cycle c = record { result = rw (c.step_cycle.ensures.result, c.in-Cycle.is); memory = rw (c.step_cycle.ensures.memory, c.in-Cycle.is) }
