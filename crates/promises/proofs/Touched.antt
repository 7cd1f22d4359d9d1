-- What a record can make of the DMA chip: a reset, a write or a read of its registers, other request lines, a bus cycle. Every other record leaves it.
use Rattle.std.specs.Prelude.{Option, Some, None}
use mathlib.Core.Path.{◌≡◌}
use mathlib.Core.List.{List}
use mathlib.Core.Bool.{true}
use Prim.Native.Nat.{ℕ, ◌/◌}
use lib.Dec.{eqb}
use Rattle.tape.specs.declared.Operation.{Operation}
use Rattle.tape.specs.declared.Operation.TheVariants.{Reset, Write, Read, Intp, Gates, Requests, SlaveIntp, Acknowledge, Advance, Cycle}
use Rattle.tape.specs.Records.{decode_of}
use Rattle.icu.specs.Words as IcuWords
use Rattle.cascade.specs.Cascade.{slave_iw3, answered, passed_on}
use Rattle.timer.specs.Timer.{writes_of, reads_of}
use Rattle.dma.specs.declared.Dma.{Dma}
use Rattle.dma.specs.Registers.{reset_of, requested_of, write_of, read_of}
use Rattle.dma.specs.Cycle.{cycle_of}
use Rattle.board.specs.declared.Board.{Board}
use Rattle.board.specs.Wiring.{lines}
use Rattle.board.specs.Operations as Operations
use Rattle.board.specs.Operations.{Outcome, a0, timer_written, timer_shown, dma_written, dma_shown, slave_written, slave_shown, slave_gives, acknowledge_of}
use Rattle.board.specs.Advance.{advance_of}
use Rattle.board.specs.Step.{execute_of, blocked, outcome_of, answered_of, step_of}
use Rattle.tape.proofs.Decodes.{either}

-- What has to hold of the chip d for P to hold of it after an operation, or after what a record decodes to.
abbrev pub On : (Dma → Type 0) → Dma → List ℕ → Operation → Type 0
On P d m Reset = P reset_of
On P d m (Write p x) = eqb (p / 16) 2 ≡ true → P (write_of d p x).dma
On P d m (Read p) = P (read_of d p).dma
On P d m (Intp l) = Unit
On P d m (Gates l) = Unit
On P d m (Requests l) = P (requested_of d l)
On P d m (SlaveIntp l) = Unit
On P d m Acknowledge = Unit
On P d m (Advance n) = Unit
On P d m (Cycle e x y) = P (cycle_of d e x y m).dma

abbrev pub OnAsked : (Dma → Type 0) → Dma → List ℕ → Option Operation → Type 0
OnAsked P d m None = Unit
OnAsked P d m (Some o) = On P d m o

module _ (P : Dma → Type 0) (b : Board) (m : List ℕ) (f : P b.dma) where
  abbrev Kept : Outcome → Type 0
  Kept o = P o.board.dma

  executed : (o : Operation) → On P b.dma m o → Kept (execute_of b o m)
  unfolding execute_of Operations.write_of Operations.read_of timer_written timer_shown dma_written dma_shown slave_written slave_shown slave_gives acknowledge_of advance_of Operations.cycle_of
  executed Reset h = h
  executed (Write p x) h =
      either Kept (eqb (p / 16) 0) (λ _. f)
      (λ _. either Kept (eqb (p / 16) 1)
      (λ _. either Kept (eqb (writes_of b.timer p x).status 0) (λ _. f) (λ _. f))
      (λ _. either Kept (eqb (p / 16) 2)
      (λ q. either Kept (eqb (write_of b.dma p x).status 0) (λ _. h q) (λ _. f))
      (λ _. either Kept (eqb (IcuWords.write_of b.slave slave_iw3 (a0 p) x).status 0) (λ _. f) (λ _. f))))
  executed (Read p) h =
      either Kept (eqb (p / 16) 0) (λ _. f)
      (λ _. either Kept (eqb (p / 16) 1)
      (λ _. either Kept (eqb (reads_of b.timer p).status 0) (λ _. f) (λ _. f))
      (λ _. either Kept (eqb (p / 16) 2)
      (λ _. either Kept (eqb (read_of b.dma p).status 0) (λ _. h) (λ _. f))
      (λ _. f)))
  executed (Intp l) h = f
  executed (Gates l) h = f
  executed (Requests l) h = h
  executed (SlaveIntp l) h = f
  executed Acknowledge h =
      either Kept (passed_on b.icu (lines b) b.slave) (λ _. f) (λ _. either Kept (answered b.icu b.slave) (λ _. f) (λ _. f))
  executed (Advance n) h = f
  executed (Cycle e x y) h = h

  outcome : (x : Option Operation) → OnAsked P b.dma m x → Kept (outcome_of b x m)
  unfolding outcome_of
  outcome None h = f
  outcome (Some o) h = either Kept (blocked b o) (λ _. f) (λ _. executed o h)

  pub touched : (r : List ℕ) → OnAsked P b.dma m (decode_of r) → P (step_of b r m).board.dma
  unfolding step_of answered_of
  touched r h = outcome (decode_of r) h

  -- What holds after each operation holds after each record.
  pub touched_by : ((o : Operation) → On P b.dma m o) → (r : List ℕ) → P (step_of b r m).board.dma
  touched_by h r = touched r (at (decode_of r))
    where
      at : (x : Option Operation) → OnAsked P b.dma m x
      at None = tt
      at (Some o) = h o
