-- Registers 0 and A of the DMA chip, with the bus free.
use mathlib.Core.Path.{◌≡◌, refl, sym, ap, ◌∙◌}
use mathlib.Core.List.{List}
use mathlib.Core.Bool.{Bool, true, false, not}
use Prim.Native.Nat.{ℕ, ◌/◌, ◌%◌}
use native.Mathlib.Omega.{arith}
use lib.Dec.{eqb}
use lib.ListN.{get_or, set}
use borrow.Author.Tests.{eq-eqb, ne_eqb}
use Rattle.bits.specs.Choice.{◌and◌}
use Rattle.std.specs.Prelude.{if◌then◌else◌}
use Rattle.bits.specs.Bits.{bit_of}
use Rattle.tape.specs.Records.{unused, writable, readable, decode_of}
use Rattle.tape.specs.Answers.{answer_of}
use Rattle.dma.specs.declared.Dma.{Dma}
use Rattle.dma.specs.Answers.{Written}
use Rattle.dma.specs.Fields.{mode_is, selected, channels_are, wide_is, requests_are}
use Rattle.dma.specs.Registers as Registers
use Rattle.board.specs.declared.Board.{Board}
use Rattle.board.specs.declared.Stepped.{Stepped}
use Rattle.board.specs.Wiring.{fresh_of, dma_is}
use Rattle.board.specs.Operations.{Outcome, done, refused, dma_written, dma_shown, write_of, read_of}
use Rattle.board.specs.Step.{execute_of, blocked, outcome_of, answered_of, step_of}
use Rattle.promises.specs.Records.{writing, reading}

-- D0, by itself.
set_0 : (x : ℕ) → x % 2 ≡ 1 → bit_of x 0 ≡ true
unfolding bit_of
set_0 x h = eq-eqb (x / 1 % 2) 1 (omega (arith, h))

clear_0 : (x : ℕ) → x % 2 ≡ 0 → bit_of x 0 ≡ false
unfolding bit_of
clear_0 x h = ne_eqb (x / 1 % 2) 1 (omega (arith, h))

module _ (b : Board) (m : List ℕ) (x : ℕ) (free : b.dma.serving ≡ false) where
  abbrev told : Written → Outcome
  told w = if eqb w.status 0 then done (dma_is w.dma b) else refused w.status b

  abbrev outcome : Written → Stepped
  outcome w = answered_of 1 (told w)

  -- A write that is refused with 4 or taken: if its answer has 0, it was taken.
  by_status : (q : Bool) (e : Dma) → get_or (outcome (if q then Registers.refused 4 b.dma else Registers.taken e)).answer 0 0 ≡ 0
      → (outcome (if q then Registers.refused 4 b.dma else Registers.taken e)).board.dma ≡ e
  unfolding answered_of answer_of
  by_status true e z = absurd (omega (arith, z))
  by_status false e z = refl

  written : step_of b (writing 32 x) m ≡ outcome (Registers.initialized_of b.dma x)
  unfolding step_of decode_of unused writable outcome_of execute_of blocked write_of dma_written Registers.write_of
  written = rw free

  mode_written : step_of b (writing 42 x) m ≡ outcome (Registers.moded_of b.dma x)
  unfolding step_of decode_of unused writable outcome_of execute_of blocked write_of dma_written Registers.write_of
  mode_written = rw free

  pub bus_reset : x % 2 ≡ 1 → (step_of b (writing 32 x) m).board.dma ≡ wide_is (bit_of x 1) (requests_are b.dma.requests fresh_of.dma)
  unfolding answered_of Registers.initialized_of fresh_of
  bus_reset h = ap (λ (s : Stepped). s.board.dma) written ∙ rw (set_0 x h)

  pub bus_set : x % 2 ≡ 0 → get_or (step_of b (writing 32 x) m).answer 0 0 ≡ 0 → (step_of b (writing 32 x) m).board.dma ≡ wide_is (bit_of x 1) b.dma
  unfolding Registers.initialized_of
  bus_set h z =
      ap (λ (s : Stepped). s.board.dma) written
      ∙ rw (clear_0 x h)
      (by_status (not (bit_of x 1) and Registers.any_words b.dma) (wide_is (bit_of x 1) b.dma) (sym (ap (λ (s : Stepped). get_or s.answer 0 0) written ∙ rw (clear_0 x h)) ∙ z))

  pub mode_set : get_or (step_of b (writing 42 x) m).answer 0 0 ≡ 0
      → (step_of b (writing 42 x) m).board.dma ≡ channels_are (set b.dma.channels b.dma.selected (mode_is x (selected b.dma))) b.dma
  unfolding Registers.moded_of
  mode_set z =
      ap (λ (s : Stepped). s.board.dma) mode_written
      ∙ by_status (Registers.refuses_mode b.dma x) (Registers.chosen (mode_is x (selected b.dma)) b.dma) (sym (ap (λ (s : Stepped). get_or s.answer 0 0) mode_written) ∙ z)

pub mode_shown : (b : Board) (m : List ℕ) → b.dma.serving ≡ false → get_or (step_of b (reading 42) m).answer 2 0 ≡ (selected b.dma).mode
unfolding step_of decode_of unused readable outcome_of execute_of blocked read_of dma_shown Registers.read_of answered_of answer_of
mode_shown b m free = rw free

pub fresh_narrow : fresh_of.dma.wide ≡ false
unfolding fresh_of Registers.reset_of
fresh_narrow = refl
