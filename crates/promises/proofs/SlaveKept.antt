-- Records that do not name the slave leave it alone.
use Rattle.std.specs.Prelude.{Option, Some, None}
use mathlib.Core.Path.{◌≡◌, refl, sym, ◌∙◌}
use mathlib.Core.Logic.{◌≢◌}
use mathlib.Core.List.{List}
use mathlib.Core.Bool.{Bool, true, false, true≢false}
use Prim.Native.Nat.{ℕ, ◌/◌, ◌%◌}
use lib.Dec.{eqb, ltb, leb}
use lib.ListN.{get_or}
use borrow.Author.Tests.{eqb-true}
use Rattle.bits.specs.Choice.{◌and◌, ◌or◌}
use Rattle.tape.specs.declared.Operation.{Operation}
use Rattle.tape.specs.declared.Operation.TheVariants.{Reset, Write, Read, Intp, Gates, Requests, SlaveIntp, Acknowledge, Advance, Cycle}
use Rattle.tape.specs.Records.{byte, unused, writable, readable, asked_if, lines_asked, pulse_count, decode_of}
use Rattle.timer.specs.Timer.{writes_of, reads_of}
use Rattle.dma.specs.Registers as DmaRegisters
use Rattle.board.specs.declared.Board.{Board}
use Rattle.board.specs.Operations.{Outcome, slave_shown, timer_written, timer_shown, dma_written, dma_shown, write_of, read_of, cycle_of}
use Rattle.board.specs.Advance.{advance_of}
use Rattle.board.specs.Step.{execute_of, blocked, outcome_of, answered_of, step_of}
use Rattle.tape.proofs.Decodes.{either, Decodes, malformed, reset, write, read, intp, gates, requests, slave_intp, acknowledge, advance, cycle, decodes}
use Rattle.promises.specs.OneChip.{names_slave}
use Rattle.promises.proofs.Logic.{or_first}
use Rattle.promises.proofs.Statuses.{writable_port}
use Rattle.promises.proofs.OneChip.{past_first, past_second, dma_left}

-- The slave's lines are asked for by group 3.
abbrev Grouped : List ℕ → Option Operation → Type 0
Grouped r None = Unit
Grouped r (Some Reset) = Unit
Grouped r (Some (Write p x)) = Unit
Grouped r (Some (Read p)) = Unit
Grouped r (Some (Intp l)) = Unit
Grouped r (Some (Gates l)) = Unit
Grouped r (Some (Requests l)) = Unit
Grouped r (Some (SlaveIntp l)) = eqb (byte r 1) 3 ≡ true
Grouped r (Some Acknowledge) = Unit
Grouped r (Some (Advance n)) = Unit
Grouped r (Some (Cycle e x y)) = Unit

module _ (r : List ℕ) where
  asked : (q : Bool) (o : Operation) → Grouped r (Some o) → Grouped r (asked_if q o)
  asked true o g = g
  asked false o g = tt

  lines_grouped : Grouped r (lines_asked (byte r 1) (byte r 2))
  unfolding lines_asked
  lines_grouped =
      either (Grouped r) (eqb (byte r 1) 0) (λ _. asked (eqb (byte r 2 % 2) 0) (Intp (byte r 2)) tt)
      (λ _. either (Grouped r) (eqb (byte r 1) 1) (λ _. asked (ltb (byte r 2) 8) (Gates (byte r 2)) tt)
      (λ _. either (Grouped r) (eqb (byte r 1) 2) (λ _. asked (ltb (byte r 2) 16) (Requests (byte r 2)) tt)
      (λ _. either (Grouped r) (eqb (byte r 1) 3) (λ g. g) (λ _. tt))))

  grouped : Grouped r (decode_of r)
  unfolding decode_of
  grouped =
      either (Grouped r) (eqb (byte r 0) 0) (λ _. asked (unused r 1 7) Reset tt)
      (λ _. either (Grouped r) (eqb (byte r 0) 1) (λ _. asked (unused r 3 5 and writable (byte r 1)) (Write (byte r 1) (byte r 2)) tt)
      (λ _. either (Grouped r) (eqb (byte r 0) 2) (λ _. asked (unused r 2 6 and readable (byte r 1)) (Read (byte r 1)) tt)
      (λ _. either (Grouped r) (eqb (byte r 0) 3) (λ _. either (Grouped r) (unused r 3 5) (λ _. lines_grouped) (λ _. tt))
      (λ _. either (Grouped r) (eqb (byte r 0) 4) (λ _. asked (unused r 1 7) Acknowledge tt)
      (λ _. either (Grouped r) (eqb (byte r 0) 5) (λ _. asked (unused r 1 3 and leb (pulse_count r) 65535) (Advance (pulse_count r)) tt)
      (λ _. either (Grouped r) (eqb (byte r 0) 6) (λ _. asked (unused r 4 4 and leb (byte r 1) 1) (Cycle (eqb (byte r 1) 1) (byte r 2) (byte r 3)) tt)
      (λ _. tt)))))))

module _ (b : Board) (r m : List ℕ) (names : names_slave r ≡ false) (no-reset : byte r 0 ≢ 0) (no-acknowledge : byte r 0 ≢ 4) where
  abbrev p : ℕ
  p = byte r 1

  abbrev x : ℕ
  x = byte r 2

  -- its ports are not written and not read, and its lines do not change
  other_port : (eqb (byte r 0) 1 or eqb (byte r 0) 2) ≡ true → (eqb p 48 or eqb p 49) ≡ false
  other_port o = past_first (eqb (byte r 0) 1 or eqb (byte r 0) 2) (eqb p 48 or eqb p 49) (eqb (byte r 0) 3 and eqb p 3) o names

  other_group : eqb (byte r 0) 3 ≡ true → eqb p 3 ≡ false
  other_group o = past_second ((eqb (byte r 0) 1 or eqb (byte r 0) 2) and (eqb p 48 or eqb p 49)) (eqb (byte r 0) 3) (eqb p 3) o names

  abbrev Leaves : Outcome → Type 0
  Leaves o = (o.board.slave ≡ b.slave) × (o.board.slaveintp ≡ b.slaveintp)

  left : (b.slave ≡ b.slave) × (b.slaveintp ≡ b.slaveintp)
  left = (refl, refl)

  leaves : (d : Option Operation) → Decodes r d → Grouped r d → Leaves (outcome_of b d m)
  unfolding outcome_of execute_of write_of read_of timer_written timer_shown dma_written dma_shown slave_shown advance_of cycle_of
  leaves d malformed g = left
  leaves d (reset o) g = absurd (no-reset (eqb-true (byte r 0) 0 o))
  leaves d (write o w) g =
      either Leaves (blocked b (Write p x)) (λ _. left)
      (λ _. either Leaves (eqb (p / 16) 0) (λ _. left)
      (λ z. either Leaves (eqb (p / 16) 1)
      (λ _. either Leaves (eqb (writes_of b.timer p x).status 0) (λ _. left) (λ _. left))
      (λ n. either Leaves (eqb (p / 16) 2)
      (λ _. either Leaves (eqb (DmaRegisters.write_of b.dma p x).status 0) (λ _. left) (λ _. left))
      (λ t. absurd (true≢false (sym (dma_left p (writable_port p w) (other_port (or_first (eqb (byte r 0) 1) (eqb (byte r 0) 2) o)) z n) ∙ t))))))
  leaves d (read o w) g =
      either Leaves (blocked b (Read p)) (λ _. left)
      (λ _. either Leaves (eqb (p / 16) 0) (λ _. left)
      (λ _. either Leaves (eqb (p / 16) 1)
      (λ _. either Leaves (eqb (reads_of b.timer p).status 0) (λ _. left) (λ _. left))
      (λ _. either Leaves (eqb (p / 16) 2)
      (λ _. either Leaves (eqb (DmaRegisters.read_of b.dma p).status 0) (λ _. left) (λ _. left))
      (λ _. left))))
  leaves d (intp o l) g = either Leaves (blocked b (Intp x)) (λ _. left) (λ _. left)
  leaves d (gates o l) g = either Leaves (blocked b (Gates x)) (λ _. left) (λ _. left)
  leaves d (requests o l) g = either Leaves (blocked b (Requests x)) (λ _. left) (λ _. left)
  leaves d (slave_intp o) g = absurd (true≢false (sym g ∙ other_group o))
  leaves d (acknowledge o) g = absurd (no-acknowledge (eqb-true (byte r 0) 4 o))
  leaves d (advance o l) g = either Leaves (blocked b (Advance (pulse_count r))) (λ _. left) (λ _. left)
  leaves d (cycle o) g = either Leaves (blocked b (Cycle (eqb p 1) x (byte r 3))) (λ _. left) (λ _. left)

-- The statement.
pub slave_kept : (b : Board) (r m : List ℕ) → names_slave r ≡ false → get_or r 0 0 ≢ 0 → get_or r 0 0 ≢ 4
    → ((step_of b r m).board.slave ≡ b.slave) × ((step_of b r m).board.slaveintp ≡ b.slaveintp)
unfolding step_of answered_of
slave_kept b r m names n0 n4 = leaves b r m names n0 n4 (decode_of r) (decodes r) (grouped r)
