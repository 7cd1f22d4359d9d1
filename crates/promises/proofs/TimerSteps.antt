-- What a record does to the timer.
use Rattle.tape.specs.declared.Operation.{Operation}
use Rattle.std.specs.Prelude.{Option}
use mathlib.Core.Path.{◌≡◌, refl, sym, ◌∙◌}
use mathlib.Core.List.{List}
use mathlib.Core.Bool.{true, true≢false}
use Prim.Native.Nat.{ℕ, ◌/◌, ◌≤◌, ◌<◌}
use native.Mathlib.Omega.{arith}
use lib.Dec.{eqb}
use lib.ListN.{get_or}
use borrow.Author.Tests.{eqb-true, leb-true, ltb-true}
use Rattle.tape.specs.declared.Operation.TheVariants.{Reset, Write, Read, Intp, Gates, Requests, SlaveIntp, Acknowledge, Advance, Cycle}
use Rattle.tape.specs.Records.{byte, pulse_count, decode_of}
use Rattle.tape.specs.Answers.{answer_of}
use Rattle.icu.specs.Words as IcuWords
use Rattle.cascade.specs.Cascade.{slave_iw3, answered, passed_on}
use Rattle.timer.specs.declared.Timer.{Timer}
use Rattle.timer.specs.Timer.{writes_of, reads_of, gates_of, resets_of}
use Rattle.dma.specs.Registers as DmaRegisters
use Rattle.board.specs.declared.Board.{Board}
use Rattle.board.specs.Operations.{Outcome, a0, slave_written, slave_shown, slave_gives, acknowledge_of, timer_written, timer_shown, dma_written, dma_shown, write_of, read_of, cycle_of}
use Rattle.board.specs.Wiring.{joined, lines}
use Rattle.board.specs.Advance.{advanced_of, advance_of}
use Rattle.board.specs.Step.{execute_of, blocked, outcome_of, answered_of, step_of}
use Rattle.tape.proofs.Decodes.{either, Decodes, malformed, reset, write, read, intp, gates, requests, slave_intp, acknowledge, advance, cycle, decodes}
use Rattle.promises.proofs.Statuses.{Port, of_icu, of_timer, of_dma, of_slave, writable_port, readable_port}

-- A record r that is answered with a status leaves the timer as it was; or resets it; or writes or reads one of its ports, taken; or sets its
-- gates; or pulses it.
pub data Timed (b : Board) (r : List ℕ) (status : ℕ) : Timer → Type 0 where
  stays : Timed b r status b.timer
  resets : byte r 0 ≡ 0 → status ≡ 0 → Timed b r status resets_of
  writes : byte r 0 ≡ 1 → 16 ≤ byte r 1 → byte r 1 < 20 → status ≡ 0 → Timed b r status (writes_of b.timer (byte r 1) (byte r 2)).timer
  reads : byte r 0 ≡ 2 → 16 ≤ byte r 1 → byte r 1 < 20 → status ≡ 0 → Timed b r status (reads_of b.timer (byte r 1)).timer
  sets : byte r 0 ≡ 3 → Timed b r status (gates_of b.timer (byte r 2))
  pulses : byte r 0 ≡ 5 → Timed b r status (advanced_of (joined b) b.timer b.icu (pulse_count r)).timer

-- An open port of the timer is 16 to 19.
timer_port : (p : ℕ) → Port p → eqb (p / 16) 1 ≡ true → (16 ≤ p) × (p < 20)
timer_port p (of_icu _ _ _ z) q = absurd (omega (arith, eqb-true (p / 16) 0 z, eqb-true (p / 16) 1 q))
timer_port p (of_timer _ l h _ _ _) q = (leb-true 16 p l, ltb-true p 20 h)
timer_port p (of_dma _ _ _ _ _ _ z _) q = absurd (true≢false (sym q ∙ z))
timer_port p (of_slave _ _ _ _ _ _ z _) q = absurd (true≢false (sym q ∙ z))

module _ (b : Board) (r m : List ℕ) where
  abbrev Does : Outcome → Type 0
  Does o = Timed b r o.status o.board.timer

  does : (x : Option Operation) → Decodes r x → Does (outcome_of b x m)
  unfolding outcome_of execute_of write_of read_of timer_written timer_shown dma_written dma_shown slave_written slave_shown slave_gives acknowledge_of advance_of cycle_of
  does x malformed = stays
  does x (reset o) = either Does (blocked b Reset) (λ _. stays) (λ _. resets (eqb-true (byte r 0) 0 o) refl)
  does x (write o p) =
      either Does (blocked b (Write (byte r 1) (byte r 2))) (λ _. stays)
      (λ _. either Does (eqb (byte r 1 / 16) 0) (λ _. stays)
      (λ _. either Does (eqb (byte r 1 / 16) 1)
      (λ q. either Does (eqb (writes_of b.timer (byte r 1) (byte r 2)).status 0)
      (λ _. let k = timer_port (byte r 1) (writable_port (byte r 1) p) q in writes (eqb-true (byte r 0) 1 o) k.0 k.1 refl)
      (λ _. stays))
      (λ _. either Does (eqb (byte r 1 / 16) 2)
      (λ _. either Does (eqb (DmaRegisters.write_of b.dma (byte r 1) (byte r 2)).status 0) (λ _. stays) (λ _. stays))
      (λ _. either Does (eqb (IcuWords.write_of b.slave slave_iw3 (a0 (byte r 1)) (byte r 2)).status 0) (λ _. stays) (λ _. stays)))))
  does x (read o p) =
      either Does (blocked b (Read (byte r 1))) (λ _. stays)
      (λ _. either Does (eqb (byte r 1 / 16) 0) (λ _. stays)
      (λ _. either Does (eqb (byte r 1 / 16) 1)
      (λ q. either Does (eqb (reads_of b.timer (byte r 1)).status 0)
      (λ _. let k = timer_port (byte r 1) (readable_port (byte r 1) p) q in reads (eqb-true (byte r 0) 2 o) k.0 k.1 refl)
      (λ _. stays))
      (λ _. either Does (eqb (byte r 1 / 16) 2)
      (λ _. either Does (eqb (DmaRegisters.read_of b.dma (byte r 1)).status 0) (λ _. stays) (λ _. stays))
      (λ _. stays))))
  does x (intp o l) = either Does (blocked b (Intp (byte r 2))) (λ _. stays) (λ _. stays)
  does x (gates o l) = either Does (blocked b (Gates (byte r 2))) (λ _. stays) (λ _. sets (eqb-true (byte r 0) 3 o))
  does x (requests o l) = either Does (blocked b (Requests (byte r 2))) (λ _. stays) (λ _. stays)
  does x (slave_intp o) = either Does (blocked b (SlaveIntp (byte r 2))) (λ _. stays) (λ _. stays)
  does x (acknowledge o) =
      either Does (blocked b Acknowledge) (λ _. stays)
      (λ _. either Does (passed_on b.icu (lines b) b.slave) (λ _. stays)
      (λ _. either Does (answered b.icu b.slave) (λ _. stays) (λ _. stays)))
  does x (advance o l) = either Does (blocked b (Advance (pulse_count r))) (λ _. stays) (λ _. pulses (eqb-true (byte r 0) 5 o))
  does x (cycle o) = either Does (blocked b (Cycle (eqb (byte r 1) 1) (byte r 2) (byte r 3))) (λ _. stays) (λ _. stays)

  pub timed : Timed b r (get_or (step_of b r m).answer 0 0) (step_of b r m).board.timer
  unfolding step_of answered_of answer_of
  timed = does (decode_of r) (decodes r)
