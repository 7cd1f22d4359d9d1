-- Records of a write, a read and one pulse, as they are carried out.
use Rattle.tape.specs.declared.Operation.{Operation}
use Rattle.std.specs.Prelude.{Option, Some, None}
use mathlib.Core.Path.{◌≡◌, refl, sym, ap, ◌∙◌}
use mathlib.Core.Logic.{◌≢◌}
use mathlib.Core.List.{List}
use mathlib.Core.Bool.{Bool, true, false, true≢false}
use Prim.Native.Nat.{ℕ, zero, suc, ◌/◌, ◌%◌, ◌≤◌, ◌<◌}
use native.Mathlib.Omega.{arith}
use lib.Dec.{eqb}
use lib.ListN.{get_or}
use borrow.Author.Tests.{eq-eqb, ne_eqb, lt-ltb}
use Rattle.bits.specs.Choice.{◌and◌, every}
use Rattle.std.specs.Prelude.{if◌then◌else◌}
use Rattle.bits.specs.Bits.{bit_of, without_of}
use Rattle.bits.proofs.Every.{alike}
use Rattle.tape.specs.declared.Operation.TheVariants.{Write, Read}
use Rattle.tape.specs.Records.{byte, unused, writable, readable, lines_asked, pulse_count, decode_of}
use Rattle.tape.specs.Answers.{answer_of}
use Rattle.icu.specs.declared.Icu.{Icu}
use Rattle.icu.specs.Fields.{imr_is, isr_is}
use Rattle.icu.specs.Words as IcuWords
use Rattle.icu.specs.Words.{ready}
use Rattle.icu.specs.Requests.{irr_of}
use Rattle.icu.specs.Service as IcuService
use Rattle.cascade.specs.Cascade.{slave_iw3}
use Rattle.timer.specs.declared.Timer.{Timer}
use Rattle.timer.specs.Pulse.{pulse_of, gate_of}
use Rattle.timer.specs.Timer as Timers
use Rattle.timer.specs.Timer.{at, writes_of, reads_of}
use Rattle.dma.specs.Registers as DmaRegisters
use Rattle.board.specs.declared.Board.{Board}
use Rattle.board.specs.Operations.{Outcome, a0, done, refused, slave_written, slave_shown, timer_written, timer_shown, dma_written, dma_shown, write_of, read_of}
use Rattle.board.specs.Wiring.{icu_is, timer_is, lines, followed}
use Rattle.board.specs.Advance.{tick_of, advanced_of, advance_of}
use Rattle.board.specs.Step.{execute_of, blocked, outcome_of, answered_of, step_of}
use Rattle.tape.proofs.Decodes.{either}
use Rattle.promises.specs.Records.{writing, reading, setting, pulsing}
use Rattle.promises.specs.Words.{Highest}
use Rattle.promises.specs.TaughtWords.{value_of}
use Rattle.promises.proofs.TimerSteps.{Timed, stays, resets, writes, reads, sets, pulses, timed}
use Rattle.promises.proofs.Counters.{writes_value, reads_value, gates_value}
use Rattle.promises.proofs.Highest.{highest_is}

-- The bits of a finish command without a level: 001 in D7-D5, D4 and D3 clear.
clear_4 : (x : ℕ) → 32 ≤ x → x < 40 → bit_of x 4 ≡ false
unfolding bit_of
clear_4 x l h = ne_eqb (x / 16 % 2) 1 (omega arith)

clear_3 : (x : ℕ) → 32 ≤ x → x < 40 → bit_of x 3 ≡ false
unfolding bit_of
clear_3 x l h = ne_eqb (x / 8 % 2) 1 (omega arith)

-- RP and SIL clear, FI set
plain_finish : (x : ℕ) → 32 ≤ x → x < 40 → (bit_of x 7 ≡ false) × (bit_of x 6 ≡ false) × (bit_of x 5 ≡ true)
unfolding bit_of
plain_finish x l h =
    (ne_eqb (x / 128 % 2) 1 (omega arith), ne_eqb (x / 64 % 2) 1 (omega arith), eq-eqb (x / 32 % 2) 1 (omega arith))

module _ (b : Board) (m : List ℕ) where
  -- What a port leaves of the timer, the record leaves: it may go to another chip, or be refused, besides.
  module _ {A : Type 0} (f : Timer → A) where
    abbrev Same : Outcome → Type 0
    Same o = f o.board.timer ≡ f b.timer

    asks : (w : Bool) (x : Option Operation) → Same (outcome_of b x m) → Same (outcome_of b (if w then x else None) m)
    unfolding outcome_of
    asks true x h = h
    asks false x h = refl

    pub write_leaves : (p x : ℕ) → (eqb (p / 16) 1 ≡ true → f (writes_of b.timer p x).timer ≡ f b.timer)
        → f (step_of b (writing p x) m).board.timer ≡ f b.timer
    unfolding step_of answered_of decode_of unused outcome_of execute_of write_of timer_written dma_written slave_written
    write_leaves p x h =
        asks (writable p) (Some (Write p x))
        (either Same (blocked b (Write p x)) (λ _. refl)
        (λ _. either Same (eqb (p / 16) 0) (λ _. refl)
        (λ _. either Same (eqb (p / 16) 1)
        (λ q. either Same (eqb (writes_of b.timer p x).status 0) (λ _. h q) (λ _. refl))
        (λ _. either Same (eqb (p / 16) 2)
        (λ _. either Same (eqb (DmaRegisters.write_of b.dma p x).status 0) (λ _. refl) (λ _. refl))
        (λ _. either Same (eqb (IcuWords.write_of b.slave slave_iw3 (a0 p) x).status 0) (λ _. refl) (λ _. refl))))))

    pub read_leaves : (p : ℕ) → f (reads_of b.timer p).timer ≡ f b.timer → f (step_of b (reading p) m).board.timer ≡ f b.timer
    unfolding step_of answered_of decode_of unused outcome_of execute_of read_of timer_shown dma_shown slave_shown
    read_leaves p h =
        asks (readable p) (Some (Read p))
        (either Same (blocked b (Read p)) (λ _. refl)
        (λ _. either Same (eqb (p / 16) 0) (λ _. refl)
        (λ _. either Same (eqb (p / 16) 1)
        (λ _. either Same (eqb (reads_of b.timer p).status 0) (λ _. h) (λ _. refl))
        (λ _. either Same (eqb (p / 16) 2)
        (λ _. either Same (eqb (DmaRegisters.read_of b.dma p).status 0) (λ _. refl) (λ _. refl))
        (λ _. refl)))))

  -- Only a reset and an advance change a counter's value.
  module _ (n : ℕ) (low : n < 3) (r : List ℕ) (no-reset : byte r 0 ≢ 0) (no_pulse : byte r 0 ≢ 5) where
    by : (status : ℕ) (t : Timer) → Timed b r status t → value_of (at t n) ≡ value_of (at b.timer n)
    by status t stays = refl
    by status t (resets o _) = absurd (no-reset o)
    by status t (writes _ _ _ _) = writes_value b.timer n (byte r 1) (byte r 2)
    by status t (reads _ _ _ _) = reads_value b.timer n (byte r 1)
    by status t (sets _) = gates_value b.timer n low (byte r 2)
    by status t (pulses o) = absurd (no_pulse o)

    pub value_stays : value_of (at (step_of b r m).board.timer n) ≡ value_of (at b.timer n)
    value_stays = by _ _ (timed b r m)

  -- One pulse reaches each counter.
  pub pulsed : (step_of b pulsing m).board.timer ≡ Timers.pulses_of b.timer
  unfolding step_of answered_of decode_of unused pulse_count outcome_of execute_of blocked advance_of advanced_of tick_of
  pulsed = go b.dma.serving
    where
      go : (q : Bool) → (if q and false then refused 1 b else advance_of b 1).board.timer ≡ Timers.pulses_of b.timer
      go true = refl
      go false = refl

  -- So do the levels of the gates.
  pub gates_set : (l : ℕ) → l < 8 → (step_of b (setting 1 l) m).board.timer ≡ Timers.gates_of b.timer l
  unfolding step_of answered_of decode_of unused lines_asked outcome_of execute_of blocked
  gates_set l h = rw (lt-ltb l 8 h) (go b.dma.serving)
    where
      go : (q : Bool) → (if q and false then refused 1 b else done (followed b (timer_is (Timers.gates_of b.timer l) b))).board.timer ≡ Timers.gates_of b.timer l
      go true = refl
      go false = refl

  -- With the interrupt chip ready and the bus free, a write to it and a read of it are carried out.
  module _ (free : b.dma.serving ≡ false) (set : ready b.icu ≡ true) where
    pub mask_written : (x : ℕ) → (step_of b (writing 1 x) m).board ≡ icu_is (imr_is x b.icu) b
    unfolding step_of answered_of decode_of unused writable outcome_of execute_of blocked write_of IcuWords.write_of IcuWords.later_word
    mask_written x = rw (free, set)

    pub irr_read : b.icu.showsisr ≡ false → get_or (step_of b (reading 0) m).answer 2 0 ≡ irr_of b.icu (lines b)
    unfolding step_of answered_of answer_of decode_of unused readable outcome_of execute_of blocked read_of IcuService.read_of
    irr_read h = rw (free, set, h)

    pub finish_written : (x : ℕ) → 32 ≤ x → x < 40 → (step_of b (writing 0 x) m).board ≡ icu_is (IcuWords.finished b.icu false) b
    unfolding step_of answered_of decode_of unused writable outcome_of execute_of blocked write_of IcuWords.write_of IcuWords.pfcw
    finish_written x l h =
        let d4 : bit_of x 4 ≡ false = clear_4 x l h in
        let d3 : bit_of x 3 ≡ false = clear_3 x l h in
        let command = plain_finish x l h in
        rw (free, d4, set, d3, command.0, command.1, command.2)

    pub finish_status : (x : ℕ) → 32 ≤ x → x < 40 → get_or (step_of b (writing 0 x) m).answer 0 0 ≡ 0
    unfolding step_of answered_of answer_of decode_of unused writable outcome_of execute_of blocked write_of IcuWords.write_of
    finish_status x l h =
        let d4 : bit_of x 4 ≡ false = clear_4 x l h in
        let d3 : bit_of x 3 ≡ false = clear_3 x l h in
        rw (free, d4, set, d3)

-- Nothing in service, and something.
pub no_bit : (n : ℕ) → n < 8 → bit_of 0 n ≡ false
unfolding every bit_of
no_bit n h = alike (λ n. bit_of 0 n) (λ n. false) 8 tt n h

pub finished_is : (c : Icu) (n : ℕ) → c.lowest < 8 → Highest (λ k. bit_of c.isr k) c.lowest n
    → IcuWords.finished c false ≡ isr_is (without_of c.isr n) c
unfolding IcuWords.finished
finished_is c n l h =
    let z : eqb c.isr 0 ≡ false = ne_eqb c.isr 0 (λ e. true≢false (sym h.chosen ∙ ap (λ (x : ℕ). bit_of x n) e ∙ no_bit n h.level)) in
    rw (z, highest_is c.isr c.lowest n l h)

pub finished_none : (c : Icu) → c.isr ≡ 0 → IcuWords.finished c false ≡ c
unfolding IcuWords.finished
finished_none c e = rw (eq-eqb c.isr 0 e)

-- A pulse and the gates reach each counter by itself.
pub pulse_at : (t : Timer) (n : ℕ) → n < 3 → at (Timers.pulses_of t) n ≡ pulse_of (at t n)
unfolding Timers.pulses_of
pulse_at t zero h = refl
pulse_at t (suc zero) h = refl
pulse_at t (suc (suc zero)) h = refl
pulse_at t (suc (suc (suc n))) h = absurd (omega arith)

pub gate_at : (t : Timer) (n : ℕ) → n < 3 → (l : ℕ) → at (Timers.gates_of t l) n ≡ gate_of (at t n) (bit_of l n)
unfolding Timers.gates_of
gate_at t zero h l = refl
gate_at t (suc zero) h l = refl
gate_at t (suc (suc zero)) h l = refl
gate_at t (suc (suc (suc n))) h l = absurd (omega arith)

-- No write changes a counter's value.
pub loads_nothing : (b : Board) (m : List ℕ) (p x n : ℕ) → (at (step_of b (writing p x) m).board.timer n).value ≡ (at b.timer n).value
unfolding value_of
loads_nothing b m p x n = write_leaves b m (λ (t : Timer). value_of (at t n)) p x (λ _. writes_value b.timer n p x)
