-- Every record leaves the board in its ranges.
use Rattle.tape.specs.declared.Operation.{Operation}
use Rattle.std.specs.Prelude.{Option}
use mathlib.Core.Path.{◌≡◌, refl}
use mathlib.Core.List.{List}
use mathlib.Core.Bool.{true}
use Prim.Native.Nat.{ℕ, zero, suc, ◌/◌, ◌<◌, ◌%◌}
use native.Mathlib.Omega.{arith}
use lib.Dec.{eqb}
use borrow.Author.Tests.{lt-ltb}
use Rattle.icu.specs.declared.Icu.{Icu}
use Rattle.icu.specs.Words as IcuWords
use Rattle.cascade.specs.Cascade.{slave_iw3, answered, passed_on}
use Rattle.timer.specs.declared.Timer.{Timer}
use Rattle.timer.specs.Timer.{writes_of, reads_of}
use Rattle.tape.specs.declared.Operation.TheVariants.{Reset, Write, Read, Intp, Gates, Requests, SlaveIntp, Acknowledge, Advance, Cycle}
use Rattle.tape.specs.Records.{byte, decode_of, pulse_count}
use Rattle.dma.specs.declared.Channel.{Channel}
use Rattle.dma.specs.declared.Dma.{Dma}
use Rattle.dma.specs.Fields.{chan}
use Rattle.dma.specs.Registers as DmaRegisters
use Rattle.board.specs.declared.Board.{Board}
use Rattle.board.specs.Operations.{Outcome, a0, slave_written, slave_shown, slave_gives, acknowledge_of, timer_written, timer_shown, dma_written, dma_shown, write_of, read_of, cycle_of}
use Rattle.board.specs.Wiring.{fresh_of, icu_is, intp_is, slave_is, timer_is, dma_is, joined, lines, followed}
use Rattle.board.specs.Advance.{tick_of, advanced_of, advance_of}
use Rattle.board.specs.Step.{execute_of, blocked, outcome_of, answered_of, step_of}
use Rattle.intake.specs.declared.Fed.{Fed}
use Rattle.board.specs.Records.{record_at, after}
use Rattle.intake.specs.Ranges.{channel_good, channels_good, dma_good}
use Rattle.intake.specs.Feed.{bytes_of, count_of, taken, fed_of}
use Rattle.tape.proofs.Decodes.{either, Decodes, malformed, reset, write, read, intp, gates, requests, slave_intp, acknowledge, advance, cycle, decodes}
use Rattle.promises.specs.Reached.{Reached, unfed, fed}
use Rattle.promises.proofs.Sound.{Good, Sound}
use Rattle.promises.proofs.IcuKept as the-icu
use Rattle.promises.proofs.TimerKept as the-timer

-- What holds of every board between two records.
pub record Held (b : Board) : Type 0 where
  pub intp : eqb (b.intp % 2) 0 ≡ true
  pub icu : the-icu.Fine b.icu
  pub slave : the-icu.Fine b.slave
  pub timer : the-timer.Fine b.timer

-- An advance.
advanced : (i : ℕ) (t : Timer) (c : Icu) (n : ℕ) → the-timer.Fine t → the-icu.Fine c
    → the-timer.Fine (advanced_of i t c n).timer × the-icu.Fine (advanced_of i t c n).icu
unfolding advanced_of tick_of
advanced i t c zero f g = (f, g)
advanced i t c (suc n) f g =
    let r = advanced_of i t c n in
    let k = advanced i t c n f g in
    (the-timer.pulses_fine r.timer k.0, the-icu.lines_fine r.icu k.1 _ _)

module _ (b : Board) (h : Held b) where
  abbrev P : Outcome → Type 0
  P o = Held o.board

  -- The master follows what became of the rest of the board.
  followed_held : (d : Board) → Held d → Held (followed b d)
  followed_held d k =
      record { intp = k.intp; icu = the-icu.lines_fine d.icu k.icu (lines b) (lines d); slave = k.slave; timer = k.timer }

  with_icu : {c : Icu} → the-icu.Fine c → Held (icu_is c b)
  with_icu f = record { intp = h.intp; icu = f; slave = h.slave; timer = h.timer }

  with_timer : {t : Timer} → the-timer.Fine t → Held (timer_is t b)
  with_timer f = record { intp = h.intp; icu = h.icu; slave = h.slave; timer = f }

  with_slave : {s : Icu} {x : ℕ} → the-icu.Fine s → Held (slave_is s x b)
  with_slave f = record { intp = h.intp; icu = h.icu; slave = f; timer = h.timer }

  unchanged : {d : Dma} → Held (dma_is d b)
  unchanged = record { intp = h.intp; icu = h.icu; slave = h.slave; timer = h.timer }

  write_held : (p x : ℕ) → P (write_of b p x)
  unfolding write_of timer_written dma_written slave_written
  write_held p x =
      either P (eqb (p / 16) 0) (λ _. with_icu (the-icu.write_fine b.icu h.icu 128 (a0 p) x))
      (λ _. either P (eqb (p / 16) 1)
      (λ _. either P (eqb (writes_of b.timer p x).status 0)
      (λ _. followed_held (timer_is (writes_of b.timer p x).timer b) (with_timer (the-timer.writes_fine b.timer h.timer p x)))
      (λ _. h))
      (λ _. either P (eqb (p / 16) 2)
      (λ _. either P (eqb (DmaRegisters.write_of b.dma p x).status 0) (λ _. unchanged) (λ _. h))
      (λ _. either P (eqb (IcuWords.write_of b.slave slave_iw3 (a0 p) x).status 0)
      (λ _. followed_held (slave_is (IcuWords.write_of b.slave slave_iw3 (a0 p) x).icu b.slaveintp b) (with_slave (the-icu.write_fine b.slave h.slave 7 (a0 p) x)))
      (λ _. h))))

  read_held : (p : ℕ) → P (read_of b p)
  unfolding read_of timer_shown dma_shown slave_shown
  read_held p =
      either P (eqb (p / 16) 0) (λ _. with_icu (the-icu.read_fine b.icu h.icu (a0 p) (lines b)))
      (λ _. either P (eqb (p / 16) 1)
      (λ _. either P (eqb (reads_of b.timer p).status 0) (λ _. with_timer (the-timer.reads_fine b.timer h.timer p)) (λ _. h))
      (λ _. either P (eqb (p / 16) 2)
      (λ _. either P (eqb (DmaRegisters.read_of b.dma p).status 0) (λ _. unchanged) (λ _. h))
      (λ _. h)))

  acknowledge_held : P (acknowledge_of b)
  unfolding acknowledge_of slave_gives
  acknowledge_held =
      either P (passed_on b.icu (lines b) b.slave)
      (λ _. followed_held _
      (record {
        intp = h.intp;
        icu = the-icu.served_fine b.icu h.icu 7 (omega arith);
        slave = the-icu.acknowledge_fine b.slave h.slave b.slaveintp;
        timer = h.timer;
      }))
      (λ _. either P (answered b.icu b.slave) (λ _. with_icu (the-icu.acknowledge_fine b.icu h.icu (lines b))) (λ _. h))

  module _ (r m : List ℕ) where
    execute_held : (x : Option Operation) → Decodes r x → P (outcome_of b x m)
    unfolding outcome_of execute_of advance_of cycle_of
    execute_held x malformed = h
    execute_held x (reset o) = either P (blocked b Reset) (λ _. h) (λ _. record { intp = refl; icu = the-icu.reset_fine; slave = the-icu.reset_fine; timer = the-timer.resets_fine })
    execute_held x (write o p) = either P (blocked b (Write (byte r 1) (byte r 2))) (λ _. h) (λ _. write_held (byte r 1) (byte r 2))
    execute_held x (read o p) = either P (blocked b (Read (byte r 1))) (λ _. h) (λ _. read_held (byte r 1))
    execute_held x (intp o l) = either P (blocked b (Intp (byte r 2))) (λ _. h) (λ _. followed_held (intp_is (byte r 2) b) (record { intp = l; icu = h.icu; slave = h.slave; timer = h.timer }))
    execute_held x (gates o l) =
        either P (blocked b (Gates (byte r 2))) (λ _. h)
        (λ _. followed_held _ (with_timer (the-timer.gates_fine b.timer h.timer (byte r 2))))
    execute_held x (requests o l) = either P (blocked b (Requests (byte r 2))) (λ _. h) (λ _. unchanged)
    execute_held x (slave_intp o) =
        either P (blocked b (SlaveIntp (byte r 2))) (λ _. h)
        (λ _. followed_held _ (with_slave (the-icu.lines_fine b.slave h.slave b.slaveintp (byte r 2))))
    execute_held x (acknowledge o) = either P (blocked b Acknowledge) (λ _. h) (λ _. acknowledge_held)
    execute_held x (advance o l) =
        either P (blocked b (Advance (pulse_count r))) (λ _. h)
        (λ _. let k = advanced (joined b) b.timer b.icu (pulse_count r) h.timer h.icu in
        record { intp = h.intp; icu = k.1; slave = h.slave; timer = k.0 })
    execute_held x (cycle o) =
        either P (blocked b (Cycle (eqb (byte r 1) 1) (byte r 2) (byte r 3))) (λ _. h) (λ _. unchanged)

    pub step_held : Held (step_of b r m).board
    unfolding step_of answered_of
    step_held = execute_held (decode_of r) (decodes r)

pub after_held : (b : Board) (m s : List ℕ) (n : ℕ) → Held b → Held (after b m s n).board
unfolding after
after_held b m s zero h = h
after_held b m s (suc n) h = step_held (after b m s n).board (after_held b m s n h) (record_at s n) (after b m s n).memory

pub fed_held : (b : Board) (t m : List ℕ) (room : ℕ) → Held b → Held (fed_of b t m room).board
unfolding fed_of
fed_held b t m room h =
    either (λ (f : Fed). Held f.board) (taken b t room)
    (λ _. let k = after_held b m (bytes_of b t) (count_of b t) h in record { intp = k.intp; icu = k.icu; slave = k.slave; timer = k.timer })
    (λ _. h)

pub reached_held : {b : Board} → Reached b → Held b
unfolding fresh_of
reached_held unfed = record { intp = refl; icu = the-icu.reset_fine; slave = the-icu.reset_fine; timer = the-timer.resets_fine }
reached_held (fed {b = b} t m room _ _ g) = fed_held b t m room (reached_held g)

-- At most seven bytes are kept.
pub fed_kept : (b : Board) (t m : List ℕ) (room : ℕ) → b.kept.length < 8 → (fed_of b t m room).board.kept.length < 8
unfolding fed_of
fed_kept b t m room h = either (λ (f : Fed). f.board.kept.length < 8) (taken b t room) (λ _. omega arith) (λ _. h)

pub reached_kept : {b : Board} → Reached b → b.kept.length < 8
unfolding fresh_of
reached_kept unfed = omega arith
reached_kept (fed {b = b} t m room _ _ g) = fed_kept b t m room (reached_kept g)

-- The DMA chip's ranges as they are tested.
channel_good_law : (c : Channel) → Good c → channel_good c ≡ true
unfolding channel_good
channel_good_law c g = rw (lt-ltb c.current.address 16777216 g.address, lt-ltb c.base.address 16777216 g.home, g.built)

pub sound_good : (d : Dma) → Sound d → dma_good d ≡ true
unfolding dma_good channels_good
sound_good d s =
    rw (
      lt-ltb d.selected 4 s.selected,
      lt-ltb d.first 4 s.first,
      lt-ltb d.channel 4 s.channel,
      lt-ltb d.requests 16 s.requests,
      lt-ltb d.ends 16 s.ends,
      channel_good_law (chan d 0) (s.good 0),
      channel_good_law (chan d 1) (s.good 1),
      channel_good_law (chan d 2) (s.good 2),
      channel_good_law (chan d 3) (s.good 3),
    )
