-- One record of a tape, seen from the DMA chip.
use Rattle.std.specs.Prelude.{Option, Some}
use mathlib.Core.Path.{◌≡◌, refl, sym, ap, ap₂, ◌∙◌}
use mathlib.Core.Logic.{◌≢◌}
use mathlib.Core.List.{List}
use mathlib.Core.Bool.{Bool, true, false, not, true≢false, false≢true}
use Prim.Native.Nat.{ℕ, zero, suc, ◌+◌, ◌*◌, ◌/◌, ◌<◌, ◌%◌}
use native.Mathlib.Omega.{arith}
use lib.Dec.{eqb, ltb, leb}
use lib.ListN.{get_or, length}
use borrow.Author.Tests.{eqb-true, eqb-false, lt-ltb, le-leb}
use Rattle.bits.specs.Choice.{◌and◌, ◌or◌}
use Rattle.std.specs.Prelude.{if◌then◌else◌}
use Rattle.tape.specs.declared.Operation.{Operation}
use Rattle.tape.specs.declared.Operation.TheVariants.{Reset, Write, Read, Intp, Gates, Requests, SlaveIntp, Acknowledge, Advance, Cycle}
use Rattle.tape.specs.Records.{byte, dma_port, decode_of, pulse_count}
use Rattle.tape.specs.Answers.{twelve, answer_of}
use Rattle.icu.specs.Words as IcuWords
use Rattle.cascade.specs.Cascade.{slave_iw3, answered, passed_on}
use Rattle.timer.specs.Timer.{writes_of, reads_of}
use Rattle.dma.specs.declared.Dma.{Dma}
use Rattle.dma.specs.Answers.{Got}
use Rattle.dma.specs.Fields.{chan, served, word}
use Rattle.dma.specs.Registers as DmaRegisters
use Rattle.dma.specs.Report.{Told}
use Rattle.dma.specs.Cycle.{writes, reads, size_of, start_of, peek_of, poke_of, byte_of, single, ready, channel_at, winner_from, winner, last_of, releases, nothing_of, granted_of, released_of, unit_of, cycle_by}
use Rattle.dma.specs.Cycle as DmaCycle
use Rattle.board.specs.declared.Board.{Board}
use Rattle.board.specs.Operations.{Outcome, refused, icu_told, icu_written, a0, payload_of, timer_written, timer_shown, dma_written, dma_shown, slave_written, slave_shown, slave_gives, acknowledge_of, write_of, read_of, cycle_of, cycle_memory}
use Rattle.board.specs.Wiring.{levels_of, lines}
use Rattle.board.specs.Advance.{advance_of}
use Rattle.board.specs.Step.{execute_of, memory_after, blocked, outcome_of, memory_of, answered_of, step_of, step_memory}
use Rattle.tape.proofs.Decodes.{either, Decodes, malformed, reset, write, read, intp, gates, requests, slave_intp, acknowledge, advance, cycle, decodes}
use Rattle.promises.specs.Words.{disturbs}
use Rattle.promises.proofs.Sound.{Sound, cycle_sound, requests_sound, read_sound, write_sound, reset_sound}
use Rattle.promises.proofs.Seen.{Seen, still, unit, same, Serves, starts}
use Rattle.promises.proofs.Touched.{On, touched_by}

-- A bus cycle and its answer.
unmasked : (x y : Bool) → (if x then false else y) ≡ true → x ≡ false
unmasked true y h = absurd (false≢true h)
unmasked false y h = refl

is_ready : (d : Dma) (n : ℕ) → ready d n ≡ true → (chan d n).masked ≡ false
unfolding ready
is_ready d n h = unmasked _ _ h

won : (d : Dma) (k left : ℕ) → eqb (winner_from d k left) 4 ≡ false → Serves d (winner_from d k left)
unfolding winner_from
won d k zero h = absurd (true≢false h)
won d k (suc left) h = at (ready d (channel_at d k)) refl (won d (suc k) left) h
  where
    at : (q : Bool)
        → ready d (channel_at d k) ≡ q
        → (eqb (winner_from d (suc k) left) 4 ≡ false → Serves d (winner_from d (suc k) left))
        → eqb (if q then channel_at d k else winner_from d (suc k) left) 4 ≡ false
        → Serves d (if q then channel_at d k else winner_from d (suc k) left)
    at true q ih h = starts (is_ready d _ q)
    at false q ih h = ih h

pub joined : (a : ℕ) → a < 16777216 → a % 256 + a / 256 % 256 * 256 + a / 65536 % 256 * 65536 + a / 16777216 % 256 * 16777216 ≡ a
joined a h = omega arith

abbrev pub cycle_answer : ℕ → Told → List ℕ
cycle_answer l t = answer_of 0 6 t.byte l (twelve (payload_of t))

seen_cycle : (d : Dma) (m : List ℕ) (e : Bool) (x y l : ℕ) → Sound d
    → Seen d m (DmaCycle.cycle_of d e x y m).dma (DmaCycle.cycle_of d e x y m).memory (cycle_answer l (DmaCycle.cycle_of d e x y m).report)
unfolding DmaCycle.cycle_of nothing_of granted_of released_of unit_of answer_of
seen_cycle d m e x y l s = at d.serving (releases d) d.disabled (eqb (winner d) 4) refl refl
  where
    p : ℕ
    p = (served d).current.address

    stored : Bool → Bool → ℕ → ℕ → List ℕ
    stored k v b u =
        if ltb 1 (size_of k) and v then
        poke_of (if ltb 0 (size_of k) and v then poke_of m (start_of (size_of k) p + 0) b else m) (start_of (size_of k) p + 1) u
        else if ltb 0 (size_of k) and v then poke_of m (start_of (size_of k) p + 0) b
        else m

    -- what a unit leaves in memory is what its answer tells
    told_bytes : DmaCycle.memory_of (served d) m x y ≡ DmaCycle.memory_of (served d) m (byte_of (served d) m 0 x) (byte_of (served d) m 1 y)
    told_bytes = by (word (served d)) (writes (served d))
      where
        by : (k v : Bool)
            → stored k v x y
            ≡ stored k v (if ltb 0 (size_of k) then (if v then x else if reads (served d) then peek_of m (start_of (size_of k) p + 0) else 0) else 0) (if ltb 1 (size_of k) then (if v then y else if reads (served d) then peek_of m (start_of (size_of k) p + 1) else 0) else 0)
        by true true = refl
        by true false = refl
        by false true = refl
        by false false = refl

    more_of : (z k : Bool) → eqb (served d).current.count 0 ≡ z → (z or k) ≡ false → (served d).current.count ≢ 0
    more_of true k q h = absurd (true≢false h)
    more_of false k q h = eqb-false _ _ q

    on_of : (z k : Bool) → not (z or k) ≡ true → (z ≡ false) × (d.channel ≡ (if z or k then 0 else d.channel))
    on_of true k h = absurd (false≢true h)
    on_of false true h = absurd (false≢true h)
    on_of false false h = (refl, refl)

    at : (v r k w : Bool) → d.serving ≡ v → eqb (winner d) 4 ≡ w
        → Seen d m (cycle_by d e x y m v r k w).dma (cycle_by d e x y m v r k w).memory (cycle_answer l (cycle_by d e x y m v r k w).report)
    at true true k w v q = still refl refl refl (λ h. absurd (false≢true h))
    at true false k w v q =
        unit (last_of (served d) e) v (more_of (eqb (served d).current.count 0) e refl) refl told_bytes refl refl
        (joined p (s.good d.channel).address)
        (on_of (last_of (served d) e) (single (served d)))
    at false r true w v q = same refl refl refl refl refl
    at false r false true v q = same refl refl refl refl refl
    at false r false false v q = still refl refl refl (λ h. won d 0 4 q)

-- A port of the DMA chip, by its high digit.
port_of : (p : ℕ) → eqb (p / 16) 2 ≡ true → dma_port p ≡ true
port_of p h = let e = eqb-true (p / 16) 2 h in rw (le-leb 32 p (omega arith), lt-ltb p 48 (omega arith)) refl

-- Channels and service are as they were. (A record: three equations side by side, carried through a chain of cases, are dear to check.)
record Unmoved (d e : Dma) : Type 0 where
  channels : e.channels ≡ d.channels
  serving : e.serving ≡ d.serving
  channel : e.channel ≡ d.channel

as_it_was : {d e : Dma} → e.channels ≡ d.channels → e.serving ≡ d.serving → e.channel ≡ d.channel → Unmoved d e
as_it_was a b c = record { channels = a; serving = b; channel = c }

-- A read of a register leaves them.
read_still : (d : Dma) (p : ℕ) → Unmoved d (DmaRegisters.read_of d p).dma
unfolding DmaRegisters.read_of
read_still d p =
    either P (eqb n 0) (λ _. as_it_was refl refl refl)
    (λ _. either P (eqb n 1) (λ _. as_it_was refl refl refl)
    (λ _. either P (leb n 6) (λ _. as_it_was refl refl refl)
    (λ _. either P (eqb n 7) (λ _. as_it_was refl refl refl)
    (λ _. either P (eqb n 8) (λ _. as_it_was refl refl refl)
    (λ _. either P (eqb n 9) (λ _. as_it_was refl refl refl)
    (λ _. either P (eqb n 10) (λ _. as_it_was refl refl refl)
    (λ _. either P (eqb n 11) (λ _. as_it_was refl refl refl)
    (λ _. either P (ltb n 15) (λ _. as_it_was refl refl refl) (λ _. as_it_was refl refl refl)))))))))
  where
    n : ℕ
    n = p % 16

    P : Got → Type 0
    P g = Unmoved d g.dma

module _ (b : Board) (r m : List ℕ) where
  abbrev told : Outcome → List ℕ
  told o = answer_of o.status (byte r 0) o.byte (levels_of o.board) o.payload

  abbrev Fine : Outcome → List ℕ → Type 0
  Fine o l = disturbs r (told o) ≡ false → Seen b.dma m o.board.dma l (told o)

  abbrev Stays : Outcome → Type 0
  Stays o = Unmoved b.dma o.board.dma

  timer_write : (p x : ℕ) → Stays (timer_written b p x)
  unfolding timer_written
  timer_write p x = either Stays (eqb (writes_of b.timer p x).status 0) (λ _. as_it_was refl refl refl) (λ _. as_it_was refl refl refl)

  -- What goes to the slave, and an acknowledge, never reach the DMA chip.
  slave_write : (k : Bool) (x : ℕ) → Stays (slave_written b k x)
  unfolding slave_written
  slave_write k x =
      either Stays (eqb (IcuWords.write_of b.slave slave_iw3 k x).status 0) (λ _. as_it_was refl refl refl) (λ _. as_it_was refl refl refl)

  acknowledges : Stays (acknowledge_of b)
  unfolding acknowledge_of slave_gives
  acknowledges =
      either Stays (passed_on b.icu (lines b) b.slave) (λ _. as_it_was refl refl refl)
      (λ _. either Stays (answered b.icu b.slave) (λ _. as_it_was refl refl refl) (λ _. as_it_was refl refl refl))

  any_read : (p : ℕ) → Stays (read_of b p)
  unfolding read_of timer_shown dma_shown slave_shown
  any_read p =
      either Stays (eqb (p / 16) 0) (λ _. as_it_was refl refl refl)
      (λ _. either Stays (eqb (p / 16) 1)
      (λ _. either Stays (eqb (reads_of b.timer p).status 0) (λ _. as_it_was refl refl refl) (λ _. as_it_was refl refl refl))
      (λ _. either Stays (eqb (p / 16) 2)
      (λ _. either Stays (eqb (DmaRegisters.read_of b.dma p).status 0) (λ _. read_still b.dma p) (λ _. as_it_was refl refl refl))
      (λ _. as_it_was refl refl refl)))

  -- An operation other than a cycle that leaves channels and service as they are: its answer reports no unit.
  plain : (n : ℕ) (o : Outcome)
      → eqb (byte r 0) n ≡ true
      → eqb n 6 ≡ false
      → Stays o
      → Fine o m
  unfolding answer_of
  plain n o h k u c = same u.channels u.serving u.channel refl (at (eqb o.status 0) (rw (eqb-true (byte r 0) n h) k))
    where
      at : (u : Bool) → eqb (byte r 0) 6 ≡ false → (u and eqb (byte r 0) 6 and eqb (get_or o.payload 0 0) 2) ≡ false
      at true q = rw q
      at false q = refl

  -- A record that needs the bus while a channel is served changes nothing.
  held : (o : Operation) → Fine (execute_of b o m) (memory_after b o m) → Fine (outcome_of b (Some o) m) (memory_of b (Some o) m)
  unfolding outcome_of memory_of answer_of
  held o f = at (blocked b o)
    where
      at : (q : Bool) → Fine (if q then refused 1 b else execute_of b o m) (if q then m else memory_after b o m)
      at true = λ c. same refl refl refl refl refl
      at false = f

  -- A write to the DMA chip that is accepted disturbs it; one that is refused leaves it.
  dma_write : eqb (byte r 0) 1 ≡ true → dma_port (byte r 1) ≡ true → Fine (dma_written b (byte r 1) (byte r 2)) m
  unfolding dma_written answer_of
  dma_write o p =
      either (λ (x : Outcome). Fine x m) (eqb (DmaRegisters.write_of b.dma (byte r 1) (byte r 2)).status 0)
      (λ _ c. absurd (true≢false (sym (ap₂ (λ (u v : Bool). eqb (byte r 0) 0 or (u and v)) o p ∙ at (eqb (byte r 0) 0)) ∙ c)))
      (λ _. plain 1 (refused (DmaRegisters.write_of b.dma (byte r 1) (byte r 2)).status b) o refl (as_it_was refl refl refl))
    where
      at : (u : Bool) → (u or true) ≡ true
      at true = refl
      at false = refl

  by : (x : Option Operation) → Sound b.dma → Decodes r x → Fine (outcome_of b x m) (memory_of b x m)
  unfolding outcome_of memory_of execute_of memory_after answer_of write_of advance_of DmaRegisters.requested_of cycle_of cycle_memory
  by x s malformed = λ c. same refl refl refl refl refl
  by x s (reset o) = held Reset (λ c. absurd (true≢false (sym (ap (λ (u : Bool). u or (eqb (byte r 0) 1 and dma_port (byte r 1))) o) ∙ c)))
  by x s (write o p) =
      held (Write (byte r 1) (byte r 2))
      (either (λ (y : Outcome). Fine y m) (eqb (byte r 1 / 16) 0) (λ _. plain 1 (icu_told b (icu_written b (a0 (byte r 1)) (byte r 2))) o refl (as_it_was refl refl refl))
      (λ _. either (λ (y : Outcome). Fine y m) (eqb (byte r 1 / 16) 1)
      (λ _. plain 1 (timer_written b (byte r 1) (byte r 2)) o refl (timer_write (byte r 1) (byte r 2)))
      (λ _. either (λ (y : Outcome). Fine y m) (eqb (byte r 1 / 16) 2)
      (λ d. dma_write o (port_of (byte r 1) d))
      (λ _. plain 1 (slave_written b (a0 (byte r 1)) (byte r 2)) o refl (slave_write (a0 (byte r 1)) (byte r 2))))))
  by x s (read o p) = held (Read (byte r 1)) (plain 2 (read_of b (byte r 1)) o refl (any_read (byte r 1)))
  by x s (intp o l) = held (Intp (byte r 2)) (plain 3 (execute_of b (Intp (byte r 2)) m) o refl (as_it_was refl refl refl))
  by x s (gates o l) = held (Gates (byte r 2)) (plain 3 (execute_of b (Gates (byte r 2)) m) o refl (as_it_was refl refl refl))
  by x s (requests o l) = held (Requests (byte r 2)) (plain 3 (execute_of b (Requests (byte r 2)) m) o refl (as_it_was refl refl refl))
  by x s (slave_intp o) = held (SlaveIntp (byte r 2)) (plain 3 (execute_of b (SlaveIntp (byte r 2)) m) o refl (as_it_was refl refl refl))
  by x s (acknowledge o) = held Acknowledge (plain 4 (acknowledge_of b) o refl acknowledges)
  by x s (advance o l) = held (Advance (pulse_count r)) (plain 5 (execute_of b (Advance (pulse_count r)) m) o refl (as_it_was refl refl refl))
  by x s (cycle o) =
      held (Cycle (eqb (byte r 1) 1) (byte r 2) (byte r 3))
      (λ c. rw (eqb-true (byte r 0) 6 o) (seen_cycle b.dma m (eqb (byte r 1) 1) (byte r 2) (byte r 3) _ s))

  pub seen_step : Sound b.dma → disturbs r (step_of b r m).answer ≡ false → Seen b.dma m (step_of b r m).board.dma (step_memory b r m) (step_of b r m).answer
  unfolding step_of step_memory answered_of
  seen_step s c = by (decode_of r) s (decodes r) c

  -- The chip stays sound, through resets and writes too.
  pub step_sound : Sound b.dma → Sound (step_of b r m).board.dma
  step_sound s = touched_by Sound b m s at r
    where
      at : (o : Operation) → On Sound b.dma m o
      at Reset = reset_sound
      at (Write p x) = λ _. write_sound b.dma s p x
      at (Read p) = read_sound b.dma s p
      at (Intp l) = tt
      at (Gates l) = tt
      at (Requests l) = requests_sound b.dma s l
      at (SlaveIntp l) = tt
      at Acknowledge = tt
      at (Advance n) = tt
      at (Cycle e x y) = cycle_sound b.dma s e x y m

  -- Every answer is sixteen bytes.
  pub answer_length : length (step_of b r m).answer ≡ 16
  unfolding step_of answered_of answer_of
  answer_length = refl
