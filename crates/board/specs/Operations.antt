-- What each operation of a record comes to.
use Rattle.std.specs.Prelude.{ℕ, ◌/◌, ◌%◌, Bool, List, [], ◌∷◌, ◌++◌, eqb, if◌then◌else◌}
use Rattle.tape.specs.Answers.{twelve, little_of}
use Rattle.icu.specs.Words as IcuWords
use Rattle.icu.specs.Service as IcuService
use Rattle.icu.specs.Answers as IcuAnswers
use Rattle.icu.specs.Requests as IcuRequests
use Rattle.cascade.specs.Cascade.{master_iw3, slave_iw3, answered, passed_on, master_serves, slave_answers}
use Rattle.timer.specs.Timer as Timers
use Rattle.dma.specs.Registers as DmaRegisters
use Rattle.dma.specs.Cycle as DmaCycle
use Rattle.dma.specs.Report.{Told}
use Rattle.board.specs.declared.Board.{Board}
use Rattle.board.specs.declared.Turn.{Turn}
use Rattle.board.specs.Wiring.{icu_is, slave_is, timer_is, dma_is, lines, followed}

-- What an operation comes to: its status, the board afterwards, and the data and payload of its answer.
pub record Outcome : Type 0 where
  pub status : ℕ
  pub board : Board
  pub byte : ℕ
  pub payload : List ℕ

-- Done; done with a data byte; refused by number, which leaves the board as it was, with no data and no payload.
abbrev pub telling : Board → ℕ → Outcome
telling b x = record { status = 0; board = b; byte = x; payload = twelve [] }

abbrev pub done : Board → Outcome
done b = telling b 0

abbrev pub refused : ℕ → Board → Outcome
refused n b = record { status = n; board = b; byte = 0; payload = twelve [] }

-- What an interrupt chip tells, with the board afterwards; and what the master tells where it alone changes.
abbrev pub told_with : Board → IcuAnswers.Told → Outcome
told_with b t = record { status = t.status; board = b; byte = t.byte; payload = twelve t.payload }

abbrev pub icu_told : Board → IcuAnswers.Told → Outcome
icu_told b t = told_with (icu_is t.icu b) t

-- The same without the board.
abbrev pub turn_of : IcuAnswers.Told → Turn
turn_of t = record { icu = t.icu; status = t.status; byte = t.byte; payload = twelve t.payload }

abbrev pub icu_written : Board → Bool → ℕ → IcuAnswers.Told
icu_written b a0 x = IcuWords.write_of b.icu master_iw3 a0 x

abbrev pub icu_shown : Board → Bool → IcuAnswers.Told
icu_shown b a0 = IcuService.read_of b.icu a0 (lines b)

-- The slave's own lines: those that change make or withdraw its requests, and its INT may change with them.
abbrev pub slave_lines : Board → ℕ → Board
slave_lines b x = slave_is (IcuRequests.lines_of b.slave b.slaveintp x) x b

-- A write to the slave may change its INT, which reaches the master's line 7 at once.
unfoldable pub slave_written : Board → Bool → ℕ → Outcome
slave_written b a0 x =
    if eqb (IcuWords.write_of b.slave slave_iw3 a0 x).status 0 then
    done (followed b (slave_is (IcuWords.write_of b.slave slave_iw3 a0 x).icu b.slaveintp b))
    else refused (IcuWords.write_of b.slave slave_iw3 a0 x).status b

-- A read of the slave changes nothing.
unfoldable pub slave_shown : Board → Bool → Outcome
slave_shown b a0 = told_with b (IcuService.read_of b.slave a0 b.slaveintp)

-- An acknowledge that the master answers by itself.
abbrev pub acknowledged : Board → IcuAnswers.Told
acknowledged b = IcuService.acknowledge_of b.icu (lines b)

-- One that it passes on: each chip does its part, then line 7 follows.
abbrev pub slave_tells : Board → IcuAnswers.Told
slave_tells b = slave_answers b.slave b.slaveintp

unfoldable pub slave_gives : Board → Outcome
slave_gives b =
    told_with
    (followed b (slave_is (slave_tells b).icu b.slaveintp (icu_is (master_serves b.icu) b)))
    (slave_tells b)

-- An acknowledge, by how the two chips are set up (Cascade.antt of `cascade`); out of turn where neither answers.
unfoldable pub acknowledge_of : Board → Outcome
acknowledge_of b =
    if passed_on b.icu (lines b) b.slave then slave_gives b
    else if answered b.icu b.slave then icu_told b (acknowledged b)
    else refused 3 b

-- A write to the timer may change OUT0, which reaches the interrupt chip at once.
unfoldable pub timer_written : Board → ℕ → ℕ → Outcome
timer_written b p x =
    if eqb (Timers.writes_of b.timer p x).status 0 then
    done (followed b (timer_is (Timers.writes_of b.timer p x).timer b))
    else refused (Timers.writes_of b.timer p x).status b

-- A read of the timer moves its reading place, and with the last byte frees a latch; no OUT changes.
unfoldable pub timer_shown : Board → ℕ → Outcome
timer_shown b p =
    if eqb (Timers.reads_of b.timer p).status 0 then
    telling (timer_is (Timers.reads_of b.timer p).timer b) (Timers.reads_of b.timer p).byte
    else refused (Timers.reads_of b.timer p).status b

unfoldable pub dma_written : Board → ℕ → ℕ → Outcome
dma_written b p x =
    if eqb (DmaRegisters.write_of b.dma p x).status 0 then done (dma_is (DmaRegisters.write_of b.dma p x).dma b)
    else refused (DmaRegisters.write_of b.dma p x).status b

unfoldable pub dma_shown : Board → ℕ → Outcome
dma_shown b p =
    if eqb (DmaRegisters.read_of b.dma p).status 0 then
    telling (dma_is (DmaRegisters.read_of b.dma p).dma b) (DmaRegisters.read_of b.dma p).byte
    else refused (DmaRegisters.read_of b.dma p).status b

-- A write and a read go to the chip that the port's high digit names: 0 the master, 1 the timer, 2 the DMA chip, 3 the slave. Its low digit has the address lines: A0 of an
-- interrupt chip, A1-A0 of the timer, A3-A0 of the DMA chip.
abbrev pub a0 : ℕ → Bool
a0 p = eqb (p % 2) 1

unfoldable pub write_of : Board → ℕ → ℕ → Outcome
write_of b p x =
    if eqb (p / 16) 0 then icu_told b (icu_written b (a0 p) x)
    else if eqb (p / 16) 1 then timer_written b p x
    else if eqb (p / 16) 2 then dma_written b p x
    else slave_written b (a0 p) x

unfoldable pub read_of : Board → ℕ → Outcome
read_of b p =
    if eqb (p / 16) 0 then icu_told b (icu_shown b (a0 p))
    else if eqb (p / 16) 1 then timer_shown b p
    else if eqb (p / 16) 2 then dma_shown b p
    else slave_shown b (a0 p)

abbrev pub flag_of : Bool → ℕ
flag_of k = if k then 1 else 0

-- What a DMA cycle reports: kind, channel, end, service stopped, the unit's address in four bytes, little end first, 1 if some byte of the unit fell
-- off, and a word's upper byte.
abbrev pub payload_of : Told → List ℕ
payload_of t =
    t.kind ∷ t.channel ∷ flag_of t.end ∷ flag_of t.stopped ∷ little_of t.address ++ flag_of t.outside ∷ t.upper ∷ []

-- END, and the device's bytes: x, and y for the upper half of a word.
abbrev pub cycled : Board → Bool → ℕ → ℕ → List ℕ → DmaCycle.Out
cycled b end x y m = DmaCycle.cycle_of b.dma end x y m

unfoldable pub cycle_of : Board → Bool → ℕ → ℕ → List ℕ → Outcome
cycle_of b end x y m =
    record {
      status = 0;
      board = dma_is (cycled b end x y m).dma b;
      byte = (cycled b end x y m).report.byte;
      payload = twelve (payload_of (cycled b end x y m).report);
    }

unfoldable pub cycle_memory : Board → Bool → ℕ → ℕ → List ℕ → List ℕ
cycle_memory b end x y m = (cycled b end x y m).memory
