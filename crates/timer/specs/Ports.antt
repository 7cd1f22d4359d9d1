-- One counter at its ports: reset, control word, mode word, count bytes, latch, reads.
use Rattle.std.specs.Prelude.{ℕ, Bool, Result, Ok, Err, ◌+◌, ◌*◌, ◌%◌, ◌/◌, true, false, not, eqb, ltb, if◌then◌else◌}
use Rattle.bits.specs.Choice.{◌or◌}
use Rattle.timer.specs.Fields.{mode_is, format_is, count_is, full_is, pending_is, trigger_is, half_is, low_is, latched_is, latch_is, second_is, out_is}
use Rattle.timer.specs.Modes.{mode_of, moded}
use Rattle.timer.specs.declared.Counter.{Counter}
use Rattle.timer.specs.declared.Refusal.{Refusal}
use Rattle.timer.specs.declared.Refusal.TheVariants.{NotThere, OutOfTurn, NotBuilt, TooSmall}
use Rattle.timer.specs.declared.Shown.{Shown}

-- Reset: no mode (255) and no format, the counter 0, OUT low, GATE high, nothing under way.
abbrev pub reset_of : Counter
reset_of =
    record {
      mode = 255;
      format = 0;
      value = 0;
      count = 0;
      full = false;
      pending = false;
      trigger = false;
      half = false;
      low = 0;
      latched = false;
      latch = 0;
      second = false;
      gate = true;
      out = false;
      odd = false;
    }

-- What a counter answers at a port: the status, the byte read (zero where none is), the counter afterwards.
pub record Answer : Type 0 where
  pub status : ℕ
  pub byte : ℕ
  pub counter : Counter

abbrev pub done : Counter → Answer
done c = record { status = 0; byte = 0; counter = c }

-- A refusal leaves the counter as it was.
abbrev pub refused : ℕ → Counter → Answer
refused s c = record { status = s; byte = 0; counter = c }

-- The numbers of the refusals: the control port is not open to reads 2, out of turn 3, not built 4, a count below the minimum 6.
abbrev pub status_of : Refusal → ℕ
status_of NotThere = 2
status_of OutOfTurn = 3
status_of NotBuilt = 4
status_of TooSmall = 6

-- The status and the values of each answer that the program gives.
abbrev pub told_wrote : Counter → Result Counter Refusal → Answer
told_wrote c (Ok d) = done d
told_wrote c (Err e) = refused (status_of e) c

abbrev pub told_shown : Counter → Result (ℕ × Counter) Refusal → Answer
told_shown c (Ok (b, d)) = record { status = 0; byte = b; counter = d }
told_shown c (Err e) = refused (status_of e) c

-- The control word: D7-D6 the counter, D5-D4 latch or format, D3-D1 the mode, D0 BCD.
abbrev pub SC : ℕ → ℕ
SC w = w / 64

abbrev pub RWM : ℕ → ℕ
RWM w = w / 16 % 4

abbrev pub CM : ℕ → ℕ
CM w = w / 2 % 8

abbrev pub BCD : ℕ → ℕ
BCD w = w % 2

-- D3-D1 name the mode; in x10, mode 2, and x11, mode 3, D3 does not count.
abbrev pub mode_in : ℕ → ℕ
mode_in m = if ltb (m % 4) 2 then m else m % 4

-- A mode word sets mode m and format f, and OUT to the mode's initial level. It drops the latch, a pending transfer, a trigger, a half-written
-- count and the place between two reads, and no count is complete any more. The counter's value stays.
unfoldable pub mode_set : ℕ → ℕ → Counter → Counter
mode_set m f c =
    mode_is m
    (format_is f
    (out_is (mode_of m).high
    (full_is false (pending_is false (trigger_is false (half_is false (second_is false (latched_is false c))))))))

-- BCD is not built.
unfoldable pub mode_word : Counter → ℕ → Answer
mode_word c w = if eqb (BCD w) 1 then refused 4 c else done (mode_set (mode_in (CM w)) (RWM w) c)

-- A latch holds the counter's value as it is now. While one holds, another does nothing. With no mode it is out of turn.
unfoldable pub latch_word : Counter → Answer
latch_word c =
    if moded c then (if c.latched then done c else done (latched_is true (latch_is c.value c)))
    else refused 3 c

-- A control word for this counter. 00 in D5-D4 is a latch, whatever D3-D0 are.
unfoldable pub control_of : Counter → ℕ → Answer
control_of c w = if eqb (RWM w) 0 then latch_word c else mode_word c w

-- A count byte written sets OUT low where the mode has it so.
abbrev pub dropped : Counter → Counter
dropped c = if (mode_of c.mode).drops then out_is false c else c

-- A complete count n stands as the last one, and no byte of it is kept apart any more. It pends if it is the first since the mode word, and in modes 0 and 4 always.
-- Any other waits for the next load. (Mode 0 alone drops OUT, and there each count pends.)
unfoldable pub completed : Counter → ℕ → Counter
completed c n =
    if (mode_of c.mode).each or not c.full then dropped (pending_is true (full_is true (half_is false (count_is n c))))
    else half_is false (count_is n c)

-- How much a written count counts: 0 is 65,536.
abbrev pub size_of : ℕ → ℕ
size_of n = if eqb n 0 then 65536 else n

-- A complete count below the mode's minimum is refused; the byte kept apart stays.
unfoldable pub count_of : Counter → ℕ → Answer
count_of c n = if ltb (size_of n) (mode_of c.mode).least then refused 6 c else done (completed c n)

-- The first byte of two is kept apart, and the last complete count stands.
unfoldable pub begun : Counter → ℕ → Counter
begun c x = dropped (low_is x (half_is true c))

-- A count byte. With no mode it is out of turn. Format 1 writes the low byte and 2 the high byte, and the other byte is zero.
-- Any other format, which is 3 once a mode is set, writes both, the low one first.
unfoldable pub write_of : Counter → ℕ → Answer
write_of c x =
    if moded c then
    (if eqb c.format 1 then count_of c x
    else if eqb c.format 2 then count_of c (x * 256)
    else if c.half then count_of c (c.low + x * 256)
    else done (begun c x))
    else refused 3 c

-- A read shows the latch while it holds, else the counter as it is.
unfoldable pub held : Counter → ℕ
held c = if c.latched then c.latch else c.value

abbrev pub read_as : ℕ → Counter → Answer
read_as b c = record { status = 0; byte = b; counter = c }

-- A count byte read, in the same formats, with a place of its own. The last byte of the format frees the latch.
unfoldable pub read_of : Counter → Answer
read_of c =
    if moded c then
    (if eqb c.format 1 then read_as (held c % 256) (latched_is false c)
    else if eqb c.format 2 then read_as (held c / 256) (latched_is false c)
    else if c.second then read_as (held c / 256) (second_is false (latched_is false c))
    else read_as (held c % 256) (second_is true c))
    else refused 3 c

-- A read by what it shows, with the latch and the reading place after it. It changes nothing else of the counter.
pub record Seen : Type 0 where
  pub status : ℕ
  pub byte : ℕ
  pub latched : Bool
  pub second : Bool

abbrev pub seen_as : Answer → Seen
seen_as a = record { status = a.status; byte = a.byte; latched = a.counter.latched; second = a.counter.second }

unfoldable pub seen_of : Counter → Seen
seen_of c = seen_as (read_of c)

-- The same of what the program shows; a refusal leaves both fields as they were.
abbrev pub told_seen : Counter → Result Shown Refusal → Seen
told_seen c (Ok s) = record { status = 0; byte = s.byte; latched = s.latched; second = s.second }
told_seen c (Err e) = record { status = status_of e; byte = 0; latched = c.latched; second = c.second }
