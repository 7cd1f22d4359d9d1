-- The words of what the class is taught: of writing, reading and loading a count, and of units.
use Rattle.std.specs.Prelude.{◌≡◌, List, [], ◌∷◌, ◌++◌, Bool, true, false, not, ℕ, ◌+◌, ◌-◌, ◌*◌, ◌/◌, ◌%◌, ◌<◌, eqb, get_or, if◌then◌else◌}
use Rattle.bits.specs.Choice.{◌and◌, ◌or◌}
use Rattle.timer.specs.declared.Counter.{Counter}
use Rattle.timer.specs.Timer.{at}
use Rattle.dma.specs.declared.Dma.{Dma}
use Rattle.board.specs.declared.Board.{Board}
use Rattle.board.specs.declared.Stepped.{Stepped}
use Rattle.board.specs.Step.{step_of}
use Rattle.board.specs.Records.{record_at, Run, after}
use Rattle.promises.specs.Records.{writing, reading, setting, pulsing}
use Rattle.promises.specs.Table.{among, formed}
use Rattle.promises.specs.Words.{data_in, asks}

-- Where a writing stands: the first byte of two, kept apart, and the last complete count with what it waits for.
pub record Writing : Type 0 where
  pub half : Bool
  pub low : ℕ
  pub count : ℕ
  pub full : Bool
  pub pending : Bool

unfoldable pub writing_of : Counter → Writing
writing_of c = record { half = c.half; low = c.low; count = c.count; full = c.full; pending = c.pending }

-- The same with x as the first byte of two, kept apart.
abbrev pub first_byte : ℕ → Writing → Writing
first_byte x w = record { half = true; low = x; count = w.count; full = w.full; pending = w.pending }

-- Where a reading stands: which byte is next, and what is latched.
pub record Reading : Type 0 where
  pub second : Bool
  pub latched : Bool
  pub latch : ℕ

unfoldable pub reading_of : Counter → Reading
reading_of c = record { second = c.second; latched = c.latched; latch = c.latch }

unfoldable pub value_of : Counter → ℕ
value_of c = c.value

-- Byte x completes the count N of counter c: it is the low byte alone, the high byte alone, or the second of two.
pub data Completes (c : Counter) (x : ℕ) : ℕ → Type 0 where
  low_byte : c.format ≡ 1 → Completes c x x
  high_byte : c.format ≡ 2 → Completes c x (x * 256)
  second_byte : c.format ≡ 3 → c.half ≡ true → Completes c x (c.low + x * 256)

-- Count 1 is below the minimum of modes 2 and 3.
abbrev pub too_small : ℕ → ℕ → Bool
too_small mode N = among mode (2 ∷ 3 ∷ []) and eqb N 1

-- What a load of the count N puts into a counter: N, and in mode 3 the even number at or below it.
abbrev pub loads_as : ℕ → ℕ → ℕ
loads_as mode N = if eqb mode 3 then N - N % 2 else N

-- The next pulse transfers a count that is completed now: in modes 0 and 4 each one; in modes 2 and 3 the first after the mode word, or the one
-- that replaces it before that pulse; in modes 1 and 5 any for which a trigger pends.
abbrev pub transfers_next : Counter → Bool
transfers_next c =
    if among c.mode (0 ∷ 4 ∷ []) then true
    else if among c.mode (2 ∷ 3 ∷ []) then not c.full or c.pending
    else c.trigger

-- A counter at its end: 1 in mode 2; in mode 3 the end of a half, which is 0 in the high half of an odd count, and 2 in any other.
abbrev pub at_end : Counter → Bool
at_end c =
    if eqb c.mode 2 then eqb c.value 1
    else eqb c.mode 3 and eqb c.value (if c.out and c.odd then 0 else 2)

-- With a count complete and none that the next pulse transfers, that pulse loads all the same if a trigger pends, or if GATE is high and the
-- counter at its end.
abbrev pub reloads_next : Counter → Bool
reloads_next c = c.trigger or (c.gate and at_end c)

-- A record is one pulse, or sets the gates.
pub data Clocks : List ℕ → Type 0 where
  a_pulse : Clocks pulsing
  the_gates : (l : ℕ) → l < 8 → Clocks (setting 1 l)

-- The control word w is a mode word for counter n: D7-D6 name it, and D5-D4, the format, are not 00.
abbrev pub format_in : ℕ → ℕ
format_in w = w / 16 % 4

abbrev pub mode_word_for : ℕ → ℕ → Bool
mode_word_for n w = eqb (w / 64) n and not (eqb (format_in w) 0)

-- The mode that it names in D3-D1: 000, 001, 100 and 101 are 0, 1, 4 and 5; 010 and 110 are 2, 011 and 111 are 3.
abbrev pub mode_named : ℕ → ℕ
mode_named w = if among (w / 2 % 8) (6 ∷ 7 ∷ []) then w / 2 % 8 - 4 else w / 2 % 8

-- The bytes of a count as counter n takes them in format f, from a low byte x and a high byte y: x alone in format 1, y alone in format 2,
-- and in format 3 both, the low one first. The count that they make: a byte that is not written is zero.
abbrev pub count_bytes : ℕ → ℕ → ℕ → ℕ → List ℕ
count_bytes n f x y =
    if eqb f 1 then writing (16 + n) x
    else if eqb f 2 then writing (16 + n) y
    else writing (16 + n) x ++ writing (16 + n) y

abbrev pub count_made : ℕ → ℕ → ℕ → ℕ
count_made f x y = if eqb f 1 then x else if eqb f 2 then y * 256 else x + y * 256

-- A tape: the mode word w, the bytes of a count in its format, and one pulse; and how many of its records are writes.
abbrev pub loading : ℕ → ℕ → ℕ → ℕ → List ℕ
loading n w x y = writing 19 w ++ count_bytes n (format_in w) x y ++ pulsing

abbrev pub writes_in : ℕ → ℕ
writes_in w = if eqb (format_in w) 3 then 3 else 2

-- A reset, a mode word for counter n, a read of counter n: the three records that move its reading place, if they are accepted.
abbrev pub asks_reading : ℕ → List ℕ → Bool
asks_reading n r =
    eqb (get_or r 0 0) 0
    or (eqb (get_or r 0 0) 1 and eqb (get_or r 1 0) 19 and mode_word_for n (get_or r 2 0))
    or (eqb (get_or r 0 0) 2 and eqb (get_or r 1 0) (16 + n))

abbrev pub moves_reading : ℕ → List ℕ → List ℕ → Bool
moves_reading n r a = eqb (get_or a 0 0) 0 and asks_reading n r

-- None of the first k records of the bytes s moves the reading place of counter n, on the way from the board b and the memory m.
abbrev pub Unread : ℕ → Board → List ℕ → List ℕ → ℕ → Type 0
Unread n b m s k =
    (i : ℕ)
    → i < k
    → moves_reading n (record_at s i) (step_of (after b m s i).board (record_at s i) (after b m s i).memory).answer ≡ false

-- What a counter holds for a read: the latch, while there is one, and else its value.
abbrev pub holds : Counter → ℕ
holds c = if c.latched then c.latch else c.value

-- A read of counter n.
abbrev pub read_at : Board → List ℕ → ℕ → Stepped
read_at b m n = step_of b (reading (16 + n)) m

-- The board and the memory after that read and the first k records of s.
abbrev pub later : Board → List ℕ → ℕ → List ℕ → ℕ → Run
later b m n s k = after (read_at b m n).board m s k

-- A read of counter n is taken and answers x; the next read is of the high byte, or of the low one.
pub record Reads (b : Board) (m : List ℕ) (n x : ℕ) (high : Bool) : Type 0 where
  pub taken : get_or (read_at b m n).answer 0 0 ≡ 0
  pub answers : data_in (read_at b m n).answer ≡ x
  pub next : (at (read_at b m n).board.timer n).second ≡ high

-- The record is a DMA cycle with END 0.
abbrev pub plain_cycle : List ℕ → Bool
plain_cycle r = formed r and eqb (get_or r 0 0) 6 and eqb (get_or r 1 0) 0

-- A served channel keeps the bus to its end in block mode, and in demand mode with its request high.
abbrev pub goes_on : ℕ → Bool → Bool
goes_on q high = eqb (q / 64) 2 or (eqb (q / 64) 0 and high)

-- Of the four channels k alone asks.
abbrev pub Alone : Dma → ℕ → Type 0
Alone d k = (i : ℕ) → i < 4 → asks d i ≡ eqb i k
