-- The words of the statements: what an answer reports, where a channel moves its units, which bytes are in its range, what disturbs
-- the DMA chip, which of some levels or channels is the highest-ranked, and what the interrupt chip's lines, requests and levels in service are. What a mode byte says and where a
-- unit starts is said here again, and not taken from the chip's own definitions: a mistake in one of those shall not be in what is promised, too.
use Rattle.std.specs.Prelude.{◌≡◌, List, [], ◌∷◌, ◌++◌, Bool, true, false, not, ◌≢◌, ℕ, zero, suc, ◌+◌, ◌*◌, ◌-◌, ◌/◌, ◌%◌, ◌≤◌, ◌<◌, eqb, ltb, leb, get_or, take, drop, length, if◌then◌else◌}
use Rattle.bits.specs.Choice.{◌and◌, ◌or◌}
use Rattle.bits.specs.Bits.{bit_of}
use Rattle.timer.specs.Timer.{at}
use Rattle.dma.specs.declared.Span.{Span}
use Rattle.dma.specs.declared.Channel.{Channel}
use Rattle.dma.specs.declared.Dma.{Dma}
use Rattle.dma.specs.Fields.{chan, span}
use Rattle.board.specs.declared.Board.{Board}
use Rattle.board.specs.Wiring.{joined}
use Rattle.board.specs.Step.{step_of}
use Rattle.board.specs.Records.{record_at, after}
use Rattle.intake.specs.Feed.{bytes_of, fed_of, fed_memory, fed_answers}

-- Answer i of the bytes of many answers, and the first n answers.
unfoldable pub answer_at : List ℕ → ℕ → List ℕ
answer_at a i = take 16 (drop (16 * i) a)

unfoldable pub answers_in : List ℕ → ℕ → List (List ℕ)
answers_in a zero = []
answers_in a (suc n) = answers_in a n ++ answer_at a n ∷ []

-- An answer reports a unit if its status is 0, its operation 6 and its kind 2. An advance may have a 2 in the same place.
abbrev pub reports_unit : List ℕ → Bool
reports_unit a = eqb (get_or a 0 0) 0 and eqb (get_or a 1 0) 6 and eqb (get_or a 4 0) 2

-- Whose unit it is, byte 6 (1 if it was the last one), the address that its channel had, the byte moved, a word's upper byte (byte 13), and byte 12: 1 if any of the unit fell off
-- the end of memory.
abbrev pub channel_in : List ℕ → ℕ
channel_in a = get_or a 5 0

abbrev pub end_in : List ℕ → ℕ
end_in a = get_or a 6 0

abbrev pub address_in : List ℕ → ℕ
address_in a = get_or a 8 0 + get_or a 9 0 * 256 + get_or a 10 0 * 65536 + get_or a 11 0 * 16777216

abbrev pub data_in : List ℕ → ℕ
data_in a = get_or a 2 0

abbrev pub upper_in : List ℕ → ℕ
upper_in a = get_or a 13 0

abbrev pub fell_off_in : List ℕ → ℕ
fell_off_in a = get_or a 12 0

-- An answer reports a unit of channel k; the addresses of the units of channel k that some answers report, in their order.
abbrev pub unit_of : ℕ → List ℕ → Bool
unit_of k a = reports_unit a and eqb (channel_in a) k

unfoldable pub units_of : ℕ → List (List ℕ) → List ℕ
units_of k [] = []
units_of k (a ∷ rest) = if unit_of k a then address_in a ∷ units_of k rest else units_of k rest

-- Memory in units of w bytes, from 0 on: where the unit starts that has place p in it. So a word is an even pair, whichever of its two places is named.
abbrev pub start_of : ℕ → ℕ → ℕ
start_of w p = p / w * w

-- What a unit of w bytes moved at place p: its data or, at the odd place of a word, its upper byte.
abbrev pub moved_at : ℕ → ℕ → List ℕ → ℕ
moved_at w p a = if eqb (p % w) 0 then data_in a else upper_in a

-- The answer reports a unit that has place p in it, by a channel of the set s, where w k is the width of channel k; and what the last such answer moved at p,
-- or x if there is none.
abbrev pub unit_at : (ℕ → Bool) → (ℕ → ℕ) → ℕ → List ℕ → Bool
unit_at s w p a =
    reports_unit a and s (channel_in a) and eqb (start_of (w (channel_in a)) (address_in a)) (start_of (w (channel_in a)) p)

unfoldable pub last_at : (ℕ → Bool) → (ℕ → ℕ) → ℕ → List (List ℕ) → ℕ → ℕ
last_at s w p [] x = x
last_at s w p (a ∷ rest) x = last_at s w p rest (if unit_at s w p a then moved_at (w (channel_in a)) p a else x)

-- The address i units of w bytes on from a, downwards or upwards, modulo 2^24.
abbrev pub place_of : ℕ → Bool → ℕ → ℕ → ℕ
place_of a falls w i = if falls then (a + 16777216 - w * i) % 16777216 else (a + w * i) % 16777216

-- How many places p is on from a, in the direction. The range of a span in units of w bytes: the unit at its address and as many units on as its count,
-- which are count plus one units: with words from the even address e and count N, upwards e to e + 2N + 1, downwards e - 2N to e + 1, modulo 2^24. There is no place at
-- or past 2^24.
abbrev pub distance : ℕ → ℕ → Bool → ℕ
distance p a falls = if falls then (a + 16777216 - p) % 16777216 else (p + 16777216 - a) % 16777216

unfoldable pub inside : ℕ → Span → Bool → ℕ → Bool
inside p s falls w = ltb p 16777216 and leb (distance (start_of w p) (start_of w s.address) falls) (w * s.count)

-- A channel's mode byte: with D3-D2=01, device to memory, it is set to write memory, with 10, memory to device, to read it, and with 00 to verify;
-- D4 is autoinitialize; D5 has the address fall; with D0 its units are words, of two bytes, and else of one.
abbrev pub writes : Channel → Bool
writes c = eqb (c.mode / 4 % 4) 1

abbrev pub reads : Channel → Bool
reads c = eqb (c.mode / 4 % 4) 2

abbrev pub verifies : Channel → Bool
verifies c = eqb (c.mode / 4 % 4) 0

abbrev pub auto : Channel → Bool
auto c = bit_of c.mode 4

abbrev pub down : Channel → Bool
down c = bit_of c.mode 5

abbrev pub width : Channel → ℕ
width c = if bit_of c.mode 0 then 2 else 1

-- Where channel c stands a unit on: an address as many places on in its direction as a unit has bytes, and a count of one less, modulo 65,536.
abbrev pub onward : Channel → Span
onward c = span (place_of c.current.address (down c) (width c) 1) ((c.current.count + 65535) % 65536)

-- A channel may write the byte at p: it is set to write memory, and p lies in its current range or, where it
-- autoinitializes, in its base range.
abbrev pub may_write : ℕ → Channel → Bool
may_write p c = writes c and (inside p c.current (down c) (width c) or (auto c and inside p c.base (down c) (width c)))

-- The record r with its answer a disturbs the DMA chip: it is accepted, and a reset or a write to one of the chip's ports, 20H to 2FH (32 to 47).
abbrev pub disturbs : List ℕ → List ℕ → Bool
disturbs r a = eqb (get_or a 0 0) 0 and (eqb (get_or r 0 0) 0 or (eqb (get_or r 0 0) 1 and leb 32 (get_or r 1 0) and ltb (get_or r 1 0) 48))

-- Record i of the bytes s does not disturb the chip, on the way from the board b and the memory m. It is about records that are executed: a refused
-- one does not count, and kept bytes may have begun the first.
abbrev pub Quiet : Board → List ℕ → List ℕ → ℕ → Type 0
Quiet b m s i =
    disturbs (record_at s i) (step_of (after b m s i).board (record_at s i) (after b m s i).memory).answer ≡ false

-- None of the first n records disturbs it; of the first n records, none from record i on does.
abbrev pub Calm : Board → List ℕ → List ℕ → ℕ → Type 0
Calm b m s n = (i : ℕ) → i < n → Quiet b m s i

abbrev pub CalmFrom : ℕ → Board → List ℕ → List ℕ → ℕ → Type 0
CalmFrom i b m s n = (j : ℕ) → i ≤ j → j < n → Quiet b m s j

-- Further calls on the same memory: from a board and a memory, with the answers of all of them, to a memory. No record of them disturbs the chip. A
-- call may be refused: it takes no record, so it has no answer here, and leaves board and memory.
pub data Further : Board → List ℕ → List (List ℕ) → List ℕ → Type 0 where
  none : {b : Board} {m : List ℕ} → Further b m [] m
  call : {b : Board} {m : List ℕ} {more : List (List ℕ)} {m' : List ℕ} (tape buffer : List ℕ)
      → Calm b m (bytes_of b tape) (fed_of b tape m (length buffer)).records
      → Further (fed_of b tape m (length buffer)).board (fed_memory b tape m (length buffer)) more m'
      → Further b m (answers_in (fed_answers b tape m buffer) (fed_of b tape m (length buffer)).records ++ more) m'

-- With lowest level l, how many levels come before level n: l + 1 has none before it, l itself seven.
abbrev pub before : ℕ → ℕ → ℕ
before l n = (n + 7 - l) % 8

-- Level n is the highest-ranked of a set of levels, by the lowest level l: it is in the set, and each other one in it comes after n.
pub record Highest (levels : ℕ → Bool) (l n : ℕ) : Type 0 where
  pub level : n < 8
  pub chosen : levels n ≡ true
  pub over : (k : ℕ) → k < 8 → levels k ≡ true → k ≢ n → before l n < before l k

-- The line of level k: OUT0 for level 0, for the others INTP1 to INTP7 as the master has them, with the slave's INT on line 7 (Cascade.antt, line_7).
abbrev pub line_high : Board → ℕ → Bool
line_high b k = if eqb k 0 then (at b.timer 0).out else bit_of (joined b) k

-- The levels requested: in level trigger (IW1 with D3=1) those whose line is high, in edge trigger those with an edge request. The levels asked
-- for: requested and unmasked. The levels in service.
abbrev pub requested : Board → ℕ → Bool
requested b k = if bit_of b.icu.iw1 3 then line_high b k else bit_of b.icu.edges k

abbrev pub asked_for : Board → ℕ → Bool
asked_for b k = requested b k and not (bit_of b.icu.imr k)

abbrev pub in_service : Board → ℕ → Bool
in_service b k = bit_of b.icu.isr k

-- The DMA chip's channels by rank: how many come before channel n. With rotation the first is the one in the chip's field `first`, else channel 0.
abbrev pub ahead : Dma → ℕ → ℕ
ahead d n = (n + 4 - (if d.rotate then d.first else 0)) % 4

-- Channel n asks: it is unmasked and its request is high.
abbrev pub asks : Dma → ℕ → Bool
asks d n = not (chan d n).masked and bit_of d.requests n

-- Channel n is the highest-ranked of those that ask.
pub record Foremost (d : Dma) (n : ℕ) : Type 0 where
  pub channel : n < 4
  pub chosen : asks d n ≡ true
  pub over : (k : ℕ) → k < 4 → asks d k ≡ true → k ≢ n → ahead d n < ahead d k
