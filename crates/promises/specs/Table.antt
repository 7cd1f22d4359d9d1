-- The table of the status numbers, read again: what each row says of a record r that comes to a board b, in the numbers and bits of the
-- document, and in none of the words of the rules. Status 5 has no row: it is never given. Numbers are decimal here; 10H is 16, 20H is 32,
-- 30H is 48, 80H is 128.
use Rattle.std.specs.Prelude.{Bool, false, not, List, [], ◌∷◌, ℕ, ◌+◌, ◌*◌, ◌/◌, ◌%◌, eqb, ltb, leb, get_or, if◌then◌else◌}
use Rattle.bits.specs.Choice.{◌and◌, ◌or◌}
use Rattle.bits.specs.Bits.{bit_of}
use Rattle.icu.specs.declared.Icu.{Icu}
use Rattle.timer.specs.declared.Counter.{Counter}
use Rattle.timer.specs.declared.Timer.{Timer}
use Rattle.timer.specs.Timer.{at}
use Rattle.dma.specs.declared.Dma.{Dma}
use Rattle.dma.specs.Fields.{chan}
use Rattle.board.specs.declared.Board.{Board}

-- x is one of some numbers.
unfoldable pub among : ℕ → List ℕ → Bool
among x [] = false
among x (y ∷ rest) = eqb x y or among x rest

-- Byte 0 of a record is the operation. Byte 1 is a port or a group, or END; byte 2 is data or levels. Byte 3 is a cycle's upper device byte, of any value.
abbrev pub op : List ℕ → ℕ
op r = get_or r 0 0

abbrev pub byte1 : List ℕ → ℕ
byte1 r = get_or r 1 0

abbrev pub byte2 : List ℕ → ℕ
byte2 r = get_or r 2 0

-- Row 2 is given exactly where `formed` fails: the operation is known, every byte that it does not use is zero, the port is open to it,
-- the group is known and has the levels, END is 0 or 1, and there are at most 65,535 pulses.

-- Of bytes 1 to 7 the record uses these; the others are zero.
abbrev pub used_or_zero : List ℕ → List ℕ → ℕ → Bool
used_or_zero r places i = among i places or eqb (get_or r i 0) 0

unfoldable pub uses : List ℕ → List ℕ → Bool
uses r places =
    used_or_zero r places 1
    and used_or_zero r places 2
    and used_or_zero r places 3
    and used_or_zero r places 4
    and used_or_zero r places 5
    and used_or_zero r places 6
    and used_or_zero r places 7

-- 00H-01H, 10H-13H, 20H-2FH and 30H-31H. Writes: all but 27H (39) and 2BH (43). Reads: all but 13H (19), 20H (32) and 27H.
abbrev pub to_write : List ℕ
to_write =
    0 ∷ 1 ∷ 16 ∷ 17 ∷ 18 ∷ 19 ∷ 32 ∷ 33 ∷ 34 ∷ 35 ∷ 36 ∷ 37 ∷ 38 ∷ 40 ∷ 41 ∷ 42 ∷ 44 ∷ 45 ∷ 46 ∷ 47 ∷ 48 ∷ 49 ∷ []

abbrev pub to_read : List ℕ
to_read =
    0 ∷ 1 ∷ 16 ∷ 17 ∷ 18 ∷ 33 ∷ 34 ∷ 35 ∷ 36 ∷ 37 ∷ 38 ∷ 40 ∷ 41 ∷ 42 ∷ 43 ∷ 44 ∷ 45 ∷ 46 ∷ 47 ∷ 48 ∷ 49 ∷ []

-- Group 0 has no bit 0, group 1 the bits 0 to 2, group 2 the bits 0 to 3, group 3 all eight.
unfoldable pub levels_fit : ℕ → ℕ → Bool
levels_fit group levels =
    if eqb group 0 then eqb (levels % 2) 0 else if eqb group 1 then ltb levels 8 else if eqb group 2 then ltb levels 16 else eqb group 3

-- Bytes 4 to 7, little end first.
abbrev pub pulses : List ℕ → ℕ
pulses r = get_or r 4 0 + get_or r 5 0 * 256 + get_or r 6 0 * 65536 + get_or r 7 0 * 16777216

unfoldable pub formed : List ℕ → Bool
formed r =
    if eqb (op r) 0 then uses r []
    else if eqb (op r) 1 then uses r (1 ∷ 2 ∷ []) and among (byte1 r) to_write
    else if eqb (op r) 2 then uses r (1 ∷ []) and among (byte1 r) to_read
    else if eqb (op r) 3 then uses r (1 ∷ 2 ∷ []) and levels_fit (byte1 r) (byte2 r)
    else if eqb (op r) 4 then uses r []
    else if eqb (op r) 5 then uses r (4 ∷ 5 ∷ 6 ∷ 7 ∷ []) and leb (pulses r) 65535
    else if eqb (op r) 6 then uses r (1 ∷ 2 ∷ 3 ∷ []) and leb (byte1 r) 1
    else false

-- Row 1: a write, a read or an acknowledge while DMA serves a channel.
unfoldable pub held : Board → List ℕ → Bool
held b r = b.dma.serving and (eqb (op r) 1 or eqb (op r) 2 or eqb (op r) 4)

-- Row 3, out of turn. An interrupt chip's stages: 1 awaits IW2, 4 awaits IW3, 2 awaits IW4, 3 is ready. Until it is ready its reads, and writes at its first port (00H, and 30H for
-- the slave) with D4=0, are out of turn; before the first IW1, in none of the four, writes at its second port too.
abbrev pub unready : Icu → Bool
unready c = not (eqb c.stage 3)

abbrev pub unstarted : Icu → Bool
unstarted c = not (among c.stage (1 ∷ 2 ∷ 3 ∷ 4 ∷ []))

abbrev pub wordless : Icu → ℕ → Bool
wordless c x = not (bit_of x 4) and unready c

-- An acknowledge is out of turn until the master is ready; while one of the two chips is ready and extended (IW1 with D1=0) and the other is not; and while both are, one in vector mode and
-- the other in CALL mode.
abbrev pub extended : Icu → Bool
extended c = eqb c.stage 3 and not (bit_of c.iw1 1)

abbrev pub differ : Bool → Bool → Bool
differ p q = if p then not q else q

unfoldable pub unanswered : Board → Bool
unanswered b =
    unready b.icu
    or differ (extended b.icu) (extended b.slave)
    or (extended b.icu and differ b.icu.vector b.slave.vector)

-- So is latching, reading or writing counter n with no mode set. The control word, at 13H, names a counter in D7-D6 (11 is none), and latches it with 00 in D5-D4.
abbrev pub modeless : Timer → ℕ → Bool
modeless t n = not (among (at t n).mode (0 ∷ 1 ∷ 2 ∷ 3 ∷ 4 ∷ 5 ∷ []))

abbrev pub latches_modeless : Timer → ℕ → Bool
latches_modeless t x = not (eqb (x / 64) 3) and eqb (x / 16 % 4) 0 and modeless t (x / 64)

unfoldable pub out_of_turn : Board → List ℕ → Bool
out_of_turn b r =
    if eqb (op r) 1 then
    (if eqb (byte1 r) 0 then wordless b.icu (byte2 r)
    else if eqb (byte1 r) 1 then unstarted b.icu
    else if eqb (byte1 r) 48 then wordless b.slave (byte2 r)
    else if eqb (byte1 r) 49 then unstarted b.slave
    else if eqb (byte1 r) 16 then modeless b.timer 0
    else if eqb (byte1 r) 17 then modeless b.timer 1
    else if eqb (byte1 r) 18 then modeless b.timer 2
    else eqb (byte1 r) 19 and latches_modeless b.timer (byte2 r))
    else if eqb (op r) 2 then
    (if among (byte1 r) (0 ∷ 1 ∷ []) then unready b.icu
    else if among (byte1 r) (48 ∷ 49 ∷ []) then unready b.slave
    else if eqb (byte1 r) 16 then modeless b.timer 0
    else if eqb (byte1 r) 17 then modeless b.timer 1
    else eqb (byte1 r) 18 and modeless b.timer 2)
    else eqb (op r) 4 and unanswered b

-- Row 4, not built. At 00H and 30H: MCW (D4=0, D3=1) with POL=1 (D2), or with SNW=1 (D6, which the sheet calls SNM) and EXCN=1 (D5). At 01H and 31H, while IW3 is awaited: any
-- but 80H for the master and 07H for the slave.
abbrev pub unbuilt_word : ℕ → Bool
unbuilt_word x = not (bit_of x 4) and bit_of x 3 and (bit_of x 2 or (bit_of x 6 and bit_of x 5))

abbrev pub other_wiring : Icu → ℕ → ℕ → Bool
other_wiring c w x = eqb c.stage 4 and not (eqb x w)

-- At 13H: counter 11 in D7-D6. Otherwise, unless D5-D4 are 00, which is a latch: BCD in D0.
abbrev pub unbuilt_control : ℕ → Bool
unbuilt_control x = eqb (x / 64) 3 or (not (eqb (x / 16 % 4) 0) and eqb (x % 2) 1)

-- At 20H: D0=0 and D1=0, an 8-bit bus, while some channel's mode has D0, words.
abbrev pub moves_words : Dma → ℕ → Bool
moves_words d n = eqb ((chan d n).mode % 2) 1

abbrev pub narrows_under_words : Dma → ℕ → Bool
narrows_under_words d x = eqb (x % 4) 0 and (moves_words d 0 or moves_words d 1 or moves_words d 2 or moves_words d 3)

-- At 2AH: mode 11 in D7-D6, direction 11 in D3-D2, D1; D0, words, while the bus has 8 bits. At 28H: any bit but D4 and D2.
abbrev pub refused_mode : Dma → ℕ → Bool
refused_mode d x = eqb (x / 64) 3 or eqb (x / 4 % 4) 3 or eqb (x / 2 % 2) 1 or (eqb (x % 2) 1 and not d.wide)

abbrev pub unbuilt_device_control : ℕ → Bool
unbuilt_device_control x = bit_of x 0 or bit_of x 1 or bit_of x 3 or bit_of x 5 or bit_of x 6 or bit_of x 7

-- 29H not zero; any use of 2CH, 2DH and 2EH.
unfoldable pub not_built : Board → List ℕ → Bool
not_built b r =
    if eqb (op r) 1 then
    (if among (byte1 r) (0 ∷ 48 ∷ []) then unbuilt_word (byte2 r)
    else if eqb (byte1 r) 1 then other_wiring b.icu 128 (byte2 r)
    else if eqb (byte1 r) 49 then other_wiring b.slave 7 (byte2 r)
    else if eqb (byte1 r) 19 then unbuilt_control (byte2 r)
    else if eqb (byte1 r) 32 then narrows_under_words b.dma (byte2 r)
    else if eqb (byte1 r) 40 then unbuilt_device_control (byte2 r)
    else if eqb (byte1 r) 41 then not (eqb (byte2 r) 0)
    else if eqb (byte1 r) 42 then refused_mode b.dma (byte2 r)
    else among (byte1 r) (44 ∷ 45 ∷ 46 ∷ []))
    else eqb (op r) 2 and among (byte1 r) (44 ∷ 45 ∷ 46 ∷ [])

-- Row 6: a count byte x that completes a count of 1 in mode 2 or 3: as the one byte of a low-byte count (format 1), or as the high byte of two (a format that is
-- neither 1, low, nor 2, high), with the low one kept. A high-byte count is a multiple of 256, and never 1.
abbrev pub completes_one : Counter → ℕ → Bool
completes_one c x =
    among c.mode (2 ∷ 3 ∷ [])
    and (if eqb c.format 1 then eqb x 1 else not (eqb c.format 2) and c.half and eqb (c.low + x * 256) 1)

unfoldable pub counts_one : Board → List ℕ → Bool
counts_one b r =
    eqb (op r) 1
    and (if eqb (byte1 r) 16 then completes_one (at b.timer 0) (byte2 r)
    else if eqb (byte1 r) 17 then completes_one (at b.timer 1) (byte2 r)
    else eqb (byte1 r) 18 and completes_one (at b.timer 2) (byte2 r))

-- The status that the table gives, in the order of the checks: 2, 1, 3, 4, 6.
abbrev pub due : Board → List ℕ → ℕ
due b r =
    if formed r then
    (if held b r then 1
    else if out_of_turn b r then 3
    else if not_built b r then 4
    else if counts_one b r then 6
    else 0)
    else 2
