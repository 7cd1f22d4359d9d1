-- The table of the status numbers in the words of the rules. Readings.antt shows that it is the table of specs/Table.antt.
use mathlib.Core.Bool.{Bool, false, not}
use mathlib.Core.List.{List}
use Prim.Native.Nat.{ℕ, ◌+◌, ◌*◌, ◌%◌}
use lib.Dec.{eqb, ltb, leb}
use Rattle.bits.specs.Choice.{◌and◌, ◌or◌}
use Rattle.std.specs.Prelude.{if◌then◌else◌}
use Rattle.bits.specs.Bits.{bit_of, masked_of}
use Rattle.tape.specs.Records.{byte, unused, icu_port, timer_port, dma_port, slave_port, writable, readable, pulse_count}
use Rattle.icu.specs.declared.Icu.{Icu}
use Rattle.icu.specs.Words.{ready, sets_exceptional}
use Rattle.cascade.specs.Cascade.{master_iw3, slave_iw3, answered}
use Rattle.timer.specs.declared.Counter.{Counter}
use Rattle.timer.specs.declared.Timer.{Timer}
use Rattle.timer.specs.Modes.{mode_of, moded}
use Rattle.timer.specs.Ports.{SC, RWM, BCD, size_of}
use Rattle.timer.specs.Timer.{at}
use Rattle.dma.specs.declared.Dma.{Dma}
use Rattle.dma.specs.Registers.{any_words, refuses_mode}
use Rattle.board.specs.declared.Board.{Board}
use Rattle.board.specs.Operations.{a0}

-- The operation, the port or group, and the data.
abbrev pub op : List ℕ → ℕ
op r = byte r 0

abbrev pub port : List ℕ → ℕ
port r = byte r 1

abbrev pub datum : List ℕ → ℕ
datum r = byte r 2

-- Row 2 is given exactly where this fails: the operation is known, each byte that it does not use is zero, the port is open to it, the
-- group is known and no unused level bit is set, there are at most 65,535 pulses, and END is 0 or 1.
unfoldable pub levels_fit : ℕ → ℕ → Bool
levels_fit group levels =
    if eqb group 0 then eqb (levels % 2) 0 else if eqb group 1 then ltb levels 8 else if eqb group 2 then ltb levels 16 else eqb group 3

unfoldable pub formed : List ℕ → Bool
formed r =
    if eqb (op r) 0 then unused r 1 7
    else if eqb (op r) 1 then unused r 3 5 and writable (port r)
    else if eqb (op r) 2 then unused r 2 6 and readable (port r)
    else if eqb (op r) 3 then unused r 3 5 and levels_fit (byte r 1) (byte r 2)
    else if eqb (op r) 4 then unused r 1 7
    else if eqb (op r) 5 then unused r 1 3 and leb (pulse_count r) 65535
    else if eqb (op r) 6 then unused r 4 4 and leb (byte r 1) 1
    else false

-- Row 1: a write, a read or an acknowledge while DMA serves a channel.
unfoldable pub held : Board → List ℕ → Bool
held b r = b.dma.serving and (eqb (op r) 1 or eqb (op r) 2 or eqb (op r) 4)

-- Row 3, a word for an interrupt chip: until it is ready, a write at A0=0 with D4=0; before the first IW1, a write at A0=1.
abbrev pub started : Icu → Bool
started c = eqb c.stage 1 or eqb c.stage 2 or ready c or eqb c.stage 4

abbrev pub early_word : Icu → Bool → ℕ → Bool
early_word c high x = if high then not (started c) else not (bit_of x 4) and not (ready c)

-- Row 3, the timer: a counter with no mode set.
abbrev pub modeless : Timer → ℕ → Bool
modeless t n = not (moded (at t n))

-- Latching, by a control word that names one of three counters; and writing.
abbrev pub early_count : Timer → ℕ → ℕ → Bool
early_count t a x =
    if eqb a 3 then not (eqb (SC x) 3) and eqb (RWM x) 0 and modeless t (SC x) else modeless t a

-- Row 3: out of turn. An interrupt chip's reads wait until it is ready too, and an acknowledge until the set-ups of the two answer one.
unfoldable pub out_of_turn : Board → List ℕ → Bool
out_of_turn b r =
    if eqb (op r) 1 then
    (if icu_port (port r) then early_word b.icu (a0 (port r)) (datum r)
    else if timer_port (port r) then early_count b.timer (port r % 4) (datum r)
    else slave_port (port r) and early_word b.slave (a0 (port r)) (datum r))
    else if eqb (op r) 2 then
    (if icu_port (port r) then not (ready b.icu)
    else if timer_port (port r) then not (eqb (port r % 4) 3) and modeless b.timer (port r % 4)
    else slave_port (port r) and not (ready b.slave))
    else eqb (op r) 4 and not (answered b.icu b.slave)

-- Row 4, an interrupt chip, at A0=0: MCW with POL=1, or with SNW=1 and EXCN=1; at A0=1, while IW3 is awaited: any but w, the one that fits.
abbrev pub unbuilt_word : Icu → ℕ → Bool → ℕ → Bool
unbuilt_word c w high x =
    if high then eqb c.stage 4 and not (eqb x w) else not (bit_of x 4) and bit_of x 3 and (bit_of x 2 or sets_exceptional x)

-- Row 4, the timer's control word: counter 11; otherwise, unless a latch, BCD.
abbrev pub unbuilt_control : ℕ → Bool
unbuilt_control x = eqb (SC x) 3 or (not (eqb (RWM x) 0) and eqb (BCD x) 1)

-- Row 4, the DMA chip: register 0 with D0=D1=0 while a channel moves words; other bits than D4 and D2 in 8, any in 9; in A mode 11, direction 11, D1, or words on an
-- 8-bit bus; C, D and E.
abbrev pub unbuilt_register : Dma → ℕ → ℕ → Bool
unbuilt_register d n x =
    if eqb n 0 then not (bit_of x 0) and not (bit_of x 1) and any_words d
    else if eqb n 8 then not (eqb (masked_of x 20) 0)
    else if eqb n 9 then not (eqb x 0)
    else if eqb n 10 then refuses_mode d x
    else leb 12 n and ltb n 15

-- Row 4: not built.
unfoldable pub not_built : Board → List ℕ → Bool
not_built b r =
    if eqb (op r) 1 then
    (if icu_port (port r) then unbuilt_word b.icu master_iw3 (a0 (port r)) (datum r)
    else if timer_port (port r) then eqb (port r % 4) 3 and unbuilt_control (datum r)
    else if dma_port (port r) then unbuilt_register b.dma (port r % 16) (datum r)
    else slave_port (port r) and unbuilt_word b.slave slave_iw3 (a0 (port r)) (datum r))
    else eqb (op r) 2 and dma_port (port r) and leb 12 (port r % 16) and ltb (port r % 16) 15

-- Row 6: a count byte that completes a count below the mode's minimum.
abbrev pub too_small : Counter → ℕ → Bool
too_small c n = ltb (size_of n) (mode_of c.mode).least

abbrev pub completes_one : Counter → ℕ → Bool
completes_one c x =
    if eqb c.format 1 then too_small c x
    else if eqb c.format 2 then too_small c (x * 256)
    else c.half and too_small c (c.low + x * 256)

unfoldable pub counts_one : Board → List ℕ → Bool
counts_one b r =
    eqb (op r) 1 and timer_port (port r) and not (eqb (port r % 4) 3) and completes_one (at b.timer (port r % 4)) (datum r)

-- The status that the table gives, in the order of the checks: 2, 1, 3, 4, 6.
abbrev pub due : Board → List ℕ → ℕ
due b r =
    if formed r then
    (if held b r then 1
    else if out_of_turn b r then 3
    else if not_built b r then 4
    else if counts_one b r then 6
    else 0)
    else 2
