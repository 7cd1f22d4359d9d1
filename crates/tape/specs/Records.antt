-- The records of a tape: eight bytes, of which byte 0 is the operation.
use Rattle.std.specs.Prelude.{ℕ, zero, suc, ◌+◌, ◌*◌, ◌%◌, Bool, true, false, not, List, eqb, ltb, leb, get_or, if◌then◌else◌, Option, Some, None}
use Rattle.bits.specs.Choice.{◌and◌, ◌or◌}
use Rattle.tape.specs.declared.Operation.{Operation}
use Rattle.tape.specs.declared.Operation.TheVariants.{Reset, Write, Read, Intp, Gates, Requests, SlaveIntp, Acknowledge, Advance, Cycle}

-- The bytes of a cut record wait for the next call. There is room for seven of them, whatever their length is said to be.
abbrev pub held_of : ℕ → ℕ
held_of n = if ltb 7 n then 7 else n

-- Byte i of a record.
abbrev pub byte : List ℕ → ℕ → ℕ
byte r i = get_or r i 0

-- The n bytes from place i on are not used by the operation, and zero.
unfoldable pub unused : List ℕ → ℕ → ℕ → Bool
unused r i zero = true
unused r i (suc n) = eqb (byte r i) 0 and unused r (suc i) n

-- The ports: 00H and 01H are the interrupt chip's, 10H to 13H (16 to 19) the timer's, 20H to 2FH (32 to 47) the DMA chip's, 30H and 31H (48 and 49) the slave's.
abbrev pub icu_port : ℕ → Bool
icu_port p = ltb p 2

abbrev pub timer_port : ℕ → Bool
timer_port p = leb 16 p and ltb p 20

abbrev pub dma_port : ℕ → Bool
dma_port p = leb 32 p and ltb p 48

abbrev pub slave_port : ℕ → Bool
slave_port p = leb 48 p and ltb p 50

-- 2BH (43) is not there to write, 13H (19) and 20H (32) not to read, and 27H (39) to neither.
unfoldable pub writable : ℕ → Bool
writable p = icu_port p or timer_port p or (dma_port p and not (eqb p 39) and not (eqb p 43)) or slave_port p

unfoldable pub readable : ℕ → Bool
readable p =
    icu_port p or (timer_port p and not (eqb p 19)) or (dma_port p and not (eqb p 32) and not (eqb p 39)) or slave_port p

-- An operation, asked for by a record that fits; a record that doesn't is malformed.
abbrev pub asked_if : Bool → Operation → Option Operation
asked_if fits o = if fits then Some o else None

-- Operation 3: group 0 is INTP with bits 1 to 7, group 1 the gates with bits 0 to 2, group 2 the DMA requests with bits 0 to 3, group 3 the slave's lines
-- with bits 0 to 7.
unfoldable pub lines_asked : ℕ → ℕ → Option Operation
lines_asked group levels =
    if eqb group 0 then asked_if (eqb (levels % 2) 0) (Intp levels)
    else if eqb group 1 then asked_if (ltb levels 8) (Gates levels)
    else if eqb group 2 then asked_if (ltb levels 16) (Requests levels)
    else if eqb group 3 then Some (SlaveIntp levels)
    else None

-- Operation 5 counts its pulses in bytes 4 to 7, little end first.
unfoldable pub pulse_count : List ℕ → ℕ
pulse_count r = byte r 4 + byte r 5 * 256 + byte r 6 * 65536 + byte r 7 * 16777216

-- The operations. Each has a line: its number, the bytes that it does not use with what else must hold, and what it asks for by the bytes that it
-- uses. Any other number is malformed.
unfoldable pub decode_of : List ℕ → Option Operation
decode_of r =
    if eqb (byte r 0) 0 then asked_if (unused r 1 7) Reset
    else if eqb (byte r 0) 1 then asked_if (unused r 3 5 and writable (byte r 1)) (Write (byte r 1) (byte r 2))
    else if eqb (byte r 0) 2 then asked_if (unused r 2 6 and readable (byte r 1)) (Read (byte r 1))
    else if eqb (byte r 0) 3 then (if unused r 3 5 then lines_asked (byte r 1) (byte r 2) else None)
    else if eqb (byte r 0) 4 then asked_if (unused r 1 7) Acknowledge
    else if eqb (byte r 0) 5 then asked_if (unused r 1 3 and leb (pulse_count r) 65535) (Advance (pulse_count r))
    else if eqb (byte r 0) 6 then asked_if (unused r 4 4 and leb (byte r 1) 1) (Cycle (eqb (byte r 1) 1) (byte r 2) (byte r 3))
    else None

-- Writes, reads and acknowledges need the bus, which a served DMA channel has.
abbrev pub uses_bus : Operation → Bool
uses_bus Reset = false
uses_bus (Write p x) = true
uses_bus (Read p) = true
uses_bus (Intp l) = false
uses_bus (Gates l) = false
uses_bus (Requests l) = false
uses_bus (SlaveIntp l) = false
uses_bus Acknowledge = true
uses_bus (Advance n) = false
uses_bus (Cycle e b u) = false
