-- The board with one interrupt chip, as it is without a slave.
-- It has the same timer, DMA chip and interrupt chip, by the same rules, but for the words that set the interrupt chip up, which are written out here; ports 30H-31H and group 3 are not there, and an
-- IW1 with D1=0 is not built. The statements of Cascade.antt hold the board with two chips against it.
use Rattle.std.specs.Prelude.{Option, Some, None}
use Rattle.std.specs.Prelude.{ℕ, zero, suc, ◌/◌, Bool, not, List, [], ◌++◌, eqb, if◌then◌else◌}
use Rattle.bits.specs.Choice.{◌and◌, ◌or◌}
use Rattle.bits.specs.Bits.{bit_of}
use Rattle.tape.specs.declared.Operation.{Operation}
use Rattle.tape.specs.declared.Operation.TheVariants.{Reset, Write, Read, Intp, Gates, Requests, SlaveIntp, Acknowledge, Advance, Cycle}
use Rattle.tape.specs.Records.{byte, decode_of, uses_bus}
use Rattle.tape.specs.Answers.{answer_of, twelve}
use Rattle.icu.specs.declared.Icu.{Icu}
use Rattle.icu.specs.Fields.{stage_is, iw2_is, iw4_is, imr_is}
use Rattle.icu.specs.Answers.{Told, done, refused}
use Rattle.icu.specs.Words as IcuWords
use Rattle.icu.specs.Requests.{lines_of}
use Rattle.icu.specs.Service as IcuService
use Rattle.timer.specs.declared.Timer.{Timer}
use Rattle.timer.specs.Timer.{resets_of, writes_of, reads_of, gates_of}
use Rattle.dma.specs.declared.Dma.{Dma}
use Rattle.dma.specs.Registers as DmaRegisters
use Rattle.dma.specs.Cycle as DmaCycle
use Rattle.board.specs.Wiring.{lines_at, levels_at}
use Rattle.board.specs.Operations.{a0, payload_of}
use Rattle.board.specs.Advance.{advanced_of, rises_payload}
use Rattle.board.specs.Records.{record_at}

-- A record names the slave: a write to or a read of 30H or 31H (48 or 49), or lines of group 3.
abbrev pub names_slave : List ℕ → Bool
names_slave r =
    ((eqb (byte r 0) 1 or eqb (byte r 0) 2) and (eqb (byte r 1) 48 or eqb (byte r 1) 49))
    or (eqb (byte r 0) 3 and eqb (byte r 1) 3)

-- It writes an IW1 (00H, D4=1) with D1=0.
abbrev pub starts_extended : List ℕ → Bool
starts_extended r = eqb (byte r 0) 1 and eqb (byte r 1) 0 and bit_of (byte r 2) 4 and not (bit_of (byte r 2) 1)

-- The chips, and INTP1 to INTP7.
pub record One : Type 0 where
  pub icu : Icu
  pub intp : ℕ
  pub timer : Timer
  pub dma : Dma

unfoldable pub fresh_one : One
fresh_one = record { icu = IcuWords.reset_of; intp = 0; timer = resets_of; dma = DmaRegisters.reset_of }

abbrev pub lines_one : One → ℕ
lines_one o = lines_at o.intp o.timer

-- INTP, or the timer with OUT0, have changed: the chip sees its lines go from what they were to what they are.
abbrev pub rewired_one : ℕ → Timer → One → One
rewired_one intp t o = record { icu = lines_of o.icu (lines_one o) (lines_at intp t); intp = intp; timer = t; dma = o.dma }

-- A word at A0=1. Once the chip is ready (stage 3) it is IMR. At stage 1 it is IW2, after which IW4 is awaited (stage 2) where IW1 announced it (D0), and otherwise the chip is ready. At stage 2 it is
-- IW4: D1 self-FI, D0 vector mode, and the chip is ready. Before the first IW1 it is out of turn (3).
unfoldable pub later_one : Icu → ℕ → Told
later_one c x =
    if eqb c.stage 3 then done (imr_is x c)
    else if eqb c.stage 1 then done (if bit_of c.iw1 0 then stage_is 2 (iw2_is x c) else stage_is 3 (iw2_is x c))
    else if eqb c.stage 2 then done (stage_is 3 (iw4_is (bit_of x 1) (bit_of x 0) c))
    else refused 3 c

-- A write to the interrupt chip. At A0=0 a word with D4 set is IW1, at any time; only the single mode (D1=1) is built, and the other refused (4). Without D4 the chip must be ready (else 3), and D3 tells MCW from PFCW.
unfoldable pub write_one : Icu → Bool → ℕ → Told
write_one c k x =
    if k then later_one c x
    else if bit_of x 4 then (if bit_of x 1 then done (IcuWords.iw1 c x) else refused 4 c)
    else if eqb c.stage 3 then (if bit_of x 3 then IcuWords.mcw c x else done (IcuWords.pfcw c x))
    else refused 3 c

-- What a record comes to.
pub record Did : Type 0 where
  pub status : ℕ
  pub one : One
  pub byte : ℕ
  pub payload : List ℕ

abbrev pub did : One → ℕ → Did
did o x = record { status = 0; one = o; byte = x; payload = twelve [] }

abbrev pub did_not : ℕ → One → Did
did_not n o = record { status = n; one = o; byte = 0; payload = twelve [] }

abbrev pub chip_did : One → Told → Did
chip_did o t =
    record {
      status = t.status;
      one = record { icu = t.icu; intp = o.intp; timer = o.timer; dma = o.dma };
      byte = t.byte;
      payload = twelve t.payload;
    }

unfoldable pub timer_wrote : One → ℕ → ℕ → Did
timer_wrote o p x =
    if eqb (writes_of o.timer p x).status 0 then did (rewired_one o.intp (writes_of o.timer p x).timer o) 0
    else did_not (writes_of o.timer p x).status o

unfoldable pub timer_read : One → ℕ → Did
timer_read o p =
    if eqb (reads_of o.timer p).status 0 then
    did (record { icu = o.icu; intp = o.intp; timer = (reads_of o.timer p).timer; dma = o.dma }) (reads_of o.timer p).byte
    else did_not (reads_of o.timer p).status o

abbrev pub dma_one : Dma → One → One
dma_one d o = record { icu = o.icu; intp = o.intp; timer = o.timer; dma = d }

unfoldable pub dma_wrote : One → ℕ → ℕ → Did
dma_wrote o p x =
    if eqb (DmaRegisters.write_of o.dma p x).status 0 then did (dma_one (DmaRegisters.write_of o.dma p x).dma o) 0
    else did_not (DmaRegisters.write_of o.dma p x).status o

unfoldable pub dma_read : One → ℕ → Did
dma_read o p =
    if eqb (DmaRegisters.read_of o.dma p).status 0 then
    did (dma_one (DmaRegisters.read_of o.dma p).dma o) (DmaRegisters.read_of o.dma p).byte
    else did_not (DmaRegisters.read_of o.dma p).status o

unfoldable pub execute_one : One → Operation → List ℕ → Did
execute_one o Reset m = did fresh_one 0
execute_one o (Write p x) m =
    if eqb (p / 16) 0 then chip_did o (write_one o.icu (a0 p) x) else if eqb (p / 16) 1 then timer_wrote o p x else dma_wrote o p x
execute_one o (Read p) m =
    if eqb (p / 16) 0 then chip_did o (IcuService.read_of o.icu (a0 p) (lines_one o))
    else if eqb (p / 16) 1 then timer_read o p
    else dma_read o p
execute_one o (Intp levels) m = did (rewired_one levels o.timer o) 0
execute_one o (Gates levels) m = did (rewired_one o.intp (gates_of o.timer levels) o) 0
execute_one o (Requests levels) m = did (dma_one (DmaRegisters.requested_of o.dma levels) o) 0
execute_one o (SlaveIntp levels) m = did_not 2 o
execute_one o Acknowledge m = chip_did o (IcuService.acknowledge_of o.icu (lines_one o))
execute_one o (Advance n) m =
    record {
      status = 0;
      one = record {
        icu = (advanced_of o.intp o.timer o.icu n).icu;
        intp = o.intp;
        timer = (advanced_of o.intp o.timer o.icu n).timer;
        dma = o.dma;
      };
      byte = 0;
      payload = twelve (rises_payload (advanced_of o.intp o.timer o.icu n).rises);
    }
execute_one o (Cycle end x y) m =
    record {
      status = 0;
      one = dma_one (DmaCycle.cycle_of o.dma end x y m).dma o;
      byte = (DmaCycle.cycle_of o.dma end x y m).report.byte;
      payload = twelve (payload_of (DmaCycle.cycle_of o.dma end x y m).report);
    }

-- 2 by the record's bytes alone, then 1, then what the operation itself refuses.
abbrev pub decode_one : List ℕ → Option Operation
decode_one r = if names_slave r then None else decode_of r

unfoldable pub outcome_one : One → Option Operation → List ℕ → Did
outcome_one o None m = did_not 2 o
outcome_one o (Some x) m = if o.dma.serving and uses_bus x then did_not 1 o else execute_one o x m

-- Of the operations a DMA cycle alone touches the memory.
unfoldable pub memory_one : One → Option Operation → List ℕ → List ℕ
memory_one o None m = m
memory_one o (Some (Cycle end x y)) m = (DmaCycle.cycle_of o.dma end x y m).memory
memory_one o (Some Reset) m = m
memory_one o (Some (Write p x)) m = m
memory_one o (Some (Read p)) m = m
memory_one o (Some (Intp levels)) m = m
memory_one o (Some (Gates levels)) m = m
memory_one o (Some (Requests levels)) m = m
memory_one o (Some (SlaveIntp levels)) m = m
memory_one o (Some Acknowledge) m = m
memory_one o (Some (Advance n)) m = m

-- The answer: sixteen bytes, with the levels after the record.
abbrev pub answer_one : ℕ → Did → List ℕ
answer_one op d = answer_of d.status op d.byte (levels_at d.one.icu d.one.intp d.one.timer) d.payload

-- n records of the bytes s, one after another.
pub record RunOne : Type 0 where
  pub one : One
  pub memory : List ℕ
  pub answers : List ℕ

abbrev pub next_one : RunOne → List ℕ → RunOne
next_one s r =
    record {
      one = (outcome_one s.one (decode_one r) s.memory).one;
      memory = memory_one s.one (decode_one r) s.memory;
      answers = s.answers ++ answer_one (byte r 0) (outcome_one s.one (decode_one r) s.memory);
    }

unfoldable pub after_one : One → List ℕ → List ℕ → ℕ → RunOne
after_one o m s zero = record { one = o; memory = m; answers = [] }
after_one o m s (suc n) = next_one (after_one o m s n) (record_at s n)
