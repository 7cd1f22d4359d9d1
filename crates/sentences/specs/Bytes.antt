-- Records and answers by their bytes.
use Rattle.std.specs.Prelude.{ℕ, List, [], ◌∷◌, ◌++◌, Option, Some, None, eqb, slice_index, slice_range, if◌then◌else◌}
use Rattle.std.specs.Int.{w32, from_le_bytes, to_le_bytes}
use Rattle.sentences.specs.declared.bytes.Op.{Op}
use Rattle.sentences.specs.declared.bytes.Op.TheVariants.{Reset, Write, Read, Lines, Acknowledge, Advance, Cycle}
use Rattle.sentences.specs.declared.bytes.Cycle as CameTo
use Rattle.sentences.specs.declared.bytes.Cycle.TheVariants.{Nothing, Granted, Unit, Released}
use Rattle.sentences.specs.declared.bytes.Record.{Record}
use Rattle.sentences.specs.declared.bytes.Answer.{Answer}

-- Operations count from 0, and 6 is the last.
abbrev pub op_of : ℕ → Option Op
op_of n =
    if eqb n 0 then Some Reset
    else if eqb n 1 then Some Write
    else if eqb n 2 then Some Read
    else if eqb n 3 then Some Lines
    else if eqb n 4 then Some Acknowledge
    else if eqb n 5 then Some Advance
    else if eqb n 6 then Some Cycle
    else None

-- 1, 2 and 3 say what a DMA cycle came to; any other byte, that it came to nothing.
abbrev pub came_to : ℕ → CameTo.Cycle
came_to n = if eqb n 1 then Granted else if eqb n 2 then Unit else if eqb n 3 then Released else Nothing

-- The eight bytes of a record: its number is the last four, little end first.
abbrev pub record_bytes : Record → List ℕ
record_bytes r = r.op ∷ r.port ∷ r.byte ∷ r.upper ∷ to_le_bytes w32 r.pulses

abbrev pub record_of : List ℕ → Record
record_of b =
    record {
      op = slice_index b 0;
      port = slice_index b 1;
      byte = slice_index b 2;
      upper = slice_index b 3;
      pulses = from_le_bytes w32 (slice_range b 4 8);
    }

-- The sixteen bytes of an answer: where a unit went is bytes 8 to 11, little end first.
abbrev pub answer_bytes : Answer → List ℕ
answer_bytes a =
    a.status
    ∷ a.op
    ∷ a.byte
    ∷ a.levels
    ∷ a.kind
    ∷ a.channel
    ∷ a.last
    ∷ a.free
    ∷ to_le_bytes w32 a.address
    ++ a.outside
    ∷ a.upper
    ∷ a.others

abbrev pub answer_of : List ℕ → Answer
answer_of b =
    record {
      status = slice_index b 0;
      op = slice_index b 1;
      byte = slice_index b 2;
      levels = slice_index b 3;
      kind = slice_index b 4;
      channel = slice_index b 5;
      last = slice_index b 6;
      free = slice_index b 7;
      address = from_le_bytes w32 (slice_range b 8 12);
      outside = slice_index b 12;
      upper = slice_index b 13;
      others = slice_range b 14 16;
    }
