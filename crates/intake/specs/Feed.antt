-- A call.
use Rattle.std.specs.Prelude.{ℕ, ◌+◌, ◌*◌, ◌/◌, ◌%◌, Bool, not, List, ◌++◌, ltb, length, take, drop, if◌then◌else◌}
use Rattle.bits.specs.Choice.{◌and◌}
use Rattle.board.specs.declared.Board.{Board}
use Rattle.board.specs.Records.{after}
use Rattle.intake.specs.declared.Fed.{Fed}
use Rattle.intake.specs.Ranges.{in_range}
use Rattle.intake.specs.Records.{rest_at}

-- The bytes of a call: those kept from the last one, then the tape. They make k whole records.
abbrev pub bytes_of : Board → List ℕ → List ℕ
bytes_of b t = take b.kept.length b.kept.bytes ++ t

abbrev pub count_of : Board → List ℕ → ℕ
count_of b t = (b.kept.length + length t) / 8

-- The call is taken if each field of the board is in its range and the buffer has room for k answers. (Room is counted in whole answers,
-- since 16 times k may be too large a number for a program.)
unfoldable pub taken : Board → List ℕ → ℕ → Bool
taken b t room = in_range b and not (ltb (room / 16) (count_of b t))

-- Refused: 7, no record, the board as it was.
abbrev pub refused : Board → Fed
refused b = record { status = 7; records = 0; board = b }

-- Taken: 0, k, and the board after k records, which keeps the bytes of the cut one.
abbrev pub keeping : List ℕ → ℕ → Board → Board
keeping s n b =
    record {
      icu = b.icu;
      intp = b.intp;
      slave = b.slave;
      slaveintp = b.slaveintp;
      timer = b.timer;
      dma = b.dma;
      kept = record { bytes = s; length = n };
    }

abbrev pub done : Board → List ℕ → List ℕ → ℕ → Fed
done b t m k =
    record {
      status = 0;
      records = k;
      board = keeping (rest_at (bytes_of b t) k) ((b.kept.length + length t) % 8) (after b m (bytes_of b t) k).board;
    }

unfoldable pub fed_of : Board → List ℕ → List ℕ → ℕ → Fed
fed_of b t m room = if taken b t room then done b t m (count_of b t) else refused b

-- The memory, and the answer buffer: sixteen bytes for each record, and the rest of the buffer as it was.
unfoldable pub fed_memory : Board → List ℕ → List ℕ → ℕ → List ℕ
fed_memory b t m room = if taken b t room then (after b m (bytes_of b t) (count_of b t)).memory else m

unfoldable pub fed_answers : Board → List ℕ → List ℕ → List ℕ → List ℕ
fed_answers b t m a =
    if taken b t (length a) then (after b m (bytes_of b t) (count_of b t)).answers ++ drop (16 * count_of b t) a else a
