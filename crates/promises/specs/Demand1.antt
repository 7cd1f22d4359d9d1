-- Demand 1. Any bytes fed as a lesson tape, with any lent memory and answer buffer, are taken or refused by number, and the run ends. A
-- refused record changes no chip and no memory, and its answer is fixed. Too small an answer buffer refuses the whole call and changes nothing.
--
-- All of it holds of every board, in its ranges or not. Table.antt has the rows of the status table in words. That the run ends needs no
-- statement here: no function of the board is proved before it is shown to end.
use Rattle.std.specs.Prelude.{◌≡◌, ◌↔◌, ◌≢◌, ◌⊎◌, List, [], ◌∷◌, ◌++◌, true, not, ℕ, suc, ◌+◌, ◌*◌, ◌/◌, ◌%◌, ◌<◌, leb, get_or, length, take, drop}
use Rattle.bits.specs.Choice.{◌and◌}
use Rattle.board.specs.declared.Board.{Board}
use Rattle.board.specs.Wiring.{levels_of}
use Rattle.board.specs.Step.{step_of, step_memory}
use Rattle.board.specs.Records.{record_at, Run, after}
use Rattle.intake.specs.Ranges.{in_range}
use Rattle.intake.specs.Feed.{fed_of, fed_memory, fed_answers}
use Rattle.promises.specs.Table.{due, formed, held, out_of_turn, not_built, counts_one}
use Rattle.promises.specs.Words.{answer_at}

-- The status of the record r on the board b with the memory m: byte 0 of its answer.
abbrev pub status_of : Board → List ℕ → List ℕ → ℕ
status_of b r m = get_or (step_of b r m).answer 0 0

-- What holds of any record r that comes to any board b with any memory m.
pub record OfRecord (b : Board) (r m : List ℕ) : Type 0 where
  -- The status is the one that the table gives.
  pub status_due : status_of b r m ≡ due b r
  -- Each record's status is one of 0 to 6, and never 5: an acknowledge with INT low is answered, as level 7 (Meant.antt, spurious).
  -- Not so: a board that answers 7 to a record; one that refuses an acknowledge with 5 because INT is low.
  pub record_status : status_of b r m < 7
  pub never_5 : status_of b r m ≢ 5
  -- An answer has sixteen bytes; byte 1 is the operation as it was read, byte 3 has the levels after the record.
  -- Not so: a board whose levels come one record late; one that answers an unknown operation with another number.
  pub answer_shape : (length (step_of b r m).answer ≡ 16)
      × (get_or (step_of b r m).answer 1 0 ≡ get_or r 0 0)
      × (get_or (step_of b r m).answer 3 0 ≡ levels_of (step_of b r m).board)
  -- A record with another status than 0 leaves chips, lines and memory as they were. Its answer is fixed: the status, the operation as
  -- it was read, zero data, the levels as they are, and a payload of zeros.
  -- Not so: a board that drops a half-written count when it refuses; one that shows a refused read's byte all the same.
  pub refused_record : status_of b r m ≢ 0
      → ((step_of b r m).board ≡ b)
      × (step_memory b r m ≡ m)
      × ((step_of b r m).answer
      ≡ status_of b r m ∷ get_or r 0 0 ∷ 0 ∷ levels_of b ∷ 0 ∷ 0 ∷ 0 ∷ 0 ∷ 0 ∷ 0 ∷ 0 ∷ 0 ∷ 0 ∷ 0 ∷ 0 ∷ 0 ∷ [])
  -- The rows of the table, each exactly when it says, and in the order of the checks: 2, 1, 3, 4, 6.
  --
  -- 2: unknown operation, port or group; port not open to it; unused byte or level bit set; END over 1; pulses over 65,535.
  -- Not so: a board that lets an unused byte pass; one that refuses a malformed write with 1 while a channel is served.
  pub row_2 : (status_of b r m ≡ 2) ↔ (not (formed r) ≡ true)
  -- 1: a write, a read or an acknowledge while DMA serves a channel.
  -- Not so: a board that lets the processor read status while DMA has the bus; one that holds up a bus cycle or a reset.
  pub row_1 : (status_of b r m ≡ 1) ↔ ((formed r and held b r) ≡ true)
  -- 3: out of turn.
  -- Not so: a board that takes IW2 before IW1; one that reads a counter with no mode as 0; one on which an extended master answers for a slave that is not ready.
  pub row_3 : (status_of b r m ≡ 3) ↔ ((formed r and not (held b r) and out_of_turn b r) ≡ true)
  -- 4: not built.
  -- Not so: a board that takes a BCD word and counts in binary; one that refuses a latch for its mode bits; one that takes a slave's IW3 that names another line; one that takes
  -- a word mode on the 8-bit bus, or an 8-bit bus under a word mode; one that refuses a reset by register 0 then.
  pub row_4 : (status_of b r m ≡ 4) ↔ ((formed r and not (held b r) and not (out_of_turn b r) and not_built b r) ≡ true)
  -- 6: count 1 completed in mode 2 or 3.
  -- Not so: a board that refuses count 1 in mode 0, 1, 4 or 5; one that refuses the low byte 1 of a count of two bytes.
  pub row_6 : (status_of b r m ≡ 6)
      ↔ ((formed r and not (held b r) and not (out_of_turn b r) and not (not_built b r) and counts_one b r) ≡ true)
  -- 0: done, exactly if no other row is met.
  -- Not so: a board that refuses everything; one that takes everything.
  pub row_0 : (status_of b r m ≡ 0)
      ↔ ((formed r and not (held b r) and not (out_of_turn b r) and not (not_built b r) and not (counts_one b r)) ≡ true)

-- The bytes of a call: those that are kept, then the tape. They make k whole records.
abbrev pub call_bytes : Board → List ℕ → List ℕ
call_bytes b tape = take b.kept.length b.kept.bytes ++ tape

abbrev pub whole_records : Board → List ℕ → ℕ
whole_records b tape = (b.kept.length + length tape) / 8

-- Record i of a call; the board and the memory that the first i records leave.
abbrev pub record_of : Board → List ℕ → ℕ → List ℕ
record_of b tape i = record_at (call_bytes b tape) i

abbrev pub after_first : Board → List ℕ → List ℕ → ℕ → Run
after_first b tape m i = after b m (call_bytes b tape) i

-- A call that is taken completes k records.
pub record Taken (b : Board) (tape m answers : List ℕ) : Type 0 where
  pub records : (fed_of b tape m (length answers)).records ≡ whole_records b tape
  -- Answer i in the buffer is that of record i, on the board and memory that the records before it have left: so all that holds of any
  -- record holds of it. The buffer's bytes past 16 k stay.
  -- Not so: a board that obeys the first record and fakes the rest; one that writes a byte past its last answer.
  pub answer : (i : ℕ) → i < whole_records b tape
      → answer_at (fed_answers b tape m answers) i
      ≡ (step_of (after_first b tape m i).board (record_of b tape i) (after_first b tape m i).memory).answer
  -- The records are the bytes of the call, eight by eight, and each comes to the board and the memory that the one before it has left.
  pub eight : (i j : ℕ) → j < 8 → get_or (record_of b tape i) j 0 ≡ get_or (call_bytes b tape) (8 * i + j) 0
  pub start : ((after_first b tape m 0).board ≡ b) × ((after_first b tape m 0).memory ≡ m)
  pub goes_on_law : (i : ℕ)
      → ((after_first b tape m (suc i)).board ≡ (step_of (after_first b tape m i).board (record_of b tape i) (after_first b tape m i).memory).board)
      × ((after_first b tape m (suc i)).memory ≡ step_memory (after_first b tape m i).board (record_of b tape i) (after_first b tape m i).memory)
  pub rest : drop (16 * whole_records b tape) (fed_answers b tape m answers) ≡ drop (16 * whole_records b tape) answers
  pub long : length (fed_answers b tape m answers) ≡ length answers
  -- Chips, lines and memory are those that the k records leave.
  -- Not so: a board that answers rightly and forgets what it did; one that hands the memory back as it was.
  pub icu : (fed_of b tape m (length answers)).board.icu ≡ (after_first b tape m (whole_records b tape)).board.icu
  pub intp : (fed_of b tape m (length answers)).board.intp ≡ (after_first b tape m (whole_records b tape)).board.intp
  pub slave : (fed_of b tape m (length answers)).board.slave ≡ (after_first b tape m (whole_records b tape)).board.slave
  pub slaveintp : (fed_of b tape m (length answers)).board.slaveintp ≡ (after_first b tape m (whole_records b tape)).board.slaveintp
  pub timer : (fed_of b tape m (length answers)).board.timer ≡ (after_first b tape m (whole_records b tape)).board.timer
  pub dma : (fed_of b tape m (length answers)).board.dma ≡ (after_first b tape m (whole_records b tape)).board.dma
  pub memory : fed_memory b tape m (length answers) ≡ (after_first b tape m (whole_records b tape)).memory
  -- The bytes past the last whole record are kept, with zeros after them.
  -- Not so: a board that keeps the last seven bytes of the tape; one that forgets a cut record.
  pub kept_length : (fed_of b tape m (length answers)).board.kept.length ≡ (b.kept.length + length tape) % 8
  pub kept_bytes : (i : ℕ) → i < 7
      → get_or (fed_of b tape m (length answers)).board.kept.bytes i 0 ≡ get_or (call_bytes b tape) (8 * whole_records b tape + i) 0

-- What holds of any call: any board, tape, memory and buffer.
pub record OfCall (b : Board) (tape m answers : List ℕ) : Type 0 where
  -- A call's status is 0 or 7.
  -- Not so: a board that hands a record's status to the caller; one that returns how many answers did not fit.
  pub call_status : ((fed_of b tape m (length answers)).status ≡ 0) ⊎ ((fed_of b tape m (length answers)).status ≡ 7)
  -- 7: a field of the board is outside its range, or 16 k bytes exceed the answer buffer, for the k records that the call completes.
  -- Not so: a board that answers as many records as fit; one that refuses a buffer that fits exactly.
  pub row_7 : ((fed_of b tape m (length answers)).status ≡ 7)
      ↔ (not (in_range b and leb (16 * whole_records b tape) (length answers)) ≡ true)
  -- A call with 7 leaves state, kept bytes, memory and buffer, and takes nothing.
  -- Not so: a board that keeps the tape's bytes for later; one that clears the buffer first.
  pub refused_call : (fed_of b tape m (length answers)).status ≡ 7
      → ((fed_of b tape m (length answers)).board ≡ b)
      × ((fed_of b tape m (length answers)).records ≡ 0)
      × (fed_memory b tape m (length answers) ≡ m)
      × (fed_answers b tape m answers ≡ answers)
  pub taken_call : (fed_of b tape m (length answers)).status ≡ 0 → Taken b tape m answers

pub record Demand1 : Type 0 where
  pub of_record : (b : Board) (r m : List ℕ) → OfRecord b r m
  pub of_call : (b : Board) (tape m answers : List ℕ) → OfCall b tape m answers
