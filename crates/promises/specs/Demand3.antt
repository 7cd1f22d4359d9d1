-- Demand 3. Take any board reached from reset, at the end of a record, and any further tape on the same memory with no reset and no
-- accepted write to the DMA chip.
--
-- Words.antt has the words: answers_in, units_of, last_at (what answers report, by their bytes), width (how many bytes a channel's unit has), place_of, may_write (places and ranges),
-- Calm (no reset, no accepted write to the chip), CalmFrom and Further; Reached.antt has Reached.
use Rattle.std.specs.Prelude.{◌≡◌, List, ◌++◌, true, false, ℕ, ◌+◌, ◌≤◌, ◌<◌, get_or, drop, length}
use Rattle.dma.specs.declared.Dma.{Dma}
use Rattle.dma.specs.Fields.{chan}
use Rattle.board.specs.declared.Board.{Board}
use Rattle.board.specs.Records.{after}
use Rattle.intake.specs.Ranges.{in_range}
use Rattle.intake.specs.Feed.{bytes_of, fed_of, fed_memory, fed_answers}
use Rattle.promises.specs.Words.{answers_in, units_of, last_at, place_of, writes, auto, down, width, may_write, Calm, CalmFrom, Further}
use Rattle.promises.specs.Reached.{Reached, Typed}

-- What is promised of a run: from the DMA chip d and the memory m, with some answers, to the memory m'.
pub record Bounded (d : Dma) (m : List ℕ) (answers : List (List ℕ)) (m' : List ℕ) : Type 0 where
  -- Each channel k without autoinitialize moves at most its current count plus one units.
  -- Not so: a board that goes on after the end; one that serves a channel again though the end of its count has masked it.
  pub few : (k : ℕ) → auto (chan d k) ≡ false → length (units_of k answers) ≤ (chan d k).current.count + 1
  -- The first of them is at its current address, each further one a unit's width on in its direction, one place for bytes and two for words, modulo
  -- 16,777,216. (Unit i here is the demand's unit number i + 1.)
  -- Not so: a board whose address wraps at 65,536; one that always counts upwards; one whose words step by one.
  pub places : (k : ℕ)
      → auto (chan d k) ≡ false
      → (i : ℕ)
      → i < length (units_of k answers)
      → get_or (units_of k answers) i 0 ≡ place_of (chan d k).current.address (down (chan d k)) (width (chan d k)) i
  -- A memory byte stays unless some channel may write it: one that is set to write memory, and has the byte in its current range
  -- (current count plus one units: bytes, or even pairs of bytes) or, where it autoinitializes, in its base range.
  -- Not so: a board that clears memory at an end; one that writes on memory-to-device transfers too; one that puts a word at an odd address into the bytes there and above.
  pub others : (p : ℕ) → ((k : ℕ) → k < 4 → may_write p (chan d k) ≡ false) → get_or m' p 0 ≡ get_or m p 0
  -- Any byte ends as the data of the last answer that reports a unit there by a channel set to write memory, the odd byte of a word as that answer's byte 13; or as it
  -- was if none does.
  -- Not so: a board that moves a unit and answers "nothing"; one that reports a unit that it does not
  -- write, or other data than it writes; one that swaps the bytes of a word.
  pub ends : (p : ℕ) → p < length m → get_or m' p 0 ≡ last_at (λ k. writes (chan d k)) (λ k. width (chan d k)) p answers (get_or m p 0)
  -- The memory is as long as before.
  pub long : length m' ≡ length m

pub record Demand3 : Type 0 where
  -- It holds of any board reached, any bytes s, and any number n of records of them.
  pub demand_3 : {b : Board} → Reached b → (m s : List ℕ) (n : ℕ) → Calm b m s n
      → Bounded b.dma m (answers_in (after b m s n).answers n) (after b m s n).memory
  -- It holds of a board that no tape reaches, too, if only each field is in its range and no wider than its type.
  pub in_range_law : (b : Board) → in_range b ≡ true → Typed b → (m s : List ℕ) (n : ℕ) → Calm b m s n
      → Bounded b.dma m (answers_in (after b m s n).answers n) (after b m s n).memory
  -- And so for any number of calls, in which the tape may be cut anywhere, and some of which may be refused: the lent memory after the last of
  -- them, and the answers in their buffers, one buffer after another. The bytes that a call executes are those kept from the call before, and then its tape.
  -- Not so: a board that runs the records that fit and then refuses the call; one that moves a unit in a refused call.
  pub of_calls : {b : Board} → Reached b → {m : List ℕ} {answers : List (List ℕ)} {m' : List ℕ}
      → Further b m answers m'
      → Bounded b.dma m answers m'
  -- And so from the end of any record inside a call: of its records the first i are done, none from i on disturbs the chip, and
  -- further calls may follow. What counts is the chip and the memory as those i records leave them, and the answers after theirs.
  -- Not so: a board that forgets, with a new call, how far a channel had come; one that moves units between two calls.
  pub from_inside : {b : Board} → Reached b → (tape m buffer : List ℕ) (i : ℕ)
      → i ≤ (fed_of b tape m (length buffer)).records
      → CalmFrom i b m (bytes_of b tape) (fed_of b tape m (length buffer)).records
      → {more : List (List ℕ)} {m' : List ℕ}
      → Further (fed_of b tape m (length buffer)).board (fed_memory b tape m (length buffer)) more m'
      → Bounded (after b m (bytes_of b tape) i).board.dma (after b m (bytes_of b tape) i).memory
      (drop i (answers_in (fed_answers b tape m buffer) (fed_of b tape m (length buffer)).records) ++ more)
      m'
