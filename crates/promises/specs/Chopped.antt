-- A chopped tape: a link delivers it in whatever lumps it likes, and a long advance may be written as two. The cuts change nothing.
--
-- What a call is, when it is taken, its records and its answers: Demand1.antt. The record of an advance: Records.antt. The rises that its answer reports: Modes.antt.
use Rattle.std.specs.Prelude.{◌≡◌, List, [], ◌∷◌, ◌++◌, true, ℕ, ◌+◌, ◌*◌, ◌/◌, ◌≤◌, ◌<◌, get_or, length, take, drop}
use Rattle.board.specs.declared.Board.{Board}
use Rattle.board.specs.declared.Stepped.{Stepped}
use Rattle.board.specs.Step.{step_of, step_memory}
use Rattle.board.specs.Records.{Run, after}
use Rattle.intake.specs.Ranges.{in_range}
use Rattle.intake.specs.Feed.{fed_of, fed_memory, fed_answers}
use Rattle.promises.specs.Records.{advancing}
use Rattle.promises.specs.Modes.{rises_in}
use Rattle.promises.specs.Reached.{Reached, Typed}
use Rattle.promises.specs.Demand1.{whole_records}

-- A lump: some bytes of a tape, or none, and the buffer that is lent with them.
pub record Lump : Type 0 where
  pub tape : List ℕ
  pub buffer : List ℕ

-- What calls leave: how many records they took, the board, the memory, and their answers, joined.
pub record Left : Type 0 where
  pub records : ℕ
  pub board : Board
  pub memory : List ℕ
  pub answers : List ℕ

-- One call. Its answers are the first bytes of the buffer, sixteen for each record that it took.
abbrev pub called : Board → List ℕ → Lump → Left
called b m l =
    record {
      records = (fed_of b l.tape m (length l.buffer)).records;
      board = (fed_of b l.tape m (length l.buffer)).board;
      memory = fed_memory b l.tape m (length l.buffer);
      answers = take (16 * (fed_of b l.tape m (length l.buffer)).records) (fed_answers b l.tape m l.buffer);
    }

-- What one call leaves, and then what more calls leave.
abbrev pub followed_by : Left → Left → Left
followed_by one more =
    record {
      records = one.records + more.records;
      board = more.board;
      memory = more.memory;
      answers = one.answers ++ more.answers;
    }

-- Lump by lump: each call finds the board and the memory that the one before it has left.
unfoldable pub lump_by_lump : Board → List ℕ → List Lump → Left
lump_by_lump b m [] = record { records = 0; board = b; memory = m; answers = [] }
lump_by_lump b m (l ∷ more) = followed_by (called b m l) (lump_by_lump (called b m l).board (called b m l).memory more)

-- The tape that the lumps are lumps of.
unfoldable pub joined_tape : List Lump → List ℕ
joined_tape [] = []
joined_tape (l ∷ more) = l.tape ++ joined_tape more

-- A call has room for its answers; a call is taken.
abbrev pub Room : Board → List ℕ → Lump → Type 0
Room b m l = 16 * whole_records b l.tape ≤ length l.buffer

abbrev pub IsTaken : Board → List ℕ → Lump → Type 0
IsTaken b m l = (fed_of b l.tape m (length l.buffer)).status ≡ 0

-- Each of the calls is such, on the board and the memory that it finds.
pub data Each (Such : Board → List ℕ → Lump → Type 0) : Board → List ℕ → List Lump → Type 0 where
  none : {b : Board} {m : List ℕ} → Each Such b m []
  call : {b : Board} {m : List ℕ} {l : Lump} {more : List Lump}
      → Such b m l
      → Each Such (called b m l).board (called b m l).memory more
      → Each Such b m (l ∷ more)

-- Two lumps, and all of it in one. The second call finds what the first has left.
abbrev pub second : Board → List ℕ → Lump → Lump → Left
second b m x y = called (called b m x).board (called b m x).memory y

pub record InTwo (b : Board) (m : List ℕ) (x y all : Lump) : Type 0 where
  pub taken : IsTaken b m x × IsTaken (called b m x).board (called b m x).memory y × IsTaken b m all
  pub records : (called b m x).records + (second b m x y).records ≡ (called b m all).records
  pub board : (second b m x y).board ≡ (called b m all).board
  pub memory : (second b m x y).memory ≡ (called b m all).memory
  pub answers : (called b m x).answers ++ (second b m x y).answers ≡ (called b m all).answers

-- An advance of i pulses; one of j pulses after one of i.
abbrev pub advanced : Board → List ℕ → ℕ → Stepped
advanced b m i = step_of b (advancing i) m

abbrev pub advanced_on : Board → List ℕ → ℕ → ℕ → Stepped
advanced_on b m i j = step_of (advanced b m i).board (advancing j) (step_memory b (advancing i) m)

pub record AdvanceInTwo (b : Board) (m : List ℕ) (i j : ℕ) : Type 0 where
  -- The two are accepted, and so is one of i + j: byte 0 of an answer is the status.
  pub accepted : (get_or (advanced b m i).answer 0 0 ≡ 0)
      × (get_or (advanced_on b m i j).answer 0 0 ≡ 0)
      × (get_or (advanced b m (i + j)).answer 0 0 ≡ 0)
  pub board : (advanced_on b m i j).board ≡ (advanced b m (i + j)).board
  pub memory : step_memory (advanced b m i).board (advancing j) (step_memory b (advancing i) m) ≡ step_memory b (advancing (i + j)) m
  -- Byte 3 has the levels.
  pub levels : get_or (advanced_on b m i j).answer 3 0 ≡ get_or (advanced b m (i + j)).answer 3 0
  -- The rises of OUT0, OUT1 and OUT2: those of the two add up to those of the one.
  pub rises : (n : ℕ) → n < 3
      → rises_in n (advanced b m i).answer + rises_in n (advanced_on b m i j).answer ≡ rises_in n (advanced b m (i + j)).answer

-- A tape has an advance between the bytes s and t: one of i + j pulses, or one of i and then one of j. With k records in s (which may begin with the bytes that a call
-- finds kept): what all of them leave, up to n records of t.
abbrev pub with_one : Board → List ℕ → List ℕ → List ℕ → ℕ → ℕ → ℕ → ℕ → Run
with_one b m s t i j k n = after b m (s ++ advancing (i + j) ++ t) (k + (1 + n))

abbrev pub with_two : Board → List ℕ → List ℕ → List ℕ → ℕ → ℕ → ℕ → ℕ → Run
with_two b m s t i j k n = after b m (s ++ advancing i ++ advancing j ++ t) (k + (2 + n))

pub record Chopped : Type 0 where
  -- A tape cut in two anywhere: inside a record too, before the first byte or after the last. With room in each call the calls are taken, and leave the board that
  -- one call of the whole tape leaves, its kept bytes too, and that memory; their answers joined are its answers. It holds of any board in its
  -- ranges, also of one that no tape reaches. (Typed, of Reached.antt, holds of every board that a program can have.)
  -- Not so: a board that drops the last byte of a lump; one on which an empty lump makes it forget the bytes that it has kept.
  pub in_two : (b : Board) → in_range b ≡ true → Typed b → (m : List ℕ) (x y all : Lump)
      → all.tape ≡ x.tape ++ y.tape
      → Room b m x
      → Room (called b m x).board (called b m x).memory y
      → Room b m all
      → InTwo b m x y all
  -- The same for any list of lumps. There is one lump at least: a call that is taken, even with no byte, clears the bytes past the kept length. If no call is
  -- made, they stay, and a lent board may have other bytes than zeros there.
  -- Not so: a board that leaves there what stood there before; one that answers twice a record whose bytes come in three lumps.
  pub in_lumps : (b : Board) → in_range b ≡ true → Typed b → (m : List ℕ) (first : Lump) (more : List Lump) (all : Lump)
      → all.tape ≡ joined_tape (first ∷ more)
      → Each Room b m (first ∷ more)
      → Room b m all
      → Each IsTaken b m (first ∷ more) × IsTaken b m all × (lump_by_lump b m (first ∷ more) ≡ called b m all)
  -- On a board reached from reset the bytes past the kept length are zeros (Reached.antt, zeros_after). So the call of an empty lump is taken there and changes nothing.
  -- Not so: a board that drops its kept bytes at an empty lump; one that refuses it.
  pub empty_lump : {b : Board} → Reached b → (m buffer : List ℕ)
      → IsTaken b m (record { tape = []; buffer = buffer })
      × (called b m (record { tape = []; buffer = buffer }) ≡ record { records = 0; board = b; memory = m; answers = [] })
      × (fed_answers b [] m buffer ≡ buffer)
  -- Sixteen bytes of buffer for every eight bytes of a lump, or part of eight, are room, whatever is kept.
  -- Not so: a board whose ranges allow eight kept bytes, on which an empty lump would complete a record and need room.
  pub room_for : (b : Board) → in_range b ≡ true → (m : List ℕ) (l : Lump) → 16 * ((length l.tape + 7) / 8) ≤ length l.buffer → Room b m l
  -- An advance of i + j pulses, 65,535 at most, may be written as one of i and one of j, either of them 0. It holds of any board.
  -- Not so: a board that counts a rise at the cut twice; one that shows OUT0 to the interrupt chip only at the end of an advance.
  pub advance_in_two : (b : Board) (m : List ℕ) (i j : ℕ) → i + j < 65536 → AdvanceInTwo b m i j
  -- So in a tape: what comes before it and after it is answered alike, and the same board and memory are left.
  pub in_a_tape : (b : Board) (m s t : List ℕ) (i j k n : ℕ) → i + j < 65536
      → length s ≡ 8 * k
      → ((with_two b m s t i j k n).board ≡ (with_one b m s t i j k n).board)
      × ((with_two b m s t i j k n).memory ≡ (with_one b m s t i j k n).memory)
      × (take (16 * k) (with_two b m s t i j k n).answers ≡ take (16 * k) (with_one b m s t i j k n).answers)
      × (drop (16 * (k + 2)) (with_two b m s t i j k n).answers ≡ drop (16 * (k + 1)) (with_one b m s t i j k n).answers)
  -- An advance of 0 pulses changes nothing, and no OUT rises.
  -- Not so: a board on which each advance uses up a trigger.
  pub no_pulse : (b : Board) (m : List ℕ)
      → ((advanced b m 0).board ≡ b)
      × (step_memory b (advancing 0) m ≡ m)
      × ((n : ℕ) → n < 3 → rises_in n (advanced b m 0).answer ≡ 0)
