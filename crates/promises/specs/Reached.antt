-- The boards reached from reset: each field in its range, zeros past the kept bytes, and the end of any record inside a call.
use Rattle.std.specs.Prelude.{◌≡◌, true, false, List, ℕ, ◌-◌, ◌*◌, ◌≤◌, ◌<◌, get_or, take, length}
use Rattle.bits.specs.Bits.{bit_of}
use Rattle.icu.specs.declared.Icu.{Icu}
use Rattle.timer.specs.Timer.{at}
use Rattle.dma.specs.Fields.{chan}
use Rattle.board.specs.declared.Board.{Board}
use Rattle.board.specs.Wiring.{nothing_kept, fresh_of}
use Rattle.board.specs.Step.{step_of, step_memory}
use Rattle.board.specs.Records.{after}
use Rattle.intake.specs.Ranges.{in_range}
use Rattle.intake.specs.Feed.{bytes_of, count_of, fed_of}

-- Every number of a list is a byte.
abbrev pub Bytes : List ℕ → Type 0
Bytes l = (i : ℕ) → get_or l i 0 < 256

-- A board is reached if some calls lead to it from a board that was never fed, each with some tape and memory of bytes, and some
-- buffer. A call ends at the end of a record, and may keep the bytes of a cut one. (The end of any record inside a call is reached, too: see
-- inside_a_call.)
pub data Reached : Board → Type 0 where
  unfed : Reached fresh_of
  fed : {b : Board} (tape memory : List ℕ) (room : ℕ) → Bytes tape → Bytes memory → Reached b → Reached (fed_of b tape memory room).board

-- What the types of the program say of an interrupt chip, and of every board: three counters, four channels, room for seven kept bytes, and the width of each
-- number that its range leaves to its type.
pub record TypedIcu (c : Icu) : Type 0 where
  pub iw1 : c.iw1 < 256
  pub iw2 : c.iw2 < 256
  pub edges : c.edges < 256
  pub isr : c.isr < 256
  pub imr : c.imr < 256

pub record Typed (b : Board) : Type 0 where
  pub icu : TypedIcu b.icu
  pub intp : b.intp < 256
  pub slave : TypedIcu b.slave
  pub slaveintp : b.slaveintp < 256
  pub three : length b.timer.counters ≡ 3
  pub value : (n : ℕ) → (at b.timer n).value < 65536
  pub count : (n : ℕ) → (at b.timer n).count < 65536
  pub latch : (n : ℕ) → (at b.timer n).latch < 65536
  pub low : (n : ℕ) → (at b.timer n).low < 256
  pub four : length b.dma.channels ≡ 4
  pub current_count : (n : ℕ) → (chan b.dma n).current.count < 65536
  pub base_count : (n : ℕ) → (chan b.dma n).base.count < 65536
  pub mode : (n : ℕ) → (chan b.dma n).mode < 256
  pub seven : length b.kept.bytes ≡ 7
  pub kept : Bytes b.kept.bytes

-- A board with no byte of a cut record kept.
abbrev pub uncut : Board → Board
uncut b =
    record { icu = b.icu; intp = b.intp; slave = b.slave; slaveintp = b.slaveintp; timer = b.timer; dma = b.dma; kept = nothing_kept }

pub record ReachedBoards : Type 0 where
  -- Whatever tapes, memories and buffers the calls are given, the next call finds each field in its range, and is never refused for one.
  -- Not so: a board that makes level 8 lowest after a finish command with nothing in service; one that stores an unbuilt DMA mode
  -- and refuses it afterwards.
  pub in_range_law : {b : Board} → Reached b → in_range b ≡ true
  -- No number is wider than its type, either.
  -- Not so: a board that loses a channel when it writes it back; one whose count goes past FFFFH.
  pub typed : {b : Board} → Reached b → Typed b
  -- While the bus has 8 bits, no channel is set to move words.
  -- Not so: a board that takes a word mode on that bus; one on which the bus can be made narrow while a word mode stands.
  pub narrow : {b : Board} → Reached b → b.dma.wide ≡ false → (k : ℕ) → bit_of (chan b.dma k).mode 0 ≡ false
  -- Past the bytes of a cut record there are zeros.
  -- Not so: a board that keeps the last seven bytes of the tape, and says how many of them count.
  pub zeros_after : {b : Board} → Reached b → (i : ℕ) → b.kept.length ≤ i → get_or b.kept.bytes i 0 ≡ 0
  -- A call with a tape of bytes, taken or refused, on any board in its ranges and typed, also on one that no tape reaches, leaves such a board.
  -- Not so: a board that takes a call and leaves a field at which the next call is refused; one that keeps eight bytes.
  pub goes_on_law : (b : Board) → in_range b ≡ true → Typed b → (tape memory : List ℕ) (room : ℕ) → Bytes tape
      → (in_range (fed_of b tape memory room).board ≡ true) × Typed (fed_of b tape memory room).board
  -- The end of a record inside a call, once the first i of its records are done: a call whose tape ends there leaves that board. (`after` still shows the bytes that b kept; the first record has used them
  -- up, and `uncut` takes them away.)
  -- Not so: a board that gives the bus back whenever a call ends; one that forgets half a count there.
  pub ends_there : (b : Board) → in_range b ≡ true → Typed b → (tape memory : List ℕ) (i room : ℕ)
      → i ≤ count_of b tape
      → b.kept.length ≤ 8 * i
      → 16 * i ≤ room
      → (fed_of b (take (8 * i - b.kept.length) tape) memory room).board ≡ uncut (after b memory (bytes_of b tape) i).board
  -- So the end of any record is reached, inside a call too (and with i = 0 that of the last record before the call).
  pub inside_a_call : {b : Board} → Reached b → (tape memory : List ℕ) → Bytes tape → Bytes memory → (i : ℕ)
      → i ≤ count_of b tape
      → Reached (uncut (after b memory (bytes_of b tape) i).board)
  -- And the kept bytes have no part in a record: on that board it does what it does inside the call. So whatever is said of each reached board is said
  -- of the end of any record.
  -- Not so: a board that answers otherwise while bytes are kept.
  pub kept_apart : (b : Board) (r m : List ℕ)
      → ((step_of (uncut b) r m).board ≡ uncut (step_of b r m).board)
      × ((step_of (uncut b) r m).answer ≡ (step_of b r m).answer)
      × (step_memory (uncut b) r m ≡ step_memory b r m)
