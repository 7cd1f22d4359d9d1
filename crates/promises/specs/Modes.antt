-- What holds in all six modes of the timer alike.
use Rattle.std.specs.Prelude.{◌≡◌, List, true, false, ℕ, ◌+◌, ◌*◌, ◌<◌, get_or}
use Rattle.timer.specs.Modes.{moded}
use Rattle.timer.specs.Run.{ran_of}
use Rattle.timer.specs.Timer.{at}
use Rattle.board.specs.declared.Board.{Board}
use Rattle.board.specs.Step.{step_of}
use Rattle.board.specs.Records.{after}
use Rattle.promises.specs.Records.{advancing}
use Rattle.promises.specs.Words.{data_in}
use Rattle.promises.specs.TaughtWords.{Unread, read_at}

-- How often OUT of counter n rose, as the answer to an advance reports it: four bytes, little end first.
abbrev pub rises_in : ℕ → List ℕ → ℕ
rises_in n a =
    get_or a (4 + 4 * n) 0 + get_or a (5 + 4 * n) 0 * 256 + get_or a (6 + 4 * n) 0 * 65536 + get_or a (7 + 4 * n) 0 * 16777216

pub record Modes : Type 0 where
  -- A pulse changes no other counter: an advance of k pulses leaves counter n as k pulses of it alone leave it (`ran_of`), whatever the other two are
  -- and do, and the rises that it reports for counter n are those of counter n alone. So boards with the same counter n have the same one afterwards.
  -- Not so: a board on which OUT of one counter clocks the next; one that stops all three while one GATE is low.
  pub no_other_counter : (b : Board) (m : List ℕ) (n k : ℕ) → n < 3
      → k < 65536
      → (at (step_of b (advancing k) m).board.timer n ≡ (ran_of (at b.timer n) k).counter)
      × (rises_in n (step_of b (advancing k) m).answer ≡ (ran_of (at b.timer n) k).rises)
  -- A latch holds. Counter n has a mode and is latched, and any records come, pulses, count bytes, latches, gates, refused ones, but no accepted reset, mode word for this counter, or read of
  -- it: its latch stays as it is, and a read, once the bus is free, is taken and answers what it would have answered at first.
  -- Not so: a board whose latch follows the counter; one on which a second latch replaces the first.
  pub latch_holds : (b : Board) (m s : List ℕ) (n k : ℕ) → n < 3
      → moded (at b.timer n) ≡ true
      → (at b.timer n).latched ≡ true
      → Unread n b m s k
      → ((at (after b m s k).board.timer n).latched ≡ true)
      × ((at (after b m s k).board.timer n).latch ≡ (at b.timer n).latch)
      × (b.dma.serving ≡ false
      → (after b m s k).board.dma.serving ≡ false
      → (get_or (read_at (after b m s k).board (after b m s k).memory n).answer 0 0 ≡ 0)
      × (data_in (read_at (after b m s k).board (after b m s k).memory n).answer ≡ data_in (read_at b m n).answer))
