-- The records that a run of bytes makes, one after another.
use Rattle.std.specs.Prelude.{ℕ, zero, suc, ◌+◌, ◌*◌, ◌/◌, List, [], ◌∷◌, ◌++◌, ltb, length, get_or, if◌then◌else◌}
use Rattle.board.specs.declared.Board.{Board}
use Rattle.board.specs.Step.{step_of, step_memory}

-- Record i: the eight bytes from 8 i on.
unfoldable pub record_at : List ℕ → ℕ → List ℕ
record_at s i =
    get_or s (8 * i) 0
    ∷ get_or s (8 * i + 1) 0
    ∷ get_or s (8 * i + 2) 0
    ∷ get_or s (8 * i + 3) 0
    ∷ get_or s (8 * i + 4) 0
    ∷ get_or s (8 * i + 5) 0
    ∷ get_or s (8 * i + 6) 0
    ∷ get_or s (8 * i + 7) 0
    ∷ []

-- Where a run stands: the board, the memory, and the answers so far.
pub record Run : Type 0 where
  pub board : Board
  pub memory : List ℕ
  pub answers : List ℕ

-- One record more.
abbrev pub next : Run → List ℕ → Run
next s r =
    record {
      board = (step_of s.board r s.memory).board;
      memory = step_memory s.board r s.memory;
      answers = s.answers ++ (step_of s.board r s.memory).answer;
    }

-- The first n records of the bytes s, one after another.
unfoldable pub after : Board → List ℕ → List ℕ → ℕ → Run
after b m s zero = record { board = b; memory = m; answers = [] }
after b m s (suc n) = next (after b m s n) (record_at s n)

-- A run takes the whole records of its bytes, as many as there is room to answer.
abbrev pub fitting : List ℕ → ℕ → ℕ
fitting s room = if ltb (room / 16) (length s / 8) then room / 16 else length s / 8

abbrev pub run_of : Board → List ℕ → List ℕ → ℕ → Run
run_of b m s room = after b m s (fitting s room)
