-- The bytes that a call leaves for the next.
use Rattle.std.specs.Prelude.{ℕ, ◌+◌, ◌*◌, List, [], ◌∷◌, get_or}

-- What stands from 8 i on, seven bytes at most, with zeros after it.
unfoldable pub rest_at : List ℕ → ℕ → List ℕ
rest_at s i =
    get_or s (8 * i) 0
    ∷ get_or s (8 * i + 1) 0
    ∷ get_or s (8 * i + 2) 0
    ∷ get_or s (8 * i + 3) 0
    ∷ get_or s (8 * i + 4) 0
    ∷ get_or s (8 * i + 5) 0
    ∷ get_or s (8 * i + 6) 0
    ∷ []
