-- The answer to a record: sixteen bytes.
use Rattle.std.specs.Prelude.{ℕ, ◌/◌, ◌%◌, List, [], ◌∷◌, get_or}

-- Twelve bytes of payload: those of p, and zero where it has none.
abbrev pub twelve : List ℕ → List ℕ
twelve p =
    get_or p 0 0
    ∷ get_or p 1 0
    ∷ get_or p 2 0
    ∷ get_or p 3 0
    ∷ get_or p 4 0
    ∷ get_or p 5 0
    ∷ get_or p 6 0
    ∷ get_or p 7 0
    ∷ get_or p 8 0
    ∷ get_or p 9 0
    ∷ get_or p 10 0
    ∷ get_or p 11 0
    ∷ []

-- Byte 0 is the status, 1 the operation as it was read, 2 the data, 3 the levels after the record; 4 to 15 are the payload.
unfoldable pub answer_of : ℕ → ℕ → ℕ → ℕ → List ℕ → List ℕ
answer_of status op x levels payload = status ∷ op ∷ x ∷ levels ∷ twelve payload

-- A number as four bytes, little end first.
abbrev pub little_of : ℕ → List ℕ
little_of x = x % 256 ∷ x / 256 % 256 ∷ x / 65536 % 256 ∷ x / 16777216 % 256 ∷ []
