-- The records of which the statements speak, byte by byte.
use Rattle.std.specs.Prelude.{ℕ, ◌/◌, ◌%◌, List, [], ◌∷◌, ◌++◌}

-- A write of x to port p, and a read of port p.
abbrev pub writing : ℕ → ℕ → List ℕ
writing p x = 1 ∷ p ∷ x ∷ 0 ∷ 0 ∷ 0 ∷ 0 ∷ 0 ∷ []

abbrev pub reading : ℕ → List ℕ
reading p = 2 ∷ p ∷ 0 ∷ 0 ∷ 0 ∷ 0 ∷ 0 ∷ 0 ∷ []

-- A group of lines (0 INTP, 1 gates, 2 DMA requests, 3 the slave's) at some levels.
abbrev pub setting : ℕ → ℕ → List ℕ
setting group levels = 3 ∷ group ∷ levels ∷ 0 ∷ 0 ∷ 0 ∷ 0 ∷ 0 ∷ []

abbrev pub acknowledging : List ℕ
acknowledging = 4 ∷ 0 ∷ 0 ∷ 0 ∷ 0 ∷ 0 ∷ 0 ∷ 0 ∷ []

-- An advance by n pulses, and by one.
abbrev pub advancing : ℕ → List ℕ
advancing n = 5 ∷ 0 ∷ 0 ∷ 0 ∷ n % 256 ∷ n / 256 % 256 ∷ n / 65536 % 256 ∷ n / 16777216 ∷ []

abbrev pub pulsing : List ℕ
pulsing = advancing 1

-- A DMA cycle with END e, for which the device has the byte x, and y as a word's upper one; and one with END 0 and the byte alone.
abbrev pub cycling_with : ℕ → ℕ → ℕ → List ℕ
cycling_with e x y = 6 ∷ e ∷ x ∷ y ∷ 0 ∷ 0 ∷ 0 ∷ 0 ∷ []

abbrev pub cycling : ℕ → List ℕ
cycling x = cycling_with 0 x 0

abbrev pub resetting : List ℕ
resetting = 0 ∷ 0 ∷ 0 ∷ 0 ∷ 0 ∷ 0 ∷ 0 ∷ 0 ∷ []

-- Records as one tape.
unfoldable pub joined : List (List ℕ) → List ℕ
joined [] = []
joined (r ∷ rest) = r ++ joined rest
