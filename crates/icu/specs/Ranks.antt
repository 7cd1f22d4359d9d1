-- Ranks. With lowest level l they run l + 1, l + 2 and so on modulo 8, down to l itself.
use Rattle.std.specs.Prelude.{ℕ, zero, suc, ◌+◌, ◌-◌, ◌%◌, Bool, ltb, if◌then◌else◌, Option, Some, None}
use Rattle.bits.specs.Bits.{bit_of}

-- The level of rank k; rank 0 is the highest.
abbrev pub level_at : ℕ → ℕ → ℕ
level_at l k = (l + 1 + k) % 8

-- The rank of level n: how far it stands past l + 1.
unfoldable pub rank_of : ℕ → ℕ → ℕ
rank_of l n = (n % 8 + 7 - l % 8) % 8

-- Level n outranks level m. No level outranks itself.
abbrev pub outranks : ℕ → ℕ → ℕ → Bool
outranks l n m = ltb (rank_of l n) (rank_of l m)

-- The highest-ranked level whose bit is set in x: the first one, rank by rank. 8 says that there is none.
unfoldable pub highest_from : ℕ → ℕ → ℕ → ℕ → ℕ
highest_from x l k zero = 8
highest_from x l k (suc left) = if bit_of x (level_at l k) then level_at l k else highest_from x l (suc k) left

unfoldable pub highest_of : ℕ → ℕ → ℕ
highest_of x l = highest_from x l 0 8

-- A level that was looked for, in the numbers of `highest_of`.
abbrev pub level_or_8 : Option ℕ → ℕ
level_or_8 (Some n) = n
level_or_8 None = 8
