-- The bits of a byte, by arithmetic. A byte has bits 0 to 7.
use Rattle.std.specs.Prelude.{ℕ, ◌+◌, ◌-◌, ◌/◌, ◌%◌, ◌^◌, Bool, ◌==◌, bit_and, nat_lt, if◌then◌else◌}

-- Bit n of x.
unfoldable pub bit_of : ℕ → ℕ → Bool
bit_of x n = x / 2 ^ n % 2 == 1

-- x with bit n set, and with bit n clear. There is no bit past 7 to set.
unfoldable pub with_of : ℕ → ℕ → ℕ
with_of x n = if bit_of x n then x else if nat_lt n 8 then x + 2 ^ n else x

unfoldable pub without_of : ℕ → ℕ → ℕ
without_of x n = if bit_of x n then x - 2 ^ n else x

-- The bits of x that the mask m leaves: those whose bit in m is clear.
unfoldable pub masked_of : ℕ → ℕ → ℕ
masked_of x m = bit_and x (255 - m)

-- A level as a bit of the weight w.
abbrev pub weighed : Bool → ℕ → ℕ
weighed level w = if level then w else 0

-- One less in 16 bits: 0 goes to FFFFH, so that a written 0 counts 65,536.
abbrev pub less : ℕ → ℕ
less n = (n + 65535) % 65536
