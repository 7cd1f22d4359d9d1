-- The search by turning: with the byte turned right so that the first rank is bit 0, the zero bits below the lowest one are the ranks above the level found.
use mathlib.Core.Path.{◌≡◌, refl, ◌∙◌}
use Prim.Native.Nat.{ℕ, zero, suc, ◌+◌, ◌%◌, ◌<◌}
use native.Mathlib.Omega.{arith}
use lib.Dec.{eqb}
use borrow.Author.Tests.{ne_eqb}
use lib.Count.{count_trailing_zeros}
use Rattle.bits.specs.Choice.{every}
use Rattle.std.specs.Prelude.{if◌then◌else◌}
use Rattle.std.specs.Int.{w8, rotate_right}
use Rattle.bits.specs.Bits.{bit_of}
use Rattle.bits.proofs.Every.{agree}
use Rattle.icu.specs.Ranks.{level_at, highest_from, highest_of}

-- what the code works out, where the lowest level is below 8
abbrev by_turning : ℕ → ℕ → ℕ
by_turning x l = if eqb x 0 then 8 else ((l + 1) % 8 + count_trailing_zeros 8 (rotate_right w8 x ((l + 1) % 8))) % 8

all : (x l : ℕ) → x < 256 → l < 8 → highest_of x l ≡ by_turning x l
unfolding highest_of highest_from bit_of count_trailing_zeros every
all x l hx hl = agree highest_of by_turning 256 8 tt x l hx hl

-- the lowest level counts modulo 8
within_8 : (x l k left : ℕ) → highest_from x l k left ≡ highest_from x (l % 8) k left
unfolding highest_from
within_8 x l k zero = refl
within_8 x l k (suc left) = rw (same_level, within_8 x l (suc k) left)
  where
    same_level : level_at l k ≡ level_at (l % 8) k
    same_level = omega arith

pub by_turning_law : (x l : ℕ) → x < 256 → highest_of x l ≡ by_turning x (l % 8)
unfolding highest_of
by_turning_law x l h = within_8 x l 0 8 ∙ all x (l % 8) h (omega arith)

pub none_set : (x l : ℕ) → x ≡ 0 → highest_of x l ≡ 8
none_set x l e = rw e (by_turning_law 0 l (omega arith))

pub found : (x l : ℕ) → x < 256 → (x ≡ 0 → ⊥) → highest_of x l ≡ ((l % 8 + 1) % 8 + count_trailing_zeros 8 (rotate_right w8 x ((l % 8 + 1) % 8))) % 8
found x l h n = by_turning_law x l h ∙ rw (ne_eqb x 0 n)
