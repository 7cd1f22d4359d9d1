-- The search, rank by rank.
use mathlib.Core.Bool.{true, false}
use mathlib.Core.Path.{◌≡◌, ap, sym}
use Prim.Native.Nat.{ℕ, suc, ◌+◌, ◌-◌, ◌%◌, ◌<◌}
use native.Mathlib.Numerals.{add-one}
use native.Mathlib.Omega.{arith}
use Rattle.bits.specs.Bits.{bit_of}
use Rattle.icu.specs.Ranks.{highest_from, level_at}

-- the level of a rank, by a lowest level below 8
pub level_is : (l k : ℕ) → level_at l k ≡ (l % 8 + 1 + k) % 8
level_is l k = omega arith

-- past the last rank there is none
pub end : (x l k : ℕ) → k ≡ 8 → highest_from x l k (8 - k) ≡ 8
unfolding highest_from
end x l k e = rw e

-- a rank whose bit is set yields its level, another one the search of the ranks below it
module _ (x l k : ℕ) (h : k < 8) where
  left : 8 - k ≡ suc (8 - (k + 1))
  left = omega arith

  pub hit : bit_of x (level_at l k) ≡ true → highest_from x l k (8 - k) ≡ level_at l k
  unfolding highest_from
  hit e = rw (left, e)

  pub miss : bit_of x (level_at l k) ≡ false → highest_from x l k (8 - k) ≡ highest_from x l (k + 1) (8 - (k + 1))
  unfolding highest_from
  miss e = rw (left, e) (ap (λ (m : ℕ). highest_from x l m (8 - (k + 1))) (sym (add-one k)))
