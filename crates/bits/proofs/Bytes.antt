-- Facts about bytes: each over all bytes and levels by one computed test, or past level 7 by arithmetic.
use Rattle.std.proofs.Common.{◌≡◌, ℕ, ◌-◌, ◌*◌, ◌%◌, ◌^◌, ◌<◌, ◌≤◌, false, lt_of_lt_of_le, arith, le-ltb}
use native.Mathlib.Nat.{div-eq_of_lt, pow-le-pow_right}
use lib.Bits.{bit_and, bit_or}
use Rattle.bits.specs.Choice.{every}
use Rattle.bits.specs.Bits.{bit_of, with_of, without_of}
use Rattle.bits.proofs.Every.{agree}

pub set_is : (x n : ℕ) → x < 256 → n < 8 → bit_or x (1 * 2 ^ n % 256) ≡ with_of x n
unfolding with_of bit_of every
set_is x n hx hn = agree (λ x n. bit_or x (1 * 2 ^ n % 256)) with_of 256 8 tt x n hx hn

pub clear_is : (x n : ℕ) → x < 256 → n < 8 → bit_and x (255 - 1 * 2 ^ n % 256) ≡ without_of x n
unfolding without_of bit_of every
clear_is x n hx hn = agree (λ x n. bit_and x (255 - 1 * 2 ^ n % 256)) without_of 256 8 tt x n hx hn

-- a byte has no bit past 7, so setting or clearing one there leaves it
module _ (x n : ℕ) (hx : x < 256) (hn : 8 ≤ n) where
  pub no_bit : bit_of x n ≡ false
  unfolding bit_of
  no_bit = rw (div-eq_of_lt (lt_of_lt_of_le hx (pow-le-pow_right {n = 2} (omega arith) hn)))

  pub set_past : with_of x n ≡ x
  unfolding with_of
  set_past = rw (no_bit, le-ltb _ _ hn)

  pub clear_past : without_of x n ≡ x
  unfolding without_of
  clear_past = rw no_bit
