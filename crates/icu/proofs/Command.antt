-- A PFCW by one number: D7 D6 D5 are the bits of x / 32.
use mathlib.Core.Path.{◌≡◌}
use Prim.Native.Nat.{ℕ, ◌/◌, ◌%◌}
use native.Mathlib.Omega.{arith}
use Rattle.bits.specs.Bits.{bit_of}
use Rattle.icu.specs.declared.Icu.{Icu}
use Rattle.icu.specs.Words.{commanded, pfcw}

module _ (x : ℕ) where
  d7 : bit_of x 7 ≡ bit_of (x / 32) 2
  unfolding bit_of
  d7 = let e : x / 128 % 2 ≡ x / 32 / 4 % 2 = omega arith in rw e

  d6 : bit_of x 6 ≡ bit_of (x / 32) 1
  unfolding bit_of
  d6 = let e : x / 64 % 2 ≡ x / 32 / 2 % 2 = omega arith in rw e

  d5 : bit_of x 5 ≡ bit_of (x / 32) 0
  unfolding bit_of
  d5 = let e : x / 32 / 1 ≡ x / 32 = omega arith in rw e

-- the command of each number
pub by_number : (c : Icu) (x k : ℕ) → x / 32 ≡ k → commanded (bit_of k 2) (bit_of k 1) (bit_of k 0) c (x % 8) ≡ pfcw c x
unfolding pfcw
by_number c x k e = rw (d7 x, d6 x, d5 x, e)

pub pfcw_is : (c : Icu) (x : ℕ) → pfcw c x ≡ commanded (bit_of (x / 32) 2) (bit_of (x / 32) 1) (bit_of (x / 32) 0) c (x % 8)
unfolding pfcw
pfcw_is c x = rw (d7 x, d6 x, d5 x)
