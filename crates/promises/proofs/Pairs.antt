-- Words in pairs: of the places below 2^24 there are 2^23 even pairs, and what holds of pairs by their numbers holds of their places, twice as far.
use mathlib.Core.Path.{◌≡◌}
use mathlib.Core.Logic.{◌≢◌}
use Prim.Native.Nat.{ℕ, ◌+◌, ◌-◌, ◌*◌, ◌/◌, ◌%◌, ◌≤◌, ◌<◌}
use native.Mathlib.Omega.{arith}
use Rattle.bits.specs.Bits.{less}

-- The pair of the address that is i words on.
pub pair_up : (a i : ℕ) → (a + 2 * i) % 16777216 / 2 ≡ (a / 2 + i) % 8388608
pair_up a i = omega arith

pub pair_down : (a i : ℕ) → i ≤ 8388608 → (a + 16777216 - 2 * i) % 16777216 / 2 ≡ (a / 2 + 8388608 - i) % 8388608
pair_down a i h = omega arith

-- The distance of two pairs.
pub apart : (x y : ℕ) → x < 8388608 → y < 8388608 → (x * 2 + 16777216 - y * 2) % 16777216 ≡ (x + 8388608 - y) % 8388608 * 2
apart x y g l = omega arith

-- A pair that is more than n on, from the next one: more than n - 1.
pub nearer_up : (x y n : ℕ) → x < 8388608 → y < 8388608 → n ≢ 0 → n < (x + 8388608 - y) % 8388608 → less n < (x + 8388608 - (y + 1) % 8388608) % 8388608
nearer_up x y n g l ne h = omega arith

pub nearer_down : (x y n : ℕ) → x < 8388608 → y < 8388608 → n ≢ 0 → n < (y + 8388608 - x) % 8388608 → less n < ((y + 8388608 - 1) % 8388608 + 8388608 - x) % 8388608
nearer_down x y n g l ne h = omega arith

-- The pair i on is i on, and no other of those in reach is.
pub on_up : (y i : ℕ) → y < 8388608 → i < 8388608 → ((y + i) % 8388608 + 8388608 - y) % 8388608 ≡ i
on_up y i l h = omega arith

pub on_down : (y i : ℕ) → y < 8388608 → i < 8388608 → (y + 8388608 - (y + 8388608 - i) % 8388608) % 8388608 ≡ i
on_down y i l h = omega arith

pub same_up : (y i j : ℕ) → i < 65536 → j < 65536 → (y + i) % 8388608 ≡ (y + j) % 8388608 → i ≡ j
same_up y i j h k e = omega arith

pub same_down : (y i j : ℕ) → i < 65536 → j < 65536 → (y + 8388608 - i) % 8388608 ≡ (y + 8388608 - j) % 8388608 → i ≡ j
same_down y i j h k e = omega arith
