-- A flag as a number, and what is added for one.
use mathlib.Core.Bool.{Bool, true, false}
use mathlib.Core.Path.{◌≡◌}
use Prim.Native.Nat.{ℕ, ◌+◌, ◌*◌}
use native.Mathlib.Omega.{arith}
use mir.Val.{bool_byte}
use Rattle.std.specs.Prelude.{if◌then◌else◌}

pub added : (q : Bool) (n k : ℕ) → n + k * bool_byte q ≡ (if q then n + k else n)
added true n k = omega arith
added false n k = omega arith
