-- The open ports, by the stretches that the code names.
use Prim.Native.Nat.{ℕ, ◌<◌, ◌≤◌}
use mathlib.Core.Bool.{Bool, true, false}
use mathlib.Core.Path.{◌≡◌}
use native.Mathlib.Omega.{arith}
use lib.Dec.{leb}
use borrow.Author.Tests.{le-leb, lt-leb}
use Rattle.bits.specs.Choice.{every}
use Rattle.std.specs.Prelude.{if◌then◌else◌}
use Rattle.bits.proofs.Every.{alike}
use Rattle.tape.specs.Records.{writable, readable}

abbrev within : ℕ → ℕ → ℕ → Bool
within a b p = if leb a p then leb p b else false

abbrev writable_by : ℕ → Bool
writable_by p =
    if within 0 1 p then true
    else if within 16 19 p then true
    else if within 32 38 p then true
    else if within 40 42 p then true
    else within 44 49 p

abbrev readable_by : ℕ → Bool
readable_by p =
    if within 0 1 p then true
    else if within 16 18 p then true
    else if within 33 38 p then true
    else within 40 49 p

-- all ports in one computed test
pub writable_is : (p : ℕ) → p < 256 → writable p ≡ writable_by p
unfolding writable every
writable_is p h = alike writable writable_by 256 tt p h

pub readable_is : (p : ℕ) → p < 256 → readable p ≡ readable_by p
unfolding readable every
readable_is p h = alike readable readable_by 256 tt p h

-- a port against a stretch
pub inside : (a b p : ℕ) → a ≤ p → p ≤ b → within a b p ≡ true
inside a b p h k = rw (le-leb _ _ h, le-leb _ _ k)

pub below : (a b p : ℕ) → p < a → within a b p ≡ false
below a b p h = rw (lt-leb _ _ h)

pub above : (a b p : ℕ) → a ≤ p → b < p → within a b p ≡ false
above a b p h k = rw (le-leb _ _ h, lt-leb _ _ k)
