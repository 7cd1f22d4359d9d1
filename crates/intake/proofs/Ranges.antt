-- What the range of a board says of its kept bytes.
use mathlib.Core.Bool.{Bool, true, false}
use mathlib.Core.Path.{◌≡◌, refl}
use Prim.Native.Nat.{◌≤◌}
use native.Mathlib.Omega.{arith}
use borrow.Author.Tests.{ltb-true, le-ltb}
use Rattle.bits.specs.Choice.{◌and◌}
use Rattle.tape.specs.Records.{held_of}
use Rattle.board.specs.declared.Board.{Board}
use Rattle.intake.specs.Ranges.{in_range}

first : (a b : Bool) → (a and b) ≡ true → a ≡ true
first true b e = refl
first false b e = e

-- seven at the most, so that all of them are held
pub few_kept : (b : Board) → in_range b ≡ true → b.kept.length ≤ 7
unfolding in_range
few_kept b e = let h = ltb-true b.kept.length 8 (first _ _ e) in omega arith

pub all_held : (b : Board) → in_range b ≡ true → held_of b.kept.length ≡ b.kept.length
all_held b e = rw (le-ltb _ _ (few_kept b e))
