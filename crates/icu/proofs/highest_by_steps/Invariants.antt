use mathlib.Core.Path.{◌≡◌}
use Prim.Native.Nat.{◌-◌, ◌≤◌}
use Rattle.icu.specs.Ranks.{highest_from, highest_of}
use Rattle.icu.proofs.highest_by_steps.Given as goal

abbrev pub invariant-loop-rank : goal.invariant-loop-rank
invariant-loop-rank l = (l.rank ≤ 8) × (highest_from l.x l.lowest l.rank (8 - l.rank) ≡ highest_of l.x l.lowest)

abbrev pub decreases-loop-rank : goal.decreases-loop-rank
decreases-loop-rank l = 8 - l.rank
