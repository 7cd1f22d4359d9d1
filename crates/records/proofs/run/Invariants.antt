use mathlib.Core.Path.{◌≡◌}
use mathlib.Core.List.{◌++◌}
use Prim.Native.Nat.{◌*◌, ◌-◌, ◌≤◌}
use lib.ListN.{length, drop}
use Rattle.cascade.specs.Cascade.{joined_of}
use Rattle.board.specs.Wiring.{levels_of}
use Rattle.board.specs.Records.{after}
use Rattle.records.proofs.run.Given as goal

abbrev pub invariant-loop-i : goal.invariant-loop-i
invariant-loop-i l =
    (l.i ≤ l.k)
    × (length l.memory ≡ length l.initial.memory)
    × (length l.answers ≡ length l.initial.answers)
    × (record { icu = l.icu; intp = l.intp; slave = l.slave; slaveintp = l.slaveintp; timer = l.timer; dma = l.dma; kept = l.waiting } ≡ (after (record { icu = l.initial.icu; intp = l.initial.intp; slave = l.initial.slave; slaveintp = l.initial.slaveintp; timer = l.initial.timer; dma = l.initial.dma; kept = l.waiting }) l.initial.memory l.input l.i).board)
    × (l.memory ≡ (after (record { icu = l.initial.icu; intp = l.initial.intp; slave = l.initial.slave; slaveintp = l.initial.slaveintp; timer = l.initial.timer; dma = l.initial.dma; kept = l.waiting }) l.initial.memory l.input l.i).memory)
    × (l.answers ≡ (after (record { icu = l.initial.icu; intp = l.initial.intp; slave = l.initial.slave; slaveintp = l.initial.slaveintp; timer = l.initial.timer; dma = l.initial.dma; kept = l.waiting }) l.initial.memory l.input l.i).answers ++ drop (16 * l.i) l.initial.answers)
    × (l.joined ≡ joined_of l.intp l.slave l.slaveintp)
    × (l.levels ≡ levels_of (record { icu = l.icu; intp = l.intp; slave = l.slave; slaveintp = l.slaveintp; timer = l.timer; dma = l.dma; kept = l.waiting }))

abbrev pub decreases-loop-i : goal.decreases-loop-i
decreases-loop-i l = l.k - l.i
