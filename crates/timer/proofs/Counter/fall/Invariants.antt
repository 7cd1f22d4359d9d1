use Rattle.std.proofs.Common.{◌≡◌, ◌≤◌}
use Rattle.timer.specs.declared.Moving.{Moving}
use Rattle.timer.specs.Steady.{rose, moved, moving, fell_of}
use Rattle.timer.proofs.Counter.fall.Given as goal

abbrev pub invariant-loop : goal.invariant-loop
invariant-loop g l =
    record {
      few : l.rises ≤ l.counter;
      moves : (rule : Moving → Moving)
          → ((m : _) (r : _) (next : _) → goal.F-post g l.fn.step m r next → next.now ≡ rule m.now)
          → l.m ≡ moving (fell_of rule (moved l.fn.self.value l.fn.self.out l.fn.self.odd) l.counter);
      tells : (rule : Moving → Moving)
          → ((m : _) (r : _) (next : _) → goal.F-post g l.fn.step m r next → next.now ≡ rule m.now)
          → ((m : _) (r : _) (next : _) → goal.F-post g l.fn.step m r next → r ≡ rose m.now next.now)
          → l.rises ≡ (fell_of rule (moved l.fn.self.value l.fn.self.out l.fn.self.odd) l.counter).rises;
    }
