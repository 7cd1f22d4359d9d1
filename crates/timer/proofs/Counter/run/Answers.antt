use mathlib.Core.Path.{◌≡◌}
use Prim.Native.Nat.{◌+◌, ◌-◌, ◌≤◌}
use native.Mathlib.Omega.{arith}
use Rattle.timer.specs.Run.{ran_of}
use Rattle.timer.proofs.Runs.{runs, few}
use Rattle.timer.proofs.Counter.run.Goals as goal

pub returns-then-n-eq0 : goal.returns-then-n-eq0
unfolding ran_of
returns-then-n-eq0 c = rw (c.rest.ensures, c.if-n-eq0.true)

pub overflow_add-result : goal.overflow_add-result
overflow_add-result c =
    let a = c.args in
    let h : c.run_steady-ran.result.rises ≤ a.n - 1 = rw (c.run_steady-ran.ensures, c.pulse-next.ensures) (few a.self (a.n - 1)) in
    omega (arith, c.rise.ensures.upper_bound, h)

pub returns : goal.returns
returns c =
    let a = c.args in
    let e : a.n - 1 + 1 ≡ a.n = omega arith in
    rw (c.rise.ensures.value, c.run_steady-ran.ensures, c.pulse-next.ensures) (rw e at (runs a.self (a.n - 1)))
