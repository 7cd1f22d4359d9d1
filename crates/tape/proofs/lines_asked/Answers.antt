use borrow.Author.Tests.{ne_eqb}
use native.Mathlib.Omega.{arith}
use mathlib.Core.Logic.{◌≢◌}
use Rattle.tape.specs.Records.{lines_asked}
use Rattle.tape.proofs.Decodes.{told}
use Rattle.tape.proofs.lines_asked.Goals as goal

pub returns-in-0 : goal.returns-in-0
unfolding lines_asked
returns-in-0 c = rw (c.then_some.ensures, told, c.in-0.is)

pub returns-in-1 : goal.returns-in-1
unfolding lines_asked
returns-in-1 c = rw (c.then_some-in-1.ensures, told, c.in-1.is)

pub returns-in-2 : goal.returns-in-2
unfolding lines_asked
returns-in-2 c = rw (c.then_some-in-2.ensures, told, c.in-2.is)

pub returns-in-3 : goal.returns-in-3
unfolding lines_asked
returns-in-3 c = rw c.in-3.is

pub returns-in_default : goal.returns-in_default
unfolding lines_asked
returns-in_default c =
    let g = c.args.group in
    let n0 : g ≢ 0 = omega arith in
    let n1 : g ≢ 1 = omega arith in
    let n2 : g ≢ 2 = omega arith in
    let n3 : g ≢ 3 = omega arith in
    rw (ne_eqb _ _ n0, ne_eqb _ _ n1, ne_eqb _ _ n2, ne_eqb _ _ n3)
