use native.Mathlib.Omega.{arith}
use borrow.Author.Tests.{eq-eqb, ne_eqb}
use Rattle.icu.specs.Requests.{int_of}
use Rattle.icu.proofs.Int.{none_asked, unopposed, higher, lower}
use Rattle.icu.proofs.Icu.interrupting.Goals as goal

pub returns-then-self-ne-READY : goal.returns-then-self-ne-READY
unfolding int_of
returns-then-self-ne-READY c = rw (ne_eqb _ _ c.if-self-ne-READY.true)

pub returns-in_err-asked : goal.returns-in_err-asked
unfolding int_of
returns-in_err-asked c =
    rw (c.from_residual.ensures, eq-eqb _ _ c.if-self-ne-READY.false, ← c.asked.ensures, none_asked _ c.args.self.isr _ c.in_err-asked.ensures.value)

pub returns-in-None : goal.returns-in-None
unfolding int_of
returns-in-None c =
    let a = c.in_ok-asked.ensures in
    rw (eq-eqb _ _ c.if-self-ne-READY.false, ← c.asked.ensures, unopposed _ _ _ _ a.value a.level c.in-None.ensures.value, a.value)

pub returns-in-Some : goal.returns-in-Some
unfolding int_of
returns-in-Some c =
    let a = c.in_ok-asked.ensures in
    let s = c.in-Some.ensures in
    rw (eq-eqb _ _ c.if-self-ne-READY.false, ← c.asked.ensures, higher _ _ _ _ a.value a.level _ s.value s.level (omega arith), a.value)

pub returns-in-Some-2 : goal.returns-in-Some-2
unfolding int_of
returns-in-Some-2 c =
    let a = c.in_ok-asked.ensures in
    let s = c.in-Some.ensures in
    rw (eq-eqb _ _ c.if-self-ne-READY.false, ← c.asked.ensures, lower _ _ _ _ a.value a.level _ s.value s.level (omega arith))
