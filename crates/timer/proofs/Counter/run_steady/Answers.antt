use Rattle.std.proofs.Common.{rules}
use Rattle.timer.specs.Steady.{fall2, fall3, fall4}
use Rattle.timer.proofs.Runs.{steady_unset, steady_in_0, steady_in_1, steady_in_2, steady_in_3, steady_in_4, steady_in_5, steady_in_none}
use Rattle.timer.proofs.Counter.run_steady.Goals.{in_default-via-in-0+then-self+else-not-self-2, in_default-via-in-0+else-self, in_default-via-in-1+else-not-self-3, in_default-via-in-2+else-self-2, in_default-via-in-3+else-self-3, in_default-via-in-4+else-self-4, in_default-via-in-5+else-not-self-4, in_default-via-in_default-1}
use Rattle.timer.proofs.Counter.run_steady.Goals as goal

pub returns-then-not-self : goal.returns-then-not-self
returns-then-not-self c = rw (c.rest.ensures, steady_unset c.args.self c.args.n c.if-not-self.true)

pub returns-in-0 : goal.returns-in-0
returns-in-0 c = rw (c.fall_once.ensures, steady_in_0 c.args.self c.args.n c.if-not-self.false c.in-0.is, c.if-self.true, c.if-not-self-2.true)

pub returns-in-1 : goal.returns-in-1
returns-in-1 c = rw (c.fall_once-in-1.ensures, steady_in_1 c.args.self c.args.n c.if-not-self.false c.in-1.is, c.if-not-self-3.true)

pub returns-in-2 : goal.returns-in-2
returns-in-2 c =
    let rule = fall2 c.args.self.count in
    rw (c.fall.ensures.tells rule (λ m r next q. search rules) (λ m r next q. search rules), steady_in_2 c.args.self c.args.n c.if-not-self.false c.in-2.is, c.if-self-2.true)

pub returns-in-3 : goal.returns-in-3
returns-in-3 c =
    let rule = fall3 c.args.self.count in
    rw (c.fall-in-3.ensures.tells rule (λ m r next q. search rules) (λ m r next q. search rules), steady_in_3 c.args.self c.args.n c.if-not-self.false c.in-3.is, c.if-self-3.true)

pub returns-in-4 : goal.returns-in-4
returns-in-4 c =
    rw (c.fall-in-4.ensures.tells fall4 (λ m r next q. search rules) (λ m r next q. search rules), steady_in_4 c.args.self c.args.n c.if-not-self.false c.in-4.is, c.if-self-4.true)

pub returns-in-5 : goal.returns-in-5
returns-in-5 c =
    rw (c.fall-in-5.ensures.tells fall4 (λ m r next q. search rules) (λ m r next q. search rules), steady_in_5 c.args.self c.args.n c.if-not-self.false c.in-5.is, c.if-not-self-4.true)

pub returns-in_default : goal.returns-in_default
returns-in_default c =
    let s = c.args.self in
    let n = c.args.n in
    let f = c.if-not-self.false in
    rw c.rest-in_default.ensures
    (elim c.in_default.branch [
      | in_default-via-in-0+then-self+else-not-self-2 w ↦ rw (steady_in_0 s n f w.in-0.is, w.if-self.true, w.if-not-self-2.false)
      | in_default-via-in-0+else-self w ↦ rw (steady_in_0 s n f w.in-0.is, w.if-self.false)
      | in_default-via-in-1+else-not-self-3 w ↦ rw (steady_in_1 s n f w.in-1.is, w.if-not-self-3.false)
      | in_default-via-in-2+else-self-2 w ↦ rw (steady_in_2 s n f w.in-2.is, w.if-self-2.false)
      | in_default-via-in-3+else-self-3 w ↦ rw (steady_in_3 s n f w.in-3.is, w.if-self-3.false)
      | in_default-via-in-4+else-self-4 w ↦ rw (steady_in_4 s n f w.in-4.is, w.if-self-4.false)
      | in_default-via-in-5+else-not-self-4 w ↦ rw (steady_in_5 s n f w.in-5.is, w.if-not-self-4.false)
      | in_default-via-in_default-1 w ↦ rw (steady_in_none s n f (search rules) (search rules) (search rules) (search rules) (search rules) (search rules))
    ])
