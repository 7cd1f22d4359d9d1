use Rattle.timer.specs.Mode0.{pulse0}
use Rattle.timer.proofs.Pulses.{unset, set}
use Rattle.timer.proofs.Counter.pulse_0.Goals.{else-self-2-via-then-self-2+else-not-self, else-self-2-via-else-self-2}
use Rattle.timer.proofs.Counter.pulse_0.Goals as goal

pub returns-then-not-self : goal.returns-then-not-self
unfolding pulse0
returns-then-not-self c = rw (c.count_down.ensures, c.if-self.false, c.if-self-2.true, unset _ c.if-not-self.true)

pub returns-else-self-2 : goal.returns-else-self-2
unfolding pulse0
returns-else-self-2 c =
    elim c.else-self-2.branch [
      | else-self-2-via-then-self-2+else-not-self w ↦ rw (c.if-self.false, w.if-self-2.true, set _ w.if-not-self.false)
      | else-self-2-via-else-self-2 w ↦ rw (c.if-self.false, w.if-self-2.false)
    ]
