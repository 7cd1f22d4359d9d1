use mathlib.Core.Path.{sym}
use borrow.Author.Tests.{le-ltb}
use Rattle.timer.proofs.Pulses.{least_small}
use Rattle.timer.proofs.is_too_small.Goals as goal

pub returns-else-n-ne0 : goal.returns-else-n-ne0
returns-else-n-ne0 c = rw c.if-n-ne0.false (sym (le-ltb 65536 _ (least_small c.args.mode)))
