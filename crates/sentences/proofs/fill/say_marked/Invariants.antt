use Rattle.std.proofs.Common.{length}
use Rattle.sentences.proofs.fill.say_marked.Given as goal

abbrev pub decreases-loop-rest : goal.decreases-loop-rest
decreases-loop-rest l = length l.rest
