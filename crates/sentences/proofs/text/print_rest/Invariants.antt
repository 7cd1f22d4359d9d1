use Rattle.std.proofs.Common.{length, ◌+◌}
use Rattle.sentences.proofs.text.print_rest.Given as goal

abbrev pub decreases-loop-asked : goal.decreases-loop-asked
decreases-loop-asked l = length l.asked + length l.answer
