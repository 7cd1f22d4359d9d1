use Rattle.std.proofs.Common.{length}
use Rattle.sentences.proofs.text.print_below.Given as goal

abbrev pub decreases-loop-text : goal.decreases-loop-text
decreases-loop-text l = length l.text
