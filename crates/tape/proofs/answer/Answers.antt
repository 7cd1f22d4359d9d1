use mathlib.Core.Path.{refl}
use Rattle.tape.specs.Answers.{answer_of}
use Rattle.tape.proofs.answer.Goals as goal

pub returns : goal.returns
unfolding answer_of
returns c = refl
