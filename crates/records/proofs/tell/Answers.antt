use mathlib.Core.Path.{refl, ◌∙◌}
use Prim.Native.Nat.{◌*◌}
use native.Mathlib.Omega.{arith}
use Rattle.std.proofs.lemmas.Slice.{put_mid-paste}
use Rattle.tape.specs.Answers.{answer_of}
use Rattle.records.proofs.tell.Goals as goal

pub returns : goal.returns
unfolding answer_of
returns c =
    put_mid-paste (16 * c.args.i) _ c.args.to.now c.copy_from_slice.new.self _ 16 (c.copy_from_slice.ensures.after ∙ c.answer-a.ensures) (omega arith) refl
