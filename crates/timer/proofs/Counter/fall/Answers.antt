use Rattle.std.proofs.Common.{◌≡◌, refl, ap, arith}
use Rattle.timer.specs.Steady.{moved, fell_of}
use Rattle.timer.proofs.Runs.{moved_on, told_on, byte_small, moved_to, same_ran}
use Rattle.timer.proofs.Counter.fall.Goals as goal

pub loop-init : goal.loop-init
unfolding fell_of
loop-init g c = record { few = omega arith; moves = λ rule e. refl; tells = λ rule e h. refl }

pub overflow_add-rises : goal.overflow_add-rises
overflow_add-rises g c = omega (arith, byte_small c.step.result)

pub loop-preserved : goal.loop-preserved
loop-preserved g c =
    let a = c.args.self in
    let l = c.loop in
    let start = moved a.value a.out a.odd in
    record {
      few = omega (arith, byte_small c.step.result);
      moves = λ rule e. moved_on rule start l.counter l.m _ (l.invariant.moves rule e) (e _ _ _ c.step.ensures);
      tells = λ rule e h.
          rw c.from-rises.ensures
          (told_on rule start l.counter l.m _ _ _ (l.invariant.moves rule e) (e _ _ _ c.step.ensures) (h _ _ _ c.step.ensures) (l.invariant.tells rule e h));
    }

pub returns-clause-moves : goal.returns-clause-moves
returns-clause-moves g c =
    let end : c.loop.counter ≡ c.args.n = omega arith in
    λ rule e. rw (← end) (ap (moved_to c.args.self) (c.loop.invariant.moves rule e))

pub returns-clause-tells : goal.returns-clause-tells
returns-clause-tells g c =
    let end : c.loop.counter ≡ c.args.n = omega arith in
    λ rule e h. rw (← end) (same_ran _ _ _ _ (ap (moved_to c.args.self) (c.loop.invariant.moves rule e)) (c.loop.invariant.tells rule e h))
