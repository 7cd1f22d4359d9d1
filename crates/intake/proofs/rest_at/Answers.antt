use mathlib.Core.Path.{◌∙◌}
use Prim.Native.Nat.{◌+◌, ◌*◌}
use borrow.Author.Rules.{rules}
use lib.ListN.{get_or}
use Rattle.std.proofs.Common.{tests}
use Rattle.tape.proofs.Made.{made}
use Rattle.intake.proofs.Calls.{none_left}
use Rattle.intake.proofs.Rest.{same}
use Rattle.intake.proofs.rest_at.Goals as goal

pub returns-then-at-total : goal.returns-then-at-total
returns-then-at-total c = none_left _ _ (c.if-at-total.true ∙ c.count_bytes-total.ensures)

pub returns : goal.returns
returns c =
    same _ _ c.args.i c.from_fn.ensures.items.long
    (made _ _ _ (λ j. get_or c.args.input.now (8 * c.args.i + j) 0) (λ i y q k. search (rules, tests)) c.from_fn.ensures.items)
