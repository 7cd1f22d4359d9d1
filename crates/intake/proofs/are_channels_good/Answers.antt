use borrow.Author.Rules.{rules}
use Rattle.std.proofs.Common.{tests}
use Rattle.std.proofs.lemmas.Iterator.{YieldsList-from_slice}
use Rattle.std.proofs.lemmas.Iterator.Search.{all_from_yields_List}
use Rattle.intake.specs.Ranges.{channel_good}
use Rattle.intake.proofs.are_channels_good.Goals as goal

pub returns : goal.returns
returns c =
    all_from_yields_List channel_good _ _ _ c.all.ensures.ran (YieldsList-from_slice c.args.channels cc) (λ x b q k. search (rules, tests))
