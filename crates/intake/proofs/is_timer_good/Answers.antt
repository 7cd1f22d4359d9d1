use mathlib.Core.Path.{◌∙◌}
use borrow.Author.Rules.{rules}
use Rattle.std.proofs.Common.{tests}
use Rattle.std.proofs.lemmas.Iterator.{YieldsList-from_slice}
use Rattle.std.proofs.lemmas.Iterator.Search.{all_from_yields_List}
use Rattle.timer.specs.Timer.{blank}
use Rattle.intake.specs.Ranges.{counter_good, timer_good}
use Rattle.intake.proofs.Each.{three}
use Rattle.intake.proofs.is_timer_good.Goals as goal

pub returns : goal.returns
unfolding timer_good
returns c =
    all_from_yields_List counter_good _ _ _ c.all.ensures.ran (YieldsList-from_slice c.args.t.counters cc) (λ x b q k. search (rules, tests))
    ∙ three counter_good blank c.args.t.counters (search rules)
