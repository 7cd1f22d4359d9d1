use mathlib.Core.Path.{ap, sym, ◌∙◌}
use borrow.Author.Tests.{eq-eqb, ne_eqb}
use Rattle.board.specs.Operations.{slave_written}
use Rattle.board.specs.Step.{answered_of}
use Rattle.board.specs.declared.Turn.{Turn}
use Rattle.board.proofs.Board.write_slave.Goals as goal

pub returns-then-t-eq0 : goal.returns-then-t-eq0
unfolding slave_written answered_of
returns-then-t-eq0 c =
    let w = c.write_icu-t.ensures in
    rw (c.tell.ensures, c.follow.ensures, w, eq-eqb _ _ (sym (ap (λ (t : Turn). t.status) w) ∙ c.if-t-eq0.true))

pub returns : goal.returns
unfolding slave_written answered_of
returns c =
    let w = c.write_icu-t.ensures in
    rw (c.tell-2.ensures, w, ne_eqb _ _ (λ e. c.if-t-eq0.false (ap (λ (t : Turn). t.status) w ∙ e)))
