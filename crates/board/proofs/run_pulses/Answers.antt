use Prim.Native.Nat.{◌<◌}
use borrow.Author.Rules.{rules}
use denote.Struct.Laws.{owed}
use Rattle.icu.specs.contracts.Icu as the-icu
use Rattle.icu.proofs.Icu.TheLaws.{the_laws}
use Rattle.board.specs.Advance.{advanced_of}
use Rattle.board.proofs.Pulses.{pulses}
use Rattle.board.proofs.run_pulses.Goals as goal

pub returns-then-n-eq0 : goal.returns-then-n-eq0
unfolding advanced_of
returns-then-n-eq0 c = rw c.if-n-eq0.true

pub returns : goal.returns
returns c =
    let a = c.args in
    let byte : a.intp < 256 = search rules in
    -- the ranges of the chip's fields are what its type owns
    let g = owed the-icu.the_type the_laws a.icu _ c.well_formed.1.0 in
    let edges : a.icu.edges < 256 = g.1.1.1.1.1.1.1.0.1 in
    rw (← pulses a.intp a.timer a.icu byte edges a.n c.if-n-eq0.false, ← c.run-rc.ensures, ← c.run-rb.ensures, ← c.run-ra.ensures, ← c.before_change-from.ensures, ← c.lines_by.ensures, ← c.lines_by-2.ensures, ← c.lines.ensures)
