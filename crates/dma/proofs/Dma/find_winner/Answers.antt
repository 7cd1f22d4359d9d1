use mathlib.Core.Path.{sym, ◌∙◌}
use native.Mathlib.Omega.{arith}
use Rattle.dma.proofs.Ranks.{end, hit, miss, in_ranks}
use Rattle.dma.proofs.Dma.find_winner.Goals as goal

pub loop-k-preserved : goal.loop-k-preserved
loop-k-preserved c =
    let l = c.loop-k in
    let d = c.args.self in
    sym (miss d l.k (omega arith) (rw (← c.ranked-n.ensures) (sym c.is_ready.ensures ∙ c.if-is_ready.false))) ∙ l.invariant

pub returns-then-is_ready : goal.returns-then-is_ready
returns-then-is_ready c =
    let l = c.loop-k in
    let d = c.args.self in
    (sym l.invariant ∙ hit d l.k (omega arith) (rw (← c.ranked-n.ensures) (sym c.is_ready.ensures ∙ c.if-is_ready.true)) ∙ sym c.ranked-n.ensures, rw c.ranked-n.ensures (in_ranks d l.k))

pub returns : goal.returns
returns c =
    let l = c.loop-k in
    sym l.invariant ∙ end c.args.self l.k (omega arith)
