use mathlib.Core.List.{◌++◌}
use mathlib.Core.Path.{◌≡◌, ap}
use Prim.Native.Nat.{◌+◌, ◌*◌}
use native.Mathlib.Omega.{arith}
use borrow.Author.Rules.{rules}
use lib.ListN.{length, take, get_or}
use Rattle.std.proofs.Common.{tests}
use Rattle.tape.proofs.Kept.{counted}
use Rattle.tape.proofs.Made.{made}
use Rattle.records.proofs.Words.{same, shifted}
use Rattle.records.proofs.record_at.Goals as goal

pub returns-then-held-at : goal.returns-then-held-at
returns-then-held-at c =
    let f = c.input.inside in
    let h = c.held-held in
    let seven : length f.kept ≡ 7 = search rules in
    let w = counted f.kept f.size seven h.result h.ensures.value f.tape.now in
    let e : length (take f.size f.kept ++ f.tape.now) ≡ length c.args.input.now = ap length c.input.view_is in
    rw (← c.input.view_is)
    (same _ _ c.args.i (search rules) (λ k d l. rw c.copy_from_slice.ensures.after (shifted f.kept f.tape.now f.size h.result c.args.i k d _ (omega arith) seven h.ensures.value c.if-held-at.true (omega (arith, w, e)) l)))

pub returns-else-held-at : goal.returns-else-held-at
returns-else-held-at c =
    same _ _ c.args.i c.from_fn.ensures.items.long
    (made _ _ _ (λ j. get_or c.args.input.now (8 * c.args.i + j) 0) (λ i y q k. search (rules, tests)) c.from_fn.ensures.items)
