use Rattle.tape.proofs.Kept.{counted}
use borrow.Author.Rules.{rules}
use Rattle.tape.proofs.count_bytes.Goals as goal

pub returns : goal.returns
returns c = let a = c.args in record { value = counted a.kept a.size (search rules) _ c.held.ensures.value a.tape.now; value_2 = rw c.held.ensures.value }
