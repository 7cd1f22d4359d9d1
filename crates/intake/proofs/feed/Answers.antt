use mathlib.Core.Path.{sym, ◌∙◌}
use borrow.Author.Rules.{rules}
use Rattle.intake.proofs.Calls.{small, fed, fed_memory_law, fed_answers_law}
use Rattle.intake.specs.Feed.{fed_answers, fed_memory, fed_of, taken}
use Rattle.intake.proofs.feed.Goals as goal

pub returns-then-not-is_in_range : goal.returns-then-not-is_in_range
unfolding taken fed_of fed_memory fed_answers
returns-then-not-is_in_range c =
    let e = sym c.is_in_range.ensures ∙ c.if-not-is_in_range.true in record { result = rw e; memory = rw e; answers = rw e }

pub returns-then-answers-k : goal.returns-then-answers-k
unfolding fed_of fed_memory fed_answers
returns-then-answers-k c =
    let a = c.args in
    let n = c.count_bytes-total in
    let e =
    small a.board a.tape.now a.memory.now a.answers.now n.result (sym c.is_in_range.ensures ∙ c.if-not-is_in_range.false) n.ensures (search rules) c.if-answers-k.true
    in record { result = rw e; memory = rw e; answers = rw e }

pub returns : goal.returns
returns c =
    let a = c.args in
    let n = c.count_bytes-total in
    let u = c.run-ran in
    let good = sym c.is_in_range.ensures ∙ c.if-not-is_in_range.false in
    let room = c.if-answers-k.false in
    record {
      result = fed a.board a.tape.now a.memory.now a.answers.now n.result good n.ensures (search rules) room _ _ u.ensures.result c.rest_at-rest.ensures;
      memory = fed_memory_law a.board a.tape.now a.memory.now a.answers.now n.result good n.ensures (search rules) room _ u.ensures.memory;
      answers = fed_answers_law a.board a.tape.now a.memory.now a.answers.now n.result good n.ensures (search rules) room _ u.ensures.answers;
    }
