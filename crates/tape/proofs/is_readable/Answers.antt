use mathlib.Core.Path.{sym, ◌∙◌}
use native.Mathlib.Omega.{arith}
use Rattle.tape.proofs.Ports.{readable_is, inside, below, above}
use Rattle.tape.proofs.is_readable.Goals as goal

pub returns-in-0-to-1 : goal.returns-in-0-to-1
returns-in-0-to-1 c = sym (readable_is c.args.port (omega arith) ∙ rw (inside 0 1 c.args.port (omega arith) (omega arith)))

pub returns-in-0-to-1-2 : goal.returns-in-0-to-1-2
returns-in-0-to-1-2 c = sym (readable_is c.args.port (omega arith) ∙ rw (above 0 1 c.args.port (omega arith) (omega arith), inside 16 18 c.args.port (omega arith) (omega arith)))

pub returns-in-0-to-1-3 : goal.returns-in-0-to-1-3
returns-in-0-to-1-3 c = sym (readable_is c.args.port (omega arith) ∙ rw (above 0 1 c.args.port (omega arith) (omega arith), above 16 18 c.args.port (omega arith) (omega arith), inside 33 38 c.args.port (omega arith) (omega arith)))

pub returns-in-0-to-1-4 : goal.returns-in-0-to-1-4
returns-in-0-to-1-4 c = sym (readable_is c.args.port (omega arith) ∙ rw (above 0 1 c.args.port (omega arith) (omega arith), above 16 18 c.args.port (omega arith) (omega arith), above 33 38 c.args.port (omega arith) (omega arith), inside 40 49 c.args.port (omega arith) (omega arith)))

pub returns-in_default : goal.returns-in_default
returns-in_default c = sym (readable_is c.args.port (omega arith) ∙ rw (above 0 1 c.args.port (omega arith) (omega arith), below 16 18 c.args.port (omega arith), below 33 38 c.args.port (omega arith), below 40 49 c.args.port (omega arith)))

pub returns-in_default-2 : goal.returns-in_default-2
returns-in_default-2 c = sym (readable_is c.args.port (omega arith) ∙ rw (above 0 1 c.args.port (omega arith) (omega arith), above 16 18 c.args.port (omega arith) (omega arith), below 33 38 c.args.port (omega arith), below 40 49 c.args.port (omega arith)))

pub returns-in_default-3 : goal.returns-in_default-3
returns-in_default-3 c = sym (readable_is c.args.port (omega arith) ∙ rw (above 0 1 c.args.port (omega arith) (omega arith), above 16 18 c.args.port (omega arith) (omega arith), above 33 38 c.args.port (omega arith) (omega arith), below 40 49 c.args.port (omega arith)))

pub returns-in_default-4 : goal.returns-in_default-4
returns-in_default-4 c = sym (readable_is c.args.port (omega arith) ∙ rw (above 0 1 c.args.port (omega arith) (omega arith), above 16 18 c.args.port (omega arith) (omega arith), above 33 38 c.args.port (omega arith) (omega arith), above 40 49 c.args.port (omega arith) (omega arith)))
