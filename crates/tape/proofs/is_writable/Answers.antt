use mathlib.Core.Path.{sym, ◌∙◌}
use native.Mathlib.Omega.{arith}
use Rattle.tape.proofs.Ports.{writable_is, inside, below, above}
use Rattle.tape.proofs.is_writable.Goals as goal

pub returns-in-0-to-1 : goal.returns-in-0-to-1
returns-in-0-to-1 c = sym (writable_is c.args.port (omega arith) ∙ rw (inside 0 1 c.args.port (omega arith) (omega arith)))

pub returns-in-0-to-1-2 : goal.returns-in-0-to-1-2
returns-in-0-to-1-2 c = sym (writable_is c.args.port (omega arith) ∙ rw (above 0 1 c.args.port (omega arith) (omega arith), inside 16 19 c.args.port (omega arith) (omega arith)))

pub returns-in-0-to-1-3 : goal.returns-in-0-to-1-3
returns-in-0-to-1-3 c = sym (writable_is c.args.port (omega arith) ∙ rw (above 0 1 c.args.port (omega arith) (omega arith), above 16 19 c.args.port (omega arith) (omega arith), inside 32 38 c.args.port (omega arith) (omega arith)))

pub returns-in-0-to-1-4 : goal.returns-in-0-to-1-4
returns-in-0-to-1-4 c = sym (writable_is c.args.port (omega arith) ∙ rw (above 0 1 c.args.port (omega arith) (omega arith), above 16 19 c.args.port (omega arith) (omega arith), above 32 38 c.args.port (omega arith) (omega arith), inside 40 42 c.args.port (omega arith) (omega arith)))

pub returns-in-0-to-1-5 : goal.returns-in-0-to-1-5
returns-in-0-to-1-5 c = sym (writable_is c.args.port (omega arith) ∙ rw (above 0 1 c.args.port (omega arith) (omega arith), above 16 19 c.args.port (omega arith) (omega arith), above 32 38 c.args.port (omega arith) (omega arith), above 40 42 c.args.port (omega arith) (omega arith), inside 44 49 c.args.port (omega arith) (omega arith)))

pub returns-in_default : goal.returns-in_default
returns-in_default c = sym (writable_is c.args.port (omega arith) ∙ rw (above 0 1 c.args.port (omega arith) (omega arith), below 16 19 c.args.port (omega arith), below 32 38 c.args.port (omega arith), below 40 42 c.args.port (omega arith), below 44 49 c.args.port (omega arith)))

pub returns-in_default-2 : goal.returns-in_default-2
returns-in_default-2 c = sym (writable_is c.args.port (omega arith) ∙ rw (above 0 1 c.args.port (omega arith) (omega arith), above 16 19 c.args.port (omega arith) (omega arith), below 32 38 c.args.port (omega arith), below 40 42 c.args.port (omega arith), below 44 49 c.args.port (omega arith)))

pub returns-in_default-3 : goal.returns-in_default-3
returns-in_default-3 c = sym (writable_is c.args.port (omega arith) ∙ rw (above 0 1 c.args.port (omega arith) (omega arith), above 16 19 c.args.port (omega arith) (omega arith), above 32 38 c.args.port (omega arith) (omega arith), below 40 42 c.args.port (omega arith), below 44 49 c.args.port (omega arith)))

pub returns-in_default-4 : goal.returns-in_default-4
returns-in_default-4 c = sym (writable_is c.args.port (omega arith) ∙ rw (above 0 1 c.args.port (omega arith) (omega arith), above 16 19 c.args.port (omega arith) (omega arith), above 32 38 c.args.port (omega arith) (omega arith), above 40 42 c.args.port (omega arith) (omega arith), below 44 49 c.args.port (omega arith)))

pub returns-in_default-5 : goal.returns-in_default-5
returns-in_default-5 c = sym (writable_is c.args.port (omega arith) ∙ rw (above 0 1 c.args.port (omega arith) (omega arith), above 16 19 c.args.port (omega arith) (omega arith), above 32 38 c.args.port (omega arith) (omega arith), above 40 42 c.args.port (omega arith) (omega arith), above 44 49 c.args.port (omega arith) (omega arith)))
