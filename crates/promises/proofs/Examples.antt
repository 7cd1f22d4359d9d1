-- The twelve examples, by computing.
use mathlib.Core.Path.{refl}
use Rattle.promises.specs.Records.{joined}
use Rattle.promises.specs.Examples.{answered, expected, twelve, Examples}
use Rattle.promises.proofs.Opened.{rules}

pub examples : Examples
unfolding rules joined answered expected twelve
examples = refl
