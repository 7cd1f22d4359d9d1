-- What an operation of the chip tells: its status number, the chip afterwards, the data byte and the payload of its answer.
use Rattle.std.specs.Prelude.{ℕ, List, [], ◌∷◌, Option, Some, None, Result, Ok, Err}
use Rattle.icu.specs.declared.Icu.{Icu}
use Rattle.icu.specs.declared.Refusal.{Refusal}
use Rattle.icu.specs.declared.Refusal.TheVariants.{OutOfTurn, NotBuilt}
use Rattle.icu.specs.declared.Named.{Named}
use Rattle.icu.specs.declared.Named.TheVariants.{Vector, Call}

pub record Told : Type 0 where
  pub status : ℕ
  pub icu : Icu
  pub byte : ℕ
  pub payload : List ℕ

-- Done: status 0, with no data and no payload.
abbrev pub done : Icu → Told
done c = record { status = 0; icu = c; byte = 0; payload = [] }

-- Done, with a data byte.
abbrev pub telling : Icu → ℕ → Told
telling c x = record { status = 0; icu = c; byte = x; payload = [] }

-- Done, with the three bytes of a CALL instruction: CDH and the address, low byte first.
abbrev pub calling : Icu → ℕ → ℕ → Told
calling c low high = record { status = 0; icu = c; byte = 0; payload = 205 ∷ low ∷ high ∷ [] }

-- Refused by number: the chip is as it was.
abbrev pub refused : ℕ → Icu → Told
refused n c = record { status = n; icu = c; byte = 0; payload = [] }

-- The numbers: 3 out of turn, 4 not built.
abbrev pub written_as : Icu → Result Icu Refusal → Told
written_as c (Ok d) = done d
written_as c (Err OutOfTurn) = refused 3 c
written_as c (Err NotBuilt) = refused 4 c

abbrev pub got_as : Icu → Option ℕ → Told
got_as c (Some x) = telling c x
got_as c None = refused 3 c

-- The chip d, with the bytes that name a level.
abbrev pub named_as : Icu → Named → Told
named_as d (Vector x) = telling d x
named_as d (Call low high) = calling d low high

abbrev pub acknowledged_as : Icu → Option (Icu × Named) → Told
acknowledged_as c (Some t) = named_as t.0 t.1
acknowledged_as c None = refused 3 c
