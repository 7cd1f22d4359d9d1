-- What a sentence is filled in from: sixteen bytes and two numbers.
use Rattle.std.specs.Prelude.{ℕ, ◌+◌, ◌-◌, min, List, ◌++◌, length, take, drop, replicate, set}
use Rattle.sentences.specs.declared.facts.Facts.{Facts}

-- What is not given is 0.
abbrev pub no_facts : Facts
no_facts = record { bytes = replicate 16 0; numbers = replicate 2 0 }

-- A byte at a place; past the last there is none.
abbrev pub fact_at : Facts → ℕ → ℕ → Facts
fact_at f place x = record f { bytes = set f.bytes place x }

-- Bytes from a place on, as many as there are places left.
abbrev pub facts_from : Facts → ℕ → List ℕ → Facts
facts_from f place given =
    let from = min place 16 in
    let to = from + min (length given) (16 - from) in
    record f { bytes = take from f.bytes ++ take (to - from) given ++ drop to f.bytes }

abbrev pub numbered : Facts → ℕ → Facts
numbered f n = record f { numbers = set f.numbers 0 n }
