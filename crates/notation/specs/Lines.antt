-- What a good line is, and which of its words are told.
use Rattle.std.specs.Prelude.{ℕ, Bool, true, false, ◌&&◌, List, [], length, nat_le, slice_range, if◌then◌else◌}
use Rattle.notation.specs.declared.word.Span.{Span}
use Rattle.notation.specs.declared.check.Check.{Check}
use Rattle.notation.specs.declared.check.Check.TheVariants.{Unchecked, Asked, Said}
use Rattle.notation.specs.declared.line.What.{What}
use Rattle.notation.specs.declared.line.What.TheVariants.{Empty, Record, Expect, ExpectMemory, Memory, Lend, Show, Guess, Chart, Card, Again}

-- Nothing stands on the line.
abbrev pub no_span : Span
no_span = record { from = 0; to = 0 }

-- The bytes of a part, which has to be one of the line: else there are none.
abbrev pub bytes_of : Span → List ℕ → List ℕ
bytes_of s line = if nat_le s.from s.to && nat_le s.to (length line) then slice_range line s.from s.to else []

abbrev pub is_record : What → Bool
is_record (Record r) = true
is_record w = false

abbrev pub asks : Check → Bool
asks Asked = true
asks c = false

-- Only a record asks the learner.
abbrev pub is_asked : What → Bool
is_asked (Record r) = asks r.check
is_asked w = false

-- What is told as it stands on the line.
abbrev pub quoted : What → Span
quoted (Expect e) = e.said
quoted (ExpectMemory m) = m.said
quoted (Guess g) = g.answer
quoted (Chart name) = name
quoted (Card name) = name
quoted w = no_span
