-- What is expected of an answer.
use Rattle.std.specs.Prelude.{ℕ, replicate, set, slice_index}
use Rattle.notation.specs.Lines.{no_span}
use Rattle.notation.specs.declared.check.Expected.{Expected}
use Rattle.notation.specs.declared.check.Check.{Check}
use Rattle.notation.specs.declared.check.Check.TheVariants.{Unchecked, Asked, Said}
use Rattle.notation.specs.declared.record.RecordLine.{RecordLine}

-- No bit is meant, so that every answer is such.
abbrev pub anything : Expected
anything = record { bytes = replicate 16 0; mask = replicate 16 0; said = no_span }

abbrev pub expected_by : Check → Expected
expected_by (Said e) = e
expected_by c = anything

-- The same with every bit meant, and the record's operation in byte 1.
abbrev pub whole_of : Expected → ℕ → Expected
whole_of e operation = record e { bytes = set e.bytes 1 operation; mask = replicate 16 255 }

-- A record of a chart.
abbrev pub charted : RecordLine → RecordLine
charted r = record r { check = Said (whole_of (expected_by r.check) (slice_index r.bytes 0)) }
