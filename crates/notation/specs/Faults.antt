-- Faults, and where they are told.
use Rattle.std.specs.Prelude.{ℕ, ◌+◌, ◌-◌, ◌^◌, min, Bool, true, false, replicate}
use Rattle.notation.specs.declared.fault.Bad.{Bad}
use Rattle.notation.specs.declared.fault.Fault.{Fault}
use Rattle.notation.specs.declared.fault.Fault.TheVariants.{ByteOrderMark, Utf16, NoBreakSpace, SoftHyphen, OddSpace, Control, CarriageReturn, NotAscii}

-- Columns count from 1, and no bytes are told.
abbrev pub bad_at : ℕ → Fault → Bad
bad_at at fault = record { column = min (at + 1) (2 ^ 64 - 1); fault = fault; found = replicate 8 0 }

-- Of a byte that may not be seen for what it is.
abbrev pub is_about_byte : Fault → Bool
is_about_byte ByteOrderMark = true
is_about_byte Utf16 = true
is_about_byte NoBreakSpace = true
is_about_byte SoftHyphen = true
is_about_byte OddSpace = true
is_about_byte Control = true
is_about_byte CarriageReturn = true
is_about_byte NotAscii = true
is_about_byte f = false
