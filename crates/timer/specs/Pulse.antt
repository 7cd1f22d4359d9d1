-- One counter at its pins: a pulse of CLK, and the level of GATE.
use Rattle.std.specs.Prelude.{Bool, true, false, if◌then◌else◌}
use Rattle.bits.specs.Choice.{◌and◌}
use Rattle.timer.specs.Fields.{trigger_is, gate_is, out_is}
use Rattle.timer.specs.Modes.{mode_of}
use Rattle.timer.specs.declared.Counter.{Counter}

-- One pulse. Nothing moves before a count is complete, nor with no mode.
unfoldable pub pulse_of : Counter → Counter
pulse_of c = if c.full then (mode_of c.mode).pulse c else c

-- GATE rises: where that is a trigger, it pends once a count is complete, also while another one is half written. (The tables' note on a half-written count is about the
-- first one.)
abbrev pub risen : Counter → Counter
risen c = if (mode_of c.mode).triggers and c.full then trigger_is true (gate_is true c) else gate_is true c

-- GATE falls: in modes 2 and 3 OUT goes high at once.
abbrev pub fallen : Counter → Counter
fallen c = if (mode_of c.mode).lifts then out_is true (gate_is false c) else gate_is false c

-- GATE at a level. The level it has already changes nothing.
unfoldable pub gate_of : Counter → Bool → Counter
gate_of c high = if high then (if c.gate then c else risen c) else (if c.gate then fallen c else c)
