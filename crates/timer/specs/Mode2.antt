-- Mode 2: rate generator (Table 7).
use Rattle.std.specs.Prelude.{true, false, eqb, if◌then◌else◌}
use Rattle.bits.specs.Bits.{less}
use Rattle.timer.specs.Fields.{out_is}
use Rattle.timer.specs.Shared.{Mode, loaded, counted, cyclic}
use Rattle.timer.specs.declared.Counter.{Counter}

-- It counts down, and reaching 1 sets OUT low. At 1 the last complete count is loaded, and OUT goes high.
abbrev pub on2 : Counter → Counter
on2 c = if eqb c.value 1 then out_is true (loaded c) else counted 1 false (less c.value) c

unfoldable pub pulse2 : Counter → Counter
pulse2 c = cyclic loaded on2 c

abbrev pub mode2 : Mode
mode2 =
    record {
      high = true;
      lifts = true;
      triggers = true;
      drops = false;
      each = false;
      pulse = pulse2;
      least = 2;
    }
