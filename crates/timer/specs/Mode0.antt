-- Mode 0: interrupt on end of count (Table 5).
use Rattle.std.specs.Prelude.{true, false, if◌then◌else◌}
use Rattle.bits.specs.Bits.{less}
use Rattle.timer.specs.Shared.{Mode, counted, by_count}
use Rattle.timer.specs.declared.Counter.{Counter}

-- It counts down, but not while a count is half written. Reaching 0 sets OUT high, and counting goes on.
abbrev pub on0 : Counter → Counter
on0 c = if c.half then c else counted 0 true (less c.value) c

unfoldable pub pulse0 : Counter → Counter
pulse0 c = by_count on0 c

abbrev pub mode0 : Mode
mode0 =
    record {
      high = false;
      lifts = false;
      triggers = false;
      drops = true;
      each = true;
      pulse = pulse0;
      least = 1;
    }
