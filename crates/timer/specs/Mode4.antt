-- Mode 4: software-triggered strobe (Table 9).
use Rattle.std.specs.Prelude.{true, false}
use Rattle.bits.specs.Bits.{less}
use Rattle.timer.specs.Fields.{out_is}
use Rattle.timer.specs.Shared.{Mode, counted, by_count}
use Rattle.timer.specs.declared.Counter.{Counter}

-- It counts down; reaching 0 sets OUT low, and counting goes on, so it strobes again 65,536 pulses later. A load of 0 is no strobe. The next pulse first sets OUT high,
-- whether it then loads, counts or finds GATE low.
unfoldable pub pulse4 : Counter → Counter
pulse4 c = by_count (λ d. counted 0 false (less d.value) d) (out_is true c)

abbrev pub mode4 : Mode
mode4 =
    record {
      high = true;
      lifts = false;
      triggers = false;
      drops = false;
      each = true;
      pulse = pulse4;
      least = 1;
    }
