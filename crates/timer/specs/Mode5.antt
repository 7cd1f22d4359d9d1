-- Mode 5: hardware-triggered strobe, retriggerable (Table 10).
use Rattle.std.specs.Prelude.{true, false}
use Rattle.bits.specs.Bits.{less}
use Rattle.timer.specs.Fields.{out_is}
use Rattle.timer.specs.Shared.{Mode, counted, by_trigger}
use Rattle.timer.specs.declared.Counter.{Counter}

-- The pulse after a trigger starts it. Then it counts down, with the strobe of mode 4.
unfoldable pub pulse5 : Counter → Counter
pulse5 c = by_trigger (λ d. d) (λ d. counted 0 false (less d.value) d) (out_is true c)

abbrev pub mode5 : Mode
mode5 =
    record {
      high = true;
      lifts = false;
      triggers = true;
      drops = false;
      each = false;
      pulse = pulse5;
      least = 1;
    }
