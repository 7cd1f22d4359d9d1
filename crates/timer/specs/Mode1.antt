-- Mode 1: retriggerable one_shot (Table 6).
use Rattle.std.specs.Prelude.{true, false}
use Rattle.bits.specs.Bits.{less}
use Rattle.timer.specs.Fields.{out_is}
use Rattle.timer.specs.Shared.{Mode, counted, by_trigger}
use Rattle.timer.specs.declared.Counter.{Counter}

-- The pulse after a trigger sets OUT low. Then it counts down; reaching 0 sets OUT high, and counting goes on.
unfoldable pub pulse1 : Counter → Counter
pulse1 c = by_trigger (λ d. out_is false d) (λ d. counted 0 true (less d.value) d) c

abbrev pub mode1 : Mode
mode1 =
    record {
      high = true;
      lifts = false;
      triggers = true;
      drops = false;
      each = false;
      pulse = pulse1;
      least = 1;
    }
