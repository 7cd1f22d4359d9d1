-- Mode 3: square wave generator (Table 8).
use Rattle.std.specs.Prelude.{Bool, true, false, not, ℕ, ◌-◌, ◌%◌, eqb, if◌then◌else◌}
use Rattle.bits.specs.Choice.{◌and◌}
use Rattle.bits.specs.Bits.{less}
use Rattle.timer.specs.Fields.{value_is, out_is, odd_is}
use Rattle.timer.specs.Shared.{Mode, cyclic}
use Rattle.timer.specs.declared.Counter.{Counter}

-- An odd count is loaded as the even one below it. That it was odd stays with it for as long as it runs, whatever is written meanwhile.
abbrev pub loaded_even : Counter → Counter
loaded_even c = odd_is (eqb (c.count % 2) 1) (value_is (c.count - c.count % 2) c)

-- The last value of a half-cycle: 0 in the high half of an odd count, 2 in any other.
abbrev pub end_of_half : Bool → Bool → ℕ
end_of_half high odd = if high and odd then 0 else 2

-- It counts down by two. At the end of a half the last complete count is loaded, and OUT turns over.
abbrev pub on3 : Counter → Counter
on3 c = if eqb c.value (end_of_half c.out c.odd) then out_is (not c.out) (loaded_even c) else value_is (less (less c.value)) c

unfoldable pub pulse3 : Counter → Counter
pulse3 c = cyclic loaded_even on3 c

abbrev pub mode3 : Mode
mode3 =
    record {
      high = true;
      lifts = true;
      triggers = true;
      drops = false;
      each = false;
      pulse = pulse3;
      least = 2;
    }
