-- The six modes by their numbers.
use Rattle.std.specs.Prelude.{ℕ, Bool, false, eqb, ltb, if◌then◌else◌}
use Rattle.timer.specs.Shared.{Mode}
use Rattle.timer.specs.Mode0.{mode0}
use Rattle.timer.specs.Mode1.{mode1}
use Rattle.timer.specs.Mode2.{mode2}
use Rattle.timer.specs.Mode3.{mode3}
use Rattle.timer.specs.Mode4.{mode4}
use Rattle.timer.specs.Mode5.{mode5}
use Rattle.timer.specs.declared.Counter.{Counter}

-- No mode: nothing moves.
abbrev pub no_mode : Mode
no_mode =
    record {
      high = false;
      lifts = false;
      triggers = false;
      drops = false;
      each = false;
      pulse = λ c. c;
      least = 1;
    }

unfoldable pub mode_of : ℕ → Mode
mode_of m =
    if eqb m 0 then mode0
    else if eqb m 1 then mode1
    else if eqb m 2 then mode2
    else if eqb m 3 then mode3
    else if eqb m 4 then mode4
    else if eqb m 5 then mode5
    else no_mode

-- A counter has a mode if its number is one of the six. Any other number is none, as 255 after reset.
unfoldable pub moded : Counter → Bool
moded c = ltb c.mode 6
