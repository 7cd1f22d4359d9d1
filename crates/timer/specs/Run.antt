-- One counter over n pulses.
use Rattle.std.specs.Prelude.{ℕ, zero, suc, ◌+◌, Bool, if◌then◌else◌}
use Rattle.timer.specs.Pulse.{pulse_of}
use Rattle.timer.specs.declared.Counter.{Counter}
use Rattle.timer.specs.declared.Ran.{Ran}

-- 1 where OUT rose, else 0.
abbrev pub rise_of : Bool → Bool → ℕ
rise_of was now = if was then 0 else if now then 1 else 0

-- One pulse more.
abbrev pub ran_on : Ran → Ran
ran_on r =
    record {
      counter = pulse_of r.counter;
      rises = r.rises + rise_of r.counter.out (pulse_of r.counter).out;
    }

-- n pulses: the counter after them, and how many of them made OUT rise.
unfoldable pub ran_of : Counter → ℕ → Ran
ran_of c zero = record { counter = c; rises = 0 }
ran_of c (suc n) = ran_on (ran_of c n)
