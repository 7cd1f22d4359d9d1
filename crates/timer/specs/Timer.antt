-- The timer: three counters on one clock, its four ports, its gates and its outputs.
use Rattle.std.specs.Prelude.{ℕ, Result, Ok, Err, ◌+◌, ◌%◌, false, [], ◌∷◌, eqb, get_or, set, if◌then◌else◌}
use Rattle.bits.specs.Bits.{bit_of, weighed}
use Rattle.timer.specs.Ports.{reset_of, Answer, status_of, SC, control_of, write_of, read_of}
use Rattle.timer.specs.Pulse.{pulse_of, gate_of}
use Rattle.timer.specs.declared.Counter.{Counter}
use Rattle.timer.specs.declared.Timer.{Timer}
use Rattle.timer.specs.declared.Refusal.{Refusal}

-- What stands where there is no counter; no rule asks for it.
abbrev pub blank : Counter
blank =
    record {
      mode = 0;
      format = 0;
      value = 0;
      count = 0;
      full = false;
      pending = false;
      trigger = false;
      half = false;
      low = 0;
      latched = false;
      latch = 0;
      second = false;
      gate = false;
      out = false;
      odd = false;
    }

-- Counter n.
abbrev pub at : Timer → ℕ → Counter
at t n = get_or t.counters n blank

abbrev pub three : Counter → Counter → Counter → Timer
three a b c = record { counters = a ∷ b ∷ c ∷ [] }

abbrev pub counter_is : ℕ → Counter → Timer → Timer
counter_is n c t = record { counters = set t.counters n c }

-- Reset: three counters, each as after reset.
unfoldable pub resets_of : Timer
resets_of = three reset_of reset_of reset_of

-- The answer of a port: the status, the byte of a read (zero where none is), the timer afterwards.
pub record Written : Type 0 where
  pub status : ℕ
  pub timer : Timer

pub record Got : Type 0 where
  pub status : ℕ
  pub byte : ℕ
  pub timer : Timer

abbrev pub written : ℕ → Timer → Written
written s t = record { status = s; timer = t }

abbrev pub got : ℕ → ℕ → Timer → Got
got s b t = record { status = s; byte = b; timer = t }

-- What the program gives. A refusal leaves the timer as it was.
abbrev pub written_as : Timer → Result Timer Refusal → Written
written_as t (Ok after) = written 0 after
written_as t (Err e) = written (status_of e) t

abbrev pub got_as : Timer → Result (ℕ × Timer) Refusal → Got
got_as t (Ok (b, after)) = got 0 b after
got_as t (Err e) = got (status_of e) 0 t

-- What counter n answers, as the timer's answer: the other counters stay.
unfoldable pub wrote_by : Timer → ℕ → Answer → Written
wrote_by t n a = written a.status (counter_is n a.counter t)

unfoldable pub got_by : Timer → ℕ → Answer → Got
got_by t n a = got a.status a.byte (counter_is n a.counter t)

-- A control word goes to the counter that D7-D6 name. 11 is not built.
unfoldable pub controls_of : Timer → ℕ → Written
controls_of t w = if eqb (SC w) 3 then written 4 t else wrote_by t (SC w) (control_of (at t (SC w)) w)

-- A write at A1-A0: 0 to 2 a counter's count byte, 3 the control word.
unfoldable pub writes_of : Timer → ℕ → ℕ → Written
writes_of t a x =
    if eqb (a % 4) 3 then controls_of t x else wrote_by t (a % 4) (write_of (at t (a % 4)) x)

-- A read at A1-A0: 0 to 2 a counter's count byte. 3 is not open to reads.
unfoldable pub reads_of : Timer → ℕ → Got
reads_of t a = if eqb (a % 4) 3 then got 2 0 t else got_by t (a % 4) (read_of (at t (a % 4)))

-- One pulse of the one clock reaches each counter.
unfoldable pub pulses_of : Timer → Timer
pulses_of t = three (pulse_of (at t 0)) (pulse_of (at t 1)) (pulse_of (at t 2))

-- Bits 0 to 2 are the levels of GATE0 to GATE2, all at once.
unfoldable pub gates_of : Timer → ℕ → Timer
gates_of t levels =
    three (gate_of (at t 0) (bit_of levels 0)) (gate_of (at t 1) (bit_of levels 1)) (gate_of (at t 2) (bit_of levels 2))

-- OUT0 to OUT2 as bits 0 to 2.
unfoldable pub outs_of : Timer → ℕ
outs_of t = weighed (at t 0).out 1 + weighed (at t 1).out 2 + weighed (at t 2).out 4
