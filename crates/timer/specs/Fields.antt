-- A counter with one field changed: the words in which its rules are written.
--   mode, format    the mode (255 none), and D5-D4 of its word
--   value           the down counter
--   count           the last complete count
--   full            a count is complete since the mode word
--   pending         a complete count waits to be transferred; in modes 1 and 5 the first one does until the first trigger's pulse
--   trigger         GATE rose, and no pulse has used it
--   half, low       a count is half written, and its low byte
--   latched, latch  a latch holds, and what it holds
--   second          the next byte read of two is the high one
--   gate, out       the pins
--   odd             the count that runs in mode 3 was odd
use Rattle.std.specs.Prelude.{ℕ, Bool}
use Rattle.timer.specs.declared.Counter.{Counter}

abbrev pub mode_is : ℕ → Counter → Counter
mode_is x c = record { mode = x; format = c.format; value = c.value; count = c.count; full = c.full; pending = c.pending; trigger = c.trigger; half = c.half; low = c.low; latched = c.latched; latch = c.latch; second = c.second; gate = c.gate; out = c.out; odd = c.odd }

abbrev pub format_is : ℕ → Counter → Counter
format_is x c = record { mode = c.mode; format = x; value = c.value; count = c.count; full = c.full; pending = c.pending; trigger = c.trigger; half = c.half; low = c.low; latched = c.latched; latch = c.latch; second = c.second; gate = c.gate; out = c.out; odd = c.odd }

abbrev pub value_is : ℕ → Counter → Counter
value_is x c = record { mode = c.mode; format = c.format; value = x; count = c.count; full = c.full; pending = c.pending; trigger = c.trigger; half = c.half; low = c.low; latched = c.latched; latch = c.latch; second = c.second; gate = c.gate; out = c.out; odd = c.odd }

abbrev pub count_is : ℕ → Counter → Counter
count_is x c = record { mode = c.mode; format = c.format; value = c.value; count = x; full = c.full; pending = c.pending; trigger = c.trigger; half = c.half; low = c.low; latched = c.latched; latch = c.latch; second = c.second; gate = c.gate; out = c.out; odd = c.odd }

abbrev pub full_is : Bool → Counter → Counter
full_is x c = record { mode = c.mode; format = c.format; value = c.value; count = c.count; full = x; pending = c.pending; trigger = c.trigger; half = c.half; low = c.low; latched = c.latched; latch = c.latch; second = c.second; gate = c.gate; out = c.out; odd = c.odd }

abbrev pub pending_is : Bool → Counter → Counter
pending_is x c = record { mode = c.mode; format = c.format; value = c.value; count = c.count; full = c.full; pending = x; trigger = c.trigger; half = c.half; low = c.low; latched = c.latched; latch = c.latch; second = c.second; gate = c.gate; out = c.out; odd = c.odd }

abbrev pub trigger_is : Bool → Counter → Counter
trigger_is x c = record { mode = c.mode; format = c.format; value = c.value; count = c.count; full = c.full; pending = c.pending; trigger = x; half = c.half; low = c.low; latched = c.latched; latch = c.latch; second = c.second; gate = c.gate; out = c.out; odd = c.odd }

abbrev pub half_is : Bool → Counter → Counter
half_is x c = record { mode = c.mode; format = c.format; value = c.value; count = c.count; full = c.full; pending = c.pending; trigger = c.trigger; half = x; low = c.low; latched = c.latched; latch = c.latch; second = c.second; gate = c.gate; out = c.out; odd = c.odd }

abbrev pub low_is : ℕ → Counter → Counter
low_is x c = record { mode = c.mode; format = c.format; value = c.value; count = c.count; full = c.full; pending = c.pending; trigger = c.trigger; half = c.half; low = x; latched = c.latched; latch = c.latch; second = c.second; gate = c.gate; out = c.out; odd = c.odd }

abbrev pub latched_is : Bool → Counter → Counter
latched_is x c = record { mode = c.mode; format = c.format; value = c.value; count = c.count; full = c.full; pending = c.pending; trigger = c.trigger; half = c.half; low = c.low; latched = x; latch = c.latch; second = c.second; gate = c.gate; out = c.out; odd = c.odd }

abbrev pub latch_is : ℕ → Counter → Counter
latch_is x c = record { mode = c.mode; format = c.format; value = c.value; count = c.count; full = c.full; pending = c.pending; trigger = c.trigger; half = c.half; low = c.low; latched = c.latched; latch = x; second = c.second; gate = c.gate; out = c.out; odd = c.odd }

abbrev pub second_is : Bool → Counter → Counter
second_is x c = record { mode = c.mode; format = c.format; value = c.value; count = c.count; full = c.full; pending = c.pending; trigger = c.trigger; half = c.half; low = c.low; latched = c.latched; latch = c.latch; second = x; gate = c.gate; out = c.out; odd = c.odd }

abbrev pub gate_is : Bool → Counter → Counter
gate_is x c = record { mode = c.mode; format = c.format; value = c.value; count = c.count; full = c.full; pending = c.pending; trigger = c.trigger; half = c.half; low = c.low; latched = c.latched; latch = c.latch; second = c.second; gate = x; out = c.out; odd = c.odd }

abbrev pub out_is : Bool → Counter → Counter
out_is x c = record { mode = c.mode; format = c.format; value = c.value; count = c.count; full = c.full; pending = c.pending; trigger = c.trigger; half = c.half; low = c.low; latched = c.latched; latch = c.latch; second = c.second; gate = c.gate; out = x; odd = c.odd }

abbrev pub odd_is : Bool → Counter → Counter
odd_is x c = record { mode = c.mode; format = c.format; value = c.value; count = c.count; full = c.full; pending = c.pending; trigger = c.trigger; half = c.half; low = c.low; latched = c.latched; latch = c.latch; second = c.second; gate = c.gate; out = c.out; odd = x }
