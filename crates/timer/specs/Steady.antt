-- The program's way through n pulses once nothing pends: no transfer that a pulse makes, no trigger, no strobe that stands. A pulse then moves no more of a counter than its
-- value, OUT and, in mode 3, whether the count was odd. Run.antt has the rule; proofs/Runs.antt shows that this comes to the same.
use Rattle.std.specs.Prelude.{ℕ, zero, suc, ◌+◌, ◌-◌, ◌%◌, Bool, true, false, not, eqb, if◌then◌else◌}
use Rattle.bits.specs.Bits.{less}
use Rattle.bits.specs.Choice.{◌and◌}
use Rattle.timer.specs.Fields.{value_is, out_is, odd_is}
use Rattle.timer.specs.Mode3.{end_of_half}
use Rattle.timer.specs.Run.{rise_of}
use Rattle.timer.specs.declared.Counter.{Counter}
use Rattle.timer.specs.declared.Moving.{Moving}
use Rattle.timer.specs.declared.Ran.{Ran}

-- What moves.
abbrev pub moved : ℕ → Bool → Bool → Moving
moved v level odd = record { value = v; out = level; odd = odd }

-- Modes 0 and 1 subtract one, and reaching 0 sets OUT high.
abbrev pub fall0 : Moving → Moving
fall0 m =
    if eqb (less m.value) 0 then moved (less m.value) true m.odd
    else moved (less m.value) m.out m.odd

-- Mode 2 at 1 reloads the count and sets OUT high. Otherwise it subtracts one, and reaching 1 sets OUT low.
abbrev pub fall2 : ℕ → Moving → Moving
fall2 count m =
    if eqb m.value 1 then moved count true m.odd
    else if eqb (less m.value) 1 then moved (less m.value) false m.odd
    else moved (less m.value) m.out m.odd

-- Mode 3 at the end of a half reloads the count, even, and turns OUT over. Otherwise it subtracts two.
abbrev pub fall3 : ℕ → Moving → Moving
fall3 count m =
    if eqb m.value (end_of_half m.out m.odd) then moved (count - count % 2) (not m.out) (eqb (count % 2) 1)
    else moved (less (less m.value)) m.out m.odd

-- Modes 4 and 5 subtract one, and OUT is low at 0 alone.
abbrev pub fall4 : Moving → Moving
fall4 m =
    if eqb (less m.value) 0 then moved (less m.value) false m.odd
    else moved (less m.value) true m.odd

-- What n pulses make of what moves, and how many of them made OUT rise.
pub record Fall : Type 0 where
  pub value : ℕ
  pub out : Bool
  pub odd : Bool
  pub rises : ℕ

-- What moves, of a fall.
abbrev pub moving : Fall → Moving
moving f = moved f.value f.out f.odd

-- One pulse more, by such a rule.
abbrev pub fell_on : (Moving → Moving) → Fall → Fall
fell_on fall f =
    record {
      value = (fall (moving f)).value;
      out = (fall (moving f)).out;
      odd = (fall (moving f)).odd;
      rises = f.rises + rise_of f.out (fall (moving f)).out;
    }

-- Whether OUT rose.
abbrev pub rose : Moving → Moving → Bool
rose m next = not m.out and next.out

-- n pulses.
unfoldable pub fell_of : (Moving → Moving) → Moving → ℕ → Fall
fell_of fall m zero = record { value = m.value; out = m.out; odd = m.odd; rises = 0 }
fell_of fall m (suc n) = fell_on fall (fell_of fall m n)

-- The counter that fell, and the one that stays as it is.
abbrev pub fallen_to : Counter → Fall → Ran
fallen_to c f = record { counter = odd_is f.odd (out_is f.out (value_is f.value c)); rises = f.rises }

abbrev pub fell_by : (Moving → Moving) → Counter → ℕ → Ran
fell_by fall c n = fallen_to c (fell_of fall (moved c.value c.out c.odd) n)

abbrev pub rested : Counter → Ran
rested c = record { counter = c; rises = 0 }

-- Each mode by its rule while it counts. The modes that a count starts, and those that go round, do not with GATE low, and mode 0 not while a count is half
-- written; those that a trigger starts do not before the first one.
abbrev pub steady0 : Counter → ℕ → Ran
steady0 c n = if c.gate then (if c.half then rested c else fell_by fall0 c n) else rested c

abbrev pub steady1 : (Moving → Moving) → Counter → ℕ → Ran
steady1 fall c n = if c.pending then rested c else fell_by fall c n

abbrev pub steady2 : (Moving → Moving) → Counter → ℕ → Ran
steady2 fall c n = if c.gate then fell_by fall c n else rested c

-- Without a complete count, or without a mode, a counter stands.
unfoldable pub steady_of : Counter → ℕ → Ran
steady_of c n =
    if c.full then
    (if eqb c.mode 0 then steady0 c n
    else if eqb c.mode 1 then steady1 fall0 c n
    else if eqb c.mode 2 then steady2 (fall2 c.count) c n
    else if eqb c.mode 3 then steady2 (fall3 c.count) c n
    else if eqb c.mode 4 then steady2 fall4 c n
    else if eqb c.mode 5 then steady1 fall4 c n
    else rested c)
    else rested c
