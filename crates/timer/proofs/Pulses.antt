-- What a pulse, a level of GATE and a count byte leave of a counter, in every mode.
use mathlib.Core.Bool.{Bool, true, false, not}
use mathlib.Core.Path.{◌≡◌, refl}
use Prim.Native.Nat.{ℕ, zero, suc, ◌-◌, ◌%◌, ◌≤◌}
use native.Mathlib.Omega.{arith}
use lib.Dec.{eqb}
use borrow.Author.Tests.{ne_eqb}
use Rattle.bits.specs.Choice.{◌and◌, ◌or◌}
use Rattle.std.specs.Prelude.{if◌then◌else◌}
use Rattle.bits.specs.Bits.{less}
use Rattle.timer.specs.Shared.{Mode}
use Rattle.timer.specs.Mode0.{mode0, pulse0}
use Rattle.timer.specs.Mode1.{mode1, pulse1}
use Rattle.timer.specs.Mode2.{mode2, pulse2}
use Rattle.timer.specs.Mode3.{mode3, end_of_half, pulse3}
use Rattle.timer.specs.Mode4.{mode4, pulse4}
use Rattle.timer.specs.Mode5.{mode5, pulse5}
use Rattle.timer.specs.Modes.{no_mode, mode_of}
use Rattle.timer.specs.Ports.{completed, begun}
use Rattle.timer.specs.Pulse.{pulse_of, gate_of}
use Rattle.timer.specs.declared.Counter.{Counter}

-- Each of the six modes, and no mode at all.
pub by_mode : (P : ℕ → Mode → Type 0) → P 0 mode0 → P 1 mode1 → P 2 mode2 → P 3 mode3 → P 4 mode4 → P 5 mode5 → ((m : ℕ) → 6 ≤ m → P m no_mode)
    → (m : ℕ)
    → P m (mode_of m)
unfolding mode_of
by_mode P a b c d e f g zero = a
by_mode P a b c d e f g (suc zero) = b
by_mode P a b c d e f g (suc (suc zero)) = c
by_mode P a b c d e f g (suc (suc (suc zero))) = d
by_mode P a b c d e f g (suc (suc (suc (suc zero)))) = e
by_mode P a b c d e f g (suc (suc (suc (suc (suc zero))))) = f
by_mode P a b c d e f g (suc (suc (suc (suc (suc (suc k)))))) = past (suc (suc (suc (suc (suc (suc k)))))) (omega arith)
  where
    past : (m : ℕ) → 6 ≤ m → P m (mode_of m)
    past m l =
        rw (
          ne_eqb m 0 (omega arith),
          ne_eqb m 1 (omega arith),
          ne_eqb m 2 (omega arith),
          ne_eqb m 3 (omega arith),
          ne_eqb m 4 (omega arith),
          ne_eqb m 5 (omega arith),
        )
        (g m l)

-- No minimum is above 65,536.
pub least_small : (m : ℕ) → (mode_of m).least ≤ 65536
least_small = by_mode (λ _ q. q.least ≤ 65536) (omega arith) (omega arith) (omega arith) (omega arith) (omega arith) (omega arith) (λ _ _. omega arith)

pub unset : (b : Bool) → not b ≡ true → b ≡ false
unset true e = let z : false ≡ true = e in cc
unset false e = refl

pub set : (b : Bool) → not b ≡ false → b ≡ true
set true e = refl
set false e = let z : true ≡ false = e in cc

-- The value that a pulse leaves: as it was, one or two less, the last complete count, or the even one below it.
pub data Counts (c : Counter) : ℕ → Type 0 where
  stays : Counts c c.value
  one_less : Counts c (less c.value)
  two_less : Counts c (less (less c.value))
  loads : Counts c c.count
  loads_even : Counts c (c.count - c.count % 2)

-- The counter c with what a pulse may change as d has it.
abbrev pub moved_as : Counter → Counter → Counter
moved_as c d =
    record {
      mode = c.mode;
      format = c.format;
      value = d.value;
      count = c.count;
      full = c.full;
      pending = d.pending;
      trigger = d.trigger;
      half = c.half;
      low = c.low;
      latched = c.latched;
      latch = c.latch;
      second = c.second;
      gate = c.gate;
      out = d.out;
      odd = d.odd;
    }

pub record Pulsed (c d : Counter) : Type 0 where
  pub rest : d ≡ moved_as c d
  pub value : Counts c d.value

-- what holds of both holds of the one chosen
of_both : {x y : Counter} (P : Counter → Type 0) (b : Bool) → P x → P y → P (if b then x else y)
of_both P true p q = p
of_both P false p q = q

module _ (c : Counter) where
  abbrev P : Counter → Type 0
  P d = Pulsed c d

  at_0 : P (pulse0 c)
  unfolding pulse0
  at_0 =
      of_both P c.pending (record { rest = refl; value = loads })
      (of_both P c.gate
      (of_both P c.half (record { rest = refl; value = stays })
      (of_both P (eqb (less c.value) 0) (record { rest = refl; value = one_less }) (record { rest = refl; value = one_less })))
      (record { rest = refl; value = stays }))

  at_1 : P (pulse1 c)
  unfolding pulse1
  at_1 =
      of_both P c.trigger (record { rest = refl; value = loads })
      (of_both P c.pending (record { rest = refl; value = stays })
      (of_both P (eqb (less c.value) 0) (record { rest = refl; value = one_less }) (record { rest = refl; value = one_less })))

  at_2 : P (pulse2 c)
  unfolding pulse2
  at_2 =
      of_both P c.pending (record { rest = refl; value = loads })
      (of_both P c.trigger (record { rest = refl; value = loads })
      (of_both P c.gate
      (of_both P (eqb c.value 1) (record { rest = refl; value = loads })
      (of_both P (eqb (less c.value) 1) (record { rest = refl; value = one_less }) (record { rest = refl; value = one_less })))
      (record { rest = refl; value = stays })))

  at_3 : P (pulse3 c)
  unfolding pulse3
  at_3 =
      of_both P c.pending (record { rest = refl; value = loads_even })
      (of_both P c.trigger (record { rest = refl; value = loads_even })
      (of_both P c.gate
      (of_both P (eqb c.value (end_of_half c.out c.odd)) (record { rest = refl; value = loads_even }) (record { rest = refl; value = two_less }))
      (record { rest = refl; value = stays })))

  at_4 : P (pulse4 c)
  unfolding pulse4
  at_4 =
      of_both P c.pending (record { rest = refl; value = loads })
      (of_both P c.gate
      (of_both P (eqb (less c.value) 0) (record { rest = refl; value = one_less }) (record { rest = refl; value = one_less }))
      (record { rest = refl; value = stays }))

  at_5 : P (pulse5 c)
  unfolding pulse5
  at_5 =
      of_both P c.trigger (record { rest = refl; value = loads })
      (of_both P c.pending (record { rest = refl; value = stays })
      (of_both P (eqb (less c.value) 0) (record { rest = refl; value = one_less }) (record { rest = refl; value = one_less })))

  -- A pulse moves the value, OUT, whether the count was odd, and what pends: nothing else.
  pub pulsed : Pulsed c (pulse_of c)
  unfolding pulse_of
  pulsed =
      of_both P c.full
      (by_mode (λ _ q. P (q.pulse c)) at_0 at_1 at_2 at_3 at_4 at_5 (λ _ _. record { rest = refl; value = stays }) c.mode)
      (record { rest = refl; value = stays })

-- A level of GATE moves GATE, OUT and a trigger.
abbrev pub gated_as : Counter → Counter → Counter
gated_as c d =
    record {
      mode = c.mode;
      format = c.format;
      value = c.value;
      count = c.count;
      full = c.full;
      pending = c.pending;
      trigger = d.trigger;
      half = c.half;
      low = c.low;
      latched = c.latched;
      latch = c.latch;
      second = c.second;
      gate = d.gate;
      out = d.out;
      odd = c.odd;
    }

pub gated : (c : Counter) (high : Bool) → gate_of c high ≡ gated_as c (gate_of c high)
unfolding gate_of
gated c high =
    of_both P high (of_both P c.gate refl (of_both P ((mode_of c.mode).triggers and c.full) refl refl))
    (of_both P c.gate (of_both P (mode_of c.mode).lifts refl refl) refl)
  where
    P : Counter → Type 0
    P d = d ≡ gated_as c d

-- A complete count n is the last one, with no byte kept apart. It moves OUT, and that it is complete and that it pends, besides.
abbrev pub counted_as : Counter → ℕ → Counter → Counter
counted_as c n d =
    record {
      mode = c.mode;
      format = c.format;
      value = c.value;
      count = n;
      full = d.full;
      pending = d.pending;
      trigger = c.trigger;
      half = false;
      low = c.low;
      latched = c.latched;
      latch = c.latch;
      second = c.second;
      gate = c.gate;
      out = d.out;
      odd = c.odd;
    }

pub counted : (c : Counter) (n : ℕ) → completed c n ≡ counted_as c n (completed c n)
unfolding completed
counted c n =
    of_both P ((mode_of c.mode).each or not c.full) (of_both P (mode_of c.mode).drops refl refl) refl
  where
    P : Counter → Type 0
    P d = d ≡ counted_as c n d

-- The first byte of two is kept apart, and may move OUT.
abbrev pub begun_as : Counter → ℕ → Counter → Counter
begun_as c x d =
    record {
      mode = c.mode;
      format = c.format;
      value = c.value;
      count = c.count;
      full = c.full;
      pending = c.pending;
      trigger = c.trigger;
      half = true;
      low = x;
      latched = c.latched;
      latch = c.latch;
      second = c.second;
      gate = c.gate;
      out = d.out;
      odd = c.odd;
    }

pub begins : (c : Counter) (x : ℕ) → begun c x ≡ begun_as c x (begun c x)
unfolding begun
begins c x = of_both (λ (d : Counter). d ≡ begun_as c x d) (mode_of c.mode).drops refl refl
