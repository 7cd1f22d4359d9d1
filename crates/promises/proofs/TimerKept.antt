-- The timer stays in its ranges.
use mathlib.Core.Path.{◌≡◌, refl, sym, ap, subst}
use mathlib.Core.Bool.{Bool, true}
use Prim.Native.Nat.{ℕ, zero, suc, ◌+◌, ◌*◌, ◌%◌}
use native.Mathlib.Omega.{arith}
use lib.Dec.{eqb, ltb}
use lib.ListN.{length, get_or-eq_default}
use borrow.Author.Tests.{lt-ltb, ltb-true}
use Rattle.bits.specs.Choice.{◌or◌}
use Rattle.bits.specs.Bits.{bit_of}
use Rattle.timer.specs.declared.Counter.{Counter}
use Rattle.timer.specs.declared.Timer.{Timer}
use Rattle.timer.specs.Timer.{Written}
use Rattle.timer.specs.Timer.{Got}
use Rattle.timer.specs.Modes.{moded}
use Rattle.timer.specs.Ports.{reset_of, Answer, SC, RWM, CM, BCD, mode_in, mode_set, mode_word, latch_word, control_of, count_of, begun, write_of, read_of}
use Rattle.timer.specs.Pulse.{pulse_of, gate_of}
use Rattle.timer.specs.Timer.{blank, at, three, resets_of, wrote_by, got_by, controls_of, writes_of, reads_of, pulses_of, gates_of}
use Rattle.timer.proofs.Pulses.{pulsed, gated, counted, begins}
use Rattle.intake.specs.Ranges.{counter_good, timer_good}
use Rattle.tape.proofs.Decodes.{either}
use Rattle.promises.proofs.Ruled.{too_small}
use Rattle.promises.proofs.Logic.{both_left, both_right}
use Rattle.promises.proofs.Lists.{put}

-- One counter.
abbrev pub Good : Counter → Type 0
Good c = counter_good c ≡ true

module _ (c : Counter) (g : Good c) where
  abbrev P : Answer → Type 0
  P a = Good a.counter

  -- D3-D1 name one of the six modes.
  moded_good : (w : ℕ) → Good (mode_set (mode_in (CM w)) (RWM w) c)
  unfolding counter_good mode_set
  moded_good w =
      rw (lt-ltb (RWM w) 4 (omega arith))
      (either (λ (m : ℕ). (ltb m 6 or eqb m 255) ≡ true) (ltb (CM w % 4) 2)
      (λ l. rw (lt-ltb (CM w) 6 (omega (arith, ltb-true (CM w % 4) 2 l))))
      (λ _. rw (lt-ltb (CM w % 4) 6 (omega arith))))

  -- The same counter but for fields that do not matter here.
  like : (d : Counter) → d.mode ≡ c.mode → d.format ≡ c.format → Good d
  unfolding counter_good
  like d e f = rw (e, f) g

  control_good : (w : ℕ) → P (control_of c w)
  unfolding control_of latch_word mode_word
  control_good w =
      either P (eqb (RWM w) 0)
      (λ _. either P (moded c) (λ _. either P c.latched (λ _. g) (λ _. like _ refl refl)) (λ _. g))
      (λ _. either P (eqb (BCD w) 1) (λ _. g) (λ _. moded_good w))

  count_good : (n : ℕ) → P (count_of c n)
  unfolding count_of
  count_good n =
      either P (too_small c n) (λ _. g)
      (λ _. like _ (ap (λ (d : Counter). d.mode) (counted c n)) (ap (λ (d : Counter). d.format) (counted c n)))

  begun_good : (x : ℕ) → Good (begun c x)
  begun_good x = like _ (ap (λ (d : Counter). d.mode) (begins c x)) (ap (λ (d : Counter). d.format) (begins c x))

  write_good : (x : ℕ) → P (write_of c x)
  unfolding write_of
  write_good x =
      either P (moded c)
      (λ _. either P (eqb c.format 1) (λ _. count_good x)
      (λ _. either P (eqb c.format 2) (λ _. count_good (x * 256))
      (λ _. either P c.half (λ _. count_good (c.low + x * 256)) (λ _. begun_good x))))
      (λ _. g)

  read_good : P (read_of c)
  unfolding read_of
  read_good =
      either P (moded c)
      (λ _. either P (eqb c.format 1) (λ _. like _ refl refl)
      (λ _. either P (eqb c.format 2) (λ _. like _ refl refl)
      (λ _. either P c.second (λ _. like _ refl refl) (λ _. like _ refl refl))))
      (λ _. g)

  pulse_good : Good (pulse_of c)
  pulse_good = like _ (ap (λ (d : Counter). d.mode) (pulsed c).rest) (ap (λ (d : Counter). d.format) (pulsed c).rest)

  gate_good : (k : Bool) → Good (gate_of c k)
  gate_good k = like _ (ap (λ (d : Counter). d.mode) (gated c k)) (ap (λ (d : Counter). d.format) (gated c k))

-- All three. What stands past the last is good too.
abbrev pub Fine : Timer → Type 0
Fine t = (n : ℕ) → Good (at t n)

blank_good : Good blank
unfolding counter_good
blank_good = refl

three_fine : (a b c : Counter) → Good a → Good b → Good c → Fine (three a b c)
three_fine a b c x y z zero = x
three_fine a b c x y z (suc zero) = y
three_fine a b c x y z (suc (suc zero)) = z
three_fine a b c x y z (suc (suc (suc n))) = blank_good

module _ (t : Timer) (f : Fine t) where
  abbrev W : Written → Type 0
  W w = Fine w.timer

  abbrev R : Got → Type 0
  R w = Fine w.timer

  pub writes_fine : (a x : ℕ) → Fine (writes_of t a x).timer
  unfolding writes_of controls_of wrote_by
  writes_fine a x =
      either W (eqb (a % 4) 3)
      (λ _. either W (eqb (SC x) 3) (λ _. f)
      (λ _ n. put Good t.counters (SC x) n (control_of (at t (SC x)) x).counter blank (λ _. control_good (at t (SC x)) (f (SC x)) x) (f n)))
      (λ _ n. put Good t.counters (a % 4) n (write_of (at t (a % 4)) x).counter blank (λ _. write_good (at t (a % 4)) (f (a % 4)) x) (f n))

  pub reads_fine : (a : ℕ) → Fine (reads_of t a).timer
  unfolding reads_of got_by
  reads_fine a =
      either R (eqb (a % 4) 3) (λ _. f)
      (λ _ n. put Good t.counters (a % 4) n (read_of (at t (a % 4))).counter blank (λ _. read_good (at t (a % 4)) (f (a % 4))) (f n))

  pub pulses_fine : Fine (pulses_of t)
  unfolding pulses_of
  pulses_fine = three_fine _ _ _ (pulse_good (at t 0) (f 0)) (pulse_good (at t 1) (f 1)) (pulse_good (at t 2) (f 2))

  pub gates_fine : (l : ℕ) → Fine (gates_of t l)
  unfolding gates_of
  gates_fine l =
      three_fine _ _ _ (gate_good (at t 0) (f 0) (bit_of l 0)) (gate_good (at t 1) (f 1) (bit_of l 1)) (gate_good (at t 2) (f 2) (bit_of l 2))

pub resets_fine : Fine resets_of
unfolding resets_of counter_good
resets_fine = three_fine reset_of reset_of reset_of refl refl refl

pub fine_good : (t : Timer) → Fine t → timer_good t ≡ true
unfolding timer_good
fine_good t f = rw (f 0, f 1, f 2)

pub good_fine : (t : Timer) → length t.counters ≡ 3 → timer_good t ≡ true → Fine t
unfolding timer_good
good_fine t l g zero = both_left (counter_good (at t 0)) _ g
good_fine t l g (suc zero) = both_left (counter_good (at t 1)) _ (both_right (counter_good (at t 0)) _ g)
good_fine t l g (suc (suc zero)) = both_right (counter_good (at t 1)) _ (both_right (counter_good (at t 0)) _ g)
good_fine t l g (suc (suc (suc n))) = subst Good (sym (get_or-eq_default t.counters blank (rw l (omega arith)))) blank_good
