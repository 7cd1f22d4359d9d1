-- What ports change of a counter, and what they leave.
use mathlib.Core.Path.{◌≡◌, refl, ap, ◌∙◌}
use mathlib.Core.List.{List}
use mathlib.Core.Bool.{Bool, false}
use Prim.Native.Nat.{ℕ, zero, suc, ◌+◌, ◌*◌, ◌%◌, ◌<◌}
use native.Mathlib.Omega.{arith}
use lib.Dec.{eqb}
use lib.ListN.{get_or, set}
use Rattle.bits.specs.Bits.{bit_of}
use Rattle.timer.specs.declared.Counter.{Counter}
use Rattle.timer.specs.declared.Timer.{Timer}
use Rattle.timer.specs.Timer.{Written}
use Rattle.timer.specs.Timer.{Got}
use Rattle.timer.specs.Modes.{moded}
use Rattle.timer.specs.Ports.{Answer, SC, RWM, BCD, mode_set, mode_word, latch_word, control_of, completed, count_of, begun, write_of, read_of}
use Rattle.timer.specs.Pulse.{gate_of}
use Rattle.timer.specs.Timer.{blank, at, wrote_by, got_by, controls_of, writes_of, reads_of, three, gates_of}
use Rattle.timer.proofs.Pulses.{gated, counted, begins}
use Rattle.tape.proofs.Decodes.{either}
use Rattle.promises.specs.TaughtWords.{writing_of, reading_of, value_of}
use Rattle.promises.proofs.Ruled.{too_small}
use Rattle.promises.proofs.Lists.{put}

-- One counter replaced by one that has the same, of whatever is looked at.
put_same : {A : Type 0} (f : Counter → A) (l : List Counter) (i : ℕ) (c : Counter) → f c ≡ f (get_or l i blank)
    → (n : ℕ)
    → f (get_or (set l i c) n blank) ≡ f (get_or l n blank)
put_same f l i c h n =
    put (λ (d : Counter). f d ≡ f (get_or l n blank)) l i n c blank (λ e. h ∙ ap (λ (k : ℕ). f (get_or l k blank)) e) refl

-- An answer leaves the value, OUT, and where a writing stands. (A record: equations side by side, carried through a chain of cases, are dear to check.)
record Untouched (c : Counter) (a : Answer) : Type 0 where
  writing : writing_of a.counter ≡ writing_of c
  value : value_of a.counter ≡ value_of c
  out : a.counter.out ≡ c.out

leaves : {c : Counter} {a : Answer} → writing_of a.counter ≡ writing_of c → value_of a.counter ≡ value_of c → a.counter.out ≡ c.out → Untouched c a
leaves w v o = record { writing = w; value = v; out = o }

-- Writing leaves the counter's value.
module _ (c : Counter) where
  abbrev S : Answer → Type 0
  S a = value_of a.counter ≡ value_of c

  control_value : (w : ℕ) → S (control_of c w)
  unfolding control_of latch_word mode_word mode_set value_of
  control_value w =
      either S (eqb (RWM w) 0)
      (λ _. either S (moded c) (λ _. either S c.latched (λ _. refl) (λ _. refl)) (λ _. refl))
      (λ _. either S (eqb (BCD w) 1) (λ _. refl) (λ _. refl))

  -- A count byte leaves the value and where a reading stands.
  module _ {A : Type 0} (f : Counter → A)
      (done : (n : ℕ) → f (completed c n) ≡ f c)
      (half : (x : ℕ) → f (begun c x) ≡ f c) where
    abbrev F : Answer → Type 0
    F a = f a.counter ≡ f c

    count_same : (n : ℕ) → F (count_of c n)
    unfolding count_of
    count_same n = either F (too_small c n) (λ _. refl) (λ _. done n)

    write_same : (x : ℕ) → F (write_of c x)
    unfolding write_of
    write_same x =
        either F (moded c)
        (λ _. either F (eqb c.format 1) (λ _. count_same x)
        (λ _. either F (eqb c.format 2) (λ _. count_same (x * 256))
        (λ _. either F c.half (λ _. count_same (c.low + x * 256)) (λ _. half x))))
        (λ _. refl)

  write_value : (x : ℕ) → value_of (write_of c x).counter ≡ value_of c
  unfolding value_of
  write_value x = write_same value_of (λ n. ap value_of (counted c n)) (λ y. ap value_of (begins c y)) x

  write_reading : (x : ℕ) → reading_of (write_of c x).counter ≡ reading_of c
  unfolding reading_of
  write_reading x = write_same reading_of (λ n. ap reading_of (counted c n)) (λ y. ap reading_of (begins c y)) x

  -- A read leaves the value, OUT, and where a writing stands.
  read_same : Untouched c (read_of c)
  unfolding read_of writing_of value_of
  read_same =
      either (Untouched c) (moded c)
      (λ _. either (Untouched c) (eqb c.format 1) (λ _. leaves refl refl refl)
      (λ _. either (Untouched c) (eqb c.format 2) (λ _. leaves refl refl refl)
      (λ _. either (Untouched c) c.second (λ _. leaves refl refl refl) (λ _. leaves refl refl refl))))
      (λ _. leaves refl refl refl)

  -- A gate leaves the value.
  gate_value : (k : Bool) → value_of (gate_of c k) ≡ value_of c
  unfolding value_of
  gate_value k = ap value_of (gated c k)

-- All three.
module _ (t : Timer) (n : ℕ) where
  pub writes_value : (a x : ℕ) → value_of (at (writes_of t a x).timer n) ≡ value_of (at t n)
  unfolding writes_of controls_of wrote_by
  writes_value a x =
      either (λ (w : Written). value_of (at w.timer n) ≡ value_of (at t n)) (eqb (a % 4) 3)
      (λ _. either (λ (w : Written). value_of (at w.timer n) ≡ value_of (at t n)) (eqb (SC x) 3) (λ _. refl)
      (λ _. put_same value_of t.counters (SC x) (control_of (at t (SC x)) x).counter (control_value (at t (SC x)) x) n))
      (λ _. put_same value_of t.counters (a % 4) (write_of (at t (a % 4)) x).counter (write_value (at t (a % 4)) x) n)

  pub writes_reading : (a x : ℕ) → eqb (a % 4) 3 ≡ false → reading_of (at (writes_of t a x).timer n) ≡ reading_of (at t n)
  unfolding writes_of wrote_by
  writes_reading a x h =
      rw h (put_same reading_of t.counters (a % 4) (write_of (at t (a % 4)) x).counter (write_reading (at t (a % 4)) x) n)

  pub reads_writing : (a : ℕ) → writing_of (at (reads_of t a).timer n) ≡ writing_of (at t n)
  unfolding reads_of got_by
  reads_writing a =
      either (λ (w : Got). writing_of (at w.timer n) ≡ writing_of (at t n)) (eqb (a % 4) 3) (λ _. refl)
      (λ _. put_same writing_of t.counters (a % 4) (read_of (at t (a % 4))).counter (read_same (at t (a % 4))).writing n)

  pub reads_value : (a : ℕ) → value_of (at (reads_of t a).timer n) ≡ value_of (at t n)
  unfolding reads_of got_by
  reads_value a =
      either (λ (w : Got). value_of (at w.timer n) ≡ value_of (at t n)) (eqb (a % 4) 3) (λ _. refl)
      (λ _. put_same value_of t.counters (a % 4) (read_of (at t (a % 4))).counter (read_same (at t (a % 4))).value n)

  pub reads_out : (a : ℕ) → (at (reads_of t a).timer n).out ≡ (at t n).out
  unfolding reads_of got_by
  reads_out a =
      either (λ (w : Got). (at w.timer n).out ≡ (at t n).out) (eqb (a % 4) 3) (λ _. refl)
      (λ _. put_same (λ (c : Counter). c.out) t.counters (a % 4) (read_of (at t (a % 4))).counter (read_same (at t (a % 4))).out n)

  pub gates_value : n < 3 → (l : ℕ) → value_of (at (gates_of t l) n) ≡ value_of (at t n)
  unfolding gates_of
  gates_value h l = go n h
    where
      go : (i : ℕ) → i < 3 → value_of (at (three (gate_of (at t 0) (bit_of l 0)) (gate_of (at t 1) (bit_of l 1)) (gate_of (at t 2) (bit_of l 2))) i) ≡ value_of (at t i)
      go zero h = gate_value (at t 0) (bit_of l 0)
      go (suc zero) h = gate_value (at t 1) (bit_of l 1)
      go (suc (suc zero)) h = gate_value (at t 2) (bit_of l 2)
      go (suc (suc (suc i))) h = absurd (omega arith)
