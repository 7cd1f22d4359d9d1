-- What stays of a counter that is left unread. Half a two-byte count read: the next read of that counter is the high byte, whatever came between.
use mathlib.Core.Path.{◌≡◌, refl, sym, ap, subst, ◌∙◌}
use mathlib.Core.Logic.{◌≢◌}
use mathlib.Core.List.{List}
use mathlib.Core.Bool.{Bool, true, false, not, true≢false}
use Prim.Native.Nat.{ℕ, zero, suc, ◌+◌, ◌*◌, ◌/◌, ◌%◌, ◌<◌}
use native.Mathlib.Omega.{arith}
use lib.Dec.{eqb, ltb}
use lib.ListN.{get_or, set, length}
use lib.Seq.{get_or-set_same}
use borrow.Author.Tests.{eqb-true, eqb-false, eq-eqb, ne_eqb, le-leb, le-ltb, lt-ltb}
use Rattle.bits.specs.Choice.{◌and◌}
use Rattle.bits.specs.Bits.{bit_of}
use Rattle.tape.specs.Records.{byte, unused, readable, pulse_count, decode_of}
use Rattle.tape.specs.Answers.{answer_of}
use Rattle.icu.specs.declared.Icu.{Icu}
use Rattle.timer.specs.declared.Counter.{Counter}
use Rattle.timer.specs.declared.Timer.{Timer}
use Rattle.timer.specs.Timer.{Written}
use Rattle.timer.specs.Timer.{Got}
use Rattle.timer.specs.Fields.{second_is, latched_is}
use Rattle.timer.specs.Modes.{moded}
use Rattle.timer.specs.Ports.{Answer, read_as, SC, RWM, latch_word, control_of, count_of, held}
use Rattle.timer.specs.Ports as Ports
use Rattle.timer.specs.Pulse.{pulse_of, gate_of}
use Rattle.timer.specs.Timer.{blank, at, counter_is, wrote_by, got_by, controls_of, writes_of, reads_of, gates_of}
use Rattle.board.specs.declared.Board.{Board}
use Rattle.board.specs.declared.Stepped.{Stepped}
use Rattle.board.specs.Operations.{telling, timer_shown, read_of}
use Rattle.board.specs.Wiring.{timer_is, joined}
use Rattle.board.specs.Advance.{tick_of, advanced_of}
use Rattle.board.specs.Step.{execute_of, blocked, outcome_of, answered_of, step_of}
use Rattle.board.specs.Records.{record_at, after}
use Rattle.timer.proofs.Pulses.{pulsed, gated, counted, begins}
use Rattle.tape.proofs.Decodes.{either}
use Rattle.promises.specs.Words.{data_in}
use Rattle.promises.specs.TaughtWords.{mode_word_for, asks_reading, Unread, read_at, Reads}
use Rattle.promises.proofs.Ruled.{too_small}
use Rattle.promises.proofs.Logic.{left_false}
use Rattle.promises.proofs.Lists.{put}
use Rattle.promises.proofs.TimerSteps.{Timed, stays, resets, writes, reads, sets, pulses, timed}
use Rattle.promises.proofs.Plain.{pulse_at, gate_at}

-- What no record changes of a counter that it leaves unread: the mode, the format, which byte is read next, and a latch.
pub record Kept (c d : Counter) : Type 0 where
  pub mode : d.mode ≡ c.mode
  pub format : d.format ≡ c.format
  pub second : d.second ≡ c.second
  pub latched : c.latched ≡ true → d.latched ≡ true
  pub latch : c.latched ≡ true → d.latch ≡ c.latch

-- One counter: a count byte, a latch, a pulse and a gate keep it.
module _ (c d : Counter) (h : Kept c d) where
  abbrev P : Answer → Type 0
  P a = Kept c a.counter

  -- The same counter but for fields that do not matter here.
  like : (e : Counter) → e.mode ≡ d.mode → e.format ≡ d.format → e.second ≡ d.second → e.latched ≡ d.latched → e.latch ≡ d.latch → Kept c e
  like e m f s l k =
      record {
        mode = m ∙ h.mode;
        format = f ∙ h.format;
        second = s ∙ h.second;
        latched = λ q. l ∙ h.latched q;
        latch = λ q. k ∙ h.latch q;
      }

  latch_kept : P (latch_word d)
  unfolding latch_word
  latch_kept =
      either P (moded d)
      (λ _. either P d.latched (λ _. h)
      (λ z. record {
        mode = h.mode;
        format = h.format;
        second = h.second;
        latched = λ _. refl;
        latch = λ q. absurd (true≢false (sym (h.latched q) ∙ z));
      }))
      (λ _. h)

  count_kept : (n : ℕ) → P (count_of d n)
  unfolding count_of
  count_kept n =
      either P (too_small d n) (λ _. h) (λ _. subst (Kept c) (sym (counted d n)) (like _ refl refl refl refl refl))

  write_kept : (x : ℕ) → P (Ports.write_of d x)
  unfolding Ports.write_of
  write_kept x =
      either P (moded d)
      (λ _. either P (eqb d.format 1) (λ _. count_kept x)
      (λ _. either P (eqb d.format 2) (λ _. count_kept (x * 256))
      (λ _. either P d.half (λ _. count_kept (d.low + x * 256))
      (λ _. subst (Kept c) (sym (begins d x)) (like _ refl refl refl refl refl)))))
      (λ _. h)

  pulse_kept : Kept c (pulse_of d)
  pulse_kept = subst (Kept c) (sym (pulsed d).rest) (like _ refl refl refl refl refl)

  gate_kept : (k : Bool) → Kept c (gate_of d k)
  gate_kept k = subst (Kept c) (sym (gated d k)) (like _ refl refl refl refl refl)

module _ (c : Counter) (t : Timer) (n : ℕ) (h : Kept c (at t n)) where
  abbrev W : Written → Type 0
  W w = Kept c (at w.timer n)

  abbrev R : Got → Type 0
  R w = Kept c (at w.timer n)

  -- A control word for it that is no mode word is a latch.
  control_kept : (x i : ℕ) → i ≡ n → (eqb i n and not (eqb (RWM x) 0)) ≡ false → Kept c (control_of (at t i) x).counter
  unfolding control_of
  control_kept x i e m =
      either (λ (a : Answer). Kept c a.counter) (eqb (RWM x) 0) (λ _. latch_kept c (at t i) (rw e h))
      (λ f. absurd (true≢false (rw (eq-eqb i n e, f) at m)))

  writes_kept : (p x : ℕ) → (eqb (p % 4) 3 ≡ true → mode_word_for n x ≡ false) → Kept c (at (writes_of t p x).timer n)
  unfolding writes_of controls_of wrote_by
  writes_kept p x m =
      either W (eqb (p % 4) 3)
      (λ q. either W (eqb (SC x) 3) (λ _. h)
      (λ _. put (Kept c) t.counters (SC x) n (control_of (at t (SC x)) x).counter blank (λ e. control_kept x (SC x) e (m q)) h))
      (λ _. put (Kept c) t.counters (p % 4) n (Ports.write_of (at t (p % 4)) x).counter blank (λ e. write_kept c (at t (p % 4)) (rw e h) x) h)

  reads_kept : (p : ℕ) → p % 4 ≢ n → Kept c (at (reads_of t p).timer n)
  unfolding reads_of got_by
  reads_kept p m =
      either R (eqb (p % 4) 3) (λ _. h)
      (λ _. put (Kept c) t.counters (p % 4) n (Ports.read_of (at t (p % 4))).counter blank (λ e. absurd (m e)) h)

  gates_kept : n < 3 → (l : ℕ) → Kept c (at (gates_of t l) n)
  gates_kept k l = rw (gate_at t n k l) (gate_kept c (at t n) h (bit_of l n))

advances_kept : (c : Counter) (i : ℕ) (t : Timer) (u : Icu) (k n : ℕ) → n < 3 → Kept c (at t n) → Kept c (at (advanced_of i t u k).timer n)
unfolding advanced_of tick_of
advances_kept c i t u zero n few h = h
advances_kept c i t u (suc k) n few h =
    rw (pulse_at (advanced_of i t u k).timer n few) (pulse_kept c (at (advanced_of i t u k).timer n) (advances_kept c i t u k n few h))

-- A record that is none of the three, or refused.
step_kept : (c : Counter) (b : Board) (r : List ℕ) (status : ℕ) (t : Timer) (n : ℕ) → n < 3 → Kept c (at b.timer n) → Timed b r status t
    → (eqb status 0 and asks_reading n r) ≡ false
    → Kept c (at t n)
step_kept c b r status t n few h stays a = h
step_kept c b r status t n few h (resets o s) a = absurd (true≢false (rw (s, o) at a))
step_kept c b r status t n few h (writes o l u s) a =
    writes_kept c b.timer n h (byte r 1) (byte r 2)
    (λ k. let e : byte r 1 ≡ 19 = omega (arith, eqb-true (byte r 1 % 4) 3 k) in left_false (mode_word_for n (byte r 2)) false (rw (s, o, e) at a))
step_kept c b r status t n few h (reads o l u s) a =
    reads_kept c b.timer n h (byte r 1) (λ e. eqb-false (byte r 1) (16 + n) (rw (s, o) at a) (omega arith))
step_kept c b r status t n few h (sets o) a = gates_kept c b.timer n h few (byte r 2)
step_kept c b r status t n few h (pulses o) a = advances_kept c (joined b) b.timer b.icu (pulse_count r) n few h

pub after_kept : (b : Board) (m s : List ℕ) (n k : ℕ) → n < 3 → Unread n b m s k → Kept (at b.timer n) (at (after b m s k).board.timer n)
unfolding after
after_kept b m s n zero few u =
    record { mode = refl; format = refl; second = refl; latched = λ q. q; latch = λ q. refl }
after_kept b m s n (suc k) few u =
    let d = after b m s k in
    step_kept (at b.timer n) d.board (record_at s k) _ _ n few (after_kept b m s n k few (λ i l. u i (omega arith))) (timed d.board (record_at s k) d.memory) (u k (omega arith))

-- A counter with a mode keeps it.
pub still_set : (c d : Counter) → Kept c d → moded c ≡ true → moded d ≡ true
unfolding moded
still_set c d h set = ap (λ (q : ℕ). ltb q 6) h.mode ∙ set

-- What a counter says in format 3: its low byte, and then its high byte.
module _ (c : Counter) (set : moded c ≡ true) (both : c.format ≡ 3) where
  not_one : eqb c.format 1 ≡ false
  not_one = ne_eqb c.format 1 (omega (arith, both))

  not_two : eqb c.format 2 ≡ false
  not_two = ne_eqb c.format 2 (omega (arith, both))

  pub first_read : c.second ≡ false → Ports.read_of c ≡ read_as (held c % 256) (second_is true c)
  unfolding Ports.read_of
  first_read e = rw (set, not_one, not_two, e)

  pub second_read : c.second ≡ true → Ports.read_of c ≡ read_as (held c / 256) (second_is false (latched_is false c))
  unfolding Ports.read_of
  second_read e = rw (set, not_one, not_two, e)

-- With the bus free a read answers what the counter says.
module _ (b : Board) (m : List ℕ) (n : ℕ) (few : n < 3) (free : b.dma.serving ≡ false) (there : n < length b.timer.counters) (a : Answer)
    (e : Ports.read_of (at b.timer n) ≡ a)
    (ok : a.status ≡ 0) where
  lands : read_at b m n ≡ answered_of 2 (telling (timer_is (counter_is n a.counter b.timer) b) a.byte)
  unfolding step_of decode_of unused readable outcome_of blocked execute_of read_of timer_shown reads_of got_by
  lands =
      let z : (16 + n) % 4 ≡ n = omega arith in
      rw (
        le-ltb (16 + n) 2 (omega arith),
        le-leb 16 (16 + n) (omega arith),
        lt-ltb (16 + n) 20 (omega arith),
        ne_eqb (16 + n) 19 (omega arith),
        free,
        ne_eqb ((16 + n) / 16) 0 (omega arith),
        eq-eqb ((16 + n) / 16) 1 (omega arith),
        z,
        ne_eqb n 3 (omega arith),
        e,
        ok,
      )

  pub leaves : at (read_at b m n).board.timer n ≡ a.counter
  unfolding answered_of
  leaves = ap (λ (s : Stepped). at s.board.timer n) lands ∙ get_or-set_same b.timer.counters n a.counter blank there

  pub read_as_told : Reads b m n a.byte a.counter.second
  unfolding answered_of answer_of
  read_as_told =
      record {
        taken = ap (λ (s : Stepped). get_or s.answer 0 0) lands;
        answers = ap (λ (s : Stepped). data_in s.answer) lands;
        next = ap (λ (c : Counter). c.second) leaves;
      }
