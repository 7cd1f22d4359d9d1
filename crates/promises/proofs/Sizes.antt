-- Every number of a reached board is as wide as its type.
use Rattle.tape.specs.declared.Operation.{Operation}
use Rattle.std.specs.Prelude.{Option}
use mathlib.Core.Path.{◌≡◌, refl, sym, ◌∙◌, subst}
use mathlib.Core.List.{List, [], ◌∷◌, ◌++◌}
use mathlib.Core.Bool.{Bool, true, false, not}
use Prim.Native.Nat.{ℕ, zero, suc, ◌+◌, ◌-◌, ◌*◌, ◌/◌, ◌%◌, ◌<◌}
use native.Mathlib.Omega.{arith}
use lib.Dec.{eqb, ltb, leb}
use lib.Bits.{bit_or, and_le_l, or_lt}
use lib.ListN.{get_or, set, take, length, length-set}
use lib.Seq.{get_or-set_same, get_or-set_other, set_out}
use borrow.Author.Tests.{eqb-true, eqb-false, ltb-true, ltb-false}
use Rattle.bits.specs.Choice.{◌and◌}
use Rattle.bits.specs.Bits.{bit_of, masked_of}
use Rattle.tape.specs.declared.Operation.TheVariants.{Reset, Write, Read, Intp, Gates, Requests, SlaveIntp, Acknowledge, Advance, Cycle}
use Rattle.tape.specs.Records.{byte, decode_of, pulse_count}
use Rattle.tape.proofs.Decodes.{either, Decodes, malformed, reset, write, read, intp, gates, requests, slave_intp, acknowledge, advance, cycle, decodes}
use Rattle.icu.specs.declared.Icu.{Icu}
use Rattle.icu.specs.Answers.{Told}
use Rattle.icu.specs.Words as Words
use Rattle.icu.specs.Words.{ready, lev, sngl, i4, sets_exceptional}
use Rattle.icu.specs.Requests.{int_of, rises, falls, lines_of}
use Rattle.icu.specs.Service as Service
use Rattle.cascade.specs.Cascade.{slave_iw3, joined_of, answered, passed_on}
use Rattle.timer.specs.declared.Counter.{Counter}
use Rattle.timer.specs.declared.Timer.{Timer}
use Rattle.timer.specs.Timer.{Written}
use Rattle.timer.specs.Timer.{Got}
use Rattle.timer.specs.Modes.{moded}
use Rattle.timer.specs.Ports as Ports
use Rattle.timer.specs.Ports.{Answer, SC, RWM, BCD, mode_set, mode_word, latch_word, control_of}
use Rattle.timer.specs.Pulse.{pulse_of, gate_of}
use Rattle.timer.specs.Timer.{blank, at, three, resets_of, wrote_by, got_by, controls_of, writes_of, reads_of, pulses_of, gates_of}
use Rattle.dma.specs.declared.Channel.{Channel}
use Rattle.dma.specs.declared.Dma.{Dma}
use Rattle.dma.specs.Answers.{Written as DmaWritten}
use Rattle.dma.specs.Answers.{Got as DmaGot}
use Rattle.dma.specs.Fields.{none, chan}
use Rattle.dma.specs.Registers as Registers
use Rattle.dma.specs.Cycle as DmaCycle
use Rattle.board.specs.declared.Board.{Board}
use Rattle.board.specs.Operations.{Outcome, a0, slave_written, slave_shown, slave_gives, acknowledge_of, timer_written, timer_shown, dma_written, dma_shown, write_of, read_of, cycle_of}
use Rattle.board.specs.Wiring.{fresh_of, icu_is, slave_is, timer_is, dma_is, lines_by, joined, lines, lines_at, followed}
use Rattle.board.specs.Advance.{tick_of, advanced_of, advance_of}
use Rattle.board.specs.Step.{execute_of, blocked, outcome_of, answered_of, step_of}
use Rattle.board.specs.Records.{record_at, after}
use Rattle.intake.specs.declared.Fed.{Fed}
use Rattle.intake.specs.Records.{rest_at}
use Rattle.intake.specs.Feed.{bytes_of, count_of, taken, fed_of}
use Rattle.promises.specs.Reached.{Bytes, Reached, unfed, fed, TypedIcu, Typed}
use Rattle.promises.proofs.Logic.{both_left, both_right}
use Rattle.timer.proofs.Pulses.{Counts, stays, one_less, two_less, loads, loads_even, pulsed, gated, counted, begins}
use Rattle.promises.proofs.Ruled.{too_small}
use Rattle.promises.proofs.IcuKept.{Fine, with_byte, without_byte}
use Rattle.promises.proofs.Change.{moved_mode}
use Rattle.promises.proofs.Sound.{Sound}
use Rattle.promises.proofs.BoardKept.{Held, reached_held}
use Rattle.promises.proofs.Runs.{reached_sound}

-- The interrupt chip.
abbrev pub SmallIcu : Icu → Type 0
SmallIcu c = (c.iw1 < 256) × (c.iw2 < 256) × (c.imr < 256) × (c.edges < 256)

module _ (c : Icu) (s : SmallIcu c) where
  abbrev P : Told → Type 0
  P t = SmallIcu t.icu

  module _ (x : ℕ) (h : x < 256) where
    later_small : (w : ℕ) → P (Words.later_word c w x)
    unfolding Words.later_word
    later_small w =
        either P (ready c) (λ _. (s.0, s.1, h, s.3))
        (λ _. either P (eqb c.stage 1)
        (λ _. either SmallIcu (sngl c) (λ _. either SmallIcu (i4 c) (λ _. (s.0, h, s.2, s.3)) (λ _. (s.0, h, s.2, s.3))) (λ _. (s.0, h, s.2, s.3)))
        (λ _. either P (eqb c.stage 4) (λ _. either P (eqb x w) (λ _. either SmallIcu (i4 c) (λ _. s) (λ _. s)) (λ _. s))
        (λ _. either P (eqb c.stage 2) (λ _. s) (λ _. s))))

    mcw_small : P (Words.mcw c x)
    unfolding Words.mcw
    mcw_small =
        either P (bit_of x 2) (λ _. s) (λ _. either P (sets_exceptional x) (λ _. s) (λ _. either P (bit_of x 1) (λ _. s) (λ _. s)))

    finished_small : (k : Bool) → SmallIcu (Words.finished c k)
    unfolding Words.finished
    finished_small k = either SmallIcu (eqb c.isr 0) (λ _. s) (λ _. either SmallIcu k (λ _. s) (λ _. s))

    pfcw_small : SmallIcu (Words.pfcw c x)
    unfolding Words.pfcw
    pfcw_small = by (bit_of x 7) (bit_of x 6) (bit_of x 5)
      where
        by : (rp sil fi : Bool) → SmallIcu (Words.commanded rp sil fi c (x % 8))
        by false false true = finished_small false
        by true false true = finished_small true
        by false true true = s
        by true true true = s
        by true true false = s
        by true false false = s
        by false false false = s
        by false true false = s

    icu_write : (w : ℕ) (k : Bool) → P (Words.write_of c w k x)
    unfolding Words.write_of Words.iw1
    icu_write w k =
        either P k (λ _. later_small w)
        (λ _. either P (bit_of x 4) (λ _. (h, s.1, omega arith, omega arith))
        (λ _. either P (ready c) (λ _. either P (bit_of x 3) (λ _. mcw_small) (λ _. pfcw_small)) (λ _. s)))

  pub served_small : (n : ℕ) → SmallIcu (Service.served_of c n)
  unfolding Service.served_of
  served_small n =
      let e = without_byte c.edges n s.3 in
      either SmallIcu c.sfi
      (λ _. either SmallIcu c.rotation (λ _. (s.0, s.1, s.2, e)) (λ _. (s.0, s.1, s.2, e)))
      (λ _. (s.0, s.1, s.2, e))

  icu_acknowledge : (l : ℕ) → P (Service.acknowledge_of c l)
  unfolding Service.acknowledge_of
  icu_acknowledge l =
      either P (ready c)
      (λ _. either P (int_of c l) (λ _. either P c.vector (λ _. served_small (Service.takes c l)) (λ _. served_small (Service.takes c l)))
      (λ _. either P c.vector (λ _. s) (λ _. s)))
      (λ _. s)

  icu_read : (k : Bool) (l : ℕ) → P (Service.read_of c k l)
  unfolding Service.read_of
  icu_read k l = either P (ready c) (λ _. either P k (λ _. s) (λ _. either P c.showsisr (λ _. s) (λ _. s))) (λ _. s)

  icu_lines : (was now : ℕ) → now < 256 → SmallIcu (lines_of c was now)
  unfolding lines_of masked_of
  icu_lines was now h =
      either SmallIcu (ready c)
      (λ _. either SmallIcu (lev c) (λ _. s) (λ _. (
        s.0,
        s.1,
        s.2,
        omega (
          arith,
          and_le_l (bit_or c.edges (rises was now)) (255 - falls was now),
          or_lt 8 c.edges (rises was now) s.3 (omega (arith, and_le_l now (255 - was))),
        ),
      )))
      (λ _. s)

icu_reset : SmallIcu Words.reset_of
unfolding Words.reset_of
icu_reset = (omega arith, omega arith, omega arith, omega arith)

-- The timer.
abbrev pub SmallCounter : Counter → Type 0
SmallCounter c = (c.value < 65536) × (c.count < 65536) × (c.latch < 65536) × (c.low < 256)

module _ (c : Counter) (s : SmallCounter c) where
  abbrev A : Answer → Type 0
  A a = SmallCounter a.counter

  control_small : (w : ℕ) → A (control_of c w)
  unfolding control_of latch_word mode_word mode_set
  control_small w =
      either A (eqb (RWM w) 0)
      (λ _. either A (moded c) (λ _. either A c.latched (λ _. s) (λ _. (s.0, s.1, s.0, s.3))) (λ _. s))
      (λ _. either A (eqb (BCD w) 1) (λ _. s) (λ _. s))

  count_small : (n : ℕ) → n < 65536 → A (Ports.count_of c n)
  unfolding Ports.count_of
  count_small n h = either A (too_small c n) (λ _. s) (λ _. subst SmallCounter (sym (counted c n)) (s.0, h, s.2, s.3))

  write_small : (x : ℕ) → x < 256 → A (Ports.write_of c x)
  unfolding Ports.write_of
  write_small x h =
      either A (moded c)
      (λ _. either A (eqb c.format 1) (λ _. count_small x (omega arith))
      (λ _. either A (eqb c.format 2) (λ _. count_small (x * 256) (omega arith))
      (λ _. either A c.half (λ _. count_small (c.low + x * 256) (omega (arith, s.3))) (λ _. subst SmallCounter (sym (begins c x)) (s.0, s.1, s.2, h)))))
      (λ _. s)

  read_small : A (Ports.read_of c)
  unfolding Ports.read_of
  read_small =
      either A (moded c)
      (λ _. either A (eqb c.format 1) (λ _. s)
      (λ _. either A (eqb c.format 2) (λ _. s) (λ _. either A c.second (λ _. s) (λ _. s))))
      (λ _. s)

  counts_small : (v : ℕ) → Counts c v → v < 65536
  counts_small v stays = s.0
  counts_small v one_less = omega arith
  counts_small v two_less = omega arith
  counts_small v loads = s.1
  counts_small v loads_even = omega (arith, s.1)

  pulse_small : SmallCounter (pulse_of c)
  pulse_small =
      let p = pulsed c in
      subst SmallCounter (sym p.rest) (counts_small (pulse_of c).value p.value, s.1, s.2, s.3)

  gate_small : (k : Bool) → SmallCounter (gate_of c k)
  gate_small k = subst SmallCounter (sym (gated c k)) s

-- All of a list, and what stands past its end, with one of them replaced.
module _ {A : Type 0} (Q : A → Type 0) (past : A) where
  put : (l : List A) (i : ℕ) (c : A) → Q c → ((n : ℕ) → Q (get_or l n past)) → (n : ℕ) → Q (get_or (set l i c) n past)
  put l i c g f n = by (eqb n i) (ltb i (length l)) refl refl
    where
      by : (q u : Bool) → eqb n i ≡ q → ltb i (length l) ≡ u → Q (get_or (set l i c) n past)
      by false u q v = subst Q (sym (get_or-set_other l i n c past (eqb-false n i q))) (f n)
      by true false q v = subst (λ (k : List A). Q (get_or k n past)) (sym (set_out l i c (ltb-false i (length l) v))) (f n)
      by true true q v =
          subst (λ (k : ℕ). Q (get_or (set l i c) k past)) (sym (eqb-true n i q))
          (subst Q (sym (get_or-set_same l i c past (ltb-true i (length l) v))) g)

pub record SmallTimer (t : Timer) : Type 0 where
  long : length t.counters ≡ 3
  all : (n : ℕ) → SmallCounter (at t n)

three_small : (a b c : Counter) → SmallCounter a → SmallCounter b → SmallCounter c → SmallTimer (three a b c)
three_small a b c x y z = record { long = refl; all = by }
  where
    by : (n : ℕ) → SmallCounter (at (three a b c) n)
    by zero = x
    by (suc zero) = y
    by (suc (suc zero)) = z
    by (suc (suc (suc n))) = (omega arith, omega arith, omega arith, omega arith)

resets_small : SmallTimer resets_of
unfolding resets_of
resets_small = three_small Ports.reset_of Ports.reset_of Ports.reset_of zeros zeros zeros
  where
    zeros : SmallCounter Ports.reset_of
    zeros = (omega arith, omega arith, omega arith, omega arith)

module _ (t : Timer) (s : SmallTimer t) where
  abbrev W : Written → Type 0
  W w = SmallTimer w.timer

  abbrev R : Got → Type 0
  R w = SmallTimer w.timer

  put_small : (i : ℕ) (c : Counter) → SmallCounter c → SmallTimer (record { counters = set t.counters i c })
  put_small i c g =
      record { long = length-set t.counters i c ∙ s.long; all = put SmallCounter blank t.counters i c g s.all }

  timer_write : (a x : ℕ) → x < 256 → W (writes_of t a x)
  unfolding writes_of controls_of wrote_by
  timer_write a x h =
      either W (eqb (a % 4) 3)
      (λ _. either W (eqb (SC x) 3) (λ _. s)
      (λ _. put_small (SC x) (control_of (at t (SC x)) x).counter (control_small (at t (SC x)) (s.all (SC x)) x)))
      (λ _. put_small (a % 4) (Ports.write_of (at t (a % 4)) x).counter (write_small (at t (a % 4)) (s.all (a % 4)) x h))

  timer_read : (a : ℕ) → R (reads_of t a)
  unfolding reads_of got_by
  timer_read a =
      either R (eqb (a % 4) 3) (λ _. s)
      (λ _. put_small (a % 4) (Ports.read_of (at t (a % 4))).counter (read_small (at t (a % 4)) (s.all (a % 4))))

  pulses_small : SmallTimer (pulses_of t)
  unfolding pulses_of
  pulses_small = three_small _ _ _ (pulse_small (at t 0) (s.all 0)) (pulse_small (at t 1) (s.all 1)) (pulse_small (at t 2) (s.all 2))

  gates_small : (l : ℕ) → SmallTimer (gates_of t l)
  unfolding gates_of
  gates_small l =
      three_small _ _ _ (gate_small (at t 0) (s.all 0) (bit_of l 0)) (gate_small (at t 1) (s.all 1) (bit_of l 1)) (gate_small (at t 2) (s.all 2) (bit_of l 2))

-- The modes of the DMA chip's channels. (Its other fields have bounds of their own.)
abbrev pub SmallChannel : Channel → Type 0
SmallChannel c = c.mode < 256

abbrev pub SmallDma : Dma → Type 0
SmallDma d = (n : ℕ) → SmallChannel (chan d n)

four_small : (a b c d : Channel) → SmallChannel a → SmallChannel b → SmallChannel c → SmallChannel d → (n : ℕ) → SmallChannel (get_or (a ∷ b ∷ c ∷ d ∷ []) n none)
four_small a b c d w x y z zero = w
four_small a b c d w x y z (suc zero) = x
four_small a b c d w x y z (suc (suc zero)) = y
four_small a b c d w x y z (suc (suc (suc zero))) = z
four_small a b c d w x y z (suc (suc (suc (suc n)))) = omega arith

reset_small : SmallDma Registers.reset_of
unfolding Registers.reset_of
reset_small = four_small Registers.unset Registers.unset Registers.unset Registers.unset (omega arith) (omega arith) (omega arith) (omega arith)

module _ (d : Dma) (s : SmallDma d) where
  abbrev D : DmaWritten → Type 0
  D w = SmallDma w.dma

  abbrev G : DmaGot → Type 0
  G w = SmallDma w.dma

  abbrev O : DmaCycle.Out → Type 0
  O o = SmallDma o.dma

  choose : (c : Channel) → SmallChannel c → SmallDma (Registers.chosen c d)
  choose c g = put SmallChannel none d.channels d.selected c g s

  dma_write : (r x : ℕ) → x < 256 → D (Registers.write_of d r x)
  unfolding Registers.write_of Registers.initialized_of Registers.selected_of Registers.loaded_of Registers.controlled_of Registers.moded_of Registers.masked_by Registers.reset_of
  dma_write r x h =
      either D (eqb n 0) (λ _. either D (bit_of x 0) (λ _. reset_small) (λ _. either D (not (bit_of x 1) and Registers.any_words d) (λ _. s) (λ _. s)))
      (λ _. either D (eqb n 1) (λ _. s)
      (λ _. either D (leb n 6) (λ _. either SmallDma d.base (λ _. choose _ (s d.selected)) (λ _. choose _ (s d.selected)))
      (λ _. either D (eqb n 7) (λ _. s)
      (λ _. either D (eqb n 8) (λ _. either D (eqb (masked_of x 20) 0) (λ _. s) (λ _. s))
      (λ _. either D (eqb n 9) (λ _. either D (eqb x 0) (λ _. s) (λ _. s))
      (λ _. either D (eqb n 10) (λ _. either D (Registers.refuses_mode d x) (λ _. s) (λ _. choose _ h))
      (λ _. either D (eqb n 11) (λ _. s)
      (λ _. either D (ltb n 15) (λ _. s) (λ _. four_small _ _ _ _ (s 0) (s 1) (s 2) (s 3))))))))))
    where
      n : ℕ
      n = r % 16

  dma_requests : (l : ℕ) → SmallDma (Registers.requested_of d l)
  unfolding Registers.requested_of
  dma_requests l = s

  dma_read : (r : ℕ) → G (Registers.read_of d r)
  unfolding Registers.read_of
  dma_read r =
      either G (eqb n 0) (λ _. s)
      (λ _. either G (eqb n 1) (λ _. s)
      (λ _. either G (leb n 6) (λ _. s)
      (λ _. either G (eqb n 7) (λ _. s)
      (λ _. either G (eqb n 8) (λ _. s)
      (λ _. either G (eqb n 9) (λ _. s)
      (λ _. either G (eqb n 10) (λ _. s)
      (λ _. either G (eqb n 11) (λ _. s)
      (λ _. either G (ltb n 15) (λ _. s) (λ _. s)))))))))
    where
      n : ℕ
      n = r % 16

  dma_cycle : (e : Bool) (x y : ℕ) (m : List ℕ) → O (DmaCycle.cycle_of d e x y m)
  unfolding DmaCycle.cycle_of DmaCycle.nothing_of DmaCycle.granted_of DmaCycle.released_of DmaCycle.unit_of
  dma_cycle e x y m =
      either O d.serving
      (λ _. either O (DmaCycle.releases d) (λ _. s)
      (λ _. put SmallChannel none d.channels d.channel _ (rw (moved_mode (chan d d.channel) last) (s d.channel)) s))
      (λ _. either O d.disabled (λ _. s) (λ _. either O (eqb (DmaCycle.winner d) 4) (λ _. s) (λ _. s)))
    where
      last : Bool
      last = DmaCycle.last_of (chan d d.channel) e

-- The board.
pub record Sized (b : Board) : Type 0 where
  pub icu : SmallIcu b.icu
  pub intp : b.intp < 256
  pub slave : SmallIcu b.slave
  pub slaveintp : b.slaveintp < 256
  pub timer : SmallTimer b.timer
  pub dma : SmallDma b.dma

pub lines_by_small : (i : ℕ) (q : Bool) → i < 256 → lines_by i q < 256
lines_by_small i q h = either (λ (x : ℕ). x < 256) q (λ _. with_byte i 0 h (omega arith)) (λ _. without_byte i 0 h)

pub joined_small : (i : ℕ) (s : Icu) (x : ℕ) → i < 256 → joined_of i s x < 256
unfolding joined_of
joined_small i s x h = either (λ (y : ℕ). y < 256) (int_of s x) (λ _. with_byte i 7 h (omega arith)) (λ _. h)

pub lines_small : (i : ℕ) (t : Timer) → i < 256 → lines_at i t < 256
unfolding lines_at
lines_small i t h = lines_by_small i (at t 0).out h

advanced : (i : ℕ) (t : Timer) (c : Icu) (n : ℕ) → i < 256 → SmallTimer t → SmallIcu c
    → SmallTimer (advanced_of i t c n).timer × SmallIcu (advanced_of i t c n).icu
unfolding advanced_of tick_of
advanced i t c zero h f g = (f, g)
advanced i t c (suc n) h f g =
    let r = advanced_of i t c n in
    let k = advanced i t c n h f g in
    (pulses_small r.timer k.0, icu_lines r.icu k.1 _ _ (lines_small i (pulses_of r.timer) h))

module _ (b : Board) (s : Sized b) where
  abbrev B : Outcome → Type 0
  B o = Sized o.board

  with_icu : (c : Icu) → SmallIcu c → Sized (icu_is c b)
  with_icu c h = record { icu = h; intp = s.intp; slave = s.slave; slaveintp = s.slaveintp; timer = s.timer; dma = s.dma }

  with_slave : (c : Icu) (x : ℕ) → SmallIcu c → x < 256 → Sized (slave_is c x b)
  with_slave c x h l = record { icu = s.icu; intp = s.intp; slave = h; slaveintp = l; timer = s.timer; dma = s.dma }

  with_timer : (t : Timer) → SmallTimer t → Sized (timer_is t b)
  with_timer t h = record { icu = s.icu; intp = s.intp; slave = s.slave; slaveintp = s.slaveintp; timer = h; dma = s.dma }

  with_dma : (d : Dma) → SmallDma d → Sized (dma_is d b)
  with_dma d h = record { icu = s.icu; intp = s.intp; slave = s.slave; slaveintp = s.slaveintp; timer = s.timer; dma = h }

  -- The master follows what became of the rest of the board.
  followed_small : (d : Board) → Sized d → Sized (followed b d)
  followed_small d k =
      record {
        icu = icu_lines d.icu k.icu (lines b) (lines d) (lines_small (joined d) d.timer (joined_small d.intp d.slave d.slaveintp k.intp));
        intp = k.intp;
        slave = k.slave;
        slaveintp = k.slaveintp;
        timer = k.timer;
        dma = k.dma;
      }

  board_write : (p x : ℕ) → x < 256 → B (write_of b p x)
  unfolding write_of timer_written dma_written slave_written
  board_write p x h =
      either B (eqb (p / 16) 0) (λ _. with_icu _ (icu_write b.icu s.icu x h 128 (a0 p)))
      (λ _. either B (eqb (p / 16) 1)
      (λ _. either B (eqb (writes_of b.timer p x).status 0)
      (λ _. followed_small _ (with_timer _ (timer_write b.timer s.timer p x h)))
      (λ _. s))
      (λ _. either B (eqb (p / 16) 2)
      (λ _. either B (eqb (Registers.write_of b.dma p x).status 0) (λ _. with_dma _ (dma_write b.dma s.dma p x h)) (λ _. s))
      (λ _. either B (eqb (Words.write_of b.slave slave_iw3 (a0 p) x).status 0)
      (λ _. followed_small _ (with_slave _ _ (icu_write b.slave s.slave x h 7 (a0 p)) s.slaveintp))
      (λ _. s))))

  board_read : (p : ℕ) → B (read_of b p)
  unfolding read_of timer_shown dma_shown slave_shown
  board_read p =
      either B (eqb (p / 16) 0) (λ _. with_icu _ (icu_read b.icu s.icu (a0 p) (lines b)))
      (λ _. either B (eqb (p / 16) 1)
      (λ _. either B (eqb (reads_of b.timer p).status 0) (λ _. with_timer _ (timer_read b.timer s.timer p)) (λ _. s))
      (λ _. either B (eqb (p / 16) 2)
      (λ _. either B (eqb (Registers.read_of b.dma p).status 0) (λ _. with_dma _ (dma_read b.dma s.dma p)) (λ _. s))
      (λ _. s)))

  board_acknowledge : B (acknowledge_of b)
  unfolding acknowledge_of slave_gives
  board_acknowledge =
      either B (passed_on b.icu (lines b) b.slave)
      (λ _. followed_small _
      (record {
        icu = served_small b.icu s.icu 7;
        intp = s.intp;
        slave = icu_acknowledge b.slave s.slave b.slaveintp;
        slaveintp = s.slaveintp;
        timer = s.timer;
        dma = s.dma;
      }))
      (λ _. either B (answered b.icu b.slave) (λ _. with_icu _ (icu_acknowledge b.icu s.icu (lines b))) (λ _. s))

  module _ (r m : List ℕ) (h : (i : ℕ) → byte r i < 256) where
    execute : (x : Option Operation) → Decodes r x → B (outcome_of b x m)
    unfolding outcome_of execute_of advance_of cycle_of
    execute x malformed = s
    execute x (reset o) =
        either B (blocked b Reset) (λ _. s)
        (λ _. record { icu = icu_reset; intp = omega arith; slave = icu_reset; slaveintp = omega arith; timer = resets_small; dma = reset_small })
    execute x (write o p) = either B (blocked b (Write (byte r 1) (byte r 2))) (λ _. s) (λ _. board_write (byte r 1) (byte r 2) (h 2))
    execute x (read o p) = either B (blocked b (Read (byte r 1))) (λ _. s) (λ _. board_read (byte r 1))
    execute x (intp o l) = either B (blocked b (Intp (byte r 2))) (λ _. s) (λ _. followed_small _
        (record { icu = s.icu; intp = h 2; slave = s.slave; slaveintp = s.slaveintp; timer = s.timer; dma = s.dma }))
    execute x (gates o l) =
        either B (blocked b (Gates (byte r 2))) (λ _. s) (λ _. followed_small _ (with_timer _ (gates_small b.timer s.timer (byte r 2))))
    execute x (requests o l) = either B (blocked b (Requests (byte r 2))) (λ _. s) (λ _. with_dma _ (dma_requests b.dma s.dma (byte r 2)))
    execute x (slave_intp o) =
        either B (blocked b (SlaveIntp (byte r 2))) (λ _. s)
        (λ _. followed_small _ (with_slave _ _ (icu_lines b.slave s.slave b.slaveintp (byte r 2) (h 2)) (h 2)))
    execute x (acknowledge o) = either B (blocked b Acknowledge) (λ _. s) (λ _. board_acknowledge)
    execute x (advance o l) =
        either B (blocked b (Advance (pulse_count r))) (λ _. s)
        (λ _. let k = advanced (joined b) b.timer b.icu (pulse_count r) (joined_small b.intp b.slave b.slaveintp s.intp) s.timer s.icu in
        record { icu = k.1; intp = s.intp; slave = s.slave; slaveintp = s.slaveintp; timer = k.0; dma = s.dma })
    execute x (cycle o) =
        either B (blocked b (Cycle (eqb (byte r 1) 1) (byte r 2) (byte r 3))) (λ _. s)
        (λ _. with_dma _ (dma_cycle b.dma s.dma (eqb (byte r 1) 1) (byte r 2) (byte r 3) m))

    pub step_sized : Sized (step_of b r m).board
    unfolding step_of answered_of
    step_sized = execute (decode_of r) (decodes r)

-- A list of bytes, by a test; the bytes of a call, of a record, and of what is kept.
unfoldable pub are_bytes : List ℕ → Bool
are_bytes [] = true
are_bytes (x ∷ l) = ltb x 256 and are_bytes l

pub small_bytes : (l : List ℕ) → are_bytes l ≡ true → Bytes l
unfolding are_bytes
small_bytes [] h i = omega arith
small_bytes (x ∷ l) h zero = ltb-true x 256 (both_left (ltb x 256) (are_bytes l) h)
small_bytes (x ∷ l) h (suc i) = small_bytes l (both_right (ltb x 256) (are_bytes l) h) i

pub take_bytes : (n : ℕ) (l : List ℕ) → Bytes l → Bytes (take n l)
take_bytes zero l h i = omega arith
take_bytes (suc n) [] h i = omega arith
take_bytes (suc n) (x ∷ l) h zero = h 0
take_bytes (suc n) (x ∷ l) h (suc i) = take_bytes n l (λ j. h (suc j)) i

append_bytes : (l t : List ℕ) → Bytes l → Bytes t → Bytes (l ++ t)
append_bytes [] t h k i = k i
append_bytes (x ∷ l) t h k zero = h 0
append_bytes (x ∷ l) t h k (suc i) = append_bytes l t (λ j. h (suc j)) k i

pub record_bytes : (s : List ℕ) (i : ℕ) → Bytes s → (j : ℕ) → byte (record_at s i) j < 256
unfolding record_at
record_bytes s i h zero = h (8 * i)
record_bytes s i h (suc zero) = h (8 * i + 1)
record_bytes s i h (suc (suc zero)) = h (8 * i + 2)
record_bytes s i h (suc (suc (suc zero))) = h (8 * i + 3)
record_bytes s i h (suc (suc (suc (suc zero)))) = h (8 * i + 4)
record_bytes s i h (suc (suc (suc (suc (suc zero))))) = h (8 * i + 5)
record_bytes s i h (suc (suc (suc (suc (suc (suc zero)))))) = h (8 * i + 6)
record_bytes s i h (suc (suc (suc (suc (suc (suc (suc zero))))))) = h (8 * i + 7)
record_bytes s i h (suc (suc (suc (suc (suc (suc (suc (suc j)))))))) = omega arith

pub after_sized : (b : Board) (m s : List ℕ) (n : ℕ) → Bytes s → Sized b → Sized (after b m s n).board
unfolding after
after_sized b m s zero h g = g
after_sized b m s (suc n) h g = step_sized (after b m s n).board (after_sized b m s n h g) (record_at s n) (after b m s n).memory (record_bytes s n h)

pub record Keeps (b : Board) : Type 0 where
  pub seven : length b.kept.bytes ≡ 7
  pub bytes : Bytes b.kept.bytes
  pub sized : Sized b

pub call_bytes : (b : Board) (t : List ℕ) → Keeps b → Bytes t → Bytes (bytes_of b t)
call_bytes b t k h = append_bytes (take b.kept.length b.kept.bytes) t (take_bytes b.kept.length b.kept.bytes k.bytes) h

rest_bytes : (s : List ℕ) (n : ℕ) → Bytes s → Bytes (rest_at s n)
unfolding rest_at
rest_bytes s n h zero = h (8 * n)
rest_bytes s n h (suc zero) = h (8 * n + 1)
rest_bytes s n h (suc (suc zero)) = h (8 * n + 2)
rest_bytes s n h (suc (suc (suc zero))) = h (8 * n + 3)
rest_bytes s n h (suc (suc (suc (suc zero)))) = h (8 * n + 4)
rest_bytes s n h (suc (suc (suc (suc (suc zero))))) = h (8 * n + 5)
rest_bytes s n h (suc (suc (suc (suc (suc (suc zero)))))) = h (8 * n + 6)
rest_bytes s n h (suc (suc (suc (suc (suc (suc (suc i))))))) = omega arith

pub fed_keeps : (b : Board) (t m : List ℕ) (room : ℕ) → Bytes t → Keeps b → Keeps (fed_of b t m room).board
unfolding fed_of rest_at
fed_keeps b t m room h k =
    let s = call_bytes b t k h in
    either (λ (f : Fed). Keeps f.board) (taken b t room)
    (λ _. let z = after_sized b m (bytes_of b t) (count_of b t) s k.sized in
    record {
      seven = refl;
      bytes = rest_bytes (bytes_of b t) (count_of b t) s;
      sized = record { icu = z.icu; intp = z.intp; slave = z.slave; slaveintp = z.slaveintp; timer = z.timer; dma = z.dma };
    })
    (λ _. k)

pub reached_keeps : {b : Board} → Reached b → Keeps b
unfolding fresh_of rest_at
reached_keeps unfed =
    record {
      seven = refl;
      bytes = rest_bytes [] 0 (λ i. omega arith);
      sized = record { icu = icu_reset; intp = omega arith; slave = icu_reset; slaveintp = omega arith; timer = resets_small; dma = reset_small };
    }
reached_keeps (fed {b = b} t m room h _ g) = fed_keeps b t m room h (reached_keeps g)

-- A board that is as wide as its types, by the statement and by what is kept of it.
typed_icu : {c : Icu} → SmallIcu c → Fine c → TypedIcu c
typed_icu i f = record { iw1 = i.0; iw2 = i.1; edges = i.3; isr = f.isr; imr = i.2 }

small_icu : {c : Icu} → TypedIcu c → SmallIcu c
small_icu t = (t.iw1, t.iw2, t.imr, t.edges)

pub typed_of : {b : Board} → Keeps b → Sound b.dma → Held b → Typed b
typed_of k s h =
    record {
      icu = typed_icu k.sized.icu h.icu;
      intp = k.sized.intp;
      slave = typed_icu k.sized.slave h.slave;
      slaveintp = k.sized.slaveintp;
      three = k.sized.timer.long;
      value = λ n. (k.sized.timer.all n).0;
      count = λ n. (k.sized.timer.all n).1;
      latch = λ n. (k.sized.timer.all n).2;
      low = λ n. (k.sized.timer.all n).3;
      four = s.four;
      current_count = λ n. (s.good n).count;
      base_count = λ n. (s.good n).size;
      mode = k.sized.dma;
      seven = k.seven;
      kept = k.bytes;
    }

pub keeps_of : {b : Board} → Typed b → Keeps b
keeps_of t =
    record {
      seven = t.seven;
      bytes = t.kept;
      sized = record {
        icu = small_icu t.icu;
        intp = t.intp;
        slave = small_icu t.slave;
        slaveintp = t.slaveintp;
        timer = record { long = t.three; all = λ n. (t.value n, t.count n, t.latch n, t.low n) };
        dma = t.mode;
      };
    }

pub reached_typed : {b : Board} → Reached b → Typed b
reached_typed r = typed_of (reached_keeps r) (reached_sound r) (reached_held r)
