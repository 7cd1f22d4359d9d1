-- A count that is written is loaded by the next pulse, and not before.
use mathlib.Core.Path.{◌≡◌, refl, sym, ap, subst, ◌∙◌}
use mathlib.Core.Logic.{◌≢◌}
use mathlib.Core.List.{List, [], ◌∷◌, ◌++◌}
use mathlib.Core.Bool.{Bool, true, false, not, true≢false, false≢true}
use Prim.Native.Nat.{ℕ, zero, suc, ◌+◌, ◌-◌, ◌*◌, ◌/◌, ◌%◌, ◌≤◌, ◌<◌}
use native.Mathlib.Omega.{arith}
use lib.Dec.{eqb, ltb}
use lib.ListN.{length, length-set, get_or-eq_default}
use lib.Seq.{get_or-set_same}
use borrow.Author.Tests.{eq-eqb, ne_eqb, le-leb, le-ltb, lt-ltb, ltb-true, ltb-false}
use Rattle.bits.specs.Choice.{◌and◌, ◌or◌, every}
use Rattle.std.specs.Prelude.{if◌then◌else◌}
use Rattle.bits.specs.Bits.{bit_of, less}
use Rattle.bits.proofs.Every.{agree, alike}
use Rattle.tape.specs.Records.{unused, writable, decode_of}
use Rattle.timer.specs.declared.Counter.{Counter}
use Rattle.timer.specs.declared.Timer.{Timer}
use Rattle.timer.specs.Mode0.{pulse0}
use Rattle.timer.specs.Mode1.{pulse1}
use Rattle.timer.specs.Mode2.{pulse2}
use Rattle.timer.specs.Mode3.{end_of_half, pulse3}
use Rattle.timer.specs.Mode4.{pulse4}
use Rattle.timer.specs.Mode5.{pulse5}
use Rattle.timer.specs.Modes.{mode_of, moded}
use Rattle.timer.specs.Ports.{Answer, done, SC, RWM, CM, BCD, mode_in, mode_set, mode_word, control_of, completed, begun}
use Rattle.timer.specs.Ports as Ports
use Rattle.timer.specs.Fields.{count_is, half_is, trigger_is, gate_is}
use Rattle.timer.specs.Pulse.{pulse_of, risen, gate_of}
use Rattle.timer.specs.Run.{ran_of}
use Rattle.timer.specs.Timer.{blank, at, wrote_by, controls_of, writes_of}
use Rattle.board.specs.declared.Board.{Board}
use Rattle.board.specs.Operations.{timer_written, write_of}
use Rattle.board.specs.Step.{execute_of, blocked, outcome_of, answered_of, step_of}
use Rattle.board.specs.Records.{record_at, after}
use Rattle.timer.proofs.Pulses.{by_mode, pulsed, gated, counted, begins}
use Rattle.tape.proofs.Decodes.{either}
use Rattle.promises.specs.Table.{among, unbuilt_control}
use Rattle.promises.specs.TaughtWords.{writing_of, first_byte, Completes, low_byte, high_byte, second_byte, too_small, loads_as, transfers_next, reloads_next, Clocks, a_pulse, the_gates, mode_named, count_bytes, count_made}
use Rattle.promises.specs.Records.{writing, setting, pulsing}
use Rattle.promises.proofs.Logic.{left_false, or_true}
use Rattle.promises.proofs.Readings.{too_small_law}
use Rattle.promises.proofs.Plain as Plain
use Rattle.promises.proofs.Plain.{gates_set, pulse_at, gate_at, loads_nothing}

-- The bus is free, and counter n, which is there, is c.
pub record Holds (b : Board) (n : ℕ) (c : Counter) : Type 0 where
  pub free : b.dma.serving ≡ false
  pub there : n < length b.timer.counters
  pub counter : at b.timer n ≡ c

-- A counter that is not the blank one is there, and so one with a format.
pub is_there : (t : Timer) (n : ℕ) → at t n ≢ blank → n < length t.counters
is_there t n h = by (ltb n (length t.counters)) refl
  where
    by : (q : Bool) → ltb n (length t.counters) ≡ q → n < length t.counters
    by true q = ltb-true n (length t.counters) q
    by false q = absurd (h (get_or-eq_default t.counters blank (ltb-false n (length t.counters) q)))

pub present : (t : Timer) (n : ℕ) → (at t n).format ≢ 0 → n < length t.counters
present t n h = is_there t n (λ e. h (ap (λ (c : Counter). c.format) e))

module _ (b : Board) (m : List ℕ) (n : ℕ) (few : n < 3) where
  -- What counter n answers at a port of the timer is the record's, if it is done.
  lands : (p x : ℕ) (a : Answer) → 16 ≤ p → p < 20 → b.dma.serving ≡ false → n < length b.timer.counters
      → writes_of b.timer p x ≡ wrote_by b.timer n a
      → a.status ≡ 0
      → Holds (step_of b (writing p x) m).board n a.counter
  unfolding step_of answered_of decode_of unused writable outcome_of blocked execute_of write_of timer_written wrote_by
  lands p x a l h free there e ok =
      rw (
        le-ltb p 2 (omega arith),
        le-leb 16 p l,
        lt-ltb p 20 h,
        free,
        ne_eqb (p / 16) 0 (omega arith),
        eq-eqb (p / 16) 1 (omega arith),
        e,
        ok,
      )
      (record {
        free = refl;
        there = rw (length-set b.timer.counters n a.counter) there;
        counter = get_or-set_same b.timer.counters n a.counter blank there;
      })

  module _ (c : Counter) (h : Holds b n c) where
    -- A count byte, and a control word.
    pub count_lands : (x : ℕ) → (Ports.write_of c x).status ≡ 0 → Holds (step_of b (writing (16 + n) x) m).board n (Ports.write_of c x).counter
    unfolding writes_of
    count_lands x ok =
        let e : (16 + n) % 4 ≡ n = omega arith in
        lands (16 + n) x (Ports.write_of c x) (omega arith) (omega arith) h.free h.there
        (rw (e, ne_eqb n 3 (omega arith), h.counter))
        ok

    word_lands : (w : ℕ) → SC w ≡ n → (control_of c w).status ≡ 0 → Holds (step_of b (writing 19 w) m).board n (control_of c w).counter
    unfolding writes_of controls_of
    word_lands w s ok =
        lands 19 w (control_of c w) (omega arith) (omega arith) h.free h.there
        (rw (s, ne_eqb n 3 (omega arith), h.counter))
        ok

    pulse_lands : at (step_of b pulsing m).board.timer n ≡ pulse_of c
    pulse_lands = ap (λ (t : Timer). at t n) (Plain.pulsed b m) ∙ pulse_at b.timer n few ∙ ap pulse_of h.counter

-- One counter that takes a complete count.
pub complete_format : (c : Counter) (x N : ℕ) → Completes c x N → c.format ≢ 0
complete_format c x N (low_byte f) = omega (arith, f)
complete_format c x N (high_byte f) = omega (arith, f)
complete_format c x N (second_byte f k) = omega (arith, f)

module _ (c : Counter) (set : moded c ≡ true) where
  pub taken_as : (x N : ℕ) → Completes c x N → too_small c.mode N ≡ false → Ports.write_of c x ≡ done (completed c N)
  unfolding Ports.write_of Ports.count_of
  taken_as x N (low_byte f) u = rw (set, eq-eqb c.format 1 f, too_small_law c x, u)
  taken_as x N (high_byte f) u = rw (set, ne_eqb c.format 1 (omega (arith, f)), eq-eqb c.format 2 f, too_small_law c (x * 256), u)
  taken_as x N (second_byte f k) u =
      rw (set, ne_eqb c.format 1 (omega (arith, f)), ne_eqb c.format 2 (omega (arith, f)), k, too_small_law c (c.low + x * 256), u)

-- The next pulse loads, mode by mode.
abbrev pub loads_now : Counter → Bool
loads_now c =
    if among c.mode (0 ∷ 4 ∷ []) then c.pending
    else if among c.mode (2 ∷ 3 ∷ []) then c.pending or reloads_next c
    else c.trigger

-- Nothing is loaded, and a complete count still waits.
pub record Still (c d : Counter) : Type 0 where
  pub value : d.value ≡ c.value
  pub pending : d.pending ≡ true
  pub trigger : d.trigger ≡ false

module _ (c : Counter) where
  loads_0 : c.pending ≡ true → (pulse0 c).value ≡ c.count
  unfolding pulse0
  loads_0 p = rw p

  loads_1 : c.trigger ≡ true → (pulse1 c).value ≡ c.count
  unfolding pulse1
  loads_1 t = rw t

  loads_2 : (c.pending or c.trigger or (c.gate and eqb c.value 1)) ≡ true → (pulse2 c).value ≡ c.count
  unfolding pulse2
  loads_2 h = go c.pending c.trigger c.gate (eqb c.value 1) refl refl refl refl h
    where
      go : (p t g o : Bool) → c.pending ≡ p → c.trigger ≡ t → c.gate ≡ g → eqb c.value 1 ≡ o → (p or t or (g and o)) ≡ true → (pulse2 c).value ≡ c.count
      go true t g o ep et eg eo h = rw ep
      go false true g o ep et eg eo h = rw (ep, et)
      go false false true true ep et eg eo h = rw (ep, et, eg, eo)
      go false false true false ep et eg eo h = absurd (false≢true h)
      go false false false o ep et eg eo h = absurd (false≢true h)

  loads_3 : (c.pending or c.trigger or (c.gate and eqb c.value (end_of_half c.out c.odd))) ≡ true → (pulse3 c).value ≡ c.count - c.count % 2
  unfolding pulse3
  loads_3 h = go c.pending c.trigger c.gate (eqb c.value (end_of_half c.out c.odd)) refl refl refl refl h
    where
      go : (p t g o : Bool) → c.pending ≡ p → c.trigger ≡ t → c.gate ≡ g → eqb c.value (end_of_half c.out c.odd) ≡ o → (p or t or (g and o)) ≡ true → (pulse3 c).value ≡ c.count - c.count % 2
      go true t g o ep et eg eo h = rw ep
      go false true g o ep et eg eo h = rw (ep, et)
      go false false true true ep et eg eo h = rw (ep, et, eg, eo)
      go false false true false ep et eg eo h = absurd (false≢true h)
      go false false false o ep et eg eo h = absurd (false≢true h)

  loads_4 : c.pending ≡ true → (pulse4 c).value ≡ c.count
  unfolding pulse4
  loads_4 p = rw p

  loads_5 : c.trigger ≡ true → (pulse5 c).value ≡ c.count
  unfolding pulse5
  loads_5 t = rw t

  -- Once a count is complete, a pulse is the mode's.
  of_mode : c.full ≡ true → pulse_of c ≡ (mode_of c.mode).pulse c
  unfolding pulse_of
  of_mode f = ap (λ (q : Bool). if q then (mode_of c.mode).pulse c else c) f

  pub loads_now_law : moded c ≡ true → c.full ≡ true → loads_now c ≡ true → (pulse_of c).value ≡ loads_as c.mode c.count
  unfolding moded among
  loads_now_law s f h =
      ap (λ (d : Counter). d.value) (of_mode f)
      ∙ by_mode (λ m q. c.mode ≡ m → (q.pulse c).value ≡ loads_as m c.count) (λ e. loads_0 (rw e at h)) (λ e. loads_1 (rw e at h)) (λ e. loads_2 (rw e at h))
      (λ e. loads_3 (rw e at h))
      (λ e. loads_4 (rw e at h))
      (λ e. loads_5 (rw e at h))
      (λ m l e. absurd (omega (arith, ltb-true c.mode 6 s, e)))
      c.mode
      refl

  -- In modes 1 and 5 a complete count waits for a trigger.
  waits_now : among c.mode (1 ∷ 5 ∷ []) ≡ true → c.pending ≡ true → c.trigger ≡ false → Still c (pulse_of c)
  unfolding among pulse_of pulse1 pulse5
  waits_now w p t =
      either (Still c) c.full
      (λ _. by_mode (λ m q. among m (1 ∷ 5 ∷ []) ≡ true → Still c (q.pulse c)) (λ e. absurd (false≢true e))
      (λ _. record { value = rw (t, p); pending = rw (t, p); trigger = rw (t, p) })
      (λ e. absurd (false≢true e))
      (λ e. absurd (false≢true e))
      (λ e. absurd (false≢true e))
      (λ _. record { value = rw (t, p); pending = rw (t, p); trigger = rw (t, p) })
      (λ m l e. absurd (false≢true (rw (ne_eqb m 1 (omega arith), ne_eqb m 5 (omega arith)) at e)))
      c.mode
      w)
      (λ _. record { value = refl; pending = p; trigger = t })

pub still_waits : (c : Counter) → among c.mode (1 ∷ 5 ∷ []) ≡ true → c.pending ≡ true → c.trigger ≡ false
    → (k : ℕ)
    → Still c (ran_of c k).counter × ((ran_of c k).counter.mode ≡ c.mode)
unfolding ran_of
still_waits c w p t zero = (record { value = refl; pending = p; trigger = t }, refl)
still_waits c w p t (suc k) =
    let h = still_waits c w p t k in
    let d = (ran_of c k).counter in
    let e = waits_now d (ap (λ (q : ℕ). among q (1 ∷ 5 ∷ [])) h.1 ∙ w) h.0.pending h.0.trigger in (
      record { value = e.value ∙ h.0.value; pending = e.pending; trigger = e.trigger },
      ap (λ (x : Counter). x.mode) (pulsed d).rest ∙ h.1,
    )

-- A completed count stands beside one that runs, or is to be transferred.
abbrev pub beside : ℕ → Counter → Counter
beside N c = half_is false (count_is N c)

module _ (c : Counter) (N : ℕ) where
  abbrev waiting : Bool
  waiting = (mode_of c.mode).each or not c.full

  pub stands_beside : waiting ≡ false → completed c N ≡ beside N c
  unfolding completed
  stands_beside w = rw w

  pends : waiting ≡ true → (completed c N).pending ≡ true
  unfolding completed
  pends w = rw w (either (λ (d : Counter). d.pending ≡ true) (mode_of c.mode).drops (λ _. refl) (λ _. refl))

  is_full : (completed c N).full ≡ true
  unfolding completed
  is_full =
      either (λ (d : Counter). d.full ≡ true) waiting
      (λ _. either (λ (d : Counter). d.full ≡ true) (mode_of c.mode).drops (λ _. refl) (λ _. refl))
      (λ w. only_full (mode_of c.mode).each c.full w)
    where
      only_full : (e f : Bool) → (e or not f) ≡ false → f ≡ true
      only_full true f w = absurd (true≢false w)
      only_full false true w = refl
      only_full false false w = absurd (true≢false w)

  -- Where only the first count is to be transferred, it pends if it is the first, or replaces it.
  first_pends : (mode_of c.mode).each ≡ false → (not c.full or c.pending) ≡ true → (completed c N).pending ≡ true
  first_pends e h = go c.full refl
    where
      go : (f : Bool) → c.full ≡ f → (completed c N).pending ≡ true
      go true z = ap (λ (d : Counter). d.pending) (stands_beside (rw (e, z))) ∙ (rw z at h)
      go false z = pends (rw (e, z))

  will_load : moded c ≡ true → transfers_next c ≡ true → loads_now (completed c N) ≡ true
  unfolding moded among mode_of
  will_load s t =
      let same : (completed c N).mode ≡ c.mode = ap (λ (d : Counter). d.mode) (counted c N) in
      by_mode (λ m q. c.mode ≡ m → loads_now (completed c N) ≡ true)
      (λ e. rw (same ∙ e) (pends (rw e)))
      (λ e. rw (same ∙ e) (triggered (rw e at t)))
      (λ e. rw (same ∙ e, first_pends (rw e) (rw e at t)))
      (λ e. rw (same ∙ e, first_pends (rw e) (rw e at t)))
      (λ e. rw (same ∙ e) (pends (rw e)))
      (λ e. rw (same ∙ e) (triggered (rw e at t)))
      (λ m l e. absurd (omega (arith, ltb-true c.mode 6 s, e)))
      c.mode
      refl
    where
      triggered : c.trigger ≡ true → (completed c N).trigger ≡ true
      triggered h = ap (λ (d : Counter). d.trigger) (counted c N) ∙ h

  still_moded : moded c ≡ true → moded (completed c N) ≡ true
  unfolding moded
  still_moded s = ap (λ (d : Counter). ltb d.mode 6) (counted c N) ∙ s

  pub next_loads : moded c ≡ true → transfers_next c ≡ true → (pulse_of (completed c N)).value ≡ loads_as c.mode N
  next_loads s t =
      loads_now_law (completed c N) (still_moded s) is_full (will_load s t)
      ∙ ap (λ (d : Counter). loads_as d.mode d.count) (counted c N)

  first_waits : c.full ≡ false → waiting ≡ true
  first_waits f = rw f (or_true (mode_of c.mode).each)

  others : among c.mode (1 ∷ 5 ∷ []) ≡ false → c.full ≡ false → moded c ≡ true → transfers_next c ≡ true
  unfolding among moded
  others w f s =
      by_mode (λ m q. c.mode ≡ m → transfers_next c ≡ true) (λ e. rw e) (λ e. absurd (true≢false (rw e at w))) (λ e. rw (e, f)) (λ e. rw (e, f)) (λ e. rw e)
      (λ e. absurd (true≢false (rw e at w)))
      (λ m l e. absurd (omega (arith, ltb-true c.mode 6 s, e)))
      c.mode
      refl

  -- The first count after a mode word, with no trigger.
  pub first_loads : moded c ≡ true → c.full ≡ false → c.trigger ≡ false
      → (pulse_of (completed c N)).value ≡ (if among c.mode (1 ∷ 5 ∷ []) then c.value else loads_as c.mode N)
  first_loads s f t =
      either (λ (v : ℕ). (pulse_of (completed c N)).value ≡ v) (among c.mode (1 ∷ 5 ∷ []))
      (λ w. (waits_now (completed c N) (ap (λ (d : Counter). among d.mode (1 ∷ 5 ∷ [])) (counted c N) ∙ w) (pends (first_waits f)) (ap (λ (d : Counter). d.trigger) (counted c N) ∙ t)).value
      ∙ ap (λ (d : Counter). d.value) (counted c N))
      (λ w. next_loads s (others w f s))

-- A later count stands beside the one that runs, which goes on as it would have gone up to the next load.
pub record Runs (c : Counter) : Type 0 where
  pub full : c.full ≡ true
  pub first : (mode_of c.mode).each ≡ false
  pub pending : among c.mode (2 ∷ 3 ∷ []) ≡ true → c.pending ≡ false

abbrev Beside : ℕ → (Counter → Counter) → Counter → Type 0
Beside N pulse c = pulse (beside N c) ≡ beside N (pulse c)

module _ (c : Counter) (N : ℕ) where
  beside_1 : c.trigger ≡ false → Beside N pulse1 c
  unfolding pulse1
  beside_1 t = go c.pending (eqb (less c.value) 0) refl refl
    where
      go : (p l : Bool) → c.pending ≡ p → eqb (less c.value) 0 ≡ l → Beside N pulse1 c
      go true l ep el = rw (t, ep)
      go false true ep el = rw (t, ep, el)
      go false false ep el = rw (t, ep, el)

  beside_2 : c.pending ≡ false → (c.trigger or (c.gate and eqb c.value 1)) ≡ false → Beside N pulse2 c × ((pulse2 c).pending ≡ false)
  unfolding pulse2
  beside_2 p h = go c.trigger c.gate (eqb c.value 1) (eqb (less c.value) 1) refl refl refl refl h
    where
      go : (t g o l : Bool) → c.trigger ≡ t → c.gate ≡ g → eqb c.value 1 ≡ o → eqb (less c.value) 1 ≡ l
          → (t or (g and o)) ≡ false
          → Beside N pulse2 c × ((pulse2 c).pending ≡ false)
      go true g o l et eg eo el h = absurd (true≢false h)
      go false true true l et eg eo el h = absurd (true≢false h)
      go false true false true et eg eo el h = rw (p, et, eg, eo, el) (refl, refl)
      go false true false false et eg eo el h = rw (p, et, eg, eo, el) (refl, refl)
      go false false o l et eg eo el h = rw (p, et, eg) (refl, refl)

  beside_3 : c.pending ≡ false → (c.trigger or (c.gate and eqb c.value (end_of_half c.out c.odd))) ≡ false → Beside N pulse3 c × ((pulse3 c).pending ≡ false)
  unfolding pulse3
  beside_3 p h = go c.trigger c.gate (eqb c.value (end_of_half c.out c.odd)) refl refl refl h
    where
      go : (t g o : Bool) → c.trigger ≡ t → c.gate ≡ g → eqb c.value (end_of_half c.out c.odd) ≡ o → (t or (g and o)) ≡ false → Beside N pulse3 c × ((pulse3 c).pending ≡ false)
      go true g o et eg eo h = absurd (true≢false h)
      go false true true et eg eo h = absurd (true≢false h)
      go false true false et eg eo h = rw (p, et, eg, eo) (refl, refl)
      go false false o et eg eo h = rw (p, et, eg) (refl, refl)

  beside_5 : c.trigger ≡ false → Beside N pulse5 c
  unfolding pulse5
  beside_5 t = go c.pending (eqb (less c.value) 0) refl refl
    where
      go : (p l : Bool) → c.pending ≡ p → eqb (less c.value) 0 ≡ l → Beside N pulse5 c
      go true l ep el = rw (t, ep)
      go false true ep el = rw (t, ep, el)
      go false false ep el = rw (t, ep, el)

-- Where the next pulse does not transfer, only the first count pends.
pub runs_so : (c : Counter) → moded c ≡ true → c.full ≡ true → transfers_next c ≡ false → Runs c
unfolding moded among mode_of
runs_so c s f t =
    by_mode (λ m q. c.mode ≡ m → Runs c) (λ e. absurd (true≢false (rw e at t)))
    (λ e. record { full = f; first = rw e; pending = λ z. absurd (false≢true (rw e at z)) })
    (λ e. record { full = f; first = rw e; pending = λ _. rw (e, f) at t })
    (λ e. record { full = f; first = rw e; pending = λ _. rw (e, f) at t })
    (λ e. absurd (true≢false (rw e at t)))
    (λ e. record { full = f; first = rw e; pending = λ z. absurd (false≢true (rw e at z)) })
    (λ m l e. absurd (omega (arith, ltb-true c.mode 6 s, e)))
    c.mode
    refl

module _ (c : Counter) (r : Runs c) (N : ℕ) where
  pub waits_beside : completed c N ≡ beside N c
  waits_beside = stands_beside c N (rw (r.first, r.full))

  -- Any pulse but one that loads does what it would have done.
  abbrev On : ℕ → (Counter → Counter) → Type 0
  On m pulse = Beside N pulse c × (among m (2 ∷ 3 ∷ []) ≡ true → (pulse c).pending ≡ false)

  by_its_mode : reloads_next c ≡ false → On c.mode (mode_of c.mode).pulse
  unfolding among mode_of
  by_its_mode h =
      by_mode (λ m q. c.mode ≡ m → On m q.pulse) (λ e. absurd (true≢false (rw e at r.first)))
      (λ e. (beside_1 c N (left_false c.trigger _ h), λ z. absurd (false≢true z)))
      (λ e. let k = beside_2 c N (r.pending (rw e)) (rw e at h) in (k.0, λ _. k.1))
      (λ e. let k = beside_3 c N (r.pending (rw e)) (rw e at h) in (k.0, λ _. k.1))
      (λ e. absurd (true≢false (rw e at r.first)))
      (λ e. (beside_5 c N (left_false c.trigger _ h), λ z. absurd (false≢true z)))
      (λ m l e. (refl, λ z. absurd (false≢true (rw (ne_eqb m 2 (omega arith), ne_eqb m 3 (omega arith)) at z))))
      c.mode
      refl

  runs_on : reloads_next c ≡ false → On c.mode pulse_of
  runs_on h =
      let k = by_its_mode h in (
        of_mode (beside N c) r.full ∙ k.0 ∙ ap (beside N) (sym (of_mode c r.full)),
        λ z. ap (λ (d : Counter). d.pending) (of_mode c r.full) ∙ k.1 z,
      )

  still_runs : reloads_next c ≡ false → Runs (pulse_of c)
  still_runs h =
      let k = (pulsed c).rest in
      let e : (pulse_of c).mode ≡ c.mode = ap (λ (d : Counter). d.mode) k in
      record {
        full = ap (λ (d : Counter). d.full) k ∙ r.full;
        first = ap (λ (m : ℕ). (mode_of m).each) e ∙ r.first;
        pending = λ z. (runs_on h).1 (ap (λ (m : ℕ). among m (2 ∷ 3 ∷ [])) (sym e) ∙ z);
      }

  -- So does a level of GATE.
  gate_beside : (k : Bool) → gate_of (beside N c) k ≡ beside N (gate_of c k)
  unfolding gate_of
  gate_beside k = go k c.gate ((mode_of c.mode).triggers and c.full) (mode_of c.mode).lifts refl refl refl
    where
      go : (k g t l : Bool) → c.gate ≡ g → ((mode_of c.mode).triggers and c.full) ≡ t → (mode_of c.mode).lifts ≡ l → gate_of (beside N c) k ≡ beside N (gate_of c k)
      go true true t l eg et el = rw eg
      go true false true l eg et el = rw (eg, et)
      go true false false l eg et el = rw (eg, et)
      go false true t true eg et el = rw (eg, el)
      go false true t false eg et el = rw (eg, el)
      go false false t l eg et el = rw eg

  gate_runs : (k : Bool) → Runs (gate_of c k)
  gate_runs k =
      let g = gated c k in
      let e : (gate_of c k).mode ≡ c.mode = ap (λ (d : Counter). d.mode) g in
      record {
        full = ap (λ (d : Counter). d.full) g ∙ r.full;
        first = ap (λ (m : ℕ). (mode_of m).each) e ∙ r.first;
        pending = λ z. ap (λ (d : Counter). d.pending) g ∙ r.pending (ap (λ (m : ℕ). among m (2 ∷ 3 ∷ [])) (sym e) ∙ z);
      }

  reload_takes : moded c ≡ true → reloads_next c ≡ true → (pulse_of (beside N c)).value ≡ loads_as c.mode N
  unfolding moded among mode_of
  reload_takes s h =
      loads_now_law (beside N c) s r.full
      (by_mode (λ m q. c.mode ≡ m → loads_now (beside N c) ≡ true) (λ e. absurd (true≢false (rw e at r.first))) (λ e. rw e (no_end c.trigger c.gate (rw e at h)))
      (λ e. rw (e, r.pending (rw e)) (rw e at h))
      (λ e. rw (e, r.pending (rw e)) (rw e at h))
      (λ e. absurd (true≢false (rw e at r.first)))
      (λ e. rw e (no_end c.trigger c.gate (rw e at h)))
      (λ m l e. absurd (omega (arith, ltb-true c.mode 6 s, e)))
      c.mode
      refl)
    where
      no_end : (t g : Bool) → (t or (g and false)) ≡ true → t ≡ true
      no_end true g h = refl
      no_end false true h = h
      no_end false false h = h

-- A rise of GATE is a trigger.
pub trigger_loads : (c : Counter) → among c.mode (1 ∷ 2 ∷ 3 ∷ 5 ∷ []) ≡ true → c.full ≡ true → c.gate ≡ false
    → (pulse_of (gate_of c true)).value ≡ loads_as c.mode c.count
unfolding among mode_of gate_of moded
trigger_loads c w f g =
    by_mode (λ m q. c.mode ≡ m → (pulse_of (gate_of c true)).value ≡ loads_as c.mode c.count) (λ e. absurd (false≢true (rw e at w)))
    (λ e. loading (rw e) (rw e) (rw e))
    (λ e. loading (rw e) (rw e) (rw e (or_true c.pending)))
    (λ e. loading (rw e) (rw e) (rw e (or_true c.pending)))
    (λ e. absurd (false≢true (rw e at w)))
    (λ e. loading (rw e) (rw e) (rw e))
    (λ m l e. absurd (false≢true (rw (e, ne_eqb m 1 (omega arith), ne_eqb m 2 (omega arith), ne_eqb m 3 (omega arith), ne_eqb m 5 (omega arith)) at w)))
    c.mode
    refl
  where
    d : Counter
    d = trigger_is true (gate_is true c)

    rises : (mode_of c.mode).triggers ≡ true → gate_of c true ≡ d
    rises t =
        ap (λ (q : Bool). if q then c else risen c) g
        ∙ ap (λ (q : Bool). if q and c.full then d else gate_is true c) t
        ∙ ap (λ (q : Bool). if q then d else gate_is true c) f

    loading : (mode_of c.mode).triggers ≡ true → moded c ≡ true → loads_now d ≡ true → (pulse_of (gate_of c true)).value ≡ loads_as c.mode c.count
    loading t s h = ap (λ (e : Counter). (pulse_of e).value) (rises t) ∙ loads_now_law d s f h

-- A mode word sets the mode that it names, and the format.
named : (w : ℕ) → mode_in (CM w) ≡ mode_named w
unfolding every among
named w = agree (λ _ k. mode_in k) (λ _ k. if among k (6 ∷ 7 ∷ []) then k - 4 else k) 1 8 tt 0 (CM w) (omega arith) (omega arith)

set_as : (c : Counter) (w : ℕ) → c.mode ≡ mode_named w → moded c ≡ true
unfolding every among moded
set_as c w e =
    ap (λ (k : ℕ). ltb k 6) e
    ∙ alike (λ k. ltb (if among k (6 ∷ 7 ∷ []) then k - 4 else k) 6) (λ _. true) 8 tt (CM w) (omega arith)

word_taken : (c : Counter) (w : ℕ) → eqb (RWM w) 0 ≡ false → unbuilt_control w ≡ false → control_of c w ≡ done (mode_set (mode_named w) (RWM w) c)
unfolding control_of mode_word
word_taken c w f h = go (eqb (SC w) 3) (eqb (BCD w) 1) refl refl
  where
    go : (s d : Bool) → eqb (SC w) 3 ≡ s → eqb (BCD w) 1 ≡ d → control_of c w ≡ done (mode_set (mode_named w) (RWM w) c)
    go true d es ed = absurd (true≢false (rw es at h))
    go false true es ed = absurd (true≢false (rw (es, f, ed) at h))
    go false false es ed = rw (f, ed) (ap (λ (m : ℕ). done (mode_set m (RWM w) c)) (named w))

-- A count completed, and the next pulse.
complete : (b : Board) (m m' : List ℕ) (n : ℕ) → n < 3 → (c : Counter) → Holds b n c → moded c ≡ true
    → (x N : ℕ)
    → Completes c x N
    → too_small c.mode N ≡ false
    → at (step_of (step_of b (writing (16 + n) x) m).board pulsing m').board.timer n ≡ pulse_of (completed c N)
complete b m m' n few c h set x N k u =
    let e = taken_as c set x N k u in
    let h2 = count_lands b m n few c h x (ap (λ (a : Answer). a.status) e) in
    pulse_lands (step_of b (writing (16 + n) x) m).board m' n few (Ports.write_of c x).counter h2
    ∙ ap (λ (a : Answer). pulse_of a.counter) e

pub next_pulse : (b : Board) (m m' : List ℕ) (n : ℕ) → n < 3 → (c : Counter) → Holds b n c → moded c ≡ true → transfers_next c ≡ true
    → (x N : ℕ)
    → Completes c x N
    → too_small c.mode N ≡ false
    → (at (step_of (step_of b (writing (16 + n) x) m).board pulsing m').board.timer n).value ≡ loads_as c.mode N
next_pulse b m m' n few c h set t x N k u =
    ap (λ (d : Counter). d.value) (complete b m m' n few c h set x N k u) ∙ next_loads c N set t

-- The first byte of two, wherever a reading stands.
pub first_byte_law : (b : Board) (m : List ℕ) (n : ℕ) → n < 3 → (c : Counter) → Holds b n c → moded c ≡ true → (x : ℕ) → c.format ≡ 3 → c.half ≡ false
    → Holds (step_of b (writing (16 + n) x) m).board n (begun c x)
unfolding Ports.write_of
first_byte_law b m n few c h set x f k =
    let e : Ports.write_of c x ≡ done (begun c x) = rw (set, ne_eqb c.format 1 (omega (arith, f)), ne_eqb c.format 2 (omega (arith, f)), k) in
    rw e at (count_lands b m n few c h x (ap (λ (a : Answer). a.status) e))

pub kept_apart : (c : Counter) (x : ℕ) → writing_of (begun c x) ≡ first_byte x (writing_of c)
unfolding writing_of
kept_apart c x = ap writing_of (begins c x)

-- The tape's way, by the format f that the word sets.
module _ (b : Board) (m : List ℕ) (free : b.dma.serving ≡ false) (n w x y : ℕ) (few : n < 3)
    (there : n < length b.timer.counters)
    (sc : SC w ≡ n)
    (built : unbuilt_control w ≡ false) where
  abbrev was : ℕ
  was = (at b.timer n).value

  abbrev Value : ℕ → ℕ → ℕ → Type 0
  Value f j v = (at (after b m (writing 19 w ++ count_bytes n f x y ++ pulsing) j).board.timer n).value ≡ v

  abbrev then_has : ℕ → ℕ
  then_has N = if among (mode_named w) (1 ∷ 5 ∷ []) then was else loads_as (mode_named w) N

  -- The counter after the mode word.
  abbrev start : Counter
  start = mode_set (mode_named w) (RWM w) (at b.timer n)

  started : eqb (RWM w) 0 ≡ false → Holds (step_of b (writing 19 w) m).board n start
  started f =
      let e = word_taken (at b.timer n) w f built in
      rw e at (word_lands b m n few (at b.timer n) (record { free = free; there = there; counter = refl }) w sc (ap (λ (a : Answer). a.status) e))

  -- The first count, by its one byte or its last: c is the counter before it.
  first_count : (e : Board) (m' m'' : List ℕ) (c : Counter) → Holds e n c
      → c.mode ≡ mode_named w
      → c.value ≡ was
      → c.full ≡ false
      → c.trigger ≡ false
      → (z N : ℕ)
      → Completes c z N
      → too_small (mode_named w) N ≡ false
      → (at (step_of (step_of e (writing (16 + n) z) m').board pulsing m'').board.timer n).value ≡ then_has N
  first_count e m' m'' c h mode value full trigger z N k u =
      let set = set_as c w mode in
      ap (λ (d : Counter). d.value) (complete e m' m'' n few c h set z N k (ap (λ (q : ℕ). too_small q N) mode ∙ u))
      ∙ first_loads c N set full trigger
      ∙ rw (mode, value) refl

  -- The writes leave the value.
  two_leave : (m' : List ℕ) (p z : ℕ) → (at (step_of (step_of b (writing 19 w) m).board (writing p z) m').board.timer n).value ≡ was
  two_leave m' p z = loads_nothing (step_of b (writing 19 w) m).board m' p z n ∙ loads_nothing b m 19 w n

  pub by_tape : (f : ℕ) → RWM w ≡ f → f ≢ 0 → too_small (mode_named w) (count_made f x y) ≡ false
      → Value f (if eqb f 3 then 3 else 2) was × Value f (suc (if eqb f 3 then 3 else 2)) (then_has (count_made f x y))
  unfolding after record_at mode_set
  by_tape zero e z o = absurd (z refl)
  by_tape (suc zero) e z o = (
    two_leave _ (16 + n) x,
    first_count (step_of b (writing 19 w) m).board _ _ start (started (ne_eqb (RWM w) 0 (omega arith))) refl refl refl refl x x (low_byte e) o,
  )
  by_tape (suc (suc zero)) e z o = (
    two_leave _ (16 + n) y,
    first_count (step_of b (writing 19 w) m).board _ _ start (started (ne_eqb (RWM w) 0 (omega arith))) refl refl refl refl y (y * 256) (high_byte e) o,
  )
  by_tape (suc (suc (suc zero))) e z o =
      let h = first_byte_law (step_of b (writing 19 w) m).board _ n few start (started (ne_eqb (RWM w) 0 (omega arith))) (set_as start w refl) x e refl in
      let g = begins start x in (
        loads_nothing (step_of (step_of b (writing 19 w) m).board (writing (16 + n) x) _).board _ (16 + n) y n ∙ two_leave _ (16 + n) x,
        first_count (step_of (step_of b (writing 19 w) m).board (writing (16 + n) x) _).board _ _ (begun start x) h (ap (λ (d : Counter). d.mode) g) (ap (λ (d : Counter). d.value) g)
            (ap (λ (d : Counter). d.full) g)
            (ap (λ (d : Counter). d.trigger) g)
            y
            (x + y * 256)
            (subst (λ (l : ℕ). Completes (begun start x) y (l + y * 256)) (ap (λ (d : Counter). d.low) g) (second_byte (ap (λ (d : Counter). d.format) g ∙ e) (ap (λ (d : Counter). d.half) g)))
            o,
      )
  by_tape (suc (suc (suc (suc f)))) e z o = absurd (omega arith)

-- One pulse, or the gates.
data Step (r : List ℕ) : Type 0 where
  by_pulse : r ≡ pulsing → Step r
  by_gates : (l : ℕ) → l < 8 → r ≡ setting 1 l → Step r

step_of_law : (r : List ℕ) → Clocks r → Step r
step_of_law r a_pulse = by_pulse refl
step_of_law r (the_gates l h) = by_gates l h refl

-- Two boards, with and without the later count, record by record.
module _ (b b' : Board) (m s : List ℕ) (n N j : ℕ) (few : n < 3)
    (runs : Runs (at b.timer n))
    (apart : at b'.timer n ≡ beside N (at b.timer n))
    (clocks : (i : ℕ) → i < j → Clocks (record_at s i))
    (none : (i : ℕ) → i < j → record_at s i ≡ pulsing → reloads_next (at (after b m s i).board.timer n) ≡ false)
    (last : record_at s j ≡ pulsing) where
  abbrev old : ℕ → Counter
  old i = at (after b m s i).board.timer n

  abbrev new : ℕ → Counter
  new i = at (after b' m s i).board.timer n

  pulse_more : (d : Board) (i : ℕ) → record_at s i ≡ pulsing → at (after d m s (suc i)).board.timer n ≡ pulse_of (at (after d m s i).board.timer n)
  unfolding after
  pulse_more d i e =
      let h = after d m s i in
      rw e (ap (λ (t : Timer). at t n) (Plain.pulsed h.board h.memory) ∙ pulse_at h.board.timer n few)

  gates_more : (d : Board) (i l : ℕ) → l < 8 → record_at s i ≡ setting 1 l → at (after d m s (suc i)).board.timer n ≡ gate_of (at (after d m s i).board.timer n) (bit_of l n)
  unfolding after
  gates_more d i l k e =
      let h = after d m s i in
      rw e (ap (λ (t : Timer). at t n) (gates_set h.board h.memory l k) ∙ gate_at h.board.timer n few l)

  abbrev Together : ℕ → Type 0
  Together i = Runs (old i) × (new i ≡ beside N (old i)) × ((old i).mode ≡ (at b.timer n).mode)

  together_on : (i : ℕ) → i < j → Together i → Step (record_at s i) → Together (suc i)
  together_on i l h (by_pulse e) =
      let z = none i l e in (
        rw (pulse_more b i e) (still_runs (old i) h.0 N z),
        pulse_more b' i e ∙ ap pulse_of h.1 ∙ (runs_on (old i) h.0 N z).0 ∙ ap (beside N) (sym (pulse_more b i e)),
        ap (λ (d : Counter). d.mode) (pulse_more b i e) ∙ ap (λ (d : Counter). d.mode) (pulsed (old i)).rest ∙ h.2,
      )
  together_on i l h (by_gates k u e) = (
    rw (gates_more b i k u e) (gate_runs (old i) h.0 N (bit_of k n)),
    gates_more b' i k u e ∙ ap (λ (d : Counter). gate_of d (bit_of k n)) h.1 ∙ gate_beside (old i) h.0 N (bit_of k n) ∙ ap (beside N) (sym (gates_more b i k u e)),
    ap (λ (d : Counter). d.mode) (gates_more b i k u e) ∙ ap (λ (d : Counter). d.mode) (gated (old i) (bit_of k n)) ∙ h.2,
  )

  pub go_beside : (i : ℕ) → i ≤ j → Together i
  unfolding after
  go_beside zero l = (runs, apart, refl)
  go_beside (suc i) l = together_on i l (go_beside i (omega arith)) (step_of_law (record_at s i) (clocks i l))

  pub load_takes : moded (at b.timer n) ≡ true → reloads_next (old j) ≡ true → (new (suc j)).value ≡ loads_as (at b.timer n).mode N
  unfolding moded
  load_takes set h =
      let k = go_beside j (omega arith) in
      ap (λ (d : Counter). d.value) (pulse_more b' j last ∙ ap pulse_of k.1)
      ∙ reload_takes (old j) k.0 N (ap (λ (q : ℕ). ltb q 6) k.2 ∙ set) h
      ∙ ap (λ (q : ℕ). loads_as q N) k.2
