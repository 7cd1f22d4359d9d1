-- What each arm of the loop comes to: the step of its record.
use mathlib.Core.Bool.{Bool, true, false}
use mathlib.Core.Path.{◌≡◌, refl, ap, sym, ◌∙◌}
use mathlib.Core.List.{List, [], ◌∷◌, ◌++◌}
use Prim.Native.Nat.{ℕ, ◌/◌, ◌%◌}
use native.Mathlib.Omega.{arith}
use borrow.Author.Tests.{eq-eqb, ne_eqb, eqb-true, eqb-false}
use lib.Dec.{eqb}
use lib.ListN.{set}
use Rattle.bits.specs.Choice.{◌and◌}
use Rattle.std.specs.Prelude.{if◌then◌else◌, Some, None, Result, Ok, Err}
use Rattle.tape.specs.Answers.{answer_of, little_of, twelve}
use Rattle.tape.specs.declared.Operation.{Operation}
use Rattle.tape.specs.declared.Operation.TheVariants.{Reset, Write, Read, Intp, Gates, Requests, SlaveIntp, Acknowledge, Advance, Cycle}
use Rattle.tape.specs.Records.{byte, decode_of, uses_bus}
use Rattle.icu.specs.declared.Icu.{Icu}
use Rattle.icu.specs.Answers as IcuAnswers
use Rattle.icu.specs.Words as IcuWords
use Rattle.icu.specs.Service as IcuService
use Rattle.icu.specs.Requests.{irr_of, int_of, lines_of}
use Rattle.cascade.specs.Cascade.{master_iw3, slave_iw3, joined_of, answered, passed_on}
use Rattle.timer.specs.declared.Timer.{Timer}
use Rattle.timer.specs.declared.Shown as TimerShown
use Rattle.timer.specs.declared.Refusal as TimerRefusal
use Rattle.timer.specs.Fields.{latched_is, second_is}
use Rattle.timer.specs.Ports.{Seen, seen_of, told_seen}
use Rattle.timer.specs.Ports as TimerPorts
use Rattle.timer.specs.Timer as Timers
use Rattle.timer.specs.Timer.{at, counter_is, resets_of, outs_of, writes_of, gates_of}
use Rattle.timer.proofs.Looks.{back, got_seen, same_out}
use Rattle.dma.specs.declared.Dma.{Dma}
use Rattle.dma.specs.declared.Shown as DmaShown
use Rattle.dma.specs.declared.Refusal as DmaRefusal
use Rattle.dma.specs.Answers as DmaAnswers
use Rattle.dma.proofs.Refusals as DmaRefusals
use Rattle.dma.specs.Registers as DmaRegisters
use Rattle.dma.specs.declared.Channel.{Channel}
use Rattle.dma.specs.declared.Carried.{Carried}
use Rattle.dma.specs.declared.Report.{Report}
use Rattle.dma.specs.Fields.{chan, channels_are}
use Rattle.dma.specs.Report.{Told, told, moved}
use Rattle.dma.specs.Cycle.{plain_of}
use Rattle.dma.proofs.Plain.{plain}
use Rattle.dma.proofs.Looks as DmaLooks
use Rattle.dma.specs.Cycle as DmaCycle
use Rattle.board.specs.declared.Board.{Board}
use Rattle.board.specs.declared.Stepped.{Stepped}
use Rattle.board.specs.declared.Turn.{Turn}
use Rattle.board.specs.declared.Wired.{Wired}
use Rattle.board.specs.declared.Run.{Run}
use Rattle.board.specs.Wiring.{icu_is, intp_is, slave_is, timer_is, dma_is, joined, lines, lines_at, levels_of, levels_at, reset_of, followed, wired_to}
use Rattle.board.specs.Operations.{Outcome, done, telling, refused, icu_told, turn_of, a0, icu_written, icu_shown, slave_written, slave_shown, acknowledged, slave_gives, acknowledge_of, timer_written, timer_shown, dma_written, dma_shown, write_of, read_of, flag_of, payload_of, cycle_of, cycle_memory}
use Rattle.board.specs.Advance.{advanced_of, rises_payload, advance_of}
use Rattle.board.proofs.Refusals.{never_0}
use Rattle.records.proofs.Runs.{Turned}
use Rattle.board.specs.Step.{execute_of, memory_after, blocked, outcome_of, memory_of, answered_of, step_of, step_memory}

-- A read leaves the interrupt chip as it was.
read_leaves : (c : Icu) (k : Bool) (x : ℕ) → (IcuService.read_of c k x).icu ≡ c
unfolding IcuService.read_of
read_leaves c k x = by (IcuWords.ready c) k c.showsisr
  where
    by : (p q s : Bool)
        → (if p then (if q then IcuAnswers.telling c c.imr else if s then IcuAnswers.telling c c.isr else IcuAnswers.telling c (irr_of c x)) else IcuAnswers.refused 3 c).icu
        ≡ c
    by true true s = refl
    by true false true = refl
    by true false false = refl
    by false q s = refl

module _ (b : Board) (r m : List ℕ) (j : ℕ) (ej : j ≡ joined b) (l : ℕ) (el : l ≡ levels_of b) where
  -- an answer with no data, and none but its status
  abbrev plainly : ℕ → ℕ → List ℕ
  plainly s n = answer_of s (byte r 0) 0 n (twelve [])

  pub malformed : decode_of r ≡ None → Turned b r m b m j l (plainly 2 l)
  unfolding step_of step_memory answered_of outcome_of memory_of
  malformed e = rw (e, ej, el) (refl, refl, refl, refl, refl)

  module _ (o : Operation) (e : decode_of r ≡ Some o) where
    pub held_up : (b.dma.serving and uses_bus o) ≡ true → Turned b r m b m j l (plainly 1 l)
    unfolding step_of step_memory answered_of outcome_of memory_of blocked
    held_up h = rw (e, h, ej, el) (refl, refl, refl, refl, refl)

    module _ (free : (b.dma.serving and uses_bus o) ≡ false) where
      asked : step_of b r m ≡ answered_of (byte r 0) (execute_of b o m)
      unfolding step_of outcome_of blocked
      asked = rw (e, free)

      asked_memory : step_memory b r m ≡ memory_after b o m
      unfolding step_memory memory_of blocked
      asked_memory = rw (e, free)

      -- what the operation comes to, with INTP as the master has them and the levels after it
      carried : (out : Outcome) (m' : List ℕ) (k n : ℕ)
          → execute_of b o m ≡ out
          → memory_after b o m ≡ m'
          → k ≡ joined out.board
          → n ≡ levels_of out.board
          → Turned b r m out.board m' k n (answer_of out.status (byte r 0) out.byte n out.payload)
      unfolding answered_of
      carried out m' k n eo em ek en =
          let s : step_of b r m ≡ answered_of (byte r 0) out = asked ∙ ap (λ (y : Outcome). answered_of (byte r 0) y) eo in (
            ap (λ (y : Stepped). y.board) (sym s),
            sym (asked_memory ∙ em),
            ap (λ (k : ℕ). answer_of out.status (byte r 0) out.byte k out.payload) en
                ∙ ap (λ (y : Stepped). y.answer) (sym s),
            ek,
            en,
          )

      pub reset : o ≡ Reset
          → (c s : Icu) (t : Timer) (d : Dma) → c ≡ IcuWords.reset_of → s ≡ IcuWords.reset_of → t ≡ resets_of → d ≡ DmaRegisters.reset_of
          → Turned b r m (record { icu = c; intp = 0; slave = s; slaveintp = 0; timer = t; dma = d; kept = b.kept }) m 0 0 (plainly 0 0)
      unfolding execute_of memory_after levels_of int_of joined_of IcuWords.reset_of outs_of resets_of
      reset v c s t d ec es et ed =
          rw (ec, es, et, ed) (carried (done (reset_of b)) m 0 0 (ap (λ (k : Operation). execute_of b k m) v) (ap (λ (k : Operation). memory_after b k m) v) refl refl)

      -- the master's turn: a write, an acknowledge that it answers by itself
      turned_icu : (t : IcuAnswers.Told) → execute_of b o m ≡ icu_told b t → memory_after b o m ≡ m
          → (w : Turn) (n : ℕ) → w ≡ turn_of t → n ≡ levels_at w.icu j b.timer
          → Turned b r m (icu_is w.icu b) m j n (answer_of w.status (byte r 0) w.byte n w.payload)
      unfolding levels_of
      turned_icu t ex em w n ew en =
          carried (record { status = w.status; board = icu_is w.icu b; byte = w.byte; payload = w.payload }) m j n
          (ex ∙ ap (λ (z : Turn). record { status = z.status; board = icu_is z.icu b; byte = z.byte; payload = z.payload }) (sym ew)) em ej
          (en ∙ ap (λ (z : ℕ). levels_at w.icu z b.timer) ej)

      -- the master's lines move: the record has made d of the board, but for the master, and this follows
      follows : (s x : ℕ) (p : List ℕ) (d : Board) (k : ℕ) → k ≡ joined d
          → execute_of b o m ≡ record { status = s; board = followed b d; byte = x; payload = p }
          → memory_after b o m ≡ m
          → (w : Wired) → w ≡ wired_to d.icu (lines_at j b.timer) k d.timer
          → Turned b r m (icu_is w.icu d) m k w.levels (answer_of s (byte r 0) x w.levels p)
      unfolding levels_of
      follows s x p d k ek ex em w ew =
          let e : w ≡ wired_to d.icu (lines b) (joined d) d.timer =
          ew
          ∙ ap (λ (z : ℕ). wired_to d.icu (lines_at z b.timer) k d.timer) ej
          ∙ ap (λ (z : ℕ). wired_to d.icu (lines b) z d.timer) ek
          in rw e (carried (record { status = s; board = followed b d; byte = x; payload = p }) m k _ ex em ek refl)

      module _ (p x : ℕ) (v : o ≡ Write p x) where
        wrote : execute_of b o m ≡ write_of b p x
        unfolding execute_of
        wrote = ap (λ (k : Operation). execute_of b k m) v

        wrote_none : memory_after b o m ≡ m
        unfolding memory_after
        wrote_none = ap (λ (k : Operation). memory_after b k m) v

        pub wrote_icu : p / 16 ≡ 0
            → (w : Turn) (n : ℕ) → w ≡ turn_of (IcuWords.write_of b.icu master_iw3 (a0 p) x) → n ≡ levels_at w.icu j b.timer
            → Turned b r m (icu_is w.icu b) m j n (answer_of w.status (byte r 0) w.byte n w.payload)
        unfolding write_of
        wrote_icu q = turned_icu (icu_written b (a0 p) x) (wrote ∙ rw (eq-eqb _ _ q)) wrote_none

        -- refused, by any of the other chips: nothing changes
        pub wrote_nothing : (s : ℕ) → write_of b p x ≡ refused s b → Turned b r m b m j l (plainly s l)
        wrote_nothing s e = carried (refused s b) m j l (wrote ∙ e) wrote_none ej el

        module _ (q : p / 16 ≡ 1) (t : Result Timer TimerRefusal.Refusal) (et : Timers.written_as b.timer t ≡ writes_of b.timer p x) where
          to_timer : write_of b p x ≡ timer_written b p x
          unfolding write_of
          to_timer = rw q

          pub wrote_timer : (after : Timer) → t ≡ Ok after
              → (d : Wired) → d ≡ wired_to b.icu (lines_at j b.timer) j after
              → Turned b r m (icu_is d.icu (timer_is after b)) m j d.levels (plainly 0 d.levels)
          unfolding timer_written
          wrote_timer after v d ed =
              follows 0 0 (twelve []) (timer_is after b) j ej (wrote ∙ to_timer ∙ rw (← et, v)) wrote_none d ed

          pub refused_timer : (e : TimerRefusal.Refusal) → t ≡ Err e → (s : ℕ) → s ≡ TimerPorts.status_of e → Turned b r m b m j l (plainly s l)
          unfolding timer_written
          refused_timer e v s es = rw es (wrote_nothing (TimerPorts.status_of e) (to_timer ∙ rw (← et, v, never_0 e)))

        module _ (q : p / 16 ≡ 2) (t : Result Dma DmaRefusal.Refusal) (et : DmaAnswers.written_as b.dma t ≡ DmaRegisters.write_of b.dma p x) where
          to_dma : write_of b p x ≡ dma_written b p x
          unfolding write_of
          to_dma = rw q

          pub wrote_dma : (after : Dma) → t ≡ Ok after → Turned b r m (dma_is after b) m j l (plainly 0 l)
          unfolding dma_written levels_of
          wrote_dma after v = carried (done (dma_is after b)) m j l (wrote ∙ to_dma ∙ rw (← et, v)) wrote_none ej el

          pub refused_dma : (e : DmaRefusal.Refusal) → t ≡ Err e → (s : ℕ) → s ≡ DmaAnswers.status_of e → Turned b r m b m j l (plainly s l)
          unfolding dma_written
          refused_dma e v s es = rw es (wrote_nothing (DmaAnswers.status_of e) (to_dma ∙ rw (← et, v, DmaRefusals.never_0 e)))

        module _ (q₀ : p / 16 ≡ 0 → ⊥) (q₁ : p / 16 ≡ 1 → ⊥) (q₂ : p / 16 ≡ 2 → ⊥) (w : Turn) (ew : w ≡ turn_of (IcuWords.write_of b.slave slave_iw3 (a0 p) x)) where
          to_slave : write_of b p x ≡ slave_written b (a0 p) x
          unfolding write_of
          to_slave = rw (ne_eqb _ _ q₀, ne_eqb _ _ q₁, ne_eqb _ _ q₂)

          abbrev written : Turn → Outcome
          written z = if eqb z.status 0 then done (followed b (slave_is z.icu b.slaveintp b)) else refused z.status b

          as_written : write_of b p x ≡ written w
          unfolding slave_written
          as_written = to_slave ∙ ap (λ (z : Turn). written z) (sym ew)

          pub wrote_slave : w.status ≡ 0
              → (k : ℕ) → k ≡ joined_of b.intp w.icu b.slaveintp
              → (d : Wired) → d ≡ wired_to b.icu (lines_at j b.timer) k b.timer
              → Turned b r m (icu_is d.icu (slave_is w.icu b.slaveintp b)) m k d.levels (plainly 0 d.levels)
          wrote_slave z k ek d ed =
              follows 0 0 (twelve []) (slave_is w.icu b.slaveintp b) k ek (wrote ∙ as_written ∙ rw (eq-eqb _ _ z)) wrote_none d ed

          pub refused_slave : (w.status ≡ 0 → ⊥) → Turned b r m b m j l (plainly w.status l)
          refused_slave z = wrote_nothing w.status (as_written ∙ rw (ne_eqb _ _ z))

      module _ (p : ℕ) (v : o ≡ Read p) where
        looked : execute_of b o m ≡ read_of b p
        unfolding execute_of
        looked = ap (λ (k : Operation). execute_of b k m) v

        looked_none : memory_after b o m ≡ m
        unfolding memory_after
        looked_none = ap (λ (k : Operation). memory_after b k m) v

        module _ (q : p / 16 ≡ 0) where
          to_icu : read_of b p ≡ icu_told b (icu_shown b (a0 p))
          unfolding read_of
          to_icu = rw (eq-eqb _ _ q)

        pub read_icu : p / 16 ≡ 0
            → (x : ℕ) → x ≡ lines_at j b.timer → (w : Turn) → w ≡ turn_of (IcuService.read_of b.icu (a0 p) x)
            → Turned b r m b m j l (answer_of w.status (byte r 0) w.byte l w.payload)
        read_icu q x ex w ew =
            let t = icu_shown b (a0 p) in
            carried (record { status = w.status; board = b; byte = w.byte; payload = w.payload }) m j l
            (looked ∙ to_icu q
            ∙ ap (λ (z : Icu). record { status = t.status; board = icu_is z b; byte = t.byte; payload = twelve t.payload }) (read_leaves b.icu (a0 p) (lines b))
            ∙ ap (λ (z : Turn). record { status = z.status; board = b; byte = z.byte; payload = z.payload }) (sym (ew ∙ ap (λ (z : ℕ). turn_of (IcuService.read_of b.icu (a0 p) z)) (ex ∙ ap (λ (z : ℕ). lines_at z b.timer) ej))))
            looked_none
            ej
            el

        same_levels : (n : ℕ) (s : Seen)
            → levels_of b ≡ levels_of (timer_is (counter_is n (back (at b.timer n) s).counter b.timer) b)
        unfolding levels_of lines_at outs_of
        same_levels n s = rw (same_out b.timer n s 0, same_out b.timer n s 1, same_out b.timer n s 2)

        module _ (q : p / 16 ≡ 1) (q₃ : eqb (p % 4) 3 ≡ false) (n : ℕ) (is : n ≡ p % 4 % 3) (t : Result TimerShown.Shown TimerRefusal.Refusal) (et : told_seen (at b.timer n) t ≡ seen_of (at b.timer n)) where
          en : n ≡ p % 4
          en = let low = eqb-false (p % 4) 3 q₃ in omega (arith, is, low)

          pub read_timer : (s : TimerShown.Shown) → t ≡ Ok s
              → Turned b r m (timer_is (counter_is n (second_is s.second (latched_is s.latched (at b.timer n))) b.timer) b) m j l (answer_of 0 (byte r 0) s.byte l (twelve []))
          unfolding read_of timer_shown
          read_timer s v =
              let z : Seen = told_seen (at b.timer n) (Ok s) in
              let ez : z ≡ seen_of (at b.timer n) = rw v at et in
              let t' = counter_is n (back (at b.timer n) z).counter b.timer in
              carried (telling (timer_is t' b) s.byte) m j l (looked ∙ rw (q, got_seen b.timer p n en q₃ z ez)) looked_none ej (el ∙ same_levels n z)

          pub unread_timer : (e : TimerRefusal.Refusal) → t ≡ Err e → (s : ℕ) → s ≡ TimerPorts.status_of e → Turned b r m b m j l (plainly s l)
          unfolding read_of timer_shown
          unread_timer e v s es =
              let z : Seen = told_seen (at b.timer n) (Err e) in
              let ez : z ≡ seen_of (at b.timer n) = rw v at et in
              rw es (carried (refused (TimerPorts.status_of e) b) m j l (looked ∙ rw (q, got_seen b.timer p n en q₃ z ez, never_0 e)) looked_none ej el)

        pub read_slave : (q₀ : p / 16 ≡ 0 → ⊥) (q₁ : p / 16 ≡ 1 → ⊥) (q₂ : p / 16 ≡ 2 → ⊥)
            → (w : Turn) → w ≡ turn_of (IcuService.read_of b.slave (a0 p) b.slaveintp)
            → Turned b r m b m j l (answer_of w.status (byte r 0) w.byte l w.payload)
        unfolding read_of slave_shown
        read_slave q₀ q₁ q₂ w ew =
            carried (record { status = w.status; board = b; byte = w.byte; payload = w.payload }) m j l
            (looked
            ∙ rw (ne_eqb _ _ q₀, ne_eqb _ _ q₁, ne_eqb _ _ q₂)
            (ap (λ (z : Turn). record { status = z.status; board = b; byte = z.byte; payload = z.payload }) (sym ew)))
            looked_none ej el

        module _ (q : p / 16 ≡ 2) (t : Result DmaShown.Shown DmaRefusal.Refusal) (et : DmaAnswers.shown_as b.dma t ≡ DmaRegisters.seen_of b.dma p) where
          pub read_dma : (s : DmaShown.Shown) → t ≡ Ok s
              → Turned b r m (dma_is (DmaLooks.back b.dma (DmaAnswers.shown_as b.dma (Ok s))).dma b) m j l (answer_of 0 (byte r 0) s.byte l (twelve []))
          unfolding read_of dma_shown levels_of
          read_dma s v =
              let z : DmaAnswers.Seen = DmaAnswers.shown_as b.dma (Ok s) in
              let ez : z ≡ DmaRegisters.seen_of b.dma p = rw v at et in
              carried (telling (dma_is (DmaLooks.back b.dma z).dma b) s.byte) m j l (looked ∙ rw (q, ← DmaLooks.put_back b.dma p z ez)) looked_none ej el

          pub unread_dma : (e : DmaRefusal.Refusal) → t ≡ Err e → (s : ℕ) → s ≡ DmaAnswers.status_of e → Turned b r m b m j l (plainly s l)
          unfolding read_of dma_shown
          unread_dma e v s es =
              let z : DmaAnswers.Seen = DmaAnswers.shown_as b.dma (Err e) in
              let ez : z ≡ DmaRegisters.seen_of b.dma p = rw v at et in
              rw es (carried (refused (DmaAnswers.status_of e) b) m j l (looked ∙ rw (q, ← DmaLooks.put_back b.dma p z ez, DmaRefusals.never_0 e)) looked_none ej el)

      -- other lines, or other gates: the interrupt chip sees what changed
      pub intp : (x : ℕ) → o ≡ Intp x → (k : ℕ) → k ≡ joined_of x b.slave b.slaveintp
          → (d : Wired) → d ≡ wired_to b.icu (lines_at j b.timer) k b.timer
          → Turned b r m (icu_is d.icu (intp_is x b)) m k d.levels (plainly 0 d.levels)
      unfolding execute_of memory_after
      intp x v k ek d ed =
          follows 0 0 (twelve []) (intp_is x b) k ek (ap (λ (z : Operation). execute_of b z m) v) (ap (λ (z : Operation). memory_after b z m) v) d ed

      pub gates : (x : ℕ) → o ≡ Gates x → (t : Timer) → t ≡ gates_of b.timer x → (d : Wired) → d ≡ wired_to b.icu (lines_at j b.timer) j t
          → Turned b r m (icu_is d.icu (timer_is t b)) m j d.levels (plainly 0 d.levels)
      unfolding execute_of memory_after
      gates x v t et d ed =
          follows 0 0 (twelve []) (timer_is t b) j ej
          (ap (λ (z : Operation). execute_of b z m) v ∙ ap (λ (z : Timer). done (followed b (timer_is z b))) (sym et)) (ap (λ (z : Operation). memory_after b z m) v) d ed

      pub requests : (x : ℕ) → o ≡ Requests x → (d : Dma) → d ≡ DmaRegisters.requested_of b.dma x → Turned b r m (dma_is d b) m j l (plainly 0 l)
      unfolding execute_of memory_after levels_of
      requests x v d ed =
          carried (done (dma_is d b)) m j l
          (ap (λ (k : Operation). execute_of b k m) v ∙ ap (λ (z : Dma). done (dma_is z b)) (sym ed)) (ap (λ (k : Operation). memory_after b k m) v) ej el

      pub slave_intp : (x : ℕ) → o ≡ SlaveIntp x → (s : Icu) → s ≡ lines_of b.slave b.slaveintp x
          → (k : ℕ) → k ≡ joined_of b.intp s x
          → (d : Wired) → d ≡ wired_to b.icu (lines_at j b.timer) k b.timer
          → Turned b r m (icu_is d.icu (slave_is s x b)) m k d.levels (plainly 0 d.levels)
      unfolding execute_of memory_after
      slave_intp x v s es k ek d ed =
          follows 0 0 (twelve []) (slave_is s x b) k ek
          (ap (λ (z : Operation). execute_of b z m) v ∙ ap (λ (z : Icu). done (followed b (slave_is z x b))) (sym es)) (ap (λ (z : Operation). memory_after b z m) v) d ed

      module _ (v : o ≡ Acknowledge) (x : ℕ) (ex : x ≡ lines_at j b.timer) where
        asks : execute_of b o m ≡ acknowledge_of b
        unfolding execute_of
        asks = ap (λ (k : Operation). execute_of b k m) v

        asks_none : memory_after b o m ≡ m
        unfolding memory_after
        asks_none = ap (λ (k : Operation). memory_after b k m) v

        as_lines : x ≡ lines b
        as_lines = ex ∙ ap (λ (z : ℕ). lines_at z b.timer) ej

        as_passed : (q : Bool) → passed_on b.icu x b.slave ≡ q → passed_on b.icu (lines b) b.slave ≡ q
        as_passed q h = ap (λ (z : ℕ). passed_on b.icu z b.slave) (sym as_lines) ∙ h

        -- level 7, passed on to the slave
        pub passed_on_law : passed_on b.icu x b.slave ≡ true
            → (w : Turn) → w ≡ turn_of (IcuService.acknowledge_of b.slave b.slaveintp)
            → (k : ℕ) → k ≡ joined_of b.intp w.icu b.slaveintp
            → (c : Icu) → c ≡ IcuService.served_of b.icu 7
            → (d : Wired) → d ≡ wired_to c (lines_at j b.timer) k b.timer
            → Turned b r m (icu_is d.icu (slave_is w.icu b.slaveintp b)) m k d.levels (answer_of w.status (byte r 0) w.byte d.levels w.payload)
        unfolding acknowledge_of slave_gives
        passed_on_law h w ew k ek c ec d ed =
            follows w.status w.byte w.payload (slave_is w.icu b.slaveintp (icu_is c b)) k ek
            (asks ∙ rw (as_passed true h)
            (ap (λ (z : Turn). record { status = z.status; board = followed b (slave_is z.icu b.slaveintp (icu_is (IcuService.served_of b.icu 7) b)); byte = z.byte; payload = z.payload }) (sym ew)
            ∙ ap (λ (z : Icu). record { status = w.status; board = followed b (slave_is w.icu b.slaveintp (icu_is z b)); byte = w.byte; payload = w.payload }) (sym ec)))
            asks_none d ed

        -- any other that is answered, by the master alone
        pub acknowledge : passed_on b.icu x b.slave ≡ false → answered b.icu b.slave ≡ true
            → (w : Turn) (n : ℕ) → w ≡ turn_of (IcuService.acknowledge_of b.icu x) → n ≡ levels_at w.icu j b.timer
            → Turned b r m (icu_is w.icu b) m j n (answer_of w.status (byte r 0) w.byte n w.payload)
        unfolding acknowledge_of
        acknowledge h g w n ew =
            turned_icu (acknowledged b) (asks ∙ rw (as_passed false h, g)) asks_none w n
            (ew ∙ ap (λ (z : ℕ). turn_of (IcuService.acknowledge_of b.icu z)) as_lines)

        pub unanswered : passed_on b.icu x b.slave ≡ false → answered b.icu b.slave ≡ false → Turned b r m b m j l (plainly 3 l)
        unfolding acknowledge_of
        unanswered h g = carried (refused 3 b) m j l (asks ∙ rw (as_passed false h, g)) asks_none ej el

      pub advance : (k : ℕ) → o ≡ Advance k
          → (a : Run) (n : ℕ) (p : List ℕ) → a ≡ advanced_of j b.timer b.icu k → n ≡ levels_at a.icu j a.timer
          → p ≡ twelve (rises_payload a.rises)
          → Turned b r m (icu_is a.icu (timer_is a.timer b)) m j n (answer_of 0 (byte r 0) 0 n p)
      unfolding execute_of memory_after advance_of levels_of
      advance k v a n p ea en ep =
          rw ep
          (carried (record { status = 0; board = icu_is a.icu (timer_is a.timer b); byte = 0; payload = twelve (rises_payload a.rises) }) m j n
          (ap (λ (z : Operation). execute_of b z m) v
          ∙ ap (λ (z : Run). record { status = 0; board = icu_is z.icu (timer_is z.timer b); byte = 0; payload = twelve (rises_payload z.rises) })
          (sym (ea ∙ ap (λ (z : ℕ). advanced_of z b.timer b.icu k) ej)))
          (ap (λ (z : Operation). memory_after b z m) v) ej
          (en ∙ ap (λ (z : ℕ). levels_at a.icu z a.timer) ej))

      -- a DMA cycle by what it reports
      pub cycle : (e : Bool) (x y : ℕ) → o ≡ Cycle e x y
          → (d : Dma) (t : Told) (m' p : List ℕ) (k : ℕ)
          → record { dma = d; memory = m'; report = t } ≡ DmaCycle.cycle_of b.dma e x y m
          → k ≡ t.byte
          → p ≡ twelve (payload_of t)
          → Turned b r m (dma_is d b) m' j l (answer_of 0 (byte r 0) k l p)
      unfolding execute_of memory_after cycle_of cycle_memory levels_of
      cycle e x y v d t m' p k ec ek ep =
          rw (ek, ep)
          (carried (record { status = 0; board = dma_is d b; byte = t.byte; payload = twelve (payload_of t) }) m' j l
          (ap (λ (z : Operation). execute_of b z m) v
          ∙ ap (λ (z : DmaCycle.Out). record { status = 0; board = dma_is z.dma b; byte = z.report.byte; payload = twelve (payload_of z.report) }) (sym ec))
          (ap (λ (z : Operation). memory_after b z m) v ∙ ap (λ (z : DmaCycle.Out). z.memory) (sym ec)) ej el)

      pub cycle_by_call : (e : Bool) (x y : ℕ) → o ≡ Cycle e x y
          → (d : Dma) (report : Report) (m' p : List ℕ) (k : ℕ)
          → d ≡ (DmaCycle.cycle_of b.dma e x y m).dma
          → told report ≡ (DmaCycle.cycle_of b.dma e x y m).report
          → m' ≡ (DmaCycle.cycle_of b.dma e x y m).memory
          → k ≡ (told report).byte
          → p ≡ twelve (payload_of (told report))
          → Turned b r m (dma_is d b) m' j l (answer_of 0 (byte r 0) k l p)
      cycle_by_call e x y v d report m' p k ed et em ek ep =
          cycle e x y v d (told report) m' p k (rw (ed, et, em)) ek ep

      -- a plain unit: of the served channel, which is c, the current address and count alone
      pub plain_unit : (e : Bool) (x y : ℕ) → o ≡ Cycle e x y
          → let c = chan b.dma (b.dma.channel % 4) in
          plain_of c b.dma.serving b.dma.channel b.dma.requests e ≡ true
          → (c' : Channel) (m' p : List ℕ) (w : Carried)
          → c' ≡ DmaCycle.moved_of c false
          → m' ≡ DmaCycle.memory_of c m x y
          → w ≡ DmaCycle.carried_of c m x y
          → p ≡ twelve (2 ∷ b.dma.channel ∷ flag_of false ∷ flag_of false ∷ little_of c.current.address ++ flag_of w.outside ∷ w.upper ∷ [])
          → Turned b r m (dma_is (channels_are (set b.dma.channels (b.dma.channel % 4) c') b.dma) b) m' j l (answer_of 0 (byte r 0) w.byte l p)
      plain_unit e x y v h c' m' p w ec em ew ep =
          let c = chan b.dma (b.dma.channel % 4) in
          cycle e x y v _ (moved b.dma.channel false false c.current.address w.byte w.upper w.outside) m' p w.byte
          (rw (ec, em, ew) (sym (plain b.dma e x y m h))) refl ep
