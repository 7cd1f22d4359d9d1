-- The kept bytes have no part in a record: with others in their place, all else is the same.
use Rattle.std.specs.Prelude.{Option, Some, None}
use mathlib.Core.Path.{◌≡◌, refl, ap, ◌∙◌}
use mathlib.Core.List.{List}
use mathlib.Core.Bool.{Bool, true, false}
use Prim.Native.Nat.{ℕ, zero, suc, ◌/◌}
use lib.Dec.{eqb}
use Rattle.std.specs.Prelude.{if◌then◌else◌}
use Rattle.tape.specs.declared.Operation.{Operation}
use Rattle.tape.specs.declared.Operation.TheVariants.{Reset, Write, Read, Intp, Gates, Requests, SlaveIntp, Acknowledge, Advance, Cycle}
use Rattle.tape.specs.Records.{byte, decode_of}
use Rattle.icu.specs.Words as IcuWords
use Rattle.cascade.specs.Cascade.{slave_iw3, answered, passed_on}
use Rattle.timer.specs.Timer.{writes_of, reads_of}
use Rattle.dma.specs.Registers as DmaRegisters
use Rattle.board.specs.declared.Board.{Board}
use Rattle.board.specs.Operations.{Outcome, telling, done, refused, icu_told, icu_written, icu_shown, a0, slave_written, slave_shown, acknowledged, slave_gives, acknowledge_of, timer_written, timer_shown, dma_written, dma_shown, write_of, read_of, cycle_of, cycle_memory}
use Rattle.board.specs.Wiring.{slave_is, timer_is, dma_is, lines, followed, levels_of}
use Rattle.board.specs.Advance.{advance_of}
use Rattle.board.specs.Step.{execute_of, memory_after, blocked, outcome_of, memory_of, answered_of, step_of, step_memory}
use Rattle.board.specs.Records.{record_at, Run, next, after}
use Rattle.intake.specs.Feed.{keeping}

module _ (kept : List ℕ) (n : ℕ) where
  -- A board, an outcome and a run with these bytes kept.
  abbrev pub K : Board → Board
  K b = keeping kept n b

  abbrev O : Outcome → Outcome
  O o = record { status = o.status; board = K o.board; byte = o.byte; payload = o.payload }

  abbrev pub R : Run → Run
  R s = record { board = K s.board; memory = s.memory; answers = s.answers }

  -- One of two, by the same test on either side.
  choice : (q : Bool) (u v : Outcome) {x y : Outcome} → x ≡ O u → y ≡ O v → (if q then x else y) ≡ O (if q then u else v)
  choice true u v e f = e
  choice false u v e f = f

  module _ (b : Board) where
    timer_write : (p x : ℕ) → timer_written (K b) p x ≡ O (timer_written b p x)
    unfolding timer_written
    timer_write p x =
        choice (eqb (writes_of b.timer p x).status 0) (done (followed b (timer_is (writes_of b.timer p x).timer b))) (refused (writes_of b.timer p x).status b) refl refl

    timer_read : (p : ℕ) → timer_shown (K b) p ≡ O (timer_shown b p)
    unfolding timer_shown
    timer_read p =
        choice (eqb (reads_of b.timer p).status 0) (telling (timer_is (reads_of b.timer p).timer b) (reads_of b.timer p).byte) (refused (reads_of b.timer p).status b) refl refl

    dma_write : (p x : ℕ) → dma_written (K b) p x ≡ O (dma_written b p x)
    unfolding dma_written
    dma_write p x =
        choice (eqb (DmaRegisters.write_of b.dma p x).status 0) (done (dma_is (DmaRegisters.write_of b.dma p x).dma b)) (refused (DmaRegisters.write_of b.dma p x).status b) refl refl

    dma_read : (p : ℕ) → dma_shown (K b) p ≡ O (dma_shown b p)
    unfolding dma_shown
    dma_read p =
        choice (eqb (DmaRegisters.read_of b.dma p).status 0) (telling (dma_is (DmaRegisters.read_of b.dma p).dma b) (DmaRegisters.read_of b.dma p).byte) (refused (DmaRegisters.read_of b.dma p).status b) refl refl

    slave_write : (k : Bool) (x : ℕ) → slave_written (K b) k x ≡ O (slave_written b k x)
    unfolding slave_written
    slave_write k x =
        choice (eqb (IcuWords.write_of b.slave slave_iw3 k x).status 0) (done (followed b (slave_is (IcuWords.write_of b.slave slave_iw3 k x).icu b.slaveintp b))) (refused (IcuWords.write_of b.slave slave_iw3 k x).status b) refl refl

    slave_read : (k : Bool) → slave_shown (K b) k ≡ O (slave_shown b k)
    unfolding slave_shown
    slave_read k = refl

    acknowledge_aside : acknowledge_of (K b) ≡ O (acknowledge_of b)
    unfolding acknowledge_of slave_gives
    acknowledge_aside =
        choice (passed_on b.icu (lines b) b.slave) (slave_gives b) (if answered b.icu b.slave then icu_told b (acknowledged b) else refused 3 b) refl
        (choice (answered b.icu b.slave) (icu_told b (acknowledged b)) (refused 3 b) refl refl)

    -- The chip that a port names.
    by_port : (p : ℕ) (s t u v : Outcome) {w x y z : Outcome} → w ≡ O s → x ≡ O t → y ≡ O u → z ≡ O v
        → (if eqb (p / 16) 0 then w else if eqb (p / 16) 1 then x else if eqb (p / 16) 2 then y else z)
        ≡ O (if eqb (p / 16) 0 then s else if eqb (p / 16) 1 then t else if eqb (p / 16) 2 then u else v)
    by_port p s t u v d e f g =
        choice (eqb (p / 16) 0) s (if eqb (p / 16) 1 then t else if eqb (p / 16) 2 then u else v) d
        (choice (eqb (p / 16) 1) t (if eqb (p / 16) 2 then u else v) e (choice (eqb (p / 16) 2) u v f g))

    write_aside : (p x : ℕ) → write_of (K b) p x ≡ O (write_of b p x)
    unfolding write_of
    write_aside p x =
        by_port p (icu_told b (icu_written b (a0 p) x)) (timer_written b p x) (dma_written b p x) (slave_written b (a0 p) x) refl (timer_write p x) (dma_write p x) (slave_write (a0 p) x)

    read_aside : (p : ℕ) → read_of (K b) p ≡ O (read_of b p)
    unfolding read_of
    read_aside p =
        by_port p (icu_told b (icu_shown b (a0 p))) (timer_shown b p) (dma_shown b p) (slave_shown b (a0 p)) refl (timer_read p) (dma_read p) (slave_read (a0 p))

    execute_aside : (o : Operation) (m : List ℕ) → execute_of (K b) o m ≡ O (execute_of b o m)
    unfolding execute_of advance_of cycle_of
    execute_aside Reset m = refl
    execute_aside (Write p x) m = write_aside p x
    execute_aside (Read p) m = read_aside p
    execute_aside (Intp l) m = refl
    execute_aside (Gates l) m = refl
    execute_aside (Requests l) m = refl
    execute_aside (SlaveIntp l) m = refl
    execute_aside Acknowledge m = acknowledge_aside
    execute_aside (Advance k) m = refl
    execute_aside (Cycle e x y) m = refl

    outcome_aside : (d : Option Operation) (m : List ℕ) → outcome_of (K b) d m ≡ O (outcome_of b d m)
    unfolding outcome_of blocked
    outcome_aside None m = refl
    outcome_aside (Some o) m = choice (blocked b o) (refused 1 b) (execute_of b o m) refl (execute_aside o m)

    carried_aside : (o : Operation) (m : List ℕ) → memory_after (K b) o m ≡ memory_after b o m
    unfolding memory_after cycle_memory
    carried_aside Reset m = refl
    carried_aside (Write p x) m = refl
    carried_aside (Read p) m = refl
    carried_aside (Intp l) m = refl
    carried_aside (Gates l) m = refl
    carried_aside (Requests l) m = refl
    carried_aside (SlaveIntp l) m = refl
    carried_aside Acknowledge m = refl
    carried_aside (Advance k) m = refl
    carried_aside (Cycle e x y) m = refl

    memory_by : (d : Option Operation) (m : List ℕ) → memory_of (K b) d m ≡ memory_of b d m
    unfolding memory_of blocked
    memory_by None m = refl
    memory_by (Some o) m = ap (λ (k : List ℕ). if blocked b o then m else k) (carried_aside o m)

    pub step_aside : (r m : List ℕ) → step_of (K b) r m ≡ record { board = K (step_of b r m).board; answer = (step_of b r m).answer }
    unfolding step_of answered_of levels_of
    step_aside r m = ap (answered_of (byte r 0)) (outcome_aside (decode_of r) m)

    pub memory_aside : (r m : List ℕ) → step_memory (K b) r m ≡ step_memory b r m
    unfolding step_memory
    memory_aside r m = memory_by (decode_of r) m

    next_aside : (m a r : List ℕ)
        → next (record { board = K b; memory = m; answers = a }) r ≡ R (next (record { board = b; memory = m; answers = a }) r)
    next_aside m a r = rw (step_aside r m, memory_aside r m)

  pub after_aside : (b : Board) (m s : List ℕ) (j : ℕ) → after (K b) m s j ≡ R (after b m s j)
  unfolding after
  after_aside b m s zero = refl
  after_aside b m s (suc j) =
      let x = after b m s j in
      ap (λ (q : Run). next q (record_at s j)) (after_aside b m s j) ∙ next_aside x.board x.memory x.answers (record_at s j)
