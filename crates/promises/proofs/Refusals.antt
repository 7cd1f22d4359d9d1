-- A record with a status other than 0 leaves everything, and its answer is fixed.
use Rattle.std.specs.Prelude.{Option, Some, None}
use mathlib.Core.Path.{◌≡◌, refl, sym, ap, ◌∙◌}
use mathlib.Core.List.{List, [], ◌∷◌}
use mathlib.Core.Bool.{Bool, true, false, true≢false}
use Prim.Native.Nat.{ℕ, ◌/◌}
use lib.Dec.{eqb}
use lib.ListN.{get_or}
use Rattle.std.specs.Prelude.{if◌then◌else◌}
use Rattle.bits.specs.Bits.{bit_of}
use Rattle.tape.specs.declared.Operation.{Operation}
use Rattle.tape.specs.declared.Operation.TheVariants.{Reset, Write, Read, Intp, Gates, Requests, SlaveIntp, Acknowledge, Advance, Cycle}
use Rattle.tape.specs.Records.{byte, decode_of}
use Rattle.tape.specs.Answers.{twelve, answer_of}
use Rattle.icu.specs.declared.Icu.{Icu}
use Rattle.icu.specs.Answers as IcuAnswers
use Rattle.icu.specs.Words as IcuWords
use Rattle.icu.specs.Service as IcuService
use Rattle.icu.specs.Requests.{int_of}
use Rattle.cascade.specs.Cascade.{master_iw3, slave_iw3, answered, passed_on}
use Rattle.timer.specs.Timer.{writes_of, reads_of}
use Rattle.dma.specs.Registers as DmaRegisters
use Rattle.board.specs.declared.Board.{Board}
use Rattle.board.specs.Operations.{Outcome, a0, told_with, icu_told, icu_written, icu_shown, acknowledged, refused, timer_written, timer_shown, dma_written, dma_shown, slave_written, slave_shown, acknowledge_of, write_of, read_of, cycle_of}
use Rattle.board.specs.Wiring.{levels_of, lines}
use Rattle.board.specs.Advance.{advance_of}
use Rattle.board.specs.Step.{execute_of, memory_after, blocked, outcome_of, memory_of, answered_of, step_of, step_memory}
use Rattle.tape.proofs.Decodes.{either}
use Rattle.promises.proofs.Statuses.{gives_status}

no : {A : Type 0} → true ≡ false → A
no h = absurd (true≢false h)

-- An interrupt chip: what is not done is a refusal, which has no data and no payload and leaves the chip. (A record: carried through a chain of
-- cases, the function itself is dear to check.)
record Refusal (c : Icu) (t : IcuAnswers.Told) : Type 0 where
  stands : eqb t.status 0 ≡ false → t ≡ IcuAnswers.refused t.status c

plain : {c : Icu} {t : IcuAnswers.Told} → (eqb t.status 0 ≡ false → t ≡ IcuAnswers.refused t.status c) → Refusal c t
plain f = record { stands = f }

module _ (c : Icu) where
  abbrev Q : IcuAnswers.Told → Type 0
  Q = Refusal c

  icu_write : (w : ℕ) (k : Bool) (x : ℕ) → Q (IcuWords.write_of c w k x)
  unfolding IcuWords.write_of IcuWords.later_word IcuWords.mcw
  icu_write w k x =
      either Q k
      (λ _. either Q (IcuWords.ready c) (λ _. plain no)
      (λ _. either Q (eqb c.stage 1) (λ _. plain no)
      (λ _. either Q (eqb c.stage 4) (λ _. either Q (eqb x w) (λ _. plain no) (λ _. plain (λ h. refl)))
      (λ _. either Q (eqb c.stage 2) (λ _. plain no) (λ _. plain (λ h. refl))))))
      (λ _. either Q (bit_of x 4) (λ _. plain no)
      (λ _. either Q (IcuWords.ready c)
      (λ _. either Q (bit_of x 3)
      (λ _. either Q (bit_of x 2) (λ _. plain (λ h. refl))
      (λ _. either Q (IcuWords.sets_exceptional x) (λ _. plain (λ h. refl)) (λ _. either Q (bit_of x 1) (λ _. plain no) (λ _. plain no))))
      (λ _. plain no))
      (λ _. plain (λ h. refl))))

  icu_read : (k : Bool) (l : ℕ) → Q (IcuService.read_of c k l)
  unfolding IcuService.read_of
  icu_read k l =
      either Q (IcuWords.ready c)
      (λ _. either Q k (λ _. plain no) (λ _. either Q c.showsisr (λ _. plain no) (λ _. plain no)))
      (λ _. plain (λ h. refl))

  icu_acknowledge : (l : ℕ) → Q (IcuService.acknowledge_of c l)
  unfolding IcuService.acknowledge_of
  icu_acknowledge l =
      either Q (IcuWords.ready c)
      (λ _. either Q (int_of c l) (λ _. either Q c.vector (λ _. plain no) (λ _. plain no)) (λ _. either Q c.vector (λ _. plain no) (λ _. plain no)))
      (λ _. plain (λ h. refl))

module _ (b : Board) where
  abbrev P : Outcome → Type 0
  P o = eqb o.status 0 ≡ false → o ≡ refused o.status b

  icu_plain : (t : IcuAnswers.Told) → Q b.icu t → P (icu_told b t)
  icu_plain t q h = ap (icu_told b) (q.stands h)

  -- What the slave tells where nothing else changes.
  slave_plain : (t : IcuAnswers.Told) → Q b.slave t → P (told_with b t)
  slave_plain t q h = ap (told_with b) (q.stands h)

  write_plain : (p x : ℕ) → P (write_of b p x)
  unfolding write_of timer_written dma_written slave_written
  write_plain p x =
      either P (eqb (p / 16) 0) (λ _. icu_plain (icu_written b (a0 p) x) (icu_write b.icu master_iw3 (a0 p) x))
      (λ _. either P (eqb (p / 16) 1)
      (λ _. either P (eqb (writes_of b.timer p x).status 0) (λ _. no) (λ _ h. refl))
      (λ _. either P (eqb (p / 16) 2)
      (λ _. either P (eqb (DmaRegisters.write_of b.dma p x).status 0) (λ _. no) (λ _ h. refl))
      (λ _. either P (eqb (IcuWords.write_of b.slave slave_iw3 (a0 p) x).status 0) (λ _. no) (λ _ h. refl))))

  read_plain : (p : ℕ) → P (read_of b p)
  unfolding read_of timer_shown dma_shown slave_shown
  read_plain p =
      either P (eqb (p / 16) 0) (λ _. icu_plain (icu_shown b (a0 p)) (icu_read b.icu (a0 p) (lines b)))
      (λ _. either P (eqb (p / 16) 1)
      (λ _. either P (eqb (reads_of b.timer p).status 0) (λ _. no) (λ _ h. refl))
      (λ _. either P (eqb (p / 16) 2)
      (λ _. either P (eqb (DmaRegisters.read_of b.dma p).status 0) (λ _. no) (λ _ h. refl))
      (λ _. slave_plain (IcuService.read_of b.slave (a0 p) b.slaveintp) (icu_read b.slave (a0 p) b.slaveintp))))

  -- An acknowledge that is passed on is done.
  acknowledge_plain : P (acknowledge_of b)
  unfolding acknowledge_of
  acknowledge_plain =
      either P (passed_on b.icu (lines b) b.slave) (λ q h. no (ap (λ (s : ℕ). eqb s 0) (sym (gives_status b q)) ∙ h))
      (λ _. either P (answered b.icu b.slave)
      (λ _. icu_plain (acknowledged b) (icu_acknowledge b.icu (lines b)))
      (λ _ h. refl))

  module _ (m : List ℕ) where
    execute_plain : (o : Operation) → P (execute_of b o m)
    unfolding execute_of advance_of cycle_of
    execute_plain Reset = no
    execute_plain (Write p x) = write_plain p x
    execute_plain (Read p) = read_plain p
    execute_plain (Intp l) = no
    execute_plain (Gates l) = no
    execute_plain (Requests l) = no
    execute_plain (SlaveIntp l) = no
    execute_plain Acknowledge = acknowledge_plain
    execute_plain (Advance n) = no
    execute_plain (Cycle e x y) = no

    outcome_plain : (x : Option Operation) → P (outcome_of b x m)
    unfolding outcome_of
    outcome_plain None = λ h. refl
    outcome_plain (Some o) = either P (blocked b o) (λ _ h. refl) (λ _. execute_plain o)

    execute_memory : (o : Operation) → eqb (execute_of b o m).status 0 ≡ false → memory_after b o m ≡ m
    unfolding execute_of memory_after cycle_of
    execute_memory Reset h = refl
    execute_memory (Write p x) h = refl
    execute_memory (Read p) h = refl
    execute_memory (Intp l) h = refl
    execute_memory (Gates l) h = refl
    execute_memory (Requests l) h = refl
    execute_memory (SlaveIntp l) h = refl
    execute_memory Acknowledge h = refl
    execute_memory (Advance n) h = refl
    execute_memory (Cycle e x y) h = no h

    outcome_memory : (x : Option Operation) → eqb (outcome_of b x m).status 0 ≡ false → memory_of b x m ≡ m
    unfolding outcome_of memory_of
    outcome_memory None h = refl
    outcome_memory (Some o) h = go (blocked b o) h
      where
        go : (q : Bool) → eqb (if q then refused 1 b else execute_of b o m).status 0 ≡ false → (if q then m else memory_after b o m) ≡ m
        go true h = refl
        go false h = execute_memory o h

    module _ (r : List ℕ) where
      abbrev o : Outcome
      o = outcome_of b (decode_of r) m

      pub board_stays : eqb (get_or (step_of b r m).answer 0 0) 0 ≡ false → (step_of b r m).board ≡ b
      unfolding step_of answered_of answer_of
      board_stays h = ap (λ (y : Outcome). y.board) (outcome_plain (decode_of r) h)

      pub memory_stays : eqb (get_or (step_of b r m).answer 0 0) 0 ≡ false → step_memory b r m ≡ m
      unfolding step_of step_memory answered_of answer_of
      memory_stays h = outcome_memory (decode_of r) h

      pub answer_fixed : eqb (get_or (step_of b r m).answer 0 0) 0 ≡ false
          → (step_of b r m).answer
          ≡ get_or (step_of b r m).answer 0 0 ∷ byte r 0 ∷ 0 ∷ levels_of b ∷ 0 ∷ 0 ∷ 0 ∷ 0 ∷ 0 ∷ 0 ∷ 0 ∷ 0 ∷ 0 ∷ 0 ∷ 0 ∷ 0 ∷ []
      unfolding step_of answered_of answer_of
      answer_fixed h =
          ap (λ (y : Outcome). o.status ∷ byte r 0 ∷ y.byte ∷ levels_of y.board ∷ twelve y.payload) (outcome_plain (decode_of r) h)
