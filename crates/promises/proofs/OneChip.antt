-- A tape that never names the slave, and writes no IW1 with D1=0, is answered as by the board with one chip.
use Rattle.std.specs.Prelude.{Option, Some, None}
use mathlib.Core.Path.{◌≡◌, refl, sym, ap, ap₂, ◌∙◌}
use mathlib.Core.List.{List}
use mathlib.Core.Bool.{Bool, true, false, not, true≢false, false≢true}
use Prim.Native.Nat.{ℕ, zero, suc, ◌/◌, ◌%◌, ◌<◌}
use native.Mathlib.Omega.{arith}
use lib.Dec.{eqb, ltb, leb}
use borrow.Author.Tests.{eqb-true, eqb-false, ltb-true, leb-true, eq-eqb, not-true}
use Rattle.bits.specs.Choice.{◌and◌, ◌or◌}
use Rattle.std.specs.Prelude.{if◌then◌else◌}
use Rattle.bits.specs.Bits.{bit_of}
use Rattle.tape.specs.declared.Operation.{Operation}
use Rattle.tape.specs.declared.Operation.TheVariants.{Reset, Write, Read, Intp, Gates, Requests, SlaveIntp, Acknowledge, Advance, Cycle}
use Rattle.tape.specs.Records.{byte, unused, writable, readable, asked_if, lines_asked, pulse_count, uses_bus, decode_of}
use Rattle.icu.specs.declared.Icu.{Icu}
use Rattle.icu.specs.Answers as IcuAnswers
use Rattle.icu.specs.Answers.{Told}
use Rattle.icu.specs.Words as IcuWords
use Rattle.icu.specs.Words.{ready, lev, sngl, i4}
use Rattle.icu.specs.Requests.{int_of, lines_of}
use Rattle.icu.specs.Service as IcuService
use Rattle.cascade.specs.Cascade.{master_iw3, joined_of, answered, passed_on}
use Rattle.timer.specs.declared.Timer.{Timer}
use Rattle.timer.specs.Timer.{writes_of, reads_of, gates_of}
use Rattle.dma.specs.Registers as DmaRegisters
use Rattle.board.specs.declared.Board.{Board}
use Rattle.board.specs.Wiring.{fresh_of, intp_is, timer_is, lines, levels_at, levels_of, followed}
use Rattle.board.specs.Operations.{Outcome, done, refused, icu_told, a0, timer_written, timer_shown, dma_written, dma_shown, acknowledge_of, write_of, read_of, cycle_of, cycle_memory}
use Rattle.board.specs.Advance.{tick_of, advanced_of, advance_of}
use Rattle.board.specs.Step.{execute_of, memory_after, blocked, outcome_of, memory_of, answered_of, step_of, step_memory}
use Rattle.board.specs.Records.{record_at, Run, next, after}
use Rattle.tape.proofs.Decodes.{either}
use Rattle.promises.specs.Table.{extended, unanswered}
use Rattle.promises.specs.OneChip.{names_slave, starts_extended, fresh_one, lines_one, rewired_one, Did, did, did_not, later_one, write_one, chip_did, timer_wrote, timer_read, dma_wrote, dma_read, execute_one, outcome_one, memory_one, answer_one, RunOne, next_one, after_one}
use Rattle.promises.specs.Cascade.{alone, Lone, without_slave}
use Rattle.promises.proofs.Logic.{both_left, both_right, or_first, or_second, or_false, and_false}
use Rattle.promises.proofs.SetUps.{both_answer, passed_by}
use Rattle.promises.proofs.Statuses.{Port, of_icu, of_timer, of_dma, of_slave, writable_port, readable_port, same_unanswered}

-- One of two on both sides, by the same test.
pairwise : {A B : Type 0} (P : A → B → Type 0) (q : Bool) {a b : A} {c d : B}
    → (q ≡ true → P a c)
    → (q ≡ false → P b d)
    → P (if q then a else b) (if q then c else d)
pairwise P true f g = f refl
pairwise P false f g = g refl

-- A chip that is not extended, and never will be by words of a board with one chip.
record Plain (c : Icu) : Type 0 where
  single : (eqb c.stage 0 or bit_of c.iw1 1) ≡ true
  no_iw3 : c.stage < 4

plain : {c : Icu} → (eqb c.stage 0 or bit_of c.iw1 1) ≡ true → c.stage < 4 → Plain c
plain s n = record { single = s; no_iw3 = n }

-- At reset.
reset_plain : Plain IcuWords.reset_of
unfolding IcuWords.reset_of
reset_plain = plain refl (omega arith)

at_reset : (d : Board) → d.icu ≡ IcuWords.reset_of → d.slave ≡ IcuWords.reset_of → d.slaveintp ≡ 0 → Lone d
at_reset d c s x = record { slave = s; lines = x; single = rw c reset_plain.single; no_iw3 = rw c reset_plain.no_iw3 }

-- An IW1 that a board with one chip takes.
has_d1 : (k d4 d1 : Bool) → k ≡ false → d4 ≡ true → (not k and d4 and not d1) ≡ false → d1 ≡ true
has_d1 true d4 d1 a b h = absurd (true≢false a)
has_d1 false true true a b h = refl
has_d1 false true false a b h = absurd (true≢false h)
has_d1 false false d1 a b h = absurd (false≢true b)

-- It stays so: the words that follow an IW1 with D1=1 lead past stage 4, and nothing else moves stage and IW1.
module _ (c : Icu) (p : Plain c) where
  abbrev P : Told → Type 0
  P t = Plain t.icu

  started : eqb c.stage 0 ≡ false → sngl c ≡ true
  started h = sym (ap (λ (q : Bool). q or sngl c) h) ∙ p.single

  later_plain : (w x : ℕ) → P (IcuWords.later_word c w x)
  unfolding IcuWords.later_word
  later_plain w x =
      either P (ready c) (λ _. plain p.single p.no_iw3)
      (λ _. either P (eqb c.stage 1)
      (λ q. either Plain (sngl c)
      (λ s. either Plain (i4 c) (λ _. plain s (omega arith)) (λ _. plain s (omega arith)))
      (λ s. absurd (true≢false (sym (started (rw (eqb-true c.stage 1 q) refl)) ∙ s))))
      (λ _. either P (eqb c.stage 4) (λ q. absurd (omega (arith, eqb-true c.stage 4 q, p.no_iw3)))
      (λ _. either P (eqb c.stage 2)
      (λ q. plain (started (rw (eqb-true c.stage 2 q) refl)) (omega arith))
      (λ _. p))))

  mcw_plain : (x : ℕ) → P (IcuWords.mcw c x)
  unfolding IcuWords.mcw
  mcw_plain x =
      either P (bit_of x 2) (λ _. p)
      (λ _. either P (IcuWords.sets_exceptional x) (λ _. p)
      (λ _. either P (bit_of x 1) (λ _. plain p.single p.no_iw3) (λ _. p)))

  finished_plain : (k : Bool) → Plain (IcuWords.finished c k)
  unfolding IcuWords.finished
  finished_plain k =
      either Plain (eqb c.isr 0) (λ _. p)
      (λ _. either Plain k (λ _. plain p.single p.no_iw3) (λ _. plain p.single p.no_iw3))

  pfcw_plain : (x : ℕ) → Plain (IcuWords.pfcw c x)
  unfolding IcuWords.pfcw
  pfcw_plain x = go (bit_of x 7) (bit_of x 6) (bit_of x 5)
    where
      go : (rp sil fi : Bool) → Plain (IcuWords.commanded rp sil fi c (x % 8))
      go false false true = finished_plain false
      go true false true = finished_plain true
      go false true true = plain p.single p.no_iw3
      go true true true = plain p.single p.no_iw3
      go true true false = plain p.single p.no_iw3
      go true false false = plain p.single p.no_iw3
      go false false false = plain p.single p.no_iw3
      go false true false = p

  write_plain : (w : ℕ) (k : Bool) (x : ℕ) → (not k and bit_of x 4 and not (bit_of x 1)) ≡ false → P (IcuWords.write_of c w k x)
  unfolding IcuWords.write_of IcuWords.iw1
  write_plain w k x h =
      either P k (λ _. later_plain w x)
      (λ a. either P (bit_of x 4) (λ b. plain (has_d1 k (bit_of x 4) (bit_of x 1) a b h) (omega arith))
      (λ _. either P (ready c) (λ _. either P (bit_of x 3) (λ _. mcw_plain x) (λ _. pfcw_plain x)) (λ _. p)))

  -- A word is the same to it by the rules of the board with one chip: IW1 has D1=1, so no IW3 is awaited.
  abbrev Agree : Told → Told → Type 0
  Agree t u = t ≡ u

  later_agrees : (w x : ℕ) → Agree (IcuWords.later_word c w x) (later_one c x)
  unfolding IcuWords.later_word later_one
  later_agrees w x =
      pairwise Agree (ready c) (λ _. refl)
      (λ _. pairwise Agree (eqb c.stage 1) (λ q. rw (started (rw (eqb-true c.stage 1 q) refl)) refl)
      (λ _. either (λ (t : Told). Agree t (if eqb c.stage 2 then IcuAnswers.done (IcuWords.iw4 c x) else IcuAnswers.refused 3 c)) (eqb c.stage 4)
      (λ q. absurd (omega (arith, eqb-true c.stage 4 q, p.no_iw3)))
      (λ _. refl)))

  write_agrees : (w : ℕ) (k : Bool) (x : ℕ) → (not k and bit_of x 4 and not (bit_of x 1)) ≡ false → Agree (IcuWords.write_of c w k x) (write_one c k x)
  unfolding IcuWords.write_of write_one
  write_agrees w k x h =
      pairwise Agree k (λ _. later_agrees w x)
      (λ a. pairwise Agree (bit_of x 4) (λ b. rw (has_d1 k (bit_of x 4) (bit_of x 1) a b h) refl) (λ _. refl))

  served_plain : (n : ℕ) → Plain (IcuService.served_of c n)
  unfolding IcuService.served_of
  served_plain n =
      either Plain c.sfi
      (λ _. either Plain c.rotation (λ _. plain p.single p.no_iw3) (λ _. plain p.single p.no_iw3))
      (λ _. plain p.single p.no_iw3)

  acknowledge_plain : (x : ℕ) → P (IcuService.acknowledge_of c x)
  unfolding IcuService.acknowledge_of
  acknowledge_plain x =
      let n = IcuService.takes c x in
      either P (ready c)
      (λ _. either P (int_of c x)
      (λ _. either P c.vector (λ _. served_plain n) (λ _. served_plain n))
      (λ _. either P c.vector (λ _. p) (λ _. p)))
      (λ _. p)

  read_plain : (k : Bool) (x : ℕ) → P (IcuService.read_of c k x)
  unfolding IcuService.read_of
  read_plain k x =
      either P (ready c) (λ _. either P k (λ _. p) (λ _. either P c.showsisr (λ _. p) (λ _. p))) (λ _. p)

  lines_plain : (was now : ℕ) → Plain (lines_of c was now)
  unfolding lines_of
  lines_plain was now =
      either Plain (ready c) (λ _. either Plain (lev c) (λ _. p) (λ _. plain p.single p.no_iw3)) (λ _. p)

advanced_plain : (c : Icu) → Plain c → (x : ℕ) (t : Timer) (n : ℕ) → Plain (advanced_of x t c n).icu
unfolding advanced_of tick_of
advanced_plain c p x t zero = p
advanced_plain c p x t (suc n) = lines_plain (advanced_of x t c n).icu (advanced_plain c p x t n) _ _

-- What a record comes to on the board with two chips and on that with one: the same, with nothing made of the slave.
record Same (o : Outcome) (d : Did) : Type 0 where
  status : o.status ≡ d.status
  chips : alone o.board ≡ d.one
  byte : o.byte ≡ d.byte
  payload : o.payload ≡ d.payload
  lone : Lone o.board

same : {o : Outcome} {d : Did} → o.status ≡ d.status → alone o.board ≡ d.one → o.byte ≡ d.byte → o.payload ≡ d.payload → Lone o.board → Same o d
same s c x y l = record { status = s; chips = c; byte = x; payload = y; lone = l }

-- A record that names no slave: its port, and its group.
pub past_first : (u v w : Bool) → u ≡ true → ((u and v) or w) ≡ false → v ≡ false
past_first true true w a h = h
past_first true false w a h = refl
past_first false v w a h = absurd (false≢true a)

pub past_second : (u w v : Bool) → w ≡ true → (u or (w and v)) ≡ false → v ≡ false
past_second true w v a h = absurd (true≢false h)
past_second false true v a h = h
past_second false false v a h = absurd (false≢true a)

pub dma_left : (p : ℕ) → Port p → (eqb p 48 or eqb p 49) ≡ false → eqb (p / 16) 0 ≡ false → eqb (p / 16) 1 ≡ false → eqb (p / 16) 2 ≡ true
dma_left p (of_icu _ _ _ z) h a c = absurd (true≢false (sym z ∙ a))
dma_left p (of_timer _ _ _ _ _ o) h a c = absurd (true≢false (sym o ∙ c))
dma_left p (of_dma _ _ _ _ _ _ _ n) h a c = n
dma_left p (of_slave _ _ _ v w _ _ _) h a c =
    absurd (omega (arith, leb-true 48 p v, ltb-true p 50 w, eqb-false p 48 (neither (eqb p 48) (eqb p 49) h).0, eqb-false p 49 (neither (eqb p 48) (eqb p 49) h).1))
  where
    neither : (u v : Bool) → (u or v) ≡ false → (u ≡ false) × (v ≡ false)
    neither true v h = absurd (true≢false h)
    neither false v h = (refl, h)

-- A word that is no IW1 with D1=0, by the record and by the port.
taken_word : (r : List ℕ) → eqb (byte r 0) 1 ≡ true → Port (byte r 1) → eqb (byte r 1 / 16) 0 ≡ true → starts_extended r ≡ false
    → (not (a0 (byte r 1)) and bit_of (byte r 2) 4 and not (bit_of (byte r 2) 1)) ≡ false
taken_word r o i z h = go (a0 (byte r 1)) refl
  where
    first : Port (byte r 1) → eqb (byte r 1 / 16) 0 ≡ true → a0 (byte r 1) ≡ false → eqb (byte r 1) 0 ≡ true
    first (of_icu l _ _ _) z q = eq-eqb (byte r 1) 0 (omega (arith, ltb-true (byte r 1) 2 l, eqb-false (byte r 1 % 2) 1 q))
    first (of_timer _ _ _ _ n _) z q = absurd (true≢false (sym z ∙ n))
    first (of_dma _ _ _ _ _ n _ _) z q = absurd (true≢false (sym z ∙ n))
    first (of_slave _ _ _ _ _ n _ _) z q = absurd (true≢false (sym z ∙ n))

    go : (q : Bool) → a0 (byte r 1) ≡ q → (not q and bit_of (byte r 2) 4 and not (bit_of (byte r 2) 1)) ≡ false
    go true q = refl
    go false q = rw (o, first i z q) at h

-- At reset a slave's INT is low, so line 7 is INTP7.
silent : (x : ℕ) → joined_of x IcuWords.reset_of 0 ≡ x
unfolding joined_of int_of IcuWords.reset_of
silent x = refl

module _ (b : Board) (l : Lone b) where
  master : Plain b.icu
  master = plain l.single l.no_iw3

  joined_is : (x : ℕ) → joined_of x b.slave b.slaveintp ≡ x
  joined_is x = ap₂ (joined_of x) l.slave l.lines ∙ silent x

  levels_are : levels_of b ≡ levels_at b.icu b.intp b.timer
  unfolding levels_of
  levels_are = rw (joined_is b.intp) refl

  -- Neither chip is extended, so an acknowledge waits for the master alone.
  master_single : extended b.icu ≡ false
  master_single = go (ready b.icu) refl
    where
      go : (q : Bool) → ready b.icu ≡ q → (q and not (sngl b.icu)) ≡ false
      go true q = ap not (started b.icu master (rw (eqb-true b.icu.stage 3 q) refl))
      go false q = refl

  slave_single : extended b.slave ≡ false
  unfolding IcuWords.reset_of
  slave_single = rw l.slave refl

  waits : answered b.icu b.slave ≡ false → ready b.icu ≡ false
  unfolding unanswered
  waits h =
      not-true (ready b.icu)
      (sym (or_false (not (ready b.icu))) ∙ (rw (master_single, slave_single) at (same_unanswered b)) ∙ ap not h)

  -- A board on which no more than the master, INTP, timer and DMA chip have changed.
  stays_lone : (d : Board) → d.slave ≡ b.slave → d.slaveintp ≡ b.slaveintp → Plain d.icu → Lone d
  stays_lone d s x p = record { slave = s ∙ l.slave; lines = x ∙ l.lines; single = p.single; no_iw3 = p.no_iw3 }

  refuses : (n : ℕ) → Same (refused n b) (did_not n (alone b))
  refuses n = same refl refl refl refl l

  -- What the master tells by its lines.
  tells : (f : ℕ → Told) → ((x : ℕ) → Plain (f x).icu) → Same (icu_told b (f (lines b))) (chip_did (alone b) (f (lines_one (alone b))))
  tells f p =
      rw (joined_is b.intp)
      (same refl refl refl refl (stays_lone _ refl refl (p (lines_one (alone b)))))

  follows : (x : ℕ) (t : Timer) → Same (done (followed b (intp_is x (timer_is t b)))) (did (rewired_one x t (alone b)) 0)
  follows x t =
      same refl (rw (joined_is b.intp, joined_is x) refl) refl refl (stays_lone _ refl refl (lines_plain b.icu master _ _))

  timer_writes : (p x : ℕ) → Same (timer_written b p x) (timer_wrote (alone b) p x)
  unfolding timer_written timer_wrote
  timer_writes p x =
      pairwise Same (eqb (writes_of b.timer p x).status 0) (λ _. follows b.intp (writes_of b.timer p x).timer) (λ _. refuses _)

  timer_reads : (p : ℕ) → Same (timer_shown b p) (timer_read (alone b) p)
  unfolding timer_shown timer_read
  timer_reads p =
      pairwise Same (eqb (reads_of b.timer p).status 0)
      (λ _. same refl refl refl refl (stays_lone _ refl refl master))
      (λ _. refuses _)

  dma_writes : (p x : ℕ) → Same (dma_written b p x) (dma_wrote (alone b) p x)
  unfolding dma_written dma_wrote
  dma_writes p x =
      pairwise Same (eqb (DmaRegisters.write_of b.dma p x).status 0)
      (λ _. same refl refl refl refl (stays_lone _ refl refl master))
      (λ _. refuses _)

  dma_reads : (p : ℕ) → Same (dma_shown b p) (dma_read (alone b) p)
  unfolding dma_shown dma_read
  dma_reads p =
      pairwise Same (eqb (DmaRegisters.read_of b.dma p).status 0)
      (λ _. same refl refl refl refl (stays_lone _ refl refl master))
      (λ _. refuses _)

  acknowledges : Same (acknowledge_of b) (chip_did (alone b) (IcuService.acknowledge_of b.icu (lines_one (alone b))))
  unfolding acknowledge_of IcuService.acknowledge_of
  acknowledges =
      either As (passed_on b.icu (lines b) b.slave)
      (λ h. absurd (true≢false (sym (both_answer b (passed_by b.icu (lines b) b.slave h).0).1 ∙ slave_single)))
      (λ _. either As (answered b.icu b.slave)
      (λ _. tells (IcuService.acknowledge_of b.icu) (acknowledge_plain b.icu master))
      (λ h. rw (waits h) (refuses 3)))
    where
      As : Outcome → Type 0
      As o = Same o (chip_did (alone b) (IcuService.acknowledge_of b.icu (lines_one (alone b))))

  module _ (m : List ℕ) where
    -- What is asked for comes to the same; a record that needs the bus while a channel is served is refused by both.
    abbrev Good : Option Operation → Type 0
    Good d = Same (outcome_of b d m) (outcome_one (alone b) d m)

    held : (o : Operation) → Same (execute_of b o m) (execute_one (alone b) o m) → Good (Some o)
    unfolding outcome_of outcome_one blocked
    held o s = pairwise Same (b.dma.serving and uses_bus o) (λ _. refuses 1) (λ _. s)

    unknown : Good None
    unfolding outcome_of outcome_one
    unknown = refuses 2

    asks : (q : Bool) (o : Operation) → (q ≡ true → Same (execute_of b o m) (execute_one (alone b) o m)) → Good (asked_if q o)
    asks true o f = held o (f refl)
    asks false o f = unknown

    -- Only a bus cycle touches the memory, and it does not wait for the bus.
    either_way : (q : Bool) → (if q then m else m) ≡ m
    either_way true = refl
    either_way false = refl

    memory_same : (x : Option Operation) → memory_of b x m ≡ memory_one (alone b) x m
    unfolding memory_of memory_one memory_after blocked cycle_memory
    memory_same None = refl
    memory_same (Some Reset) = either_way (blocked b Reset)
    memory_same (Some (Write p x)) = either_way (blocked b (Write p x))
    memory_same (Some (Read p)) = either_way (blocked b (Read p))
    memory_same (Some (Intp x)) = either_way (blocked b (Intp x))
    memory_same (Some (Gates x)) = either_way (blocked b (Gates x))
    memory_same (Some (Requests x)) = either_way (blocked b (Requests x))
    memory_same (Some (SlaveIntp x)) = either_way (blocked b (SlaveIntp x))
    memory_same (Some Acknowledge) = either_way (blocked b Acknowledge)
    memory_same (Some (Advance n)) = either_way (blocked b (Advance n))
    memory_same (Some (Cycle e x y)) = rw (and_false b.dma.serving) refl

    -- One record.
    module _ (r : List ℕ) (names : names_slave r ≡ false) (starts : starts_extended r ≡ false) where
      abbrev p : ℕ
      p = byte r 1

      abbrev x : ℕ
      x = byte r 2

      -- the slave's ports are not written and not read, and its lines do not change
      other_port : (eqb (byte r 0) 1 or eqb (byte r 0) 2) ≡ true → (eqb p 48 or eqb p 49) ≡ false
      other_port o = past_first (eqb (byte r 0) 1 or eqb (byte r 0) 2) (eqb p 48 or eqb p 49) (eqb (byte r 0) 3 and eqb p 3) o names

      other_group : eqb (byte r 0) 3 ≡ true → eqb p 3 ≡ false
      other_group o = past_second ((eqb (byte r 0) 1 or eqb (byte r 0) 2) and (eqb p 48 or eqb p 49)) (eqb (byte r 0) 3) (eqb p 3) o names

      writes : eqb (byte r 0) 1 ≡ true → writable p ≡ true → Same (execute_of b (Write p x) m) (execute_one (alone b) (Write p x) m)
      unfolding execute_of execute_one write_of
      writes o w =
          let i = writable_port p w in
          pairwise Same (eqb (p / 16) 0)
          (λ z. let k = taken_word r o i z starts in
          rw (← write_agrees b.icu master master_iw3 (a0 p) x k)
          (tells (λ _. IcuWords.write_of b.icu master_iw3 (a0 p) x) (λ _. write_plain b.icu master master_iw3 (a0 p) x k)))
          (λ z. pairwise Same (eqb (p / 16) 1) (λ _. timer_writes p x)
          (λ n. either (λ (y : Outcome). Same y (dma_wrote (alone b) p x)) (eqb (p / 16) 2) (λ _. dma_writes p x)
          (λ d. absurd (true≢false (sym (dma_left p i (other_port (or_first (eqb (byte r 0) 1) (eqb (byte r 0) 2) o)) z n) ∙ d)))))

      reads : eqb (byte r 0) 2 ≡ true → readable p ≡ true → Same (execute_of b (Read p) m) (execute_one (alone b) (Read p) m)
      unfolding execute_of execute_one read_of
      reads o w =
          pairwise Same (eqb (p / 16) 0) (λ _. tells (IcuService.read_of b.icu (a0 p)) (read_plain b.icu master (a0 p)))
          (λ z. pairwise Same (eqb (p / 16) 1) (λ _. timer_reads p)
          (λ n. either (λ (y : Outcome). Same y (dma_read (alone b) p)) (eqb (p / 16) 2) (λ _. dma_reads p)
          (λ d. absurd (true≢false (sym (dma_left p (readable_port p w) (other_port (or_second (eqb (byte r 0) 1) (eqb (byte r 0) 2) o)) z n) ∙ d)))))

      advances : (n : ℕ) → Same (execute_of b (Advance n) m) (execute_one (alone b) (Advance n) m)
      unfolding execute_of execute_one advance_of
      advances n =
          rw (joined_is b.intp)
          (same refl refl refl refl (stays_lone _ refl refl (advanced_plain b.icu master b.intp b.timer n)))

      lines_good : eqb (byte r 0) 3 ≡ true → Good (lines_asked p x)
      unfolding lines_asked execute_of execute_one
      lines_good o =
          either Good (eqb p 0) (λ _. asks (eqb (x % 2) 0) (Intp x) (λ _. follows x b.timer))
          (λ _. either Good (eqb p 1) (λ _. asks (ltb x 8) (Gates x) (λ _. follows b.intp (gates_of b.timer x)))
          (λ _. either Good (eqb p 2)
          (λ _. asks (ltb x 16) (Requests x)
          (λ _. same refl refl refl refl (stays_lone _ refl refl master)))
          (λ _. either Good (eqb p 3)
          (λ g. absurd (true≢false (sym g ∙ other_group o)))
          (λ _. unknown))))

      step : Good (decode_of r)
      unfolding decode_of execute_of execute_one fresh_one cycle_of
      step =
          either Good (eqb (byte r 0) 0)
          (λ _. asks (unused r 1 7) Reset
          (λ _. same refl refl refl refl (at_reset _ refl refl refl)))
          (λ _. either Good (eqb (byte r 0) 1)
          (λ o. asks (unused r 3 5 and writable p) (Write p x) (λ h. writes o (both_right (unused r 3 5) (writable p) h)))
          (λ _. either Good (eqb (byte r 0) 2)
          (λ o. asks (unused r 2 6 and readable p) (Read p) (λ h. reads o (both_right (unused r 2 6) (readable p) h)))
          (λ _. either Good (eqb (byte r 0) 3)
          (λ o. either Good (unused r 3 5) (λ _. lines_good o) (λ _. unknown))
          (λ _. either Good (eqb (byte r 0) 4) (λ _. asks (unused r 1 7) Acknowledge (λ _. acknowledges))
          (λ _. either Good (eqb (byte r 0) 5)
          (λ _. asks (unused r 1 3 and leb (pulse_count r) 65535) (Advance (pulse_count r)) (λ _. advances (pulse_count r)))
          (λ _. either Good (eqb (byte r 0) 6)
          (λ _. asks (unused r 4 4 and leb p 1) (Cycle (eqb p 1) x (byte r 3))
          (λ _. same refl refl refl refl (stays_lone _ refl refl master)))
          (λ _. unknown)))))))

-- The answer, where the outcomes are the same.
answer_same : (op : ℕ) (o : Outcome) (d : Did) → Same o d → (answered_of op o).answer ≡ answer_one op d
unfolding answered_of
answer_same op o d s = rw (s.status, s.byte, s.payload, ← s.chips, levels_are o.board s.lone) refl

-- Two runs that stand alike, and one record more.
record Alike (u : Run) (v : RunOne) : Type 0 where
  answers : u.answers ≡ v.answers
  memory : u.memory ≡ v.memory
  chips : alone u.board ≡ v.one
  lone : Lone u.board

goes_on_law : (u : Run) (v : RunOne) (r : List ℕ) → Alike u v → without_slave r ≡ true → Alike (next u r) (next_one v r)
unfolding step_of step_memory answered_of
goes_on_law u v r k h =
    let names = not-true (names_slave r) (both_left (not (names_slave r)) (not (starts_extended r)) h) in
    let starts = not-true (starts_extended r) (both_right (not (names_slave r)) (not (starts_extended r)) h) in
    let s = step u.board k.lone u.memory r names starts in
    record {
      answers = rw (← k.chips, ← k.memory, ← k.answers, names, answer_same (byte r 0) _ _ s) refl;
      memory = rw (← k.chips, ← k.memory, names) (memory_same u.board k.lone u.memory (decode_of r));
      chips = rw (← k.chips, ← k.memory, names) s.chips;
      lone = s.lone;
    }

runs_alike : (b : Board) → Lone b → (m s : List ℕ) (n : ℕ) → ((i : ℕ) → i < n → without_slave (record_at s i) ≡ true)
    → Alike (after b m s n) (after_one (alone b) m s n)
unfolding after after_one
runs_alike b l m s zero h = record { answers = refl; memory = refl; chips = refl; lone = l }
runs_alike b l m s (suc n) h =
    goes_on_law (after b m s n) (after_one (alone b) m s n) (record_at s n) (runs_alike b l m s n (λ i q. h i (omega arith))) (h n (omega arith))

-- The two statements.
pub one_chip : (b : Board) → Lone b → (m s : List ℕ) (n : ℕ)
    → ((i : ℕ) → i < n → without_slave (record_at s i) ≡ true)
    → ((after b m s n).answers ≡ (after_one (alone b) m s n).answers)
    × ((after b m s n).memory ≡ (after_one (alone b) m s n).memory)
    × (alone (after b m s n).board ≡ (after_one (alone b) m s n).one)
    × Lone (after b m s n).board
one_chip b l m s n h = let k = runs_alike b l m s n h in (k.answers, k.memory, k.chips, k.lone)

pub one_chip_fresh : Lone fresh_of × (alone fresh_of ≡ fresh_one)
unfolding fresh_of fresh_one
one_chip_fresh = (at_reset fresh_of refl refl refl, refl)
