-- Each record's status is the one that the table gives.
use Rattle.std.specs.Prelude.{Option, Some, None}
use mathlib.Core.Path.{◌≡◌, refl, sym, ap, ◌∙◌}
use mathlib.Core.List.{List}
use mathlib.Core.Bool.{Bool, true, false, not, true≢false, false≢true}
use Prim.Native.Nat.{ℕ, ◌+◌, ◌*◌, ◌/◌, ◌%◌, ◌≤◌, ◌<◌}
use native.Mathlib.Omega.{arith}
use lib.Dec.{eqb, ltb, leb}
use lib.ListN.{get_or}
use borrow.Author.Tests.{eqb-true, eqb-false, ltb-true, leb-true, leb-false, lt-ltb, le-ltb, le-leb, lt-leb, eq-eqb, ne_eqb}
use Rattle.bits.specs.Choice.{◌and◌, ◌or◌}
use Rattle.std.specs.Prelude.{if◌then◌else◌}
use Rattle.bits.specs.Bits.{bit_of, masked_of}
use Rattle.tape.specs.declared.Operation.{Operation}
use Rattle.tape.specs.declared.Operation.TheVariants.{Reset, Write, Read, Intp, Gates, Requests, SlaveIntp, Acknowledge, Advance, Cycle}
use Rattle.tape.specs.Records.{byte, unused, icu_port, timer_port, dma_port, slave_port, writable, readable, lines_asked, pulse_count, decode_of}
use Rattle.tape.specs.Answers.{answer_of}
use Rattle.icu.specs.declared.Icu.{Icu}
use Rattle.icu.specs.Fields as IcuFields
use Rattle.icu.specs.Answers as IcuAnswers
use Rattle.icu.specs.Words as IcuWords
use Rattle.icu.specs.Service as IcuService
use Rattle.icu.specs.Requests.{irr_of, int_of}
use Rattle.cascade.specs.declared.SetUp.{SetUp}
use Rattle.cascade.specs.declared.SetUp.TheVariants.{Unready, Single, Extended}
use Rattle.cascade.specs.Cascade.{master_iw3, slave_iw3, answerer_by, answerer_of, somebody, answered, passed_on}
use Rattle.timer.specs.declared.Counter.{Counter}
use Rattle.timer.specs.declared.Timer.{Timer}
use Rattle.timer.specs.Fields.{latched_is, latch_is, second_is}
use Rattle.timer.specs.Ports as Ports
use Rattle.timer.specs.Modes.{moded}
use Rattle.timer.specs.Ports.{SC, RWM, CM, BCD, mode_in, held}
use Rattle.timer.specs.Timer.{at, writes_of, reads_of, controls_of, wrote_by, got_by}
use Rattle.dma.specs.declared.Dma.{Dma}
use Rattle.dma.specs.Answers.{Written as DmaWritten}
use Rattle.dma.specs.Answers.{Got as DmaGot}
use Rattle.dma.specs.Registers as DmaRegisters
use Rattle.dma.specs.Registers.{any_words, refuses_mode}
use Rattle.board.specs.declared.Board.{Board}
use Rattle.board.specs.Operations.{Outcome, a0, icu_told, icu_written, icu_shown, done, telling, refused, timer_written, timer_shown, dma_written, dma_shown, slave_written, slave_shown, slave_gives, acknowledge_of, write_of, read_of, cycle_of}
use Rattle.board.specs.Wiring.{lines}
use Rattle.board.specs.Advance.{advance_of}
use Rattle.board.specs.Step.{execute_of, blocked, outcome_of, answered_of, step_of}
use Rattle.tape.proofs.Decodes.{either, Decodes, malformed, reset, write, read, intp, gates, requests, slave_intp, acknowledge, advance, cycle, decodes}
use Rattle.promises.specs.Table as Table
use Rattle.promises.proofs.Logic.{both_left, and_true}
use Rattle.promises.proofs.SetUps.{in_turn, both_answer, passed_by}
use Rattle.promises.proofs.Ruled as Ruled
use Rattle.promises.proofs.Ruled.{formed, levels_fit, out_of_turn, not_built, counts_one, due, early_word, unbuilt_word, modeless, early_count, unbuilt_control, unbuilt_register, too_small, completes_one}

-- The four groups of ports.
pub data Port (p : ℕ) : Type 0 where
  of_icu : ltb p 2 ≡ true → leb 16 p ≡ false → leb 32 p ≡ false → eqb (p / 16) 0 ≡ true → Port p
  of_timer : ltb p 2 ≡ false → leb 16 p ≡ true → ltb p 20 ≡ true → leb 32 p ≡ false → eqb (p / 16) 0 ≡ false → eqb (p / 16) 1 ≡ true → Port p
  of_dma : ltb p 2 ≡ false → leb 16 p ≡ true → ltb p 20 ≡ false → leb 32 p ≡ true → ltb p 48 ≡ true → eqb (p / 16) 0 ≡ false → eqb (p / 16) 1 ≡ false → eqb (p / 16) 2 ≡ true → Port p
  of_slave : ltb p 2 ≡ false → timer_port p ≡ false → dma_port p ≡ false → leb 48 p ≡ true → ltb p 50 ≡ true → eqb (p / 16) 0 ≡ false → eqb (p / 16) 1 ≡ false → eqb (p / 16) 2 ≡ false → Port p

port_icu : (p : ℕ) → p < 2 → Port p
port_icu p h = of_icu (lt-ltb p 2 h) (lt-leb 16 p (omega arith)) (lt-leb 32 p (omega arith)) (eq-eqb (p / 16) 0 (omega arith))

port_timer : (p : ℕ) → 16 ≤ p → p < 20 → Port p
port_timer p h l =
    of_timer (le-ltb p 2 (omega arith)) (le-leb 16 p h) (lt-ltb p 20 l) (lt-leb 32 p (omega arith)) (ne_eqb (p / 16) 0 (omega arith)) (eq-eqb (p / 16) 1 (omega arith))

port_dma : (p : ℕ) → 32 ≤ p → p < 48 → Port p
port_dma p h l =
    of_dma (le-ltb p 2 (omega arith)) (le-leb 16 p (omega arith)) (le-ltb p 20 (omega arith)) (le-leb 32 p h) (lt-ltb p 48 l)
    (ne_eqb (p / 16) 0 (omega arith))
    (ne_eqb (p / 16) 1 (omega arith))
    (eq-eqb (p / 16) 2 (omega arith))

port_slave : (p : ℕ) → 48 ≤ p → p < 50 → Port p
port_slave p h l =
    of_slave (le-ltb p 2 (omega arith)) (rw (le-leb 16 p (omega arith)) (le-ltb p 20 (omega arith)))
    (rw (le-leb 32 p (omega arith)) (le-ltb p 48 h))
    (le-leb 48 p h)
    (lt-ltb p 50 l)
    (ne_eqb (p / 16) 0 (omega arith))
    (ne_eqb (p / 16) 1 (omega arith))
    (ne_eqb (p / 16) 2 (omega arith))

-- An open port is of one group, and not one of those that are shut.
open_to : (p : ℕ) (v w : Bool)
    → (ltb p 2 or ((leb 16 p and ltb p 20) and v) or ((leb 32 p and ltb p 48) and w) or (leb 48 p and ltb p 50)) ≡ true
    → Port p
open_to p v w h = go (ltb p 2) (leb 16 p) (ltb p 20) v refl refl refl h
  where
    slave : (d e : Bool) → leb 48 p ≡ d → ltb p 50 ≡ e → (d and e) ≡ true → Port p
    slave true true x y h = port_slave p (leb-true 48 p x) (ltb-true p 50 y)
    slave true false x y h = absurd (false≢true h)
    slave false e x y h = absurd (false≢true h)

    dma : (d e w : Bool) → leb 32 p ≡ d → ltb p 48 ≡ e → (((d and e) and w) or (leb 48 p and ltb p 50)) ≡ true → Port p
    dma true true true x y h = port_dma p (leb-true 32 p x) (ltb-true p 48 y)
    dma true true false x y h = slave (leb 48 p) (ltb p 50) refl refl h
    dma true false w x y h = slave (leb 48 p) (ltb p 50) refl refl h
    dma false e w x y h = slave (leb 48 p) (ltb p 50) refl refl h

    go : (a b c v : Bool) → ltb p 2 ≡ a → leb 16 p ≡ b → ltb p 20 ≡ c
        → (a or ((b and c) and v) or ((leb 32 p and ltb p 48) and w) or (leb 48 p and ltb p 50)) ≡ true
        → Port p
    go true b c v x y z h = port_icu p (ltb-true p 2 x)
    go false true true true x y z h = port_timer p (leb-true 16 p y) (ltb-true p 20 z)
    go false true true false x y z h = dma (leb 32 p) (ltb p 48) w refl refl h
    go false true false v x y z h = dma (leb 32 p) (ltb p 48) w refl refl h
    go false false c v x y z h = dma (leb 32 p) (ltb p 48) w refl refl h

pub writable_port : (p : ℕ) → writable p ≡ true → Port p
unfolding writable
writable_port p h = open_to p true (not (eqb p 39) and not (eqb p 43)) (rw (and_true (leb 16 p and ltb p 20)) h)

pub readable_port : (p : ℕ) → readable p ≡ true → Port p
unfolding readable
readable_port p h = open_to p (not (eqb p 19)) (not (eqb p 32) and not (eqb p 39)) h

-- An interrupt chip, with the IW3 that fits it.
icu_write : (c : Icu) (w : ℕ) (k : Bool) (x : ℕ)
    → (IcuWords.write_of c w k x).status ≡ (if early_word c k x then 3 else if unbuilt_word c w k x then 4 else 0)
unfolding IcuWords.write_of IcuWords.later_word IcuWords.mcw
icu_write c w true x =
    either W (eqb c.stage 3) (λ q. rw (eqb-true c.stage 3 q) refl)
    (λ a. either W (eqb c.stage 1) (λ q. rw (eqb-true c.stage 1 q) refl)
    (λ b. either W (eqb c.stage 4) (λ q. rw (eqb-true c.stage 4 q) (fits (eqb x w) _ _))
    (λ d. either W (eqb c.stage 2) (λ q. rw (eqb-true c.stage 2 q) refl) (λ e. rw (a, b, d, e) refl))))
  where
    W : IcuAnswers.Told → Type 0
    W t = t.status ≡ (if early_word c true x then 3 else if unbuilt_word c w true x then 4 else 0)

    fits : (q : Bool) (d e : Icu) → (if q then IcuAnswers.done d else IcuAnswers.refused 4 e).status ≡ (if not q then 4 else 0)
    fits true d e = refl
    fits false d e = refl
icu_write c w false x = go (bit_of x 4) (eqb c.stage 3) (bit_of x 3) (bit_of x 2) (IcuWords.sets_exceptional x) (bit_of x 1)
  where
    go : (d4 u d3 d2 v d1 : Bool)
        → (if d4 then IcuAnswers.done (IcuWords.iw1 c x)
        else if u then
        (if d3 then
        (if d2 then IcuAnswers.refused 4 c
        else if v then IcuAnswers.refused 4 c
        else if d1 then IcuAnswers.done (IcuFields.showsisr_is (bit_of x 0) c)
        else IcuAnswers.done c)
        else IcuAnswers.done (IcuWords.pfcw c x))
        else IcuAnswers.refused 3 c).status
        ≡ (if not d4 and not u then 3 else if not d4 and d3 and (d2 or v) then 4 else 0)
    go true u d3 d2 v d1 = refl
    go false true true true v d1 = refl
    go false true true false true d1 = refl
    go false true true false false true = refl
    go false true true false false false = refl
    go false true false d2 v d1 = refl
    go false false d3 d2 v d1 = refl

icu_read : (c : Icu) (k : Bool) (l : ℕ) → (IcuService.read_of c k l).status ≡ (if not (IcuWords.ready c) then 3 else 0)
unfolding IcuService.read_of
icu_read c k l = go (eqb c.stage 3) k c.showsisr
  where
    go : (u k v : Bool)
        → (if u then
        (if k then IcuAnswers.telling c c.imr else if v then IcuAnswers.telling c c.isr else IcuAnswers.telling c (irr_of c l))
        else IcuAnswers.refused 3 c).status
        ≡ (if not u then 3 else 0)
    go true true v = refl
    go true false true = refl
    go true false false = refl
    go false k v = refl

icu_acknowledge : (c : Icu) (l : ℕ) → (IcuService.acknowledge_of c l).status ≡ (if not (IcuWords.ready c) then 3 else 0)
unfolding IcuService.acknowledge_of
icu_acknowledge c l = go (eqb c.stage 3) (int_of c l) c.vector
  where
    n : ℕ
    n = IcuService.takes c l

    named : Bool → ℕ → Icu → IcuAnswers.Told
    named v k d = if v then IcuAnswers.telling d (IcuService.vector_of c k) else IcuAnswers.calling d (IcuService.call_low_of c k) c.iw2

    go : (u i v : Bool)
        → (if u then (if i then named v n (IcuService.served_of c n) else named v 7 c) else IcuAnswers.refused 3 c).status
        ≡ (if not u then 3 else 0)
    go true true true = refl
    go true true false = refl
    go true false true = refl
    go true false false = refl
    go false i v = refl

-- An acknowledge is out of turn exactly where the set-ups of the two chips answer none.
pub same_unanswered : (b : Board) → Table.unanswered b ≡ not (answered b.icu b.slave)
unfolding Table.unanswered answered answerer_of
same_unanswered b =
    go (IcuWords.ready b.icu) (IcuWords.sngl b.icu) (IcuWords.ready b.slave) (IcuWords.sngl b.slave) b.icu.vector b.slave.vector
  where
    by : Bool → Bool → SetUp
    by u v = if u then (if v then Single else Extended) else Unready

    go : (u v p q c s : Bool)
        → (not u or Table.differ (u and not v) (p and not q) or ((u and not v) and Table.differ c s))
        ≡ not (somebody (answerer_by (by u v) (by p q) (if c then s else not s)))
    go true true true true c s = refl
    go true true true false c s = refl
    go true true false q c s = refl
    go true false true true c s = refl
    go true false true false true true = refl
    go true false true false true false = refl
    go true false true false false true = refl
    go true false true false false false = refl
    go true false false q c s = refl
    go false v p q c s = refl

-- The timer.
control_status : (c : Counter) (x : ℕ)
    → (Ports.control_of c x).status
    ≡ (if eqb (RWM x) 0 and not (moded c) then 3
    else if not (eqb (RWM x) 0) and eqb (BCD x) 1 then 4
    else 0)
unfolding Ports.control_of Ports.latch_word Ports.mode_word
control_status c x = go (eqb (RWM x) 0) (moded c) c.latched (eqb (BCD x) 1)
  where
    go : (u v l w : Bool)
        → (if u then
        (if v then (if l then Ports.done c else Ports.done (latched_is true (latch_is c.value c))) else Ports.refused 3 c)
        else if w then Ports.refused 4 c
        else Ports.done (Ports.mode_set (mode_in (CM x)) (RWM x) c)).status
        ≡ (if u and not v then 3 else if not u and w then 4 else 0)
    go true true true w = refl
    go true true false w = refl
    go true false l w = refl
    go false v l true = refl
    go false v l false = refl

count_status : (c : Counter) (n : ℕ) → (Ports.count_of c n).status ≡ (if too_small c n then 6 else 0)
unfolding Ports.count_of
count_status c n = go (too_small c n)
  where
    go : (u : Bool) → (if u then Ports.refused 6 c else Ports.done (Ports.completed c n)).status ≡ (if u then 6 else 0)
    go true = refl
    go false = refl

write_status : (c : Counter) (x : ℕ) → (Ports.write_of c x).status ≡ (if not (moded c) then 3 else if completes_one c x then 6 else 0)
unfolding Ports.write_of
write_status c x = go (moded c) (eqb c.format 1) (eqb c.format 2) c.half
  where
    go : (v f g h : Bool)
        → (if v then
        (if f then Ports.count_of c x
        else if g then Ports.count_of c (x * 256)
        else if h then Ports.count_of c (c.low + x * 256)
        else Ports.done (Ports.begun c x))
        else Ports.refused 3 c).status
        ≡ (if not v then 3
        else if (if f then too_small c x else if g then too_small c (x * 256) else h and too_small c (c.low + x * 256)) then 6
        else 0)
    go true true g h = count_status c x
    go true false true h = count_status c (x * 256)
    go true false false true = count_status c (c.low + x * 256)
    go true false false false = refl
    go false f g h = refl

pub read_status : (c : Counter) → (Ports.read_of c).status ≡ (if not (moded c) then 3 else 0)
unfolding Ports.read_of
read_status c = go (moded c) (eqb c.format 1) (eqb c.format 2) c.second
  where
    go : (v f g h : Bool)
        → (if v then
        (if f then Ports.read_as (held c % 256) (latched_is false c)
        else if g then Ports.read_as (held c / 256) (latched_is false c)
        else if h then Ports.read_as (held c / 256) (second_is false (latched_is false c))
        else Ports.read_as (held c % 256) (second_is true c))
        else Ports.refused 3 c).status
        ≡ (if not v then 3 else 0)
    go true true g h = refl
    go true false true h = refl
    go true false false true = refl
    go true false false false = refl
    go false f g h = refl

timer_write : (t : Timer) (a x : ℕ)
    → (writes_of t a x).status
    ≡ (if early_count t (a % 4) x then 3
    else if eqb (a % 4) 3 and unbuilt_control x then 4
    else if not (eqb (a % 4) 3) and completes_one (at t (a % 4)) x then 6
    else 0)
unfolding writes_of controls_of wrote_by
timer_write t a x = go (eqb (a % 4) 3) (eqb (SC x) 3)
  where
    go : (u v : Bool)
        → (if u then (if v then record { status = 4; timer = t } else wrote_by t (SC x) (Ports.control_of (at t (SC x)) x)) else wrote_by t (a % 4) (Ports.write_of (at t (a % 4)) x)).status
        ≡ (if (if u then not v and eqb (RWM x) 0 and modeless t (SC x) else modeless t (a % 4)) then 3
        else if u and (v or (not (eqb (RWM x) 0) and eqb (BCD x) 1)) then 4
        else if not u and completes_one (at t (a % 4)) x then 6
        else 0)
    go true true = refl
    go true false = control_status (at t (SC x)) x
    go false v = write_status (at t (a % 4)) x

timer_read : (t : Timer) (a : ℕ) → eqb (a % 4) 3 ≡ false → (reads_of t a).status ≡ (if modeless t (a % 4) then 3 else 0)
unfolding reads_of got_by
timer_read t a h = rw h (read_status (at t (a % 4)))

-- The DMA chip, by its register n.
module _ (d : Dma) (n : ℕ) where
  module _ (x : ℕ) (h : eqb n 7 ≡ false) (k : eqb n 11 ≡ false) where
    abbrev W : DmaWritten → Type 0
    W w = w.status ≡ (if unbuilt_register d n x then 4 else 0)

    as_0 : (u v : Bool) (e f : Dma)
        → (if u then DmaRegisters.taken e else if v then DmaRegisters.refused 4 d else DmaRegisters.taken f).status ≡ (if not u and v then 4 else 0)
    as_0 true v e f = refl
    as_0 false true e f = refl
    as_0 false false e f = refl

    as_8 : (u : Bool) (e : Dma) → (if u then DmaRegisters.taken e else DmaRegisters.refused 4 d).status ≡ (if not u then 4 else 0)
    as_8 true e = refl
    as_8 false e = refl

    as_10 : (u : Bool) (e : Dma) → (if u then DmaRegisters.refused 4 d else DmaRegisters.taken e).status ≡ (if u then 4 else 0)
    as_10 true e = refl
    as_10 false e = refl

    dma_write : (DmaRegisters.write_at d n x).status ≡ (if unbuilt_register d n x then 4 else 0)
    unfolding DmaRegisters.initialized_of DmaRegisters.selected_of DmaRegisters.controlled_of DmaRegisters.moded_of
    dma_write =
        either W (eqb n 0) (λ q. rw (eqb-true n 0 q) (as_0 (bit_of x 0) (not (bit_of x 1) and any_words d) _ _))
        (λ e0. either W (eqb n 1) (λ q. rw (eqb-true n 1 q) refl)
        (λ _. either W (leb n 6)
        (λ q. let l = leb-true n 6 q in
        rw (e0, ne_eqb n 8 (omega arith), ne_eqb n 9 (omega arith), ne_eqb n 10 (omega arith), lt-leb 12 n (omega arith)) refl)
        (λ e6. either W (eqb n 7) (λ q. absurd (true≢false (sym q ∙ h)))
        (λ e7. either W (eqb n 8) (λ q. rw (eqb-true n 8 q) (as_8 (eqb (masked_of x 20) 0) _))
        (λ e8. either W (eqb n 9) (λ q. rw (eqb-true n 9 q) (as_8 (eqb x 0) d))
        (λ e9. either W (eqb n 10) (λ q. rw (eqb-true n 10 q) (as_10 (refuses_mode d x) _))
        (λ e10. either W (eqb n 11) (λ q. absurd (true≢false (sym q ∙ k)))
        (λ e11.
        let l : 12 ≤ n = omega (arith, leb-false n 6 e6, eqb-false n 7 e7, eqb-false n 8 e8, eqb-false n 9 e9, eqb-false n 10 e10, eqb-false n 11 e11) in
        either W (ltb n 15)
        (λ q. rw (e0, e8, e9, e10, le-leb 12 n l, q) refl)
        (λ q. rw (e0, e8, e9, e10, le-leb 12 n l, q) refl)))))))))

  module _ (h : eqb n 0 ≡ false) (k : eqb n 7 ≡ false) where
    abbrev R : DmaGot → Type 0
    R w = w.status ≡ (if leb 12 n and ltb n 15 then 4 else 0)

    dma_read : (DmaRegisters.read_at d n).status ≡ (if leb 12 n and ltb n 15 then 4 else 0)
    dma_read =
        either R (eqb n 0) (λ q. absurd (true≢false (sym q ∙ h)))
        (λ _. either R (eqb n 1) (λ q. rw (eqb-true n 1 q) refl)
        (λ _. either R (leb n 6) (λ q. let l = leb-true n 6 q in rw (lt-leb 12 n (omega arith)) refl)
        (λ e6. either R (eqb n 7) (λ q. absurd (true≢false (sym q ∙ k)))
        (λ e7. either R (eqb n 8) (λ q. rw (eqb-true n 8 q) refl)
        (λ e8. either R (eqb n 9) (λ q. rw (eqb-true n 9 q) refl)
        (λ e9. either R (eqb n 10) (λ q. rw (eqb-true n 10 q) refl)
        (λ e10. either R (eqb n 11) (λ q. rw (eqb-true n 11 q) refl)
        (λ e11.
        let l : 12 ≤ n = omega (arith, leb-false n 6 e6, eqb-false n 7 e7, eqb-false n 8 e8, eqb-false n 9 e9, eqb-false n 10 e10, eqb-false n 11 e11) in
        either R (ltb n 15) (λ q. rw (le-leb 12 n l, q) refl) (λ q. rw (le-leb 12 n l, q) refl)))))))))

dma_writes : (d : Dma) (p x : ℕ) → eqb (p % 16) 7 ≡ false → eqb (p % 16) 11 ≡ false
    → (DmaRegisters.write_of d p x).status ≡ (if unbuilt_register d (p % 16) x then 4 else 0)
unfolding DmaRegisters.write_of
dma_writes d p x h k = dma_write d (p % 16) x h k

dma_reads : (d : Dma) (p : ℕ) → eqb (p % 16) 0 ≡ false → eqb (p % 16) 7 ≡ false
    → (DmaRegisters.read_of d p).status ≡ (if leb 12 (p % 16) and ltb (p % 16) 15 then 4 else 0)
unfolding DmaRegisters.read_of
dma_reads d p h k = dma_read d (p % 16) h k

-- A chip's status becomes the record's.
passed : (s : ℕ) (o : Board) (b : Board) → (if eqb s 0 then done o else refused s b).status ≡ s
passed s o b = go (eqb s 0) refl
  where
    go : (q : Bool) → eqb s 0 ≡ q → (if q then done o else refused s b).status ≡ s
    go true q = sym (eqb-true s 0 q)
    go false q = refl

shown : (s : ℕ) (o : Board) (x : ℕ) (b : Board) → (if eqb s 0 then telling o x else refused s b).status ≡ s
shown s o x b = go (eqb s 0) refl
  where
    go : (q : Bool) → eqb s 0 ≡ q → (if q then telling o x else refused s b).status ≡ s
    go true q = sym (eqb-true s 0 q)
    go false q = refl

-- A port of the DMA chip that is open, by its register.
module _ (p : ℕ) (a : ltb p 2 ≡ false) (c : ltb p 20 ≡ false) (d : leb 32 p ≡ true) (e : ltb p 48 ≡ true) where
  l : 32 ≤ p
  l = leb-true 32 p d

  u : p < 48
  u = ltb-true p 48 e

  f : leb 16 p ≡ true
  f = le-leb 16 p (omega (arith, l))

  g : leb 48 p ≡ false
  g = lt-leb 48 p u

  -- neither of two ports, where no port is left
  neither : (x y : Bool) → ((not x and not y) or false) ≡ true → (x ≡ false) × (y ≡ false)
  neither true y h = absurd (false≢true h)
  neither false true h = absurd (false≢true h)
  neither false false h = (refl, refl)

  write_open : writable p ≡ true → (eqb (p % 16) 7 ≡ false) × (eqb (p % 16) 11 ≡ false)
  unfolding writable
  write_open h =
      let n = neither (eqb p 39) (eqb p 43) (rw (a, f, c, d, e, g) at h) in (
        ne_eqb (p % 16) 7 (omega (arith, l, u, eqb-false p 39 n.0)),
        ne_eqb (p % 16) 11 (omega (arith, l, u, eqb-false p 43 n.1)),
      )

  read_open : readable p ≡ true → (eqb (p % 16) 0 ≡ false) × (eqb (p % 16) 7 ≡ false)
  unfolding readable
  read_open h =
      let n = neither (eqb p 32) (eqb p 39) (rw (a, f, c, d, e, g) at h) in (
        ne_eqb (p % 16) 0 (omega (arith, l, u, eqb-false p 32 n.0)),
        ne_eqb (p % 16) 7 (omega (arith, l, u, eqb-false p 39 n.1)),
      )

-- A port of the timer that is open to reads.
timer_open : (p : ℕ) → ltb p 2 ≡ false → leb 16 p ≡ true → ltb p 20 ≡ true → leb 32 p ≡ false → readable p ≡ true → eqb (p % 4) 3 ≡ false
unfolding readable
timer_open p a b c d h = let e = ltb-true p 20 c in go (eqb p 19) refl (rw (a, b, c, d, lt-leb 48 p (omega arith)) at h)
  where
    go : (q : Bool) → eqb p 19 ≡ q → (not q or false) ≡ true → eqb (p % 4) 3 ≡ false
    go true q h = absurd (false≢true h)
    go false q h = ne_eqb (p % 4) 3 (omega (arith, leb-true 16 p b, ltb-true p 20 c, eqb-false p 19 q))

module _ (b : Board) (p : ℕ) where
  module _ (x : ℕ) where
    abbrev turn_write : Bool
    turn_write =
        if icu_port p then early_word b.icu (a0 p) x
        else if timer_port p then early_count b.timer (p % 4) x
        else slave_port p and early_word b.slave (a0 p) x

    abbrev unbuilt_write : Bool
    unbuilt_write =
        if icu_port p then unbuilt_word b.icu master_iw3 (a0 p) x
        else if timer_port p then eqb (p % 4) 3 and unbuilt_control x
        else if dma_port p then unbuilt_register b.dma (p % 16) x
        else slave_port p and unbuilt_word b.slave slave_iw3 (a0 p) x

    board_write : writable p ≡ true
        → (write_of b p x).status
        ≡ (if turn_write then 3
        else if unbuilt_write then 4
        else if timer_port p and not (eqb (p % 4) 3) and completes_one (at b.timer (p % 4)) x then 6
        else 0)
    unfolding write_of timer_written dma_written slave_written
    board_write h = go (writable_port p h)
      where
        go : Port p
            → (if eqb (p / 16) 0 then icu_told b (icu_written b (a0 p) x)
            else if eqb (p / 16) 1 then timer_written b p x
            else if eqb (p / 16) 2 then dma_written b p x
            else slave_written b (a0 p) x).status
            ≡ (if turn_write then 3
            else if unbuilt_write then 4
            else if timer_port p and not (eqb (p % 4) 3) and completes_one (at b.timer (p % 4)) x then 6
            else 0)
        go (of_icu i t _ z) = rw (z, i, t) (icu_write b.icu master_iw3 (a0 p) x)
        go (of_timer i t k _ z o) = rw (z, o, i, t, k) (passed (writes_of b.timer p x).status _ b ∙ timer_write b.timer p x)
        go (of_dma i t k q e z o n) =
            let w = write_open p i k q e h in
            let v = ltb-true p 48 e in
            rw (z, o, n, i, t, k, q, e, lt-leb 48 p v)
            (passed (DmaRegisters.write_of b.dma p x).status _ b ∙ dma_writes b.dma p x w.0 w.1)
        go (of_slave i t d v w z o n) =
            rw (z, o, n, i, t, d, v, w)
            (passed (IcuWords.write_of b.slave slave_iw3 (a0 p) x).status _ b ∙ icu_write b.slave slave_iw3 (a0 p) x)

  abbrev turn_read : Bool
  turn_read =
      if icu_port p then not (IcuWords.ready b.icu)
      else if timer_port p then not (eqb (p % 4) 3) and modeless b.timer (p % 4)
      else slave_port p and not (IcuWords.ready b.slave)

  board_read : readable p ≡ true
      → (read_of b p).status ≡ (if turn_read then 3 else if dma_port p and leb 12 (p % 16) and ltb (p % 16) 15 then 4 else 0)
  unfolding read_of timer_shown dma_shown slave_shown
  board_read h = go (readable_port p h)
    where
      go : Port p
          → (if eqb (p / 16) 0 then icu_told b (icu_shown b (a0 p))
          else if eqb (p / 16) 1 then timer_shown b p
          else if eqb (p / 16) 2 then dma_shown b p
          else slave_shown b (a0 p)).status
          ≡ (if turn_read then 3 else if dma_port p and leb 12 (p % 16) and ltb (p % 16) 15 then 4 else 0)
      go (of_icu i t k z) = rw (z, i, k) (icu_read b.icu (a0 p) (lines b))
      go (of_timer i t k n z o) =
          rw (z, o, i, t, k, n, timer_open p i t k n h)
          (shown (reads_of b.timer p).status _ _ b ∙ timer_read b.timer p (timer_open p i t k n h))
      go (of_dma i t k q e z o n) =
          let w = read_open p i k q e h in
          let v = ltb-true p 48 e in
          rw (z, o, n, i, t, k, q, e, lt-leb 48 p v)
          (shown (DmaRegisters.read_of b.dma p).status _ _ b ∙ dma_reads b.dma p w.0 w.1)
      go (of_slave i t d v w z o n) = rw (z, o, n, i, t, d, v, w) (icu_read b.slave (a0 p) b.slaveintp)

module _ (b : Board) where
  -- An acknowledge that is passed on is done: the slave is ready.
  pub gives_status : passed_on b.icu (lines b) b.slave ≡ true → (slave_gives b).status ≡ 0
  unfolding slave_gives
  gives_status h =
      let k = both_answer b (passed_by b.icu (lines b) b.slave h).0 in
      icu_acknowledge b.slave b.slaveintp ∙ rw (both_left (IcuWords.ready b.slave) (not (IcuWords.sngl b.slave)) k.1) refl

  -- Any acknowledge, by the set-ups of the two chips: one that is answered is done, whoever gives the bytes.
  abbrev Answers : Outcome → Type 0
  Answers o = o.status ≡ (if not (answered b.icu b.slave) then 3 else 0)

  board_acknowledge : Answers (acknowledge_of b)
  unfolding acknowledge_of
  board_acknowledge =
      either Answers (passed_on b.icu (lines b) b.slave)
      (λ h. rw (in_turn b (both_answer b (passed_by b.icu (lines b) b.slave h).0).2).1 (gives_status h))
      (λ _. either Answers (answered b.icu b.slave)
      (λ h. rw h (icu_acknowledge b.icu (lines b) ∙ rw (in_turn b (same_unanswered b ∙ ap not h)).0 refl))
      (λ h. rw h refl))

-- Whether a record is well formed is told by its bytes alone.
abbrev pub asked : Option Operation → Bool
asked None = false
asked (Some o) = true

asked_if : (q : Bool) (o : Operation) → asked (if q then Some o else None) ≡ q
asked_if true o = refl
asked_if false o = refl

asked_with : (q : Bool) (d : Option Operation) (w : Bool) → asked d ≡ w → asked (if q then d else None) ≡ (q and w)
asked_with true d w h = h
asked_with false d w h = refl

or_else : (q : Bool) (d e : Option Operation) (v w : Bool) → asked d ≡ v → asked e ≡ w → asked (if q then d else e) ≡ (if q then v else w)
or_else true d e v w h k = h
or_else false d e v w h k = k

lines_formed : (g l : ℕ) → asked (lines_asked g l) ≡ levels_fit g l
unfolding lines_asked levels_fit
lines_formed g l =
    or_else (eqb g 0) _ _ _ _ (asked_if (eqb (l % 2) 0) (Intp l))
    (or_else (eqb g 1) _ _ _ _ (asked_if (ltb l 8) (Gates l))
    (or_else (eqb g 2) _ _ _ _ (asked_if (ltb l 16) (Requests l)) (asked_if (eqb g 3) (SlaveIntp l))))

pub formed_asked : (r : List ℕ) → asked (decode_of r) ≡ formed r
unfolding decode_of formed
formed_asked r =
    or_else (eqb (byte r 0) 0) _ _ _ _ (asked_if (unused r 1 7) Reset)
    (or_else (eqb (byte r 0) 1) _ _ _ _ (asked_if (unused r 3 5 and writable (byte r 1)) (Write (byte r 1) (byte r 2)))
    (or_else (eqb (byte r 0) 2) _ _ _ _ (asked_if (unused r 2 6 and readable (byte r 1)) (Read (byte r 1)))
    (or_else (eqb (byte r 0) 3) _ _ _ _
    (asked_with (unused r 3 5) (lines_asked (byte r 1) (byte r 2)) (levels_fit (byte r 1) (byte r 2)) (lines_formed (byte r 1) (byte r 2)))
    (or_else (eqb (byte r 0) 4) _ _ _ _ (asked_if (unused r 1 7) Acknowledge)
    (or_else (eqb (byte r 0) 5) _ _ _ _ (asked_if (unused r 1 3 and leb (pulse_count r) 65535) (Advance (pulse_count r)))
    (or_else (eqb (byte r 0) 6) _ _ _ _ (asked_if (unused r 4 4 and leb (byte r 1) 1) (Cycle (eqb (byte r 1) 1) (byte r 2) (byte r 3)))
    refl))))))

-- A record that needs the bus while a channel is served is refused with 1.
gated : (b : Board) (q : Bool) (o : Outcome) (k : ℕ) → o.status ≡ k → (if q then refused 1 b else o).status ≡ (if q then 1 else k)
gated b true o k h = refl
gated b false o k h = h

module _ (b : Board) (r m : List ℕ) where
  by : (x : Option Operation) → Decodes r x → asked x ≡ formed r → (outcome_of b x m).status ≡ due b r
  unfolding outcome_of execute_of blocked Ruled.held out_of_turn not_built counts_one advance_of cycle_of
  by x malformed f = rw (← f)
  by x (reset o) f = rw (← f, eqb-true (byte r 0) 0 o) (gated b (blocked b Reset) (execute_of b Reset m) 0 refl)
  by x (write o p) f =
      rw (← f, eqb-true (byte r 0) 1 o)
      (gated b (blocked b (Write (byte r 1) (byte r 2))) (write_of b (byte r 1) (byte r 2)) _ (board_write b (byte r 1) (byte r 2) p))
  by x (read o p) f =
      rw (← f, eqb-true (byte r 0) 2 o) (gated b (blocked b (Read (byte r 1))) (read_of b (byte r 1)) _ (board_read b (byte r 1) p))
  by x (intp o l) f =
      rw (← f, eqb-true (byte r 0) 3 o) (gated b (blocked b (Intp (byte r 2))) (execute_of b (Intp (byte r 2)) m) 0 refl)
  by x (gates o l) f =
      rw (← f, eqb-true (byte r 0) 3 o) (gated b (blocked b (Gates (byte r 2))) (execute_of b (Gates (byte r 2)) m) 0 refl)
  by x (requests o l) f =
      rw (← f, eqb-true (byte r 0) 3 o) (gated b (blocked b (Requests (byte r 2))) (execute_of b (Requests (byte r 2)) m) 0 refl)
  by x (slave_intp o) f =
      rw (← f, eqb-true (byte r 0) 3 o) (gated b (blocked b (SlaveIntp (byte r 2))) (execute_of b (SlaveIntp (byte r 2)) m) 0 refl)
  by x (acknowledge o) f =
      rw (← f, eqb-true (byte r 0) 4 o) (gated b (blocked b Acknowledge) (execute_of b Acknowledge m) _ (board_acknowledge b))
  by x (advance o l) f =
      rw (← f, eqb-true (byte r 0) 5 o) (gated b (blocked b (Advance (pulse_count r))) (execute_of b (Advance (pulse_count r)) m) 0 refl)
  by x (cycle o) f =
      rw (← f, eqb-true (byte r 0) 6 o)
      (gated b (blocked b (Cycle (eqb (byte r 1) 1) (byte r 2) (byte r 3))) (execute_of b (Cycle (eqb (byte r 1) 1) (byte r 2) (byte r 3)) m) 0 refl)

  pub status_ruled : get_or (step_of b r m).answer 0 0 ≡ due b r
  unfolding step_of answered_of answer_of
  status_ruled = by (decode_of r) (decodes r) (formed_asked r)
