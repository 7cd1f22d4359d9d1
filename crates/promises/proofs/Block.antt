-- A served channel, unit by unit; and one that keeps the bus to its end, in block mode or in demand with its request held.
use Rattle.tape.specs.declared.Operation.{Operation}
use Rattle.std.specs.Prelude.{Option, Some}
use mathlib.Core.Path.{◌≡◌, refl, sym, ap, ◌∙◌, subst}
use mathlib.Core.Logic.{◌≢◌}
use mathlib.Core.List.{List, [], ◌∷◌, ◌++◌}
use mathlib.Core.Bool.{Bool, true, false, not, false≢true}
use Prim.Native.Nat.{ℕ, zero, suc, ◌+◌, ◌-◌, ◌/◌, ◌≤◌, ◌<◌}
use native.Mathlib.Omega.{arith}
use lib.Dec.{eqb}
use lib.ListN.{get_or, set, length, length-set}
use lib.Seq.{get_or-set_same}
use borrow.Author.Tests.{eqb-true, eq-eqb, ne_eqb}
use Rattle.bits.specs.Choice.{◌and◌, ◌or◌}
use Rattle.std.specs.Prelude.{if◌then◌else◌}
use Rattle.bits.specs.Bits.{bit_of, less}
use Rattle.tape.specs.declared.Operation.TheVariants.{Cycle}
use Rattle.tape.specs.Records.{byte, decode_of}
use Rattle.tape.specs.Answers.{answer_of}
use Rattle.dma.specs.declared.Channel.{Channel}
use Rattle.dma.specs.declared.Dma.{Dma}
use Rattle.dma.specs.Fields.{none, chan, served}
use Rattle.dma.specs.Cycle.{demand, releases, moved_by, moved_of, unit_by, unit_of}
use Rattle.dma.specs.Cycle as DmaCycle
use Rattle.board.specs.declared.Board.{Board}
use Rattle.board.specs.Operations.{Outcome, refused, cycle_of}
use Rattle.board.specs.Wiring.{levels_of}
use Rattle.board.specs.Step.{execute_of, blocked, outcome_of, answered_of, step_of}
use Rattle.board.specs.Records.{record_at, Run, after}
use Rattle.tape.proofs.Decodes.{Decodes, malformed, reset, write, read, intp, gates, requests, slave_intp, acknowledge, advance, cycle, decodes}
use Rattle.promises.proofs.Logic.{both_left, both_right}
use Rattle.promises.specs.Table.{formed}
use Rattle.promises.specs.TaughtWords.{plain_cycle, goes_on}
use Rattle.promises.proofs.Readings.{same_formed}
use Rattle.promises.proofs.Statuses.{asked, formed_asked}
use Rattle.promises.specs.Words as Words
use Rattle.promises.specs.Words.{answers_in, units_of}
use Rattle.promises.proofs.Steps.{cycle_answer, answer_length}
use Rattle.promises.proofs.Runs.{in_more, answered}

module _ (r : List ℕ) (six : byte r 0 ≡ 6) (low : byte r 1 ≡ 0) where
  other : (n : ℕ) {A : Type 0} → eqb (byte r 0) n ≡ true → n ≢ 6 → A
  other n o h = absurd (h (sym (eqb-true (byte r 0) n o) ∙ six))

  is_cycle : (x : Option Operation) → Decodes r x → asked x ≡ true → x ≡ Some (Cycle false (byte r 2) (byte r 3))
  is_cycle x malformed a = absurd (false≢true a)
  is_cycle x (reset o) a = other 0 o (omega arith)
  is_cycle x (write o p) a = other 1 o (omega arith)
  is_cycle x (read o p) a = other 2 o (omega arith)
  is_cycle x (intp o l) a = other 3 o (omega arith)
  is_cycle x (gates o l) a = other 3 o (omega arith)
  is_cycle x (requests o l) a = other 3 o (omega arith)
  is_cycle x (slave_intp o) a = other 3 o (omega arith)
  is_cycle x (acknowledge o) a = other 4 o (omega arith)
  is_cycle x (advance o l) a = other 5 o (omega arith)
  is_cycle x (cycle o) a = rw low

module _ (b : Board) (r m : List ℕ) (h : plain_cycle r ≡ true) where
  more : (eqb (byte r 0) 6 and eqb (byte r 1) 0) ≡ true
  more = both_right (formed r) (eqb (byte r 0) 6 and eqb (byte r 1) 0) h

  six : byte r 0 ≡ 6
  six = eqb-true (byte r 0) 6 (both_left (eqb (byte r 0) 6) (eqb (byte r 1) 0) more)

  decoded : decode_of r ≡ Some (Cycle false (byte r 2) (byte r 3))
  decoded =
      is_cycle r six (eqb-true (byte r 1) 0 (both_right (eqb (byte r 0) 6) (eqb (byte r 1) 0) more)) (decode_of r) (decodes r)
      (formed_asked r ∙ sym (same_formed r) ∙ both_left (formed r) (eqb (byte r 0) 6 and eqb (byte r 1) 0) h)

  -- Nothing holds up a cycle.
  outcome : outcome_of b (decode_of r) m ≡ execute_of b (Cycle false (byte r 2) (byte r 3)) m
  unfolding outcome_of blocked
  outcome = rw decoded (go b.dma.serving)
    where
      go : (q : Bool) → (if q and false then refused 1 b else execute_of b (Cycle false (byte r 2) (byte r 3)) m) ≡ execute_of b (Cycle false (byte r 2) (byte r 3)) m
      go true = refl
      go false = refl

  pub cycle_dma : (step_of b r m).board.dma ≡ (DmaCycle.cycle_of b.dma false (byte r 2) (byte r 3) m).dma
  unfolding step_of answered_of execute_of cycle_of
  cycle_dma = ap (λ (o : Outcome). o.board.dma) outcome

  pub cycle_answer_law : (step_of b r m).answer ≡ cycle_answer (levels_of (step_of b r m).board) (DmaCycle.cycle_of b.dma false (byte r 2) (byte r 3) m).report
  unfolding step_of answered_of execute_of cycle_of
  cycle_answer_law = rw (outcome, six)

-- Channel k is set to the mode byte q, and has n units to go after the next one.
pub record Left (d : Dma) (k q n : ℕ) : Type 0 where
  pub four : length d.channels ≡ 4
  pub few : k < 4
  pub mode : (chan d k).mode ≡ q
  pub count : (chan d k).current.count ≡ n
  pub small : n < 65536

-- It is served, and does not release: in demand mode its request is high.
pub record Serves (d : Dma) (k q n : ℕ) : Type 0 where
  pub left : Left d k q n
  pub serving : d.serving ≡ true
  pub channel : d.channel ≡ k
  pub keeps : (eqb (q / 64) 0 and not (bit_of d.requests k)) ≡ false

-- One cycle with END 0: a unit, which is the last or not, and service stops with the last and in single mode.
module _ (d : Dma) (k q n x y : ℕ) (m : List ℕ) (g : Serves d k q n) where
  at_k : served d ≡ chan d k
  at_k = ap (λ (i : ℕ). chan d i) g.channel

  keeps_bus : releases d ≡ false
  keeps_bus =
      ap (λ (i : ℕ). demand (chan d i) and not (bit_of d.requests i)) g.channel
      ∙ ap (λ (z : ℕ). eqb (z / 64) 0 and not (bit_of d.requests k)) g.left.mode
      ∙ g.keeps

  pub by_unit : (last : Bool) → eqb n 0 ≡ last → DmaCycle.cycle_of d false x y m ≡ unit_by d last (last or eqb (q / 64) 1) x y m
  unfolding DmaCycle.cycle_of unit_of
  by_unit true h = rw (g.serving, keeps_bus, at_k, g.left.count, g.left.mode, h)
  by_unit false h = rw (g.serving, keeps_bus, at_k, g.left.count, g.left.mode, h)

  -- It reports a unit of channel k.
  pub reports : (l : ℕ) → Words.unit_of k (cycle_answer l (DmaCycle.cycle_of d false x y m).report) ≡ true
  unfolding answer_of
  reports l = go (eqb n 0) refl
    where
      go : (last : Bool) → eqb n 0 ≡ last → Words.unit_of k (cycle_answer l (DmaCycle.cycle_of d false x y m).report) ≡ true
      go last h = rw (by_unit last h) (eq-eqb d.channel k g.channel)

  there : (last : Bool) → get_or (set d.channels d.channel (moved_of (served d) last)) k none ≡ moved_of (chan d k) last
  there last =
      ap (λ (i : ℕ). get_or (set d.channels i (moved_of (chan d i) last)) k none) g.channel
      ∙ get_or-set_same d.channels k (moved_of (chan d k) last) none (rw g.left.four g.left.few)

  -- The last unit masks a channel without autoinitialize.
  pub shut_after : bit_of q 4 ≡ false → (stop : Bool) → (chan (unit_by d true stop x y m).dma k).masked ≡ true
  unfolding moved_of
  shut_after h stop =
      ap (λ (c : Channel). c.masked) (there true)
      ∙ ap (λ (z : ℕ). (moved_by (chan d k) true (bit_of z 4)).masked) g.left.mode
      ∙ ap (λ (u : Bool). (moved_by (chan d k) true u).masked) h

-- Any other leaves one less to go.
pub left_after : (d : Dma) (k q n x y : ℕ) (m : List ℕ) → Serves d k q (suc n) → (stop : Bool) → Left (unit_by d false stop x y m).dma k q n
unfolding moved_of
left_after d k q n x y m g stop =
    let e = there d k q (suc n) x y m g false in
    let one_less : less (chan d k).current.count ≡ n = omega (arith, g.left.count, g.left.small) in
    record {
      four = length-set d.channels d.channel (moved_of (served d) false) ∙ g.left.four;
      few = g.left.few;
      mode = ap (λ (c : Channel). c.mode) e ∙ g.left.mode;
      count = ap (λ (c : Channel). c.current.count) e ∙ one_less;
      small = omega (arith, g.left.small);
    }

-- It is served, and goes on to its end.
pub record Goes (d : Dma) (k q n : ℕ) : Type 0 where
  pub left : Left d k q n
  pub serving : d.serving ≡ true
  pub channel : d.channel ≡ k
  pub on : goes_on q (bit_of d.requests k) ≡ true

module _ (q : ℕ) where
  neither : {A : Type 0} → eqb (q / 64) 2 ≡ true → eqb (q / 64) 0 ≡ true → A
  neither a b = absurd (omega (arith, eqb-true (q / 64) 2 a, eqb-true (q / 64) 0 b))

  not_released : (h : Bool) → goes_on q h ≡ true → (eqb (q / 64) 0 and not h) ≡ false
  not_released h e = go (eqb (q / 64) 2) (eqb (q / 64) 0) h refl refl e
    where
      go : (t z h : Bool) → eqb (q / 64) 2 ≡ t → eqb (q / 64) 0 ≡ z → (t or (z and h)) ≡ true → (z and not h) ≡ false
      go true true h a b e = neither a b
      go true false h a b e = refl
      go false true true a b e = refl
      go false true false a b e = absurd (false≢true e)
      go false false h a b e = refl

  not_single : (h : Bool) → goes_on q h ≡ true → eqb (q / 64) 1 ≡ false
  not_single h e = ne_eqb (q / 64) 1 (go (eqb (q / 64) 2) (eqb (q / 64) 0) refl refl e)
    where
      go : (t z : Bool) → eqb (q / 64) 2 ≡ t → eqb (q / 64) 0 ≡ z → (t or (z and h)) ≡ true → q / 64 ≢ 1
      go true z a b e = omega (arith, eqb-true (q / 64) 2 a)
      go false true a b e = omega (arith, eqb-true (q / 64) 0 b)
      go false false a b e = absurd (false≢true e)

serves : (d : Dma) (k q n : ℕ) → Goes d k q n → Serves d k q n
serves d k q n g =
    record { left = g.left; serving = g.serving; channel = g.channel; keeps = not_released q (bit_of d.requests k) g.on }

pub goes_on_law : (d : Dma) (k q n x y : ℕ) (m : List ℕ) → Goes d k q (suc n) → Goes (DmaCycle.cycle_of d false x y m).dma k q n
goes_on_law d k q n x y m g =
    let s = serves d k q (suc n) g in
    rw (by_unit d k q (suc n) x y m s false (ne_eqb (suc n) 0 (omega arith)), not_single q (bit_of d.requests k) g.on)
    (record { left = left_after d k q n x y m s false; serving = refl; channel = g.channel; on = g.on })

-- One answer more: a unit more if it reports one of channel k.
abbrev pub counted : Bool → ℕ → ℕ
counted u n = if u then suc n else n

pub one_more : (k : ℕ) (got : List (List ℕ)) (a : List ℕ) → length (units_of k (got ++ a ∷ [])) ≡ counted (Words.unit_of k a) (length (units_of k got))
unfolding units_of
one_more k [] a = go (Words.unit_of k a)
  where
    go : (u : Bool) → length (if u then Words.address_in a ∷ [] else []) ≡ counted u 0
    go true = refl
    go false = refl
one_more k (z ∷ got) a = go (Words.unit_of k z) (Words.unit_of k a) (one_more k got a)
  where
    go : (q u : Bool)
        → length (units_of k (got ++ a ∷ [])) ≡ counted u (length (units_of k got))
        → length (if q then Words.address_in z ∷ units_of k (got ++ a ∷ []) else units_of k (got ++ a ∷ []))
        ≡ counted u (length (if q then Words.address_in z ∷ units_of k got else units_of k got))
    go true true ih = ap suc ih
    go true false ih = ap suc ih
    go false u ih = ih

-- One record more of a run.
pub run_more : (b : Board) (m s : List ℕ) (k i : ℕ)
    → length (units_of k (answers_in (after b m s (suc i)).answers (suc i)))
    ≡ counted (Words.unit_of k (step_of (after b m s i).board (record_at s i) (after b m s i).memory).answer)
    (length (units_of k (answers_in (after b m s i).answers i)))
unfolding after
run_more b m s k i =
    let h = after b m s i in
    let a = (step_of h.board (record_at s i) h.memory).answer in
    ap (λ (got : List (List ℕ)). length (units_of k got)) (in_more h.answers a i (answered b m s i) (answer_length h.board (record_at s i) h.memory))
    ∙ one_more k (answers_in h.answers i) a

module _ (b : Board) (m s : List ℕ) (k q n : ℕ) (g : Goes b.dma k q n) (c : (i : ℕ) → i ≤ n → plain_cycle (record_at s i) ≡ true) where
  abbrev here : ℕ → Run
  here i = after b m s i

  -- After i units there are n - i to go after the next.
  pub going : (i j : ℕ) → i + j ≡ n → Goes (after b m s i).board.dma k q j
  unfolding after
  going zero j e = let z : n ≡ j = sym e ∙ omega arith in subst (Goes b.dma k q) z g
  going (suc i) j e =
      let r = record_at s i in
      rw (cycle_dma (here i).board r (here i).memory (c i (omega arith)))
      (goes_on_law (here i).board.dma k q j (byte r 2) (byte r 3) (here i).memory (going i (suc j) (omega arith)))

  -- The first i cycles moved i units.
  pub moved : (i : ℕ) → i ≤ suc n → length (units_of k (answers_in (after b m s i).answers i)) ≡ i
  unfolding after answers_in units_of
  moved zero h = refl
  moved (suc i) h =
      let r = record_at s i in
      let g = serves (here i).board.dma k q (n - i) (going i (n - i) (omega arith)) in
      let u : Words.unit_of k (step_of (here i).board r (here i).memory).answer ≡ true =
      rw (cycle_answer_law (here i).board r (here i).memory (c i (omega arith))) (reports (here i).board.dma k q (n - i) (byte r 2) (byte r 3) (here i).memory g _) in
      run_more b m s k i ∙ rw u (ap suc (moved i (omega arith)))

  -- The chip after the last unit.
  ended : (after b m s (suc n)).board.dma ≡ (unit_by (here n).board.dma true true (byte (record_at s n) 2) (byte (record_at s n) 3) (here n).memory).dma
  unfolding after
  ended =
      let r = record_at s n in
      cycle_dma (here n).board r (here n).memory (c n (omega arith))
      ∙ ap (λ (o : DmaCycle.Out). o.dma)
      (by_unit (here n).board.dma k q 0 (byte r 2) (byte r 3) (here n).memory (serves (here n).board.dma k q 0 (going n 0 (omega arith))) true refl)

  pub stopped : (after b m s (suc n)).board.dma.serving ≡ false
  stopped = ap (λ (d : Dma). d.serving) ended

  pub shut : bit_of q 4 ≡ false → (chan (after b m s (suc n)).board.dma k).masked ≡ true
  shut h =
      ap (λ (d : Dma). (chan d k).masked) ended
      ∙ shut_after (here n).board.dma k q 0 (byte (record_at s n) 2) (byte (record_at s n) 3) (here n).memory (serves (here n).board.dma k q 0 (going n 0 (omega arith))) h true
