-- The level that an acknowledge takes, the channel that is granted, and a reset.
use mathlib.Core.Path.{◌≡◌, refl, sym, ap, ◌∙◌}
use mathlib.Core.Logic.{◌≢◌, ◌⊎◌, inl, inr}
use mathlib.Core.List.{List, ◌∷◌}
use mathlib.Core.Bool.{Bool, true, false, not, true≢false}
use Prim.Native.Nat.{ℕ, zero, suc, ◌+◌, ◌-◌, ◌*◌, ◌/◌, ◌%◌, ◌<◌}
use native.Mathlib.Omega.{arith}
use native.Mathlib.Nat.{mod-eq_of_lt}
use lib.Dec.{eqb, ltb}
use lib.ListN.{get_or}
use borrow.Author.Tests.{ltb-true, ltb-false, eq-eqb, ne_eqb}
use Rattle.bits.specs.Choice.{◌and◌, ◌or◌}
use Rattle.std.specs.Prelude.{if◌then◌else◌}
use Rattle.bits.specs.Bits.{bit_of, with_of, without_of}
use Rattle.tape.specs.Records.{unused, decode_of}
use Rattle.tape.specs.Answers.{twelve, answer_of}
use Rattle.icu.specs.declared.Icu.{Icu}
use Rattle.icu.specs.Fields.{edges_is, isr_is, lowest_is}
use Rattle.icu.specs.Answers.{Told, telling, calling}
use Rattle.icu.specs.Words.{ready, ag4}
use Rattle.icu.specs.Requests.{asked_of, outranks_all, int_of}
use Rattle.icu.specs.Service.{takes, served_of, vector_of, call_low_of, naming, acknowledge_of}
use Rattle.cascade.specs.Cascade.{answerer_of, answered, together, passed_on}
use Rattle.dma.specs.declared.Dma.{Dma}
use Rattle.dma.specs.Fields.{chan}
use Rattle.dma.specs.Cycle as DmaCycle
use Rattle.dma.specs.Cycle.{channel_at, winner_from, winner, nothing_of, granted_of}
use Rattle.board.specs.declared.Board.{Board}
use Rattle.board.specs.declared.Stepped.{Stepped}
use Rattle.board.specs.Operations as Board-does
use Rattle.board.specs.Operations.{Outcome, done, refused, told_with, icu_told, payload_of, cycle_of, cycle_memory}
use Rattle.board.specs.Wiring.{fresh_of, reset_of, icu_is, dma_is, lines, int, levels_of}
use Rattle.board.specs.Step.{execute_of, memory_after, blocked, outcome_of, memory_of, answered_of, step_of, step_memory}
use Rattle.promises.specs.Records.{resetting, acknowledging, cycling_with}
use Rattle.promises.specs.Words.{Highest, asked_for, ahead, asks, Foremost}
use Rattle.promises.specs.Table.{extended, unanswered}
use Rattle.promises.specs.Reached.{Reached}
use Rattle.promises.specs.Meant.{Names, Takes, Grants}
use Rattle.promises.proofs.Logic.{both_left, both_right, and_false}
use Rattle.promises.proofs.Runs.{reached_sound}
use Rattle.promises.proofs.IcuKept.{found}
use Rattle.promises.proofs.Highest.{highest_is, highest_of_law, cleared, added}
use Rattle.promises.proofs.Requested.{Fit, reached_fit, asked_bit}
use Rattle.promises.proofs.SetUps.{in_turn, not_passed}

-- What the chip tells: with INT high the level taken, with INT low level 7.
pub told_high : (c : Icu) (l : ℕ) → ready c ≡ true → int_of c l ≡ true → acknowledge_of c l ≡ naming c (takes c l) (served_of c (takes c l))
unfolding acknowledge_of
told_high c l set high = rw (set, high)

pub told_low : (c : Icu) (l : ℕ) → ready c ≡ true → int_of c l ≡ false → acknowledge_of c l ≡ naming c 7 c
unfolding acknowledge_of
told_low c l set low = rw (set, low)

-- The bytes that name level n, and the chip d with them.
module _ (c : Icu) (n : ℕ) (d : Icu) where
  abbrev pub named : Bool → Told
  named v = if v then telling d (vector_of c n) else calling d (call_low_of c n) c.iw2

  pub named_icu : (naming c n d).icu ≡ d
  named_icu = go c.vector
    where
      go : (v : Bool) → (named v).icu ≡ d
      go true = refl
      go false = refl

  pub named_status : (naming c n d).status ≡ 0
  named_status = go c.vector
    where
      go : (v : Bool) → (named v).status ≡ 0
      go true = refl
      go false = refl

  named_call : c.vector ≡ false → naming c n d ≡ calling d (call_low_of c n) c.iw2
  named_call v = ap named v

  named_vector : c.vector ≡ true → naming c n d ≡ telling d (vector_of c n)
  named_vector v = ap named v

-- A chip that is ready answers.
pub answers_ready : (c : Icu) (l : ℕ) → ready c ≡ true → (acknowledge_of c l).status ≡ 0
answers_ready c l set = go (int_of c l) refl
  where
    go : (q : Bool) → int_of c l ≡ q → (acknowledge_of c l).status ≡ 0
    go true h = ap (λ (t : Told). t.status) (told_high c l set h) ∙ named_status c (takes c l) (served_of c (takes c l))
    go false h = ap (λ (t : Told). t.status) (told_low c l set h) ∙ named_status c 7 c

-- The record, with the bus free.
pub acknowledged : (b : Board) (m : List ℕ) → b.dma.serving ≡ false
    → step_of b acknowledging m ≡ answered_of 4 (Board-does.acknowledge_of b)
unfolding step_of decode_of unused outcome_of execute_of blocked
acknowledged b m free = ap (answered_of 4) (go b.dma.serving free)
  where
    o : Outcome
    o = Board-does.acknowledge_of b

    go : (q : Bool) → q ≡ false → (if q and true then refused 1 b else o) ≡ o
    go true h = absurd (true≢false h)
    go false h = refl

-- What becomes of the chip, level by level.
module _ (c : Icu) (n : ℕ) (h : n < 8) where
  abbrev serves : Bool → Bool → Icu
  serves sfi rotates =
      if sfi then
      (if rotates then lowest_is n (edges_is (without_of c.edges n) c) else edges_is (without_of c.edges n) c)
      else isr_is (with_of c.isr n) (edges_is (without_of c.edges n) c)

  pub served_edges : c.edges < 256 → (k : ℕ) → k < 8 → bit_of (served_of c n).edges k ≡ (bit_of c.edges k and not (eqb k n))
  unfolding served_of
  served_edges e k l = ap (λ (x : ℕ). bit_of x k) (go c.sfi c.rotation) ∙ cleared c.edges n k e h l
    where
      go : (p q : Bool) → (serves p q).edges ≡ without_of c.edges n
      go true true = refl
      go true false = refl
      go false q = refl

  pub served_isr : c.isr < 256 → (k : ℕ) → k < 8 → bit_of (served_of c n).isr k ≡ (bit_of c.isr k or (not c.sfi and eqb k n))
  unfolding served_of
  served_isr e k l = go c.sfi c.rotation
    where
      none : (p : Bool) → p ≡ (p or false)
      none true = refl
      none false = refl

      go : (p q : Bool) → bit_of (serves p q).isr k ≡ (bit_of c.isr k or (not p and eqb k n))
      go true true = none (bit_of c.isr k)
      go true false = none (bit_of c.isr k)
      go false q = added c.isr n k e h l

  pub served_lowest : (served_of c n).lowest ≡ (if c.sfi and c.rotation then n else c.lowest)
  unfolding served_of
  served_lowest = go c.sfi c.rotation
    where
      go : (p q : Bool) → (serves p q).lowest ≡ (if p and q then n else c.lowest)
      go true true = refl
      go true false = refl
      go false q = refl

-- An acknowledge that is answered by what a chip c tells, and leaves the board e.
module _ (b : Board) (m : List ℕ) (c : Icu) (n : ℕ) (small : n < 8) (d : Icu) (e : Board)
    (stepped : step_of b acknowledging m ≡ answered_of 4 (told_with e (naming c n d))) where
  pub named_so : Names c b m n
  unfolding answered_of answer_of vector_of call_low_of
  named_so =
      let same : n % 8 ≡ n = mod-eq_of_lt small in
      record {
        vector = λ v.
            whole
            ∙ ap (λ (t : Told). answer t) (named_vector c n d v)
            ∙ ap (λ (x : ℕ). answer (telling d (c.iw2 / 8 * 8 + x))) same;
        call = λ v.
            whole
            ∙ ap (λ (t : Told). answer t) (named_call c n d v)
            ∙ ap (λ (x : ℕ). answer (calling d (if ag4 c then c.iw1 / 32 * 32 + x * 4 else c.iw1 / 64 * 64 + x * 8) c.iw2)) same;
      }
    where
      -- the answer to what the chip tells, with the levels of the board after it
      answer : Told → List ℕ
      answer t = t.status ∷ 4 ∷ t.byte ∷ levels_of (step_of b acknowledging m).board ∷ twelve t.payload

      whole : (step_of b acknowledging m).answer ≡ answer (naming c n d)
      whole =
          ap (λ (o : Stepped). o.answer) stepped
          ∙ ap (λ (f : Board). (naming c n d).status ∷ 4 ∷ (naming c n d).byte ∷ levels_of f ∷ twelve (naming c n d).payload)
          (sym (ap (λ (o : Stepped). o.board) stepped))

-- One that the master answers by itself.
module _ (b : Board) (m : List ℕ) (free : b.dma.serving ≡ false) (here : passed_on b.icu (lines b) b.slave ≡ false) (turn : answered b.icu b.slave ≡ true)
    (n : ℕ) (small : n < 8) (d : Icu) (told : acknowledge_of b.icu (lines b) ≡ naming b.icu n d) where
  by_master : Board-does.acknowledge_of b ≡ icu_told b (naming b.icu n d)
  unfolding Board-does.acknowledge_of
  by_master = rw (here, turn) (ap (λ (t : Told). icu_told b t) told)

  stepped_so : step_of b acknowledging m ≡ answered_of 4 (icu_told b (naming b.icu n d))
  stepped_so = acknowledged b m free ∙ ap (answered_of 4) by_master

  board_so : (step_of b acknowledging m).board ≡ icu_is d b
  unfolding answered_of
  board_so = ap (λ (s : Stepped). s.board) stepped_so ∙ ap (λ (i : Icu). icu_is i b) (named_icu b.icu n d)

  names_so : Names b.icu b m n
  names_so = named_so b m b.icu n small d (icu_is (naming b.icu n d).icu b) stepped_so

-- With INT of a chip high, the highest-ranked level asked for is taken.
module _ (c : Icu) (lines : ℕ) (asked : ℕ → Bool) (low : c.lowest < 8) (bits : (k : ℕ) → k < 8 → bit_of (asked_of c lines) k ≡ asked k) where
  pub highest_taken : int_of c lines ≡ true → (n : ℕ) × Highest asked c.lowest n × (takes c lines ≡ n)
  unfolding int_of
  highest_taken high =
      let w = found (λ n. bit_of (asked_of c lines) n and outranks_all c n) 8 (both_right (ready c) _ high) in
      let q = highest_of_law (asked_of c lines) c.lowest w.0 low w.1 (both_left (bit_of (asked_of c lines) w.0) (outranks_all c w.0) w.2) in
      let n = q.0 in
      let h = q.1 in (
        n,
        record {
          level = h.level;
          chosen = sym (bits n h.level) ∙ h.chosen;
          over = λ k l s ne. h.over k l (bits k l ∙ s) ne;
        },
        highest_is (asked_of c lines) c.lowest n low h,
      )

  pub takes_highest : (n : ℕ) → Highest asked c.lowest n → takes c lines ≡ n
  takes_highest n h =
      highest_is (asked_of c lines) c.lowest n low
      (record {
        level = h.level;
        chosen = bits n h.level ∙ h.chosen;
        over = λ k l s ne. h.over k l (sym (bits k l) ∙ s) ne;
      })

pub highest_asked : (b : Board) → Fit b → int b ≡ true → (n : ℕ) × Highest (asked_for b) b.icu.lowest n × (takes b.icu (lines b) ≡ n)
highest_asked b f high = highest_taken b.icu (lines b) (asked_for b) f.lowest (asked_bit b f) high

pub level_taken : {b : Board} → Reached b → (m : List ℕ) → b.dma.serving ≡ false → unanswered b ≡ false → int b ≡ true
    → (n : ℕ) × Highest (asked_for b) b.icu.lowest n × ((extended b.icu and eqb n 7) ≡ false → Takes b m n)
unfolding int_of
level_taken {b} r m free turn high =
    let c = b.icu in
    let f = reached_fit r in
    let q = highest_asked b f high in
    let n = q.0 in
    let small = q.1.level in
    let told : acknowledge_of c (lines b) ≡ naming c n (served_of c n) =
    told_high c (lines b) (both_left (ready c) _ high) high ∙ ap (λ (i : ℕ). naming c i (served_of c i)) q.2 in
    let t = in_turn b turn in (
      n,
      q.1,
      λ own.
          let here = not_passed c (lines b) b.slave (rw (t.2, high, q.2) own) in
          let s = board_so b m free here t.1 n small (served_of c n) told in
          record {
            names = names_so b m free here t.1 n small (served_of c n) told;
            board = s;
            edges = λ k l. ap (λ (d : Board). bit_of d.icu.edges k) s ∙ served_edges c n small f.edges k l;
            isr = λ k l. ap (λ (d : Board). bit_of d.icu.isr k) s ∙ served_isr c n small f.isr k l;
            lowest = ap (λ (d : Board). d.icu.lowest) s ∙ served_lowest c n small;
          },
    )

-- With INT low, level 7 is answered, and nothing changes.
pub memory_left : (b : Board) (m : List ℕ) → step_memory b acknowledging m ≡ m
unfolding step_memory decode_of unused memory_of memory_after blocked
memory_left b m = go b.dma.serving
  where
    go : (q : Bool) → (if q and true then m else m) ≡ m
    go true = refl
    go false = refl

pub spurious : (b : Board) (m : List ℕ) → b.dma.serving ≡ false → unanswered b ≡ false → int b ≡ false
    → ((step_of b acknowledging m).board ≡ b) × (step_memory b acknowledging m ≡ m) × Names b.icu b m 7
spurious b m free turn low =
    let t = in_turn b turn in
    let told = told_low b.icu (lines b) t.0 low in
    let seven : 7 < 8 = omega arith in
    let here = not_passed b.icu (lines b) b.slave (rw low (and_false (together (answerer_of b.icu b.slave)))) in
    (board_so b m free here t.1 7 seven b.icu told, memory_left b m, names_so b m free here t.1 7 seven b.icu told)

-- What the board tells of a cycle.
abbrev told_of : Board → DmaCycle.Out → Outcome
told_of b o = record { status = 0; board = dma_is o.dma b; byte = o.report.byte; payload = twelve (payload_of o.report) }

-- A DMA cycle, with either END, is carried out, whoever has the bus.
carried : (b : Board) (m : List ℕ) (e x y : ℕ) → e < 2
    → (step_of b (cycling_with e x y) m ≡ answered_of 6 (cycle_of b (eqb e 1) x y m))
    × (step_memory b (cycling_with e x y) m ≡ (DmaCycle.cycle_of b.dma (eqb e 1) x y m).memory)
unfolding step_of step_memory decode_of unused outcome_of memory_of execute_of memory_after blocked cycle_memory
carried b m e x y h = by e h
  where
    as_outcome : (o : Outcome) (q : Bool) → (if q and false then refused 1 b else o) ≡ o
    as_outcome o true = refl
    as_outcome o false = refl

    as_memory : (l : List ℕ) (q : Bool) → (if q and false then m else l) ≡ l
    as_memory l true = refl
    as_memory l false = refl

    by : (e : ℕ) → e < 2
        → (step_of b (cycling_with e x y) m ≡ answered_of 6 (cycle_of b (eqb e 1) x y m))
        × (step_memory b (cycling_with e x y) m ≡ (DmaCycle.cycle_of b.dma (eqb e 1) x y m).memory)
    by zero h = (ap (answered_of 6) (as_outcome (cycle_of b false x y m) b.dma.serving), as_memory _ b.dma.serving)
    by (suc zero) h = (ap (answered_of 6) (as_outcome (cycle_of b true x y m) b.dma.serving), as_memory _ b.dma.serving)
    by (suc (suc e)) h = absurd (omega arith)

-- The first rank whose channel is ready is the winner's.
abbrev FirstReady : Dma → ℕ → ℕ → Type 0
FirstReady d k left =
    (i : ℕ)
    × (i < left)
    × (winner_from d k left ≡ channel_at d (k + i))
    × (DmaCycle.ready d (channel_at d (k + i)) ≡ true)
    × ((j : ℕ) → j < i → DmaCycle.ready d (channel_at d (k + j)) ≡ false)

first_ready : (d : Dma) (k left j : ℕ) → j < left → DmaCycle.ready d (channel_at d (k + j)) ≡ true → FirstReady d k left
unfolding winner_from
first_ready d k zero j h b = absurd (omega arith)
first_ready d k (suc left) zero h b =
    let e : k + 0 ≡ k = omega arith in
    (0, omega arith, rw (e, rw e at b), b, λ j q. absurd (omega arith))
first_ready d k (suc left) (suc j) h b = go (DmaCycle.ready d (channel_at d k)) refl (first_ready d (suc k) left j (omega arith) (rw (next j) at b))
  where
    next : (i : ℕ) → k + suc i ≡ suc k + i
    next i = omega arith

    zeroth : k + 0 ≡ k
    zeroth = omega arith

    go : (q : Bool) → DmaCycle.ready d (channel_at d k) ≡ q → FirstReady d (suc k) left → FirstReady d k (suc left)
    go true q f = (0, omega arith, rw (q, zeroth), rw zeroth q, λ j q. absurd (omega arith))
    go false q f = (suc f.0, omega (arith, f.1), rw (q, next f.0) f.2, rw (next f.0) f.3, clear)
      where
        clear : (j : ℕ) → j < suc f.0 → DmaCycle.ready d (channel_at d (k + j)) ≡ false
        clear zero h = rw zeroth q
        clear (suc j) h = rw (next j) (f.4 j (omega arith))

-- A channel's rank and a rank's channel undo one another.
rank_of : (f n : ℕ) → f < 4 → n < 4 → (f + (0 + (n + 4 - f) % 4)) % 4 ≡ n
rank_of f n h l = omega arith

channel_of : (f i : ℕ) → f < 4 → i < 4 → ((f + (0 + i)) % 4 + 4 - f) % 4 ≡ i
channel_of f i h l = omega arith

pub ready_asks : (d : Dma) (n : ℕ) → DmaCycle.ready d n ≡ asks d n
unfolding DmaCycle.ready
ready_asks d n = go (chan d n).masked
  where
    go : (q : Bool) → (if q then false else bit_of d.requests n) ≡ (not q and bit_of d.requests n)
    go true = refl
    go false = refl

foremost : (d : Dma) → d.first < 4 → (k : ℕ) → k < 4 → asks d k ≡ true → (n : ℕ) × Foremost d n × (winner d ≡ n)
unfolding channel_at
foremost d low k l a = (
  channel_at d (0 + i),
  record {
    channel = omega arith;
    chosen = sym (ready_asks d (channel_at d (0 + i))) ∙ r.3;
    over = λ j h s ne. late j h s ne (ltb i (ahead d j)) refl;
  },
  r.2,
)
  where
    f : ℕ
    f = if d.rotate then d.first else 0

    small : f < 4
    small = below_4 d.rotate
      where
        below_4 : (q : Bool) → (if q then d.first else 0) < 4
        below_4 true = low
        below_4 false = omega arith

    r : FirstReady d 0 4
    r = first_ready d 0 4 (ahead d k) (omega arith) (ap (DmaCycle.ready d) (rank_of f k small l) ∙ ready_asks d k ∙ a)

    i : ℕ
    i = r.0

    late : (j : ℕ) → j < 4 → asks d j ≡ true → j ≢ channel_at d (0 + i) → (q : Bool) → ltb i (ahead d j) ≡ q → ahead d (channel_at d (0 + i)) < ahead d j
    late j h s ne true q = rw (channel_of f i small r.1) (ltb-true i (ahead d j) q)
    late j h s ne false q = absurd (early (ltb (ahead d j) i) refl)
      where
        early : (v : Bool) → ltb (ahead d j) i ≡ v → ⊥
        early true v =
            true≢false (sym (ap (DmaCycle.ready d) (rank_of f j small h) ∙ ready_asks d j ∙ s) ∙ r.4 (ahead d j) (ltb-true (ahead d j) i v))
        early false v =
            let e : ahead d j ≡ i = omega (arith, ltb-false i (ahead d j) q, ltb-false (ahead d j) i v) in
            ne (sym (rank_of f j small h) ∙ ap (λ (z : ℕ). (f + (0 + z)) % 4) e)

-- A grant, and nothing.
module _ (d : Dma) (e : Bool) (x y : ℕ) (m : List ℕ) (idle : d.serving ≡ false) where
  granted : (n : ℕ) → d.disabled ≡ false → n < 4 → winner d ≡ n → DmaCycle.cycle_of d e x y m ≡ granted_of d n m
  unfolding DmaCycle.cycle_of
  granted n en l w =
      go d.serving (DmaCycle.releases d) d.disabled (eqb (winner d) 4) idle en (ap (λ (i : ℕ). eqb i 4) w ∙ ne_eqb n 4 (omega arith))
      ∙ ap (λ (i : ℕ). granted_of d i m) w
    where
      go : (v r k u : Bool) → v ≡ false → k ≡ false → u ≡ false → DmaCycle.cycle_by d e x y m v r k u ≡ granted_of d (winner d) m
      go true r k u a b c = absurd (true≢false a)
      go false r true u a b c = absurd (true≢false b)
      go false r false true a b c = absurd (true≢false c)
      go false r false false a b c = refl

  nothing : (d.disabled or eqb (winner d) 4) ≡ true → DmaCycle.cycle_of d e x y m ≡ nothing_of d m
  unfolding DmaCycle.cycle_of
  nothing h = go d.serving (DmaCycle.releases d) d.disabled (eqb (winner d) 4) idle h
    where
      go : (v r k u : Bool) → v ≡ false → (k or u) ≡ true → DmaCycle.cycle_by d e x y m v r k u ≡ nothing_of d m
      go true r k u a b = absurd (true≢false a)
      go false r true u a b = refl
      go false r false true a b = refl
      go false r false false a b = absurd (true≢false (sym b))

no_winner : (d : Dma) (k left : ℕ) → ((n : ℕ) → n < 4 → asks d n ≡ false) → winner_from d k left ≡ 4
unfolding winner_from channel_at
no_winner d k zero h = refl
no_winner d k (suc left) h = rw (ready_asks d (channel_at d k) ∙ h (channel_at d k) (omega arith)) (no_winner d (suc k) left h)

pub channel_granted : {b : Board} → Reached b → (e x y : ℕ) (m : List ℕ) → e < 2 → b.dma.serving ≡ false → b.dma.disabled ≡ false
    → (k : ℕ) → k < 4 → asks b.dma k ≡ true
    → (n : ℕ) × Foremost b.dma n × Grants b e x y m n
unfolding granted_of cycle_of answered_of answer_of
channel_granted {b} r e x y m h sv en k l a =
    let q = foremost b.dma (reached_sound r).first k l a in
    let n = q.0 in
    let c = granted b.dma (eqb e 1) x y m sv n en q.1.channel q.2 in
    let s = carried b m e x y h in
    let t = s.0 ∙ ap (λ (o : DmaCycle.Out). answered_of 6 (told_of b o)) c in (
      n,
      q.1,
      record {
        kind = ap (λ (o : Stepped). get_or o.answer 4 0) t;
        channel = ap (λ (o : Stepped). get_or o.answer 5 0) t;
        serving = ap (λ (o : Stepped). o.board.dma.serving) t;
        served = ap (λ (o : Stepped). o.board.dma.channel) t;
        channels = ap (λ (o : Stepped). o.board.dma.channels) t;
        ends = ap (λ (o : Stepped). o.board.dma.ends) t;
        end = ap (λ (o : Stepped). get_or o.answer 6 0) t;
        memory = s.1 ∙ ap (λ (o : DmaCycle.Out). o.memory) c;
      },
    )

pub nothing_granted : (b : Board) (e x y : ℕ) (m : List ℕ) → e < 2 → b.dma.serving ≡ false
    → (b.dma.disabled ≡ true) ⊎ ((k : ℕ) → k < 4 → asks b.dma k ≡ false)
    → ((step_of b (cycling_with e x y) m).board ≡ b)
    × (step_memory b (cycling_with e x y) m ≡ m)
    × (get_or (step_of b (cycling_with e x y) m).answer 0 0 ≡ 0)
    × (get_or (step_of b (cycling_with e x y) m).answer 4 0 ≡ 0)
unfolding nothing_of cycle_of answered_of answer_of
nothing_granted b e x y m h sv why =
    let c = nothing b.dma (eqb e 1) x y m sv (because why) in
    let s = carried b m e x y h in
    let t = s.0 ∙ ap (λ (o : DmaCycle.Out). answered_of 6 (told_of b o)) c in (
      ap (λ (o : Stepped). o.board) t,
      s.1 ∙ ap (λ (o : DmaCycle.Out). o.memory) c,
      ap (λ (o : Stepped). get_or o.answer 0 0) t,
      ap (λ (o : Stepped). get_or o.answer 4 0) t,
    )
  where
    or_true : (p q : Bool) → q ≡ true → (p or q) ≡ true
    or_true true q e = refl
    or_true false q e = e

    because : (b.dma.disabled ≡ true) ⊎ ((k : ℕ) → k < 4 → asks b.dma k ≡ false) → (b.dma.disabled or eqb (winner b.dma) 4) ≡ true
    because (inl d) = rw d refl
    because (inr f) = or_true b.dma.disabled (eqb (winner b.dma) 4) (eq-eqb (winner b.dma) 4 (no_winner b.dma 0 4 f))

-- A reset.
pub reset_is_fresh : (b : Board) (m : List ℕ)
    → ((step_of b resetting m).board ≡ record { icu = fresh_of.icu; intp = 0; slave = fresh_of.slave; slaveintp = 0; timer = fresh_of.timer; dma = fresh_of.dma; kept = b.kept })
    × (step_memory b resetting m ≡ m)
unfolding step_of step_memory answered_of decode_of unused outcome_of memory_of execute_of memory_after blocked fresh_of
reset_is_fresh b m = (go b.dma.serving, stays b.dma.serving)
  where
    go : (q : Bool) → (if q and false then refused 1 b else done (reset_of b)).board ≡ reset_of b
    go true = refl
    go false = refl

    stays : (q : Bool) → (if q and false then m else m) ≡ m
    stays true = refl
    stays false = refl
