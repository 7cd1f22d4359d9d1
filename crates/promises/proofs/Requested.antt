-- What is requested, level by level; INT; a line that rises.
use mathlib.Core.Path.{◌≡◌, refl, sym, ap, ◌∙◌}
use mathlib.Core.Logic.{◌↔◌}
use mathlib.Core.List.{List}
use mathlib.Core.Bool.{Bool, true, false, not, true≢false}
use Prim.Native.Nat.{ℕ, zero, suc, ◌-◌, ◌/◌, ◌%◌, ◌^◌, ◌≤◌, ◌<◌}
use native.Mathlib.Omega.{arith}
use lib.Dec.{eqb}
use lib.ListN.{get_or}
use lib.Bits.{bit_and, bit_or, and_le_l, and_shr, and_mod, or_shr, or_mod}
use borrow.Author.Tests.{eqb-true, ltb-true, lt-ltb, eq-eqb, ne_eqb}
use Rattle.bits.specs.Choice.{◌and◌, ◌or◌, every, some}
use Rattle.std.specs.Prelude.{if◌then◌else◌}
use Rattle.bits.specs.Bits.{bit_of, with_of, masked_of}
use Rattle.bits.proofs.Every.{below, alike, same, some_true, every_true}
use Rattle.tape.specs.Records.{unused, lines_asked, decode_of}
use Rattle.icu.specs.declared.Icu.{Icu}
use Rattle.icu.specs.Fields.{edges_is}
use Rattle.icu.specs.Ranks.{rank_of, outranks}
use Rattle.icu.specs.Words.{ready, lev}
use Rattle.icu.specs.Requests.{irr_of, asked_of, outranks_all, int_of, rises, falls, lines_of}
use Rattle.cascade.specs.Cascade.{joined_of}
use Rattle.timer.specs.declared.Timer.{Timer}
use Rattle.timer.specs.Timer.{at}
use Rattle.board.specs.declared.Board.{Board}
use Rattle.board.specs.Operations.{done, refused}
use Rattle.board.specs.Wiring.{intp_is, lines_by, lines_at, joined, lines, int, followed}
use Rattle.board.specs.Step.{execute_of, blocked, outcome_of, answered_of, step_of}
use Rattle.promises.specs.Records.{reading, setting}
use Rattle.promises.specs.Words.{requested, line_high, asked_for}
use Rattle.promises.specs.Reached.{Reached}
use Rattle.promises.specs.Meant.{Outranking}
use Rattle.promises.proofs.Logic.{both_left, both_right, both, each_true}
use Rattle.promises.proofs.IcuKept.{found}
use Rattle.promises.proofs.BoardKept.{Held, reached_held}
use Rattle.promises.proofs.Sizes.{Sized, joined_small, lines_small, reached_keeps}
use Rattle.promises.proofs.Highest.{rank_before, cleared, added}
use Rattle.promises.proofs.Plain.{irr_read}

-- A bit of a masked byte is that of the byte, where the mask has none.
both_bits : (a b : ℕ) → a < 2 → b < 2 → eqb (bit_and a b) 1 ≡ (eqb a 1 and eqb b 1)
both_bits zero b h k = refl
both_bits (suc zero) zero h k = refl
both_bits (suc zero) (suc zero) h k = refl
both_bits (suc zero) (suc (suc b)) h k = absurd (omega arith)
both_bits (suc (suc a)) b h k = absurd (omega arith)

other_bit : (m k : ℕ) → m < 256 → k < 8 → bit_of (255 - m) k ≡ not (bit_of m k)
unfolding every bit_of
other_bit m k hm hk =
    alike (λ k. bit_of (255 - m) k) (λ k. not (bit_of m k)) 8
    (below (λ m. every (λ k. same (bit_of (255 - m) k) (not (bit_of m k))) 8) 256 tt m hm)
    k
    hk

pub masked_bit : (x m k : ℕ) → m < 256 → k < 8 → bit_of (masked_of x m) k ≡ (bit_of x k and not (bit_of m k))
unfolding bit_of masked_of
masked_bit x m k hm hk =
    ap (λ (y : ℕ). eqb y 1) (ap (λ (y : ℕ). y % 2) (and_shr x (255 - m) k) ∙ and_mod (x / 2 ^ k) ((255 - m) / 2 ^ k) 1)
    ∙ both_bits (x / 2 ^ k % 2) ((255 - m) / 2 ^ k % 2) (omega arith) (omega arith)
    ∙ ap (λ (q : Bool). eqb (x / 2 ^ k % 2) 1 and q) (other_bit m k hm hk)

-- A bit of two bytes joined.
either_bit : (a b : ℕ) → a < 2 → b < 2 → eqb (bit_or a b) 1 ≡ (eqb a 1 or eqb b 1)
either_bit zero zero h k = refl
either_bit zero (suc zero) h k = refl
either_bit zero (suc (suc b)) h k = absurd (omega arith)
either_bit (suc zero) zero h k = refl
either_bit (suc zero) (suc zero) h k = refl
either_bit (suc zero) (suc (suc b)) h k = absurd (omega arith)
either_bit (suc (suc a)) b h k = absurd (omega arith)

pub joined_bit : (x y k : ℕ) → bit_of (bit_or x y) k ≡ (bit_of x k or bit_of y k)
unfolding bit_of
joined_bit x y k =
    ap (λ (z : ℕ). eqb z 1) (ap (λ (z : ℕ). z % 2) (or_shr x y k) ∙ or_mod (x / 2 ^ k) (y / 2 ^ k) 1)
    ∙ either_bit (x / 2 ^ k % 2) (y / 2 ^ k % 2) (omega arith) (omega arith)

-- Line 0 is OUT0, and the others are those of INTP.
pub line_by : (i k : ℕ) (q : Bool) → i < 256 → k < 8 → bit_of (lines_by i q) k ≡ (if eqb k 0 then q else bit_of i k)
line_by i k q h l = go q
  where
    high : (p q : Bool) → (p or q) ≡ (if q then true else p)
    high true true = refl
    high true false = refl
    high false true = refl
    high false false = refl

    low : (p q : Bool) → (p and not q) ≡ (if q then false else p)
    low true true = refl
    low true false = refl
    low false true = refl
    low false false = refl

    go : (q : Bool) → bit_of (lines_by i q) k ≡ (if eqb k 0 then q else bit_of i k)
    go true = added i 0 k h (omega arith) l ∙ high (bit_of i k) (eqb k 0)
    go false = cleared i 0 k h (omega arith) l ∙ low (bit_of i k) (eqb k 0)

pub line_bit : (i k : ℕ) (t : Timer) → i < 256 → k < 8 → bit_of (lines_at i t) k ≡ (if eqb k 0 then (at t 0).out else bit_of i k)
unfolding lines_at
line_bit i k t h l = line_by i k (at t 0).out h l

-- INTP with the slave's INT on line 7, line by line.
pub joined_line : (i : ℕ) (s : Icu) (x k : ℕ) → i < 256 → k < 8 → bit_of (joined_of i s x) k ≡ (bit_of i k or (eqb k 7 and int_of s x))
unfolding joined_of
joined_line i s x k h l = go (int_of s x)
  where
    none : (p q : Bool) → p ≡ (p or (q and false))
    none true true = refl
    none true false = refl
    none false true = refl
    none false false = refl

    one : (p q : Bool) → (p or q) ≡ (p or (q and true))
    one true q = refl
    one false true = refl
    one false false = refl

    go : (q : Bool) → bit_of (if q then with_of i 7 else i) k ≡ (bit_of i k or (eqb k 7 and q))
    go true = added i 7 k h (omega arith) l ∙ one (bit_of i k) (eqb k 7)
    go false = none (bit_of i k) (eqb k 7)

joined_high : (i : ℕ) (s : Icu) (x k : ℕ) → i < 256 → k < 8 → bit_of i k ≡ true → bit_of (joined_of i s x) k ≡ true
joined_high i s x k h l hi = joined_line i s x k h l ∙ rw hi

-- What of a board's numbers the interrupt chip's laws need, at the end of any record.
pub record Fit (b : Board) : Type 0 where
  pub intp : b.intp < 256
  pub wires : joined b < 256
  pub edges : b.icu.edges < 256
  pub isr : b.icu.isr < 256
  pub imr : b.icu.imr < 256
  pub lowest : b.icu.lowest < 8

pub fit_of : (b : Board) → Held b → Sized b → Fit b
fit_of b h z =
    record {
      intp = z.intp;
      wires = joined_small b.intp b.slave b.slaveintp z.intp;
      edges = z.icu.3;
      isr = h.icu.isr;
      imr = z.icu.2;
      lowest = h.icu.lowest;
    }

pub reached_fit : {b : Board} → Reached b → Fit b
reached_fit {b} r = fit_of b (reached_held r) (reached_keeps r).sized

module _ (b : Board) (f : Fit b) where
  pub irr_bit : (k : ℕ) → k < 8 → bit_of (irr_of b.icu (lines b)) k ≡ requested b k
  unfolding irr_of
  irr_bit k l = go (lev b.icu)
    where
      go : (q : Bool) → bit_of (if q then lines b else b.icu.edges) k ≡ (if q then line_high b k else bit_of b.icu.edges k)
      go true = line_bit (joined b) k b.timer f.wires l
      go false = refl

  pub asked_bit : (k : ℕ) → k < 8 → bit_of (asked_of b.icu (lines b)) k ≡ asked_for b k
  unfolding asked_of
  asked_bit k l =
      masked_bit (irr_of b.icu (lines b)) b.icu.imr k f.imr l
      ∙ ap (λ (q : Bool). q and not (bit_of b.icu.imr k)) (irr_bit k l)

-- INT of a chip with some lines, by the levels that are asked for.
module _ (c : Icu) (x : ℕ) (wanted : ℕ → Bool) (lowest : c.lowest < 8) (bits : (k : ℕ) → k < 8 → bit_of (asked_of c x) k ≡ wanted k) where
  abbrev test : ℕ → ℕ → Bool
  test n m = if bit_of c.isr m then outranks c.lowest n m else true

  outranking : int_of c x ≡ true → Outranking wanted c
  unfolding int_of
  outranking h =
      let w = found (λ n. bit_of (asked_of c x) n and outranks_all c n) 8 (both_right (ready c) _ h) in
      let n = w.0 in
      let a = both_left (bit_of (asked_of c x) n) (outranks_all c n) w.2 in
      let o = both_right (bit_of (asked_of c x) n) (outranks_all c n) w.2 in
      record {
        level = n;
        low = w.1;
        asked = sym (bits n w.1) ∙ a;
        over = λ k l s.
            omega (
              arith,
              ltb-true (rank_of c.lowest n) (rank_of c.lowest k) (rw s at (each_true (test n) 8 o k l)),
              rank_before c.lowest n lowest w.1,
              rank_before c.lowest k lowest l,
            );
      }

  outranked : Outranking wanted c → some (λ n. bit_of (asked_of c x) n and outranks_all c n) 8 ≡ true
  outranked o =
      some_true (λ n. bit_of (asked_of c x) n and outranks_all c n) 8 o.level o.low
      (both (bit_of (asked_of c x) o.level) (outranks_all c o.level) (bits o.level o.low ∙ o.asked)
      (every_true (test o.level) 8 (λ m l. go m l (bit_of c.isr m) refl)))
    where
      go : (m : ℕ) → m < 8 → (q : Bool) → bit_of c.isr m ≡ q → (if q then outranks c.lowest o.level m else true) ≡ true
      go m l true q =
          lt-ltb (rank_of c.lowest o.level) (rank_of c.lowest m)
          (omega (arith, o.over m l q, rank_before c.lowest o.level lowest o.low, rank_before c.lowest m lowest l))
      go m l false q = refl

  pub int_by_rank : (int_of c x ≡ true) ↔ ((c.stage ≡ 3) × Outranking wanted c)
  unfolding int_of
  int_by_rank = (
    λ h. (eqb-true c.stage 3 (both_left (ready c) _ h), outranking h),
    λ z. both (ready c) (some (λ n. bit_of (asked_of c x) n and outranks_all c n) 8) (eq-eqb c.stage 3 z.0) (outranked z.1),
  )

pub int_rule : {b : Board} → Reached b → (int b ≡ true) ↔ ((b.icu.stage ≡ 3) × Outranking (asked_for b) b.icu)
int_rule {b} r = let f = reached_fit r in int_by_rank b.icu (lines b) (asked_for b) f.lowest (asked_bit b f)

-- The lines as a record sets them, and the chip that sees them.
set_lines : (b : Board) (m : List ℕ) (l : ℕ) → l % 2 ≡ 0 → (step_of b (setting 0 l) m).board ≡ followed b (intp_is l b)
unfolding step_of answered_of decode_of unused lines_asked outcome_of execute_of blocked
set_lines b m l e = rw (eq-eqb (l % 2) 0 e) (go b.dma.serving)
  where
    go : (q : Bool) → (if q and false then refused 1 b else done (followed b (intp_is l b))).board ≡ followed b (intp_is l b)
    go true = refl
    go false = refl

-- A request e of a line that was at one level and is at another.
abbrev pub edged : Bool → Bool → Bool → Bool
edged e was now = (e or (now and not was)) and not (was and not now)

-- A line that stays leaves its request.
pub same_edge : (v p : Bool) → edged v p p ≡ v
same_edge true true = refl
same_edge true false = refl
same_edge false true = refl
same_edge false false = refl

masked_small : (x m : ℕ) → x < 256 → masked_of x m < 256
unfolding masked_of
masked_small x m h = omega (arith, and_le_l x (255 - m))

module _ (c : Icu) (was now : ℕ) (small : now < 256) where
  pub stage_stays : (lines_of c was now).stage ≡ c.stage
  unfolding lines_of
  stage_stays = go (ready c) (lev c)
    where
      go : (p q : Bool) → (if p then (if q then c else edges_is (masked_of (bit_or c.edges (rises was now)) (falls was now)) c) else c).stage ≡ c.stage
      go true true = refl
      go true false = refl
      go false q = refl

  shows_stays : (lines_of c was now).showsisr ≡ c.showsisr
  unfolding lines_of
  shows_stays = go (ready c) (lev c)
    where
      go : (p q : Bool) → (if p then (if q then c else edges_is (masked_of (bit_or c.edges (rises was now)) (falls was now)) c) else c).showsisr ≡ c.showsisr
      go true true = refl
      go true false = refl
      go false q = refl

  pub trigger_stays : lev (lines_of c was now) ≡ lev c
  unfolding lines_of
  trigger_stays = go (ready c) (lev c)
    where
      go : (p q : Bool) → lev (if p then (if q then c else edges_is (masked_of (bit_or c.edges (rises was now)) (falls was now)) c) else c) ≡ lev c
      go true true = refl
      go true false = refl
      go false q = refl

  -- The request of level k, in edge trigger, by the levels of its line: a rise makes it, a fall takes it away. Otherwise the lines change nothing.
  pub edge_bit : (k : ℕ) → was < 256 → k < 8 → ready c ≡ true → lev c ≡ false
      → bit_of (lines_of c was now).edges k ≡ edged (bit_of c.edges k) (bit_of was k) (bit_of now k)
  unfolding lines_of
  edge_bit k h l set edge =
      rw (set, edge)
      (masked_bit (bit_or c.edges (rises was now)) (falls was now) k (masked_small was now h) l
      ∙ rw (joined_bit c.edges (rises was now) k, masked_bit now was k h l, masked_bit was now k small l))

  pub unready_lines : ready c ≡ false → lines_of c was now ≡ c
  unfolding lines_of
  unready_lines h = rw h

  pub level_lines : lev c ≡ true → lines_of c was now ≡ c
  unfolding lines_of
  level_lines h = go (ready c) (lev c) h
    where
      go : (p q : Bool) → q ≡ true → (if p then (if q then c else edges_is (masked_of (bit_or c.edges (rises was now)) (falls was now)) c) else c) ≡ c
      go true true e = refl
      go true false e = absurd (true≢false (sym e))
      go false q e = refl

  risen_bit : (k : ℕ) → was < 256 → k < 8 → ready c ≡ true → bit_of was k ≡ false → bit_of now k ≡ true → bit_of (irr_of (lines_of c was now) now) k ≡ true
  unfolding irr_of
  risen_bit k h l set lo hi = rw trigger_stays (go (lev c) refl)
    where
      go : (q : Bool) → lev c ≡ q → bit_of (if q then now else (lines_of c was now).edges) k ≡ true
      go true e = hi
      go false e = edge_bit k h l set e ∙ rw (lo, hi) (asks (bit_of c.edges k))
        where
          asks : (e : Bool) → edged e false true ≡ true
          asks true = refl
          asks false = refl

pub masked_rise_shows : {b : Board} → Reached b → (m : List ℕ) → b.dma.serving ≡ false → ready b.icu ≡ true → b.icu.showsisr ≡ false
    → (l k : ℕ) → l < 256 → l % 2 ≡ 0 → 1 ≤ k → k < 8
    → line_high b k ≡ false
    → bit_of l k ≡ true
    → bit_of (get_or (step_of (step_of b (setting 0 l) m).board (reading 0) m).answer 2 0) k ≡ true
masked_rise_shows {b} r m free set irr l k hl even one hk lo hi =
    ap (λ (d : Board). bit_of (get_or (step_of d (reading 0) m).answer 2 0) k) (set_lines b m l even)
    ∙ ap (λ (x : ℕ). bit_of x k)
    (irr_read (followed b (intp_is l b)) m free (ap (λ (s : ℕ). eqb s 3) (stage_stays b.icu was now small) ∙ set) (shows_stays b.icu was now small ∙ irr))
    ∙ risen_bit b.icu was now small k (lines_small (joined b) b.timer fit.wires) hk set
    (line_bit (joined b) k b.timer fit.wires hk ∙ lo)
    (line_bit (joined (intp_is l b)) k b.timer wired hk ∙ rw (ne_eqb k 0 (omega arith)) (joined_high l b.slave b.slaveintp k hl hk hi))
  where
    was : ℕ
    was = lines b

    now : ℕ
    now = lines (intp_is l b)

    fit : Fit b
    fit = reached_fit r

    wired : joined (intp_is l b) < 256
    wired = joined_small l b.slave b.slaveintp hl

    small : now < 256
    small = lines_small (joined (intp_is l b)) b.timer wired
