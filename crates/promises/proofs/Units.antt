-- Count N moves N plus one units: in block mode, in demand mode with its request held, and in single mode grant by grant.
use mathlib.Core.Path.{◌≡◌, refl, sym, ap, ◌∙◌, subst}
use mathlib.Core.Logic.{◌≢◌}
use mathlib.Core.List.{List}
use mathlib.Core.Bool.{Bool, true, false, not}
use Prim.Native.Nat.{ℕ, zero, suc, ◌+◌, ◌*◌, ◌-◌, ◌/◌, ◌%◌, ◌≤◌, ◌<◌}
use native.Mathlib.Omega.{arith}
use lib.Dec.{eqb}
use lib.ListN.{get_or, set, length}
use borrow.Author.Tests.{eqb-true, eqb-false, ne_eqb}
use Rattle.bits.specs.Choice.{◌and◌}
use Rattle.std.specs.Prelude.{if◌then◌else◌}
use Rattle.bits.specs.Bits.{bit_of}
use Rattle.tape.specs.Records.{byte}
use Rattle.tape.specs.Answers.{answer_of}
use Rattle.dma.specs.declared.Channel.{Channel}
use Rattle.dma.specs.declared.Dma.{Dma}
use Rattle.dma.specs.Fields.{none, chan, served}
use Rattle.dma.specs.Cycle.{ready, channel_at, winner_from, winner, granted_of, moved_of, unit_by}
use Rattle.dma.specs.Cycle as DmaCycle
use Rattle.board.specs.declared.Board.{Board}
use Rattle.board.specs.Step.{step_of}
use Rattle.board.specs.Records.{record_at, Run, after}
use Rattle.tape.proofs.Decodes.{either}
use Rattle.promises.specs.Words as Words
use Rattle.promises.specs.Words.{answers_in, units_of}
use Rattle.promises.proofs.Steps.{cycle_answer}
use Rattle.promises.specs.TaughtWords.{plain_cycle}
use Rattle.promises.proofs.Lists.{put}
use Rattle.promises.proofs.Block.{cycle_dma, cycle_answer_law, Left, Serves, by_unit, reports, left_after, shut_after, run_more}

-- Of the four channels k alone is ready.
abbrev pub Alone : Dma → ℕ → Type 0
Alone d k = (i : ℕ) → i < 4 → ready d i ≡ eqb i k

-- A channel that alone is ready wins, whatever the ranks are: one of four numbers in a row is k modulo 4.
none_left : (f k : ℕ) → k < 4 → (f + 0) % 4 ≢ k → (f + 1) % 4 ≢ k → (f + 2) % 4 ≢ k → (f + 3) % 4 ≢ k → ⊥
none_left f k few a b c d = omega arith

alone_wins : (d : Dma) (k : ℕ) → k < 4 → Alone d k → winner d ≡ k
unfolding winner_from channel_at
alone_wins d k few a =
    let f = if d.rotate then d.first else 0 in
    rw (a ((f + 0) % 4) (omega arith), a ((f + 1) % 4) (omega arith), a ((f + 2) % 4) (omega arith), a ((f + 3) % 4) (omega arith))
    (either (λ (i : ℕ). i ≡ k) (eqb ((f + 0) % 4) k) (eqb-true ((f + 0) % 4) k)
    (λ n0. either (λ (i : ℕ). i ≡ k) (eqb ((f + 1) % 4) k) (eqb-true ((f + 1) % 4) k)
    (λ n1. either (λ (i : ℕ). i ≡ k) (eqb ((f + 2) % 4) k) (eqb-true ((f + 2) % 4) k)
    (λ n2. either (λ (i : ℕ). i ≡ k) (eqb ((f + 3) % 4) k) (eqb-true ((f + 3) % 4) k)
    (λ n3. absurd (none_left f k few (eqb-false ((f + 0) % 4) k n0) (eqb-false ((f + 1) % 4) k n1) (eqb-false ((f + 2) % 4) k n2) (eqb-false ((f + 3) % 4) k n3)))))))

-- Channel k alone is ready, the chip is enabled; it waits for a grant, or is served, with n units to go after the next.
pub record Waits (d : Dma) (k q n : ℕ) : Type 0 where
  pub left : Left d k q n
  pub idle : d.serving ≡ false
  pub enabled : d.disabled ≡ false
  pub alone : Alone d k

record Granted (d : Dma) (k q n : ℕ) : Type 0 where
  serves : Serves d k q n
  enabled : d.disabled ≡ false
  alone : Alone d k

-- In single mode a grant, which moves nothing, and then a unit, with which service stops.
module _ (d : Dma) (k q x y : ℕ) (m : List ℕ) (one : eqb (q / 64) 1 ≡ true) where
  granted : (n : ℕ) → Waits d k q n → DmaCycle.cycle_of d false x y m ≡ granted_of d k m
  unfolding DmaCycle.cycle_of
  granted n w =
      let e = alone_wins d k w.left.few w.alone in
      rw (e, w.idle, w.enabled, ne_eqb k 4 (omega (arith, w.left.few)))

  grant_reports : (n : ℕ) → Waits d k q n → (l : ℕ) → Words.unit_of k (cycle_answer l (DmaCycle.cycle_of d false x y m).report) ≡ false
  unfolding granted_of answer_of
  grant_reports n w l = rw (granted n w)

  grant_serves : (n : ℕ) → Waits d k q n → Granted (DmaCycle.cycle_of d false x y m).dma k q n
  unfolding granted_of ready
  grant_serves n w =
      rw (granted n w)
      (record {
        serves =
            record {
              left = record { four = w.left.four; few = w.left.few; mode = w.left.mode; count = w.left.count; small = w.left.small };
              serving = refl;
              channel = refl;
              keeps = ap (λ (u : Bool). u and not (bit_of d.requests k)) (ne_eqb (q / 64) 0 (omega (arith, eqb-true (q / 64) 1 one)));
            };
        enabled = w.enabled;
        alone = w.alone;
      })

  unit_of_law : (n : ℕ) (last : Bool) → Granted d k q n → eqb n 0 ≡ last → DmaCycle.cycle_of d false x y m ≡ unit_by d last true x y m
  unit_of_law n true g e = by_unit d k q n x y m g.serves true e
  unit_of_law n false g e = by_unit d k q n x y m g.serves false e ∙ ap (λ (stop : Bool). unit_by d false stop x y m) one

  mask_stays : (i : ℕ) → (get_or (set d.channels d.channel (moved_of (served d) false)) i none).masked ≡ (chan d i).masked
  unfolding moved_of
  mask_stays i =
      put (λ (c : Channel). c.masked ≡ (chan d i).masked) d.channels d.channel i (moved_of (served d) false) none
      (ap (λ (j : ℕ). (chan d j).masked))
      refl

  unit_waits : (n : ℕ) → Granted d k q (suc n) → Waits (DmaCycle.cycle_of d false x y m).dma k q n
  unfolding ready moved_of
  unit_waits n g =
      rw (unit_of_law (suc n) false g (ne_eqb (suc n) 0 (omega arith)))
      (record {
        left = left_after d k q n x y m g.serves true;
        idle = refl;
        enabled = g.enabled;
        alone = λ i l. ap (λ (u : Bool). if u then false else bit_of d.requests i) (mask_stays i) ∙ g.alone i l;
      })

-- A run of such pairs.
module _ (b : Board) (m s : List ℕ) (k q N : ℕ) (one : eqb (q / 64) 1 ≡ true) (w : Waits b.dma k q N)
    (c : (i : ℕ) → i < 2 * (N + 1) → plain_cycle (record_at s i) ≡ true) where
  abbrev here : ℕ → Run
  here i = after b m s i

  abbrev given : ℕ → ℕ
  given i = byte (record_at s i) 2

  abbrev upper : ℕ → ℕ
  upper i = byte (record_at s i) 3

  grants : (i j : ℕ) → i + j ≡ N → Waits (here (2 * i)).board.dma k q j → Granted (after b m s (suc (2 * i))).board.dma k q j
  unfolding after
  grants i j e h =
      rw (cycle_dma (here (2 * i)).board (record_at s (2 * i)) (here (2 * i)).memory (c (2 * i) (omega arith)))
      (grant_serves (here (2 * i)).board.dma k q (given (2 * i)) (upper (2 * i)) (here (2 * i)).memory one j h)

  twice : (i : ℕ) → 2 * suc i ≡ suc (suc (2 * i))
  twice i = omega arith

  waiting : (i j : ℕ) → i + j ≡ N → Waits (after b m s (2 * i)).board.dma k q j
  unfolding after
  waiting zero j e = let z : N ≡ j = sym e ∙ omega arith in subst (Waits b.dma k q) z w
  waiting (suc i) j e =
      let p = suc (2 * i) in
      rw (twice i, cycle_dma (here p).board (record_at s p) (here p).memory (c p (omega arith)))
      (unit_waits (here p).board.dma k q (given p) (upper p) (here p).memory one j (grants i (suc j) (omega arith) (waiting i (suc j) (omega arith))))

  -- The first i pairs moved i units.
  pub singly : (i : ℕ) → i ≤ N + 1 → length (units_of k (answers_in (after b m s (2 * i)).answers (2 * i))) ≡ i
  unfolding answers_in units_of
  singly zero h = refl
  singly (suc i) h =
      let o = 2 * i in
      let p = suc (2 * i) in
      let j = N - i in
      let v = waiting i j (omega arith) in
      let u0 : Words.unit_of k (step_of (here o).board (record_at s o) (here o).memory).answer ≡ false =
      rw (cycle_answer_law (here o).board (record_at s o) (here o).memory (c o (omega arith)))
      (grant_reports (here o).board.dma k q (given o) (upper o) (here o).memory one j v _) in
      let u1 : Words.unit_of k (step_of (here p).board (record_at s p) (here p).memory).answer ≡ true =
      rw (cycle_answer_law (here p).board (record_at s p) (here p).memory (c p (omega arith)))
      (reports (here p).board.dma k q j (given p) (upper p) (here p).memory (grants i j (omega arith) v).serves _) in
      rw (twice i) (run_more b m s k p ∙ rw u1 (ap suc (run_more b m s k o ∙ rw u0 (singly i (omega arith)))))

  -- The chip after a pair.
  paired : (i j : ℕ) → i + j ≡ N
      → (after b m s (2 * suc i)).board.dma ≡ (unit_by (here (suc (2 * i))).board.dma (eqb j 0) true (given (suc (2 * i))) (upper (suc (2 * i))) (here (suc (2 * i))).memory).dma
  unfolding after
  paired i j e =
      let p = suc (2 * i) in
      rw (twice i)
      (cycle_dma (here p).board (record_at s p) (here p).memory (c p (omega arith))
      ∙ ap (λ (o : DmaCycle.Out). o.dma)
      (unit_of_law (here p).board.dma k q (given p) (upper p) (here p).memory one j (eqb j 0) (grants i j e (waiting i j e)) refl))

  pub freed : (i : ℕ) → i ≤ N + 1 → (after b m s (2 * i)).board.dma.serving ≡ false
  unfolding after
  freed zero h = w.idle
  freed (suc i) h = ap (λ (d : Dma). d.serving) (paired i (N - i) (omega arith))

  pub masked : bit_of q 4 ≡ false → (chan (after b m s (2 * (N + 1))).board.dma k).masked ≡ true
  masked h =
      let p = suc (2 * N) in
      let e : 2 * (N + 1) ≡ 2 * suc N = omega arith in
      rw e
      (ap (λ (d : Dma). (chan d k).masked) (paired N 0 (omega arith))
      ∙ shut_after (here p).board.dma k q 0 (given p) (upper p) (here p).memory (grants N 0 (omega arith) (waiting N 0 (omega arith))).serves h true)
