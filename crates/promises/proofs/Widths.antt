-- A record that is no reset and no write to 20H or 2AH leaves the width of the bus, and every channel's mode.
use Rattle.tape.specs.declared.Operation.{Operation}
use Rattle.std.specs.Prelude.{Option}
use mathlib.Core.Path.{◌≡◌, refl, ap, ◌∙◌}
use mathlib.Core.Logic.{◌≢◌}
use mathlib.Core.List.{List}
use mathlib.Core.Bool.{Bool, true, false, true≢false}
use Prim.Native.Nat.{ℕ, zero, suc, ◌/◌, ◌%◌, ◌<◌}
use native.Mathlib.Omega.{arith}
use lib.Dec.{eqb, ltb, leb}
use lib.ListN.{get_or, set}
use borrow.Author.Tests.{eqb-true, eqb-false}
use Rattle.bits.specs.Choice.{◌or◌}
use Rattle.bits.specs.Bits.{masked_of}
use Rattle.tape.specs.Records.{byte, decode_of}
use Rattle.tape.proofs.Decodes.{either, Decodes, malformed, reset, write, read, intp, gates, requests, slave_intp, acknowledge, advance, cycle, decodes}
use Rattle.dma.specs.declared.Channel.{Channel}
use Rattle.dma.specs.declared.Dma.{Dma}
use Rattle.dma.specs.Answers.{Written}
use Rattle.dma.specs.Answers.{Got}
use Rattle.dma.specs.Fields.{none, chan, selected, served}
use Rattle.dma.specs.Registers.{chosen, requested_of, selected_of, loaded_of, controlled_of, masked_by, write_of, read_of}
use Rattle.dma.specs.Cycle.{moved_of, winner, last_of, releases, nothing_of, granted_of, released_of, unit_of, cycle_by, cycle_of}
use Rattle.board.specs.declared.Board.{Board}
use Rattle.board.specs.Step.{step_of}
use Rattle.promises.specs.Meant.{sets_width}
use Rattle.promises.proofs.Lists.{put}
use Rattle.promises.proofs.Change.{moved_mode}
use Rattle.promises.proofs.Touched.{OnAsked, touched}

record Same (d e : Dma) : Type 0 where
  wide : e.wide ≡ d.wide
  modes : (k : ℕ) → k < 4 → (chan e k).mode ≡ (chan d k).mode

module _ (d : Dma) where
  -- No channel is another one, or one is, with the same mode.
  still : {e : Dma} → e.wide ≡ d.wide → e.channels ≡ d.channels → Same d e
  still w c = record { wide = w; modes = λ k _. ap (λ (l : List Channel). (get_or l k none).mode) c }

  one : (i : ℕ) (c : Channel) → c.mode ≡ (chan d i).mode → (k : ℕ) → (get_or (set d.channels i c) k none).mode ≡ (chan d k).mode
  one i c h k =
      put (λ (x : Channel). x.mode ≡ (chan d k).mode) d.channels i k c none (λ e. h ∙ ap (λ (n : ℕ). (chan d n).mode) e) refl

  cycle_same : (e : Bool) (x y : ℕ) (m : List ℕ) → Same d (cycle_of d e x y m).dma
  unfolding cycle_of nothing_of granted_of released_of unit_of
  cycle_same e x y m = at d.serving (releases d) d.disabled (eqb (winner d) 4)
    where
      last : Bool
      last = last_of (served d) e

      at : (v r k w : Bool) → Same d (cycle_by d e x y m v r k w).dma
      at true true k w = still refl refl
      at true false k w = record { wide = refl; modes = λ n _. one d.channel (moved_of (served d) last) (moved_mode (served d) last) n }
      at false r true w = still refl refl
      at false r false true = still refl refl
      at false r false false = still refl refl

  abbrev G : Got → Type 0
  G g = Same d g.dma

  read_same : (r : ℕ) → Same d (read_of d r).dma
  unfolding read_of
  read_same r =
      either G (eqb n 0) (λ _. still refl refl)
      (λ _. either G (eqb n 1) (λ _. still refl refl)
      (λ _. either G (leb n 6) (λ _. still refl refl)
      (λ _. either G (eqb n 7) (λ _. still refl refl)
      (λ _. either G (eqb n 8) (λ _. still refl refl)
      (λ _. either G (eqb n 9) (λ _. still refl refl)
      (λ _. either G (eqb n 10) (λ _. still refl refl)
      (λ _. either G (eqb n 11) (λ _. still refl refl)
      (λ _. either G (ltb n 15) (λ _. still refl refl) (λ _. still refl refl)))))))))
    where
      n : ℕ
      n = r % 16

  abbrev W : Written → Type 0
  W w = Same d w.dma

  choose : (c : Channel) → c.mode ≡ (selected d).mode → Same d (chosen c d)
  choose c h = record { wide = refl; modes = λ k _. one d.selected c h k }

  masks_same : (x : ℕ) → Same d (masked_by d x)
  unfolding masked_by
  masks_same x = record { wide = refl; modes = at }
    where
      at : (k : ℕ) → k < 4 → (chan (masked_by d x) k).mode ≡ (chan d k).mode
      at zero l = refl
      at (suc zero) l = refl
      at (suc (suc zero)) l = refl
      at (suc (suc (suc zero))) l = refl
      at (suc (suc (suc (suc k)))) l = absurd (omega (arith, l))

  write_same : (r x : ℕ) → r % 16 ≢ 0 → r % 16 ≢ 10 → Same d (write_of d r x).dma
  unfolding write_of selected_of controlled_of loaded_of
  write_same r x n0 n10 =
      either W (eqb n 0) (λ q. absurd (n0 (eqb-true n 0 q)))
      (λ _. either W (eqb n 1) (λ _. still refl refl)
      (λ _. either W (leb n 6) (λ _. either (Same d) d.base (λ _. choose _ refl) (λ _. choose _ refl))
      (λ _. either W (eqb n 7) (λ _. still refl refl)
      (λ _. either W (eqb n 8) (λ _. either W (eqb (masked_of x 20) 0) (λ _. still refl refl) (λ _. still refl refl))
      (λ _. either W (eqb n 9) (λ _. either W (eqb x 0) (λ _. still refl refl) (λ _. still refl refl))
      (λ _. either W (eqb n 10) (λ q. absurd (n10 (eqb-true n 10 q)))
      (λ _. either W (eqb n 11) (λ _. still refl refl)
      (λ _. either W (ltb n 15) (λ _. still refl refl) (λ _. masks_same x)))))))))
    where
      n : ℕ
      n = r % 16

-- A write is to another register.
other_port : (r : List ℕ) → eqb (byte r 0) 1 ≡ true → sets_width r ≡ false → (byte r 1 ≢ 32) × (byte r 1 ≢ 42)
other_port r o h = at (eqb (byte r 1) 32) (eqb (byte r 1) 42) refl refl (rw o at h)
  where
    at : (p q : Bool) → eqb (byte r 1) 32 ≡ p → eqb (byte r 1) 42 ≡ q → (p or q) ≡ false → (byte r 1 ≢ 32) × (byte r 1 ≢ 42)
    at true q a c h = absurd (true≢false h)
    at false true a c h = absurd (true≢false h)
    at false false a c h = (eqb-false (byte r 1) 32 a, eqb-false (byte r 1) 42 c)

pub widths_kept : (b : Board) (r m : List ℕ) → get_or r 0 0 ≢ 0 → sets_width r ≡ false
    → ((step_of b r m).board.dma.wide ≡ b.dma.wide) × ((k : ℕ) → k < 4 → (chan (step_of b r m).board.dma k).mode ≡ (chan b.dma k).mode)
unfolding requested_of
widths_kept b r m no-reset h =
    let s = touched (Same b.dma) b m (still b.dma refl refl) r (at (decode_of r) (decodes r)) in
    (s.wide, s.modes)
  where
    at : (x : Option Operation) → Decodes r x → OnAsked (Same b.dma) b.dma m x
    at x malformed = tt
    at x (reset o) = absurd (no-reset (eqb-true (byte r 0) 0 o))
    at x (write o w) = λ q.
        let e = eqb-true (byte r 1 / 16) 2 q in
        let n = other_port r o h in
        write_same b.dma (byte r 1) (byte r 2) (λ z. n.0 (omega (arith, e, z))) (λ z. n.1 (omega (arith, e, z)))
    at x (read o w) = read_same b.dma (byte r 1)
    at x (intp o l) = tt
    at x (gates o l) = tt
    at x (requests o l) = still b.dma refl refl
    at x (slave_intp o) = tt
    at x (acknowledge o) = tt
    at x (advance o l) = tt
    at x (cycle o) = cycle_same b.dma (eqb (byte r 1) 1) (byte r 2) (byte r 3) m
