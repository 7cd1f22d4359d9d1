-- Every board reached from reset has every field in its range, and so has every board that a call leaves; the end of any record is reached.
use mathlib.Core.Path.{◌≡◌, sym, ap, ◌∙◌, subst}
use mathlib.Core.List.{List, ◌++◌, append_assoc}
use Prim.Native.Nat.{ℕ, zero, suc, ◌+◌, ◌-◌, ◌*◌, ◌/◌, ◌%◌, ◌≤◌}
use native.Mathlib.Omega.{arith}
use lib.ListN.{length, take, drop, replicate, take-append-drop, length-replicate}
use lib.Seq.{length-take-le}
use Rattle.tape.proofs.Decodes.{either}
use Rattle.board.specs.declared.Board.{Board}
use Rattle.board.specs.declared.Stepped.{Stepped}
use Rattle.board.specs.Wiring.{nothing_kept, fresh_of}
use Rattle.board.specs.Records.{after}
use Rattle.intake.specs.declared.Fed.{Fed}
use Rattle.intake.specs.Feed.{bytes_of, count_of, taken, fed_of}
use Rattle.intake.proofs.Calls.{none_left}
use Rattle.promises.specs.Reached.{Bytes, Reached, unfed, fed, uncut, ReachedBoards}
use Rattle.promises.specs.Chopped.{Lump, Left, Room}
use Rattle.promises.proofs.Sizes.{take_bytes, fed_keeps, typed_of, keeps_of, reached_typed}
use Rattle.promises.proofs.Narrow.{narrow}
use Rattle.promises.proofs.Fit.{Fit, fit_in_range, long, fit_of, fit_fed, fit_reached}
use Rattle.promises.proofs.Aside.{step_aside, memory_aside}
use Rattle.promises.proofs.Parts.{after_before}
use Rattle.promises.proofs.Lumps.{called_is}
use Rattle.promises.proofs.EmptyCall.{past_zero}

-- A call that ends with record i, and no byte past it.
module _ (b : Board) (f : Fit b) (tape m : List ℕ) (i room : ℕ) (h : i ≤ count_of b tape) (used : b.kept.length ≤ 8 * i) (enough : 16 * i ≤ room) where
  abbrev n : ℕ
  n = 8 * i - b.kept.length

  abbrev t : List ℕ
  t = take n tape

  abbrev l : Lump
  l = record { tape = t; buffer = replicate room 0 }

  size : length t ≡ n
  size = length-take-le n tape (omega (arith, h))

  count : count_of b t ≡ i
  count = ap (λ (z : ℕ). (b.kept.length + z) / 8) size ∙ omega (arith, used)

  none_kept : (b.kept.length + length t) % 8 ≡ 0
  none_kept = ap (λ (z : ℕ). (b.kept.length + z) % 8) size ∙ omega (arith, used)

  large : length l.buffer ≡ room
  large = length-replicate {A = ℕ} room 0

  roomy : Room b m l
  roomy = rw (count, large) enough

  whole : 8 * i ≡ length (bytes_of b t)
  whole = omega (arith, used, size, long f t)

  all_bytes : bytes_of b t ++ drop n tape ≡ bytes_of b tape
  all_bytes =
      append_assoc (take b.kept.length b.kept.bytes) t (drop n tape)
      ∙ ap (λ (r : List ℕ). take b.kept.length b.kept.bytes ++ r) (take-append-drop n tape)

  same : after b m (bytes_of b tape) i ≡ after b m (bytes_of b t) i
  same =
      ap (λ (s : List ℕ). after b m s i) (sym all_bytes) ∙ after_before b m (bytes_of b t) (drop n tape) i (omega (arith, whole))

  pub ends_there : (fed_of b t m room).board ≡ uncut (after b m (bytes_of b tape) i).board
  ends_there =
      ap (λ (r : ℕ). (fed_of b t m r).board) (sym large)
      ∙ ap (λ (c : Left). c.board) (called_is b m l f roomy)
      ∙ rw (none_kept, count, ← none_left (bytes_of b t) i whole, same)

record_reached : {b : Board} → Reached b → (tape m : List ℕ) (i : ℕ) → suc i ≤ count_of b tape → Bytes tape → Bytes m
    → Reached (uncut (after b m (bytes_of b tape) (suc i)).board)
record_reached {b = b} g tape m i h bt bm =
    let f = fit_reached g in
    let n = 8 * suc i - b.kept.length in
    subst Reached (ends_there b f tape m (suc i) (16 * suc i) h (omega (arith, f.few)) (omega arith))
    (fed (take n tape) m (16 * suc i) (take_bytes n tape bt) bm g)

inside : {b : Board} → Reached b → Reached (uncut b) → (tape m : List ℕ) → Bytes tape → Bytes m → (i : ℕ) → i ≤ count_of b tape
    → Reached (uncut (after b m (bytes_of b tape) i).board)
unfolding after
inside g u tape m bt bm zero h = u
inside g u tape m bt bm (suc i) h = record_reached g tape m i h bt bm

-- A reached board with no byte kept is reached.
pub uncut_reached : {b : Board} → Reached b → Reached (uncut b)
unfolding fresh_of fed_of after
uncut_reached unfed = unfed
uncut_reached (fed {b = b} t m room bt bm g) =
    let h = uncut_reached g in
    either (λ (f : Fed). Reached (uncut f.board)) (taken b t room) (λ _. inside g h t m bt bm (count_of b t) (omega arith)) (λ _. h)

pub reached : ReachedBoards
reached =
    record {
      in_range_law = λ r. fit_in_range (fit_reached r);
      typed = reached_typed;
      narrow = narrow;
      zeros_after = past_zero;
      goes_on_law = λ b h t tape m room bytes.
          let f = fit_fed b tape m room (fit_of b h t) in
          (fit_in_range f, typed_of (fed_keeps b tape m room bytes (keeps_of t)) f.sound f.held);
      ends_there = λ b h t tape m i room. ends_there b (fit_of b h t) tape m i room;
      inside_a_call = λ r. inside r (uncut_reached r);
      kept_apart = λ b r m.
          let e = step_aside nothing_kept.bytes 0 b r m in
          (ap (λ (x : Stepped). x.board) e, ap (λ (x : Stepped). x.answer) e, memory_aside nothing_kept.bytes 0 b r m);
    }
