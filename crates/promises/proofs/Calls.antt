-- A whole call, taken or refused.
use mathlib.Core.Path.{◌≡◌, refl, sym, ap, ◌∙◌}
use mathlib.Core.List.{List, ◌++◌}
use mathlib.Core.Bool.{Bool, true, false}
use Prim.Native.Nat.{ℕ, zero, suc, ◌+◌, ◌*◌, ◌≤◌, ◌<◌}
use native.Mathlib.Nat.{add-zero}
use native.Mathlib.Omega.{arith}
use lib.Dec.{leb}
use lib.ListN.{get_or, length, drop, length-append, length-drop}
use lib.Seq.{drop_at}
use borrow.Author.Tests.{leb-true}
use Rattle.bits.specs.Choice.{◌and◌}
use Rattle.std.specs.Prelude.{if◌then◌else◌}
use Rattle.board.specs.declared.Board.{Board}
use Rattle.board.specs.Step.{step_of}
use Rattle.board.specs.Records.{record_at, Run, after}
use Rattle.intake.specs.Ranges.{in_range}
use Rattle.intake.specs.Records.{rest_at}
use Rattle.intake.specs.Feed.{bytes_of, count_of, taken, refused, done, fed_of, fed_memory, fed_answers}
use Rattle.promises.proofs.Logic.{both_right}
use Rattle.promises.specs.Words.{answer_at}
use Rattle.promises.specs.Demand1.{Taken}
use Rattle.promises.proofs.Runs.{at_before, answered}
use Rattle.promises.proofs.Rows.{room_for, answer_of}

-- The bytes that are left are those past the last whole record.
pub rest_at_law : (s : List ℕ) (n i : ℕ) → i < 7 → get_or (rest_at s n) i 0 ≡ get_or s (8 * n + i) 0
unfolding rest_at
rest_at_law s n zero h = rw add-zero
rest_at_law s n (suc zero) h = refl
rest_at_law s n (suc (suc zero)) h = refl
rest_at_law s n (suc (suc (suc zero))) h = refl
rest_at_law s n (suc (suc (suc (suc zero)))) h = refl
rest_at_law s n (suc (suc (suc (suc (suc zero))))) h = refl
rest_at_law s n (suc (suc (suc (suc (suc (suc zero)))))) h = refl
rest_at_law s n (suc (suc (suc (suc (suc (suc (suc i))))))) h = absurd (omega arith)

-- A record is eight bytes.
pub record_at_law : (s : List ℕ) (n i : ℕ) → i < 8 → get_or (record_at s n) i 0 ≡ get_or s (8 * n + i) 0
unfolding record_at
record_at_law s n zero h = rw add-zero
record_at_law s n (suc zero) h = refl
record_at_law s n (suc (suc zero)) h = refl
record_at_law s n (suc (suc (suc zero))) h = refl
record_at_law s n (suc (suc (suc (suc zero)))) h = refl
record_at_law s n (suc (suc (suc (suc (suc zero))))) h = refl
record_at_law s n (suc (suc (suc (suc (suc (suc zero)))))) h = refl
record_at_law s n (suc (suc (suc (suc (suc (suc (suc zero))))))) h = refl
record_at_law s n (suc (suc (suc (suc (suc (suc (suc (suc i)))))))) h = absurd (omega arith)

module _ (b : Board) (tape m answers : List ℕ) where
  abbrev room : ℕ
  room = length answers

  abbrev k : ℕ
  k = count_of b tape

  abbrev run : Run
  run = after b m (bytes_of b tape) k

  pub room_is : taken b tape room ≡ (in_range b and leb (16 * k) room)
  unfolding taken
  room_is = rw (room_for room k)

  pub status_is : (fed_of b tape m room).status ≡ (if taken b tape room then 0 else 7)
  unfolding fed_of
  status_is = go (taken b tape room)
    where
      go : (q : Bool) → (if q then done b tape m k else refused b).status ≡ (if q then 0 else 7)
      go true = refl
      go false = refl

  abbrev number : Bool → ℕ
  number q = if q then 0 else 7

  taken_7 : (q : Bool) → number q ≡ 7 → q ≡ false
  taken_7 true h = absurd (omega arith)
  taken_7 false h = refl

  taken_0 : (q : Bool) → number q ≡ 0 → q ≡ true
  taken_0 true h = refl
  taken_0 false h = absurd (omega arith)

  pub not_taken : (fed_of b tape m room).status ≡ 7 → taken b tape room ≡ false
  not_taken h = taken_7 (taken b tape room) (sym status_is ∙ h)

  pub is_taken : (fed_of b tape m room).status ≡ 0 → taken b tape room ≡ true
  is_taken h = taken_0 (taken b tape room) (sym status_is ∙ h)

  pub leaves_all : taken b tape room ≡ false
      → ((fed_of b tape m room).board ≡ b)
      × ((fed_of b tape m room).records ≡ 0)
      × (fed_memory b tape m room ≡ m)
      × (fed_answers b tape m answers ≡ answers)
  unfolding fed_of fed_memory fed_answers
  leaves_all q = (rw q, rw q, rw q, rw q)

  module _ (q : taken b tape room ≡ true) where
    pub counts : (fed_of b tape m room).records ≡ k
    unfolding fed_of
    counts = rw q

    pub answers_are : fed_answers b tape m answers ≡ run.answers ++ drop (16 * k) answers
    unfolding fed_answers
    answers_are = rw q

    pub answer_at_law : (i : ℕ) → i < k
        → answer_at (fed_answers b tape m answers) i
        ≡ (step_of (after b m (bytes_of b tape) i).board (record_at (bytes_of b tape) i) (after b m (bytes_of b tape) i).memory).answer
    answer_at_law i l =
        ap (λ (a : List ℕ). answer_at a i) answers_are
        ∙ at_before run.answers (drop (16 * k) answers) i (omega (arith, answered b m (bytes_of b tape) k))
        ∙ answer_of b m (bytes_of b tape) k i l

    pub rest_stays : drop (16 * k) (fed_answers b tape m answers) ≡ drop (16 * k) answers
    rest_stays =
        ap (drop (16 * k)) answers_are ∙ drop_at run.answers (drop (16 * k) answers) (16 * k) (answered b m (bytes_of b tape) k)

    fits : 16 * k ≤ length answers
    fits = leb-true (16 * k) room (both_right (in_range b) (leb (16 * k) room) (sym room_is ∙ q))

    pub length_stays : length (fed_answers b tape m answers) ≡ length answers
    length_stays =
        ap length answers_are
        ∙ length-append run.answers (drop (16 * k) answers)
        ∙ omega (arith, fits, answered b m (bytes_of b tape) k, length-drop (16 * k) answers)

    pub taken_all : Taken b tape m answers
    unfolding fed_of fed_memory after
    taken_all =
        record {
          records = counts;
          answer = answer_at_law;
          eight = λ i j l. record_at_law (bytes_of b tape) i j l;
          start = (refl, refl);
          goes_on_law = λ i. (refl, refl);
          rest = rest_stays;
          long = length_stays;
          icu = rw q;
          intp = rw q;
          slave = rw q;
          slaveintp = rw q;
          timer = rw q;
          dma = rw q;
          memory = rw q;
          kept_length = rw q;
          kept_bytes = kept;
        }
      where
        kept : (i : ℕ) → i < 7 → get_or (fed_of b tape m room).board.kept.bytes i 0 ≡ get_or (bytes_of b tape) (8 * k + i) 0
        kept i l = rw q (rest_at_law (bytes_of b tape) k i l)
