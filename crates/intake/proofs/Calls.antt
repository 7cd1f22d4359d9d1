-- A call by the number of its bytes: refused for want of room, or run.
use mathlib.Core.Bool.{true, false}
use mathlib.Core.Path.{◌≡◌, refl, sym, ap, ◌∙◌}
use mathlib.Core.List.{List, [], ◌∷◌, ◌++◌}
use Prim.Native.Nat.{ℕ, ◌+◌, ◌*◌, ◌/◌, ◌%◌, ◌<◌, ◌≤◌}
use native.Mathlib.Omega.{arith}
use borrow.Author.Tests.{lt-ltb, le-ltb}
use lib.ListN.{length, drop, get_or, get_or-eq_default}
use Rattle.tape.specs.Records.{held_of}
use Rattle.tape.proofs.Kept.{counted as tape_counted}
use Rattle.board.specs.declared.Board.{Board}
use Rattle.board.specs.Records.{after, fitting}
use Rattle.intake.specs.Ranges.{in_range}
use Rattle.intake.specs.Records.{rest_at}
use Rattle.intake.specs.Feed.{bytes_of, count_of, taken, keeping, fed_of, fed_memory, fed_answers}
use Rattle.intake.proofs.Ranges.{all_held}

-- nothing is left where the records end with the bytes
pub none_left : (s : List ℕ) (i : ℕ) → 8 * i ≡ length s → 0 ∷ 0 ∷ 0 ∷ 0 ∷ 0 ∷ 0 ∷ 0 ∷ [] ≡ rest_at s i
unfolding rest_at
none_left s i e =
    rw (past (8 * i) (omega (arith, e)), past (8 * i + 1) (omega (arith, e)), past (8 * i + 2) (omega (arith, e)), past (8 * i + 3) (omega (arith, e)), past (8 * i + 4) (omega (arith, e)), past (8 * i + 5) (omega (arith, e)), past (8 * i + 6) (omega (arith, e)))
  where
    past : (j : ℕ) → length s ≤ j → get_or s j 0 ≡ 0
    past j h = get_or-eq_default s 0 h

-- a board out of its range
pub spoilt : (b : Board) (t : List ℕ) (room : ℕ) → in_range b ≡ false → taken b t room ≡ false
unfolding taken
spoilt b t room e = rw e

module _ (b : Board) (t m a : List ℕ) (total : ℕ) (good : in_range b ≡ true) (all : total ≡ length (bytes_of b t)) (seven : length b.kept.bytes ≡ 7) where
  both : total ≡ b.kept.length + length t
  both =
      all
      ∙ sym (tape_counted b.kept.bytes b.kept.length seven (held_of b.kept.length) refl t)
      ∙ ap (λ (n : ℕ). n + length t) (all_held b good)

  counted : total / 8 ≡ count_of b t
  counted = ap (λ (n : ℕ). n / 8) both

  -- too small a buffer
  pub small : length a / 16 < total / 8 → taken b t (length a) ≡ false
  unfolding taken
  small h = rw (good, ← counted, lt-ltb _ _ h)

  module _ (fits : total / 8 ≤ length a / 16) where
    pub roomy : taken b t (length a) ≡ true
    unfolding taken
    roomy = rw (good, ← counted, le-ltb _ _ fits)

    whole : fitting (bytes_of b t) (length a) ≡ count_of b t
    whole = rw (← all, le-ltb _ _ fits) counted

    pub fed : (n : Board) (rest : List ℕ)
        → n ≡ (after b m (bytes_of b t) (fitting (bytes_of b t) (length a))).board
        → rest ≡ rest_at (bytes_of b t) (total / 8)
        → record { status = 0; records = total / 8; board = keeping rest (total % 8) n } ≡ fed_of b t m (length a)
    unfolding fed_of
    fed n rest en er = rw (roomy, en, er, whole, counted, both)

    pub fed_memory_law : (m' : List ℕ) → m' ≡ (after b m (bytes_of b t) (fitting (bytes_of b t) (length a))).memory → m' ≡ fed_memory b t m (length a)
    unfolding fed_memory
    fed_memory_law m' e = rw roomy (e ∙ ap (λ (n : ℕ). (after b m (bytes_of b t) n).memory) whole)

    pub fed_answers_law : (a' : List ℕ)
        → a' ≡ (after b m (bytes_of b t) (fitting (bytes_of b t) (length a))).answers ++ drop (16 * fitting (bytes_of b t) (length a)) a
        → a' ≡ fed_answers b t m a
    unfolding fed_answers
    fed_answers_law a' e = rw roomy (e ∙ ap (λ (n : ℕ). (after b m (bytes_of b t) n).answers ++ drop (16 * n) a) whole)
