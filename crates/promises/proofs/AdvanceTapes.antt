-- An advance in two, in a tape.
use mathlib.Core.Path.{◌≡◌, refl, sym, ap, ◌∙◌}
use mathlib.Core.List.{List, ◌++◌, append_assoc}
use Prim.Native.Nat.{ℕ, ◌+◌, ◌*◌, ◌<◌}
use native.Mathlib.Omega.{arith}
use lib.ListN.{length, take, drop, length-append}
use lib.Seq.{take_at, drop_at}
use Rattle.board.specs.declared.Board.{Board}
use Rattle.board.specs.Step.{step_of, step_memory}
use Rattle.board.specs.Records.{record_at, Run, after}
use Rattle.promises.specs.Records.{advancing}
use Rattle.promises.specs.Chopped.{with_one, with_two}
use Rattle.promises.proofs.Runs.{answered}
use Rattle.promises.proofs.Parts.{joining, on_from, after_before}
use Rattle.promises.proofs.Advances.{advance_in_two}

-- Bytes s of k records, and more: the run of the first, and one on from there.
then_on : (b : Board) (m s t : List ℕ) (k n : ℕ) → length s ≡ 8 * k
    → after b m (s ++ t) (k + n) ≡ joining (after b m s k) (after (after b m s k).board (after b m s k).memory t n)
then_on b m s t k n l =
    on_from b m (s ++ t) k n
    ∙ ap (λ (q : Run). joining q (after q.board q.memory (drop (8 * k) (s ++ t)) n)) (after_before b m s t k (omega (arith, l)))
    ∙ ap (λ (d : List ℕ). joining (after b m s k) (after (after b m s k).board (after b m s k).memory d n)) (drop_at s t (8 * k) l)

-- One advance, and two.
one : (b : Board) (m : List ℕ) (i : ℕ)
    → after b m (advancing i) 1 ≡ record { board = (step_of b (advancing i) m).board; memory = step_memory b (advancing i) m; answers = (step_of b (advancing i) m).answer }
unfolding after record_at
one b m i = refl

two : (b : Board) (m : List ℕ) (i j : ℕ)
    → after b m (advancing i ++ advancing j) 2
    ≡ record {
      board = (step_of (step_of b (advancing i) m).board (advancing j) (step_memory b (advancing i) m)).board;
      memory = step_memory (step_of b (advancing i) m).board (advancing j) (step_memory b (advancing i) m);
      answers = (step_of b (advancing i) m).answer ++ (step_of (step_of b (advancing i) m).board (advancing j) (step_memory b (advancing i) m)).answer;
    }
unfolding after record_at
two b m i j = refl

-- What comes of t after an advance that leaves a run.
abbrev on : Run → List ℕ → ℕ → Run
on q t n = joining q (after q.board q.memory t n)

module _ (b : Board) (m s t : List ℕ) (i j k n : ℕ) (h : i + j < 65536) (l : length s ≡ 8 * k) where
  abbrev here : Run
  here = after b m s k

  abbrev whole : Run
  whole = after here.board here.memory (advancing (i + j)) 1

  abbrev parts : Run
  parts = after here.board here.memory (advancing i ++ advancing j) 2

  with_one_law : with_one b m s t i j k n ≡ joining here (on whole t n)
  with_one_law =
      ap (λ (d : List ℕ). after b m d (k + (1 + n))) (append_assoc s (advancing (i + j)) t)
      ∙ then_on b m s (advancing (i + j) ++ t) k (1 + n) l
      ∙ ap (joining here) (then_on here.board here.memory (advancing (i + j)) t 1 n refl)

  with_two_law : with_two b m s t i j k n ≡ joining here (on parts t n)
  with_two_law =
      ap (λ (d : List ℕ). after b m (d ++ t) (k + (2 + n))) (append_assoc s (advancing i) (advancing j))
      ∙ ap (λ (d : List ℕ). after b m d (k + (2 + n))) (append_assoc s (advancing i ++ advancing j) t)
      ∙ then_on b m s ((advancing i ++ advancing j) ++ t) k (2 + n) l
      ∙ ap (joining here) (then_on here.board here.memory (advancing i ++ advancing j) t 2 n refl)

  same_board : parts.board ≡ whole.board
  same_board =
      ap (λ (q : Run). q.board) (two here.board here.memory i j)
      ∙ (advance_in_two here.board here.memory i j h).board
      ∙ sym (ap (λ (q : Run). q.board) (one here.board here.memory (i + j)))

  same_memory : parts.memory ≡ whole.memory
  same_memory =
      ap (λ (q : Run). q.memory) (two here.board here.memory i j)
      ∙ (advance_in_two here.board here.memory i j h).memory
      ∙ sym (ap (λ (q : Run). q.memory) (one here.board here.memory (i + j)))

  later : after parts.board parts.memory t n ≡ after whole.board whole.memory t n
  later = rw (same_board, same_memory)

  last_answers : (a x y : List ℕ) (p : ℕ) → length a + length x ≡ p → drop p (a ++ (x ++ y)) ≡ y
  last_answers a x y p e = ap (drop p) (sym (append_assoc a x y)) ∙ drop_at (a ++ x) y p (length-append a x ∙ e)

  pub in_a_tape : ((with_two b m s t i j k n).board ≡ (with_one b m s t i j k n).board)
      × ((with_two b m s t i j k n).memory ≡ (with_one b m s t i j k n).memory)
      × (take (16 * k) (with_two b m s t i j k n).answers ≡ take (16 * k) (with_one b m s t i j k n).answers)
      × (drop (16 * (k + 2)) (with_two b m s t i j k n).answers ≡ drop (16 * (k + 1)) (with_one b m s t i j k n).answers)
  in_a_tape = (
    ap (λ (q : Run). q.board) with_two_law ∙ ap (λ (q : Run). q.board) later ∙ sym (ap (λ (q : Run). q.board) with_one_law),
    ap (λ (q : Run). q.memory) with_two_law ∙ ap (λ (q : Run). q.memory) later ∙ sym (ap (λ (q : Run). q.memory) with_one_law),
    ap (λ (q : Run). take (16 * k) q.answers) with_two_law
        ∙ take_at here.answers _ (16 * k) (answered b m s k)
        ∙ sym (take_at here.answers _ (16 * k) (answered b m s k))
        ∙ sym (ap (λ (q : Run). take (16 * k) q.answers) with_one_law),
    ap (λ (q : Run). drop (16 * (k + 2)) q.answers) with_two_law
        ∙ last_answers here.answers parts.answers _ (16 * (k + 2)) (omega (arith, answered b m s k, answered here.board here.memory (advancing i ++ advancing j) 2))
        ∙ ap (λ (q : Run). q.answers) later
        ∙ sym (last_answers here.answers whole.answers _ (16 * (k + 1)) (omega (arith, answered b m s k, answered here.board here.memory (advancing (i + j)) 1)))
        ∙ sym (ap (λ (q : Run). drop (16 * (k + 1)) q.answers) with_one_law),
  )
