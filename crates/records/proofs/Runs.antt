-- Laws of a run of records, which the loop's proof cites.
use mathlib.Core.Path.{◌≡◌, refl, ap, ◌∙◌}
use mathlib.Core.Bool.{Bool, true, false}
use mathlib.Core.List.{List, ◌++◌}
use Prim.Native.Nat.{ℕ, zero, suc, ◌+◌, ◌*◌, min}
use native.Mathlib.Numerals.{add-one}
use native.Mathlib.Omega.{arith}
use borrow.Author.Tests.{ltb-true, ltb-false}
use lib.Dec.{ltb}
use lib.ListN.{length, drop, length-append}
use lib.Seq.{paste}
use Rattle.std.specs.Prelude.{if◌then◌else◌}
use Rattle.tape.specs.Answers.{answer_of}
use Rattle.board.specs.declared.Board.{Board}
use Rattle.board.specs.declared.Stepped.{Stepped}
use Rattle.board.specs.Wiring.{joined, levels_of}
use Rattle.board.specs.Step.{step_of, step_memory, answered_of}
use Rattle.board.specs.Records.{after, next, record_at}
use Rattle.records.proofs.Lists.{put_next}

-- the lesser of two numbers, in the words of the definitions
pub least : (a b : ℕ) → min a b ≡ (if ltb b a then b else a)
least a b = by_test (ltb b a) refl
  where
    by_test : (q : Bool) → ltb b a ≡ q → min a b ≡ (if q then b else a)
    by_test true e = let h = ltb-true b a e in omega arith
    by_test false e = let h = ltb-false b a e in omega arith

-- every answer is sixteen bytes
pub sixteen : (b : Board) (r m : List ℕ) → length (step_of b r m).answer ≡ 16
unfolding step_of answered_of answer_of
sixteen b r m = refl

-- A turn of the loop over the record r that leaves board b', memory m', INTP j as the master has them and levels l and puts the answer x does what the record's step does.
abbrev pub Turned : Board → List ℕ → List ℕ → Board → List ℕ → ℕ → ℕ → List ℕ → Type 0
Turned b r m b' m' j l x =
    (b' ≡ (step_of b r m).board) × (m' ≡ step_memory b r m) × (x ≡ (step_of b r m).answer) × (j ≡ joined b') × (l ≡ levels_of b')

module _ (b : Board) (m t : List ℕ) where
  -- one record more
  pub more : (i : ℕ) → after b m t (i + 1) ≡ next (after b m t i) (record_at t i)
  unfolding after
  more i = rw add-one

  pub answered : (i : ℕ) → length (after b m t i).answers ≡ 16 * i
  unfolding after
  answered zero = refl
  answered (suc i) =
      let s = after b m t i in
      length-append s.answers (step_of s.board (record_at t i) s.memory).answer
      ∙ omega (arith, answered i, sixteen s.board (record_at t i) s.memory)

  -- one record more: a turn of the loop that does what its record's step does, with the answer put after those before it. (What else holds at the loop's
  -- head is handed on, so that the proof of an arm is this law and nothing around it.)
  pub round : {P Q R : Type 0} → P → Q → R → (i : ℕ) (n n' : Board) (mem r mem' a a' a₀ : List ℕ) (j l : ℕ) (x : List ℕ)
      → n ≡ (after b m t i).board
      → mem ≡ (after b m t i).memory
      → a ≡ (after b m t i).answers ++ drop (16 * i) a₀
      → r ≡ record_at t i
      → Turned n r mem n' mem' j l x
      → a' ≡ paste a (16 * i) x 16
      → P
      × Q
      × R
      × (n' ≡ (after b m t (i + 1)).board)
      × (mem' ≡ (after b m t (i + 1)).memory)
      × (a' ≡ (after b m t (i + 1)).answers ++ drop (16 * (i + 1)) a₀)
      × (j ≡ joined n')
      × (l ≡ levels_of n')
  round p₀ p₁ p₂ i n n' mem r mem' a a' a₀ j l x en em ea er k ea' =
      let s = step_of (after b m t i).board (record_at t i) (after b m t i).memory in
      let q : step_of n r mem ≡ s = cc in
      let em' = k.1 in
      rw (more i) (
        p₀,
        p₁,
        p₂,
        k.0 ∙ ap (λ (y : Stepped). y.board) q,
        cc,
        ea'
            ∙ ap (λ (l : List ℕ). paste l (16 * i) x 16) ea
            ∙ ap (λ (y : List ℕ). paste ((after b m t i).answers ++ drop (16 * i) a₀) (16 * i) y 16) (k.2 ∙ ap (λ (y : Stepped). y.answer) q)
            ∙ put_next (after b m t i).answers a₀ s.answer i (answered i) (sixteen _ _ _),
        k.3,
        k.4,
      )
