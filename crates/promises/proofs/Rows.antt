-- The rows of the table, by their tests.
use mathlib.Core.Path.{◌≡◌, refl, sym, ◌∙◌}
use mathlib.Core.Logic.{◌↔◌}
use mathlib.Core.List.{List, ◌++◌}
use mathlib.Core.Bool.{Bool, true, false, not}
use Prim.Native.Nat.{ℕ, zero, suc, ◌*◌, ◌/◌, ◌<◌}
use native.Mathlib.Omega.{arith}
use lib.Dec.{eqb, ltb, leb}
use borrow.Author.Tests.{eqb-true, eq-eqb, ltb-true, ltb-false, le-leb, lt-leb}
use Rattle.bits.specs.Choice.{◌and◌}
use Rattle.std.specs.Prelude.{if◌then◌else◌}
use Rattle.board.specs.declared.Board.{Board}
use Rattle.board.specs.Step.{step_of}
use Rattle.board.specs.Records.{record_at, after}
use Rattle.promises.specs.Words.{answer_at}
use Rattle.promises.proofs.Steps.{answer_length}
use Rattle.promises.proofs.Runs.{at_before, at_last, answered}

-- The status, by the tests: well formed, held up by DMA, out of turn, not built, count 1.
abbrev due_by : Bool → Bool → Bool → Bool → Bool → ℕ
due_by f h o n c = if f then (if h then 1 else if o then 3 else if n then 4 else if c then 6 else 0) else 2

pub small : (f h o n c : Bool) → due_by f h o n c < 7
small true true o n c = omega arith
small true false true n c = omega arith
small true false false true c = omega arith
small true false false false true = omega arith
small true false false false false = omega arith
small false h o n c = omega arith

pub is_0 : (f h o n c : Bool) → eqb (due_by f h o n c) 0 ≡ (f and not h and not o and not n and not c)
is_0 true true o n c = refl
is_0 true false true n c = refl
is_0 true false false true c = refl
is_0 true false false false true = refl
is_0 true false false false false = refl
is_0 false h o n c = refl

pub is_1 : (f h o n c : Bool) → eqb (due_by f h o n c) 1 ≡ (f and h)
is_1 true true o n c = refl
is_1 true false true n c = refl
is_1 true false false true c = refl
is_1 true false false false true = refl
is_1 true false false false false = refl
is_1 false h o n c = refl

pub is_2 : (f h o n c : Bool) → eqb (due_by f h o n c) 2 ≡ (not f)
is_2 true true o n c = refl
is_2 true false true n c = refl
is_2 true false false true c = refl
is_2 true false false false true = refl
is_2 true false false false false = refl
is_2 false h o n c = refl

pub is_3 : (f h o n c : Bool) → eqb (due_by f h o n c) 3 ≡ (f and not h and o)
is_3 true true o n c = refl
is_3 true false true n c = refl
is_3 true false false true c = refl
is_3 true false false false true = refl
is_3 true false false false false = refl
is_3 false h o n c = refl

pub is_4 : (f h o n c : Bool) → eqb (due_by f h o n c) 4 ≡ (f and not h and not o and n)
is_4 true true o n c = refl
is_4 true false true n c = refl
is_4 true false false true c = refl
is_4 true false false false true = refl
is_4 true false false false false = refl
is_4 false h o n c = refl

pub is_5 : (f h o n c : Bool) → eqb (due_by f h o n c) 5 ≡ false
is_5 true true o n c = refl
is_5 true false true n c = refl
is_5 true false false true c = refl
is_5 true false false false true = refl
is_5 true false false false false = refl
is_5 false h o n c = refl

pub is_6 : (f h o n c : Bool) → eqb (due_by f h o n c) 6 ≡ (f and not h and not o and not n and c)
is_6 true true o n c = refl
is_6 true false true n c = refl
is_6 true false false true c = refl
is_6 true false false false true = refl
is_6 true false false false false = refl
is_6 false h o n c = refl

-- A number is k exactly if a test says so.
pub exactly : (s t k : ℕ) (q : Bool) → s ≡ t → eqb t k ≡ q → (s ≡ k) ↔ (q ≡ true)
exactly s t k q e h = (λ z. sym h ∙ eq-eqb t k (sym e ∙ z), λ z. e ∙ eqb-true t k (h ∙ z))

-- k answers have room exactly if 16 k bytes have.
pub room_for : (room k : ℕ) → not (ltb (room / 16) k) ≡ leb (16 * k) room
room_for room k = go (ltb (room / 16) k) refl
  where
    go : (q : Bool) → ltb (room / 16) k ≡ q → not q ≡ leb (16 * k) room
    go true q = let l = ltb-true (room / 16) k q in sym (lt-leb (16 * k) room (omega arith))
    go false q = let l = ltb-false (room / 16) k q in sym (le-leb (16 * k) room (omega arith))

-- Answer i of a run is that of record i.
module _ (b : Board) (m s : List ℕ) where
  pub answer_of : (n i : ℕ) → i < n
      → answer_at (after b m s n).answers i ≡ (step_of (after b m s i).board (record_at s i) (after b m s i).memory).answer
  unfolding after
  answer_of zero i h = absurd (omega arith)
  answer_of (suc n) i h = go (ltb i n) refl (answer_of n i)
    where
      x : List ℕ
      x = (step_of (after b m s n).board (record_at s n) (after b m s n).memory).answer

      go : (q : Bool) → ltb i n ≡ q
          → (i < n → answer_at (after b m s n).answers i ≡ (step_of (after b m s i).board (record_at s i) (after b m s i).memory).answer)
          → answer_at ((after b m s n).answers ++ x) i ≡ (step_of (after b m s i).board (record_at s i) (after b m s i).memory).answer
      go true q ih =
          let l = ltb-true i n q in
          at_before (after b m s n).answers x i (omega (arith, answered b m s n)) ∙ ih l
      go false q ih =
          let e : i ≡ n = omega (arith, ltb-false i n q) in
          rw e (at_last (after b m s n).answers x n (answered b m s n) (answer_length (after b m s n).board (record_at s n) (after b m s n).memory))
