-- A request of the master that went away. In edge trigger a level is requested exactly if its line is high, rose while the chip was ready, since the last IW1 or
-- reset, and was not acknowledged since: a line has to be held.
--
-- Words.antt has the words line_high (the line of level k: OUT0 for level 0, INTP1 to INTP6, and for level 7 INTP7 or the slave's INT) and requested (in edge trigger, a bit of the chip's register;
-- a read of IRR shows it, Taught.antt, masking_hides_nothing).
use Rattle.std.specs.Prelude.{◌≡◌, ◌↔◌, ◌⊎◌, List, Bool, true, false, not, ℕ, suc, ◌≤◌, ◌<◌, eqb, ltb, get_or}
use Rattle.bits.specs.Choice.{◌and◌, ◌or◌}
use Rattle.bits.specs.Bits.{bit_of}
use Rattle.board.specs.declared.Board.{Board}
use Rattle.board.specs.Wiring.{fresh_of, int}
use Rattle.board.specs.Step.{step_of}
use Rattle.board.specs.Records.{record_at, after}
use Rattle.promises.specs.Words.{Highest, line_high, requested, asked_for}
use Rattle.promises.specs.Modes.{rises_in}
use Rattle.promises.specs.Reached.{Reached, Bytes}

-- Edge trigger: IW1 with D3=0. (So it is before any IW1, too; nothing is requested then.)
abbrev pub edge_trigger : Board → Bool
edge_trigger b = not (bit_of b.icu.iw1 3)

-- An answer counts rises of OUT0: it is that of an advance that was accepted, and its first number is not 0.
abbrev pub counts_rise : List ℕ → Bool
counts_rise a = eqb (get_or a 0 0) 0 and eqb (get_or a 1 0) 5 and ltb 0 (rises_in 0 a)

-- Line k rose in a record that found the board b, left the board c and was answered with a: it was low before and is high after it; or it is line 0, and the answer
-- counts a rise of OUT0, which may have been high before the record, or be low again after it.
abbrev pub rose : Board → Board → List ℕ → ℕ → Bool
rose b c a k = (not (line_high b k) and line_high c k) or (eqb k 0 and counts_rise a)

-- The record r with its answer a is a reset, or an IW1 (a write at 00H with D4=1), and accepted.
abbrev pub restarts : List ℕ → List ℕ → Bool
restarts r a = eqb (get_or a 0 0) 0 and (eqb (get_or r 0 0) 0 or (eqb (get_or r 0 0) 1 and eqb (get_or r 1 0) 0 and bit_of (get_or r 2 0) 4))

-- The record r with its answer a acknowledges level k of the board b: it is an acknowledge, accepted, that finds INT high, and of the levels asked for k is the highest-ranked.
pub record Acknowledges (b : Board) (r a : List ℕ) (k : ℕ) : Type 0 where
  pub operation : get_or r 0 0 ≡ 4
  pub accepted : get_or a 0 0 ≡ 0
  pub high : int b ≡ true
  pub level : Highest (asked_for b) b.icu.lowest k

-- Of the bytes s, from the board b and the memory m on: the board that record i finds (and the first i records leave), and its answer.
abbrev pub found : Board → List ℕ → List ℕ → ℕ → Board
found b m s i = (after b m s i).board

abbrev pub answer : Board → List ℕ → List ℕ → ℕ → List ℕ
answer b m s i = (step_of (after b m s i).board (record_at s i) (after b m s i).memory).answer

-- From record i up to record n there is no reset, no IW1, and no acknowledge of level k.
abbrev pub Undisturbed : Board → List ℕ → List ℕ → ℕ → ℕ → ℕ → Type 0
Undisturbed b m s k i n =
    (j : ℕ)
    → i ≤ j
    → j < n
    → (restarts (record_at s j) (answer b m s j) ≡ false)
    × (Acknowledges (found b m s j) (record_at s j) (answer b m s j) k → ⊥)

-- The request of level k stands after n records: in one of them line k rose while the chip was ready (stage 3), and nothing has ended it since but, perhaps, a fall.
pub record Stands (b : Board) (m s : List ℕ) (k n : ℕ) : Type 0 where
  pub at : ℕ
  pub before : at < n
  pub ready : (found b m s at).icu.stage ≡ 3
  pub rises : rose (found b m s at) (found b m s (suc at)) (answer b m s at) k ≡ true
  pub since : Undisturbed b m s k (suc at) n

-- The same where it was requested from the first.
pub record StillStands (b : Board) (m s : List ℕ) (k n : ℕ) : Type 0 where
  pub first : requested b k ≡ true
  pub since : Undisturbed b m s k 0 n

pub record Withdrawn : Type 0 where
  -- After any records from reset, with the chip in edge trigger then.
  -- Not so: a board on which a fall leaves the request, masked or not; one on which an acknowledge of another level, or one that finds INT low, takes it; one that takes a rise before the
  -- chip is ready; one that looks at OUT0 once an advance.
  pub from_reset : (m s : List ℕ) → Bytes s → (n k : ℕ) → k < 8
      → edge_trigger (found fresh_of m s n) ≡ true
      → (requested (found fresh_of m s n) k ≡ true) ↔ ((line_high (found fresh_of m s n) k ≡ true) × Stands fresh_of m s k n)
  -- The same from any board reached: what is requested there goes on like what rises later. (The bytes of a call are those kept and then its tape, and a call leaves the chips that its records
  -- leave: Demand1.antt, Taken.)
  -- Not so: a board that drops at the first record what was requested before; one on which that outlives the fall of its line.
  pub from_reached : {b : Board} → Reached b → (m s : List ℕ) → Bytes s → (n k : ℕ) → k < 8
      → edge_trigger (found b m s n) ≡ true
      → (requested (found b m s n) k ≡ true)
      ↔ ((line_high (found b m s n) k ≡ true) × (Stands b m s k n ⊎ StillStands b m s k n))
