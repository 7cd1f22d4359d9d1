-- An advance, counter by counter.
use mathlib.Core.Path.{◌≡◌, refl, sym, ap, ◌∙◌}
use mathlib.Core.List.{List, [], ◌∷◌}
use mathlib.Core.Bool.{Bool, true, false}
use Prim.Native.Nat.{ℕ, zero, suc, ◌+◌, ◌*◌, ◌/◌, ◌%◌, ◌≤◌, ◌<◌}
use native.Mathlib.Nat.{add-zero, add-suc, add_assoc}
use native.Mathlib.Omega.{arith}
use lib.ListN.{get_or}
use borrow.Author.Tests.{le-leb}
use Rattle.bits.specs.Choice.{◌and◌}
use Rattle.std.specs.Prelude.{if◌then◌else◌}
use Rattle.tape.specs.declared.Operation.TheVariants.{Advance}
use Rattle.tape.specs.Records.{unused, pulse_count, decode_of}
use Rattle.tape.specs.Answers.{answer_of}
use Rattle.icu.specs.declared.Icu.{Icu}
use Rattle.timer.specs.declared.Counter.{Counter}
use Rattle.timer.specs.declared.Timer.{Timer}
use Rattle.timer.specs.declared.Ran.{Ran}
use Rattle.timer.specs.Run.{rise_of, ran_on, ran_of}
use Rattle.timer.specs.Pulse.{pulse_of}
use Rattle.timer.specs.Timer.{at, pulses_of}
use Rattle.board.specs.declared.Board.{Board}
use Rattle.board.specs.declared.Run.{Run}
use Rattle.board.specs.declared.Stepped.{Stepped}
use Rattle.board.specs.Operations.{refused}
use Rattle.board.specs.Advance.{rose_of, tick_of, advanced_of, run, advance_of}
use Rattle.board.specs.Wiring.{joined, levels_of}
use Rattle.board.specs.Step.{execute_of, memory_after, blocked, outcome_of, memory_of, answered_of, step_of, step_memory}
use Rattle.promises.specs.Records.{advancing}
use Rattle.promises.specs.Modes.{rises_in}
use Rattle.promises.specs.Chopped.{AdvanceInTwo}
use Rattle.promises.proofs.Plain.{pulse_at}

-- An advance is carried out, whoever has the bus.
advanced : (b : Board) (m : List ℕ) (k : ℕ) → k < 65536 → step_of b (advancing k) m ≡ answered_of 5 (advance_of b k)
unfolding step_of decode_of unused pulse_count outcome_of execute_of blocked
advanced b m k h =
    let e : k % 256 + k / 256 % 256 * 256 + k / 65536 % 256 * 65536 + k / 16777216 * 16777216 ≡ k = omega arith in
    rw (e, le-leb k 65535 (omega arith)) (go b.dma.serving)
  where
    go : (q : Bool) → answered_of 5 (if q and false then refused 1 b else advance_of b k) ≡ answered_of 5 (advance_of b k)
    go true = refl
    go false = refl

-- Counter n of the three, and its rises, by itself.
rose_at : (r : Run) (n : ℕ) → n < 3 → get_or (rose_of r 0 ∷ rose_of r 1 ∷ rose_of r 2 ∷ []) n 0 ≡ rose_of r n
rose_at r zero h = refl
rose_at r (suc zero) h = refl
rose_at r (suc (suc zero)) h = refl
rose_at r (suc (suc (suc n))) h = absurd (omega arith)

none_yet : (n : ℕ) → n < 3 → ◌≡◌ {A = ℕ} (get_or (0 ∷ 0 ∷ 0 ∷ []) n 0) 0
none_yet zero h = refl
none_yet (suc zero) h = refl
none_yet (suc (suc zero)) h = refl
none_yet (suc (suc (suc n))) h = absurd (omega arith)

pub record Alone (t : Timer) (n k : ℕ) (r : Run) : Type 0 where
  pub counter : at r.timer n ≡ (ran_of (at t n) k).counter
  pub rises : get_or r.rises n 0 ≡ (ran_of (at t n) k).rises

pub alone : (i : ℕ) (t : Timer) (c : Icu) (n k : ℕ) → n < 3 → Alone t n k (advanced_of i t c k)
unfolding advanced_of tick_of ran_of
alone i t c n zero few = record { counter = refl; rises = none_yet n few }
alone i t c n (suc k) few =
    let r = advanced_of i t c k in
    let h = alone i t c n k few in
    let e = pulse_at r.timer n few in
    record {
      counter = e ∙ ap pulse_of h.counter;
      rises = rose_at r n few
          ∙ ap (λ (x : ℕ). x + rise_of (at r.timer n).out (at (pulses_of r.timer) n).out) h.rises
          ∙ ap (λ (d : Counter). (ran_of (at t n) k).rises + rise_of (at r.timer n).out d.out) e
          ∙ ap (λ (d : Counter). (ran_of (at t n) k).rises + rise_of d.out (pulse_of d).out) h.counter;
    }

-- A pulse makes OUT rise once at most.
rise_once : (was now : Bool) → rise_of was now ≤ 1
rise_once true now = omega arith
rise_once false true = omega arith
rise_once false false = omega arith

pub few_rises : (c : Counter) (k : ℕ) → (ran_of c k).rises ≤ k
unfolding ran_of
few_rises c zero = omega arith
few_rises c (suc k) =
    let h = few_rises c k in
    let o = rise_once (ran_of c k).counter.out (pulse_of (ran_of c k).counter).out in
    omega (arith, h, o)

left : (b : Board) (k n : ℕ) → at (answered_of 5 (advance_of b k)).board.timer n ≡ at (run b k).timer n
unfolding answered_of advance_of
left b k n = refl

-- The four bytes make the number up again.
four_bytes : (x : ℕ) → x < 65536 → x % 256 + x / 256 % 256 * 256 + x / 65536 % 256 * 65536 + x / 16777216 % 256 * 16777216 ≡ x
four_bytes x h = omega arith

pub reported : (b : Board) (k n : ℕ) → n < 3 → get_or (run b k).rises n 0 < 65536 → rises_in n (answered_of 5 (advance_of b k)).answer ≡ get_or (run b k).rises n 0
unfolding answered_of advance_of answer_of
reported b k zero few h = four_bytes (get_or (run b k).rises 0 0) h
reported b k (suc zero) few h = four_bytes (get_or (run b k).rises 1 0) h
reported b k (suc (suc zero)) few h = four_bytes (get_or (run b k).rises 2 0) h
reported b k (suc (suc (suc n))) few h = absurd (omega arith)

module _ (b : Board) (m : List ℕ) (n k : ℕ) (few : n < 3) (h : k < 65536) where
  pub counter_alone : at (step_of b (advancing k) m).board.timer n ≡ (ran_of (at b.timer n) k).counter
  counter_alone =
      ap (λ (s : Stepped). at s.board.timer n) (advanced b m k h) ∙ left b k n ∙ (alone (joined b) b.timer b.icu n k few).counter

  pub rises_alone : rises_in n (step_of b (advancing k) m).answer ≡ (ran_of (at b.timer n) k).rises
  rises_alone =
      let q = (alone (joined b) b.timer b.icu n k few).rises in
      let small : get_or (run b k).rises n 0 < 65536 = rw q (omega (arith, few_rises (at b.timer n) k)) in
      ap (λ (s : Stepped). rises_in n s.answer) (advanced b m k h) ∙ reported b k n few small ∙ q

-- Pulses in two parts: of one counter, and of the board.
module _ (c : Counter) (i : ℕ) where
  abbrev further : Ran → Ran
  further r = record { counter = r.counter; rises = (ran_of c i).rises + r.rises }

  one_more : (r : Ran) → ran_on (further r) ≡ further (ran_on r)
  one_more r = ap (λ (x : ℕ). record { counter = (ran_on r).counter; rises = x }) (add_assoc (ran_of c i).rises r.rises (rise_of r.counter.out (pulse_of r.counter).out))

  ran_on_law : (j : ℕ) → ran_of c (i + j) ≡ further (ran_of (ran_of c i).counter j)
  unfolding ran_of
  ran_on_law zero = rw (add-zero i, add-zero (ran_of c i).rises)
  ran_on_law (suc j) = ap (ran_of c) (add-suc i j) ∙ ap ran_on (ran_on_law j) ∙ one_more (ran_of (ran_of c i).counter j)

module _ (intp : ℕ) (t : Timer) (c : Icu) (i : ℕ) where
  abbrev first : Run
  first = advanced_of intp t c i

  abbrev onward : ℕ → Run
  onward j = advanced_of intp first.timer first.icu j

  timer_on : (j : ℕ) → (advanced_of intp t c (i + j)).timer ≡ (onward j).timer
  unfolding advanced_of tick_of
  timer_on zero = rw add-zero
  timer_on (suc j) = rw (add-suc, timer_on j)

  icu_on : (j : ℕ) → (advanced_of intp t c (i + j)).icu ≡ (onward j).icu
  unfolding advanced_of tick_of
  icu_on zero = rw add-zero
  icu_on (suc j) = rw (add-suc, timer_on j, icu_on j)

-- An advance leaves the memory; it is accepted, and answers with the levels after it.
module _ (b : Board) (m : List ℕ) (k : ℕ) (h : k < 65536) where
  advance_memory : step_memory b (advancing k) m ≡ m
  unfolding step_memory decode_of unused pulse_count memory_of memory_after
  advance_memory =
      let e : k % 256 + k / 256 % 256 * 256 + k / 65536 % 256 * 65536 + k / 16777216 * 16777216 ≡ k = omega arith in
      rw (e, le-leb k 65535 (omega arith)) (go (blocked b (Advance k)))
    where
      go : (q : Bool) → ◌≡◌ {A = List ℕ} (if q then m else m) m
      go true = refl
      go false = refl

  pub advance_board : (step_of b (advancing k) m).board ≡ (advance_of b k).board
  unfolding answered_of
  advance_board = ap (λ (s : Stepped). s.board) (advanced b m k h)

  advance_status : get_or (step_of b (advancing k) m).answer 0 0 ≡ 0
  unfolding answered_of answer_of advance_of
  advance_status = ap (λ (s : Stepped). get_or s.answer 0 0) (advanced b m k h)

  advance_levels : get_or (step_of b (advancing k) m).answer 3 0 ≡ levels_of (step_of b (advancing k) m).board
  unfolding answered_of answer_of
  advance_levels = ap (λ (s : Stepped). get_or s.answer 3 0) (advanced b m k h) ∙ ap levels_of (sym advance_board)

module _ (b : Board) (m : List ℕ) (i j : ℕ) (h : i + j < 65536) where
  abbrev m' : List ℕ
  m' = step_memory b (advancing i) m

  abbrev b' : Board
  b' = (step_of b (advancing i) m).board

  hi : i < 65536
  hi = omega (arith, h)

  hj : j < 65536
  hj = omega (arith, h)

  board_on : (advance_of (advance_of b i).board j).board ≡ (advance_of b (i + j)).board
  unfolding advance_of
  board_on = rw (timer_on (joined b) b.timer b.icu i j, icu_on (joined b) b.timer b.icu i j)

  same_board : (step_of b' (advancing j) m').board ≡ (step_of b (advancing (i + j)) m).board
  same_board =
      advance_board b' m' j hj
      ∙ ap (λ (d : Board). (advance_of d j).board) (advance_board b m i hi)
      ∙ board_on
      ∙ sym (advance_board b m (i + j) h)

  pub advance_in_two : AdvanceInTwo b m i j
  advance_in_two =
      record {
        accepted = (advance_status b m i hi, advance_status b' m' j hj, advance_status b m (i + j) h);
        board = same_board;
        memory = advance_memory b' m' j hj ∙ advance_memory b m i hi ∙ sym (advance_memory b m (i + j) h);
        levels = advance_levels b' m' j hj ∙ ap levels_of same_board ∙ sym (advance_levels b m (i + j) h);
        rises = λ n few.
            let c = at b.timer n in
            ap (λ (x : ℕ). x + rises_in n (step_of b' (advancing j) m').answer) (rises_alone b m n i few hi)
            ∙ ap (λ (x : ℕ). (ran_of c i).rises + x) (rises_alone b' m' n j few hj)
            ∙ ap (λ (d : Counter). (ran_of c i).rises + (ran_of d j).rises) (counter_alone b m n i few hi)
            ∙ sym (ap (λ (r : Ran). r.rises) (ran_on_law c i j))
            ∙ sym (rises_alone b m n (i + j) few h);
      }

-- No pulse.
pub no_pulse : (b : Board) (m : List ℕ)
    → ((step_of b (advancing 0) m).board ≡ b)
    × (step_memory b (advancing 0) m ≡ m)
    × ((n : ℕ) → n < 3 → rises_in n (step_of b (advancing 0) m).answer ≡ 0)
unfolding advance_of advanced_of ran_of
no_pulse b m = (advance_board b m 0 (omega arith), advance_memory b m 0 (omega arith), λ n few. rises_alone b m n 0 few (omega arith))
