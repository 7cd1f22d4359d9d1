-- Demand 1 is kept.
use mathlib.Core.Path.{◌≡◌, refl, sym, ap, ◌∙◌}
use mathlib.Core.Logic.{◌⊎◌, inl, inr}
use mathlib.Core.List.{List}
use mathlib.Core.Bool.{Bool, true, false, not, true≢false}
use Prim.Native.Nat.{ℕ, ◌*◌}
use lib.Dec.{leb}
use lib.ListN.{get_or, length}
use borrow.Author.Tests.{eq-eqb, ne_eqb, not-true}
use Rattle.bits.specs.Choice.{◌and◌}
use Rattle.std.specs.Prelude.{if◌then◌else◌}
use Rattle.tape.specs.Answers.{answer_of}
use Rattle.board.specs.declared.Board.{Board}
use Rattle.board.specs.Wiring.{levels_of}
use Rattle.board.specs.Step.{answered_of, step_of}
use Rattle.intake.specs.Ranges.{in_range}
use Rattle.intake.specs.Feed.{count_of, taken}
use Rattle.promises.specs.Table.{formed, held, out_of_turn, not_built, counts_one}
use Rattle.promises.specs.Demand1.{status_of, OfRecord, OfCall, Demand1}
use Rattle.promises.proofs.Readings.{status_due}
use Rattle.promises.proofs.Refusals.{board_stays, memory_stays, answer_fixed}
use Rattle.promises.proofs.Steps.{answer_length}
use Rattle.promises.proofs.Rows.{small, is_0, is_1, is_2, is_3, is_4, is_5, is_6, exactly}
use Rattle.promises.proofs.Calls.{room_is, status_is, not_taken, is_taken, leaves_all, taken_all}

-- The operation and the levels, of any record.
operation_shown : (b : Board) (r m : List ℕ) → get_or (step_of b r m).answer 1 0 ≡ get_or r 0 0
unfolding step_of answered_of answer_of
operation_shown b r m = refl

levels_shown : (b : Board) (r m : List ℕ) → get_or (step_of b r m).answer 3 0 ≡ levels_of (step_of b r m).board
unfolding step_of answered_of answer_of
levels_shown b r m = refl

module _ (b : Board) (r m : List ℕ) where
  of_record : OfRecord b r m
  of_record =
      record {
        status_due = status_due b r m;
        record_status = rw (status_due b r m) (small (formed r) (held b r) (out_of_turn b r) (not_built b r) (counts_one b r));
        never_5 = λ e.
            true≢false (sym (eq-eqb _ 5 (sym (status_due b r m) ∙ e)) ∙ is_5 (formed r) (held b r) (out_of_turn b r) (not_built b r) (counts_one b r));
        answer_shape = (answer_length b r m, operation_shown b r m, levels_shown b r m);
        refused_record = λ h.
            let q = ne_eqb (status_of b r m) 0 h in
            (board_stays b m r q, memory_stays b m r q, answer_fixed b m r q);
        row_2 = exactly _ _ 2 _ (status_due b r m) (is_2 (formed r) (held b r) (out_of_turn b r) (not_built b r) (counts_one b r));
        row_1 = exactly _ _ 1 _ (status_due b r m) (is_1 (formed r) (held b r) (out_of_turn b r) (not_built b r) (counts_one b r));
        row_3 = exactly _ _ 3 _ (status_due b r m) (is_3 (formed r) (held b r) (out_of_turn b r) (not_built b r) (counts_one b r));
        row_4 = exactly _ _ 4 _ (status_due b r m) (is_4 (formed r) (held b r) (out_of_turn b r) (not_built b r) (counts_one b r));
        row_6 = exactly _ _ 6 _ (status_due b r m) (is_6 (formed r) (held b r) (out_of_turn b r) (not_built b r) (counts_one b r));
        row_0 = exactly _ _ 0 _ (status_due b r m) (is_0 (formed r) (held b r) (out_of_turn b r) (not_built b r) (counts_one b r));
      }

module _ (b : Board) (tape m answers : List ℕ) where
  room : ℕ
  room = length answers

  zero_or_seven : {s : ℕ} (q : Bool) → s ≡ (if q then 0 else 7) → (s ≡ 0) ⊎ (s ≡ 7)
  zero_or_seven true h = inl h
  zero_or_seven false h = inr h

  of_call : OfCall b tape m answers
  unfolding room
  of_call =
      record {
        call_status = zero_or_seven (taken b tape room) (status_is b tape m answers);
        row_7 = (
          λ z. ap not (sym (room_is b tape m answers) ∙ not_taken b tape m answers z),
          λ z. status_is b tape m answers
              ∙ ap (λ (q : Bool). if q then 0 else 7) (room_is b tape m answers ∙ not-true (in_range b and leb (16 * count_of b tape) room) z),
        );
        refused_call = λ h. leaves_all b tape m answers (not_taken b tape m answers h);
        taken_call = λ h. taken_all b tape m answers (is_taken b tape m answers h);
      }

pub demand_1 : Demand1
demand_1 = record { of_record = of_record; of_call = of_call }
