-- An advance: the pulses of the one clock, one by one. No pulse moves a line of the slave, so line 7 stays as it is.
use Rattle.std.specs.Prelude.{ℕ, zero, suc, ◌+◌, List, [], ◌∷◌, ◌++◌, get_or}
use Rattle.tape.specs.Answers.{twelve, little_of}
use Rattle.icu.specs.declared.Icu.{Icu}
use Rattle.icu.specs.Requests.{lines_of}
use Rattle.timer.specs.declared.Timer.{Timer}
use Rattle.timer.specs.Run.{rise_of}
use Rattle.timer.specs.Timer.{at, pulses_of}
use Rattle.board.specs.declared.Board.{Board}
use Rattle.board.specs.Operations.{Outcome}
use Rattle.board.specs.declared.Run.{Run}
use Rattle.board.specs.Wiring.{icu_is, timer_is, lines_at, joined}

-- Counter n's rises with one pulse more.
abbrev pub rose_of : Run → ℕ → ℕ
rose_of r n = get_or r.rises n 0 + rise_of (at r.timer n).out (at (pulses_of r.timer) n).out

-- One pulse of all three counters; OUT0 as it is then reaches the interrupt chip.
unfoldable pub tick_of : ℕ → Run → Run
tick_of intp r =
    record {
      timer = pulses_of r.timer;
      icu = lines_of r.icu (lines_at intp r.timer) (lines_at intp (pulses_of r.timer));
      rises = rose_of r 0 ∷ rose_of r 1 ∷ rose_of r 2 ∷ [];
    }

-- n pulses.
unfoldable pub advanced_of : ℕ → Timer → Icu → ℕ → Run
advanced_of intp t c zero = record { timer = t; icu = c; rises = 0 ∷ 0 ∷ 0 ∷ [] }
advanced_of intp t c (suc n) = tick_of intp (advanced_of intp t c n)

-- The payload: three numbers of four bytes, how many pulses made OUT0, OUT1 and OUT2 rise.
abbrev pub rises_payload : List ℕ → List ℕ
rises_payload rises = little_of (get_or rises 0 0) ++ little_of (get_or rises 1 0) ++ little_of (get_or rises 2 0)

abbrev pub run : Board → ℕ → Run
run b n = advanced_of (joined b) b.timer b.icu n

unfoldable pub advance_of : Board → ℕ → Outcome
advance_of b n =
    record {
      status = 0;
      board = icu_is (run b n).icu (timer_is (run b n).timer b);
      byte = 0;
      payload = twelve (rises_payload (run b n).rises);
    }
