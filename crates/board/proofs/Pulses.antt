-- n pulses of the board: each counter's own, and what the interrupt chip keeps of OUT0.
use mathlib.Core.List.{[], ◌∷◌}
use mathlib.Core.Path.{◌≡◌, refl, ap, ◌∙◌}
use Prim.Native.Nat.{ℕ, zero, suc, ◌<◌}
use Rattle.icu.specs.declared.Icu.{Icu}
use Rattle.timer.specs.declared.Timer.{Timer}
use Rattle.timer.specs.Pulse.{pulse_of}
use Rattle.timer.specs.Run.{ran_of}
use Rattle.timer.specs.Timer.{at, three, pulses_of}
use Rattle.board.specs.declared.Run.{Run}
use Rattle.board.specs.Wiring.{lines_at}
use Rattle.board.specs.Advance.{tick_of, advanced_of}
use Rattle.board.proofs.Line.{told, told_none, told_on, never_rose}

module _ (intp : ℕ) (t : Timer) (c : Icu) (byte : intp < 256) (edges : c.edges < 256) where
  -- each counter by itself
  abbrev pub apart : ℕ → Run
  apart n =
      let x = ran_of (at t 0) n in
      let y = ran_of (at t 1) n in
      let z = ran_of (at t 2) n in
      record {
        timer = three x.counter y.counter z.counter;
        icu = told intp c (at t 0).out x.rises x.counter.out;
        rises = x.rises ∷ y.rises ∷ z.rises ∷ [];
      }

  -- one pulse more
  on : (n : ℕ) → apart (suc n) ≡ tick_of intp (apart n)
  unfolding tick_of ran_of pulses_of lines_at
  on n =
      let x = ran_of (at t 0) n in
      rw (told_on intp byte c edges (at t 0).out x.counter.out (pulse_of x.counter).out x.rises (never_rose (at t 0) n))

  -- n pulses; of none the law would have to know that the timer's list has no fourth counter
  from_one : (n : ℕ) → apart (suc n) ≡ advanced_of intp t c (suc n)
  unfolding advanced_of ran_of tick_of pulses_of lines_at
  from_one zero = on zero ∙ rw (told_none intp byte c edges (at t 0).out)
  from_one (suc n) = on (suc n) ∙ ap (tick_of intp) (from_one n)

  pub pulses : (n : ℕ) → (n ≡ 0 → ⊥) → apart n ≡ advanced_of intp t c n
  pulses zero some = absurd (some refl)
  pulses (suc n) some = from_one n
