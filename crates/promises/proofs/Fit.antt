-- A board that a call takes, if only there is room; and every call leaves such a board.
use mathlib.Core.Path.{◌≡◌, refl, ap, ◌∙◌}
use mathlib.Core.List.{List}
use mathlib.Core.Bool.{true}
use Prim.Native.Nat.{ℕ, ◌+◌, ◌<◌}
use native.Mathlib.Omega.{arith}
use lib.ListN.{length, take, length-append}
use lib.Seq.{length-take-le}
use borrow.Author.Tests.{lt-ltb, ltb-true}
use Rattle.tape.proofs.Decodes.{either}
use Rattle.board.specs.declared.Board.{Board}
use Rattle.intake.specs.declared.Fed.{Fed}
use Rattle.intake.specs.Ranges.{in_range}
use Rattle.intake.specs.Records.{rest_at}
use Rattle.intake.specs.Feed.{bytes_of, taken, fed_of}
use Rattle.promises.specs.Reached.{Reached, Typed}
use Rattle.promises.proofs.Sound.{Sound}
use Rattle.promises.proofs.Runs.{tests, sound_of, fed_sound, reached_sound}
use Rattle.promises.proofs.BoardKept.{Held, fed_held, reached_held, fed_kept, reached_kept, sound_good}
use Rattle.promises.proofs.Sizes.{reached_keeps}
use Rattle.promises.proofs.IcuKept as the-icu
use Rattle.promises.proofs.TimerKept as the-timer

pub record Fit (b : Board) : Type 0 where
  pub held : Held b
  pub sound : Sound b.dma
  pub few : b.kept.length < 8
  pub seven : length b.kept.bytes ≡ 7

pub fit_in_range : {b : Board} → Fit b → in_range b ≡ true
unfolding in_range
fit_in_range {b = b} f =
    rw (
      lt-ltb b.kept.length 8 f.few,
      f.held.intp,
      the-icu.fine_good b.icu f.held.icu,
      the-icu.fine_good b.slave f.held.slave,
      the-timer.fine_good b.timer f.held.timer,
      sound_good b.dma f.sound,
    )

-- The bytes of a call are those kept and those of the tape.
pub long : {b : Board} → Fit b → (t : List ℕ) → length (bytes_of b t) ≡ b.kept.length + length t
long {b = b} f t =
    length-append (take b.kept.length b.kept.bytes) t
    ∙ ap (λ (z : ℕ). z + length t) (length-take-le b.kept.length b.kept.bytes (omega (arith, f.few, f.seven)))

pub fit_of : (b : Board) → in_range b ≡ true → Typed b → Fit b
fit_of b h t =
    let g = tests b h in
    record {
      held = record {
        intp = g.1;
        icu = the-icu.good_fine b.icu t.icu.isr g.2;
        slave = the-icu.good_fine b.slave t.slave.isr g.3;
        timer = the-timer.good_fine b.timer t.three g.4;
      };
      sound = sound_of b t h;
      few = ltb-true _ _ g.0;
      seven = t.seven;
    }

pub fit_fed : (b : Board) (t m : List ℕ) (room : ℕ) → Fit b → Fit (fed_of b t m room).board
unfolding fed_of rest_at
fit_fed b t m room f =
    record {
      held = fed_held b t m room f.held;
      sound = fed_sound b t m room f.sound;
      few = fed_kept b t m room f.few;
      seven = either (λ (g : Fed). length g.board.kept.bytes ≡ 7) (taken b t room) (λ _. refl) (λ _. f.seven);
    }

pub fit_reached : {b : Board} → Reached b → Fit b
fit_reached r = record { held = reached_held r; sound = reached_sound r; few = reached_kept r; seven = (reached_keeps r).seven }
