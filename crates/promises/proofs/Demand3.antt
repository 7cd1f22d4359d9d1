-- Demand 3 is kept.
use mathlib.Core.List.{List}
use Prim.Native.Nat.{ℕ}
use Rattle.dma.specs.declared.Dma.{Dma}
use Rattle.intake.specs.Feed.{bytes_of}
use Rattle.promises.specs.Demand3.{Bounded, Demand3}
use Rattle.promises.proofs.Sound.{Sound}
use Rattle.promises.proofs.Seen.{Trace}
use Rattle.promises.proofs.Runs.{sound, traced, calls_traced, inside_traced, sound_of, reached_sound}
use Rattle.promises.proofs.Moves as the-moves
use Rattle.promises.proofs.Ranges as the-ranges
use Rattle.promises.proofs.Bytes as the-bytes

bounded : {d : Dma} {m : List ℕ} {answers : List (List ℕ)} {e : Dma} {m' : List ℕ} → Sound d → Trace d m answers e m' → Bounded d m answers m'
bounded g t =
    record {
      few = λ k h. (the-moves.moves t k g h).0;
      places = λ k h. (the-moves.moves t k g h).1;
      others = λ p f. the-ranges.keeps t p g f;
      ends = λ p l. the-bytes.ends_as t p l;
      long = the-bytes.long t;
    }

pub demand_3 : Demand3
demand_3 =
    record {
      demand_3 = λ {b} r m s n c. bounded (reached_sound r) (traced b m s n (reached_sound r) c);
      in_range_law = λ b h t m s n c. bounded (sound_of b t h) (traced b m s n (sound_of b t h) c);
      of_calls = λ r f. bounded (reached_sound r) (calls_traced f (reached_sound r)).1;
      from_inside = λ {b} r tape m buffer i l c f.
          bounded (sound b m (bytes_of b tape) i (reached_sound r)) (inside_traced b tape m buffer i (reached_sound r) l c f).1;
    }
