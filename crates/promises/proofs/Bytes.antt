-- A byte ends as what the last unit reported there by a channel that writes memory has at its place.
use mathlib.Core.Path.{◌≡◌, refl, sym, ap, ◌∙◌}
use mathlib.Core.List.{List}
use mathlib.Core.Bool.{Bool}
use Prim.Native.Nat.{ℕ, ◌<◌, ◌/◌, ◌%◌}
use lib.Dec.{eqb}
use lib.ListN.{get_or, length}
use Rattle.std.specs.Prelude.{if◌then◌else◌}
use Rattle.bits.specs.Bits.{bit_of}
use Rattle.dma.specs.declared.Dma.{Dma}
use Rattle.dma.specs.Fields.{chan, served}
use Rattle.dma.specs.Cycle.{writes}
use Rattle.promises.specs.Words.{unit_at, last_at, moved_at, channel_in, data_in, upper_in, width}
use Rattle.promises.proofs.Sound.{Sound}
use Rattle.promises.proofs.Seen.{Seen, still, unit, Trace, stop, step}
use Rattle.promises.proofs.Change.{change_by, mode_kept, length_kept}
use Rattle.promises.proofs.Landed.{landed}

-- One record. The channels that write are those of w, and v has their widths.
byte_by : (d : Dma) (m : List ℕ) (e : Dma) (l a : List ℕ) (w : ℕ → Bool) (v : ℕ → ℕ) (p : ℕ)
    → Sound d
    → ((n : ℕ) → w n ≡ writes (chan d n))
    → ((n : ℕ) → v n ≡ width (chan d n))
    → p < length m
    → Seen d m e l a
    → get_or l p 0 ≡ (if unit_at w v p a then moved_at (v (channel_in a)) p a else get_or m p 0)
byte_by d m e l a w v p s f g h (still _ q k _) = rw (q, k)
byte_by d m e l a w v p s f g h (unit last sv more cs q k ch ad _) =
    rw (q, k, ch, ad, f d.channel, g d.channel)
    (landed (served d) m (data_in a) (upper_in a) p (s.good d.channel).address h)

bytes : {d : Dma} {m : List ℕ} {got : List (List ℕ)} {d' : Dma} {m' : List ℕ} → Trace d m got d' m' → (w : ℕ → Bool) (v : ℕ → ℕ) (p : ℕ)
    → ((n : ℕ) → w n ≡ writes (chan d n))
    → ((n : ℕ) → v n ≡ width (chan d n))
    → p < length m
    → get_or m' p 0 ≡ last_at w v p got (get_or m p 0)
unfolding last_at
bytes stop w v p f g h = refl
bytes (step {d = d} {m = m} {e = e} {l = l} {a = a} {rest = more} s see t) w v p f g h =
    let kept : (n : ℕ) → (chan d n).mode ≡ (chan e n).mode = λ n. sym (mode_kept d e a n (change_by d m e l a n s see)) in
    bytes t w v p
    (λ n. f n ∙ ap (λ (x : ℕ). eqb (x / 4 % 4) 1) (kept n))
    (λ n. g n ∙ ap (λ (x : ℕ). if bit_of x 0 then 2 else 1) (kept n))
    (rw (length_kept d m e l a see) h)
    ∙ ap (last_at w v p more) (byte_by d m e l a w v p s f g h see)

pub ends_as : {d : Dma} {m : List ℕ} {got : List (List ℕ)} {d' : Dma} {m' : List ℕ} → Trace d m got d' m' → (p : ℕ) → p < length m
    → get_or m' p 0 ≡ last_at (λ n. writes (chan d n)) (λ n. width (chan d n)) p got (get_or m p 0)
ends_as {d} t p h = bytes t (λ n. writes (chan d n)) (λ n. width (chan d n)) p (λ n. refl) (λ n. refl) h

pub long : {d : Dma} {m : List ℕ} {got : List (List ℕ)} {d' : Dma} {m' : List ℕ} → Trace d m got d' m' → length m' ≡ length m
long stop = refl
long (step {d = d} {m = m} {e = e} {l = l} {a = a} s see t) = long t ∙ length_kept d m e l a see
