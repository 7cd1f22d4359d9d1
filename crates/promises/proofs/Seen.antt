-- One record, seen from the channels of the DMA chip.
use mathlib.Core.Path.{◌≡◌, sym, ◌∙◌}
use mathlib.Core.Logic.{◌≢◌}
use mathlib.Core.List.{List, [], ◌∷◌, ◌++◌}
use mathlib.Core.Bool.{Bool, true, false}
use Prim.Native.Nat.{ℕ}
use lib.ListN.{set}
use Rattle.dma.specs.declared.Dma.{Dma}
use Rattle.dma.specs.Fields.{chan, served}
use Rattle.dma.specs.Cycle.{moved_of, memory_of}
use Rattle.promises.specs.Words.{reports_unit, channel_in, address_in, data_in, upper_in}
use Rattle.promises.proofs.Sound.{Sound}

-- Whom a chip may serve after a record that moves no unit: the channel that it served, or an unmasked one.
pub data Serves (d : Dma) (n : ℕ) : Type 0 where
  goes_on_law : d.serving ≡ true → d.channel ≡ n → Serves d n
  starts : (chan d n).masked ≡ false → Serves d n

-- From a chip and a memory to a chip and a memory, with an answer. A record that moves no unit leaves channels and memory, and
-- its answer reports none. One that moves a unit moves the served channel on, and its answer reports it.
pub data Seen (d : Dma) (m : List ℕ) (e : Dma) (l a : List ℕ) : Type 0 where
  still : e.channels ≡ d.channels
      → l ≡ m
      → reports_unit a ≡ false
      → (e.serving ≡ true → Serves d e.channel)
      → Seen d m e l a
  unit : (last : Bool)
      → d.serving ≡ true
      → (last ≡ false → (served d).current.count ≢ 0)
      → e.channels ≡ set d.channels d.channel (moved_of (served d) last)
      → l ≡ memory_of (served d) m (data_in a) (upper_in a)
      → reports_unit a ≡ true
      → channel_in a ≡ d.channel
      → address_in a ≡ (served d).current.address
      → (e.serving ≡ true → (last ≡ false) × (d.channel ≡ e.channel))
      → Seen d m e l a

-- Channels and service are as they were.
pub same : {d : Dma} {m : List ℕ} {e : Dma} {l a : List ℕ}
    → e.channels ≡ d.channels
    → e.serving ≡ d.serving
    → e.channel ≡ d.channel
    → l ≡ m
    → reports_unit a ≡ false
    → Seen d m e l a
same cs sv ch q k = still cs q k (λ h. goes_on_law (sym sv ∙ h) (sym ch))

-- A run as a chain of records so seen, each from a sound chip. What demand 3 says follows from this alone.
pub data Trace : Dma → List ℕ → List (List ℕ) → Dma → List ℕ → Type 0 where
  stop : {d : Dma} {m : List ℕ} → Trace d m [] d m
  step : {d : Dma} {m : List ℕ} {e : Dma} {l a : List ℕ} {rest : List (List ℕ)} {d' : Dma} {m' : List ℕ}
      → Sound d
      → Seen d m e l a
      → Trace e l rest d' m'
      → Trace d m (a ∷ rest) d' m'

-- One record more at the end.
pub snoc : {d : Dma} {m : List ℕ} {rest : List (List ℕ)} {e : Dma} {l : List ℕ} {e' : Dma} {l' a : List ℕ}
    → Trace d m rest e l
    → Sound e
    → Seen e l e' l' a
    → Trace d m (rest ++ a ∷ []) e' l'
snoc stop s see = step s see stop
snoc (step s' see' t) s see = step s' see' (snoc t s see)

-- One run after another.
pub join : {d : Dma} {m : List ℕ} {got : List (List ℕ)} {e : Dma} {l : List ℕ} {more : List (List ℕ)} {e' : Dma} {l' : List ℕ}
    → Trace d m got e l
    → Trace e l more e' l'
    → Trace d m (got ++ more) e' l'
join stop u = u
join (step s see t) u = step s see (join t u)
