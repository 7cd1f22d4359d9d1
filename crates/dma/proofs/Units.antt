-- A unit that writes nothing.
use mathlib.Core.Bool.{Bool, true, false}
use mathlib.Core.Path.{◌≡◌, refl}
use mathlib.Core.List.{List}
use Prim.Native.Nat.{ℕ}
use lib.Dec.{ltb}
use Rattle.bits.specs.Choice.{◌and◌}
use Rattle.std.specs.Prelude.{if◌then◌else◌}
use Rattle.dma.specs.declared.Channel.{Channel}
use Rattle.dma.specs.Fields.{word}
use Rattle.dma.specs.Cycle.{poke_of, writes, place, memory_of}

module _ (c : Channel) (m : List ℕ) (b u : ℕ) where
  pub untouched : writes c ≡ false → m ≡ memory_of c m b u
  untouched n = rw n (at (word c))
    where
      at : (w : Bool)
          → m
          ≡ (if ltb 1 (if w then 2 else 1) and false then poke_of (if ltb 0 (if w then 2 else 1) and false then poke_of m (place c 0) b else m) (place c 1) u else (if ltb 0 (if w then 2 else 1) and false then poke_of m (place c 0) b else m))
      at true = refl
      at false = refl
