-- What a cycle comes to that moves a plain unit.
use mathlib.Core.Bool.{Bool, true, false, not, true≢false}
use mathlib.Core.Path.{◌≡◌, refl, sym, ◌∙◌, ap, subst}
use mathlib.Core.List.{List}
use Prim.Native.Nat.{ℕ, ◌%◌}
use native.Mathlib.Omega.{arith}
use borrow.Author.Tests.{leb-false}
use lib.Dec.{leb, eqb}
use lib.ListN.{set}
use Rattle.bits.specs.Choice.{◌and◌, ◌or◌}
use Rattle.bits.specs.Bits.{bit_of}
use Rattle.dma.specs.declared.Channel.{Channel}
use Rattle.dma.specs.declared.Dma.{Dma}
use Rattle.dma.specs.Fields.{chan, served, channels_are}
use Rattle.dma.specs.Report.{moved}
use Rattle.dma.specs.Cycle.{Out, plain_of, single, demand, moved_of, memory_of, byte_of, outside_of, unit_of, cycle_of}

-- the tests of a plain unit, each by itself: serving, no such channel, count 0, END, single, demand, requested
tests : (v l z e s q r : Bool)
    → (v and not l and not ((z or e) or s) and (not q or r)) ≡ true
    → (v ≡ true) × (l ≡ false) × (e ≡ false) × (z ≡ false) × (s ≡ false) × ((q and not r) ≡ false)
tests false l z e s q r h = absurd (true≢false (sym h))
tests true true z e s q r h = absurd (true≢false (sym h))
tests true false true e s q r h = absurd (true≢false (sym h))
tests true false false true s q r h = absurd (true≢false (sym h))
tests true false false false true q r h = absurd (true≢false (sym h))
tests true false false false false true true h = (refl, refl, refl, refl, refl, refl)
tests true false false false false true false h = absurd (true≢false (sym h))
tests true false false false false false r h = (refl, refl, refl, refl, refl, refl)

-- the chip with channel k, which was c, one unit on; the memory; the report
abbrev pub gone_on : Dma → ℕ → ℕ → List ℕ → ℕ → Channel → Out
gone_on d b u m k c =
    record {
      dma = channels_are (set d.channels k (moved_of c false)) d;
      memory = memory_of c m b u;
      report = moved d.channel false false c.current.address (byte_of c m 0 b) (byte_of c m 1 u) (outside_of c m);
    }

abbrev Plain : Dma → Bool → ℕ → Type 0
Plain d e k = plain_of (chan d k) d.serving d.channel d.requests e ≡ true

module _ (d : Dma) (e : Bool) (k : ℕ) (h : Plain d e k) where
  each : (d.serving ≡ true)
      × (leb 4 d.channel ≡ false)
      × (e ≡ false)
      × (eqb (chan d k).current.count 0 ≡ false)
      × (single (chan d k) ≡ false)
      × ((demand (chan d k) and not (bit_of d.requests d.channel)) ≡ false)
  unfolding plain_of
  each =
      let c = chan d k in
      tests d.serving (leb 4 d.channel) (eqb c.current.count 0) e (single c) (demand c) (bit_of d.requests d.channel) h

-- the served channel in its own place
straight : (d : Dma) (e : Bool) (b u : ℕ) (m : List ℕ) → Plain d e d.channel → cycle_of d e b u m ≡ gone_on d b u m d.channel (served d)
unfolding cycle_of unit_of
straight d e b u m h =
    let f = each d e d.channel h in
    rw (f.5, f.3, f.2, f.4, f.0)

-- and in the place that the program looks at
pub plain : (d : Dma) (e : Bool) (b u : ℕ) (m : List ℕ)
    → Plain d e (d.channel % 4)
    → cycle_of d e b u m ≡ gone_on d b u m (d.channel % 4) (chan d (d.channel % 4))
plain d e b u m h =
    let lt = leb-false 4 d.channel (each d e (d.channel % 4) h).1 in
    let q : d.channel % 4 ≡ d.channel = omega (arith, lt) in
    straight d e b u m (subst (Plain d e) q h) ∙ ap (λ (k : ℕ). gone_on d b u m k (chan d k)) (sym q)
