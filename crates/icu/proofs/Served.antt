-- An acknowledge, register by register.
use mathlib.Core.Bool.{Bool, true, false}
use mathlib.Core.Path.{◌≡◌, refl}
use Prim.Native.Nat.{ℕ}
use Rattle.bits.specs.Choice.{◌and◌}
use Rattle.std.specs.Prelude.{if◌then◌else◌, Option, Some, None}
use Rattle.bits.specs.Bits.{with_of, without_of}
use Rattle.icu.specs.declared.Icu.{Icu}
use Rattle.icu.specs.Fields.{edges_is, isr_is, lowest_is}
use Rattle.icu.specs.Service.{served_of, served_by}

-- the three registers of a chip, put into another
abbrev registers_of : Icu → Icu → Icu
registers_of d c = lowest_is d.lowest (isr_is d.isr (edges_is d.edges c))

module _ (c : Icu) (n : ℕ) where
  abbrev served : Bool → Bool → Icu
  served s r =
      if s then
      (if r then lowest_is n (edges_is (without_of c.edges n) c) else edges_is (without_of c.edges n) c)
      else isr_is (with_of c.isr n) (edges_is (without_of c.edges n) c)

  each : (s r : Bool) → served s r ≡ registers_of (served s r) c
  each true true = refl
  each true false = refl
  each false r = refl

pub serves_whole : (c : Icu) (taken : Option ℕ) → served_by c taken ≡ lowest_is (served_by c taken).lowest (isr_is (served_by c taken).isr (edges_is (served_by c taken).edges c))
unfolding served_of
serves_whole c None = refl
serves_whole c (Some n) = each c n c.sfi c.rotation

-- each register by a rule of its own
pub serves_by : (c : Icu) (n : ℕ) (taken : Bool)
    → lowest_is (if c.sfi and c.rotation and taken then n else c.lowest)
    (isr_is (if c.sfi then c.isr else if taken then with_of c.isr n else c.isr)
    (edges_is (if taken then without_of c.edges n else c.edges) c))
    ≡ (if taken then served_of c n else c)
unfolding served_of
serves_by c n taken = go c.sfi c.rotation taken
  where
    go : (s r t : Bool)
        → lowest_is (if s and r and t then n else c.lowest)
        (isr_is (if s then c.isr else if t then with_of c.isr n else c.isr) (edges_is (if t then without_of c.edges n else c.edges) c))
        ≡ (if t then served c n s r else c)
    go true true true = refl
    go true true false = refl
    go true false true = refl
    go true false false = refl
    go false r true = refl
    go false r false = refl
