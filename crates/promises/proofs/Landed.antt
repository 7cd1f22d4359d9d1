-- A unit in memory: which bytes it changes, and to what.
use mathlib.Core.Path.{◌≡◌, refl, ap, ◌∙◌}
use mathlib.Core.Logic.{◌≢◌}
use mathlib.Core.List.{List}
use mathlib.Core.Bool.{Bool, true, false}
use Prim.Native.Nat.{ℕ, ◌+◌, ◌*◌, ◌/◌, ◌%◌, ◌<◌}
use native.Mathlib.Omega.{arith}
use lib.Dec.{eqb, ltb}
use lib.ListN.{get_or, set, length, length-set}
use lib.Seq.{get_or-set_same, get_or-set_other}
use borrow.Author.Tests.{eqb-true, eqb-false, lt-ltb}
use Rattle.bits.specs.Choice.{◌and◌}
use Rattle.std.specs.Prelude.{if◌then◌else◌}
use Rattle.dma.specs.declared.Channel.{Channel}
use Rattle.dma.specs.Fields.{word}
use Rattle.dma.specs.Cycle.{writes, size_of, start_of, width, poke_of, memory_of}

-- One byte.
module _ (m : List ℕ) (a x : ℕ) where
  pub poke_length : length (poke_of m a x) ≡ length m
  poke_length = at (ltb a 16777216)
    where
      at : (q : Bool) → length (if q then set m a x else m) ≡ length m
      at true = length-set m a x
      at false = refl

  poke_here : a < 16777216 → a < length m → get_or (poke_of m a x) a 0 ≡ x
  poke_here s l = rw (lt-ltb a 16777216 s) (get_or-set_same m a x 0 l)

  poke_else : (p : ℕ) → p ≢ a → get_or (poke_of m a x) p 0 ≡ get_or m p 0
  poke_else p h = at (ltb a 16777216)
    where
      at : (q : Bool) → get_or (if q then set m a x else m) p 0 ≡ get_or m p 0
      at true = get_or-set_other m a p x 0 h
      at false = refl

-- A unit of one byte or two, by its width k and whether it writes, v.
abbrev stored : Bool → Bool → List ℕ → ℕ → ℕ → ℕ → List ℕ
stored k v m a b u =
    if ltb 1 (size_of k) and v then
    poke_of (if ltb 0 (size_of k) and v then poke_of m (start_of (size_of k) a + 0) b else m) (start_of (size_of k) a + 1) u
    else if ltb 0 (size_of k) and v then poke_of m (start_of (size_of k) a + 0) b
    else m

module _ (m : List ℕ) (a b u : ℕ) where
  same_long : (k v : Bool) → length (stored k v m a b u) ≡ length m
  same_long true true =
      poke_length (poke_of m (a / 2 * 2 + 0) b) (a / 2 * 2 + 1) u ∙ poke_length m (a / 2 * 2 + 0) b
  same_long true false = refl
  same_long false true = poke_length m (a / 1 * 1 + 0) b
  same_long false false = refl

  -- Any other place stays.
  miss : (k v : Bool) (p : ℕ) → start_of (size_of k) a ≢ start_of (size_of k) p → get_or (stored k v m a b u) p 0 ≡ get_or m p 0
  miss true true p h =
      poke_else (poke_of m (a / 2 * 2 + 0) b) (a / 2 * 2 + 1) u p (λ e. h (omega (arith, e)))
      ∙ poke_else m (a / 2 * 2 + 0) b p (λ e. h (omega (arith, e)))
  miss true false p h = refl
  miss false true p h = poke_else m (a / 1 * 1 + 0) b p (λ e. h (omega (arith, e)))
  miss false false p h = refl

  -- Each place of the unit has its byte.
  hit : (k : Bool) (p : ℕ) → a < 16777216 → p < length m → start_of (size_of k) a ≡ start_of (size_of k) p
      → get_or (stored k true m a b u) p 0 ≡ (if eqb (p % size_of k) 0 then b else u)
  hit true p s l e = at (eqb (p % 2) 0) refl
    where
      at : (q : Bool) → eqb (p % 2) 0 ≡ q → get_or (stored true true m a b u) p 0 ≡ (if q then b else u)
      at true q =
          let h = eqb-true (p % 2) 0 q in
          let z : p ≡ a / 2 * 2 + 0 = omega arith in
          let n : p ≢ a / 2 * 2 + 1 = λ y. omega arith in
          poke_else (poke_of m (a / 2 * 2 + 0) b) (a / 2 * 2 + 1) u p n
          ∙ ap (λ (y : ℕ). get_or (poke_of m (a / 2 * 2 + 0) b) y 0) z
          ∙ poke_here m (a / 2 * 2 + 0) b (omega arith) (omega (arith, z, l))
      at false q =
          let h = eqb-false (p % 2) 0 q in
          let z : p ≡ a / 2 * 2 + 1 = omega arith in
          ap (λ (y : ℕ). get_or (stored true true m a b u) y 0) z
          ∙ poke_here (poke_of m (a / 2 * 2 + 0) b) (a / 2 * 2 + 1) u (omega arith) (rw (poke_length m (a / 2 * 2 + 0) b) (omega (arith, z, l)))
  hit false p s l e =
      let z : p ≡ a / 1 * 1 + 0 = omega arith in
      let one : p % 1 ≡ 0 = omega arith in
      rw one
      (ap (λ (y : ℕ). get_or (stored false true m a b u) y 0) z ∙ poke_here m (a / 1 * 1 + 0) b (omega arith) (omega (arith, z, l)))

-- The same of a channel's unit.
module _ (c : Channel) (m : List ℕ) (b u : ℕ) where
  pub unit_length : length (memory_of c m b u) ≡ length m
  unit_length = same_long m c.current.address b u (word c) (writes c)

  pub missed : (p : ℕ) → start_of (width c) c.current.address ≢ start_of (width c) p → get_or (memory_of c m b u) p 0 ≡ get_or m p 0
  missed p h = miss m c.current.address b u (word c) (writes c) p h

  pub landed : (p : ℕ) → c.current.address < 16777216 → p < length m
      → get_or (memory_of c m b u) p 0
      ≡ (if writes c and eqb (start_of (width c) c.current.address) (start_of (width c) p) then (if eqb (p % width c) 0 then b else u) else get_or m p 0)
  landed p s l = at (writes c) (eqb (start_of (width c) c.current.address) (start_of (width c) p)) refl
    where
      at : (v q : Bool) → eqb (start_of (width c) c.current.address) (start_of (width c) p) ≡ q
          → get_or (stored (word c) v m c.current.address b u) p 0 ≡ (if v and q then (if eqb (p % width c) 0 then b else u) else get_or m p 0)
      at true true q = hit m c.current.address b u (word c) p s l (eqb-true _ _ q)
      at true false q = miss m c.current.address b u (word c) true p (eqb-false _ _ q)
      at false z q = still (word c)
        where
          still : (k : Bool) → get_or (stored k false m c.current.address b u) p 0 ≡ get_or m p 0
          still true = refl
          still false = refl
