-- The kept bytes with a tape after them.
use mathlib.Core.Path.{◌≡◌, refl, ap, sym, ◌∙◌}
use mathlib.Core.Bool.{Bool, true, false}
use mathlib.Core.List.{List, ◌++◌}
use Prim.Native.Nat.{ℕ, ◌+◌, ◌-◌, ◌≤◌, ◌<◌}
use native.Mathlib.Omega.{arith}
use borrow.Author.Tests.{ltb-true, ltb-false}
use lib.Dec.{ltb}
use lib.ListN.{length, take, get_or, length-append, get_or-append}
use lib.Seq.{length-take-le, take_all, get_or-take, get_or-append-add}
use Rattle.std.specs.Prelude.{if◌then◌else◌}
use Rattle.tape.specs.Records.{held_of}

-- seven bytes at the most
pub few : (n : ℕ) → held_of n ≤ 7
few n = by_test (ltb 7 n) refl
  where
    by_test : (q : Bool) → ltb 7 n ≡ q → (if q then 7 else n) ≤ 7
    by_test true e = omega arith
    by_test false e = let h = ltb-false 7 n e in omega (arith, h)

module _ (kept : List ℕ) (n : ℕ) (seven : length kept ≡ 7) where
  -- a length past seven takes no more than seven
  pub clipped : take n kept ≡ take (held_of n) kept
  clipped = by_test (ltb 7 n) refl
    where
      by_test : (q : Bool) → ltb 7 n ≡ q → take n kept ≡ take (if q then 7 else n) kept
      by_test true e =
          let h = ltb-true 7 n e in
          take_all n kept (omega (arith, h, seven)) ∙ sym (take_all 7 kept (omega (arith, seven)))
      by_test false e = refl

  pub shortened : length (take n kept) ≡ held_of n
  shortened = ap length clipped ∙ length-take-le (held_of n) kept (let h = few n in omega (arith, h, seven))

  module _ (h : ℕ) (is : h ≡ held_of n) (tape : List ℕ) (j : ℕ) where
    -- a byte that was kept
    pub from_kept : j < h → get_or kept j 0 ≡ get_or (take n kept ++ tape) j 0
    from_kept l =
        sym
        (get_or-append (take n kept) tape 0 j (let k = shortened in omega (arith, l, k, is))
        ∙ ap (λ (x : List ℕ). get_or x j 0) clipped
        ∙ get_or-take (held_of n) kept j 0 (omega (arith, l, is)))

    -- a byte of the tape, or none
    pub from_tape : h ≤ j → get_or tape (j - h) 0 ≡ get_or (take n kept ++ tape) j 0
    from_tape l =
        sym
        (ap (λ (k : ℕ). get_or (take n kept ++ tape) k 0) (let k = shortened in omega (arith, l, k, is))
        ∙ get_or-append-add (take n kept) tape (j - h) 0)

  -- all of them
  pub counted : (h : ℕ) (is : h ≡ held_of n) (tape : List ℕ) → h + length tape ≡ length (take n kept ++ tape)
  counted h is tape =
      let k = shortened in
      let p = length-append (take n kept) tape in omega (arith, k, p, is)
