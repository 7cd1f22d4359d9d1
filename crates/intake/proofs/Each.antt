-- A test of each of three elements, and of each of four.
use mathlib.Core.Bool.{Bool, true, false, ◌&&◌}
use mathlib.Core.List.{List, [], ◌∷◌}
use mathlib.Core.Path.{◌≡◌, refl}
use native.Mathlib.Omega.{arith}
use lib.ListN.{length, get_or}
use Rattle.std.specs.List.{list_all}
use Rattle.bits.specs.Choice.{◌and◌}

join : (a b c : Bool) → (a && (b && (c && true))) ≡ (a and b and c)
join true true true = refl
join true true false = refl
join true false c = refl
join false b c = refl

module _ {A : Type 0} (p : A → Bool) (x : A) where
  pub three : (xs : List A) → length xs ≡ 3 → list_all p xs ≡ (p (get_or xs 0 x) and p (get_or xs 1 x) and p (get_or xs 2 x))
  three [] h = absurd (omega (arith, h))
  three (a ∷ []) h = absurd (omega (arith, h))
  three (a ∷ b ∷ []) h = absurd (omega (arith, h))
  three (a ∷ b ∷ c ∷ []) h = join (p a) (p b) (p c)
  three (a ∷ b ∷ c ∷ d ∷ xs) h = absurd (omega (arith, h))

  more : (a : Bool) {c d : Bool} → c ≡ d → (a && c) ≡ (a and d)
  more true e = e
  more false e = refl

  pub four : (xs : List A) → length xs ≡ 4 → list_all p xs ≡ (p (get_or xs 0 x) and p (get_or xs 1 x) and p (get_or xs 2 x) and p (get_or xs 3 x))
  four [] h = absurd (omega (arith, h))
  four (a ∷ xs) h = more (p a) (three xs (omega (arith, h)))
