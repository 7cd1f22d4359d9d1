-- The bytes that are left, one by one.
use mathlib.Core.Path.{◌≡◌, refl, sym, ap, ◌∙◌}
use mathlib.Core.List.{List}
use Prim.Native.Nat.{ℕ, zero, suc, ◌+◌, ◌*◌, ◌<◌}
use native.Mathlib.Omega.{arith}
use lib.ListN.{length, get_or}
use Rattle.std.proofs.lemmas.List.{same_lists}
use Rattle.intake.specs.Records.{rest_at}

nth : (s : List ℕ) (i k d : ℕ) → k < 7 → get_or (rest_at s i) k d ≡ get_or s (8 * i + k) 0
unfolding rest_at
nth s i zero d h = ap (λ (j : ℕ). get_or s j 0) (omega arith)
nth s i (suc zero) d h = refl
nth s i (suc (suc zero)) d h = refl
nth s i (suc (suc (suc zero))) d h = refl
nth s i (suc (suc (suc (suc zero)))) d h = refl
nth s i (suc (suc (suc (suc (suc zero))))) d h = refl
nth s i (suc (suc (suc (suc (suc (suc zero)))))) d h = refl
nth s i (suc (suc (suc (suc (suc (suc (suc k))))))) d h = absurd (omega (arith, h))

seven : (s : List ℕ) (i : ℕ) → length (rest_at s i) ≡ 7
unfolding rest_at
seven s i = refl

-- seven bytes, each one that is left
pub same : (s xs : List ℕ) (i : ℕ) → length xs ≡ 7 → ((k d : ℕ) → k < 7 → get_or xs k d ≡ get_or s (8 * i + k) 0) → xs ≡ rest_at s i
same s xs i long each =
    same_lists xs (rest_at s i) (long ∙ sym (seven s i)) (λ k d h. each k d (omega arith) ∙ sym (nth s i k d (omega arith)))
