-- What `array::from_fn` makes, where a call gives a function of its index and leaves what the closure holds.
use mathlib.Core.List.{List}
use mathlib.Core.Path.{◌≡◌, subst, ◌∙◌}
use Prim.Native.Nat.{ℕ, zero, suc, ◌+◌, ◌<◌, ◌≤◌}
use native.Mathlib.Omega.{arith}
use denote.Param.Members.{Mut, Called}
use lib.ListN.{get_or}
use Rattle.std.proofs.Common.{⊎_elim, eq-or-lt_of_le}
use Rattle.std.specs.Array.{IsFromFnResult, IsFromFnResultFrom}

module _ {F : Type 0} (g : Mut F (ℕ × Unit {0}) ℕ) (f : F) (ys : List ℕ) (h : ℕ → ℕ) (calls : (i y : ℕ) (q : F) → Called g f (i, tt) y q → (q ≡ f) × (y ≡ h i)) where
  later : (n i j d : ℕ) → IsFromFnResultFrom g f ys i n → i ≤ j → j < i + n → get_or ys j d ≡ h j
  later zero i j d r a b = absurd (omega (arith, a, b))
  later (suc n) i j d (q, y, e, c, r) a b =
      ⊎_elim
      (λ p. subst (λ (k : ℕ). get_or ys k d ≡ h k) p (e.1 d ∙ (calls i y q c).1))
      (λ l. later n (i + 1) j d (subst (λ (x : F). IsFromFnResultFrom g x ys (i + 1) n) (calls i y q c).0 r) (omega (arith, l)) (omega (arith, b)))
      (eq-or-lt_of_le a)

  pub made : {n : ℕ} → IsFromFnResult g f ys n → (k d : ℕ) → k < n → get_or ys k d ≡ h k
  made {n} r k d l = later n 0 k d r.each (omega arith) (omega (arith, l))
