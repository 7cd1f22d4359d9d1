-- The words in which the rules of the chips are written.
use Rattle.std.specs.Prelude.{ℕ, zero, suc, Bool, true, false}

-- Both, and one of the two at least.
infixr 20 ◌and◌
abbrev pub ◌and◌ : Bool → Bool → Bool
true and b = b
false and b = false

infixr 20 ◌or◌
abbrev pub ◌or◌ : Bool → Bool → Bool
true or b = true
false or b = b

-- The test holds of each number below n, and of some number below n.
unfoldable pub every : (ℕ → Bool) → ℕ → Bool
every f zero = true
every f (suc n) = f n and every f n

unfoldable pub some : (ℕ → Bool) → ℕ → Bool
some f zero = false
some f (suc n) = f n or some f n
