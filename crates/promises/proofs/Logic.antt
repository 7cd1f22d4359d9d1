-- Tests.
use mathlib.Core.Path.{◌≡◌, refl, sym, subst}
use mathlib.Core.Bool.{Bool, true, false, false≢true}
use Prim.Native.Nat.{ℕ, ◌<◌}
use lib.Dec.{T}
use Rattle.bits.specs.Choice.{◌and◌, ◌or◌, every}
use Rattle.bits.proofs.Every.{below}

pub both_left : (p q : Bool) → (p and q) ≡ true → p ≡ true
both_left true q h = refl
both_left false q h = h

pub both_right : (p q : Bool) → (p and q) ≡ true → q ≡ true
both_right true q h = h
both_right false q h = absurd (false≢true h)

pub both : (p q : Bool) → p ≡ true → q ≡ true → (p and q) ≡ true
both p q h k = rw (h, k)

pub left_false : (u v : Bool) → (u or v) ≡ false → u ≡ false
left_false true v h = h
left_false false v h = refl

pub or_true : (q : Bool) → (q or true) ≡ true
or_true true = refl
or_true false = refl

pub or_false : (q : Bool) → (q or false) ≡ q
or_false true = refl
or_false false = refl

pub or_first : (p q : Bool) → p ≡ true → (p or q) ≡ true
or_first p q h = rw h

pub or_second : (p q : Bool) → q ≡ true → (p or q) ≡ true
or_second true q h = refl
or_second false q h = h

pub and_true : (q : Bool) → (q and true) ≡ q
and_true true = refl
and_true false = refl

pub and_false : (q : Bool) → (q and false) ≡ false
and_false true = refl
and_false false = refl

-- A test that holds.
pub T_true : (q : Bool) → T q → q ≡ true
T_true true t = refl
T_true false t = absurd t

-- What holds of each number below n.
pub each_true : (f : ℕ → Bool) (n : ℕ) → every f n ≡ true → (k : ℕ) → k < n → f k ≡ true
each_true f n h k l = T_true (f k) (below f n (subst T (sym h) tt) k l)
