-- Laws of `every` and `some`, and what holds of each number below a bound by one test that antt computes.
use Rattle.std.proofs.Common.{◌≡◌, ℕ, zero, suc, ◌<◌, Bool, true, false, not, T, eqb, sym, refl, subst, ⊎_elim, le_of_suc-le-suc, not-suc-le-zero, eq-or-lt_of_le, arith, eqb→eq}
use Rattle.bits.specs.Choice.{◌and◌, ◌or◌, every, some}

and_left : (a b : Bool) → T (a and b) → T a
and_left true b t = tt
and_left false b t = t

and_right : (a b : Bool) → T (a and b) → T b
and_right true b t = t
and_right false b t = absurd t

or_left : (a b : Bool) → a ≡ true → (a or b) ≡ true
or_left a b e = rw e

or_right : (a b : Bool) → b ≡ true → (a or b) ≡ true
or_right true b e = refl
or_right false b e = e

not_left : (a b : Bool) → a ≡ false → (a and b) ≡ false
not_left a b e = rw e

not_right : (a b : Bool) → b ≡ false → (a and b) ≡ false
not_right true b e = e
not_right false b e = refl

-- what `every` found holds at each number
pub below : (f : ℕ → Bool) (n : ℕ) → T (every f n) → (k : ℕ) → k < n → T (f k)
unfolding every
below f zero t k h = absurd (not-suc-le-zero h)
below f (suc n) t k h =
    ⊎_elim
    (λ e. subst (λ (m : ℕ). T (f m)) (sym e) (and_left (f n) (every f n) t))
    (λ l. below f n (and_right (f n) (every f n) t) k l)
    (eq-or-lt_of_le (le_of_suc-le-suc h))

-- the same over two numbers
abbrev pub grid : (ℕ → ℕ → Bool) → ℕ → ℕ → Bool
grid f m n = every (λ x. every (f x) n) m

pub within : (f : ℕ → ℕ → Bool) (m n : ℕ) → T (grid f m n) → (x k : ℕ) → x < m → k < n → T (f x k)
within f m n t x k hx hk = below (f x) n (below (λ x. every (f x) n) m t x hx) k hk

-- two functions agree on the grid
pub agree : (f g : ℕ → ℕ → ℕ) (m n : ℕ) → T (grid (λ x k. eqb (f x k) (g x k)) m n) → (x k : ℕ) → x < m → k < n → f x k ≡ g x k
agree f g m n t x k hx hk = eqb→eq (f x k) (g x k) (within (λ x k. eqb (f x k) (g x k)) m n t x k hx hk)

-- a test that holds at some number, and at none; one that holds at each, and fails at some
pub some_true : (f : ℕ → Bool) (n k : ℕ) → k < n → f k ≡ true → some f n ≡ true
unfolding some
some_true f zero k h e = absurd (not-suc-le-zero h)
some_true f (suc n) k h e =
    ⊎_elim (λ q. or_left (f n) (some f n) (rw q at e)) (λ l. or_right (f n) (some f n) (some_true f n k l e)) (eq-or-lt_of_le (le_of_suc-le-suc h))

pub some_false : (f : ℕ → Bool) (n : ℕ) → ((k : ℕ) → k < n → f k ≡ false) → some f n ≡ false
unfolding some
some_false f zero h = refl
some_false f (suc n) h = rw (h n (omega arith)) (some_false f n (λ k l. h k (omega arith)))

pub every_true : (f : ℕ → Bool) (n : ℕ) → ((k : ℕ) → k < n → f k ≡ true) → every f n ≡ true
unfolding every
every_true f zero h = refl
every_true f (suc n) h = rw (h n (omega arith)) (every_true f n (λ k l. h k (omega arith)))

pub every_false : (f : ℕ → Bool) (n k : ℕ) → k < n → f k ≡ false → every f n ≡ false
unfolding every
every_false f zero k h e = absurd (not-suc-le-zero h)
every_false f (suc n) k h e =
    ⊎_elim (λ q. not_left (f n) (every f n) (rw q at e)) (λ l. not_right (f n) (every f n) (every_false f n k l e)) (eq-or-lt_of_le (le_of_suc-le-suc h))

-- two tests agree at each number below n
abbrev pub same : Bool → Bool → Bool
same true b = b
same false b = not b

same→eq : (a b : Bool) → T (same a b) → a ≡ b
same→eq true true t = refl
same→eq true false t = absurd t
same→eq false true t = absurd t
same→eq false false t = refl

pub alike : (f g : ℕ → Bool) (n : ℕ) → T (every (λ k. same (f k) (g k)) n) → (k : ℕ) → k < n → f k ≡ g k
alike f g n t k h = same→eq (f k) (g k) (below (λ k. same (f k) (g k)) n t k h)
