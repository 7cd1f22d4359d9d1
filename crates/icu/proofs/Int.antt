-- INT, found by the highest-ranked level that is asked for and the highest-ranked level in service.
use mathlib.Core.Bool.{Bool, true, false, true≢false}
use mathlib.Core.Path.{◌≡◌, refl, sym, ◌∙◌, subst}
use mathlib.Core.Logic.{⊎_elim}
use native.Mathlib.Nat.{eq-or-lt_of_le}
use Prim.Native.Nat.{ℕ, zero, suc, ◌+◌, ◌<◌, ◌≤◌}
use native.Mathlib.Omega.{arith}
use lib.Dec.{ltb}
use borrow.Author.Tests.{lt-ltb, le-ltb, ltb-true, ltb-false}
use Rattle.bits.specs.Choice.{◌and◌, every, some}
use Rattle.std.specs.Prelude.{if◌then◌else◌}
use Rattle.bits.specs.Bits.{bit_of}
use Rattle.bits.proofs.Every.{some_true, some_false, every_true, every_false}
use Rattle.icu.specs.Ranks.{highest_from, highest_of, level_at, rank_of, outranks}

-- a level's rank and a rank's level undo one another
pub rank_level : (l i : ℕ) → i < 8 → rank_of l (level_at l i) ≡ i
unfolding rank_of
rank_level l i h = omega arith

pub level_rank : (l n : ℕ) → n < 8 → level_at l (rank_of l n) ≡ n
unfolding rank_of
level_rank l n h = omega arith

rank_small : (l n : ℕ) → rank_of l n < 8
unfolding rank_of
rank_small l n = omega arith

-- What the search from rank k over n ranks finds: the first rank whose bit is set, or none.
data Search (x l k n : ℕ) : Type 0 where
  at : (i : ℕ) → k ≤ i → i < k + n → bit_of x (level_at l i) ≡ true → ((j : ℕ) → k ≤ j → j < i → bit_of x (level_at l j) ≡ false) → highest_from x l k n ≡ level_at l i → Search x l k n
  none : ((j : ℕ) → k ≤ j → j < k + n → bit_of x (level_at l j) ≡ false) → highest_from x l k n ≡ 8 → Search x l k n

module _ (x l k n : ℕ) where
  further : Search x l (suc k) n → bit_of x (level_at l k) ≡ false → Search x l k (suc n)
  unfolding highest_from
  further (at i h g b f e) q =
      at i (omega arith) (omega arith) b (λ j a c. ⊎_elim (λ s. subst (λ (m : ℕ). bit_of x (level_at l m) ≡ false) s q) (λ s. f j (omega arith) c) (eq-or-lt_of_le a)) (rw q e)
  further (none f e) q =
      none (λ j a c. ⊎_elim (λ s. subst (λ (m : ℕ). bit_of x (level_at l m) ≡ false) s q) (λ s. f j (omega arith) (omega arith)) (eq-or-lt_of_le a)) (rw q e)

  step : (b : Bool) → bit_of x (level_at l k) ≡ b → Search x l (suc k) n → Search x l k (suc n)
  unfolding highest_from
  step true q s = at k (omega arith) (omega arith) q (λ j a c. absurd (omega arith)) (rw q)
  step false q s = further s q

search_from : (x l k n : ℕ) → Search x l k n
unfolding highest_from
search_from x l k zero = none (λ j a c. absurd (omega arith)) refl
search_from x l k (suc n) = step x l k n (bit_of x (level_at l k)) refl (search_from x l (suc k) n)

-- some level of a outranks every level of s
abbrev pub interrupts : ℕ → ℕ → ℕ → Bool
interrupts a s l = some (λ n. bit_of a n and every (λ m. if bit_of s m then outranks l n m else true) 8) 8

guarded : (b t : Bool) → (b ≡ true → t ≡ true) → (if b then t else true) ≡ true
guarded true t h = h refl
guarded false t h = refl

barred : (b t : Bool) → (b ≡ true → t ≡ false) → (b and t) ≡ false
barred true t h = h refl
barred false t h = refl

-- a level, met at its rank
met : (x l n : ℕ) (b : Bool) → n < 8 → bit_of x (level_at l (rank_of l n)) ≡ b → bit_of x n ≡ b
met x l n b h e = rw (level_rank l n h) at e

-- nothing is asked for
pub none_asked : (a s l : ℕ) → 8 ≡ highest_of a l → interrupts a s l ≡ false
unfolding highest_of
none_asked a s l e = quiet (search_from a l 0 8)
  where
    quiet : Search a l 0 8 → interrupts a s l ≡ false
    quiet (at i h g b f q) = absurd (omega arith)
    quiet (none f q) =
        some_false _ 8 (λ n h. barred (bit_of a n) _ (λ b. absurd (true≢false (sym b ∙ met a l n false h (f (rank_of l n) (omega arith) (rank_small l n))))))

-- the highest-ranked level asked for outranks all in service
module _ (a s l i : ℕ) (h : i < 8) (b : bit_of a (level_at l i) ≡ true) where
  wins : ((m : ℕ) → m < 8 → bit_of s m ≡ true → i < rank_of l m) → interrupts a s l ≡ true
  wins f =
      some_true _ 8 (level_at l i) (omega arith)
      (rw b (every_true _ 8 (λ m k. guarded (bit_of s m) _ (λ q. rw (rank_level l i h) (lt-ltb _ _ (f m k q))))))

  -- nothing is in service
  alone : ((j : ℕ) → 0 ≤ j → j < 8 → bit_of s (level_at l j) ≡ false) → interrupts a s l ≡ true
  alone f = wins (λ m k q. absurd (true≢false (sym q ∙ met s l m false k (f (rank_of l m) (omega arith) (rank_small l m)))))

  module _ (j : ℕ) (g : j < 8) (d : bit_of s (level_at l j) ≡ true) where
    above : ((m : ℕ) → 0 ≤ m → m < j → bit_of s (level_at l m) ≡ false) → i < j → interrupts a s l ≡ true
    above f r = wins (λ m k q. higher m k q (ltb (rank_of l m) j) refl)
      where
        higher : (m : ℕ) → m < 8 → bit_of s m ≡ true → (t : Bool) → ltb (rank_of l m) j ≡ t → i < rank_of l m
        higher m k q true u = absurd (true≢false (sym q ∙ met s l m false k (f (rank_of l m) (omega arith) (ltb-true _ _ u))))
        higher m k q false u = omega (arith, ltb-false (rank_of l m) j u)

    beneath : ((m : ℕ) → 0 ≤ m → m < i → bit_of a (level_at l m) ≡ false) → j ≤ i → interrupts a s l ≡ false
    beneath f r = some_false _ 8 (λ n k. barred (bit_of a n) _ (λ q. stopped n k q (ltb (rank_of l n) i) refl))
      where
        stopped : (n : ℕ) → n < 8 → bit_of a n ≡ true → (t : Bool) → ltb (rank_of l n) i ≡ t → every (λ m. if bit_of s m then outranks l n m else true) 8 ≡ false
        stopped n k q true u = absurd (true≢false (sym q ∙ met a l n false k (f (rank_of l n) (omega arith) (ltb-true _ _ u))))
        stopped n k q false u =
            every_false _ 8 (level_at l j) (omega arith) (rw (d, rank_level l j g) (le-ltb (rank_of l n) j (omega (arith, ltb-false (rank_of l n) i u))))

    decided : ((m : ℕ) → 0 ≤ m → m < i → bit_of a (level_at l m) ≡ false) → ((m : ℕ) → 0 ≤ m → m < j → bit_of s (level_at l m) ≡ false) → (t : Bool) → ltb i j ≡ t → interrupts a s l ≡ t
    decided f e true u = above e (ltb-true _ _ u)
    decided f e false u = beneath f (ltb-false _ _ u)

-- something is asked for, and nothing is in service
pub none_served : (a s l : ℕ) → (highest_of a l ≡ 8 → ⊥) → highest_of s l ≡ 8 → interrupts a s l ≡ true
unfolding highest_of
none_served a s l n e = free (search_from a l 0 8) (search_from s l 0 8)
  where
    free : Search a l 0 8 → Search s l 0 8 → interrupts a s l ≡ true
    free (none f q) r = absurd (n q)
    free (at i h g b f q) (at j h' g' b' f' q') = absurd (omega arith)
    free (at i h g b f q) (none f' q') = alone a s l i g b f'

-- both: the ranks decide
pub by_rank : (a s l : ℕ) → (highest_of a l ≡ 8 → ⊥) → (highest_of s l ≡ 8 → ⊥) → interrupts a s l ≡ ltb (rank_of l (highest_of a l)) (rank_of l (highest_of s l))
unfolding highest_of
by_rank a s l n m = ranked (search_from a l 0 8) (search_from s l 0 8)
  where
    ranked : Search a l 0 8 → Search s l 0 8 → interrupts a s l ≡ ltb (rank_of l (highest_from a l 0 8)) (rank_of l (highest_from s l 0 8))
    ranked (none f q) r = absurd (n q)
    ranked (at i h g b f q) (none f' q') = absurd (m q')
    ranked (at i h g b f q) (at j h' g' b' f' q') =
        rw (q, q', rank_level l i g, rank_level l j g') (decided a s l i g b j g' b' f f' (ltb i j) refl)

-- the same of levels that were found
module _ (a s l i : ℕ) (e : i ≡ highest_of a l) (h : i < 8) where
  pub unopposed : 8 ≡ highest_of s l → interrupts a s l ≡ true
  unopposed r = none_served a s l (λ p. omega arith) (sym r)

  module _ (j : ℕ) (q : j ≡ highest_of s l) (k : j < 8) where
    ranks : interrupts a s l ≡ ltb (rank_of l i) (rank_of l j)
    ranks = rw (e, q) (by_rank a s l (λ r. omega arith) (λ r. omega arith))

    pub higher : rank_of l i < rank_of l j → interrupts a s l ≡ true
    higher r = ranks ∙ lt-ltb _ _ r

    pub lower : rank_of l j ≤ rank_of l i → interrupts a s l ≡ false
    lower r = ranks ∙ le-ltb _ _ r
