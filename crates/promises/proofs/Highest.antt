-- The highest-ranked level of a byte.
use mathlib.Core.Path.{◌≡◌, refl, sym, ap, ◌∙◌}
use mathlib.Core.Logic.{◌≢◌}
use mathlib.Core.Bool.{Bool, true, false, not, true≢false}
use Prim.Native.Nat.{ℕ, zero, suc, ◌+◌, ◌<◌}
use native.Mathlib.Nat.{add-zero, mod-eq_of_lt}
use native.Mathlib.Omega.{arith}
use lib.Dec.{eqb, ltb}
use borrow.Author.Tests.{ltb-true, ltb-false}
use Rattle.bits.specs.Choice.{◌and◌, ◌or◌, every}
use Rattle.bits.specs.Bits.{bit_of, with_of, without_of}
use Rattle.bits.proofs.Every.{below, alike, same}
use Rattle.icu.specs.Ranks.{level_at, rank_of, highest_from, highest_of}
use Rattle.promises.specs.Words.{before, Highest}

-- A rank whose bit is set, with none set before it, is found.
first_set : (x l k left j : ℕ) → j < left
    → bit_of x (level_at l (k + j)) ≡ true
    → ((i : ℕ) → i < j → bit_of x (level_at l (k + i)) ≡ false)
    → highest_from x l k left ≡ level_at l (k + j)
unfolding highest_from
first_set x l k zero j h b f = absurd (omega arith)
first_set x l k (suc left) zero h b f = rw (add-zero, rw add-zero at b)
first_set x l k (suc left) (suc j) h b f =
    let e : k + suc j ≡ suc k + j = omega arith in
    rw (rw add-zero at (f 0 (omega arith)), e)
    (first_set x l (suc k) left j (omega arith) (rw e at b) (λ i q. let z : k + suc i ≡ suc k + i = omega arith in rw z at (f (suc i) (omega arith))))

-- A level's rank and a rank's level undo one another.
level_rank : (l n : ℕ) → n < 8 → level_at l (0 + rank_of l n) ≡ n
unfolding rank_of
level_rank l n h = omega arith

rank_level : (l j : ℕ) → j < 8 → rank_of l (level_at l (0 + j)) ≡ j
unfolding rank_of
rank_level l j h = omega arith

rank_small : (l n : ℕ) → rank_of l n < 8
unfolding rank_of
rank_small l n = omega arith

-- How many levels come before one is its rank.
pub rank_before : (l n : ℕ) → l < 8 → n < 8 → rank_of l n ≡ before l n
unfolding rank_of
rank_before l n h k = rw (mod-eq_of_lt k, mod-eq_of_lt h) refl

pub highest_is : (x l n : ℕ) → l < 8 → Highest (λ k. bit_of x k) l n → highest_of x l ≡ n
unfolding highest_of
highest_is x l n low h =
    first_set x l 0 8 i (rank_small l n) (rw (level_rank l n h.level) h.chosen) (λ j q. clear j q (bit_of x (level_at l (0 + j))) refl)
    ∙ level_rank l n h.level
  where
    i : ℕ
    i = rank_of l n

    clear : (j : ℕ) → j < i → (q : Bool) → bit_of x (level_at l (0 + j)) ≡ q → bit_of x (level_at l (0 + j)) ≡ false
    clear j q false b = b
    clear j q true b =
        let r : rank_of l (level_at l (0 + j)) ≡ j = rank_level l j (omega (arith, rank_small l n)) in
        let ne : level_at l (0 + j) ≢ n = λ e. let z : i ≡ j = ap (rank_of l) (sym e) ∙ r in omega arith in
        let o = h.over (level_at l (0 + j)) (omega arith) b ne in
        let u = rank_before l n low h.level in
        let v = rank_before l (level_at l (0 + j)) low (omega arith) in
        absurd (omega (arith, o, u, v, r))

-- Where a level is in service, one of them is highest-ranked: the first rank whose bit is set.
abbrev First : ℕ → ℕ → ℕ → ℕ → Type 0
First x l k left =
    (i : ℕ) × (i < left) × (bit_of x (level_at l (k + i)) ≡ true) × ((j : ℕ) → j < i → bit_of x (level_at l (k + j)) ≡ false)

first : (x l k left j : ℕ) → j < left → bit_of x (level_at l (k + j)) ≡ true → First x l k left
first x l k zero j h b = absurd (omega arith)
first x l k (suc left) zero h b = (0, omega arith, b, λ j q. absurd (omega arith))
first x l k (suc left) (suc j) h b = go (bit_of x (level_at l (k + 0))) refl (first x l (suc k) left j (omega arith) (rw (next j) at b))
  where
    next : (i : ℕ) → k + suc i ≡ suc k + i
    next i = omega arith

    go : (q : Bool) → bit_of x (level_at l (k + 0)) ≡ q → First x l (suc k) left → First x l k (suc left)
    go true q f = (0, omega arith, q, λ j q. absurd (omega arith))
    go false q f = (suc f.0, omega (arith, f.1), rw (next f.0) f.2, clear)
      where
        clear : (j : ℕ) → j < suc f.0 → bit_of x (level_at l (k + j)) ≡ false
        clear zero h = q
        clear (suc j) h = rw (next j) (f.3 j (omega arith))

pub highest_of_law : (x l n : ℕ) → l < 8 → n < 8 → bit_of x n ≡ true → (k : ℕ) × Highest (λ k. bit_of x k) l k
highest_of_law x l n low h b = go (first x l 0 8 (rank_of l n) (rank_small l n) (rw (level_rank l n h) b))
  where
    go : First x l 0 8 → (k : ℕ) × Highest (λ k. bit_of x k) l k
    go f = (level_at l (0 + f.0), record { level = omega arith; chosen = f.2; over = past })
      where
        past : (k : ℕ) → k < 8 → bit_of x k ≡ true → k ≢ level_at l (0 + f.0) → before l (level_at l (0 + f.0)) < before l k
        past k q s ne = late (ltb f.0 (rank_of l k)) refl
          where
            early : (v : Bool) → ltb (rank_of l k) f.0 ≡ v → ltb f.0 (rank_of l k) ≡ false → ⊥
            early true v u = true≢false (sym s ∙ (rw (level_rank l k q) at (f.3 (rank_of l k) (ltb-true (rank_of l k) f.0 v))))
            early false v u =
                let e : rank_of l k ≡ f.0 = omega (arith, ltb-false f.0 (rank_of l k) u, ltb-false (rank_of l k) f.0 v) in
                ne (sym (level_rank l k q) ∙ ap (λ (i : ℕ). level_at l (0 + i)) e)

            late : (u : Bool) → ltb f.0 (rank_of l k) ≡ u → before l (level_at l (0 + f.0)) < before l k
            late true u =
                omega (
                  arith,
                  ltb-true f.0 (rank_of l k) u,
                  rank_level l f.0 f.1,
                  rank_before l k low q,
                  rank_before l (level_at l (0 + f.0)) low (omega arith),
                )
            late false u = absurd (early (ltb (rank_of l k) f.0) refl u)

-- Clearing a bit of a byte clears no other.
pub cleared : (x n k : ℕ) → x < 256 → n < 8 → k < 8 → bit_of (without_of x n) k ≡ (bit_of x k and not (eqb k n))
unfolding every without_of bit_of
cleared x n k hx hn hk =
    alike (λ k. bit_of (without_of x n) k) (λ k. bit_of x k and not (eqb k n)) 8
    (below (λ n. every (λ k. same (bit_of (without_of x n) k) (bit_of x k and not (eqb k n))) 8) 8
    (below (λ x. every (λ n. every (λ k. same (bit_of (without_of x n) k) (bit_of x k and not (eqb k n))) 8) 8) 256 tt x hx) n hn)
    k
    hk

-- Setting a bit of a byte sets no other.
pub added : (x n k : ℕ) → x < 256 → n < 8 → k < 8 → bit_of (with_of x n) k ≡ (bit_of x k or eqb k n)
unfolding every with_of bit_of
added x n k hx hn hk =
    alike (λ k. bit_of (with_of x n) k) (λ k. bit_of x k or eqb k n) 8
    (below (λ n. every (λ k. same (bit_of (with_of x n) k) (bit_of x k or eqb k n)) 8) 8
    (below (λ x. every (λ n. every (λ k. same (bit_of (with_of x n) k) (bit_of x k or eqb k n)) 8) 8) 256 tt x hx) n hn)
    k
    hk
