-- The search for the winner, rank by rank.
use mathlib.Core.Bool.{true, false}
use mathlib.Core.Path.{◌≡◌, ap, sym}
use Prim.Native.Nat.{ℕ, suc, ◌+◌, ◌-◌, ◌<◌}
use native.Mathlib.Numerals.{add-one}
use native.Mathlib.Omega.{arith}
use Rattle.dma.specs.declared.Dma.{Dma}
use Rattle.dma.specs.Cycle.{ready, channel_at, winner_from}

-- Past the last rank there is no winner.
pub end : (d : Dma) (k : ℕ) → k ≡ 4 → winner_from d k (4 - k) ≡ 4
unfolding winner_from
end d k e = rw e

module _ (d : Dma) (k : ℕ) (h : k < 4) where
  left : 4 - k ≡ suc (4 - (k + 1))
  left = omega arith

  -- A ready channel at rank k wins; else the search goes on at the next rank.
  pub hit : ready d (channel_at d k) ≡ true → winner_from d k (4 - k) ≡ channel_at d k
  unfolding winner_from
  hit e = rw (left, e)

  pub miss : ready d (channel_at d k) ≡ false → winner_from d k (4 - k) ≡ winner_from d (k + 1) (4 - (k + 1))
  unfolding winner_from
  miss e = rw (left, e) (ap (λ (m : ℕ). winner_from d m (4 - (k + 1))) (sym (add-one k)))

pub in_ranks : (d : Dma) (k : ℕ) → channel_at d k < 4
unfolding channel_at
in_ranks d k = omega arith
