-- What one record does to one channel.
use mathlib.Core.Path.{◌≡◌, refl, sym, ap, ◌∙◌, subst}
use mathlib.Core.Logic.{◌≢◌}
use mathlib.Core.List.{List}
use mathlib.Core.Bool.{Bool, true, false, true≢false}
use Prim.Native.Nat.{ℕ, ◌<◌}
use lib.Dec.{eqb}
use lib.ListN.{get_or, length}
use lib.Seq.{get_or-set_same, get_or-set_other}
use borrow.Author.Tests.{eqb-true, eqb-false, eq-eqb}
use Rattle.dma.specs.declared.Channel.{Channel}
use Rattle.dma.specs.declared.Dma.{Dma}
use Rattle.dma.specs.Fields.{none, chan, served}
use Rattle.dma.specs.Cycle.{auto, moved_by, moved_of}
use Rattle.promises.specs.Words.{unit_of, address_in, data_in, upper_in}
use Rattle.promises.proofs.Sound.{Sound}
use Rattle.promises.proofs.Landed.{unit_length}
use Rattle.promises.proofs.Seen.{Seen, still, unit, Serves, goes_on_law, starts}

-- A channel that moves on keeps its mode; without autoinitialize it is masked at its end.
pub moved_mode : (c : Channel) (last : Bool) → (moved_of c last).mode ≡ c.mode
unfolding moved_of
moved_mode c last = at last (auto c)
  where
    at : (l a : Bool) → (moved_by c l a).mode ≡ c.mode
    at true true = refl
    at true false = refl
    at false a = refl

moved_last : (c : Channel) → auto c ≡ false → (moved_of c true).masked ≡ true
unfolding moved_of
moved_last c h = rw h

-- Masked and not served: nothing but a reset or a write to the chip ends that.
pub record Shut (d : Dma) (n : ℕ) : Type 0 where
  pub masked : (chan d n).masked ≡ true
  pub unserved : d.serving ≡ true → d.channel ≢ n

-- A channel rests, or moves one unit. A shut one rests and stays shut; without autoinitialize the last unit shuts it.
pub data Change (d e : Dma) (a : List ℕ) (n : ℕ) : Type 0 where
  rests : chan e n ≡ chan d n → unit_of n a ≡ false → (Shut d n → Shut e n) → Change d e a n
  goes : (last : Bool)
      → chan e n ≡ moved_of (chan d n) last
      → unit_of n a ≡ true
      → address_in a ≡ (chan d n).current.address
      → (Shut d n → ⊥)
      → (last ≡ false → (chan d n).current.count ≢ 0)
      → (last ≡ true → auto (chan d n) ≡ false → Shut e n)
      → Change d e a n

serves_not : (d : Dma) (n k : ℕ) → Shut d n → Serves d k → k ≢ n
serves_not d n k x (goes_on_law sv q) z = x.unserved sv (q ∙ z)
serves_not d n k x (starts un) z = true≢false (sym x.masked ∙ ap (λ (i : ℕ). (chan d i).masked) (sym z) ∙ un)

pub change_by : (d : Dma) (m : List ℕ) (e : Dma) (l a : List ℕ) (n : ℕ) → Sound d → Seen d m e l a → Change d e a n
change_by d m e l a n s (still cs _ k sv) =
    let q : chan e n ≡ chan d n = ap (λ (c : List Channel). get_or c n none) cs in
    rests q (rw k refl) (λ x. record { masked = rw q x.masked; unserved = λ h. serves_not d n e.channel x (sv h) })
change_by d m e l a n s (unit last sv more cs _ k ch ad on) = at (eqb d.channel n) refl
  where
    low : d.channel < length d.channels
    low = rw s.four s.channel

    there : chan e d.channel ≡ moved_of (served d) last
    there = ap (λ (c : List Channel). get_or c d.channel none) cs ∙ get_or-set_same d.channels d.channel (moved_of (served d) last) none low

    at : (q : Bool) → eqb d.channel n ≡ q → Change d e a n
    at false q =
        let z : chan e n ≡ chan d n =
        ap (λ (c : List Channel). get_or c n none) cs
        ∙ get_or-set_other d.channels d.channel n (moved_of (served d) last) none (λ y. eqb-false d.channel n q (sym y)) in
        rests z (rw (k, ch) q) (λ x. record { masked = rw z x.masked; unserved = λ h y. eqb-false d.channel n q ((on h).1 ∙ y) })
    at true q =
        subst (λ (x : ℕ). Change d e a x) (eqb-true d.channel n q)
        (goes last there
        (rw (k, ch) (eq-eqb d.channel d.channel refl))
        ad
        (λ x. x.unserved sv refl)
        more
        (λ z u. record { masked = rw (there, z) (moved_last (served d) u); unserved = λ h y. true≢false (sym z ∙ (on h).0) }))

-- No record changes a channel's mode, nor the memory's length.
pub mode_kept : (d e : Dma) (a : List ℕ) (n : ℕ) → Change d e a n → (chan e n).mode ≡ (chan d n).mode
mode_kept d e a n (rests q _ _) = ap (λ (c : Channel). c.mode) q
mode_kept d e a n (goes last q _ _ _ _ _) = ap (λ (c : Channel). c.mode) q ∙ moved_mode (chan d n) last

pub length_kept : (d : Dma) (m : List ℕ) (e : Dma) (l a : List ℕ) → Seen d m e l a → length l ≡ length m
length_kept d m e l a (still _ q _ _) = ap length q
length_kept d m e l a (unit _ _ _ _ q _ _ _ _) = ap length q ∙ unit_length (served d) m (data_in a) (upper_in a)
