-- Lists.
use mathlib.Core.Path.{◌≡◌, refl, sym}
use mathlib.Core.List.{List}
use mathlib.Core.Bool.{Bool, true, false}
use Prim.Native.Nat.{ℕ}
use lib.Dec.{eqb, ltb}
use lib.ListN.{get_or, set, length}
use lib.Seq.{get_or-set_same, get_or-set_other, set_out}
use borrow.Author.Tests.{eqb-true, eqb-false, ltb-true, ltb-false}

-- One place of a list replaced: what holds of the new one, if it is that place, and held before, holds.
pub put : {A : Type 0} (P : A → Type 0) (l : List A) (i n : ℕ) (c d : A) → (i ≡ n → P c) → P (get_or l n d) → P (get_or (set l i c) n d)
put P l i n c d f h = by (eqb n i) (ltb i (length l)) refl refl
  where
    by : (q u : Bool) → eqb n i ≡ q → ltb i (length l) ≡ u → P (get_or (set l i c) n d)
    by false u q v = rw (get_or-set_other l i n c d (eqb-false n i q)) h
    by true false q v = rw (set_out l i c (ltb-false i (length l) v)) h
    by true true q v = rw (eqb-true n i q, get_or-set_same l i c d (ltb-true i (length l) v)) (f (sym (eqb-true n i q)))
