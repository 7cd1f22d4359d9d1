-- Answers put one after another.
use mathlib.Core.Path.{◌≡◌, ap, sym, ◌∙◌}
use mathlib.Core.List.{List, [], ◌++◌, append-nil}
use Prim.Native.Nat.{ℕ, ◌+◌, ◌*◌}
use native.Mathlib.Omega.{arith}
use lib.ListN.{length, take, drop}
use lib.Seq.{take_at, drop-append-add, drop-drop, paste, take-append_seam}

whole : (a : List ℕ) → length a ≡ 16 → take 16 a ≡ a
whole a e =
    ap (λ (n : ℕ). take n a) (sym e)
    ∙ ap (λ (l : List ℕ). take (length a) l) (sym (append-nil a))
    ∙ take-append_seam a []

-- the answer of record i, put after those of the records before it
pub put_next : (out rest a : List ℕ) (i : ℕ) → length out ≡ 16 * i → length a ≡ 16
    → paste (out ++ drop (16 * i) rest) (16 * i) a 16 ≡ (out ++ a) ++ drop (16 * (i + 1)) rest
put_next out rest a i ho ha =
    ap (λ (l : List ℕ). l ++ take 16 a ++ drop (16 * i + 16) (out ++ drop (16 * i) rest)) (take_at out (drop (16 * i) rest) (16 * i) ho)
    ∙ ap (λ (l : List ℕ). out ++ l ++ drop (16 * i + 16) (out ++ drop (16 * i) rest)) (whole a ha)
    ∙ ap (λ (l : List ℕ). out ++ a ++ l) past
  where
    past : drop (16 * i + 16) (out ++ drop (16 * i) rest) ≡ drop (16 * (i + 1)) rest
    past =
        let e : 16 * i + 16 ≡ 16 * (i + 1) = omega arith in
        ap (λ (n : ℕ). drop (n + 16) (out ++ drop (16 * i) rest)) (sym ho)
        ∙ drop-append-add out (drop (16 * i) rest) 16
        ∙ drop-drop 16 (16 * i) rest
        ∙ ap (λ (n : ℕ). drop n rest) e
