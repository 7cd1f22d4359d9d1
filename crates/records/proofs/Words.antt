-- A record's bytes, one by one.
use mathlib.Core.Path.{◌≡◌, refl, sym, ap, ◌∙◌}
use mathlib.Core.List.{List, ◌++◌}
use Prim.Native.Nat.{ℕ, zero, suc, ◌+◌, ◌*◌, ◌-◌, ◌<◌, ◌≤◌}
use native.Mathlib.Omega.{arith}
use lib.ListN.{length, take, drop, get_or}
use lib.Seq.{get_or-take, get_or-drop}
use Rattle.std.proofs.lemmas.List.{same_lists, get_or_default}
use Rattle.tape.specs.Records.{held_of}
use Rattle.tape.proofs.Kept.{from_tape}
use Rattle.board.specs.Records.{record_at}

nth : (s : List ℕ) (i k d : ℕ) → k < 8 → get_or (record_at s i) k d ≡ get_or s (8 * i + k) 0
unfolding record_at
nth s i zero d h = ap (λ (j : ℕ). get_or s j 0) (omega arith)
nth s i (suc zero) d h = refl
nth s i (suc (suc zero)) d h = refl
nth s i (suc (suc (suc zero))) d h = refl
nth s i (suc (suc (suc (suc zero)))) d h = refl
nth s i (suc (suc (suc (suc (suc zero))))) d h = refl
nth s i (suc (suc (suc (suc (suc (suc zero)))))) d h = refl
nth s i (suc (suc (suc (suc (suc (suc (suc zero))))))) d h = refl
nth s i (suc (suc (suc (suc (suc (suc (suc (suc k)))))))) d h = absurd (omega (arith, h))

eight : (s : List ℕ) (i : ℕ) → length (record_at s i) ≡ 8
unfolding record_at
eight s i = refl

-- eight bytes, each the record's
pub same : (s xs : List ℕ) (i : ℕ) → length xs ≡ 8 → ((k d : ℕ) → k < 8 → get_or xs k d ≡ get_or s (8 * i + k) 0) → xs ≡ record_at s i
same s xs i long each =
    same_lists xs (record_at s i) (long ∙ sym (eight s i)) (λ k d h. each k d (omega arith) ∙ sym (nth s i k d (omega arith)))

-- Where no byte of record i was kept, it is eight bytes of the tape.
pub shifted : (kept tape : List ℕ) (n h i k d m : ℕ) → m ≡ 8 → length kept ≡ 7 → h ≡ held_of n → h ≤ 8 * i → 8 * i - h + 8 ≤ length tape → k < 8
    → get_or (take m (drop (8 * i - h) tape)) k d ≡ get_or (take n kept ++ tape) (8 * i + k) 0
shifted kept tape n h i k d m e seven is past long l =
    get_or-take m (drop (8 * i - h) tape) k d (omega arith)
    ∙ get_or-drop (8 * i - h) tape k d
    ∙ get_or_default tape (8 * i - h + k) d 0 (omega arith)
    ∙ ap (λ (j : ℕ). get_or tape j 0) (omega arith)
    ∙ from_tape kept n seven h is tape (8 * i + k) (omega arith)
