-- A read changes nothing of the chip but its end bits.
use mathlib.Core.Bool.{Bool, true, false, true≢false}
use mathlib.Core.Path.{◌≡◌, refl, ap, ◌∙◌}
use Prim.Native.Nat.{ℕ, ◌%◌}
use lib.Dec.{eqb, leb, ltb}
use Rattle.std.specs.Prelude.{if◌then◌else◌}
use Rattle.dma.specs.declared.Dma.{Dma}
use Rattle.dma.specs.Answers.{Got, Seen}
use Rattle.dma.specs.Fields.{turned}
use Rattle.dma.specs.Registers.{shows, unread, read_of, seen_as, seen_of}

-- What was seen, with the chip put back.
abbrev pub back : Dma → Seen → Got
back d s =
    record {
      status = s.status;
      byte = s.byte;
      dma = turned d.channels d.serving d.channel d.first s.ends d;
    }

-- the ten answers of a read, by its nine tests
abbrev answers : Dma → ℕ → ℕ → ℕ → ℕ → ℕ → ℕ → Bool → Bool → Bool → Bool → Bool → Bool → Bool → Bool → Bool → Got
answers d s u v w x y r₀ r₁ r₆ r₇ r₈ r₉ rₐ rᵦ rₑ =
    if r₀ then unread 2 d
    else if r₁ then shows s d
    else if r₆ then shows u d
    else if r₇ then unread 2 d
    else if r₈ then shows v d
    else if r₉ then shows 0 d
    else if rₐ then shows w d
    else if rᵦ then shows x (turned d.channels d.serving d.channel d.first 0 d)
    else if rₑ then unread 4 d
    else shows y d

-- each has the chip with its end bits
same_by : (d : Dma) (s u v w x y : ℕ) (r₀ r₁ r₆ r₇ r₈ r₉ rₐ rᵦ rₑ : Bool)
    → back d (seen_as (answers d s u v w x y r₀ r₁ r₆ r₇ r₈ r₉ rₐ rᵦ rₑ)) ≡ answers d s u v w x y r₀ r₁ r₆ r₇ r₈ r₉ rₐ rᵦ rₑ
same_by d s u v w x y true _ _ _ _ _ _ _ _ = refl
same_by d s u v w x y false true _ _ _ _ _ _ _ = refl
same_by d s u v w x y false false true _ _ _ _ _ _ = refl
same_by d s u v w x y false false false true _ _ _ _ _ = refl
same_by d s u v w x y false false false false true _ _ _ _ = refl
same_by d s u v w x y false false false false false true _ _ _ = refl
same_by d s u v w x y false false false false false false true _ _ = refl
same_by d s u v w x y false false false false false false false true _ = refl
same_by d s u v w x y false false false false false false false false true = refl
same_by d s u v w x y false false false false false false false false false = refl

-- and one that is refused shows nothing and changes nothing
unread_by : (d : Dma) (s u v w x y : ℕ) (r₀ r₁ r₆ r₇ r₈ r₉ rₐ rᵦ rₑ : Bool)
    → let g = answers d s u v w x y r₀ r₁ r₆ r₇ r₈ r₉ rₐ rᵦ rₑ in
    eqb g.status 0 ≡ false
    → g ≡ unread g.status d
unread_by d s u v w x y true _ _ _ _ _ _ _ _ h = refl
unread_by d s u v w x y false true _ _ _ _ _ _ _ h = absurd (true≢false h)
unread_by d s u v w x y false false true _ _ _ _ _ _ h = absurd (true≢false h)
unread_by d s u v w x y false false false true _ _ _ _ _ h = refl
unread_by d s u v w x y false false false false true _ _ _ _ h = absurd (true≢false h)
unread_by d s u v w x y false false false false false true _ _ _ h = absurd (true≢false h)
unread_by d s u v w x y false false false false false false true _ _ h = absurd (true≢false h)
unread_by d s u v w x y false false false false false false false true _ h = absurd (true≢false h)
unread_by d s u v w x y false false false false false false false false true h = refl
unread_by d s u v w x y false false false false false false false false false h = absurd (true≢false h)

same : (d : Dma) (r : ℕ) → back d (seen_as (read_of d r)) ≡ read_of d r
unfolding read_of
same d r =
    let k = r % 16 in
    same_by d _ _ _ _ _ _ (eqb k 0) (eqb k 1) (leb k 6) (eqb k 7) (eqb k 8) (eqb k 9) (eqb k 10) (eqb k 11) (ltb k 15)

pub put_back : (d : Dma) (r : ℕ) (s : Seen) → s ≡ seen_of d r → back d s ≡ read_of d r
unfolding seen_of
put_back d r s e = ap (λ (z : Seen). back d z) e ∙ same d r

pub unread_leaves : (d : Dma) (r : ℕ) → eqb (read_of d r).status 0 ≡ false → read_of d r ≡ unread (read_of d r).status d
unfolding read_of
unread_leaves d r =
    let k = r % 16 in
    unread_by d _ _ _ _ _ _ (eqb k 0) (eqb k 1) (leb k 6) (eqb k 7) (eqb k 8) (eqb k 9) (eqb k 10) (eqb k 11) (ltb k 15)
