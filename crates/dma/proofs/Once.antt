-- No two answers of the chip tell the same, so each contract allows one answer only.
use mathlib.Core.Path.{◌≡◌, refl, sym, ap, ◌∙◌}
use lib.Dec.{eqb}
use Rattle.std.specs.Prelude.{ℕ, Result, Ok, Err, if◌then◌else◌}
use Rattle.dma.specs.declared.Dma.{Dma}
use Rattle.dma.specs.declared.Shown.{Shown}
use Rattle.dma.specs.declared.Refusal.{Refusal}
use Rattle.dma.specs.declared.Refusal.TheVariants.{NotThere, NotBuilt}
use Rattle.dma.specs.Answers.{Written, Got, Seen, written_as, got_as, shown_as}

-- the answer with this number
abbrev answer_of : {A : Type 0} → A → ℕ → Result A Refusal
answer_of a n = if eqb n 0 then Ok a else if eqb n 2 then Err NotThere else Err NotBuilt

abbrev written_of : Written → Result Dma Refusal
written_of w = answer_of w.dma w.status

abbrev got_of : Got → Result (ℕ × Dma) Refusal
got_of g = answer_of (g.byte, g.dma) g.status

abbrev shown_of : Seen → Result Shown Refusal
shown_of s = answer_of (record { byte = s.byte; ends = s.ends }) s.status

written_back : (d : Dma) (r : Result Dma Refusal) → written_of (written_as d r) ≡ r
written_back d (Ok after) = refl
written_back d (Err NotThere) = refl
written_back d (Err NotBuilt) = refl

got_back : (d : Dma) (r : Result (ℕ × Dma) Refusal) → got_of (got_as d r) ≡ r
got_back d (Ok (x, after)) = refl
got_back d (Err NotThere) = refl
got_back d (Err NotBuilt) = refl

shown_back : (d : Dma) (r : Result Shown Refusal) → shown_of (shown_as d r) ≡ r
shown_back d (Ok s) = refl
shown_back d (Err NotThere) = refl
shown_back d (Err NotBuilt) = refl

module _ (d : Dma) where
  pub one_written : (r s : Result Dma Refusal) → written_as d r ≡ written_as d s → r ≡ s
  one_written r s e = sym (written_back d r) ∙ ap written_of e ∙ written_back d s

  pub one_got : (r s : Result (ℕ × Dma) Refusal) → got_as d r ≡ got_as d s → r ≡ s
  one_got r s e = sym (got_back d r) ∙ ap got_of e ∙ got_back d s

  pub one_shown : (r s : Result Shown Refusal) → shown_as d r ≡ shown_as d s → r ≡ s
  one_shown r s e = sym (shown_back d r) ∙ ap shown_of e ∙ shown_back d s
