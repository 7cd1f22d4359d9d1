-- No two answers of the chip tell the same, so each contract allows one answer only.
use Prim.Native.Nat.{◌<◌}
use mathlib.Core.Path.{◌≡◌, refl, sym, ap, ◌∙◌}
use native.Mathlib.Omega.{arith}
use lib.Dec.{eqb}
use lib.ListN.{get_or}
use Rattle.std.specs.Prelude.{ℕ, Option, Some, None, IfSome, Result, Ok, Err, if◌then◌else◌}
use Rattle.icu.specs.declared.Icu.{Icu}
use Rattle.icu.specs.declared.Refusal.{Refusal}
use Rattle.icu.specs.declared.Refusal.TheVariants.{OutOfTurn, NotBuilt}
use Rattle.icu.specs.declared.Named.{Named}
use Rattle.icu.specs.declared.Named.TheVariants.{Vector, Call}
use Rattle.icu.specs.Answers.{Told, written_as, got_as, acknowledged_as}
use Rattle.icu.specs.Ranks.{level_or_8}

-- the answer that tells this
written_of : Told → Result Icu Refusal
written_of t = if eqb t.status 0 then Ok t.icu else if eqb t.status 3 then Err OutOfTurn else Err NotBuilt

got_of : Told → Option ℕ
got_of t = if eqb t.status 0 then Some t.byte else None

acknowledged_of : Told → Option (Icu × Named)
acknowledged_of t =
    if eqb t.status 0 then
    Some (t.icu, if eqb (get_or t.payload 0 0) 205 then Call (get_or t.payload 1 0) (get_or t.payload 2 0) else Vector t.byte)
    else None

written_back : (c : Icu) (r : Result Icu Refusal) → written_of (written_as c r) ≡ r
unfolding written_of
written_back c (Ok d) = refl
written_back c (Err OutOfTurn) = refl
written_back c (Err NotBuilt) = refl

got_back : (c : Icu) (r : Option ℕ) → got_of (got_as c r) ≡ r
unfolding got_of
got_back c (Some x) = refl
got_back c None = refl

acknowledged_back : (c : Icu) (r : Option (Icu × Named)) → acknowledged_of (acknowledged_as c r) ≡ r
unfolding acknowledged_of
acknowledged_back c (Some (d, Vector x)) = refl
acknowledged_back c (Some (d, Call low high)) = refl
acknowledged_back c None = refl

module _ (c : Icu) where
  pub one_written : (r s : Result Icu Refusal) → written_as c r ≡ written_as c s → r ≡ s
  one_written r s e = sym (written_back c r) ∙ ap written_of e ∙ written_back c s

  pub one_got : (r s : Option ℕ) → got_as c r ≡ got_as c s → r ≡ s
  one_got r s e = sym (got_back c r) ∙ ap got_of e ∙ got_back c s

  pub one_acknowledged : (r s : Option (Icu × Named)) → acknowledged_as c r ≡ acknowledged_as c s → r ≡ s
  one_acknowledged r s e = sym (acknowledged_back c r) ∙ ap acknowledged_of e ∙ acknowledged_back c s

-- A level below 8, or none: the number is told by one of them alone.
pub one_level : (r s : Option ℕ) → IfSome r (λ n. n < 8) → IfSome s (λ n. n < 8) → level_or_8 r ≡ level_or_8 s → r ≡ s
one_level (Some m) (Some n) h k e = ap Some e
one_level (Some m) None h k e = absurd (omega arith)
one_level None (Some n) h k e = absurd (omega arith)
one_level None None h k e = refl
