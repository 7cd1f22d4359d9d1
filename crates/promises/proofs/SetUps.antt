-- The set-ups of master and slave, by the tests of the table.
use mathlib.Core.Path.{◌≡◌, refl}
use mathlib.Core.Bool.{Bool, true, false, not, true≢false, false≢true}
use Prim.Native.Nat.{ℕ}
use lib.Dec.{eqb}
use borrow.Author.Tests.{eqb-true}
use Rattle.bits.specs.Choice.{◌and◌, ◌or◌}
use Rattle.std.specs.Prelude.{if◌then◌else◌}
use Rattle.icu.specs.declared.Icu.{Icu}
use Rattle.icu.specs.Words.{ready, sngl}
use Rattle.icu.specs.Requests.{int_of}
use Rattle.icu.specs.Service.{takes}
use Rattle.cascade.specs.declared.SetUp.{SetUp}
use Rattle.cascade.specs.declared.SetUp.TheVariants.{Unready, Single, Extended}
use Rattle.cascade.specs.Cascade.{answerer_by, answerer_of, somebody, answered, takes7, together, passed_on}
use Rattle.board.specs.declared.Board.{Board}
use Rattle.promises.specs.Table.{extended, differ, unanswered}
use Rattle.promises.proofs.Logic.{both_left, both_right}

-- A chip's set-up by two tests: it is ready, and SNGL.
abbrev by : Bool → Bool → SetUp
by r s = if r then (if s then Single else Extended) else Unready

abbrev same : Bool → Bool → Bool
same v w = if v then w else not w

-- In turn: the master is ready, somebody answers, and both do where the master is extended.
turned : (r s r' s' v v' : Bool)
    → (not r or differ (r and not s) (r' and not s') or ((r and not s) and differ v v')) ≡ false
    → (r ≡ true) × (somebody (answerer_by (by r s) (by r' s') (same v v')) ≡ true) × (together (answerer_by (by r s) (by r' s') (same v v')) ≡ (r and not s))
turned false s r' s' v v' h = absurd (true≢false h)
turned true true false s' v v' h = (refl, refl, refl)
turned true true true true v v' h = (refl, refl, refl)
turned true true true false v v' h = absurd (true≢false h)
turned true false false s' v v' h = absurd (true≢false h)
turned true false true true v v' h = absurd (true≢false h)
turned true false true false true true h = (refl, refl, refl)
turned true false true false true false h = absurd (true≢false h)
turned true false true false false true h = absurd (true≢false h)
turned true false true false false false h = (refl, refl, refl)

pub in_turn : (b : Board) → unanswered b ≡ false
    → (ready b.icu ≡ true)
    × (answered b.icu b.slave ≡ true)
    × (together (answerer_of b.icu b.slave) ≡ extended b.icu)
unfolding unanswered answered answerer_of
in_turn b h =
    turned (ready b.icu) (sngl b.icu) (ready b.slave) (sngl b.slave) b.icu.vector b.slave.vector h

-- Both answer: both are extended, and the acknowledge is in turn.
joined : (r s r' s' v v' : Bool) → together (answerer_by (by r s) (by r' s') (same v v')) ≡ true
    → ((r and not s) ≡ true)
    × ((r' and not s') ≡ true)
    × ((not r or differ (r and not s) (r' and not s') or ((r and not s) and differ v v')) ≡ false)
joined false s r' s' v v' h = absurd (false≢true h)
joined true true false s' v v' h = absurd (false≢true h)
joined true true true true v v' h = absurd (false≢true h)
joined true true true false v v' h = absurd (false≢true h)
joined true false false s' v v' h = absurd (false≢true h)
joined true false true true v v' h = absurd (false≢true h)
joined true false true false true true h = (refl, refl, refl)
joined true false true false true false h = absurd (false≢true h)
joined true false true false false true h = absurd (false≢true h)
joined true false true false false false h = (refl, refl, refl)

pub both_answer : (b : Board) → together (answerer_of b.icu b.slave) ≡ true
    → (extended b.icu ≡ true) × (extended b.slave ≡ true) × (unanswered b ≡ false)
unfolding unanswered answerer_of
both_answer b h =
    joined (ready b.icu) (sngl b.icu) (ready b.slave) (sngl b.slave) b.icu.vector b.slave.vector h

-- What it takes to be passed on, and what is passed on.
pub passed_by : (c : Icu) (l : ℕ) (s : Icu) → passed_on c l s ≡ true
    → (together (answerer_of c s) ≡ true) × (int_of c l ≡ true) × (takes c l ≡ 7)
unfolding passed_on
passed_by c l s h =
    let t = both_right (together (answerer_of c s)) (takes7 c l) h in (
      both_left (together (answerer_of c s)) (takes7 c l) h,
      both_left (int_of c l) (eqb (takes c l) 7) t,
      eqb-true (takes c l) 7 (both_right (int_of c l) (eqb (takes c l) 7) t),
    )

pub not_passed : (c : Icu) (l : ℕ) (s : Icu) → (together (answerer_of c s) and takes7 c l) ≡ false → passed_on c l s ≡ false
unfolding passed_on
not_passed c l s h = h

pub passes : (c : Icu) (l : ℕ) (s : Icu) → together (answerer_of c s) ≡ true → int_of c l ≡ true → eqb (takes c l) 7 ≡ true → passed_on c l s ≡ true
unfolding passed_on
passes c l s h i e = rw (h, i, e)
