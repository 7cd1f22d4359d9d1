-- Laws of the timer's answers.
use mathlib.Core.Path.{◌≡◌, refl, ap, sym, ◌∙◌}
use mathlib.Core.List.{List}
use Prim.Native.Nat.{ℕ}
use lib.Seq.{set-get_or}
use lib.Dec.{eqb}
use Rattle.std.specs.Prelude.{Result, Ok, Err, if◌then◌else◌}
use Rattle.timer.specs.declared.Counter.{Counter}
use Rattle.timer.specs.declared.Shown.{Shown}
use Rattle.timer.specs.declared.Timer.{Timer}
use Rattle.timer.specs.declared.Refusal.{Refusal}
use Rattle.timer.specs.declared.Refusal.TheVariants.{NotThere, OutOfTurn, NotBuilt, TooSmall}
use Rattle.timer.specs.Ports.{Answer, Seen, refused, told_wrote, told_shown, told_seen}
use Rattle.timer.specs.Timer.{Written, Got, at, blank, written, got, written_as, got_as, wrote_by, got_by}

-- A counter stored where it was leaves the timer as it was: a refusal by a counter leaves all three.
pub wrote_back : (t : Timer) (n s : ℕ) → wrote_by t n (refused s (at t n)) ≡ written s t
unfolding wrote_by
wrote_back t n s = ap (λ (l : List Counter). written s (record { counters = l })) (set-get_or t.counters n blank)

pub got_back : (t : Timer) (n s : ℕ) → got_by t n (refused s (at t n)) ≡ got s 0 t
unfolding got_by
got_back t n s = ap (λ (l : List Counter). got s 0 (record { counters = l })) (set-get_or t.counters n blank)

-- The program's answer can be read back from the status and the values.
abbrev refusal_as : ℕ → Refusal
refusal_as n =
    if eqb n 2 then NotThere
    else if eqb n 3 then OutOfTurn
    else if eqb n 4 then NotBuilt
    else TooSmall

abbrev answer_as : {A : Type 0} → A → ℕ → Result A Refusal
answer_as a n = if eqb n 0 then Ok a else Err (refusal_as n)

abbrev wrote_as : Answer → Result Counter Refusal
wrote_as a = answer_as a.counter a.status

wrote_again : (c : Counter) (r : Result Counter Refusal) → wrote_as (told_wrote c r) ≡ r
wrote_again c (Ok d) = refl
wrote_again c (Err NotThere) = refl
wrote_again c (Err OutOfTurn) = refl
wrote_again c (Err NotBuilt) = refl
wrote_again c (Err TooSmall) = refl

abbrev shown_as : Answer → Result (ℕ × Counter) Refusal
shown_as a = answer_as (a.byte, a.counter) a.status

shown_again : (c : Counter) (r : Result (ℕ × Counter) Refusal) → shown_as (told_shown c r) ≡ r
shown_again c (Ok (b, d)) = refl
shown_again c (Err NotThere) = refl
shown_again c (Err OutOfTurn) = refl
shown_again c (Err NotBuilt) = refl
shown_again c (Err TooSmall) = refl

-- So a contract that speaks through `told_wrote` or `told_shown` allows one result only.
pub one_wrote : (c : Counter) (r s : Result Counter Refusal) → told_wrote c r ≡ told_wrote c s → r ≡ s
one_wrote c r s e = sym (wrote_again c r) ∙ ap wrote_as e ∙ wrote_again c s

pub one_shown : (c : Counter) (r s : Result (ℕ × Counter) Refusal) → told_shown c r ≡ told_shown c s → r ≡ s
one_shown c r s e = sym (shown_again c r) ∙ ap shown_as e ∙ shown_again c s

-- Likewise what a look shows.
abbrev seen_back : Seen → Result Shown Refusal
seen_back a = answer_as (record { byte = a.byte; latched = a.latched; second = a.second }) a.status

seen_again : (c : Counter) (r : Result Shown Refusal) → seen_back (told_seen c r) ≡ r
seen_again c (Ok s) = refl
seen_again c (Err NotThere) = refl
seen_again c (Err OutOfTurn) = refl
seen_again c (Err NotBuilt) = refl
seen_again c (Err TooSmall) = refl

pub one_seen : (c : Counter) (r s : Result Shown Refusal) → told_seen c r ≡ told_seen c s → r ≡ s
one_seen c r s e = sym (seen_again c r) ∙ ap seen_back e ∙ seen_again c s

-- And what the timer answers.
abbrev written_back : Written → Result Timer Refusal
written_back a = answer_as a.timer a.status

written_again : (t : Timer) (r : Result Timer Refusal) → written_back (written_as t r) ≡ r
written_again t (Ok after) = refl
written_again t (Err NotThere) = refl
written_again t (Err OutOfTurn) = refl
written_again t (Err NotBuilt) = refl
written_again t (Err TooSmall) = refl

pub one_written : (t : Timer) (r s : Result Timer Refusal) → written_as t r ≡ written_as t s → r ≡ s
one_written t r s e = sym (written_again t r) ∙ ap written_back e ∙ written_again t s

abbrev read_back : Got → Result (ℕ × Timer) Refusal
read_back a = answer_as (a.byte, a.timer) a.status

read_again : (t : Timer) (r : Result (ℕ × Timer) Refusal) → read_back (got_as t r) ≡ r
read_again t (Ok (b, after)) = refl
read_again t (Err NotThere) = refl
read_again t (Err OutOfTurn) = refl
read_again t (Err NotBuilt) = refl
read_again t (Err TooSmall) = refl

pub one_got : (t : Timer) (r s : Result (ℕ × Timer) Refusal) → got_as t r ≡ got_as t s → r ≡ s
one_got t r s e = sym (read_again t r) ∙ ap read_back e ∙ read_again t s
