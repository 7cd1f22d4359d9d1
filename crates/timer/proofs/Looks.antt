-- A read changes nothing of its counter but the latch and the reading place, and one that is refused not even these.
use mathlib.Core.Bool.{Bool, true, false, true≢false}
use mathlib.Core.Path.{◌≡◌, refl, sym, ap, ◌∙◌}
use mathlib.Core.List.{List}
use Prim.Native.Nat.{ℕ, ◌/◌, ◌%◌}
use lib.Dec.{eqb}
use lib.ListN.{get_or, set, get_or-map}
use lib.Seq.{set-get_or, map-set_same}
use Rattle.std.specs.Prelude.{if◌then◌else◌}
use Rattle.timer.specs.Fields.{latched_is, second_is}
use Rattle.timer.specs.Modes.{moded}
use Rattle.timer.specs.Ports.{Answer, refused, read_as, held, read_of, Seen, seen_as, seen_of}
use Rattle.timer.specs.Timer.{at, blank, counter_is, got, got_by, reads_of}
use Rattle.timer.specs.declared.Counter.{Counter}
use Rattle.timer.specs.declared.Timer.{Timer}

-- What was seen, with the counter put back.
abbrev pub back : Counter → Seen → Answer
back c s = record { status = s.status; byte = s.byte; counter = second_is s.second (latched_is s.latched c) }

-- the five answers of a read, by its four tests
abbrev answers : Counter → ℕ → ℕ → Bool → Bool → Bool → Bool → Answer
answers c l h moded low high second =
    if moded then
    (if low then read_as l (latched_is false c)
    else if high then read_as h (latched_is false c)
    else if second then read_as h (second_is false (latched_is false c))
    else read_as l (second_is true c))
    else refused 3 c

same_by : (c : Counter) (l h : ℕ) (m f g s : Bool) → back c (seen_as (answers c l h m f g s)) ≡ answers c l h m f g s
same_by c l h true true g s = refl
same_by c l h true false true s = refl
same_by c l h true false false true = refl
same_by c l h true false false false = refl
same_by c l h false f g s = refl

unread_by : (c : Counter) (l h : ℕ) (m f g s : Bool)
    → eqb (answers c l h m f g s).status 0 ≡ false
    → answers c l h m f g s ≡ refused 3 c
unread_by c l h true true g s e = absurd (true≢false e)
unread_by c l h true false true s e = absurd (true≢false e)
unread_by c l h true false false true e = absurd (true≢false e)
unread_by c l h true false false false e = absurd (true≢false e)
unread_by c l h false f g s e = refl

module _ (c : Counter) where
  same : back c (seen_as (read_of c)) ≡ read_of c
  unfolding read_of
  same = same_by c (held c % 256) (held c / 256) (moded c) (eqb c.format 1) (eqb c.format 2) c.second

  pub put_back : (s : Seen) → s ≡ seen_of c → back c s ≡ read_of c
  unfolding seen_of
  put_back s e = ap (λ (z : Seen). back c z) e ∙ same

  pub unread : eqb (read_of c).status 0 ≡ false → read_of c ≡ refused 3 c
  unfolding read_of
  unread = unread_by c (held c % 256) (held c / 256) (moded c) (eqb c.format 1) (eqb c.format 2) c.second

-- The timer's answer by what was seen of counter n, and with no status but 0 the timer is as it was.
module _ (t : Timer) (p n : ℕ) (en : n ≡ p % 4) (counter : eqb (p % 4) 3 ≡ false) (s : Seen) (es : s ≡ seen_of (at t n)) where
  pub got_seen : reads_of t p ≡ got s.status s.byte (counter_is n (back (at t n) s).counter t)
  unfolding reads_of got_by
  got_seen = rw (counter, ← en) (ap (λ (a : Answer). got a.status a.byte (counter_is n a.counter t)) (sym (put_back (at t n) s es)))

  none_seen : eqb s.status 0 ≡ false → back (at t n) s ≡ refused 3 (at t n)
  unfolding seen_of
  none_seen z =
      put_back (at t n) s es ∙ unread (at t n) (ap (λ (x : Seen). eqb x.status 0) (sym es) ∙ z)

  pub none_changed : eqb s.status 0 ≡ false → counter_is n (back (at t n) s).counter t ≡ t
  none_changed z =
      ap (λ (a : Answer). counter_is n a.counter t) (none_seen z)
      ∙ ap (λ (l : List Counter). record { counters = l }) (set-get_or t.counters n blank)

  pub none_shown : eqb s.status 0 ≡ false → s.byte ≡ 0
  none_shown z = ap (λ (a : Answer). a.byte) (none_seen z)

-- OUT is as it was, of the counter that was read and of the others.
pub same_out : (t : Timer) (n : ℕ) (s : Seen) (k : ℕ) → (at (counter_is n (back (at t n) s).counter t) k).out ≡ (at t k).out
same_out t n s k =
    sym (get_or-map (λ (c : Counter). c.out) (set t.counters n (back (at t n) s).counter) k blank)
    ∙ ap (λ (x : List Bool). get_or x k false) (map-set_same (λ (c : Counter). c.out) t.counters n (back (at t n) s).counter blank refl)
    ∙ get_or-map (λ (c : Counter). c.out) t.counters k blank
