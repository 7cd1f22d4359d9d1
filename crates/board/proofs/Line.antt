-- OUT0 at line 0 of the interrupt chip: of n pulses all that the chip keeps is the last change of OUT0.
use mathlib.Core.Bool.{Bool, true, false, not, true≢false}
use mathlib.Core.Path.{◌≡◌, refl, sym, ap, ◌∙◌}
use Prim.Native.Nat.{ℕ, zero, suc, ◌+◌, ◌<◌}
use native.Mathlib.Nat.{add-zero}
use native.Mathlib.Omega.{arith}
use borrow.Author.Tests.{lt-ltb}
use lib.Bits.{bit_or}
use lib.Dec.{ltb, eqb, eqb→eq}
use Rattle.bits.specs.Choice.{every}
use Rattle.std.specs.Prelude.{if◌then◌else◌}
use Rattle.bits.specs.Bits.{bit_of, with_of, without_of, masked_of}
use Rattle.bits.proofs.Every.{below, same}
use Rattle.icu.specs.declared.Icu.{Icu}
use Rattle.icu.specs.Fields.{edges_is}
use Rattle.icu.specs.Words.{ready, lev}
use Rattle.icu.specs.Requests.{rises, lines_of}
use Rattle.timer.specs.declared.Counter.{Counter}
use Rattle.timer.specs.Pulse.{pulse_of}
use Rattle.timer.specs.Run.{rise_of, ran_of}
use Rattle.board.specs.Wiring.{lines_by}

-- Of the eight, a change of line 0 is a rise of line 0 or of none; and a fall is a rise the other way.
one_rise : (intp : ℕ) → intp < 256 → (was now : Bool) → rises (lines_by intp was) (lines_by intp now) ≡ rise_of was now
unfolding masked_of with_of without_of bit_of every
one_rise intp h true true = eqb→eq _ _ (below (λ i. eqb (rises (lines_by i true) (lines_by i true)) 0) 256 tt intp h)
one_rise intp h true false = eqb→eq _ _ (below (λ i. eqb (rises (lines_by i true) (lines_by i false)) 0) 256 tt intp h)
one_rise intp h false true = eqb→eq _ _ (below (λ i. eqb (rises (lines_by i false) (lines_by i true)) 1) 256 tt intp h)
one_rise intp h false false = eqb→eq _ _ (below (λ i. eqb (rises (lines_by i false) (lines_by i false)) 0) 256 tt intp h)

-- The requests e once line 0 went from a level to another: if it stayed, they are as they were; and of two changes the second decides.
abbrev turned : ℕ → Bool → Bool → ℕ
turned e was now = masked_of (bit_or e (rise_of was now)) (rise_of now was)

abbrev origin : Bool → Bool → Bool → Bool
origin was mid now = if same mid now then was else mid

module _ (e : ℕ) (h : e < 256) where
  stayed : (o : Bool) → turned e o o ≡ e
  unfolding masked_of every
  stayed true = eqb→eq _ _ (below (λ e. eqb (turned e true true) e) 256 tt e h)
  stayed false = eqb→eq _ _ (below (λ e. eqb (turned e false false) e) 256 tt e h)

  twice : (was mid now : Bool) → turned (turned e was mid) mid now ≡ turned e (origin was mid now) now
  unfolding masked_of every
  twice true true true = eqb→eq _ _ (below (λ e. eqb (turned (turned e true true) true true) (turned e true true)) 256 tt e h)
  twice true true false = eqb→eq _ _ (below (λ e. eqb (turned (turned e true true) true false) (turned e true false)) 256 tt e h)
  twice true false true = eqb→eq _ _ (below (λ e. eqb (turned (turned e true false) false true) (turned e false true)) 256 tt e h)
  twice true false false = eqb→eq _ _ (below (λ e. eqb (turned (turned e true false) false false) (turned e true false)) 256 tt e h)
  twice false true true = eqb→eq _ _ (below (λ e. eqb (turned (turned e false true) true true) (turned e false true)) 256 tt e h)
  twice false true false = eqb→eq _ _ (below (λ e. eqb (turned (turned e false true) true false) (turned e true false)) 256 tt e h)
  twice false false true = eqb→eq _ _ (below (λ e. eqb (turned (turned e false false) false true) (turned e false true)) 256 tt e h)
  twice false false false = eqb→eq _ _ (below (λ e. eqb (turned (turned e false false) false false) (turned e false false)) 256 tt e h)

-- The same of the chip.
abbrev saw : Icu → Bool → Bool → Icu
saw c was now = if ready c then (if lev c then c else edges_is (turned c.edges was now) c) else c

module _ (c : Icu) (h : c.edges < 256) where
  saw_none : (o : Bool) → saw c o o ≡ c
  saw_none o = rw (stayed c.edges h o) (by (ready c) (lev c))
    where
      by : (p q : Bool) → (if p then (if q then c else c) else c) ≡ c
      by true true = refl
      by true false = refl
      by false q = refl

  saw_twice : (was mid now : Bool) → saw (saw c was mid) mid now ≡ saw c (origin was mid now) now
  saw_twice was mid now = by (ready c) (lev c) refl refl
    where
      by : (p q : Bool) → ready c ≡ p → lev c ≡ q → saw (saw c was mid) mid now ≡ saw c (origin was mid now) now
      by true true e f = rw (e, f, e, f)
      by true false e f = rw (e, f, twice c.edges h was mid now, e, f)
      by false q e f = rw (e, e)

-- OUT0 was at a level, some pulses came of which r made it rise, and it is at a level: its level before the last change.
abbrev pub before : Bool → Bool → ℕ → Bool
before was now r = if ltb 0 r then not now else was

module _ (intp : ℕ) where
  abbrev pub told : Icu → Bool → ℕ → Bool → Icu
  told c was r now = lines_of c (lines_by intp (before was now r)) (lines_by intp now)

  module _ (byte : intp < 256) (c : Icu) (h : c.edges < 256) where
    seen : (d : Icu) (was now : Bool) → lines_of d (lines_by intp was) (lines_by intp now) ≡ saw d was now
    unfolding lines_of
    seen d was now = rw (one_rise intp byte was now, one_rise intp byte now was)

    -- No pulse, and one pulse more. (An OUT that is high and never rose was high.)
    pub told_none : (o : Bool) → told c o 0 o ≡ c
    told_none o = seen c o o ∙ saw_none c h o

    from : (was now next : Bool) (r : ℕ) → (r ≡ 0 → now ≡ true → was ≡ true) → origin (before was now r) now next ≡ before was next (r + rise_of now next)
    from was true true r f = rw add-zero
    from was false false r f = rw add-zero
    from was false true r f = rw (lt-ltb 0 (r + 1) (omega arith))
    from was true false zero f = sym (f refl refl)
    from was true false (suc r) f = rw (lt-ltb 0 (suc r + 0) (omega arith))

    pub told_on : (was now next : Bool) (r : ℕ) → (r ≡ 0 → now ≡ true → was ≡ true)
        → lines_of (told c was r now) (lines_by intp now) (lines_by intp next) ≡ told c was (r + rise_of now next) next
    told_on was now next r f =
        seen (told c was r now) now next
        ∙ ap (λ (d : Icu). saw d now next) (seen c (before was now r) now)
        ∙ saw_twice c h (before was now r) now next
        ∙ ap (λ (o : Bool). saw c o next) (from was now next r f)
        ∙ sym (seen c (before was next (r + rise_of now next)) next)

-- A counter whose OUT is high and never rose.
pub never_rose : (c : Counter) (n : ℕ) → (ran_of c n).rises ≡ 0 → (ran_of c n).counter.out ≡ true → c.out ≡ true
unfolding ran_of
never_rose c zero e h = h
never_rose c (suc n) e h =
    never_rose c n (omega (arith, e)) (high (ran_of c n).counter.out (pulse_of (ran_of c n).counter).out (omega (arith, e)) h)
  where
    high : (was now : Bool) → rise_of was now ≡ 0 → now ≡ true → was ≡ true
    high true now e h = refl
    high false true e h = absurd (omega (arith, e))
    high false false e h = absurd (true≢false (sym h))
