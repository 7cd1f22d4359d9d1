-- The law of OUT, mode by mode: what a counter is after k pulses, in closed form.
use mathlib.Core.Path.{◌≡◌, refl, ap, sym, ◌∙◌}
use mathlib.Core.List.{List}
use mathlib.Core.Bool.{Bool, true, false, not, false≢true}
use Prim.Native.Nat.{ℕ, zero, suc, ◌+◌, ◌*◌, ◌-◌, ◌/◌, ◌%◌, ◌≤◌, ◌<◌}
use native.Mathlib.Nat.{suc-mod, mod-lt, mod-eq_of_lt, mod_self, div-add-mod', mul-add-div_right, div-eq_of_lt, div_self, zero-div, zero-mod}
use native.Mathlib.Omega.{arith}
use lib.Dec.{eqb, ltb, leb}
use borrow.Author.Tests.{eqb-true, eqb-false, leb-true, leb-false, ltb-true, ltb-false, eq-eqb, ne_eqb, lt-ltb, le-ltb, le-leb, lt-leb}
use Rattle.bits.specs.Choice.{◌and◌, ◌or◌}
use Rattle.std.specs.Prelude.{if◌then◌else◌}
use Rattle.bits.specs.Bits.{less}
use Rattle.timer.specs.declared.Counter.{Counter}
use Rattle.timer.specs.Fields.{value_is, out_is}
use Rattle.timer.specs.Shared.{counted}
use Rattle.timer.specs.Mode0.{pulse0}
use Rattle.timer.specs.Mode1.{pulse1}
use Rattle.timer.specs.Mode2.{on2, pulse2}
use Rattle.timer.specs.Mode3.{on3, pulse3}
use Rattle.timer.specs.Mode4.{pulse4}
use Rattle.timer.specs.Mode5.{pulse5}
use Rattle.timer.specs.Modes.{mode_of}
use Rattle.timer.specs.Ports.{mode_set, completed, size_of}
use Rattle.timer.specs.Pulse.{pulse_of, gate_of}
use Rattle.timer.specs.Run.{rise_of, ran_of}
use Rattle.timer.specs.Timer.{at}
use Rattle.board.specs.declared.Board.{Board}
use Rattle.promises.specs.Waves.{Loaded, started, out_after, rises_after, Waved, Waves}
use Rattle.promises.proofs.Modes.{modes}

-- A counter with another value and another OUT.
abbrev put : ℕ → Bool → Counter → Counter
put v o c = out_is o (value_is v c)

-- Where each pulse takes value and OUT on by a rule of k, they are as the rule says after any k; and so are the rises.
module _ (c : Counter) (v : ℕ → ℕ) (o : ℕ → Bool) (r : ℕ → ℕ)
    (v₀ : c.value ≡ v 0) (o₀ : c.out ≡ o 0) (r₀ : r 0 ≡ 0)
    (on : (k : ℕ) → pulse_of (put (v k) (o k) c) ≡ put (v (suc k)) (o (suc k)) c)
    (rise : (k : ℕ) → r k + rise_of (o k) (o (suc k)) ≡ r (suc k)) where
  is : (k : ℕ) → ran_of c k ≡ record { counter = put (v k) (o k) c; rises = r k }
  unfolding ran_of
  is zero = rw (← v₀, ← o₀, r₀)
  is (suc k) = rw (is k, on k, rise k)

  follows : (k : ℕ) → ((ran_of c k).counter.out ≡ o k) × ((ran_of c k).rises ≡ r k)
  follows k = rw (is k) (refl, refl)

-- what holds of both, each where its test says so, holds of the one chosen
pick : {A : Type 0} {x y : A} (P : A → Type 0) (b : Bool) → (b ≡ true → P x) → (b ≡ false → P y) → P (if b then x else y)
pick P true f g = f refl
pick P false f g = g refl

-- tests that say the same
leb_same : (a b d e : ℕ) → (a ≤ b → d ≤ e) → (d ≤ e → a ≤ b) → leb a b ≡ leb d e
leb_same a b d e f g = by (leb a b) (leb d e) refl refl
  where
    by : (t u : Bool) → leb a b ≡ t → leb d e ≡ u → leb a b ≡ leb d e
    by true true x y = x ∙ sym y
    by false false x y = x ∙ sym y
    by true false x y = absurd (omega (arith, f (leb-true a b x), leb-false d e y))
    by false true x y = absurd (omega (arith, g (leb-true d e y), leb-false a b x))

eqb_same : (a b d e : ℕ) → (a ≡ b → d ≡ e) → (d ≡ e → a ≡ b) → eqb a b ≡ eqb d e
eqb_same a b d e f g = by (eqb a b) refl
  where
    by : (t : Bool) → eqb a b ≡ t → eqb a b ≡ eqb d e
    by true h = h ∙ sym (eq-eqb d e (f (eqb-true a b h)))
    by false h = h ∙ sym (ne_eqb d e (λ x. eqb-false a b h (g x)))

-- a number up to 65,536, in 16 bits: itself or 0
data Low (x : ℕ) : Type 0 where
  below : x < 65536 → x % 65536 ≡ x → Low x
  top : x ≡ 65536 → x % 65536 ≡ 0 → Low x

low : (x : ℕ) → x ≤ 65536 → Low x
low x h = by (ltb x 65536) refl
  where
    by : (b : Bool) → ltb x 65536 ≡ b → Low x
    by true e = let l = ltb-true x 65536 e in below l (mod-eq_of_lt l)
    by false e = let q : x ≡ 65536 = omega (arith, ltb-false x 65536 e, h) in top q (rw q)

-- The values of a half of mode 3, with h twos in it, r pulses on: none gone yet, one pulse more, the last one of either half, and one that is not the last.
none_gone : (h r : ℕ) → r ≡ 0 → (2 * h - 2 * r) % 65536 ≡ 2 * h % 65536
none_gone h r e = rw e (omega arith)

two_less : (h r : ℕ) → suc r ≤ h → less (less ((2 * h - 2 * r) % 65536)) ≡ (2 * h - 2 * suc r) % 65536
two_less h r l =
    let d : 2 * h - 2 * r ≡ 2 * h - 2 * suc r + 2 = omega (arith, l) in
    rw d (by (2 * h - 2 * suc r))
  where
    by : (y : ℕ) → less (less ((y + 2) % 65536)) ≡ y % 65536
    by y = omega arith

last_high_value : (h p r : ℕ) → p < 2 → suc r ≡ h + p → (2 * h - 2 * r) % 65536 ≡ 2 - 2 * p
last_high_value h zero r l e = let d : 2 * h - 2 * r ≡ 2 = omega (arith, e) in rw d
last_high_value h (suc zero) r l e = let d : 2 * h - 2 * r ≡ 0 = omega (arith, e) in rw d
last_high_value h (suc (suc p)) r l e = absurd (omega (arith, l))

not_last_high : (h p r : ℕ) → p < 2 → suc r < h + p → 2 * h + p ≤ 65536 → (2 * h - 2 * r) % 65536 ≡ 2 - 2 * p → ⊥
not_last_high h zero r l e m z = by (low (2 * h - 2 * r) (omega (arith, m)))
  where
    by : Low (2 * h - 2 * r) → ⊥
    by (below _ q) = omega (arith, q, e, z)
    by (top _ q) = omega (arith, q, z)
not_last_high h (suc zero) r l e m z = by (low (2 * h - 2 * r) (omega (arith, m)))
  where
    by : Low (2 * h - 2 * r) → ⊥
    by (below _ q) = omega (arith, q, e, z)
    by (top x q) = omega (arith, x, m)
not_last_high h (suc (suc p)) r l e m z = omega (arith, l)

last_low_value : (h r : ℕ) → suc r ≡ h → (2 * h - 2 * r) % 65536 ≡ 2
last_low_value h r e = let d : 2 * h - 2 * r ≡ 2 = omega (arith, e) in rw d

not_last_low : (h r : ℕ) → suc r < h → 2 * h ≤ 65536 → (2 * h - 2 * r) % 65536 ≡ 2 → ⊥
not_last_low h r e m z = by (low (2 * h - 2 * r) (omega (arith, m)))
  where
    by : Low (2 * h - 2 * r) → ⊥
    by (below _ q) = omega (arith, q, e, z)
    by (top _ q) = omega (arith, q, z)

-- a count without its lowest bit, in 16 bits
even_of : (N : ℕ) → N ≤ 65536 → N % 65536 - N % 65536 % 2 ≡ 2 * (N / 2) % 65536
even_of N h = by (low N h)
  where
    by : Low N → N % 65536 - N % 65536 % 2 ≡ 2 * (N / 2) % 65536
    by (below l q) =
        let d : N - N % 2 ≡ 2 * (N / 2) = omega arith in
        rw (q, mod-eq_of_lt (let z : 2 * (N / 2) < 65536 = omega (arith, l) in z)) d
    by (top e q) = rw e refl

-- A count of N, at most 65,536.
module _ (N : ℕ) (some : 1 ≤ N) (most : N ≤ 65536) where
  -- Modes 0, 1, 4 and 5 count down through 0 and on.
  abbrev down : ℕ → ℕ
  down k = (N + 65535 * k) % 65536

  down_on : (k : ℕ) → less (down k) ≡ down (suc k)
  down_on k = omega arith

  module _ (c : Counter) (loaded : c.value ≡ N % 65536) where
    begins : c.value ≡ down 0
    begins = loaded ∙ omega arith

    -- Modes 0 and 1.
    module _ (low : c.out ≡ false) (goes : (v : ℕ) (o : Bool) → pulse_of (put v o c) ≡ counted 0 true (less v) (put v o c)) where
      abbrev ends : ℕ → Bool
      ends k = leb N k

      ends_on : (k : ℕ) → (if eqb (down (suc k)) 0 then put (down (suc k)) true c else put (down (suc k)) (ends k) c) ≡ put (down (suc k)) (ends (suc k)) c
      ends_on k =
          pick (λ (d : Counter). d ≡ put (down (suc k)) (ends (suc k)) c) (eqb (down (suc k)) 0)
          (λ z. rw (le-leb N (suc k) (omega (arith, eqb-true (down (suc k)) 0 z))))
          (λ z.
          let far : N ≡ suc k → ⊥ = λ e. eqb-false (down (suc k)) 0 z (omega (arith, e)) in
          ap (λ (o : Bool). put (down (suc k)) o c) (leb_same N k N (suc k) (λ h. omega (arith, h)) (λ h. omega (arith, h, far))))

      once : (a b : Bool) → (a ≡ true → b ≡ true) → (if a then 1 else 0) + rise_of a b ≡ (if b then 1 else 0)
      once true true f = refl
      once true false f = let e : false ≡ true = f refl in cc
      once false true f = refl
      once false false f = refl

      one_shot : (k : ℕ) → ((ran_of c k).counter.out ≡ leb N k) × ((ran_of c k).rises ≡ (if leb N k then 1 else 0))
      one_shot =
          follows c down ends (λ k. if leb N k then 1 else 0) begins (low ∙ sym (lt-leb N 0 some)) (rw (lt-leb N 0 some))
          (λ k. goes (down k) (ends k) ∙ rw (down_on k) (ends_on k))
          (λ k. once (leb N k) (leb N (suc k)) (λ h. le-leb N (suc k) (omega (arith, leb-true N k h))))

    -- Modes 4 and 5.
    module _ (high : c.out ≡ true) (goes : (v : ℕ) (o : Bool) → pulse_of (put v o c) ≡ counted 0 false (less v) (put v true c)) where
      abbrev strobe : ℕ → Bool
      strobe k = eqb k 0 or not (eqb (k % 65536) (N % 65536))

      low_at : (k : ℕ) → strobe (suc k) ≡ not (eqb (down (suc k)) 0)
      low_at k =
          rw (ne_eqb (suc k) 0 (λ e. omega (arith, e)))
          (ap not (eqb_same (suc k % 65536) (N % 65536) (down (suc k)) 0 (λ h. omega (arith, h)) (λ h. omega (arith, h))))

      strobe_on : (k : ℕ) → (if eqb (down (suc k)) 0 then put (down (suc k)) false c else put (down (suc k)) true c) ≡ put (down (suc k)) (strobe (suc k)) c
      strobe_on k = rw (low_at k) (by (eqb (down (suc k)) 0))
        where
          by : (b : Bool) → (if b then put (down (suc k)) false c else put (down (suc k)) true c) ≡ put (down (suc k)) (not b) c
          by true = refl
          by false = refl

      rise_at : (k : ℕ) → (k + 65535 - N) / 65536 + rise_of (strobe k) (strobe (suc k)) ≡ (suc k + 65535 - N) / 65536
      rise_at zero = omega arith
      rise_at (suc k) = rw (low_at k, low_at (suc k)) (by (eqb (down (suc k)) 0) refl)
        where
          by : (b : Bool) → eqb (down (suc k)) 0 ≡ b
              → (suc k + 65535 - N) / 65536 + rise_of (not b) (not (eqb (down (suc (suc k))) 0)) ≡ (suc (suc k) + 65535 - N) / 65536
          by true e =
              let z : down (suc k) ≡ 0 = eqb-true _ _ e in
              rw (ne_eqb (down (suc (suc k))) 0 (λ h. omega (arith, z, h))) (omega (arith, z))
          by false e = let z : down (suc k) ≡ 0 → ⊥ = eqb-false _ _ e in omega (arith, z)

      strobes : (k : ℕ) → ((ran_of c k).counter.out ≡ strobe k) × ((ran_of c k).rises ≡ (k + 65535 - N) / 65536)
      strobes =
          follows c down strobe (λ k. (k + 65535 - N) / 65536) begins high (omega arith)
          (λ k. goes (down k) (strobe k) ∙ rw (down_on k) (strobe_on k))
          rise_at

  -- Modes 2 and 3 go round in N pulses.
  module _ (two : 2 ≤ N) where
    inside : (k : ℕ) → k % N < N
    inside k = mod-lt k some

    -- the next place in the round, and the rounds done: within one, and at its end
    next_in : (k : ℕ) → suc (k % N) < N → suc k % N ≡ suc (k % N)
    next_in k h = suc-mod k N ∙ mod-eq_of_lt h

    next_out : (k : ℕ) → suc (k % N) ≡ N → suc k % N ≡ 0
    next_out k h = suc-mod k N ∙ ap (λ x. x % N) h ∙ mod_self N

    rounds : (k : ℕ) → suc k / N ≡ k / N + suc (k % N) / N
    rounds k =
        let e : suc k ≡ k / N * N + suc (k % N) = omega (arith, div-add-mod' k N) in
        ap (λ x. x / N) e ∙ mul-add-div_right some (k / N) (suc (k % N))

    rounds_in : (k : ℕ) → suc (k % N) < N → suc k / N ≡ k / N
    rounds_in k h = rounds k ∙ rw (div-eq_of_lt h) (omega arith)

    rounds_out : (k : ℕ) → suc (k % N) ≡ N → suc k / N ≡ k / N + 1
    rounds_out k h = rounds k ∙ rw (h, div_self some)

    -- the last place of the round, or another
    placed : {A : Type 0} (k : ℕ) → (suc (k % N) ≡ N → A) → (suc (k % N) < N → A) → A
    placed {A} k f g = by (eqb (suc (k % N)) N) refl
      where
        by : (b : Bool) → eqb (suc (k % N)) N ≡ b → A
        by true e = f (eqb-true _ _ e)
        by false e = let z : suc (k % N) ≡ N → ⊥ = eqb-false _ _ e in g (omega (arith, z, inside k))

    at_start : 0 % N ≡ 0
    at_start = zero-mod N

    module _ (c : Counter) (loaded : c.count ≡ N % 65536) where
      to : {a b : ℕ} {p q : Bool} → a ≡ b → p ≡ q → put a p c ≡ put b q c
      to e f = rw (e, f)

      -- Mode 2.
      module _ (value : c.value ≡ N % 65536) (high : c.out ≡ true) (goes : (v : ℕ) (o : Bool) → pulse_of (put v o c) ≡ on2 (put v o c)) where
        abbrev left : ℕ → ℕ
        left k = (N - k % N) % 65536

        abbrev up : ℕ → Bool
        up k = not (eqb (k % N) (N - 1))

        up_in : (k : ℕ) → suc (k % N) < N → up k ≡ true
        up_in k h = rw (ne_eqb (k % N) (N - 1) (λ e. omega (arith, e, h)))

        up_out : (k : ℕ) → suc (k % N) ≡ N → up k ≡ false
        up_out k h = let e : k % N ≡ N - 1 = omega (arith, h) in rw (eq-eqb (k % N) (N - 1) e)

        up_next : (k : ℕ) → suc (k % N) ≡ N → up (suc k) ≡ true
        up_next k h = rw (ne_eqb (suc k % N) (N - 1) (λ e. omega (arith, e, next_out k h, two)))

        up_at : (k : ℕ) → suc (k % N) < N → up (suc k) ≡ not (eqb (left (suc k)) 1)
        up_at k h =
            ap not (eqb_same (suc k % N) (N - 1) (left (suc k)) 1
            (λ e. omega (arith, e, next_in k h, h, most))
            (λ e. omega (arith, e, next_in k h, h, most)))

        turn : (k : ℕ) → on2 (put (left k) (up k) c) ≡ put (left (suc k)) (up (suc k)) c
        turn k = placed k
            (λ h.
            let e : left k ≡ 1 = omega (arith, h) in
            let n : c.count ≡ left (suc k) = loaded ∙ omega (arith, next_out k h) in
            rw (eq-eqb (left k) 1 e) (to n (sym (up_next k h))))
            (λ h.
            let l : less (left k) ≡ left (suc k) = omega (arith, next_in k h, h) in
            rw (ne_eqb (left k) 1 (λ e. omega (arith, e, h, most)), l, up_in k h, up_at k h) (by (left (suc k)) (eqb (left (suc k)) 1)))
          where
            by : (x : ℕ) (b : Bool) → (if b then put x false c else put x true c) ≡ put x (not b) c
            by x true = refl
            by x false = refl

        rises : (k : ℕ) → k / N + rise_of (up k) (up (suc k)) ≡ suc k / N
        rises k = placed k
            (λ h. rw (up_out k h, up_next k h) (sym (rounds_out k h)))
            (λ h. rw (up_in k h) (omega (arith, rounds_in k h)))

        rate : (k : ℕ) → ((ran_of c k).counter.out ≡ up k) × ((ran_of c k).rises ≡ k / N)
        rate =
            follows c left up (λ k. k / N)
            (value ∙ omega (arith, at_start))
            (high ∙ sym (rw at_start (rw (ne_eqb 0 (N - 1) (λ e. omega (arith, e, two))))))
            (zero-div N)
            (λ k. goes (left k) (up k) ∙ turn k)
            rises

      -- Mode 3.
      abbrev even : ℕ
      even = 2 * (N / 2)

      module _ (value : c.value ≡ even % 65536) (high : c.out ≡ true) (odd : c.odd ≡ eqb (N % 2) 1)
          (goes : (v : ℕ) (o : Bool) → pulse_of (put v o c) ≡ on3 (put v o c)) where
        -- the high half is the longer one
        abbrev longer : ℕ
        longer = N / 2 + N % 2

        abbrev first : ℕ → Bool
        first k = ltb (k % N) longer

        abbrev half_left : ℕ → ℕ
        half_left k = if first k then (even - 2 * (k % N)) % 65536 else (even - 2 * (k % N - longer)) % 65536

        -- where a half ends, and what a pulse does there and before
        end_high : (if c.odd then 0 else 2) ≡ 2 - 2 * (N % 2)
        end_high = rw odd (by (N % 2) (omega arith))
          where
            by : (x : ℕ) → x < 2 → (if eqb x 1 then 0 else 2) ≡ 2 - 2 * x
            by zero h = refl
            by (suc zero) h = refl
            by (suc (suc x)) h = absurd (omega (arith, h))

        turns : (v : ℕ) (o : Bool) → eqb v (if o and c.odd then 0 else 2) ≡ true → on3 (put v o c) ≡ put (even % 65536) (not o) c
        turns v o t =
            let e : c.count - c.count % 2 ≡ even % 65536 = rw loaded (even_of N most) in
            let p : N % 65536 % 2 ≡ N % 2 = omega arith in
            let f : eqb (c.count % 2) 1 ≡ c.odd = rw (loaded, p, odd) in
            rw (t, e, f)

        stays : (v : ℕ) (o : Bool) → eqb v (if o and c.odd then 0 else 2) ≡ false → on3 (put v o c) ≡ put (less (less v)) o c
        stays v o t = rw t

        -- the places of the high half and of the low one
        in_high : (k : ℕ) → k % N < longer → (half_left k ≡ (even - 2 * (k % N)) % 65536) × (first k ≡ true)
        in_high k h = let t = lt-ltb (k % N) longer h in rw t (refl, refl)

        in_low : (k : ℕ) → longer ≤ k % N → (half_left k ≡ (even - 2 * (k % N - longer)) % 65536) × (first k ≡ false)
        in_low k h = let t = le-ltb (k % N) longer h in rw t (refl, refl)

        shorter : longer < N
        shorter = omega (arith, two)

        swing : (k : ℕ) → on3 (put (half_left k) (first k) c) ≡ put (half_left (suc k)) (first (suc k)) c
        swing k = by (ltb (k % N) longer) refl
          where
            last_high : k % N < longer → suc (k % N) ≡ longer → on3 (put (half_left k) (first k) c) ≡ put (half_left (suc k)) (first (suc k)) c
            last_high h e =
                let i = in_high k h in
                let n = next_in k (omega (arith, e, shorter)) in
                let j = in_low (suc k) (omega (arith, n, e)) in
                let v = last_high_value (N / 2) (N % 2) (k % N) (omega arith) e in
                rw (i.0, i.1)
                (turns _ true (rw end_high (eq-eqb _ _ v)) ∙ to (sym (j.0 ∙ none_gone (N / 2) (suc k % N - longer) (omega (arith, n, e)))) (sym j.1))

            more_high : suc (k % N) < longer → on3 (put (half_left k) (first k) c) ≡ put (half_left (suc k)) (first (suc k)) c
            more_high h =
                let i = in_high k (omega (arith, h)) in
                let n = next_in k (omega (arith, h, shorter)) in
                let j = in_high (suc k) (omega (arith, n, h)) in
                let v = not_last_high (N / 2) (N % 2) (k % N) (omega arith) h (omega (arith, most)) in
                let l = two_less (N / 2) (k % N) (omega (arith, h)) ∙ ap (λ x. (2 * (N / 2) - 2 * x) % 65536) (sym n) in
                rw (i.0, i.1) (stays _ true (rw end_high (ne_eqb _ _ v)) ∙ to (l ∙ sym j.0) (sym j.1))

            last_low : longer ≤ k % N → suc (k % N) ≡ N → on3 (put (half_left k) (first k) c) ≡ put (half_left (suc k)) (first (suc k)) c
            last_low h e =
                let i = in_low k h in
                let n = next_out k e in
                let j = in_high (suc k) (omega (arith, n, some)) in
                let v = last_low_value (N / 2) (k % N - longer) (omega (arith, e, h)) in
                rw (i.0, i.1) (turns ((even - 2 * (k % N - longer)) % 65536) false (eq-eqb _ _ v) ∙ to (sym (j.0 ∙ none_gone (N / 2) (suc k % N) n)) (sym j.1))

            more_low : longer ≤ k % N → suc (k % N) < N → on3 (put (half_left k) (first k) c) ≡ put (half_left (suc k)) (first (suc k)) c
            more_low h e =
                let i = in_low k h in
                let n = next_in k e in
                let j = in_low (suc k) (omega (arith, n, h)) in
                let v = not_last_low (N / 2) (k % N - longer) (omega (arith, e, h)) (omega (arith, most)) in
                let q : suc (k % N - longer) ≡ suc k % N - longer = omega (arith, n, h) in
                let l = two_less (N / 2) (k % N - longer) (omega (arith, e, h)) ∙ ap (λ x. (2 * (N / 2) - 2 * x) % 65536) q in
                rw (i.0, i.1) (stays ((even - 2 * (k % N - longer)) % 65536) false (ne_eqb _ _ v) ∙ to (l ∙ sym j.0) (sym j.1))

            by : (b : Bool) → ltb (k % N) longer ≡ b → on3 (put (half_left k) (first k) c) ≡ put (half_left (suc k)) (first (suc k)) c
            by true t = high_by (eqb (suc (k % N)) longer) refl
              where
                high_by : (b : Bool) → eqb (suc (k % N)) longer ≡ b → on3 (put (half_left k) (first k) c) ≡ put (half_left (suc k)) (first (suc k)) c
                high_by true e = last_high (ltb-true _ _ t) (eqb-true _ _ e)
                high_by false e =
                    let z : suc (k % N) ≡ longer → ⊥ = eqb-false _ _ e in
                    let h : k % N < longer = ltb-true _ _ t in
                    more_high (omega (arith, z, h))
            by false t = placed k (last_low (ltb-false _ _ t)) (more_low (ltb-false _ _ t))

        swing_rises : (k : ℕ) → k / N + rise_of (first k) (first (suc k)) ≡ suc k / N
        swing_rises k = placed k
            (λ h.
            let i = in_low k (omega (arith, h, shorter)) in
            let j = in_high (suc k) (omega (arith, next_out k h, some)) in
            rw (i.1, j.1) (sym (rounds_out k h)))
            (λ h. by (ltb (k % N) longer) refl h)
          where
            by : (b : Bool) → ltb (k % N) longer ≡ b → suc (k % N) < N → k / N + rise_of (first k) (first (suc k)) ≡ suc k / N
            by true t h = rw t (omega (arith, rounds_in k h))
            by false t h =
                let l : longer ≤ k % N = ltb-false _ _ t in
                let j = in_low (suc k) (omega (arith, next_in k h, l)) in
                rw (t, j.1) (omega (arith, rounds_in k h))

        square : (k : ℕ) → ((ran_of c k).counter.out ≡ first k) × ((ran_of c k).rises ≡ k / N)
        square =
            let j = in_high 0 (omega (arith, at_start, some)) in
            follows c half_left first (λ k. k / N)
            (value ∙ sym (j.0 ∙ none_gone (N / 2) (0 % N) at_start))
            (high ∙ sym j.1)
            (zero-div N)
            (λ k. goes (half_left k) (first k) ∙ swing k)
            swing_rises

lowest : (x : ℕ) → x % 65536 % 2 ≡ x % 2
lowest x = omega arith

-- What a written count counts, and as which it is written.
record Counts (w N : ℕ) : Type 0 where
  some : 1 ≤ N
  most : N ≤ 65536
  low_part : w ≡ N % 65536

counts : (w : ℕ) → w < 65536 → Counts w (size_of w)
counts w h = by (eqb w 0) refl
  where
    by : (b : Bool) → eqb w 0 ≡ b → Counts w (if b then 65536 else w)
    by true e =
        let z : w ≡ 0 = eqb-true w 0 e in
        record { some = omega arith; most = omega arith; low_part = z }
    by false e =
        let z : w ≡ 0 → ⊥ = eqb-false w 0 e in
        record { some = omega (arith, z); most = omega (arith, h); low_part = sym (mod-eq_of_lt h) }

module _ (w : ℕ) (c : Counter) (h : w < 65536) where
  abbrev N : ℕ
  N = size_of w

  abbrev Holds : ℕ → Type 0
  Holds m = (k : ℕ) → ((ran_of c k).counter.out ≡ out_after m N k) × ((ran_of c k).rises ≡ rises_after m N k)

  wave_0 : Loaded 0 w c → Holds 0
  unfolding pulse_of mode_of pulse0
  wave_0 l =
      let n = counts w h in
      one_shot N n.some n.most c (l.value ∙ n.low_part) l.out (λ v o. rw (l.full, l.mode, l.pending, l.gate, l.whole refl))

  wave_1 : Loaded 1 w c → Holds 1
  unfolding pulse_of mode_of pulse1
  wave_1 l =
      let n = counts w h in
      one_shot N n.some n.most c (l.value ∙ n.low_part) l.out (λ v o. rw (l.full, l.mode, l.trigger, l.pending))

  wave_2 : 2 ≤ N → Loaded 2 w c → Holds 2
  unfolding pulse_of mode_of pulse2
  wave_2 f l =
      let n = counts w h in
      rate N n.some n.most f c (l.count ∙ n.low_part) (l.value ∙ n.low_part) l.out
      (λ v o. rw (l.full, l.mode, l.pending, l.trigger, l.gate))

  wave_3 : 2 ≤ N → Loaded 3 w c → Holds 3
  unfolding pulse_of mode_of pulse3
  wave_3 f l k =
      let n = counts w h in
      let e : N / 2 + N % 2 ≡ (N + 1) / 2 = omega arith in
      let p : w % 2 ≡ N % 2 = ap (λ x. x % 2) n.low_part ∙ lowest N in
      let s = square N n.some n.most f c (l.count ∙ n.low_part)
      (l.value ∙ ap (λ x. x - x % 2) n.low_part ∙ even_of N n.most) l.out (l.odd refl ∙ ap (λ x. eqb x 1) p)
      (λ v o. rw (l.full, l.mode, l.pending, l.trigger, l.gate)) k in
      (s.0 ∙ ap (λ x. ltb (k % N) x) e, s.1)

  wave_4 : Loaded 4 w c → Holds 4
  unfolding pulse_of mode_of pulse4
  wave_4 l =
      let n = counts w h in
      strobes N n.some n.most c (l.value ∙ n.low_part) l.out (λ v o. rw (l.full, l.mode, l.pending, l.gate))

  wave_5 : Loaded 5 w c → Holds 5
  unfolding pulse_of mode_of pulse5
  wave_5 l =
      let n = counts w h in
      strobes N n.some n.most c (l.value ∙ n.low_part) l.out (λ v o. rw (l.full, l.mode, l.trigger, l.pending))

  wave_of : (m : ℕ) → m < 6 → (mode_of m).least ≤ N → Loaded m w c → Holds m
  unfolding mode_of
  wave_of zero b f l = wave_0 l
  wave_of (suc zero) b f l = wave_1 l
  wave_of (suc (suc zero)) b f l = wave_2 f l
  wave_of (suc (suc (suc zero))) b f l = wave_3 f l
  wave_of (suc (suc (suc (suc zero)))) b f l = wave_4 l
  wave_of (suc (suc (suc (suc (suc zero))))) b f l = wave_5 l
  wave_of (suc (suc (suc (suc (suc (suc m)))))) b f l = absurd (omega (arith, b))

-- No mode wants more than 65,536.
least_few : (m : ℕ) → m < 6 → (mode_of m).least ≤ 65536
unfolding mode_of
least_few zero b = omega arith
least_few (suc zero) b = omega arith
least_few (suc (suc zero)) b = omega arith
least_few (suc (suc (suc zero))) b = omega arith
least_few (suc (suc (suc (suc zero)))) b = omega arith
least_few (suc (suc (suc (suc (suc zero))))) b = omega arith
least_few (suc (suc (suc (suc (suc (suc m)))))) b = absurd (omega (arith, b))

-- An advance pulses each counter by itself.
waved : (b : Board) (memory : List ℕ) (n m w k : ℕ) → n < 3 → m < 6 → w < 65536 → (mode_of m).least ≤ size_of w → Loaded m w (at b.timer n)
    → k < 65536
    → Waved b memory n m (size_of w) k
waved b memory n m w k few b6 h f l short =
    let a = modes.no_other_counter b memory n k few short in
    let o = wave_of w (at b.timer n) h m b6 f l k in
    record { out = ap (λ (c : Counter). c.out) a.0 ∙ o.0; rises = a.1 ∙ o.1 }

-- The pulse that loads, in each mode.
module _ (f w : ℕ) (c : Counter) (g : c.gate ≡ true) where
  loads_of : (m : ℕ) → m < 6 → Loaded m w (pulse_of (started m (completed (mode_set m f c) w)))
  unfolding pulse_of mode_of gate_of completed mode_set pulse0 pulse1 pulse2 pulse3 pulse4 pulse5
  loads_of zero b = record { mode = refl; count = refl; value = refl; odd = λ e. absurd (omega (arith, e)); out = refl; full = refl; pending = refl; trigger = refl; whole = λ _. refl; gate = g }
  loads_of (suc zero) b = rw g (record { mode = refl; count = refl; value = refl; odd = λ e. absurd (omega (arith, e)); out = refl; full = refl; pending = refl; trigger = refl; whole = λ _. refl; gate = refl })
  loads_of (suc (suc zero)) b = record { mode = refl; count = refl; value = refl; odd = λ e. absurd (omega (arith, e)); out = refl; full = refl; pending = refl; trigger = refl; whole = λ _. refl; gate = g }
  loads_of (suc (suc (suc zero))) b = record { mode = refl; count = refl; value = refl; odd = λ _. refl; out = refl; full = refl; pending = refl; trigger = refl; whole = λ _. refl; gate = g }
  loads_of (suc (suc (suc (suc zero)))) b = record { mode = refl; count = refl; value = refl; odd = λ e. absurd (omega (arith, e)); out = refl; full = refl; pending = refl; trigger = refl; whole = λ _. refl; gate = g }
  loads_of (suc (suc (suc (suc (suc zero))))) b = rw g (record { mode = refl; count = refl; value = refl; odd = λ e. absurd (omega (arith, e)); out = refl; full = refl; pending = refl; trigger = refl; whole = λ _. refl; gate = refl })
  loads_of (suc (suc (suc (suc (suc (suc m)))))) b = absurd (omega (arith, b))

-- A trigger's pulse, in the modes that have one.
module _ (c : Counter) (f : c.full ≡ true) (g : c.gate ≡ true) (t : c.trigger ≡ true) (p : c.pending ≡ false) where
  retriggered : (m : ℕ) → c.mode ≡ m → (mode_of m).triggers ≡ true → Loaded m c.count (pulse_of c)
  unfolding pulse_of mode_of pulse1 pulse2 pulse3 pulse5
  retriggered zero e h = absurd (false≢true h)
  retriggered (suc zero) e h =
      rw (f, e, t)
      (record { mode = refl; count = refl; value = refl; odd = λ z. absurd (omega (arith, z)); out = refl; full = refl; pending = refl; trigger = refl; whole = λ z. absurd (omega (arith, z)); gate = g })
  retriggered (suc (suc zero)) e h =
      rw (f, e, p, t)
      (record { mode = refl; count = refl; value = refl; odd = λ z. absurd (omega (arith, z)); out = refl; full = refl; pending = refl; trigger = refl; whole = λ z. absurd (omega (arith, z)); gate = g })
  retriggered (suc (suc (suc zero))) e h =
      rw (f, e, p, t)
      (record { mode = refl; count = refl; value = refl; odd = λ z. refl; out = refl; full = refl; pending = refl; trigger = refl; whole = λ z. absurd (omega (arith, z)); gate = g })
  retriggered (suc (suc (suc (suc zero)))) e h = absurd (false≢true h)
  retriggered (suc (suc (suc (suc (suc zero))))) e h =
      rw (f, e, t)
      (record { mode = refl; count = refl; value = refl; odd = λ z. absurd (omega (arith, z)); out = refl; full = refl; pending = refl; trigger = refl; whole = λ z. absurd (omega (arith, z)); gate = g })
  retriggered (suc (suc (suc (suc (suc (suc m)))))) e h =
      let q = suc (suc (suc (suc (suc (suc m))))) in
      absurd (false≢true (rw (ne_eqb q 0 (λ z. omega (arith, z)), ne_eqb q 1 (λ z. omega (arith, z)), ne_eqb q 2 (λ z. omega (arith, z)), ne_eqb q 3 (λ z. omega (arith, z)), ne_eqb q 4 (λ z. omega (arith, z)), ne_eqb q 5 (λ z. omega (arith, z))) at h))

pub waves : Waves
waves =
    record {
      loads = λ m f w c b g. loads_of f w c g m b;
      retriggers = λ c f g t p h. retriggered c f g t p c.mode refl h;
      wave = λ m w c b h f l. wave_of w c h m b f l;
      waved = waved;
      written_0 = λ m c b l. wave_of 0 c (omega arith) m b (least_few m b) l;
    }
