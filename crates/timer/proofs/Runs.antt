-- n pulses of one counter are the first by the rule, and then those of a counter for which nothing pends.
use mathlib.Core.Bool.{Bool, true, false, not}
use mathlib.Core.Path.{◌≡◌, refl, ap, sym, ◌∙◌}
use Prim.Native.Nat.{ℕ, zero, suc, ◌+◌, ◌≤◌}
use native.Mathlib.Nat.{zero-add, add-zero, add_assoc}
use native.Mathlib.Numerals.{add-one}
use native.Mathlib.Omega.{arith}
use lib.Dec.{eqb}
use mir.Val.{bool_byte}
use Rattle.bits.specs.Choice.{◌and◌, ◌or◌}
use Rattle.std.specs.Prelude.{if◌then◌else◌}
use Rattle.bits.specs.Bits.{less}
use Rattle.timer.specs.Fields.{value_is, out_is, odd_is}
use Rattle.timer.specs.Shared.{Mode, counted}
use Rattle.timer.specs.Mode0.{pulse0}
use Rattle.timer.specs.Mode1.{pulse1}
use Rattle.timer.specs.Mode2.{on2, pulse2}
use Rattle.timer.specs.Mode3.{end_of_half, on3, pulse3}
use Rattle.timer.specs.Mode4.{pulse4}
use Rattle.timer.specs.Mode5.{pulse5}
use Rattle.timer.specs.Modes.{mode_of}
use Rattle.timer.specs.Pulse.{pulse_of}
use Rattle.timer.specs.Run.{rise_of, ran_on, ran_of}
use Rattle.timer.specs.Steady.{Fall, rose, moved, fall0, fall2, fall3, fall4, moving, fell_of, fallen_to, fell_by, rested, steady0, steady1, steady2, steady_of}
use Rattle.timer.specs.declared.Counter.{Counter}
use Rattle.timer.specs.declared.Moving.{Moving}
use Rattle.timer.specs.declared.Ran.{Ran}

-- what holds of both, each where its test says so, holds of the one chosen
pick : {A : Type 0} {x y : A} (P : A → Type 0) (b : Bool) → (b ≡ true → P x) → (b ≡ false → P y) → P (if b then x else y)
pick P true f g = f refl
pick P false f g = g refl

-- a level that stays does not rise
pub no_rise : (level : Bool) → rise_of level level ≡ 0
no_rise true = refl
no_rise false = refl

one_byte : (was now : Bool) → bool_byte (not was and now) ≡ rise_of was now
one_byte true now = refl
one_byte false true = refl
one_byte false false = refl

pub byte_small : (b : Bool) → bool_byte b ≤ 1
byte_small true = omega arith
byte_small false = omega arith

pub same_ran : (c d : Counter) (n k : ℕ) → c ≡ d → n ≡ k → ◌≡◌ {A = Ran} (record { counter = c; rises = n }) (record { counter = d; rises = k })
same_ran c d n k e h = rw (e, h)

-- The first pulse apart: the others are those of the counter that it leaves.
abbrev pub ran_first : Counter → Ran → Ran
ran_first c r = record { counter = r.counter; rises = rise_of c.out (pulse_of c).out + r.rises }

first : (c : Counter) (n : ℕ) → ran_first c (ran_of (pulse_of c) n) ≡ ran_of c (suc n)
unfolding ran_of
first c zero = rw (add-zero, zero-add)
first c (suc n) = rw (← add_assoc) (ap ran_on (first c n))

-- A counter that a pulse leaves as it is stays so.
abbrev Runs : Counter → ℕ → Ran → Type 0
Runs c n r = r ≡ ran_of c n

rests : (c : Counter) (n : ℕ) → pulse_of c ≡ c → Runs c n (rested c)
unfolding ran_of
rests c zero still = refl
rests c (suc n) still = rw (← rests c n still, still, no_rise c.out)

-- A counter of which a pulse moves value, OUT and `odd` alone, by a rule, falls by that rule.
abbrev pub moved_to : Counter → Moving → Counter
moved_to c m = odd_is m.odd (out_is m.out (value_is m.value c))

module _ (fall : Moving → Moving) where
  module _ (c : Counter) (by : (m : Moving) → pulse_of (moved_to c m) ≡ moved_to c (fall m)) where
    falls_from : (m : Moving) (n : ℕ) → fallen_to c (fell_of fall m n) ≡ ran_of (moved_to c m) n
    unfolding ran_of fell_of
    falls_from m zero = refl
    falls_from m (suc n) = rw (← falls_from m n, by (moving (fell_of fall m n)))

    falls : (n : ℕ) → Runs c n (fell_by fall c n)
    falls n = falls_from (moved c.value c.out c.odd) n

  module _ (m : Moving) where
    -- One pulse more: what moves goes by the rule, and a rise is told by 1.
    pub moved_on : (n : ℕ) (k l : Moving) → k ≡ moving (fell_of fall m n) → l ≡ fall k → l ≡ moving (fell_of fall m (n + 1))
    unfolding fell_of
    moved_on n k l e h = rw add-one (h ∙ ap fall e)

    pub told_on : (n : ℕ) (k l : Moving) (b : Bool) (r : ℕ) → k ≡ moving (fell_of fall m n) → l ≡ fall k → b ≡ rose k l → r ≡ (fell_of fall m n).rises
        → r + bool_byte b ≡ (fell_of fall m (n + 1)).rises
    unfolding fell_of
    told_on n k l b r e h w q = rw (add-one, q, w, h, e) (ap (λ (x : ℕ). (fell_of fall m n).rises + x) (one_byte _ _))

    -- Where OUT once high stays high, it rises once at most, and a loop need not count.
    module _ (stays : (k : Moving) → k.out ≡ true → (fall k).out ≡ true) where
      still_high : (n : ℕ) → m.out ≡ true → (fell_of fall m n).out ≡ true
      unfolding fell_of
      still_high zero e = e
      still_high (suc n) e = stays _ (still_high n e)

      rises_once : (n : ℕ) → (fell_of fall m n).rises ≡ rise_of m.out (fell_of fall m n).out
      unfolding fell_of
      rises_once zero = sym (no_rise m.out)
      rises_once (suc n) = rw (rises_once n) (by m.out _ _ (still_high n) (stays _))
        where
          by : (a b d : Bool) → (a ≡ true → b ≡ true) → (b ≡ true → d ≡ true) → rise_of a b + rise_of b d ≡ rise_of a d
          by true true d p q = refl
          by true false d p q = let e : false ≡ true = p refl in cc
          by false true d p q = rw (q refl)
          by false false true p q = refl
          by false false false p q = refl

      abbrev counted_up : Moving → ℕ → Fall
      counted_up k r = record { value = k.value; out = k.out; odd = k.odd; rises = r }

      pub fell_once : (n : ℕ) (k : Moving) (r : ℕ) → k ≡ moving (fell_of fall m n) → r ≡ rise_of m.out k.out → counted_up k r ≡ fell_of fall m n
      fell_once n k r e h =
          rw (h, e) (ap (counted_up (moving (fell_of fall m n))) (sym (rises_once n)))

pub stays0 : (k : Moving) → k.out ≡ true → (fall0 k).out ≡ true
stays0 k e = pick (λ (x : Moving). x.out ≡ true) (eqb (less k.value) 0) (λ z. refl) (λ z. e)

-- n pulses of modes 0 and 1, by the counter that they leave
pub ran_once : (c : Counter) (n : ℕ) (k : Counter) (r : ℕ) → k ≡ (fell_by fall0 c n).counter → r ≡ rise_of c.out k.out
    → ◌≡◌ {A = Ran} (record { counter = k; rises = r }) (fell_by fall0 c n)
ran_once c n k r e h =
    let start = moved c.value c.out c.odd in
    rw (h, e, ← rises_once fall0 start stays0 n)

-- Something stands that the next pulse uses up: a count that a pulse transfers, a trigger, or a strobe that ends though nothing counts.
abbrev pends : Counter → Bool
pends c =
    if c.full then
    (if eqb c.mode 0 then c.pending
    else if eqb c.mode 1 then c.trigger
    else if eqb c.mode 2 then c.pending or c.trigger
    else if eqb c.mode 3 then c.pending or c.trigger
    else if eqb c.mode 4 then c.pending or not (c.out or c.gate)
    else if eqb c.mode 5 then c.trigger or (not c.out and c.pending)
    else false)
    else false

abbrev Settled : Counter → Type 0
Settled c = pends c ≡ false

-- a counter moved to the one of two places that a test says
to_either : (c : Counter) (b : Bool) {x y : Moving} {p q : Counter} → p ≡ moved_to c x → q ≡ moved_to c y → (if b then p else q) ≡ moved_to c (if b then x else y)
to_either c true d e = d
to_either c false d e = e

or_none : (a b : Bool) → (a or b) ≡ false → (a ≡ false) × (b ≡ false)
or_none true b e = (e, let z : true ≡ false = e in cc)
or_none false b e = (refl, e)

-- In each mode a pulse settles the counter, and settled it goes on by the mode's `steady`.
module _ (c : Counter) (f : c.full ≡ true) where
  module _ (m : eqb c.mode 0 ≡ true) where
    settles0 : Settled (pulse0 c)
    unfolding pulse0
    settles0 =
        pick Settled c.pending (λ p. rw (f, m))
        (λ p.
        pick Settled c.gate
        (λ g.
        pick Settled c.half (λ h. rw (f, m, p))
        (λ h. pick Settled (eqb (less c.value) 0) (λ z. rw (f, m, p)) (λ z. rw (f, m, p))))
        (λ g. rw (f, m, p)))

    goes0 : Settled c → (n : ℕ) → Runs c n (steady0 c n)
    unfolding pulse_of mode_of pulse0
    goes0 s n =
        let p : c.pending ≡ false = rw (f, m) at s in
        pick (Runs c n) c.gate
        (λ g.
        pick (Runs c n) c.half (λ h. rests c n (rw (f, m, p, g, h)))
        (λ h.
        falls fall0 c
        (λ v.
        let d = moved_to c v in
        let e : pulse_of d ≡ counted 0 true (less v.value) d = rw (f, m, p, g, h) in
        e ∙ to_either c (eqb (less v.value) 0) refl refl)
        n))
        (λ g. rests c n (rw (f, m, p, g)))

  module _ (m0 : eqb c.mode 0 ≡ false) where
    module _ (m : eqb c.mode 1 ≡ true) where
      settles1 : Settled (pulse1 c)
      unfolding pulse1
      settles1 =
          pick Settled c.trigger (λ t. rw (f, m0, m))
          (λ t.
          pick Settled c.pending (λ p. rw (f, m0, m, t))
          (λ p. pick Settled (eqb (less c.value) 0) (λ z. rw (f, m0, m, t)) (λ z. rw (f, m0, m, t))))

      goes1 : Settled c → (n : ℕ) → Runs c n (steady1 fall0 c n)
      unfolding pulse_of mode_of pulse1
      goes1 s n =
          let t : c.trigger ≡ false = rw (f, m0, m) at s in
          pick (Runs c n) c.pending (λ p. rests c n (rw (f, m0, m, t, p)))
          (λ p.
          falls fall0 c
          (λ v.
          let d = moved_to c v in
          let e : pulse_of d ≡ counted 0 true (less v.value) d = rw (f, m0, m, t, p) in
          e ∙ to_either c (eqb (less v.value) 0) refl refl)
          n)

    module _ (m1 : eqb c.mode 1 ≡ false) where
      module _ (m : eqb c.mode 2 ≡ true) where
        settles2 : Settled (pulse2 c)
        unfolding pulse2
        settles2 =
            pick Settled c.pending (λ p. rw (f, m0, m1, m))
            (λ p.
            pick Settled c.trigger (λ t. rw (f, m0, m1, m, p))
            (λ t.
            pick Settled c.gate
            (λ g.
            pick Settled (eqb c.value 1) (λ z. rw (f, m0, m1, m, p, t))
            (λ z. pick Settled (eqb (less c.value) 1) (λ o. rw (f, m0, m1, m, p, t)) (λ o. rw (f, m0, m1, m, p, t))))
            (λ g. rw (f, m0, m1, m, p, t))))

        goes2 : Settled c → (n : ℕ) → Runs c n (steady2 (fall2 c.count) c n)
        unfolding pulse_of mode_of pulse2
        goes2 s n =
            let q : (c.pending ≡ false) × (c.trigger ≡ false) = or_none c.pending c.trigger (rw (f, m0, m1, m) at s) in
            pick (Runs c n) c.gate
            (λ g.
            falls (fall2 c.count) c
            (λ v.
            let d = moved_to c v in
            let e : pulse_of d ≡ on2 d = rw (f, m0, m1, m, q.0, q.1, g) in
            e ∙ to_either c (eqb v.value 1) refl (to_either c (eqb (less v.value) 1) refl refl))
            n)
            (λ g. rests c n (rw (f, m0, m1, m, q.0, q.1, g)))

      module _ (m2 : eqb c.mode 2 ≡ false) where
        module _ (m : eqb c.mode 3 ≡ true) where
          settles3 : Settled (pulse3 c)
          unfolding pulse3
          settles3 =
              pick Settled c.pending (λ p. rw (f, m0, m1, m2, m))
              (λ p.
              pick Settled c.trigger (λ t. rw (f, m0, m1, m2, m, p))
              (λ t.
              pick Settled c.gate
              (λ g.
              pick Settled (eqb c.value (end_of_half c.out c.odd)) (λ z. rw (f, m0, m1, m2, m, p, t)) (λ z. rw (f, m0, m1, m2, m, p, t)))
              (λ g. rw (f, m0, m1, m2, m, p, t))))

          goes3 : Settled c → (n : ℕ) → Runs c n (steady2 (fall3 c.count) c n)
          unfolding pulse_of mode_of pulse3
          goes3 s n =
              let q : (c.pending ≡ false) × (c.trigger ≡ false) = or_none c.pending c.trigger (rw (f, m0, m1, m2, m) at s) in
              pick (Runs c n) c.gate
              (λ g.
              falls (fall3 c.count) c
              (λ v.
              let d = moved_to c v in
              let e : pulse_of d ≡ on3 d = rw (f, m0, m1, m2, m, q.0, q.1, g) in
              e ∙ to_either c (eqb v.value (end_of_half v.out v.odd)) refl refl)
              n)
              (λ g. rests c n (rw (f, m0, m1, m2, m, q.0, q.1, g)))

        module _ (m3 : eqb c.mode 3 ≡ false) where
          module _ (m : eqb c.mode 4 ≡ true) where
            settles4 : Settled (pulse4 c)
            unfolding pulse4
            settles4 =
                pick Settled c.pending (λ p. rw (f, m0, m1, m2, m3, m))
                (λ p.
                pick Settled c.gate
                (λ g. pick Settled (eqb (less c.value) 0) (λ z. rw (f, m0, m1, m2, m3, m, p, g)) (λ z. rw (f, m0, m1, m2, m3, m, p)))
                (λ g. rw (f, m0, m1, m2, m3, m, p)))

            goes4 : Settled c → (n : ℕ) → Runs c n (steady2 fall4 c n)
            unfolding pulse_of mode_of pulse4
            goes4 s n =
                let q : (c.pending ≡ false) × (not (c.out or c.gate) ≡ false) = or_none c.pending (not (c.out or c.gate)) (rw (f, m0, m1, m2, m3, m) at s) in
                pick (Runs c n) c.gate
                (λ g.
                falls fall4 c
                (λ v.
                let d = moved_to c v in
                let e : pulse_of d ≡ counted 0 false (less v.value) (out_is true d) = rw (f, m0, m1, m2, m3, m, q.0, g) in
                e ∙ to_either c (eqb (less v.value) 0) refl refl)
                n)
                (λ g. let o = ends c.out c.gate q.1 g in rests c n (rw (f, m0, m1, m2, m3, m, q.0, g, o)))
              where
                ends : (o g : Bool) → not (o or g) ≡ false → g ≡ false → o ≡ true
                ends true g h e = refl
                ends false true h e = let z : true ≡ false = e in cc
                ends false false h e = let z : true ≡ false = h in cc

          module _ (m4 : eqb c.mode 4 ≡ false) where
            module _ (m : eqb c.mode 5 ≡ true) where
              settles5 : Settled (pulse5 c)
              unfolding pulse5
              settles5 =
                  pick Settled c.trigger (λ t. rw (f, m0, m1, m2, m3, m4, m))
                  (λ t.
                  pick Settled c.pending (λ p. rw (f, m0, m1, m2, m3, m4, m, t))
                  (λ p. pick Settled (eqb (less c.value) 0) (λ z. rw (f, m0, m1, m2, m3, m4, m, t, p)) (λ z. rw (f, m0, m1, m2, m3, m4, m, t))))

              goes5 : Settled c → (n : ℕ) → Runs c n (steady1 fall4 c n)
              unfolding pulse_of mode_of pulse5
              goes5 s n =
                  let q : (c.trigger ≡ false) × ((not c.out and c.pending) ≡ false) = or_none c.trigger (not c.out and c.pending) (rw (f, m0, m1, m2, m3, m4, m) at s) in
                  pick (Runs c n) c.pending
                  (λ p. let o = ends c.out c.pending q.1 p in rests c n (rw (f, m0, m1, m2, m3, m4, m, q.0, p, o)))
                  (λ p.
                  falls fall4 c
                  (λ v.
                  let d = moved_to c v in
                  let e : pulse_of d ≡ counted 0 false (less v.value) (out_is true d) = rw (f, m0, m1, m2, m3, m4, m, q.0, p) in
                  e ∙ to_either c (eqb (less v.value) 0) refl refl)
                  n)
                where
                  ends : (o p : Bool) → (not o and p) ≡ false → p ≡ true → o ≡ true
                  ends true p h e = refl
                  ends false true h e = let z : true ≡ false = h in cc
                  ends false false h e = let z : false ≡ true = e in cc

-- Every counter.
settles : (c : Counter) → Settled (pulse_of c)
unfolding pulse_of mode_of
settles c =
    let P : Mode → Type 0 = λ k. Settled (k.pulse c) in
    pick Settled c.full
    (λ f.
    pick P (eqb c.mode 0) (settles0 c f)
    (λ m0. pick P (eqb c.mode 1) (settles1 c f m0)
    (λ m1. pick P (eqb c.mode 2) (settles2 c f m0 m1)
    (λ m2. pick P (eqb c.mode 3) (settles3 c f m0 m1 m2)
    (λ m3. pick P (eqb c.mode 4) (settles4 c f m0 m1 m2 m3)
    (λ m4. pick P (eqb c.mode 5) (settles5 c f m0 m1 m2 m3 m4) (λ m5. rw (f, m0, m1, m2, m3, m4, m5))))))))
    (λ f. rw f)

goes : (c : Counter) → Settled c → (n : ℕ) → Runs c n (steady_of c n)
unfolding steady_of pulse_of mode_of
goes c s n =
    pick (Runs c n) c.full
    (λ f.
    pick (Runs c n) (eqb c.mode 0) (λ m. goes0 c f m s n)
    (λ m0. pick (Runs c n) (eqb c.mode 1) (λ m. goes1 c f m0 m s n)
    (λ m1. pick (Runs c n) (eqb c.mode 2) (λ m. goes2 c f m0 m1 m s n)
    (λ m2. pick (Runs c n) (eqb c.mode 3) (λ m. goes3 c f m0 m1 m2 m s n)
    (λ m3. pick (Runs c n) (eqb c.mode 4) (λ m. goes4 c f m0 m1 m2 m3 m s n)
    (λ m4. pick (Runs c n) (eqb c.mode 5) (λ m. goes5 c f m0 m1 m2 m3 m4 m s n)
    (λ m5. rests c n (rw (f, m0, m1, m2, m3, m4, m5)))))))))
    (λ f. rests c n (rw f))

-- What n steady pulses come to, read off `steady_of` once for each way that it can go. A proof that has the tests cites these, and need not open it.
module _ (c : Counter) (n : ℕ) where
  -- Without a complete count a counter stays as it is.
  pub steady_unset : c.full ≡ false → steady_of c n ≡ rested c
  unfolding steady_of
  steady_unset f = rw f

  module _ (f : c.full ≡ true) where
    -- In mode 0 a counter with a complete count falls by that mode's rule while GATE is high and no count is half written, and otherwise stays as it is.
    pub steady_in_0 : c.mode ≡ 0 → steady_of c n ≡ steady0 c n
    unfolding steady_of
    steady_in_0 m = rw (f, m)

    -- In mode 1 it stays as it is while a count pends, and otherwise falls by the rule of mode 0.
    pub steady_in_1 : c.mode ≡ 1 → steady_of c n ≡ steady1 fall0 c n
    unfolding steady_of
    steady_in_1 m = rw (f, m)

    -- In mode 2 it falls by that mode's rule while GATE is high, and otherwise stays as it is.
    pub steady_in_2 : c.mode ≡ 2 → steady_of c n ≡ steady2 (fall2 c.count) c n
    unfolding steady_of
    steady_in_2 m = rw (f, m)

    -- In mode 3 it falls by that mode's rule while GATE is high, and otherwise stays as it is.
    pub steady_in_3 : c.mode ≡ 3 → steady_of c n ≡ steady2 (fall3 c.count) c n
    unfolding steady_of
    steady_in_3 m = rw (f, m)

    -- In mode 4 it falls by that mode's rule while GATE is high, and otherwise stays as it is.
    pub steady_in_4 : c.mode ≡ 4 → steady_of c n ≡ steady2 fall4 c n
    unfolding steady_of
    steady_in_4 m = rw (f, m)

    -- In mode 5 it stays as it is while a count pends, and otherwise falls by the rule of mode 4.
    pub steady_in_5 : c.mode ≡ 5 → steady_of c n ≡ steady1 fall4 c n
    unfolding steady_of
    steady_in_5 m = rw (f, m)

    -- In none of the six modes it stays as it is.
    pub steady_in_none : eqb c.mode 0 ≡ false → eqb c.mode 1 ≡ false → eqb c.mode 2 ≡ false → eqb c.mode 3 ≡ false → eqb c.mode 4 ≡ false → eqb c.mode 5 ≡ false
        → steady_of c n ≡ rested c
    unfolding steady_of
    steady_in_none m0 m1 m2 m3 m4 m5 = rw (f, m0, m1, m2, m3, m4, m5)

-- Each pulse makes OUT rise once at most.
rise_small : (was now : Bool) → rise_of was now ≤ 1
rise_small true now = omega arith
rise_small false true = omega arith
rise_small false false = omega arith

few_rises : (c : Counter) (n : ℕ) → (ran_of c n).rises ≤ n
unfolding ran_of
few_rises c zero = omega arith
few_rises c (suc n) =
    let r = ran_of c n in
    let h = few_rises c n in
    omega (arith, rise_small r.counter.out (pulse_of r.counter).out)

module _ (c : Counter) (n : ℕ) where
  pub runs : ran_first c (steady_of (pulse_of c) n) ≡ ran_of c (n + 1)
  runs = rw add-one (ap (ran_first c) (goes (pulse_of c) (settles c) n) ∙ first c n)

  pub few : (steady_of (pulse_of c) n).rises ≤ n
  few = rw (goes (pulse_of c) (settles c) n) (few_rises (pulse_of c) n)
