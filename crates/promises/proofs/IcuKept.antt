-- The interrupt chip stays in its ranges.
use mathlib.Core.Path.{◌≡◌, refl, sym, ◌∙◌}
use mathlib.Core.Logic.{◌≢◌}
use mathlib.Core.Bool.{Bool, true, false, true≢false, false≢true}
use Prim.Native.Nat.{ℕ, zero, suc, ◌+◌, ◌-◌, ◌/◌, ◌<◌, ◌%◌}
use native.Mathlib.Nat.{add-zero}
use native.Mathlib.Omega.{arith}
use lib.Dec.{eqb, ltb}
use borrow.Author.Tests.{eqb-false, lt-ltb, ltb-true}
use Rattle.bits.specs.Choice.{◌and◌, ◌or◌, some}
use Rattle.std.specs.Prelude.{if◌then◌else◌}
use Rattle.bits.specs.Bits.{bit_of, with_of, without_of}
use Rattle.icu.specs.declared.Icu.{Icu}
use Rattle.icu.specs.Answers.{Told}
use Rattle.icu.specs.Ranks.{level_at, highest_from, highest_of}
use Rattle.icu.specs.Words.{ready, lev, sngl, i4, reset_of, iw1, later_word, sets_exceptional, mcw, finished, commanded, pfcw, write_of}
use Rattle.icu.specs.Requests.{asked_of, outranks_all, int_of, lines_of}
use Rattle.icu.specs.Service.{takes, served_of, acknowledge_of, read_of}
use Rattle.intake.specs.Ranges.{iw1_good, icu_good}
use Rattle.tape.proofs.Decodes.{either}
use Rattle.promises.proofs.Logic.{both_left, both_right}

pub record Fine (c : Icu) : Type 0 where
  pub stage : c.stage < 5
  pub lowest : c.lowest < 8
  pub isr : c.isr < 256
  pub iw1 : iw1_good c.iw1 ≡ true

-- A byte with a bit more, and with a bit less.
bit_more : (x w : ℕ) → x < 256 → (eqb (x / w % 2) 1 ≡ false → x + w < 256) → (if eqb (x / w % 2) 1 then x else x + w) < 256
bit_more x w h f = either (λ (y : ℕ). y < 256) (eqb (x / w % 2) 1) (λ _. h) f

pub with_byte : (x n : ℕ) → x < 256 → n < 8 → with_of x n < 256
unfolding with_of bit_of
with_byte x zero h l = bit_more x 1 h (λ q. omega (arith, eqb-false (x / 1 % 2) 1 q))
with_byte x (suc zero) h l = bit_more x 2 h (λ q. omega (arith, eqb-false (x / 2 % 2) 1 q))
with_byte x (suc (suc zero)) h l = bit_more x 4 h (λ q. omega (arith, eqb-false (x / 4 % 2) 1 q))
with_byte x (suc (suc (suc zero))) h l = bit_more x 8 h (λ q. omega (arith, eqb-false (x / 8 % 2) 1 q))
with_byte x (suc (suc (suc (suc zero)))) h l = bit_more x 16 h (λ q. omega (arith, eqb-false (x / 16 % 2) 1 q))
with_byte x (suc (suc (suc (suc (suc zero))))) h l = bit_more x 32 h (λ q. omega (arith, eqb-false (x / 32 % 2) 1 q))
with_byte x (suc (suc (suc (suc (suc (suc zero)))))) h l = bit_more x 64 h (λ q. omega (arith, eqb-false (x / 64 % 2) 1 q))
with_byte x (suc (suc (suc (suc (suc (suc (suc zero))))))) h l = bit_more x 128 h (λ q. omega (arith, eqb-false (x / 128 % 2) 1 q))
with_byte x (suc (suc (suc (suc (suc (suc (suc (suc n)))))))) h l = omega arith

pub without_byte : (x n : ℕ) → x < 256 → without_of x n < 256
unfolding without_of
without_byte x n h = either (λ (y : ℕ). y < 256) (bit_of x n) (λ _. omega arith) (λ _. h)

-- Some number below n passes a test.
pub found : (f : ℕ → Bool) (n : ℕ) → some f n ≡ true → (k : ℕ) × (k < n) × (f k ≡ true)
unfolding some
found f zero h = absurd (false≢true h)
found f (suc n) h = at (f n) refl h (found f n)
  where
    at : (q : Bool) → f n ≡ q → (q or some f n) ≡ true → (some f n ≡ true → (k : ℕ) × (k < n) × (f k ≡ true)) → (k : ℕ) × (k < suc n) × (f k ≡ true)
    at true q h ih = (n, omega arith, q)
    at false q h ih = let r = ih h in (r.0, omega (arith, r.1), r.2)

-- A byte that is not zero has a bit.
pub bit_of_law : (x : ℕ) → x < 256 → x ≢ 0 → (n : ℕ) × (n < 8) × (bit_of x n ≡ true)
unfolding bit_of
bit_of_law x h ne = go7 (eqb (x / 128 % 2) 1) refl h
  where
    go0 : (q : Bool) → eqb (x / 1 % 2) 1 ≡ q → x < 2 → (n : ℕ) × (n < 8) × (bit_of x n ≡ true)
    go0 true q l = (0, omega arith, q)
    go0 false q l = absurd (omega (arith, eqb-false (x / 1 % 2) 1 q))

    go1 : (q : Bool) → eqb (x / 2 % 2) 1 ≡ q → x < 4 → (n : ℕ) × (n < 8) × (bit_of x n ≡ true)
    go1 true q l = (1, omega arith, q)
    go1 false q l = go0 (eqb (x / 1 % 2) 1) refl (omega (arith, eqb-false (x / 2 % 2) 1 q))

    go2 : (q : Bool) → eqb (x / 4 % 2) 1 ≡ q → x < 8 → (n : ℕ) × (n < 8) × (bit_of x n ≡ true)
    go2 true q l = (2, omega arith, q)
    go2 false q l = go1 (eqb (x / 2 % 2) 1) refl (omega (arith, eqb-false (x / 4 % 2) 1 q))

    go3 : (q : Bool) → eqb (x / 8 % 2) 1 ≡ q → x < 16 → (n : ℕ) × (n < 8) × (bit_of x n ≡ true)
    go3 true q l = (3, omega arith, q)
    go3 false q l = go2 (eqb (x / 4 % 2) 1) refl (omega (arith, eqb-false (x / 8 % 2) 1 q))

    go4 : (q : Bool) → eqb (x / 16 % 2) 1 ≡ q → x < 32 → (n : ℕ) × (n < 8) × (bit_of x n ≡ true)
    go4 true q l = (4, omega arith, q)
    go4 false q l = go3 (eqb (x / 8 % 2) 1) refl (omega (arith, eqb-false (x / 16 % 2) 1 q))

    go5 : (q : Bool) → eqb (x / 32 % 2) 1 ≡ q → x < 64 → (n : ℕ) × (n < 8) × (bit_of x n ≡ true)
    go5 true q l = (5, omega arith, q)
    go5 false q l = go4 (eqb (x / 16 % 2) 1) refl (omega (arith, eqb-false (x / 32 % 2) 1 q))

    go6 : (q : Bool) → eqb (x / 64 % 2) 1 ≡ q → x < 128 → (n : ℕ) × (n < 8) × (bit_of x n ≡ true)
    go6 true q l = (6, omega arith, q)
    go6 false q l = go5 (eqb (x / 32 % 2) 1) refl (omega (arith, eqb-false (x / 64 % 2) 1 q))

    go7 : (q : Bool) → eqb (x / 128 % 2) 1 ≡ q → x < 256 → (n : ℕ) × (n < 8) × (bit_of x n ≡ true)
    go7 true q l = (7, omega arith, q)
    go7 false q l = go6 (eqb (x / 64 % 2) 1) refl (omega (arith, eqb-false (x / 128 % 2) 1 q))

-- Where a bit is set, the ranks find a level.
hit : (x l k left j : ℕ) → j < left → bit_of x (level_at l (k + j)) ≡ true → highest_from x l k left < 8
unfolding highest_from
hit x l k zero j h b = omega arith
hit x l k (suc left) zero h b = either (λ (y : ℕ). y < 8) (bit_of x (level_at l k)) (λ _. omega arith) (λ q. absurd (true≢false (sym (rw add-zero at b) ∙ q)))
hit x l k (suc left) (suc j) h b =
    let e : k + suc j ≡ suc k + j = omega arith in
    either (λ (y : ℕ). y < 8) (bit_of x (level_at l k)) (λ _. omega arith)
    (λ _. hit x l (suc k) left j (omega arith) (rw e at b))

pub highest_small : (x l n : ℕ) → n < 8 → bit_of x n ≡ true → highest_of x l < 8
unfolding highest_of
highest_small x l n h b =
    let e : level_at l (0 + (n + 7 - l % 8) % 8) ≡ n = omega arith in
    hit x l 0 8 ((n + 7 - l % 8) % 8) (omega arith) (rw e b)

-- Words written.
done_iw1 : (x : ℕ) → bit_of x 4 ≡ true → iw1_good x ≡ true
unfolding iw1_good
done_iw1 x h = at (eqb x 0)
  where
    at : (q : Bool) → (q or bit_of x 4) ≡ true
    at true = refl
    at false = h

module _ (c : Icu) (f : Fine c) where
  abbrev P : Told → Type 0
  P t = Fine t.icu

  later_fine : (w x : ℕ) → P (later_word c w x)
  unfolding later_word
  later_fine w x =
      either P (ready c) (λ _. record { stage = f.stage; lowest = f.lowest; isr = f.isr; iw1 = f.iw1 })
      (λ _. either P (eqb c.stage 1)
      (λ _. either Fine (sngl c)
      (λ _. either Fine (i4 c)
      (λ _. record { stage = omega arith; lowest = f.lowest; isr = f.isr; iw1 = f.iw1 })
      (λ _. record { stage = omega arith; lowest = f.lowest; isr = f.isr; iw1 = f.iw1 }))
      (λ _. record { stage = omega arith; lowest = f.lowest; isr = f.isr; iw1 = f.iw1 }))
      (λ _. either P (eqb c.stage 4)
      (λ _. either P (eqb x w)
      (λ _. either Fine (i4 c)
      (λ _. record { stage = omega arith; lowest = f.lowest; isr = f.isr; iw1 = f.iw1 })
      (λ _. record { stage = omega arith; lowest = f.lowest; isr = f.isr; iw1 = f.iw1 }))
      (λ _. f))
      (λ _. either P (eqb c.stage 2)
      (λ _. record { stage = omega arith; lowest = f.lowest; isr = f.isr; iw1 = f.iw1 })
      (λ _. f))))

  mcw_fine : (x : ℕ) → P (mcw c x)
  unfolding mcw
  mcw_fine x =
      either P (bit_of x 2) (λ _. f)
      (λ _. either P (sets_exceptional x) (λ _. f)
      (λ _. either P (bit_of x 1) (λ _. record { stage = f.stage; lowest = f.lowest; isr = f.isr; iw1 = f.iw1 }) (λ _. f)))

  -- A finish command without a level, the level found.
  highest_isr : eqb c.isr 0 ≡ false → highest_of c.isr c.lowest < 8
  highest_isr q =
      let b = bit_of_law c.isr f.isr (eqb-false c.isr 0 q) in
      highest_small c.isr c.lowest b.0 b.1 b.2

  finished_fine : (k : Bool) → Fine (finished c k)
  unfolding finished
  finished_fine k =
      either Fine (eqb c.isr 0) (λ _. f)
      (λ q. either Fine k
      (λ _. record { stage = f.stage; lowest = highest_isr q; isr = without_byte c.isr (highest_of c.isr c.lowest) f.isr; iw1 = f.iw1 })
      (λ _. record { stage = f.stage; lowest = f.lowest; isr = without_byte c.isr (highest_of c.isr c.lowest) f.isr; iw1 = f.iw1 }))

  pfcw_fine : (x : ℕ) → Fine (pfcw c x)
  unfolding pfcw
  pfcw_fine x = go (bit_of x 7) (bit_of x 6) (bit_of x 5)
    where
      go : (rp sil fi : Bool) → Fine (commanded rp sil fi c (x % 8))
      go false false true = finished_fine false
      go true false true = finished_fine true
      go false true true = record { stage = f.stage; lowest = f.lowest; isr = without_byte c.isr (x % 8) f.isr; iw1 = f.iw1 }
      go true true true = record { stage = f.stage; lowest = omega arith; isr = without_byte c.isr (x % 8) f.isr; iw1 = f.iw1 }
      go true true false = record { stage = f.stage; lowest = omega arith; isr = f.isr; iw1 = f.iw1 }
      go true false false = record { stage = f.stage; lowest = f.lowest; isr = f.isr; iw1 = f.iw1 }
      go false false false = record { stage = f.stage; lowest = f.lowest; isr = f.isr; iw1 = f.iw1 }
      go false true false = f

  pub write_fine : (w : ℕ) (k : Bool) (x : ℕ) → Fine (write_of c w k x).icu
  unfolding write_of iw1
  write_fine w k x =
      either P k (λ _. later_fine w x)
      (λ _. either P (bit_of x 4)
      (λ h. record { stage = omega arith; lowest = omega arith; isr = omega arith; iw1 = done_iw1 x h })
      (λ _. either P (ready c)
      (λ _. either P (bit_of x 3) (λ _. mcw_fine x) (λ _. pfcw_fine x))
      (λ _. f)))

  -- An acknowledge.
  pub takes_small : (lines : ℕ) → int_of c lines ≡ true → takes c lines < 8
  unfolding int_of
  takes_small lines h =
      let r = found (λ n. bit_of (asked_of c lines) n and outranks_all c n) 8 (both_right (ready c) _ h) in
      highest_small (asked_of c lines) c.lowest r.0 r.1 (both_left (bit_of (asked_of c lines) r.0) (outranks_all c r.0) r.2)

  pub served_fine : (n : ℕ) → n < 8 → Fine (served_of c n)
  unfolding served_of
  served_fine n h =
      either Fine c.sfi
      (λ _. either Fine c.rotation
      (λ _. record { stage = f.stage; lowest = h; isr = f.isr; iw1 = f.iw1 })
      (λ _. record { stage = f.stage; lowest = f.lowest; isr = f.isr; iw1 = f.iw1 }))
      (λ _. record { stage = f.stage; lowest = f.lowest; isr = with_byte c.isr n f.isr h; iw1 = f.iw1 })

  pub acknowledge_fine : (lines : ℕ) → Fine (acknowledge_of c lines).icu
  unfolding acknowledge_of
  acknowledge_fine lines =
      either P (ready c)
      (λ _. either P (int_of c lines)
      (λ i. either P c.vector (λ _. served_fine (takes c lines) (takes_small lines i)) (λ _. served_fine (takes c lines) (takes_small lines i)))
      (λ _. either P c.vector (λ _. f) (λ _. f)))
      (λ _. f)

  -- Reads, and the lines.
  pub read_fine : (k : Bool) (lines : ℕ) → Fine (read_of c k lines).icu
  unfolding read_of
  read_fine k lines =
      either P (ready c)
      (λ _. either P k (λ _. f) (λ _. either P c.showsisr (λ _. f) (λ _. f)))
      (λ _. f)

  pub lines_fine : (was now : ℕ) → Fine (lines_of c was now)
  unfolding lines_of
  lines_fine was now =
      either Fine (ready c)
      (λ _. either Fine (lev c) (λ _. f) (λ _. record { stage = f.stage; lowest = f.lowest; isr = f.isr; iw1 = f.iw1 }))
      (λ _. f)

-- Reset, and the ranges as they are tested.
pub reset_fine : Fine reset_of
unfolding reset_of iw1_good
reset_fine = record { stage = omega arith; lowest = omega arith; isr = omega arith; iw1 = refl }

pub fine_good : (c : Icu) → Fine c → icu_good c ≡ true
unfolding icu_good
fine_good c f = rw (lt-ltb c.stage 5 f.stage, lt-ltb c.lowest 8 f.lowest, f.iw1)

pub good_fine : (c : Icu) → c.isr < 256 → icu_good c ≡ true → Fine c
unfolding icu_good
good_fine c h g =
    let k = both_right (ltb c.stage 5) _ g in
    record {
      stage = ltb-true _ _ (both_left (ltb c.stage 5) _ g);
      lowest = ltb-true _ _ (both_left (ltb c.lowest 8) _ k);
      isr = h;
      iw1 = both_right (ltb c.lowest 8) _ k;
    }
