-- The table as it is read from the document is the table in the words of the rules.
use mathlib.Core.Path.{◌≡◌, refl, sym, ap, ap₂, ◌∙◌, subst}
use mathlib.Core.List.{List, [], ◌∷◌}
use mathlib.Core.Bool.{Bool, true, false, not}
use Prim.Native.Nat.{ℕ, zero, suc, ◌+◌, ◌*◌, ◌/◌, ◌%◌, ◌≤◌, ◌<◌}
use native.Mathlib.Nat.{mod-eq_of_lt}
use native.Mathlib.Omega.{arith}
use lib.Dec.{eqb, ltb, leb}
use lib.ListN.{get_or}
use lib.Bits.{and_mod, and_le_r}
use borrow.Author.Tests.{eqb-true, eqb-false, ltb-true, ltb-false, leb-true, leb-false, le-ltb, le-leb, ne_eqb}
use Rattle.bits.specs.Choice.{◌and◌, ◌or◌, every}
use Rattle.std.specs.Prelude.{if◌then◌else◌}
use Rattle.bits.specs.Bits.{bit_of, masked_of}
use Rattle.bits.proofs.Every.{alike}
use Rattle.tape.specs.Records.{unused, icu_port, timer_port, dma_port, slave_port, writable, readable, pulse_count}
use Rattle.icu.specs.declared.Icu.{Icu}
use Rattle.icu.specs.Words.{ready}
use Rattle.cascade.specs.Cascade.{master_iw3, slave_iw3}
use Rattle.timer.specs.declared.Counter.{Counter}
use Rattle.timer.specs.declared.Timer.{Timer}
use Rattle.timer.specs.Modes.{moded}
use Rattle.timer.specs.Ports.{size_of}
use Rattle.timer.specs.Timer.{at}
use Rattle.timer.proofs.Pulses.{by_mode}
use Rattle.dma.specs.declared.Dma.{Dma}
use Rattle.dma.specs.Fields.{chan}
use Rattle.dma.specs.Registers as Registers
use Rattle.board.specs.declared.Board.{Board}
use Rattle.board.specs.Operations.{a0}
use Rattle.board.specs.Step.{step_of}
use Rattle.tape.proofs.Decodes.{either}
use Rattle.promises.specs.Table as Table
use Rattle.promises.specs.Table.{among, uses, to_write, to_read}
use Rattle.promises.proofs.Logic.{both_left, both_right, or_false}
use Rattle.promises.proofs.Ruled as Ruled
use Rattle.promises.proofs.Statuses.{same_unanswered, status_ruled}

-- Ports below 50 by a computed test; none from there on is open.
all_below : ℕ → List ℕ → Bool
all_below n [] = true
all_below n (y ∷ rest) = ltb y n and all_below n rest

past : (n p : ℕ) (l : List ℕ) → n ≤ p → all_below n l ≡ true → among p l ≡ false
unfolding among all_below
past n p [] h q = refl
past n p (y ∷ rest) h q =
    let k = ltb-true y n (both_left (ltb y n) (all_below n rest) q) in
    rw (ne_eqb p y (omega arith), past n p rest h (both_right (ltb y n) (all_below n rest) q))

open_write : (p : ℕ) → among p to_write ≡ writable p
unfolding among writable every all_below
open_write p = go (ltb p 50) refl
  where
    go : (q : Bool) → ltb p 50 ≡ q → among p to_write ≡ writable p
    go true q = alike (λ p. among p to_write) writable 50 tt p (ltb-true p 50 q)
    go false q =
        let h = ltb-false p 50 q in
        past 50 p to_write h refl
        ∙ sym (rw (le-ltb p 2 (omega arith), le-leb 16 p (omega arith), le-ltb p 20 (omega arith), le-leb 32 p (omega arith), le-ltb p 48 (omega arith), le-leb 48 p (omega arith), q) refl)

open_read : (p : ℕ) → among p to_read ≡ readable p
unfolding among readable every all_below
open_read p = go (ltb p 50) refl
  where
    go : (q : Bool) → ltb p 50 ≡ q → among p to_read ≡ readable p
    go true q = alike (λ p. among p to_read) readable 50 tt p (ltb-true p 50 q)
    go false q =
        let h = ltb-false p 50 q in
        past 50 p to_read h refl
        ∙ sym (rw (le-ltb p 2 (omega arith), le-leb 16 p (omega arith), le-ltb p 20 (omega arith), le-leb 32 p (omega arith), le-ltb p 48 (omega arith), le-leb 48 p (omega arith), q) refl)

-- The bytes that an operation does not use.
four : (a b c d : Bool) → (a and b and c and d) ≡ (a and b and c and d and true)
four true true true true = refl
four true true true false = refl
four true true false d = refl
four true false c d = refl
four false b c d = refl

five : (a b c d e : Bool) → (a and b and c and d and e) ≡ (a and b and c and d and e and true)
five true b c d e = four b c d e
five false b c d e = refl

six : (a b c d e f : Bool) → (a and b and c and d and e and f) ≡ (a and b and c and d and e and f and true)
six true b c d e f = five b c d e f
six false b c d e f = refl

seven : (a b c d e f g : Bool) → (a and b and c and d and e and f and g) ≡ (a and b and c and d and e and f and g and true)
seven true b c d e f g = six b c d e f g
seven false b c d e f g = refl

abbrev zero_at : List ℕ → ℕ → Bool
zero_at r i = eqb (get_or r i 0) 0

-- One row of the table after another.
rows : (q : Bool) {x y v w : Bool} → x ≡ v → y ≡ w → (if q then x else y) ≡ (if q then v else w)
rows true h k = h
rows false h k = k

pairs : {x y v w : Bool} → x ≡ v → y ≡ w → (x and y) ≡ (v and w)
pairs h k = rw (h, k)

pub same_formed : (r : List ℕ) → Table.formed r ≡ Ruled.formed r
unfolding Table.formed Ruled.formed Table.levels_fit Ruled.levels_fit uses unused among pulse_count
same_formed r =
    rows (eqb (get_or r 0 0) 0) none
    (rows (eqb (get_or r 0 0) 1) (pairs two (open_write (get_or r 1 0)))
    (rows (eqb (get_or r 0 0) 2) (pairs one (open_read (get_or r 1 0)))
    (rows (eqb (get_or r 0 0) 3) (pairs two refl)
    (rows (eqb (get_or r 0 0) 4) none
    (rows (eqb (get_or r 0 0) 5) refl
    (rows (eqb (get_or r 0 0) 6) (pairs three refl) refl))))))
  where
    none : uses r [] ≡ unused r 1 7
    none = seven (zero_at r 1) (zero_at r 2) (zero_at r 3) (zero_at r 4) (zero_at r 5) (zero_at r 6) (zero_at r 7)

    one : uses r (1 ∷ []) ≡ unused r 2 6
    one = six (zero_at r 2) (zero_at r 3) (zero_at r 4) (zero_at r 5) (zero_at r 6) (zero_at r 7)

    two : uses r (1 ∷ 2 ∷ []) ≡ unused r 3 5
    two = five (zero_at r 3) (zero_at r 4) (zero_at r 5) (zero_at r 6) (zero_at r 7)

    three : uses r (1 ∷ 2 ∷ 3 ∷ []) ≡ unused r 4 4
    three = four (zero_at r 4) (zero_at r 5) (zero_at r 6) (zero_at r 7)

-- A last "or" of a list.
two_of : (p q : Bool) → (p or q or false) ≡ (p or q)
two_of true q = refl
two_of false q = or_false q

three_of : (p q w : Bool) → (p or q or w or false) ≡ (p or q or w)
three_of true q w = refl
three_of false q w = two_of q w

four_of : (p q w x : Bool) → (p or q or w or x or false) ≡ (p or q or w or x)
four_of true q w x = refl
four_of false q w x = three_of q w x

-- Before the first IW1 a chip is in none of its four stages.
same_unstarted : (c : Icu) → Table.unstarted c ≡ not (Ruled.started c)
unfolding among
same_unstarted c = ap not (four_of (eqb c.stage 1) (eqb c.stage 2) (eqb c.stage 3) (eqb c.stage 4))

-- A counter with no mode.
same_modeless : (t : Timer) (n : ℕ) → Table.modeless t n ≡ Ruled.modeless t n
unfolding among moded every all_below
same_modeless t n = ap not (six_modes (at t n).mode)
  where
    six_modes : (m : ℕ) → among m (0 ∷ 1 ∷ 2 ∷ 3 ∷ 4 ∷ 5 ∷ []) ≡ ltb m 6
    six_modes m = go (ltb m 6) refl
      where
        go : (q : Bool) → ltb m 6 ≡ q → among m (0 ∷ 1 ∷ 2 ∷ 3 ∷ 4 ∷ 5 ∷ []) ≡ q
        go true q = alike (λ m. among m (0 ∷ 1 ∷ 2 ∷ 3 ∷ 4 ∷ 5 ∷ [])) (λ m. ltb m 6) 6 tt m (ltb-true m 6 q) ∙ q
        go false q = past 6 m (0 ∷ 1 ∷ 2 ∷ 3 ∷ 4 ∷ 5 ∷ []) (ltb-false m 6 q) refl

-- A count below the minimum is 1, in mode 2 or 3.
pub too_small_law : (c : Counter) (n : ℕ) → Ruled.too_small c n ≡ (among c.mode (2 ∷ 3 ∷ []) and eqb n 1)
unfolding among
too_small_law c n =
    by_mode (λ m q. ltb (size_of n) q.least ≡ (among m (2 ∷ 3 ∷ []) and eqb n 1)) below_1 below_1 below_2 below_2 below_1 below_1
    (λ m l. rw (ne_eqb m 2 (omega arith), ne_eqb m 3 (omega arith)) below_1)
    c.mode
  where
    below_1 : ltb (size_of n) 1 ≡ false
    below_1 = either (λ (k : ℕ). ltb k 1 ≡ false) (eqb n 0) (λ _. refl) (λ z. le-ltb n 1 (omega (arith, eqb-false n 0 z)))

    below_2 : ltb (size_of n) 2 ≡ eqb n 1
    below_2 = go n
      where
        go : (k : ℕ) → ltb (size_of k) 2 ≡ eqb k 1
        go zero = refl
        go (suc zero) = refl
        go (suc (suc k)) = by (suc (suc k)) (omega arith)
          where
            by : (i : ℕ) → 2 ≤ i → ltb (size_of i) 2 ≡ eqb i 1
            by i l = rw (ne_eqb i 0 (omega arith), ne_eqb i 1 (omega arith), le-ltb i 2 l)

-- Device control, by the low byte.
abbrev other_than_d4_d2 : ℕ → Bool
other_than_d4_d2 x = not (eqb (masked_of x 20) 0)

low_device : (x : ℕ) → Table.unbuilt_device_control x ≡ Table.unbuilt_device_control (x % 256)
unfolding bit_of
low_device x = rw (d0 x, d1 x, d3 x, d5 x, d6 x, d7 x)
  where
    d0 : (y : ℕ) → y / 1 % 2 ≡ y % 256 / 1 % 2
    d0 y = omega arith

    d1 : (y : ℕ) → y / 2 % 2 ≡ y % 256 / 2 % 2
    d1 y = omega arith

    d3 : (y : ℕ) → y / 8 % 2 ≡ y % 256 / 8 % 2
    d3 y = omega arith

    d5 : (y : ℕ) → y / 32 % 2 ≡ y % 256 / 32 % 2
    d5 y = omega arith

    d6 : (y : ℕ) → y / 64 % 2 ≡ y % 256 / 64 % 2
    d6 y = omega arith

    d7 : (y : ℕ) → y / 128 % 2 ≡ y % 256 / 128 % 2
    d7 y = omega arith

low_masked : (x : ℕ) → masked_of x 20 ≡ masked_of (x % 256) 20
unfolding masked_of
low_masked x = sym (mod-eq_of_lt (omega (arith, and_le_r x 235))) ∙ and_mod x 235 8

same_device : (x : ℕ) → Table.unbuilt_device_control x ≡ other_than_d4_d2 x
unfolding every bit_of masked_of
same_device x =
    low_device x
    ∙ alike Table.unbuilt_device_control other_than_d4_d2 256 tt (x % 256) (omega arith)
    ∙ ap (λ (y : ℕ). not (eqb y 0)) (sym (low_masked x))

same_mode : (d : Dma) (x : ℕ) → Table.refused_mode d x ≡ Registers.refuses_mode d x
unfolding Registers.refuses_mode Registers.unbuilt_mode bit_of
same_mode d x =
    let e : x % 2 ≡ x / 1 % 2 = omega arith in
    ap (λ (y : ℕ). eqb (x / 64) 3 or eqb (x / 4 % 4) 3 or eqb (x / 2 % 2) 1 or (eqb y 1 and not d.wide)) e
    ∙ go (eqb (x / 64) 3) (eqb (x / 4 % 4) 3) (eqb (x / 2 % 2) 1) (eqb (x / 1 % 2) 1 and not d.wide)
  where
    go : (p q r s : Bool) → (p or q or r or s) ≡ ((p or q or r) or s)
    go true q r s = refl
    go false true r s = refl
    go false false r s = refl

-- D0 and D1, by themselves and both clear.
bit_0 : (y : ℕ) → eqb (y % 2) 1 ≡ bit_of y 0
unfolding bit_of
bit_0 y = let e : y % 2 ≡ y / 1 % 2 = omega arith in ap (λ (z : ℕ). eqb z 1) e

both_clear : (x : ℕ) → eqb (x % 4) 0 ≡ (not (bit_of x 0) and not (bit_of x 1))
unfolding bit_of every
both_clear x =
    let a : x % 4 / 1 % 2 ≡ x / 1 % 2 = omega arith in
    let b : x % 4 / 2 % 2 ≡ x / 2 % 2 = omega arith in
    alike (λ y. eqb y 0) (λ y. not (eqb (y / 1 % 2) 1) and not (eqb (y / 2 % 2) 1)) 4 tt (x % 4) (omega arith)
    ∙ ap₂ (λ (y z : ℕ). not (eqb y 1) and not (eqb z 1)) a b

same_bus : (d : Dma) (x : ℕ) → Table.narrows_under_words d x ≡ (not (bit_of x 0) and not (bit_of x 1) and Registers.any_words d)
unfolding Registers.any_words
same_bus d x =
    rw (both_clear x, bit_0 (chan d 0).mode, bit_0 (chan d 1).mode, bit_0 (chan d 2).mode, bit_0 (chan d 3).mode)
    (go (not (bit_of x 0)) (not (bit_of x 1)) (bit_of (chan d 0).mode 0 or bit_of (chan d 1).mode 0 or bit_of (chan d 2).mode 0 or bit_of (chan d 3).mode 0))
  where
    go : (p q r : Bool) → ((p and q) and r) ≡ (p and q and r)
    go true q r = refl
    go false q r = refl

-- A port is one of those that are named, or none of them.
module _ (At : ℕ → Type 0) (p : ℕ) where
  at_port : (k : ℕ) → At k → (eqb p k ≡ false → At p) → At p
  at_port k h f = go (eqb p k) refl
    where
      go : (q : Bool) → eqb p k ≡ q → At p
      go true q = subst At (sym (eqb-true p k q)) h
      go false q = f q

no_timer : (p : ℕ) → eqb p 16 ≡ false → eqb p 17 ≡ false → eqb p 18 ≡ false → eqb p 19 ≡ false → timer_port p ≡ false
no_timer p a b c d = go (leb 16 p) refl
  where
    go : (q : Bool) → leb 16 p ≡ q → (q and ltb p 20) ≡ false
    go true q = le-ltb p 20 (omega (arith, leb-true 16 p q, eqb-false p 16 a, eqb-false p 17 b, eqb-false p 18 c, eqb-false p 19 d))
    go false q = refl

no_icu : (p : ℕ) → eqb p 0 ≡ false → eqb p 1 ≡ false → icu_port p ≡ false
no_icu p a b = le-ltb p 2 (omega (arith, eqb-false p 0 a, eqb-false p 1 b))

-- Past the slave's two ports.
no_slave : (p : ℕ) → eqb p 48 ≡ false → eqb p 49 ≡ false → slave_port p ≡ false
no_slave p a b = go (leb 48 p) refl
  where
    go : (q : Bool) → leb 48 p ≡ q → (q and ltb p 50) ≡ false
    go true q = le-ltb p 50 (omega (arith, leb-true 48 p q, eqb-false p 48 a, eqb-false p 49 b))
    go false q = refl

module _ (b : Board) (x : ℕ) where
  -- Row 3, writes and reads.
  abbrev WriteTurn : ℕ → Type 0
  WriteTurn p =
      (if eqb p 0 then Table.wordless b.icu x
      else if eqb p 1 then Table.unstarted b.icu
      else if eqb p 48 then Table.wordless b.slave x
      else if eqb p 49 then Table.unstarted b.slave
      else if eqb p 16 then Table.modeless b.timer 0
      else if eqb p 17 then Table.modeless b.timer 1
      else if eqb p 18 then Table.modeless b.timer 2
      else eqb p 19 and Table.latches_modeless b.timer x)
      ≡ (if icu_port p then Ruled.early_word b.icu (a0 p) x
      else if timer_port p then Ruled.early_count b.timer (p % 4) x
      else slave_port p and Ruled.early_word b.slave (a0 p) x)

  write_turn : (p : ℕ) → WriteTurn p
  unfolding among
  write_turn p =
      at_port WriteTurn p 0 refl
      (λ a. at_port WriteTurn p 1 (same_unstarted b.icu)
      (λ c. at_port WriteTurn p 48 refl
      (λ u. at_port WriteTurn p 49 (same_unstarted b.slave)
      (λ v. at_port WriteTurn p 16 (same_modeless b.timer 0)
      (λ d. at_port WriteTurn p 17 (same_modeless b.timer 1)
      (λ e. at_port WriteTurn p 18 (same_modeless b.timer 2)
      (λ f. at_port WriteTurn p 19
      (ap (λ (q : Bool). not (eqb (x / 64) 3) and eqb (x / 16 % 4) 0 and q) (same_modeless b.timer (x / 64)))
      (λ g. rw (a, c, u, v, d, e, f, g, no_icu p a c, no_timer p d e f g, no_slave p u v) refl))))))))

  abbrev ReadTurn : ℕ → Type 0
  ReadTurn p =
      (if among p (0 ∷ 1 ∷ []) then Table.unready b.icu
      else if among p (48 ∷ 49 ∷ []) then Table.unready b.slave
      else if eqb p 16 then Table.modeless b.timer 0
      else if eqb p 17 then Table.modeless b.timer 1
      else eqb p 18 and Table.modeless b.timer 2)
      ≡ (if icu_port p then not (ready b.icu)
      else if timer_port p then not (eqb (p % 4) 3) and Ruled.modeless b.timer (p % 4)
      else slave_port p and not (ready b.slave))

  read_turn : (p : ℕ) → ReadTurn p
  unfolding among
  read_turn p =
      at_port ReadTurn p 0 refl
      (λ a. at_port ReadTurn p 1 refl
      (λ c. at_port ReadTurn p 48 refl
      (λ u. at_port ReadTurn p 49 refl
      (λ v. at_port ReadTurn p 16 (same_modeless b.timer 0)
      (λ d. at_port ReadTurn p 17 (same_modeless b.timer 1)
      (λ e. at_port ReadTurn p 18 (same_modeless b.timer 2)
      (λ f. at_port ReadTurn p 19 refl (λ g. rw (a, c, u, v, d, e, f, no_icu p a c, no_timer p d e f g, no_slave p u v) refl))))))))

  -- Row 6.
  same_one : (c : Counter) → Table.completes_one c x ≡ Ruled.completes_one c x
  same_one c =
      rw (too_small_law c x, too_small_law c (x * 256), too_small_law c (c.low + x * 256), ne_eqb (x * 256) 1 (omega arith))
      (go (among c.mode (2 ∷ 3 ∷ [])) (eqb c.format 1) (eqb c.format 2) c.half)
    where
      go : (m f g h : Bool)
          → (m and (if f then eqb x 1 else not g and h and eqb (c.low + x * 256) 1))
          ≡ (if f then m and eqb x 1 else if g then m and false else h and m and eqb (c.low + x * 256) 1)
      go true true g h = refl
      go true false true h = refl
      go true false false h = refl
      go false true g h = refl
      go false false true h = refl
      go false false false true = refl
      go false false false false = refl

  abbrev One : ℕ → Type 0
  One p =
      (if eqb p 16 then Table.completes_one (at b.timer 0) x
      else if eqb p 17 then Table.completes_one (at b.timer 1) x
      else eqb p 18 and Table.completes_one (at b.timer 2) x)
      ≡ (timer_port p and not (eqb (p % 4) 3) and Ruled.completes_one (at b.timer (p % 4)) x)

  write_one : (p : ℕ) → One p
  write_one p =
      at_port One p 16 (same_one (at b.timer 0))
      (λ d. at_port One p 17 (same_one (at b.timer 1))
      (λ e. at_port One p 18 (same_one (at b.timer 2))
      (λ f. at_port One p 19 refl (λ g. rw (d, e, f, no_timer p d e f g) refl))))

-- Row 4, writes and reads.
module _ (b : Board) (x : ℕ) where
  abbrev Unbuilt : ℕ → Type 0
  Unbuilt p =
      (if among p (0 ∷ 48 ∷ []) then Table.unbuilt_word x
      else if eqb p 1 then Table.other_wiring b.icu 128 x
      else if eqb p 49 then Table.other_wiring b.slave 7 x
      else if eqb p 19 then Table.unbuilt_control x
      else if eqb p 32 then Table.narrows_under_words b.dma x
      else if eqb p 40 then Table.unbuilt_device_control x
      else if eqb p 41 then not (eqb x 0)
      else if eqb p 42 then Table.refused_mode b.dma x
      else among p (44 ∷ 45 ∷ 46 ∷ []))
      ≡ (if icu_port p then Ruled.unbuilt_word b.icu master_iw3 (a0 p) x
      else if timer_port p then eqb (p % 4) 3 and Ruled.unbuilt_control x
      else if dma_port p then Ruled.unbuilt_register b.dma (p % 16) x
      else slave_port p and Ruled.unbuilt_word b.slave slave_iw3 (a0 p) x)

  -- The registers that are neither named by the row nor past the others: in each the two agree by computing.
  write_unbuilt : (p : ℕ) → Unbuilt p
  unfolding among every
  write_unbuilt p =
      at_port Unbuilt p 0 refl
      (λ a. at_port Unbuilt p 1 refl
      (λ c. at_port Unbuilt p 48 refl
      (λ s. at_port Unbuilt p 49 refl
      (λ t. at_port Unbuilt p 16 refl
      (λ d. at_port Unbuilt p 17 refl
      (λ e. at_port Unbuilt p 18 refl
      (λ f. at_port Unbuilt p 19 refl
      (λ g. at_port Unbuilt p 32 (same_bus b.dma x)
      (λ p32. at_port Unbuilt p 40 (same_device x)
      (λ p40. at_port Unbuilt p 41 refl
      (λ p41. at_port Unbuilt p 42 (same_mode b.dma x)
      (λ p42. rw (a, c, s, t, g, p32, p40, p41, p42, no_icu p a c, no_timer p d e f g, no_slave p s t)
      (others p32 p40 p41 p42 (leb 32 p) (ltb p 48) refl refl)))))))))))))
    where
      -- Of the registers that are left, C, D and E.
      last_three : (i : ℕ) → i < 16 → among (32 + i) (44 ∷ 45 ∷ 46 ∷ []) ≡ (leb 12 i and ltb i 15)
      last_three i h = alike (λ i. among (32 + i) (44 ∷ 45 ∷ 46 ∷ [])) (λ i. leb 12 i and ltb i 15) 16 tt i h

      others : eqb p 32 ≡ false → eqb p 40 ≡ false → eqb p 41 ≡ false → eqb p 42 ≡ false
          → (u v : Bool)
          → leb 32 p ≡ u
          → ltb p 48 ≡ v
          → among p (44 ∷ 45 ∷ 46 ∷ []) ≡ (if u and v then Ruled.unbuilt_register b.dma (p % 16) x else false)
      others h0 h8 h9 h10 true true l u =
          let i = leb-true 32 p l in
          let j = ltb-true p 48 u in
          let e : 32 + p % 16 ≡ p = omega arith in
          rw (
            ne_eqb (p % 16) 0 (omega (arith, eqb-false p 32 h0)),
            ne_eqb (p % 16) 8 (omega (arith, eqb-false p 40 h8)),
            ne_eqb (p % 16) 9 (omega (arith, eqb-false p 41 h9)),
            ne_eqb (p % 16) 10 (omega (arith, eqb-false p 42 h10)),
          )
          (ap (λ (y : ℕ). among y (44 ∷ 45 ∷ 46 ∷ [])) (sym e) ∙ last_three (p % 16) (omega arith))
      others h0 h8 h9 h10 true false l u =
          let j = ltb-false p 48 u in
          rw (ne_eqb p 44 (omega arith), ne_eqb p 45 (omega arith), ne_eqb p 46 (omega arith)) refl
      others h0 h8 h9 h10 false v l u =
          let j = leb-false 32 p l in
          rw (ne_eqb p 44 (omega arith), ne_eqb p 45 (omega arith), ne_eqb p 46 (omega arith)) refl

abbrev ReadUnbuilt : ℕ → Type 0
ReadUnbuilt p = among p (44 ∷ 45 ∷ 46 ∷ []) ≡ (dma_port p and leb 12 (p % 16) and ltb (p % 16) 15)

read_unbuilt : (p : ℕ) → ReadUnbuilt p
unfolding among
read_unbuilt p =
    at_port ReadUnbuilt p 44 refl
    (λ a. at_port ReadUnbuilt p 45 refl
    (λ b. at_port ReadUnbuilt p 46 refl (λ c. rw (a, b, c) (none a b c (leb 32 p) (ltb p 48) (leb 12 (p % 16)) refl refl refl))))
  where
    none : eqb p 44 ≡ false → eqb p 45 ≡ false → eqb p 46 ≡ false
        → (u v w : Bool)
        → leb 32 p ≡ u
        → ltb p 48 ≡ v
        → leb 12 (p % 16) ≡ w
        → false ≡ ((u and v) and w and ltb (p % 16) 15)
    none a b c true true true l u k =
        let i = leb-true 32 p l in
        let j = ltb-true p 48 u in
        let n = leb-true 12 (p % 16) k in
        sym (le-ltb (p % 16) 15 (omega (arith, eqb-false p 44 a, eqb-false p 45 b, eqb-false p 46 c)))
    none a b c true true false l u k = refl
    none a b c true false w l u k = refl
    none a b c false v w l u k = refl

-- The whole table.
module _ (b : Board) (r : List ℕ) where
  same_held : Table.held b r ≡ Ruled.held b r
  unfolding Table.held Ruled.held
  same_held = refl

  same_turn : Table.out_of_turn b r ≡ Ruled.out_of_turn b r
  unfolding Table.out_of_turn Ruled.out_of_turn
  same_turn =
      rows (eqb (get_or r 0 0) 1) (write_turn b (get_or r 2 0) (get_or r 1 0)) (rows (eqb (get_or r 0 0) 2) (read_turn b (get_or r 2 0) (get_or r 1 0)) (ap (λ (q : Bool). eqb (get_or r 0 0) 4 and q) (same_unanswered b)))

  same_unbuilt_row : Table.not_built b r ≡ Ruled.not_built b r
  unfolding Table.not_built Ruled.not_built
  same_unbuilt_row =
      rows (eqb (get_or r 0 0) 1) (write_unbuilt b (get_or r 2 0) (get_or r 1 0)) (ap (λ (q : Bool). eqb (get_or r 0 0) 2 and q) (read_unbuilt (get_or r 1 0)))

  same_count : Table.counts_one b r ≡ Ruled.counts_one b r
  unfolding Table.counts_one Ruled.counts_one
  same_count = ap (λ (q : Bool). eqb (get_or r 0 0) 1 and q) (write_one b (get_or r 2 0) (get_or r 1 0))

  pub status_due : (m : List ℕ) → get_or (step_of b r m).answer 0 0 ≡ Table.due b r
  status_due m =
      status_ruled b r m ∙ sym (rw (same_formed r, same_held, same_turn, same_unbuilt_row, same_count) refl)
