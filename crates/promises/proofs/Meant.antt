-- What the words mean is what the second readings say.
use mathlib.Core.Path.{◌≡◌, refl, sym, ap, ◌∙◌}
use mathlib.Core.List.{List, [], ◌∷◌, ◌++◌}
use mathlib.Core.Bool.{Bool, true, false}
use Prim.Native.Nat.{ℕ, suc, ◌+◌, ◌-◌, ◌*◌, ◌/◌, ◌%◌, ◌≤◌, ◌<◌}
use native.Mathlib.Omega.{arith}
use lib.Dec.{ltb, leb}
use borrow.Author.Tests.{ltb-true, leb-true, lt-ltb, le-leb}
use Rattle.std.specs.Prelude.{if◌then◌else◌}
use Rattle.dma.specs.declared.Span.{Span}
use Rattle.dma.specs.Cycle.{stepped}
use Rattle.promises.specs.Words.{channel_in, start_of, moved_at, unit_at, last_at, place_of, distance, inside}
use Rattle.promises.specs.Meant.{Width, byte, word, None, empty, misses, Meant}
use Rattle.promises.proofs.Logic.{both_left, both_right}
use Rattle.promises.proofs.Bus.{bus_reset, bus_set, fresh_narrow, mode_set, mode_shown}
use Rattle.promises.proofs.Widths.{widths_kept}
use Rattle.promises.proofs.Pairs.{pair_up, pair_down, apart, on_up, on_down, same_up, same_down}
use Rattle.promises.proofs.Requested.{int_rule}
use Rattle.promises.proofs.Taken.{level_taken, spurious, channel_granted, nothing_granted, reset_is_fresh}

-- Units, and the distance back.
place_zero : {w : ℕ} → Width w → (a : ℕ) (falls : Bool) → a < 16777216 → place_of a falls w 0 ≡ a
place_zero byte a true h = omega arith
place_zero byte a false h = omega arith
place_zero word a true h = omega arith
place_zero word a false h = omega arith

place_suc : {w : ℕ} → Width w → (a i : ℕ) (falls : Bool) → a < 16777216 → i < 65536 → place_of a falls w (suc i) ≡ stepped (place_of a falls w i) falls w
place_suc byte a i true h l = omega arith
place_suc byte a i false h l = omega arith
place_suc word a i true h l = omega arith
place_suc word a i false h l = omega arith

units_differ : {w : ℕ} → Width w → (a i j : ℕ) (falls : Bool) → i < 65536 → j < 65536 → start_of w (place_of a falls w i) ≡ start_of w (place_of a falls w j) → i ≡ j
units_differ byte a i j true h k e = omega arith
units_differ byte a i j false h k e = omega arith
units_differ word a i j true h k e =
    let f : (a + 16777216 - 2 * i) % 16777216 / 2 ≡ (a + 16777216 - 2 * j) % 16777216 / 2 = omega (arith, e) in
    same_down (a / 2) i j h k (sym (pair_down a i (omega arith)) ∙ f ∙ pair_down a j (omega arith))
units_differ word a i j false h k e =
    let f : (a + 2 * i) % 16777216 / 2 ≡ (a + 2 * j) % 16777216 / 2 = omega (arith, e) in
    same_up (a / 2) i j h k (sym (pair_up a i) ∙ f ∙ pair_up a j)

-- The unit i units on is as far as that, and a unit that is so far is one of them.
far_unit : {w : ℕ} → Width w → (a i p : ℕ) (falls : Bool) → a < 16777216 → i < 65536 → start_of w (place_of a falls w i) ≡ start_of w p
    → (p < 16777216) × (distance (start_of w p) (start_of w a) falls ≡ w * i)
far_unit byte a i p true h l e = (omega arith, omega arith)
far_unit byte a i p false h l e = (omega arith, omega arith)
far_unit word a i p true h l e =
    let y = a / 2 in
    let f : p / 2 ≡ (a + 16777216 - 2 * i) % 16777216 / 2 = omega (arith, e) in
    let g : p / 2 ≡ (y + 8388608 - i) % 8388608 = f ∙ pair_down a i (omega arith) in
    let low : y < 8388608 = omega arith in
    let small : p / 2 < 8388608 = omega (arith, g) in
    let z : (y + 8388608 - p / 2) % 8388608 ≡ i = rw g (on_down y i low (omega arith)) in
    (omega (arith, small), omega (arith, apart y (p / 2) low small, z))
far_unit word a i p false h l e =
    let y = a / 2 in
    let f : p / 2 ≡ (a + 2 * i) % 16777216 / 2 = omega (arith, e) in
    let g : p / 2 ≡ (y + i) % 8388608 = f ∙ pair_up a i in
    let low : y < 8388608 = omega arith in
    let small : p / 2 < 8388608 = omega (arith, g) in
    let z : (p / 2 + 8388608 - y) % 8388608 ≡ i = rw g (on_up y i low (omega arith)) in
    (omega (arith, small), omega (arith, apart (p / 2) y small low, z))

unit_far : {w : ℕ} → Width w → (p a n : ℕ) (falls : Bool) → a < 16777216 → p < 16777216 → distance (start_of w p) (start_of w a) falls ≤ w * n
    → (distance (start_of w p) (start_of w a) falls / w ≤ n)
    × (start_of w (place_of a falls w (distance (start_of w p) (start_of w a) falls / w)) ≡ start_of w p)
unit_far byte p a n true h l q = (omega arith, omega arith)
unit_far byte p a n false h l q = (omega arith, omega arith)
unit_far word p a n true h l q = (omega arith, omega arith)
unit_far word p a n false h l q = (omega arith, omega arith)

times : {w : ℕ} → Width w → (i n : ℕ) → i ≤ n → w * i ≤ w * n
times byte i n h = omega arith
times word i n h = omega arith

module _ {w : ℕ} (k : Width w) (s : Span) (falls : Bool) (h : s.address < 16777216) where
  range_has : s.count < 65536 → (i : ℕ) → i ≤ s.count → (p : ℕ) → start_of w (place_of s.address falls w i) ≡ start_of w p → inside p s falls w ≡ true
  unfolding inside
  range_has l i q p e =
      let f = far_unit k s.address i p falls h (omega arith) e in
      rw (lt-ltb p 16777216 f.0, f.1) (le-leb (w * i) (w * s.count) (times k i s.count q))

  range_only : (p : ℕ) → inside p s falls w ≡ true → (i : ℕ) × (i ≤ s.count) × (start_of w (place_of s.address falls w i) ≡ start_of w p)
  unfolding inside
  range_only p q =
      let d = distance (start_of w p) (start_of w s.address) falls in
      let f =
      unit_far k p s.address s.count falls h (ltb-true p 16777216 (both_left (ltb p 16777216) (leb d (w * s.count)) q))
      (leb-true d (w * s.count) (both_right (ltb p 16777216) (leb d (w * s.count)) q)) in
      (d / w, f.0, f.1)

word_pair : (p : ℕ) → p % 2 ≡ 0 → (start_of 2 p ≡ p) × (start_of 2 (suc p) ≡ p)
word_pair p h = (omega arith, omega arith)

last_none : {s : ℕ → Bool} {w : ℕ → ℕ} {p : ℕ} {got : List (List ℕ)} → None s w p got → (x : ℕ) → last_at s w p got x ≡ x
unfolding last_at
last_none empty x = refl
last_none (misses h n) x = rw h (last_none n x)

last_found : (s : ℕ → Bool) (w : ℕ → ℕ) (p x : ℕ) (earlier : List (List ℕ)) (a : List ℕ) (later : List (List ℕ))
    → unit_at s w p a ≡ true
    → None s w p later
    → last_at s w p (earlier ++ a ∷ later) x ≡ moved_at (w (channel_in a)) p a
unfolding last_at
last_found s w p x [] a later h n =
    let y = moved_at (w (channel_in a)) p a in
    last_none n (if unit_at s w p a then y else x) ∙ ap (λ (q : Bool). if q then y else x) h
last_found s w p x (z ∷ earlier) a later h n = last_found s w p (if unit_at s w p z then moved_at (w (channel_in z)) p z else x) earlier a later h n

pub meant : Meant
meant =
    record {
      place_zero = place_zero;
      place_suc = place_suc;
      units_differ = units_differ;
      range_has = range_has;
      range_only = range_only;
      word_pair = word_pair;
      last_none = last_none;
      last_found = last_found;
      int_rule = int_rule;
      level_taken = level_taken;
      spurious = spurious;
      channel_granted = channel_granted;
      nothing_granted = nothing_granted;
      bus_reset = bus_reset;
      bus_set = bus_set;
      fresh_narrow = fresh_narrow;
      mode_set = mode_set;
      mode_shown = mode_shown;
      widths_kept = widths_kept;
      reset_is_fresh = reset_is_fresh;
    }
