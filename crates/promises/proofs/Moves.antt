-- A channel without autoinitialize moves at most count plus one units, at consecutive addresses.
use mathlib.Core.Path.{◌≡◌, refl, sym, ap, ◌∙◌, subst}
use mathlib.Core.Logic.{◌≢◌}
use mathlib.Core.List.{List, [], ◌∷◌}
use mathlib.Core.Bool.{Bool, true, false}
use Prim.Native.Nat.{ℕ, zero, suc, ◌+◌, ◌*◌, ◌≤◌, ◌<◌, ◌%◌}
use native.Mathlib.Nat.{not-suc-le-zero, le_of_suc-le-suc}
use native.Mathlib.Omega.{arith}
use lib.ListN.{get_or, length}
use Rattle.std.specs.Prelude.{if◌then◌else◌}
use Rattle.bits.specs.Bits.{bit_of}
use Rattle.dma.specs.declared.Channel.{Channel}
use Rattle.dma.specs.declared.Dma.{Dma}
use Rattle.dma.specs.Fields.{chan, word}
use Rattle.dma.specs.Cycle.{down, auto, size_of, stepped, moved_of}
use Rattle.promises.specs.Words.{unit_of, units_of, address_in, place_of, width}
use Rattle.promises.proofs.Sound.{Good, Sound}
use Rattle.promises.proofs.Seen.{Trace, stop, step}
use Rattle.promises.proofs.Change.{Change, rests, goes, Shut, change_by, moved_mode}

-- The units of one answer and of those after it.
none_more : (n : ℕ) (a : List ℕ) (more : List (List ℕ)) → unit_of n a ≡ false → units_of n (a ∷ more) ≡ units_of n more
unfolding units_of
none_more n a more h = rw h

one_more : (n : ℕ) (a : List ℕ) (more : List (List ℕ)) (p : ℕ) → unit_of n a ≡ true → address_in a ≡ p → units_of n (a ∷ more) ≡ p ∷ units_of n more
unfolding units_of
one_more n a more p h q = rw (h, q)

-- A channel that is shut moves nothing.
silent : {d : Dma} {m : List ℕ} {got : List (List ℕ)} {d' : Dma} {m' : List ℕ} → Trace d m got d' m' → (n : ℕ) → Shut d n → units_of n got ≡ []
unfolding units_of
silent stop n h = refl
silent (step {d = d} {m = m} {e = e} {l = l} {a = a} {rest = more} s see t) n h = at (change_by d m e l a n s see) (λ k. silent t n k)
  where
    at : Change d e a n → (Shut e n → units_of n more ≡ []) → units_of n (a ∷ more) ≡ []
    at (rests q un shut) ih = none_more n a more un ∙ ih (shut h)
    at (goes last q un ad free count shut) ih = absurd (free h)

-- i units on, for any i; k for words.
abbrev far : ℕ → Bool → Bool → ℕ → ℕ
far p falls k i = if falls then (p + (if k then 16777214 * i else 16777215 * i)) % 16777216 else (p + size_of k * i) % 16777216

abbrev Walk : List ℕ → Channel → Type 0
Walk l c = (length l ≤ suc c.current.count) × ((i : ℕ) → i < length l → get_or l i 0 ≡ far c.current.address (down c) (word c) i)

far_zero : (p : ℕ) (falls k : Bool) → p < 16777216 → p ≡ far p falls k 0
far_zero p true true h = omega arith
far_zero p true false h = omega arith
far_zero p false true h = omega arith
far_zero p false false h = omega arith

far_suc : (p : ℕ) (falls k : Bool) (i : ℕ) → far (stepped p falls (size_of k)) falls k i ≡ far p falls k (suc i)
far_suc p true true i = omega arith
far_suc p true false i = omega arith
far_suc p false true i = omega arith
far_suc p false false i = omega arith

far_place : (p : ℕ) (falls k : Bool) (i : ℕ) → p < 16777216 → i < 65537 → far p falls k i ≡ place_of p falls (size_of k) i
far_place p true true i h l = omega arith
far_place p true false i h l = omega arith
far_place p false k i h l = refl

walk_nil : (c : Channel) → Walk [] c
walk_nil c = (omega arith, λ i h. absurd (not-suc-le-zero h))

walk_one : (c : Channel) → Good c → Walk (c.current.address ∷ []) c
walk_one c g = (omega arith, at)
  where
    at : (i : ℕ) → i < 1 → get_or (c.current.address ∷ []) i 0 ≡ far c.current.address (down c) (word c) i
    at zero h = far_zero c.current.address (down c) (word c) g.address
    at (suc i) h = absurd (not-suc-le-zero (le_of_suc-le-suc h))

walk_cons : (l : List ℕ) (c : Channel) → Good c → c.current.count ≢ 0 → Walk l (moved_of c false) → Walk (c.current.address ∷ l) c
unfolding moved_of
walk_cons l c g ne w = (omega arith, at)
  where
    at : (i : ℕ) → i < suc (length l) → get_or (c.current.address ∷ l) i 0 ≡ far c.current.address (down c) (word c) i
    at zero h = far_zero c.current.address (down c) (word c) g.address
    at (suc i) h = w.1 i (le_of_suc-le-suc h) ∙ far_suc c.current.address (down c) (word c) i

walks : {d : Dma} {m : List ℕ} {got : List (List ℕ)} {d' : Dma} {m' : List ℕ} → Trace d m got d' m' → (n : ℕ) → auto (chan d n) ≡ false → Walk (units_of n got) (chan d n)
unfolding units_of
walks (stop {d = d}) n h = walk_nil (chan d n)
walks (step {d = d} {m = m} {e = e} {l = l} {a = a} {rest = more} s see t) n h = at (change_by d m e l a n s see) (λ k. walks t n k) (λ k. silent t n k)
  where
    x : Channel
    x = chan d n

    p : ℕ
    p = x.current.address

    at : Change d e a n
        → (auto (chan e n) ≡ false → Walk (units_of n more) (chan e n))
        → (Shut e n → units_of n more ≡ [])
        → Walk (units_of n (a ∷ more)) x
    at (rests q un shut) ih no_more =
        subst (λ (u : List ℕ). Walk u x) (sym (none_more n a more un)) (subst (Walk (units_of n more)) q (ih (rw q h)))
    at (goes true q un ad free count shut) ih no_more =
        subst (λ (u : List ℕ). Walk u x)
        (sym (one_more n a more p un ad ∙ ap (λ (u : List ℕ). p ∷ u) (no_more (shut refl h))))
        (walk_one x (s.good n))
    at (goes false q un ad free count shut) ih no_more =
        subst (λ (u : List ℕ). Walk u x) (sym (one_more n a more p un ad))
        (walk_cons (units_of n more) x (s.good n) (count refl)
        (subst (Walk (units_of n more)) q (ih (rw q (ap (λ (y : ℕ). bit_of y 4) (moved_mode x false) ∙ h)))))

pub moves : {d : Dma} {m : List ℕ} {got : List (List ℕ)} {d' : Dma} {m' : List ℕ} → Trace d m got d' m' → (n : ℕ) → Sound d → auto (chan d n) ≡ false
    → (length (units_of n got) ≤ (chan d n).current.count + 1)
    × ((i : ℕ) → i < length (units_of n got) → get_or (units_of n got) i 0 ≡ place_of (chan d n).current.address (down (chan d n)) (width (chan d n)) i)
moves {d} t n s h =
    let w = walks t n h in
    let g = s.good n in
    (omega arith, λ i l. w.1 i l ∙ far_place (chan d n).current.address (down (chan d n)) (word (chan d n)) i g.address (omega arith))
