-- A byte outside the ranges of the channels that write memory stays.
use mathlib.Core.Path.{◌≡◌, refl, sym, ap, ◌∙◌, subst}
use mathlib.Core.Logic.{◌≢◌}
use mathlib.Core.List.{List}
use mathlib.Core.Bool.{Bool, true, false, true≢false, false≢true}
use Prim.Native.Nat.{ℕ, ◌+◌, ◌-◌, ◌*◌, ◌/◌, ◌%◌, ◌<◌}
use native.Mathlib.Omega.{arith}
use lib.Dec.{ltb}
use lib.ListN.{get_or, get_or-eq_default}
use borrow.Author.Tests.{leb-false, ltb-true, ltb-false, lt-ltb}
use Rattle.bits.specs.Choice.{◌and◌, ◌or◌}
use Rattle.bits.specs.Bits.{less}
use Rattle.dma.specs.declared.Span.{Span}
use Rattle.dma.specs.declared.Channel.{Channel}
use Rattle.dma.specs.declared.Dma.{Dma}
use Rattle.dma.specs.Fields.{none, chan, served, word}
use Rattle.dma.specs.Cycle.{down, auto, writes, size_of, start_of, stepped, memory_of, moved_by, moved_of}
use Rattle.dma.proofs.Units.{untouched}
use Rattle.promises.specs.Words.{inside, distance, width, may_write, data_in, upper_in}
use Rattle.promises.proofs.Sound.{Good, Sound}
use Rattle.promises.proofs.Seen.{Seen, still, unit, Trace, stop, step}
use Rattle.promises.proofs.Change.{Change, rests, goes, Shut, change_by}
use Rattle.promises.proofs.Landed.{missed}
use Rattle.promises.proofs.Pairs.{pair_up, pair_down, apart, nearer_up, nearer_down}

-- Outside, as a bound; k for words.
abbrev Off : ℕ → ℕ → ℕ → Bool → Bool → Type 0
Off p a n falls k = p < 16777216 → size_of k * n < distance (start_of (size_of k) p) (start_of (size_of k) a) falls

off : (p : ℕ) (s : Span) (falls k : Bool) → inside p s falls (size_of k) ≡ false → Off p s.address s.count falls k
unfolding inside
off p s falls k h l =
    leb-false (distance (start_of (size_of k) p) (start_of (size_of k) s.address) falls) (size_of k * s.count) (rw (lt-ltb p 16777216 l) at h)

no_distance : (x : ℕ) (falls : Bool) → distance x x falls ≡ 0
no_distance x true = omega arith
no_distance x false = omega arith

near : (p a : ℕ) (k : Bool) → a < 16777216 → start_of (size_of k) a ≡ start_of (size_of k) p → p < 16777216
near p a true g q = omega arith
near p a false g q = omega arith

off_here : (p a n : ℕ) (falls k : Bool) → a < 16777216 → Off p a n falls k → start_of (size_of k) a ≢ start_of (size_of k) p
off_here p a n falls k g f q =
    let h : size_of k * n < distance (start_of (size_of k) p) (start_of (size_of k) a) falls = f (near p a k g q) in
    let z : distance (start_of (size_of k) p) (start_of (size_of k) a) falls ≡ 0 = rw q (no_distance (start_of (size_of k) p) falls) in
    omega (arith, h, z)

off_step : (p a n : ℕ) (falls k : Bool) → a < 16777216 → n ≢ 0 → Off p a n falls k → Off p (stepped a falls (size_of k)) (less n) falls k
off_step p a n true true g ne f l =
    let x = p / 2 in
    let y = a / 2 in
    let small : x < 8388608 = omega arith in
    let low : y < 8388608 = omega arith in
    let z : (a + 16777216 - 2) % 16777216 / 2 < 8388608 = omega arith in
    let h : 2 * n < (y * 2 + 16777216 - x * 2) % 16777216 = f l in
    let v : less n < ((a + 16777216 - 2) % 16777216 / 2 + 8388608 - x) % 8388608 =
    rw (pair_down a 1 (omega arith)) (nearer_down x y n small low ne (omega (arith, h, apart y x low small))) in
    omega (arith, apart ((a + 16777216 - 2) % 16777216 / 2) x z small, v)
off_step p a n true false g ne f l = let h : 1 * n < distance (p / 1 * 1) (a / 1 * 1) true = f l in omega arith
off_step p a n false true g ne f l =
    let x = p / 2 in
    let y = a / 2 in
    let small : x < 8388608 = omega arith in
    let low : y < 8388608 = omega arith in
    let z : (a + 2) % 16777216 / 2 < 8388608 = omega arith in
    let h : 2 * n < (x * 2 + 16777216 - y * 2) % 16777216 = f l in
    let v : less n < (x + 8388608 - (a + 2) % 16777216 / 2) % 8388608 =
    rw (pair_up a 1) (nearer_up x y n small low ne (omega (arith, h, apart x y small low))) in
    omega (arith, apart x ((a + 2) % 16777216 / 2) small z, v)
off_step p a n false false g ne f l = let h : 1 * n < distance (p / 1 * 1) (a / 1 * 1) false = f l in omega arith

-- A channel that cannot reach p, if it moves at all.
abbrev Clear : ℕ → Channel → Type 0
Clear p c =
    writes c ≡ true
    → Off p c.current.address c.current.count (down c) (word c)
    × (auto c ≡ true → Off p c.base.address c.base.count (down c) (word c))

abbrev Safe : ℕ → Dma → ℕ → Type 0
Safe p d n = (Shut d n → ⊥) → Clear p (chan d n)

clear_moved : (p : ℕ) (c : Channel) (last : Bool)
    → Good c
    → (last ≡ false → c.current.count ≢ 0)
    → (last ≡ true → auto c ≡ false → ⊥)
    → Clear p c
    → Clear p (moved_of c last)
unfolding moved_of
clear_moved p c last g more dead f = at last (auto c) refl more dead
  where
    at : (l a : Bool) → auto c ≡ a → (l ≡ false → c.current.count ≢ 0) → (l ≡ true → auto c ≡ false → ⊥) → Clear p (moved_by c l a)
    at true true au mr dd w = ((f w).1 au, (f w).1)
    at true false au mr dd w = absurd (dd refl au)
    at false a au mr dd w = (off_step p c.current.address c.current.count (down c) (word c) g.address (mr refl) (f w).0, (f w).1)

safe_after : (d e : Dma) (a : List ℕ) (p n : ℕ) → Sound d → Change d e a n → Safe p d n → Safe p e n
safe_after d e a p n s (rests q _ shut) f x = subst (Clear p) (sym q) (f (λ y. x (shut y)))
safe_after d e a p n s (goes last q _ _ free more shut) f x =
    subst (Clear p) (sym q) (clear_moved p (chan d n) last (s.good n) more (λ l u. x (shut l u)) (f free))

-- One record.
stays_by : (d : Dma) (m : List ℕ) (e : Dma) (l a : List ℕ) (p : ℕ) → Sound d → Safe p d d.channel → Seen d m e l a → get_or l p 0 ≡ get_or m p 0
stays_by d m e l a p s f (still _ q _ _) = rw q
stays_by d m e l a p s f (unit last sv more cs q k ch ad _) = rw q (at (writes c) refl)
  where
    c : Channel
    c = served d

    at : (v : Bool) → writes c ≡ v → get_or (memory_of c m (data_in a) (upper_in a)) p 0 ≡ get_or m p 0
    at true w =
        missed c m (data_in a) (upper_in a) p
        (off_here p c.current.address c.current.count (down c) (word c) (s.good d.channel).address (f (λ x. x.unserved sv refl) w).0)
    at false w = ap (λ (x : List ℕ). get_or x p 0) (sym (untouched c m (data_in a) (upper_in a) w))

stays : {d : Dma} {m : List ℕ} {got : List (List ℕ)} {d' : Dma} {m' : List ℕ} → Trace d m got d' m' → (p : ℕ) → ((n : ℕ) → Safe p d n) → get_or m' p 0 ≡ get_or m p 0
stays stop p f = refl
stays (step {d = d} {m = m} {e = e} {l = l} {a = a} s see t) p f =
    stays t p (λ n. safe_after d e a p n s (change_by d m e l a n s see) (f n)) ∙ stays_by d m e l a p s (f d.channel) see

clear_of : (p : ℕ) (c : Channel) → may_write p c ≡ false → Clear p c
clear_of p c h w = at (inside p c.current (down c) (width c)) refl (rw w at h)
  where
    base : (a r : Bool) → auto c ≡ a → (a and r) ≡ false → auto c ≡ true → r ≡ false
    base true r au h t = h
    base false r au h t = absurd (true≢false (sym t ∙ au))

    at : (q : Bool) → inside p c.current (down c) (width c) ≡ q
        → (q or (auto c and inside p c.base (down c) (width c))) ≡ false
        → Off p c.current.address c.current.count (down c) (word c) × (auto c ≡ true → Off p c.base.address c.base.count (down c) (word c))
    at true q h = absurd (true≢false h)
    at false q h = (
      off p c.current (down c) (word c) q,
      λ t. off p c.base (down c) (word c) (base (auto c) (inside p c.base (down c) (width c)) refl h t),
    )

pub keeps : {d : Dma} {m : List ℕ} {got : List (List ℕ)} {d' : Dma} {m' : List ℕ} → Trace d m got d' m' → (p : ℕ) → Sound d
    → ((n : ℕ) → n < 4 → may_write p (chan d n) ≡ false)
    → get_or m' p 0 ≡ get_or m p 0
keeps {d} t p s f = stays t p (λ n x. at n (ltb n 4) refl)
  where
    at : (n : ℕ) (q : Bool) → ltb n 4 ≡ q → Clear p (chan d n)
    at n true q = clear_of p (chan d n) (f n (ltb-true n 4 q))
    at n false q = subst (Clear p) (sym (get_or-eq_default d.channels none (rw s.four (ltb-false n 4 q)))) (λ w. absurd (false≢true w))
