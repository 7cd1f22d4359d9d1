-- Each value of each range is there on some board, by a tape that leads to it.
use Prim.Native.Nat.{ℕ, zero, suc, ◌+◌, ◌-◌, ◌*◌, ◌/◌, ◌%◌, ◌^◌, ◌<◌}
use mathlib.Core.Path.{◌≡◌, refl, sym, ap, ◌∙◌}
use mathlib.Core.Bool.{Bool, true, false, false≢true}
use mathlib.Core.List.{List, [], ◌∷◌, ◌++◌}
use native.Mathlib.Omega.{arith}
use lib.Dec.{T, eqb, ltb}
use lib.ListN.{get_or, replicate}
use borrow.Author.Tests.{eqb-true, eqb-false, ltb-true, ltb-false, lt-ltb, le-ltb, ne_eqb}
use Rattle.bits.specs.Choice.{◌and◌}
use Rattle.std.specs.Prelude.{if◌then◌else◌}
use Rattle.bits.specs.Bits.{bit_of, weighed}
use Rattle.bits.proofs.Every.{grid, within}
use Rattle.timer.specs.Ports.{size_of}
use Rattle.board.specs.declared.Board.{Board}
use Rattle.board.specs.Wiring.{fresh_of}
use Rattle.dma.specs.Registers.{byte_is}
use Rattle.intake.specs.Feed.{fed_of}
use Rattle.promises.specs.Records.{writing, reading, setting, acknowledging, advancing, cycling, joined}
use Rattle.promises.specs.Table.{among}
use Rattle.promises.specs.Reached.{fed, unfed}
use Rattle.promises.proofs.Logic.{both_left, both_right, T_true}
use Rattle.promises.proofs.Opened.{rules}
use Rattle.promises.proofs.Sizes.{are_bytes, small_bytes}
use Rattle.exact.specs.Exact.{Has, chip, counter, channel_of, iw1s, evens, modes}

-- The board after some records from reset, over one byte of memory.
unfoldable pub board : List (List ℕ) → Board
board records = (fed_of fresh_of (joined records) (0 ∷ []) 4096).board

on_board : (f : Board → ℕ) (v : ℕ) (records : List (List ℕ)) → are_bytes (joined records) ≡ true → f (board records) ≡ v → Has f v
unfolding board are_bytes
on_board f v records h e =
    record {
      on = board records;
      reached = fed (joined records) (0 ∷ []) 4096 (small_bytes (joined records) h) (small_bytes (0 ∷ []) refl) unfed;
      value = e;
    }

-- Every value below k that a test allows, in part n of m, by tapes that antt runs.
abbrev runs : (ℕ → Board → ℕ) → (ℕ → ℕ → List (List ℕ)) → (ℕ → Bool) → ℕ → ℕ → Bool
runs f tape allowed n v = if allowed v then are_bytes (joined (tape n v)) and eqb (f n (board (tape n v))) v else true

by_runs : (f : ℕ → Board → ℕ) (tape : ℕ → ℕ → List (List ℕ)) (allowed : ℕ → Bool) (m k : ℕ)
    → T (grid (runs f tape allowed) m k)
    → (n v : ℕ)
    → n < m
    → v < k
    → allowed v ≡ true
    → Has (f n) v
by_runs f tape allowed m k t n v hn hv a =
    let q = T_true (are_bytes (joined (tape n v)) and eqb (f n (board (tape n v))) v) (rw a at (within (runs f tape allowed) m k t n v hn hv)) in
    on_board (f n) v (tape n v)
    (both_left (are_bytes (joined (tape n v))) (eqb (f n (board (tape n v))) v) q)
    (eqb-true (f n (board (tape n v))) v (both_right (are_bytes (joined (tape n v))) (eqb (f n (board (tape n v))) v) q))

-- Any value is allowed.
abbrev any : ℕ → Bool
any v = true

-- Records for 1, and others for 0.
abbrev where_set : ℕ → List (List ℕ) → List (List ℕ) → List (List ℕ)
where_set v ones zeros = if eqb v 1 then ones else zeros

-- The interrupt chip n, ready: edge trigger, CALL mode. Its first port is 00H, or 30H.
abbrev ready : ℕ → List (List ℕ)
ready n = writing (48 * n) 18 ∷ writing (48 * n + 1) 0 ∷ []

-- Its stages, IW1 and IW2.
abbrev staged : ℕ → ℕ → List (List ℕ)
staged n v =
    if eqb v 0 then []
    else if eqb v 1 then writing (48 * n) 19 ∷ []
    else if eqb v 2 then writing (48 * n) 19 ∷ writing (48 * n + 1) 0 ∷ []
    else if eqb v 3 then ready n
    else writing (48 * n) 17 ∷ writing (48 * n + 1) 0 ∷ []

pub stage : (n v : ℕ) → n < 2 → v < 5 → Has (λ b. (chip n b).stage) v
unfolding rules joined board are_bytes
stage n v l h = by_runs (λ n b. (chip n b).stage) (λ n v. staged n v) any 2 5 tt n v l h refl

pub iw1 : (n v : ℕ) → n < 2 → v < 256 → iw1s v ≡ true → Has (λ b. (chip n b).iw1) v
unfolding rules joined board are_bytes
iw1 n v l h g = by_runs (λ n b. (chip n b).iw1) (λ n v. if eqb v 0 then [] else writing (48 * n) v ∷ []) iw1s 2 256 tt n v l h g

pub iw2 : (n v : ℕ) → n < 2 → v < 256 → Has (λ b. (chip n b).iw2) v
unfolding rules joined board are_bytes
iw2 zero v l h = on_board (λ b. b.icu.iw2) v (writing 0 18 ∷ writing 1 v ∷ []) (rw (lt-ltb v 256 h)) refl
iw2 (suc zero) v l h = on_board (λ b. b.slave.iw2) v (writing 48 18 ∷ writing 49 v ∷ []) (rw (lt-ltb v 256 h)) refl
iw2 (suc (suc n)) v l h = absurd (omega arith)

-- IW4's self-FI and vector mode; the rotation in self-FI; what reads show.
flag : (f : Board → ℕ) (ones : List (List ℕ)) → are_bytes (joined ones) ≡ true → f (board ones) ≡ 1 → f (board []) ≡ 0 → (v : ℕ) → v < 2 → Has f v
unfolding joined are_bytes
flag f ones h a b zero l = on_board f 0 [] refl b
flag f ones h a b (suc zero) l = on_board f 1 ones h a
flag f ones h a b (suc (suc v)) l = absurd (omega arith)

-- The same of either chip.
each_flag : (f : ℕ → Board → ℕ) (ones : ℕ → List (List ℕ))
    → are_bytes (joined (ones 0)) ≡ true → f 0 (board (ones 0)) ≡ 1 → f 0 (board []) ≡ 0
    → are_bytes (joined (ones 1)) ≡ true → f 1 (board (ones 1)) ≡ 1 → f 1 (board []) ≡ 0
    → (n : ℕ) → n < 2 → (v : ℕ) → v < 2 → Has (f n) v
each_flag f ones h a b h' a' b' zero l = flag (f 0) (ones 0) h a b
each_flag f ones h a b h' a' b' (suc zero) l = flag (f 1) (ones 1) h' a' b'
each_flag f ones h a b h' a' b' (suc (suc n)) l = absurd (omega arith)

pub sfi : (n : ℕ) → n < 2 → (v : ℕ) → v < 2 → Has (λ b. weighed (chip n b).sfi 1) v
unfolding rules joined board are_bytes
sfi = each_flag (λ n b. weighed (chip n b).sfi 1) (λ n. writing (48 * n) 19 ∷ writing (48 * n + 1) 0 ∷ writing (48 * n + 1) 2 ∷ []) refl refl refl refl refl refl

pub vector : (n : ℕ) → n < 2 → (v : ℕ) → v < 2 → Has (λ b. weighed (chip n b).vector 1) v
unfolding rules joined board are_bytes
vector = each_flag (λ n b. weighed (chip n b).vector 1) (λ n. writing (48 * n) 19 ∷ writing (48 * n + 1) 0 ∷ writing (48 * n + 1) 1 ∷ []) refl refl refl refl refl refl

pub rotation : (n : ℕ) → n < 2 → (v : ℕ) → v < 2 → Has (λ b. weighed (chip n b).rotation 1) v
unfolding rules joined board are_bytes
rotation = each_flag (λ n b. weighed (chip n b).rotation 1) (λ n. ready n ++ writing (48 * n) 128 ∷ []) refl refl refl refl refl refl

pub showsisr : (n : ℕ) → n < 2 → (v : ℕ) → v < 2 → Has (λ b. weighed (chip n b).showsisr 1) v
unfolding rules joined board are_bytes
showsisr = each_flag (λ n b. weighed (chip n b).showsisr 1) (λ n. ready n ++ writing (48 * n) 11 ∷ []) refl refl refl refl refl refl

-- Edge requests: all the lines rise at once, line 0 of the master by a mode word for counter 0.
abbrev risen : ℕ → ℕ → List (List ℕ)
risen n v =
    ready n ++ (if eqb n 0 then setting 0 (v - v % 2) ∷ (if bit_of v 0 then writing 19 20 ∷ [] else []) else setting 3 v ∷ [])

pub edges : (n v : ℕ) → n < 2 → v < 256 → Has (λ b. (chip n b).edges) v
unfolding rules joined board are_bytes
edges n v l h = by_runs (λ n b. (chip n b).edges) (λ n v. risen n v) any 2 256 tt n v l h refl

-- Levels in service: each of them is acknowledged, the lowest-ranked first. Those of the slave are passed on by a master in level trigger and self-FI.
abbrev nested : ℕ → ℕ → List (List ℕ)
nested v zero = if bit_of v 0 then writing 19 20 ∷ acknowledging ∷ [] else []
nested v (suc n) = (if bit_of v (suc n) then setting 0 (2 ^ suc n) ∷ acknowledging ∷ [] else []) ++ nested v n

abbrev passing : List (List ℕ)
passing =
    writing 0 25 ∷ writing 1 0 ∷ writing 1 128 ∷ writing 1 2 ∷ writing 48 16 ∷ writing 49 0 ∷ writing 49 7 ∷ []

abbrev passed : ℕ → ℕ → List (List ℕ)
passed v zero = []
passed v (suc n) = (if bit_of v n then setting 3 (2 ^ n) ∷ acknowledging ∷ [] else []) ++ passed v n

pub isr : (n v : ℕ) → n < 2 → v < 256 → Has (λ b. (chip n b).isr) v
unfolding rules joined board are_bytes
isr n v l h =
    by_runs (λ n b. (chip n b).isr) (λ n v. if eqb n 0 then ready 0 ++ nested v 7 else passing ++ passed v 8) any 2 256 tt n v l h refl

pub imr : (n v : ℕ) → n < 2 → v < 256 → Has (λ b. (chip n b).imr) v
unfolding rules joined board are_bytes
imr zero v l h = on_board (λ b. b.icu.imr) v (ready 0 ++ writing 1 v ∷ []) (rw (lt-ltb v 256 h)) refl
imr (suc zero) v l h = on_board (λ b. b.slave.imr) v (ready 1 ++ writing 49 v ∷ []) (rw (lt-ltb v 256 h)) refl
imr (suc (suc n)) v l h = absurd (omega arith)

pub lowest : (n v : ℕ) → n < 2 → v < 8 → Has (λ b. (chip n b).lowest) v
unfolding rules joined board are_bytes
lowest n v l h = by_runs (λ n b. (chip n b).lowest) (λ n v. ready n ++ writing (48 * n) (192 + v) ∷ []) any 2 8 tt n v l h refl

pub slaveintp : (v : ℕ) → v < 256 → Has (λ b. b.slaveintp) v
unfolding rules joined board are_bytes
slaveintp v h = on_board (λ b. b.slaveintp) v (setting 3 v ∷ []) (rw (lt-ltb v 256 h)) refl

pub intp : (v : ℕ) → v < 256 → evens v ≡ true → Has (λ b. b.intp) v
unfolding rules joined board are_bytes
intp v h g = by_runs (λ n b. b.intp) (λ n v. setting 0 v ∷ []) evens 1 256 tt 0 v (omega arith) h g

-- Counter n: its control word, and a byte for it.
abbrev control : ℕ → ℕ → List ℕ
control n w = writing 19 (n * 64 + w)

abbrev count_byte : ℕ → ℕ → List ℕ
count_byte n x = writing (16 + n) x

abbrev modes_of : ℕ → Bool
modes_of v = among v (0 ∷ 1 ∷ 2 ∷ 3 ∷ 4 ∷ 5 ∷ 255 ∷ [])

mode_byte : (v : ℕ) → modes_of v ≡ true → v < 256
unfolding among
mode_byte v h = go (ltb v 256) refl
  where
    go : (q : Bool) → ltb v 256 ≡ q → v < 256
    go true q = ltb-true v 256 q
    go false q =
        let l = ltb-false v 256 q in
        absurd
        (false≢true
        (sym
        (rw (
          ne_eqb v 0 (omega arith),
          ne_eqb v 1 (omega arith),
          ne_eqb v 2 (omega arith),
          ne_eqb v 3 (omega arith),
          ne_eqb v 4 (omega arith),
          ne_eqb v 5 (omega arith),
          ne_eqb v 255 (omega arith),
        )
        refl)
        ∙ h))

pub mode : (n v : ℕ) → n < 3 → modes_of v ≡ true → Has (λ b. (counter n b).mode) v
unfolding rules joined board are_bytes among
mode n v hn g =
    by_runs (λ n b. (counter n b).mode) (λ n v. if eqb v 255 then [] else control n (16 + 2 * v) ∷ []) modes_of 3 256 tt n v hn (mode_byte v g) g

pub format : (n v : ℕ) → n < 3 → v < 4 → Has (λ b. (counter n b).format) v
unfolding rules joined board are_bytes
format n v hn h =
    by_runs (λ n b. (counter n b).format) (λ n v. if eqb v 0 then [] else control n (16 * v) ∷ []) any 3 4 tt n v hn h refl

-- Two bytes of a number, and its three bytes, make it up again.
two : (v : ℕ) → v % 256 + v / 256 * 256 ≡ v
two v = omega arith

-- It is no smaller a count than mode 0 takes.
fits : (v : ℕ) → ltb (size_of (v % 256 + v / 256 * 256)) 1 ≡ false
fits v = go (eqb (v % 256 + v / 256 * 256) 0) refl
  where
    go : (q : Bool) → eqb (v % 256 + v / 256 * 256) 0 ≡ q → ltb (if q then 65536 else v % 256 + v / 256 * 256) 1 ≡ false
    go true q = refl
    go false q = le-ltb (v % 256 + v / 256 * 256) 1 (omega (arith, eqb-false (v % 256 + v / 256 * 256) 0 q))

-- The last complete count, the counter's own value a pulse later, and what a latch holds then.
abbrev counted : ℕ → ℕ → List (List ℕ)
counted n v = control n 48 ∷ count_byte n (v % 256) ∷ count_byte n (v / 256) ∷ []

pub count : (n v : ℕ) → n < 3 → v < 65536 → Has (λ b. (counter n b).count) v
unfolding rules joined board are_bytes
count zero v h l = on_board (λ b. (counter 0 b).count) v (counted 0 v) (rw (lt-ltb (v % 256) 256 (omega arith), lt-ltb (v / 256) 256 (omega arith))) (rw (fits v) (two v))
count (suc zero) v h l = on_board (λ b. (counter 1 b).count) v (counted 1 v) (rw (lt-ltb (v % 256) 256 (omega arith), lt-ltb (v / 256) 256 (omega arith))) (rw (fits v) (two v))
count (suc (suc zero)) v h l = on_board (λ b. (counter 2 b).count) v (counted 2 v) (rw (lt-ltb (v % 256) 256 (omega arith), lt-ltb (v / 256) 256 (omega arith))) (rw (fits v) (two v))
count (suc (suc (suc n))) v h l = absurd (omega arith)

pub value : (n v : ℕ) → n < 3 → v < 65536 → Has (λ b. (counter n b).value) v
unfolding rules joined board are_bytes
value zero v h l = on_board (λ b. (counter 0 b).value) v (counted 0 v ++ advancing 1 ∷ []) (rw (lt-ltb (v % 256) 256 (omega arith), lt-ltb (v / 256) 256 (omega arith))) (rw (fits v) (two v))
value (suc zero) v h l = on_board (λ b. (counter 1 b).value) v (counted 1 v ++ advancing 1 ∷ []) (rw (lt-ltb (v % 256) 256 (omega arith), lt-ltb (v / 256) 256 (omega arith))) (rw (fits v) (two v))
value (suc (suc zero)) v h l = on_board (λ b. (counter 2 b).value) v (counted 2 v ++ advancing 1 ∷ []) (rw (lt-ltb (v % 256) 256 (omega arith), lt-ltb (v / 256) 256 (omega arith))) (rw (fits v) (two v))
value (suc (suc (suc n))) v h l = absurd (omega arith)

pub latch : (n v : ℕ) → n < 3 → v < 65536 → Has (λ b. (counter n b).latch) v
unfolding rules joined board are_bytes
latch zero v h l = on_board (λ b. (counter 0 b).latch) v (counted 0 v ++ advancing 1 ∷ control 0 0 ∷ []) (rw (lt-ltb (v % 256) 256 (omega arith), lt-ltb (v / 256) 256 (omega arith))) (rw (fits v) (two v))
latch (suc zero) v h l = on_board (λ b. (counter 1 b).latch) v (counted 1 v ++ advancing 1 ∷ control 1 0 ∷ []) (rw (lt-ltb (v % 256) 256 (omega arith), lt-ltb (v / 256) 256 (omega arith))) (rw (fits v) (two v))
latch (suc (suc zero)) v h l = on_board (λ b. (counter 2 b).latch) v (counted 2 v ++ advancing 1 ∷ control 2 0 ∷ []) (rw (lt-ltb (v % 256) 256 (omega arith), lt-ltb (v / 256) 256 (omega arith))) (rw (fits v) (two v))
latch (suc (suc (suc n))) v h l = absurd (omega arith)

-- The byte kept apart.
pub low : (n v : ℕ) → n < 3 → v < 256 → Has (λ b. (counter n b).low) v
unfolding rules joined board are_bytes
low zero v h l = on_board (λ b. (counter 0 b).low) v (control 0 48 ∷ count_byte 0 v ∷ []) (rw (lt-ltb v 256 l)) refl
low (suc zero) v h l = on_board (λ b. (counter 1 b).low) v (control 1 48 ∷ count_byte 1 v ∷ []) (rw (lt-ltb v 256 l)) refl
low (suc (suc zero)) v h l = on_board (λ b. (counter 2 b).low) v (control 2 48 ∷ count_byte 2 v ∷ []) (rw (lt-ltb v 256 l)) refl
low (suc (suc (suc n))) v h l = absurd (omega arith)

-- The flags of counter n.
module _ (n v : ℕ) (hn : n < 3) (h : v < 2) where
  pub full : Has (λ b. weighed (counter n b).full 1) v
  unfolding rules joined board are_bytes
  full = by_runs (λ n b. weighed (counter n b).full 1) (λ n v. where_set v (control n 16 ∷ count_byte n 5 ∷ []) []) any 3 2 tt n v hn h refl

  pub pending : Has (λ b. weighed (counter n b).pending 1) v
  unfolding rules joined board are_bytes
  pending = by_runs (λ n b. weighed (counter n b).pending 1) (λ n v. where_set v (control n 16 ∷ count_byte n 5 ∷ []) []) any 3 2 tt n v hn h refl

  pub trigger : Has (λ b. weighed (counter n b).trigger 1) v
  unfolding rules joined board are_bytes
  trigger =
      by_runs (λ n b. weighed (counter n b).trigger 1) (λ n v. where_set v (control n 20 ∷ count_byte n 5 ∷ setting 1 0 ∷ setting 1 7 ∷ []) []) any 3 2 tt n v hn h refl

  pub half : Has (λ b. weighed (counter n b).half 1) v
  unfolding rules joined board are_bytes
  half = by_runs (λ n b. weighed (counter n b).half 1) (λ n v. where_set v (control n 48 ∷ count_byte n 5 ∷ []) []) any 3 2 tt n v hn h refl

  pub latched : Has (λ b. weighed (counter n b).latched 1) v
  unfolding rules joined board are_bytes
  latched = by_runs (λ n b. weighed (counter n b).latched 1) (λ n v. where_set v (control n 16 ∷ control n 0 ∷ []) []) any 3 2 tt n v hn h refl

  pub second : Has (λ b. weighed (counter n b).second 1) v
  unfolding rules joined board are_bytes
  second = by_runs (λ n b. weighed (counter n b).second 1) (λ n v. where_set v (control n 48 ∷ reading (16 + n) ∷ []) []) any 3 2 tt n v hn h refl

  pub gate : Has (λ b. weighed (counter n b).gate 1) v
  unfolding rules joined board are_bytes
  gate = by_runs (λ n b. weighed (counter n b).gate 1) (λ n v. where_set v [] (setting 1 0 ∷ [])) any 3 2 tt n v hn h refl

  pub out : Has (λ b. weighed (counter n b).out 1) v
  unfolding rules joined board are_bytes
  out = by_runs (λ n b. weighed (counter n b).out 1) (λ n v. where_set v (control n 20 ∷ []) []) any 3 2 tt n v hn h refl

  -- Mode 3 with count 3, a pulse later.
  pub odd : Has (λ b. weighed (counter n b).odd 1) v
  unfolding rules joined board are_bytes
  odd =
      by_runs (λ n b. weighed (counter n b).odd 1) (λ n v. where_set v (control n 22 ∷ count_byte n 3 ∷ advancing 1 ∷ []) []) any 3 2 tt n v hn h refl

-- Channel n of the DMA chip: a write with BASE=0 puts each byte into base and current alike.
abbrev addressed : ℕ → ℕ → List (List ℕ)
addressed n v = writing 33 n ∷ writing 36 (v % 256) ∷ writing 37 (v / 256 % 256) ∷ writing 38 (v / 65536) ∷ []

abbrev lasting : ℕ → ℕ → List (List ℕ)
lasting n v = writing 33 n ∷ writing 34 (v % 256) ∷ writing 35 (v / 256) ∷ []

-- The bytes of a number, put into their places one after another, make it up again.
first_byte : (v : ℕ) → byte_is 1 (v % 256) 0 ≡ v % 256
first_byte v = omega arith

second_byte : (v : ℕ) → byte_is 256 (v / 256 % 256) (v % 256) ≡ v % 65536
second_byte v = omega arith

third_byte : (v : ℕ) → v < 16777216 → byte_is 65536 (v / 65536) (v % 65536) ≡ v
third_byte v h = omega arith

last_byte : (v : ℕ) → v < 65536 → byte_is 256 (v / 256) (v % 256) ≡ v
last_byte v h = omega arith

three_bytes : (v : ℕ) → v < 16777216 → byte_is 65536 (v / 65536) (byte_is 256 (v / 256 % 256) (byte_is 1 (v % 256) 0)) ≡ v
three_bytes v h =
    ap (λ (x : ℕ). byte_is 65536 (v / 65536) (byte_is 256 (v / 256 % 256) x)) (first_byte v)
    ∙ ap (λ (x : ℕ). byte_is 65536 (v / 65536) x) (second_byte v)
    ∙ third_byte v h

two_bytes : (v : ℕ) → v < 65536 → byte_is 256 (v / 256) (byte_is 1 (v % 256) 0) ≡ v
two_bytes v h = ap (λ (x : ℕ). byte_is 256 (v / 256) x) (first_byte v) ∙ last_byte v h

pub address : (n v : ℕ) → n < 4 → v < 16777216 → Has (λ b. (channel_of n b).current.address) v
unfolding rules joined board are_bytes
address zero v hn h = on_board (λ b. (channel_of 0 b).current.address) v (addressed 0 v) (rw (lt-ltb (v % 256) 256 (omega arith), lt-ltb (v / 256 % 256) 256 (omega arith), lt-ltb (v / 65536) 256 (omega arith))) (three_bytes v h)
address (suc zero) v hn h = on_board (λ b. (channel_of 1 b).current.address) v (addressed 1 v) (rw (lt-ltb (v % 256) 256 (omega arith), lt-ltb (v / 256 % 256) 256 (omega arith), lt-ltb (v / 65536) 256 (omega arith))) (three_bytes v h)
address (suc (suc zero)) v hn h = on_board (λ b. (channel_of 2 b).current.address) v (addressed 2 v) (rw (lt-ltb (v % 256) 256 (omega arith), lt-ltb (v / 256 % 256) 256 (omega arith), lt-ltb (v / 65536) 256 (omega arith))) (three_bytes v h)
address (suc (suc (suc zero))) v hn h = on_board (λ b. (channel_of 3 b).current.address) v (addressed 3 v) (rw (lt-ltb (v % 256) 256 (omega arith), lt-ltb (v / 256 % 256) 256 (omega arith), lt-ltb (v / 65536) 256 (omega arith))) (three_bytes v h)
address (suc (suc (suc (suc n)))) v hn h = absurd (omega arith)

pub base_address : (n v : ℕ) → n < 4 → v < 16777216 → Has (λ b. (channel_of n b).base.address) v
unfolding rules joined board are_bytes
base_address zero v hn h = on_board (λ b. (channel_of 0 b).base.address) v (addressed 0 v) (rw (lt-ltb (v % 256) 256 (omega arith), lt-ltb (v / 256 % 256) 256 (omega arith), lt-ltb (v / 65536) 256 (omega arith))) (three_bytes v h)
base_address (suc zero) v hn h = on_board (λ b. (channel_of 1 b).base.address) v (addressed 1 v) (rw (lt-ltb (v % 256) 256 (omega arith), lt-ltb (v / 256 % 256) 256 (omega arith), lt-ltb (v / 65536) 256 (omega arith))) (three_bytes v h)
base_address (suc (suc zero)) v hn h = on_board (λ b. (channel_of 2 b).base.address) v (addressed 2 v) (rw (lt-ltb (v % 256) 256 (omega arith), lt-ltb (v / 256 % 256) 256 (omega arith), lt-ltb (v / 65536) 256 (omega arith))) (three_bytes v h)
base_address (suc (suc (suc zero))) v hn h = on_board (λ b. (channel_of 3 b).base.address) v (addressed 3 v) (rw (lt-ltb (v % 256) 256 (omega arith), lt-ltb (v / 256 % 256) 256 (omega arith), lt-ltb (v / 65536) 256 (omega arith))) (three_bytes v h)
base_address (suc (suc (suc (suc n)))) v hn h = absurd (omega arith)

pub units : (n v : ℕ) → n < 4 → v < 65536 → Has (λ b. (channel_of n b).current.count) v
unfolding rules joined board are_bytes
units zero v hn h = on_board (λ b. (channel_of 0 b).current.count) v (lasting 0 v) (rw (lt-ltb (v % 256) 256 (omega arith), lt-ltb (v / 256) 256 (omega arith))) (two_bytes v h)
units (suc zero) v hn h = on_board (λ b. (channel_of 1 b).current.count) v (lasting 1 v) (rw (lt-ltb (v % 256) 256 (omega arith), lt-ltb (v / 256) 256 (omega arith))) (two_bytes v h)
units (suc (suc zero)) v hn h = on_board (λ b. (channel_of 2 b).current.count) v (lasting 2 v) (rw (lt-ltb (v % 256) 256 (omega arith), lt-ltb (v / 256) 256 (omega arith))) (two_bytes v h)
units (suc (suc (suc zero))) v hn h = on_board (λ b. (channel_of 3 b).current.count) v (lasting 3 v) (rw (lt-ltb (v % 256) 256 (omega arith), lt-ltb (v / 256) 256 (omega arith))) (two_bytes v h)
units (suc (suc (suc (suc n)))) v hn h = absurd (omega arith)

pub base_units : (n v : ℕ) → n < 4 → v < 65536 → Has (λ b. (channel_of n b).base.count) v
unfolding rules joined board are_bytes
base_units zero v hn h = on_board (λ b. (channel_of 0 b).base.count) v (lasting 0 v) (rw (lt-ltb (v % 256) 256 (omega arith), lt-ltb (v / 256) 256 (omega arith))) (two_bytes v h)
base_units (suc zero) v hn h = on_board (λ b. (channel_of 1 b).base.count) v (lasting 1 v) (rw (lt-ltb (v % 256) 256 (omega arith), lt-ltb (v / 256) 256 (omega arith))) (two_bytes v h)
base_units (suc (suc zero)) v hn h = on_board (λ b. (channel_of 2 b).base.count) v (lasting 2 v) (rw (lt-ltb (v % 256) 256 (omega arith), lt-ltb (v / 256) 256 (omega arith))) (two_bytes v h)
base_units (suc (suc (suc zero))) v hn h = on_board (λ b. (channel_of 3 b).base.count) v (lasting 3 v) (rw (lt-ltb (v % 256) 256 (omega arith), lt-ltb (v / 256) 256 (omega arith))) (two_bytes v h)
base_units (suc (suc (suc (suc n)))) v hn h = absurd (omega arith)

pub channel_mode : (n v : ℕ) → n < 4 → v < 256 → modes v ≡ true → Has (λ b. (channel_of n b).mode) v
unfolding rules joined board are_bytes
channel_mode n v hn h g =
    by_runs (λ n b. (channel_of n b).mode) (λ n v. writing 32 2 ∷ writing 33 n ∷ writing 42 v ∷ []) modes 4 256 tt n v hn h g

pub masked : (n v : ℕ) → n < 4 → v < 2 → Has (λ b. weighed (channel_of n b).masked 1) v
unfolding rules joined board are_bytes
masked n v hn h =
    by_runs (λ n b. weighed (channel_of n b).masked 1) (λ n v. where_set v [] (writing 47 0 ∷ [])) any 4 2 tt n v hn h refl

-- The chip's own registers.
pub selected : (v : ℕ) → v < 4 → Has (λ b. b.dma.selected) v
unfolding rules joined board are_bytes
selected v h = by_runs (λ n b. b.dma.selected) (λ n v. writing 33 v ∷ []) any 1 4 tt 0 v (omega arith) h refl

pub wide : (v : ℕ) → v < 2 → Has (λ b. weighed b.dma.wide 1) v
unfolding rules joined board are_bytes
wide = flag _ (writing 32 2 ∷ []) refl refl refl

pub base : (v : ℕ) → v < 2 → Has (λ b. weighed b.dma.base 1) v
unfolding rules joined board are_bytes
base = flag _ (writing 33 4 ∷ []) refl refl refl

pub rotate : (v : ℕ) → v < 2 → Has (λ b. weighed b.dma.rotate 1) v
unfolding rules joined board are_bytes
rotate = flag _ (writing 40 16 ∷ []) refl refl refl

pub disabled : (v : ℕ) → v < 2 → Has (λ b. weighed b.dma.disabled 1) v
unfolding rules joined board are_bytes
disabled = flag _ (writing 40 4 ∷ []) refl refl refl

-- Channel n requests, and is granted service.
abbrev granted : ℕ → List (List ℕ)
granted n = writing 47 0 ∷ setting 2 (2 ^ n) ∷ cycling 0 ∷ []

pub serving : (v : ℕ) → v < 2 → Has (λ b. weighed b.dma.serving 1) v
unfolding rules joined board are_bytes
serving = flag _ (granted 0) refl refl refl

pub channel : (v : ℕ) → v < 4 → Has (λ b. b.dma.channel) v
unfolding rules joined board are_bytes
channel v h = by_runs (λ n b. b.dma.channel) (λ n v. granted v) any 1 4 tt 0 v (omega arith) h refl

-- Channel n moves one unit, in single mode with count 0: its end.
abbrev one_unit : ℕ → List (List ℕ)
one_unit n = writing 33 n ∷ writing 42 64 ∷ granted n ++ cycling 0 ∷ []

-- With rotation the channel after the one whose service stopped is first.
pub first : (v : ℕ) → v < 4 → Has (λ b. b.dma.first) v
unfolding rules joined board are_bytes
first v h = by_runs (λ n b. b.dma.first) (λ n v. writing 40 16 ∷ one_unit ((v + 3) % 4)) any 1 4 tt 0 v (omega arith) h refl

pub requests : (v : ℕ) → v < 16 → Has (λ b. b.dma.requests) v
unfolding rules joined board are_bytes
requests v h = by_runs (λ n b. b.dma.requests) (λ n v. setting 2 v ∷ []) any 1 16 tt 0 v (omega arith) h refl

abbrev ended : ℕ → ℕ → List (List ℕ)
ended v n = if bit_of v n then one_unit n else []

pub ends : (v : ℕ) → v < 16 → Has (λ b. b.dma.ends) v
unfolding rules joined board are_bytes
ends v h =
    by_runs (λ n b. b.dma.ends) (λ n v. ended v 0 ++ ended v 1 ++ ended v 2 ++ ended v 3) any 1 16 tt 0 v (omega arith) h refl

-- The kept bytes: a tape that ends inside its first record.
pub kept_length : (v : ℕ) → v < 8 → Has (λ b. b.kept.length) v
unfolding rules joined board are_bytes
kept_length v h = by_runs (λ n b. b.kept.length) (λ n v. replicate v 0 ∷ []) any 1 8 tt 0 v (omega arith) h refl

pub kept_byte : (i v : ℕ) → i < 7 → v < 256 → Has (λ b. get_or b.kept.bytes i 0) v
unfolding rules joined board are_bytes
kept_byte i v hi h =
    by_runs (λ i b. get_or b.kept.bytes i 0) (λ i v. (replicate i 0 ++ v ∷ []) ∷ []) any 7 256 tt i v hi h refl
