-- Bytes in two parts: the records of the first, those of both, and what is left of them.
use mathlib.Core.Path.{◌≡◌, refl, sym, ap, ◌∙◌}
use mathlib.Core.List.{List, [], ◌∷◌, ◌++◌, append_assoc, append-nil}
use Prim.Native.Nat.{ℕ, zero, suc, ◌+◌, ◌*◌, ◌≤◌, ◌<◌}
use native.Mathlib.Nat.{add-zero, add-suc}
use native.Mathlib.Omega.{arith}
use lib.ListN.{get_or, length, take, drop, length-drop, get_or-append}
use lib.Seq.{get_or-drop, ext_get_or}
use Rattle.board.specs.declared.Board.{Board}
use Rattle.board.specs.Step.{step_of}
use Rattle.board.specs.Records.{record_at, Run, next, after}
use Rattle.intake.specs.Records.{rest_at}
use Rattle.promises.proofs.Calls.{record_at_law}

-- Record j after the first i, and what is left after i + j of them.
module _ (s : List ℕ) (i j : ℕ) where
  first : get_or (drop (8 * i) s) (8 * j) 0 ≡ get_or s (8 * (i + j)) 0
  first = get_or-drop (8 * i) s (8 * j) 0 ∙ ap (λ (k : ℕ). get_or s k 0) (omega arith)

  byte : (c : ℕ) → get_or (drop (8 * i) s) (8 * j + c) 0 ≡ get_or s (8 * (i + j) + c) 0
  byte c = get_or-drop (8 * i) s (8 * j + c) 0 ∙ ap (λ (k : ℕ). get_or s k 0) (omega arith)

  record_later : record_at s (i + j) ≡ record_at (drop (8 * i) s) j
  unfolding record_at
  record_later = rw (first, byte 1, byte 2, byte 3, byte 4, byte 5, byte 6, byte 7)

  pub rest_later : rest_at s (i + j) ≡ rest_at (drop (8 * i) s) j
  unfolding rest_at
  rest_later = rw (first, byte 1, byte 2, byte 3, byte 4, byte 5, byte 6)

-- One run, and a run on from where it stands.
abbrev pub joining : Run → Run → Run
joining x y = record { board = y.board; memory = y.memory; answers = x.answers ++ y.answers }

pub on_from : (b : Board) (m s : List ℕ) (i j : ℕ)
    → after b m s (i + j) ≡ joining (after b m s i) (after (after b m s i).board (after b m s i).memory (drop (8 * i) s) j)
unfolding after
on_from b m s i zero = rw (add-zero, append-nil)
on_from b m s i (suc j) =
    let x = after b m s i in
    let y = after x.board x.memory (drop (8 * i) s) j in
    let r = record_at (drop (8 * i) s) j in
    rw (add-suc)
    (ap (λ (q : Run). next q (record_at s (i + j))) (on_from b m s i j)
    ∙ ap (λ (q : List ℕ). next (joining x y) q) (record_later s i j)
    ∙ ap (λ (l : List ℕ). record { board = (next y r).board; memory = (next y r).memory; answers = l })
    (append_assoc x.answers y.answers (step_of y.board r y.memory).answer))

-- More bytes change no record that is whole already.
record_before : (s t : List ℕ) (i : ℕ) → 8 * i + 8 ≤ length s → record_at (s ++ t) i ≡ record_at s i
unfolding record_at
record_before s t i h =
    ext_get_or 0 (record_at (s ++ t) i) (record_at s i) refl
    (λ c l. record_at_law (s ++ t) i c l ∙ get_or-append s t 0 (8 * i + c) (omega (arith, h, l)) ∙ sym (record_at_law s i c l))

pub after_before : (b : Board) (m s t : List ℕ) (n : ℕ) → 8 * n ≤ length s → after b m (s ++ t) n ≡ after b m s n
unfolding after
after_before b m s t zero h = refl
after_before b m s t (suc n) h =
    let l : 8 * n ≤ length s = omega arith in
    ap (λ (q : Run). next q (record_at (s ++ t) n)) (after_before b m s t n l) ∙ ap (next (after b m s n)) (record_before s t n (omega arith))

-- What is left is kept: the first n of the seven bytes are those past the last whole record.
seven : List ℕ → List ℕ
seven d = get_or d 0 0 ∷ get_or d 1 0 ∷ get_or d 2 0 ∷ get_or d 3 0 ∷ get_or d 4 0 ∷ get_or d 5 0 ∷ get_or d 6 0 ∷ []

few_back : (d : List ℕ) → length d < 8 → take (length d) (seven d) ≡ d
unfolding seven
few_back [] h = refl
few_back (a ∷ []) h = refl
few_back (a ∷ b ∷ []) h = refl
few_back (a ∷ b ∷ c ∷ []) h = refl
few_back (a ∷ b ∷ c ∷ d ∷ []) h = refl
few_back (a ∷ b ∷ c ∷ d ∷ e ∷ []) h = refl
few_back (a ∷ b ∷ c ∷ d ∷ e ∷ f ∷ []) h = refl
few_back (a ∷ b ∷ c ∷ d ∷ e ∷ f ∷ g ∷ []) h = refl
few_back (a ∷ b ∷ c ∷ d ∷ e ∷ f ∷ g ∷ i ∷ l) h = absurd (omega arith)

rest_is : (s : List ℕ) (i : ℕ) → rest_at s i ≡ seven (drop (8 * i) s)
unfolding rest_at seven
rest_is s i = simp (get_or-drop, add-zero)

pub rest_back : (s : List ℕ) (i n : ℕ) → length s ≡ 8 * i + n → n < 8 → take n (rest_at s i) ≡ drop (8 * i) s
rest_back s i n e h =
    let l : length (drop (8 * i) s) ≡ n = length-drop (8 * i) s ∙ omega (arith, e) in
    ap (take n) (rest_is s i)
    ∙ ap (λ (k : ℕ). take k (seven (drop (8 * i) s))) (sym l)
    ∙ few_back (drop (8 * i) s) (omega (arith, l, h))
