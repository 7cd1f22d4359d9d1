-- On a reached board nothing stands past the kept bytes: so a call of no byte leaves it as it is.
use mathlib.Core.Path.{◌≡◌, refl, sym, ap, ◌∙◌}
use mathlib.Core.List.{List, [], ◌++◌, append-nil}
use mathlib.Core.Bool.{Bool, true, false}
use Prim.Native.Nat.{ℕ, ◌+◌, ◌*◌, ◌%◌, ◌≤◌, ◌<◌}
use native.Mathlib.Omega.{arith}
use lib.Dec.{ltb}
use lib.ListN.{get_or, length, take, get_or-eq_default}
use lib.Seq.{length-take-le, get_or-take, ext_get_or}
use borrow.Author.Tests.{ltb-true, ltb-false}
use Rattle.tape.proofs.Decodes.{either}
use Rattle.board.specs.declared.Board.{Board}
use Rattle.board.specs.Wiring.{fresh_of}
use Rattle.board.specs.Records.{after}
use Rattle.intake.specs.declared.Fed.{Fed}
use Rattle.intake.specs.Records.{rest_at}
use Rattle.intake.specs.Feed.{bytes_of, count_of, taken, fed_of, fed_answers}
use Rattle.promises.specs.Reached.{Reached, unfed, fed}
use Rattle.promises.specs.Chopped.{Lump, called, Room, IsTaken}
use Rattle.promises.proofs.Calls.{rest_at_law}
use Rattle.promises.proofs.Fit.{Fit, long, fit_reached}
use Rattle.promises.proofs.Lumps.{has_room, is_taken, called_is}

-- Past the bytes that are left there are zeros.
rest_zero : (s : List ℕ) (k n i : ℕ) → length s ≡ 8 * k + n → n ≤ i → get_or (rest_at s k) i 0 ≡ 0
unfolding rest_at
rest_zero s k n i e h = by (ltb i 7) refl
  where
    by : (q : Bool) → ltb i 7 ≡ q → get_or (rest_at s k) i 0 ≡ 0
    by true q = rest_at_law s k i (ltb-true i 7 q) ∙ get_or-eq_default s 0 (omega (arith, e, h))
    by false q = get_or-eq_default (rest_at s k) 0 (ltb-false i 7 q)

pub past_zero : {b : Board} → Reached b → (i : ℕ) → b.kept.length ≤ i → get_or b.kept.bytes i 0 ≡ 0
unfolding fresh_of fed_of rest_at
past_zero unfed i h = rest_zero [] 0 0 i refl (omega arith)
past_zero (fed {b = b} t m room _ _ g) i h =
    either (λ (f : Fed). f.board.kept.length ≤ i → get_or f.board.kept.bytes i 0 ≡ 0) (taken b t room)
    (λ _ l. rest_zero (bytes_of b t) (count_of b t) ((b.kept.length + length t) % 8) i (long (fit_reached g) t ∙ omega arith) l)
    (λ _ l. past_zero g i l)
    h

-- So what was kept is kept again.
kept_again : (l : List ℕ) (n : ℕ) → length l ≡ 7 → n < 8 → ((i : ℕ) → n ≤ i → get_or l i 0 ≡ 0) → rest_at (take n l ++ []) 0 ≡ l
unfolding rest_at
kept_again l n seven few zeros = ext_get_or 0 (rest_at (take n l ++ []) 0) l (sym seven) same
  where
    by : (i : ℕ) (q : Bool) → ltb i n ≡ q → get_or (take n l) i 0 ≡ get_or l i 0
    by i true q = get_or-take n l i 0 (ltb-true i n q)
    by i false q =
        let h = ltb-false i n q in
        get_or-eq_default (take n l) 0 (rw (length-take-le n l (omega (arith, seven, few))) h) ∙ sym (zeros i h)

    same : (i : ℕ) → i < 7 → get_or (rest_at (take n l ++ []) 0) i 0 ≡ get_or l i 0
    same i h =
        let e : 8 * 0 + i ≡ i = omega arith in
        rest_at_law (take n l ++ []) 0 i h
        ∙ ap (λ (k : ℕ). get_or (take n l ++ []) k 0) e
        ∙ ap (λ (s : List ℕ). get_or s i 0) (append-nil (take n l))
        ∙ by i (ltb i n) refl

module _ {b : Board} (r : Reached b) (m buffer : List ℕ) where
  abbrev l : Lump
  l = record { tape = []; buffer = buffer }

  abbrev n : ℕ
  n = b.kept.length

  f : Fit b
  f = fit_reached r

  none : count_of b [] ≡ 0
  none = omega (arith, f.few)

  all : (n + length {A = ℕ} []) % 8 ≡ n
  all = omega (arith, f.few)

  room : Room b m l
  room = rw none (omega arith)

  pub empty_taken : IsTaken b m l
  empty_taken = is_taken b m l f room

  pub empty_call : called b m l ≡ record { records = 0; board = b; memory = m; answers = [] }
  unfolding after
  empty_call =
      called_is b m l f room
      ∙ rw (none, all, kept_again b.kept.bytes n f.seven f.few (past_zero r))

  pub empty_buffer : fed_answers b [] m buffer ≡ buffer
  unfolding fed_answers after
  empty_buffer = rw (has_room b m l f room, none)
