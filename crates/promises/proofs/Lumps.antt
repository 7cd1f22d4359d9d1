-- A tape in lumps, call by call.
use mathlib.Core.Path.{◌≡◌, sym, ap, ◌∙◌}
use mathlib.Core.List.{List, [], ◌∷◌, ◌++◌, append_assoc, append-nil}
use mathlib.Core.Bool.{Bool, true}
use Prim.Native.Nat.{ℕ, ◌+◌, ◌*◌, ◌/◌, ◌%◌}
use native.Mathlib.Nat.{add-zero}
use native.Mathlib.Omega.{arith}
use lib.Dec.{leb}
use lib.ListN.{length, take, drop, length-append}
use lib.Seq.{take_at, drop-append-le}
use borrow.Author.Tests.{le-leb}
use Rattle.std.specs.Prelude.{if◌then◌else◌}
use Rattle.board.specs.declared.Board.{Board}
use Rattle.board.specs.Records.{Run, after}
use Rattle.intake.specs.Ranges.{in_range}
use Rattle.intake.specs.Records.{rest_at}
use Rattle.intake.specs.Feed.{bytes_of, count_of, taken, keeping, fed_of, fed_memory, fed_answers}
use Rattle.promises.specs.Chopped.{Lump, Left, called, followed_by, lump_by_lump, joined_tape, Room, IsTaken, Each, none, call}
use Rattle.promises.proofs.Logic.{both}
use Rattle.promises.proofs.Runs.{answered}
use Rattle.promises.proofs.Calls.{room_is, status_is}
use Rattle.promises.proofs.Fit.{Fit, fit_in_range, long, fit_fed}
use Rattle.promises.proofs.Aside.{after_aside}
use Rattle.promises.proofs.Parts.{rest_later, joining, on_from, after_before, rest_back}

-- What a call leaves that has room, by its bytes.
abbrev pub leaves : Board → List ℕ → List ℕ → Left
leaves b m t =
    record {
      records = count_of b t;
      board = keeping (rest_at (bytes_of b t) (count_of b t)) ((b.kept.length + length t) % 8) (after b m (bytes_of b t) (count_of b t)).board;
      memory = (after b m (bytes_of b t) (count_of b t)).memory;
      answers = (after b m (bytes_of b t) (count_of b t)).answers;
    }

module _ (b : Board) (m : List ℕ) (l : Lump) (f : Fit b) (r : Room b m l) where
  pub has_room : taken b l.tape (length l.buffer) ≡ true
  has_room =
      room_is b l.tape m l.buffer
      ∙ both (in_range b) (leb (16 * count_of b l.tape) (length l.buffer)) (fit_in_range f) (le-leb _ _ r)

  pub is_taken : IsTaken b m l
  is_taken = status_is b l.tape m l.buffer ∙ ap (λ (q : Bool). if q then 0 else 7) has_room

  pub called_is : called b m l ≡ leaves b m l.tape
  unfolding fed_of fed_memory fed_answers
  called_is =
      let k = count_of b l.tape in
      let a = (after b m (bytes_of b l.tape) k).answers in
      rw (has_room, take_at a (drop (16 * k) l.buffer) (16 * k) (answered b m (bytes_of b l.tape) k))

-- The call of x, and then that of y, leave what the call of both leaves.
module _ (b : Board) (m x y : List ℕ) (f : Fit b) where
  abbrev s : List ℕ
  s = bytes_of b x

  abbrev k : ℕ
  k = count_of b x

  abbrev run : Run
  run = after b m s k

  -- how many bytes are kept between the calls, how many records the second has, and its bytes
  abbrev n : ℕ
  n = (b.kept.length + length x) % 8

  abbrev j : ℕ
  j = (n + length y) / 8

  abbrev d : List ℕ
  d = drop (8 * k) s ++ y

  all_bytes : bytes_of b (x ++ y) ≡ s ++ y
  all_bytes = sym (append_assoc (take b.kept.length b.kept.bytes) x y)

  all_count : count_of b (x ++ y) ≡ k + j
  all_count = ap (λ (z : ℕ). (b.kept.length + z) / 8) (length-append x y) ∙ omega arith

  all_kept : (b.kept.length + length (x ++ y)) % 8 ≡ (n + length y) % 8
  all_kept = ap (λ (z : ℕ). (b.kept.length + z) % 8) (length-append x y) ∙ omega arith

  next_bytes : take n (rest_at s k) ++ y ≡ d
  next_bytes = ap (λ (l : List ℕ). l ++ y) (rest_back s k n (long f x ∙ omega arith) (omega arith))

  past : drop (8 * k) (s ++ y) ≡ d
  past = drop-append-le (8 * k) s y (omega (arith, long f x))

  all_run : after b m (bytes_of b (x ++ y)) (count_of b (x ++ y)) ≡ joining run (after run.board run.memory d j)
  all_run =
      rw (all_bytes, all_count)
      (on_from b m (s ++ y) k j
      ∙ ap (λ (q : Run). joining q (after q.board q.memory (drop (8 * k) (s ++ y)) j)) (after_before b m s y k (omega (arith, long f x)))
      ∙ ap (λ (l : List ℕ). joining run (after run.board run.memory l j)) past)

  all_rest : rest_at (bytes_of b (x ++ y)) (count_of b (x ++ y)) ≡ rest_at d j
  all_rest = rw (all_bytes, all_count) (rest_later (s ++ y) k j ∙ ap (λ (l : List ℕ). rest_at l j) past)

  next_run : after (leaves b m x).board run.memory (take n (rest_at s k) ++ y) j
      ≡ record { board = keeping (rest_at s k) n (after run.board run.memory d j).board; memory = (after run.board run.memory d j).memory; answers = (after run.board run.memory d j).answers }
  next_run =
      ap (λ (l : List ℕ). after (leaves b m x).board run.memory l j) next_bytes ∙ after_aside (rest_at s k) n run.board run.memory d j

  pub leaves_both : followed_by (leaves b m x) (leaves (leaves b m x).board (leaves b m x).memory y) ≡ leaves b m (x ++ y)
  leaves_both = rw (all_run, all_rest, all_kept, all_count, next_run, next_bytes)

-- Any number of lumps.
pub lumps : (b : Board) (m : List ℕ) (l : Lump) (more : List Lump) → Fit b → Each Room b m (l ∷ more)
    → Each IsTaken b m (l ∷ more) × (lump_by_lump b m (l ∷ more) ≡ leaves b m (joined_tape (l ∷ more)))
unfolding lump_by_lump joined_tape
lumps b m l [] f (call r none) = (
  call (is_taken b m l f r) none,
  ap (λ (c : Left). followed_by c (record { records = 0; board = c.board; memory = c.memory; answers = [] })) (called_is b m l f r)
      ∙ rw (add-zero (count_of b l.tape), append-nil (after b m (bytes_of b l.tape) (count_of b l.tape)).answers, append-nil l.tape),
)
lumps b m l (l' ∷ more) f (call r rest) =
    let c = called b m l in
    let h = lumps c.board c.memory l' more (fit_fed b l.tape m (length l.buffer) f) rest in
    let t = joined_tape (l' ∷ more) in (
      call (is_taken b m l f r) h.0,
      ap (followed_by c) h.1
          ∙ ap (λ (c : Left). followed_by c (leaves c.board c.memory t)) (called_is b m l f r)
          ∙ leaves_both b m l.tape t f,
    )
