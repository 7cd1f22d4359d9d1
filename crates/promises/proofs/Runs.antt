-- A run of records, as a trace of the DMA chip and as sixteen bytes for each record.
use mathlib.Core.Path.{◌≡◌, refl, sym, ap, ◌∙◌, subst}
use mathlib.Core.List.{List, [], ◌∷◌, ◌++◌}
use mathlib.Core.Bool.{Bool, true, false, not, false≢true}
use Prim.Native.Nat.{ℕ, zero, suc, ◌+◌, ◌-◌, ◌*◌, ◌%◌, ◌≤◌}
use native.Mathlib.Nat.{add-zero, add-suc, zero-add}
use native.Mathlib.Omega.{arith}
use lib.Dec.{eqb, ltb}
use lib.ListN.{length, take, drop, length-append, length-drop, drop_of_length-le, get_or-eq_default}
use lib.Seq.{drop-append-le, take-append-le, drop_at, take_all}
use borrow.Author.Tests.{ltb-true}
use Rattle.bits.specs.Choice.{◌and◌}
use Rattle.std.specs.Prelude.{if◌then◌else◌}
use Rattle.dma.specs.declared.Channel.{Channel}
use Rattle.dma.specs.declared.Dma.{Dma}
use Rattle.dma.specs.Fields.{none as blank, chan}
use Rattle.board.specs.declared.Board.{Board}
use Rattle.board.specs.Wiring.{fresh_of}
use Rattle.board.specs.Step.{step_of}
use Rattle.intake.specs.declared.Fed.{Fed}
use Rattle.board.specs.Records.{record_at, Run, after}
use Rattle.intake.specs.Ranges.{icu_good, timer_good, channel_good, channels_good, dma_good, in_range}
use Rattle.intake.specs.Feed.{bytes_of, count_of, taken, refused, done, fed_of, fed_memory, fed_answers}
use Rattle.tape.proofs.Decodes.{either}
use Rattle.promises.proofs.Logic.{both_left, both_right}
use Rattle.promises.specs.Words.{answer_at, answers_in, Calm, CalmFrom, Further, none, call}
use Rattle.promises.specs.Reached.{Reached, unfed, fed, Typed}
use Rattle.promises.proofs.Sound.{Good, Sound, none_good, reset_sound}
use Rattle.promises.proofs.Seen.{Trace, stop, snoc, join}
use Rattle.promises.proofs.Steps.{seen_step, step_sound, answer_length}

-- The answers before the last, and the last.
pub at_before : (a x : List ℕ) (i : ℕ) → 16 * i + 16 ≤ length a → answer_at (a ++ x) i ≡ answer_at a i
unfolding answer_at
at_before a x i h =
    ap (take 16) (drop-append-le (16 * i) a x (omega arith))
    ∙ take-append-le 16 (drop (16 * i) a) x (rw (length-drop (16 * i) a) (omega arith))

pub at_last : (a x : List ℕ) (i : ℕ) → length a ≡ 16 * i → length x ≡ 16 → answer_at (a ++ x) i ≡ x
unfolding answer_at
at_last a x i h l = ap (take 16) (drop_at a x (16 * i) h) ∙ take_all 16 x (omega arith)

pub in_before : (a x : List ℕ) (n : ℕ) → 16 * n ≤ length a → answers_in (a ++ x) n ≡ answers_in a n
unfolding answers_in
in_before a x zero h = refl
in_before a x (suc n) h =
    let l : 16 * n ≤ length a = omega arith in
    rw (in_before a x n l, at_before a x n (omega arith))

pub in_length : (a : List ℕ) (n : ℕ) → length (answers_in a n) ≡ n
unfolding answers_in
in_length a zero = refl
in_length a (suc n) = length-append (answers_in a n) (answer_at a n ∷ []) ∙ omega (arith, in_length a n)

pub in_more : (a x : List ℕ) (n : ℕ) → length a ≡ 16 * n → length x ≡ 16 → answers_in (a ++ x) (suc n) ≡ answers_in a n ++ x ∷ []
unfolding answers_in
in_more a x n h l = rw (in_before a x n (omega arith), at_last a x n h l)

module _ (b : Board) (m s : List ℕ) where
  abbrev here : ℕ → Run
  here n = after b m s n

  pub answered : (n : ℕ) → length (after b m s n).answers ≡ 16 * n
  unfolding after
  answered zero = refl
  answered (suc n) =
      length-append (here n).answers (step_of (here n).board (record_at s n) (here n).memory).answer
      ∙ omega (arith, answered n, answer_length (here n).board (record_at s n) (here n).memory)

  pub sound : (n : ℕ) → Sound b.dma → Sound (after b m s n).board.dma
  unfolding after
  sound zero g = g
  sound (suc n) g = step_sound (here n).board (record_at s n) (here n).memory (sound n g)

  -- From the end of record i on.
  pub traced_from : (i j : ℕ) → Sound b.dma → CalmFrom i b m s (i + j)
      → Trace (here i).board.dma (here i).memory (drop i (answers_in (here (i + j)).answers (i + j))) (here (i + j)).board.dma (here (i + j)).memory
  unfolding after answers_in
  traced_from i zero g c =
      rw (add-zero, drop_of_length-le (answers_in (here i).answers i) {i = i} (rw (in_length (here i).answers i) (omega arith))) stop
  traced_from i (suc j) g c =
      let n = i + j in
      let x = step_of (here n).board (record_at s n) (here n).memory in
      let a = answers_in (here n).answers n in
      let more : drop i (answers_in ((here n).answers ++ x.answer) (suc n)) ≡ drop i a ++ x.answer ∷ [] =
      ap (drop i) (in_more (here n).answers x.answer n (answered n) (answer_length (here n).board (record_at s n) (here n).memory))
      ∙ drop-append-le i a (x.answer ∷ []) (rw (in_length (here n).answers n) (omega arith))
      in
      rw (add-suc, more)
      (snoc (traced_from i j g (λ k f l. c k f (omega arith))) (sound n g)
      (seen_step (here n).board (record_at s n) (here n).memory (sound n g) (c n (omega arith) (omega arith))))

  pub traced : (n : ℕ) → Sound b.dma → Calm b m s n
      → Trace b.dma m (answers_in (after b m s n).answers n) (after b m s n).board.dma (after b m s n).memory
  unfolding after
  traced n g c =
      subst (λ (k : ℕ). Trace b.dma m (answers_in (here k).answers k) (here k).board.dma (here k).memory) (zero-add n)
      (traced_from 0 n g (λ i _ l. c i (omega (arith, l))))

-- A chip in its ranges is sound, and the other way round.
un_not : (p : Bool) → not p ≡ true → p ≡ false
un_not true h = absurd (false≢true h)
un_not false h = refl

-- The six tests of a board.
pub tests : (b : Board) → in_range b ≡ true
    → (ltb b.kept.length 8 ≡ true)
    × (eqb (b.intp % 2) 0 ≡ true)
    × (icu_good b.icu ≡ true)
    × (icu_good b.slave ≡ true)
    × (timer_good b.timer ≡ true)
    × (dma_good b.dma ≡ true)
unfolding in_range
tests b h =
    let h1 = both_right (ltb b.kept.length 8) _ h in
    let h2 = both_right (eqb (b.intp % 2) 0) _ h1 in
    let h3 = both_right (icu_good b.icu) _ h2 in
    let h4 = both_right (icu_good b.slave) _ h3 in (
      both_left (ltb b.kept.length 8) _ h,
      both_left (eqb (b.intp % 2) 0) _ h1,
      both_left (icu_good b.icu) _ h2,
      both_left (icu_good b.slave) _ h3,
      both_left (timer_good b.timer) _ h4,
      both_right (timer_good b.timer) _ h4,
    )

module _ (b : Board) (t : Typed b) where
  abbrev at : ℕ → Channel
  at n = chan b.dma n

  good_by : (n : ℕ) → channel_good (at n) ≡ true → Good (at n)
  unfolding channel_good
  good_by n h =
      let k = both_right (ltb (at n).current.address 16777216) _ h in
      record {
        address = ltb-true _ _ (both_left (ltb (at n).current.address 16777216) _ h);
        home = ltb-true _ _ (both_left (ltb (at n).base.address 16777216) _ k);
        count = t.current_count n;
        size = t.base_count n;
        built = un_not _ (both_right (ltb (at n).base.address 16777216) _ k);
      }

  pub sound_of : in_range b ≡ true → Sound b.dma
  unfolding dma_good channels_good
  sound_of h =
      let d = b.dma in
      let h4 = (tests b h).5 in
      let h5 = both_right (ltb d.selected 4) _ h4 in
      let h6 = both_right (ltb d.first 4) _ h5 in
      let h7 = both_right (ltb d.channel 4) _ h6 in
      let h8 = both_right (ltb d.requests 16) _ h7 in
      let h9 = both_right (ltb d.ends 16) _ h8 in
      record {
        four = t.four;
        selected = ltb-true _ _ (both_left (ltb d.selected 4) _ h4);
        first = ltb-true _ _ (both_left (ltb d.first 4) _ h5);
        channel = ltb-true _ _ (both_left (ltb d.channel 4) _ h6);
        requests = ltb-true _ _ (both_left (ltb d.requests 16) _ h7);
        ends = ltb-true _ _ (both_left (ltb d.ends 16) _ h8);
        good = all h9;
      }
    where
      g3 : Bool
      g3 = channel_good (at 2) and channel_good (at 3)

      g2 : Bool
      g2 = channel_good (at 1) and channel_good (at 2) and channel_good (at 3)

      all : (channel_good (at 0) and channel_good (at 1) and channel_good (at 2) and channel_good (at 3)) ≡ true → (n : ℕ) → Good (at n)
      all g zero = good_by 0 (both_left (channel_good (at 0)) g2 g)
      all g (suc zero) = good_by 1 (both_left (channel_good (at 1)) g3 (both_right (channel_good (at 0)) g2 g))
      all g (suc (suc zero)) =
          good_by 2 (both_left (channel_good (at 2)) (channel_good (at 3)) (both_right (channel_good (at 1)) g3 (both_right (channel_good (at 0)) g2 g)))
      all g (suc (suc (suc zero))) =
          good_by 3 (both_right (channel_good (at 2)) (channel_good (at 3)) (both_right (channel_good (at 1)) g3 (both_right (channel_good (at 0)) g2 g)))
      all g (suc (suc (suc (suc n)))) =
          subst Good (sym (get_or-eq_default b.dma.channels blank (rw t.four (omega arith)))) none_good

-- Every board reached has a sound chip.
pub fed_sound : (b : Board) (t m : List ℕ) (room : ℕ) → Sound b.dma → Sound (fed_of b t m room).board.dma
unfolding fed_of
fed_sound b t m room g =
    either (λ (f : Fed). Sound f.board.dma) (taken b t room) (λ _. sound b m (bytes_of b t) (count_of b t) g) (λ _. g)

pub reached_sound : {b : Board} → Reached b → Sound b.dma
unfolding fresh_of
reached_sound unfed = reset_sound
reached_sound (fed {b = b} t m room _ _ g) = fed_sound b t m room (reached_sound g)

-- A call, taken or refused, from the end of its record i on, and any number of calls.
module _ (b : Board) (tape m buffer : List ℕ) (i : ℕ) (g : Sound b.dma) where
  abbrev k : ℕ
  k = count_of b tape

  abbrev whole : Run
  whole = after b m (bytes_of b tape) k

  abbrev fed_by : Bool → Fed
  fed_by q = if q then done b tape m k else refused b

  pub rest_traced : i ≤ (fed_of b tape m (length buffer)).records
      → CalmFrom i b m (bytes_of b tape) (fed_of b tape m (length buffer)).records
      → Trace (after b m (bytes_of b tape) i).board.dma (after b m (bytes_of b tape) i).memory (drop i (answers_in (fed_answers b tape m buffer) (fed_of b tape m (length buffer)).records)) (fed_of b tape m (length buffer)).board.dma (fed_memory b tape m (length buffer))
  unfolding fed_of fed_memory fed_answers after answers_in
  rest_traced = by (taken b tape (length buffer))
    where
      done_traced : (j : ℕ) → i + j ≡ k → CalmFrom i b m (bytes_of b tape) k
          → Trace (after b m (bytes_of b tape) i).board.dma (after b m (bytes_of b tape) i).memory (drop i (answers_in (whole.answers ++ drop (16 * k) buffer) k)) whole.board.dma whole.memory
      done_traced j e c =
          rw (in_before whole.answers (drop (16 * k) buffer) k (omega (arith, answered b m (bytes_of b tape) k)), ← e)
          (traced_from b m (bytes_of b tape) i j g (λ n f l. c n f (omega (arith, e, l))))

      by : (q : Bool) → i ≤ (fed_by q).records → CalmFrom i b m (bytes_of b tape) (fed_by q).records
          → Trace (after b m (bytes_of b tape) i).board.dma (after b m (bytes_of b tape) i).memory (drop i (answers_in (if q then whole.answers ++ drop (16 * k) buffer else buffer) (fed_by q).records)) (fed_by q).board.dma (if q then whole.memory else m)
      by true l c = done_traced (k - i) (omega (arith, l)) c
      by false l c = let e : i ≡ 0 = omega (arith, l) in rw e stop

pub calls_traced : {b : Board} {m : List ℕ} {got : List (List ℕ)} {m' : List ℕ} → Further b m got m' → Sound b.dma
    → (d : Dma) × Trace b.dma m got d m'
unfolding after
calls_traced (none {b = b}) g = (b.dma, stop)
calls_traced (call {b = b} {m = m} tape buffer c more) g =
    let t = calls_traced more (fed_sound b tape m (length buffer) g) in
    (t.0, join (rest_traced b tape m buffer 0 g (omega arith) (λ i _ l. c i l)) t.1)

-- From inside a call, over further ones.
pub inside_traced : (b : Board) (tape m buffer : List ℕ) (i : ℕ) → Sound b.dma
    → i ≤ (fed_of b tape m (length buffer)).records
    → CalmFrom i b m (bytes_of b tape) (fed_of b tape m (length buffer)).records
    → {more : List (List ℕ)} {m' : List ℕ}
    → Further (fed_of b tape m (length buffer)).board (fed_memory b tape m (length buffer)) more m'
    → (d : Dma) × Trace (after b m (bytes_of b tape) i).board.dma (after b m (bytes_of b tape) i).memory (drop i (answers_in (fed_answers b tape m buffer) (fed_of b tape m (length buffer)).records) ++ more) d m'
inside_traced b tape m buffer i g l c f =
    let t = calls_traced f (fed_sound b tape m (length buffer) g) in
    (t.0, join (rest_traced b tape m buffer i g l c) t.1)
