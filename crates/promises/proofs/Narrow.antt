-- On the 8-bit bus no channel of a reached board is set to move words.
use mathlib.Core.Path.{◌≡◌, refl, ap, ◌∙◌}
use mathlib.Core.List.{List, [], ◌∷◌}
use mathlib.Core.Bool.{Bool, true, false, not, true≢false}
use Prim.Native.Nat.{ℕ, zero, suc, ◌%◌}
use native.Mathlib.Omega.{arith}
use lib.Dec.{eqb, ltb, leb}
use lib.ListN.{get_or, get_or-eq_default}
use Rattle.bits.specs.Choice.{◌and◌, ◌or◌}
use Rattle.bits.specs.Bits.{bit_of, masked_of}
use Rattle.tape.specs.declared.Operation.{Operation}
use Rattle.tape.specs.declared.Operation.TheVariants.{Reset, Write, Read, Intp, Gates, Requests, SlaveIntp, Acknowledge, Advance, Cycle}
use Rattle.dma.specs.declared.Channel.{Channel}
use Rattle.dma.specs.declared.Dma.{Dma}
use Rattle.dma.specs.Answers.{Written}
use Rattle.dma.specs.Answers.{Got}
use Rattle.dma.specs.Fields.{none, chan, served, word, wide_is}
use Rattle.dma.specs.Registers.{chosen, reset_of, requested_of, any_words, unbuilt_mode, refuses_mode, initialized_of, selected_of, loaded_of, controlled_of, moded_of, masked_by, write_of, read_of}
use Rattle.dma.specs.Cycle.{moved_of, winner, last_of, releases, nothing_of, granted_of, released_of, unit_of, cycle_by, cycle_of}
use Rattle.board.specs.declared.Board.{Board}
use Rattle.board.specs.Wiring.{fresh_of}
use Rattle.board.specs.Step.{step_of}
use Rattle.board.specs.Records.{record_at, after}
use Rattle.intake.specs.declared.Fed.{Fed}
use Rattle.intake.specs.Feed.{bytes_of, count_of, taken, fed_of}
use Rattle.tape.proofs.Decodes.{either}
use Rattle.promises.specs.Reached.{Reached, unfed, fed}
use Rattle.promises.proofs.Lists.{put}
use Rattle.promises.proofs.Sound.{Sound}
use Rattle.promises.proofs.Change.{moved_mode}
use Rattle.promises.proofs.Touched.{On, touched_by}
use Rattle.promises.proofs.Runs.{sound, reached_sound}

abbrev Bytewise : Channel → Type 0
Bytewise c = word c ≡ false

abbrev pub Fits : Dma → Type 0
Fits d = d.wide ≡ false → (n : ℕ) → Bytewise (chan d n)

none_bytewise : Bytewise none
unfolding bit_of
none_bytewise = refl

four_of : (a b c e : Channel) → Bytewise a → Bytewise b → Bytewise c → Bytewise e → (n : ℕ) → Bytewise (get_or (a ∷ b ∷ c ∷ e ∷ []) n none)
four_of a b c e ha hb hc he zero = ha
four_of a b c e ha hb hc he (suc zero) = hb
four_of a b c e ha hb hc he (suc (suc zero)) = hc
four_of a b c e ha hb hc he (suc (suc (suc zero))) = he
four_of a b c e ha hb hc he (suc (suc (suc (suc n)))) = none_bytewise

reset_bytewise : (n : ℕ) → Bytewise (chan reset_of n)
unfolding reset_of bit_of
reset_bytewise n = four_of _ _ _ _ refl refl refl refl n

-- None of the four is set to words, so none is.
all_four : (d : Dma) → Sound d → any_words d ≡ false → (n : ℕ) → Bytewise (chan d n)
unfolding any_words
all_four d s h = at
  where
    parts : (p q r t : Bool) → (p or q or r or t) ≡ false → (p ≡ false) × (q ≡ false) × (r ≡ false) × (t ≡ false)
    parts true q r t h = absurd (true≢false h)
    parts false true r t h = absurd (true≢false h)
    parts false false true t h = absurd (true≢false h)
    parts false false false true h = absurd (true≢false h)
    parts false false false false h = (refl, refl, refl, refl)

    each : (word (chan d 0) ≡ false) × (word (chan d 1) ≡ false) × (word (chan d 2) ≡ false) × (word (chan d 3) ≡ false)
    each = parts (word (chan d 0)) (word (chan d 1)) (word (chan d 2)) (word (chan d 3)) h

    at : (n : ℕ) → Bytewise (chan d n)
    at zero = each.0
    at (suc zero) = each.1
    at (suc (suc zero)) = each.2
    at (suc (suc (suc zero))) = each.3
    at (suc (suc (suc (suc n)))) =
        ap word (get_or-eq_default d.channels none (rw s.four (omega arith))) ∙ none_bytewise

module _ (d : Dma) (s : Sound d) (f : Fits d) where
  cycle_fits : (e : Bool) (x y : ℕ) (m : List ℕ) → Fits (cycle_of d e x y m).dma
  unfolding cycle_of nothing_of granted_of released_of unit_of
  cycle_fits e x y m = at d.serving (releases d) d.disabled (eqb (winner d) 4)
    where
      last : Bool
      last = last_of (served d) e

      at : (v r k w : Bool) → Fits (cycle_by d e x y m v r k w).dma
      at true true k w = f
      at true false k w = λ h n.
          put Bytewise d.channels d.channel n (moved_of (served d) last) none
          (λ _. ap (λ (z : ℕ). bit_of z 0) (moved_mode (served d) last) ∙ f h d.channel)
          (f h n)
      at false r true w = f
      at false r false true = f
      at false r false false = f

  abbrev G : Got → Type 0
  G g = Fits g.dma

  read_fits : (r : ℕ) → Fits (read_of d r).dma
  unfolding read_of
  read_fits r =
      either G (eqb n 0) (λ _. f)
      (λ _. either G (eqb n 1) (λ _. f)
      (λ _. either G (leb n 6) (λ _. f)
      (λ _. either G (eqb n 7) (λ _. f)
      (λ _. either G (eqb n 8) (λ _. f)
      (λ _. either G (eqb n 9) (λ _. f)
      (λ _. either G (eqb n 10) (λ _. f)
      (λ _. either G (eqb n 11) (λ _. f)
      (λ _. either G (ltb n 15) (λ _. f) (λ _. f)))))))))
    where
      n : ℕ
      n = r % 16

  choose : (c : Channel) → (d.wide ≡ false → Bytewise c) → Fits (chosen c d)
  choose c g = λ h n. put Bytewise d.channels d.selected n c none (λ _. g h) (f h n)

  abbrev W : Written → Type 0
  W w = Fits w.dma

  -- Register 0 without RES: to 16 bits, or to 8 with no channel set to words.
  bus_fits : (k : Bool) → (not k and any_words d) ≡ false → Fits (wide_is k d)
  bus_fits true q = λ h. absurd (true≢false h)
  bus_fits false q = λ h n. all_four d s q n

  mode_fits : (x : ℕ) → refuses_mode d x ≡ false → d.wide ≡ false → bit_of x 0 ≡ false
  unfolding refuses_mode
  mode_fits x h w = at (unbuilt_mode x) (bit_of x 0) (rw w at h)
    where
      at : (p q : Bool) → (p or (q and true)) ≡ false → q ≡ false
      at true q h = absurd (true≢false h)
      at false true h = absurd (true≢false h)
      at false false h = refl

  write_fits : (r x : ℕ) → Fits (write_of d r x).dma
  unfolding write_of initialized_of selected_of controlled_of moded_of loaded_of masked_by
  write_fits r x =
      either W (eqb n 0)
      (λ _. either W (bit_of x 0) (λ _ _. reset_bytewise) (λ _. either W (not (bit_of x 1) and any_words d) (λ _. f) (λ q. bus_fits (bit_of x 1) q)))
      (λ _. either W (eqb n 1) (λ _. f)
      (λ _. either W (leb n 6) (λ _. either Fits d.base (λ _. choose _ (λ h. f h d.selected)) (λ _. choose _ (λ h. f h d.selected)))
      (λ _. either W (eqb n 7) (λ _. f)
      (λ _. either W (eqb n 8) (λ _. either W (eqb (masked_of x 20) 0) (λ _. f) (λ _. f))
      (λ _. either W (eqb n 9) (λ _. either W (eqb x 0) (λ _. f) (λ _. f))
      (λ _. either W (eqb n 10) (λ _. either W (refuses_mode d x) (λ _. f) (λ u. choose _ (mode_fits x u)))
      (λ _. either W (eqb n 11) (λ _. f)
      (λ _. either W (ltb n 15) (λ _. f) (λ _ h. four_of _ _ _ _ (f h 0) (f h 1) (f h 2) (f h 3))))))))))
    where
      n : ℕ
      n = r % 16

-- One record, any run of records, any call.
step_fits : (b : Board) (m : List ℕ) → Sound b.dma → Fits b.dma → (r : List ℕ) → Fits (step_of b r m).board.dma
unfolding requested_of
step_fits b m s f = touched_by Fits b m f at
  where
    at : (o : Operation) → On Fits b.dma m o
    at Reset = λ _. reset_bytewise
    at (Write p x) = λ _. write_fits b.dma s f p x
    at (Read p) = read_fits b.dma s f p
    at (Intp l) = tt
    at (Gates l) = tt
    at (Requests l) = f
    at (SlaveIntp l) = tt
    at Acknowledge = tt
    at (Advance n) = tt
    at (Cycle e x y) = cycle_fits b.dma s f e x y m

run_fits : (b : Board) (m t : List ℕ) (n : ℕ) → Sound b.dma → Fits b.dma → Fits (after b m t n).board.dma
unfolding after
run_fits b m t zero s f = f
run_fits b m t (suc n) s f = step_fits (after b m t n).board (after b m t n).memory (sound b m t n s) (run_fits b m t n s f) (record_at t n)

reached_fits : {b : Board} → Reached b → Fits b.dma
unfolding fresh_of fed_of
reached_fits unfed = λ _. reset_bytewise
reached_fits (fed {b = b} t m room _ _ r) =
    either (λ (x : Fed). Fits x.board.dma) (taken b t room)
    (λ _. run_fits b m (bytes_of b t) (count_of b t) (reached_sound r) (reached_fits r))
    (λ _. reached_fits r)

pub narrow : {b : Board} → Reached b → b.dma.wide ≡ false → (k : ℕ) → bit_of (chan b.dma k).mode 0 ≡ false
narrow r h k = reached_fits r h k
