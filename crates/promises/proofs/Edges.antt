-- What one record does to the edge request of one level.
use Rattle.tape.specs.declared.Operation.{Operation}
use Rattle.std.specs.Prelude.{Option}
use mathlib.Core.Path.{◌≡◌, refl, sym, ap, subst, ◌∙◌}
use mathlib.Core.Logic.{◌≢◌}
use mathlib.Core.List.{List}
use mathlib.Core.Bool.{Bool, true, false, not, true≢false, false≢true}
use Prim.Native.Nat.{ℕ, zero, suc, ◌/◌, ◌%◌, ◌<◌}
use native.Mathlib.Omega.{arith}
use lib.Dec.{eqb, ltb}
use lib.ListN.{get_or}
use borrow.Author.Tests.{eqb-true, eqb-false, eq-eqb, ne_eqb, leb-true, ltb-true, ltb-false}
use Rattle.bits.specs.Choice.{◌and◌, ◌or◌}
use Rattle.std.specs.Prelude.{if◌then◌else◌}
use Rattle.bits.specs.Bits.{bit_of}
use Rattle.tape.specs.declared.Operation.TheVariants.{Reset, Write, Read, Intp, Gates, Requests, SlaveIntp, Acknowledge, Advance, Cycle}
use Rattle.tape.specs.Records.{byte, pulse_count, decode_of}
use Rattle.tape.specs.Answers.{answer_of}
use Rattle.icu.specs.declared.Icu.{Icu}
use Rattle.icu.specs.Answers as IcuAnswers
use Rattle.icu.specs.Words as IcuWords
use Rattle.icu.specs.Words.{ready, lev, sngl, i4}
use Rattle.icu.specs.Requests.{irr_of, int_of, lines_of}
use Rattle.icu.specs.Service as IcuService
use Rattle.icu.specs.Service.{takes, served_of}
use Rattle.cascade.specs.Cascade.{master_iw3, slave_iw3, joined_of, answered as has-answer, passed_on}
use Rattle.timer.specs.Run.{ran_of}
use Rattle.timer.specs.Timer.{at, resets_of, writes_of, reads_of, gates_of}
use Rattle.dma.specs.Registers as DmaRegisters
use Rattle.board.specs.declared.Board.{Board}
use Rattle.board.specs.declared.Run.{Run}
use Rattle.board.specs.Operations.{Outcome, a0, done, refused, told_with, icu_told, slave_lines, slave_written, slave_shown, slave_tells, slave_gives, acknowledge_of, timer_written, timer_shown, dma_written, dma_shown, write_of, read_of, cycle_of}
use Rattle.board.specs.Wiring.{icu_is, intp_is, slave_is, timer_is, lines_by, joined, lines, int, followed}
use Rattle.board.specs.Advance.{advanced_of, run, advance_of}
use Rattle.board.specs.Step.{execute_of, blocked, outcome_of, answered_of, step_of}
use Rattle.board.proofs.Line.{before, never_rose}
use Rattle.board.proofs.Pulses.{pulses}
use Rattle.tape.proofs.Decodes.{either, Decodes, malformed, reset, write, read, intp, gates, requests, slave_intp, acknowledge, advance, cycle, decodes}
use Rattle.promises.specs.Words.{Highest, line_high, requested, asked_for}
use Rattle.promises.specs.Withdrawn.{counts_rise, rose, restarts, Acknowledges}
use Rattle.promises.proofs.Logic.{both_left, or_false, or_first, and_true, and_false}
use Rattle.promises.proofs.Statuses.{Port, of_icu, of_timer, of_dma, of_slave, writable_port}
use Rattle.promises.proofs.Counters.{reads_out}
use Rattle.promises.proofs.Plain.{no_bit}
use Rattle.promises.proofs.Sizes.{lines_by_small, joined_small, lines_small}
use Rattle.promises.proofs.Advances.{alone, few_rises, reported}
use Rattle.promises.proofs.Requested.{Fit, line_by, line_bit, joined_line, edged, same_edge, stage_stays, trigger_stays, edge_bit, unready_lines, level_lines}
use Rattle.promises.proofs.SetUps.{both_answer, passed_by}
use Rattle.promises.proofs.Taken.{named_icu, named_status, highest_asked, answers_ready, served_edges}

-- Where level k has a request, the chip is ready, in edge trigger, and the line is high.
abbrev pub Backed : Board → ℕ → Type 0
Backed b k = bit_of b.icu.edges k ≡ true → (ready b.icu ≡ true) × (lev b.icu ≡ false) × (line_high b k ≡ true)

-- From the board b to the board c, with a rise of line k or none, nothing answers level k: if it is requested afterwards, its line is high, and it was requested before or
-- rose; and the other way round.
pub record Follows (b c : Board) (up : Bool) (k : ℕ) : Type 0 where
  pub trigger : lev c.icu ≡ lev b.icu
  pub stays_ready : ready b.icu ≡ true → ready c.icu ≡ true
  pub backed : bit_of c.icu.edges k ≡ true
      → (ready b.icu ≡ true) × (lev b.icu ≡ false) × (line_high c k ≡ true) × ((bit_of b.icu.edges k or up) ≡ true)
  pub asks : ready b.icu ≡ true → lev b.icu ≡ false → line_high c k ≡ true → (bit_of b.icu.edges k or up) ≡ true
      → bit_of c.icu.edges k ≡ true

-- The record r, answered with a, leads from the board b to the board c: it starts the chip again, or acknowledges level k, or neither.
pub data Goes (b : Board) (r a : List ℕ) (k : ℕ) (c : Board) : Type 0 where
  starts : restarts r a ≡ true → rose b c a k ≡ false → bit_of c.icu.edges k ≡ false → Goes b r a k c
  takes_it : Acknowledges b r a k → rose b c a k ≡ false → bit_of c.icu.edges k ≡ false → Goes b r a k c
  goes_on_law : restarts r a ≡ false → (Acknowledges b r a k → ⊥) → (up : Bool) → rose b c a k ≡ up → Follows b c up k → Goes b r a k c

-- A change of lines leaves IW1.
iw1_stays : (c : Icu) (was now : ℕ) → (lines_of c was now).iw1 ≡ c.iw1
unfolding lines_of
iw1_stays c was now = either (λ (d : Icu). d.iw1 ≡ c.iw1) (ready c) (λ _. either (λ (d : Icu). d.iw1 ≡ c.iw1) (lev c) (λ _. refl) (λ _. refl)) (λ _. refl)

-- A slave to which level 7 is passed on is ready, and answers.
slave_answers : (b : Board) → passed_on b.icu (lines b) b.slave ≡ true → (slave_tells b).status ≡ 0
slave_answers b p =
    let x = both_answer b (passed_by b.icu (lines b) b.slave p).0 in
    answers_ready b.slave b.slaveintp (both_left (ready b.slave) _ x.1)

-- A line that stays has not risen.
not_both : (p : Bool) → (not p and p) ≡ false
not_both true = refl
not_both false = refl

-- A line that goes from a level to another, while a request is backed by it.
falls_back : (e was now : Bool) → (e ≡ true → was ≡ true) → edged e was now ≡ true → (now ≡ true) × ((e or (not was and now)) ≡ true)
falls_back true true true f h = (refl, refl)
falls_back true true false f h = absurd (false≢true h)
falls_back true false now f h = absurd (false≢true (f refl))
falls_back false true true f h = absurd (false≢true h)
falls_back false true false f h = absurd (false≢true h)
falls_back false false true f h = (refl, refl)
falls_back false false false f h = absurd (false≢true h)

rises_up : (e was now : Bool) → (e ≡ true → was ≡ true) → now ≡ true → (e or (not was and now)) ≡ true → edged e was now ≡ true
rises_up true true true f n h = refl
rises_up true false now f n h = absurd (false≢true (f refl))
rises_up true true false f n h = absurd (false≢true n)
rises_up false true now f n h = absurd (false≢true h)
rises_up false false true f n h = refl
rises_up false false false f n h = absurd (false≢true n)

-- OUT0 over some pulses, p says that one of them made it rise.
falls_last : (e was now p : Bool) → (e ≡ true → was ≡ true) → (p ≡ false → now ≡ true → was ≡ true)
    → edged e (if p then not now else was) now ≡ true
    → (now ≡ true) × ((e or ((not was and now) or p)) ≡ true)
falls_last true was true true f g h = (refl, refl)
falls_last true was false true f g h = absurd (false≢true h)
falls_last false true true true f g h = (refl, refl)
falls_last false false true true f g h = (refl, refl)
falls_last false was false true f g h = absurd (false≢true h)
falls_last true true true false f g h = (refl, refl)
falls_last true true false false f g h = absurd (false≢true h)
falls_last true false now false f g h = absurd (false≢true (f refl))
falls_last false true true false f g h = absurd (false≢true h)
falls_last false true false false f g h = absurd (false≢true h)
falls_last false false true false f g h = absurd (false≢true (g refl refl))
falls_last false false false false f g h = absurd (false≢true h)

rises_last : (e was now p : Bool) → (e ≡ true → was ≡ true) → (p ≡ false → now ≡ true → was ≡ true)
    → now ≡ true → (e or ((not was and now) or p)) ≡ true
    → edged e (if p then not now else was) now ≡ true
rises_last true was true true f g n h = refl
rises_last false was true true f g n h = refl
rises_last e was false p f g n h = absurd (false≢true n)
rises_last true true true false f g n h = refl
rises_last true false true false f g n h = absurd (false≢true (f refl))
rises_last false true true false f g n h = absurd (false≢true h)
rises_last false false true false f g n h = absurd (false≢true (g refl refl))

module _ (b : Board) (k : ℕ) (low : k < 8) (fit : Fit b) (is-backed : Backed b k) where
  abbrev e : Bool
  e = bit_of b.icu.edges k

  -- The chip's requests and the line stay.
  same : (c : Board) → bit_of c.icu.edges k ≡ e → c.icu.iw1 ≡ b.icu.iw1 → (ready b.icu ≡ true → ready c.icu ≡ true)
      → line_high c k ≡ line_high b k
      → Follows b c false k
  same c he hw hr hl =
      record {
        trigger = ap (λ (x : ℕ). bit_of x 3) hw;
        stays_ready = hr;
        backed = λ q.
            let s = is-backed (sym he ∙ q) in
            (s.0, s.1, hl ∙ s.2, or_first e false (sym he ∙ q));
        asks = λ p q h s. he ∙ sym (or_false e) ∙ s;
      }

  -- The lines go from some levels to others.
  moved : (c : Board) (was now : ℕ) (up : Bool) → was < 256 → now < 256 → c.icu ≡ lines_of b.icu was now → line_high c k ≡ bit_of now k
      → (edged e (bit_of was k) (bit_of now k) ≡ true → (bit_of now k ≡ true) × ((e or up) ≡ true))
      → (bit_of now k ≡ true → (e or up) ≡ true → edged e (bit_of was k) (bit_of now k) ≡ true)
      → Follows b c up k
  moved c was now up hw hn hc hl down upward =
      record {
        trigger = ap lev hc ∙ trigger_stays b.icu was now hn;
        stays_ready = λ h. ap (λ (i : Icu). ready i) hc ∙ ap (λ (s : ℕ). eqb s 3) (stage_stays b.icu was now hn) ∙ h;
        backed = λ q. by (ready b.icu) (lev b.icu) refl refl (sym (ap (λ (i : Icu). bit_of i.edges k) hc) ∙ q);
        asks = λ p q h s. ap (λ (i : Icu). bit_of i.edges k) hc ∙ edge_bit b.icu was now hn k hw low p q ∙ upward (sym hl ∙ h) s;
      }
    where
      by : (p q : Bool) → ready b.icu ≡ p → lev b.icu ≡ q → bit_of (lines_of b.icu was now).edges k ≡ true
          → (ready b.icu ≡ true) × (lev b.icu ≡ false) × (line_high c k ≡ true) × ((e or up) ≡ true)
      by true false p q h =
          let d = down (sym (edge_bit b.icu was now hn k hw low p q) ∙ h) in
          (p, q, hl ∙ d.0, d.1)
      by true true p q h =
          absurd (true≢false (sym q ∙ (is-backed (sym (ap (λ (i : Icu). bit_of i.edges k) (level_lines b.icu was now hn q)) ∙ h)).1))
      by false q p s h =
          absurd (false≢true (sym p ∙ (is-backed (sym (ap (λ (i : Icu). bit_of i.edges k) (unready_lines b.icu was now hn p)) ∙ h)).0))

  -- The rest of the board became that of d, the chip has done nothing yet, and follows.
  followed_follows : (d : Board) → d.icu ≡ b.icu → joined d < 256 → Follows b (followed b d) (not (line_high b k) and line_high d k) k
  followed_follows d same h =
      let w = line_bit (joined b) k b.timer fit.wires low in
      let n = line_bit (joined d) k d.timer h low in
      moved (followed b d) (lines b) (lines d) (not (line_high b k) and line_high d k)
      (lines_small (joined b) b.timer fit.wires)
      (lines_small (joined d) d.timer h)
      (ap (λ (c : Icu). lines_of c (lines b) (lines d)) same)
      (sym n)
      (λ q. let x = falls_back e (line_high b k) (line_high d k) (λ s. (is-backed s).2) (rw (w, n) at q) in (n ∙ x.0, x.1))
      (λ p q. rw (w, n) (rises_up e (line_high b k) (line_high d k) (λ s. (is-backed s).2) (sym n ∙ p) q))

  module _ (r m : List ℕ) (bytes : (j : ℕ) → byte r j < 256) where
    -- The answer of an outcome, and what it leads to.
    abbrev answered : Outcome → List ℕ
    answered o = (answered_of (byte r 0) o).answer

    abbrev Does : Outcome → Type 0
    Does o = Goes b r (answered o) k o.board

    -- Nothing is answered, and no advance counts a rise.
    record Calm (o : Outcome) : Type 0 where
      restarted : restarts r (answered o) ≡ false
      unasked : Acknowledges b r (answered o) k → ⊥
      counted : counts_rise (answered o) ≡ false

    abbrev restarting : Bool
    restarting = eqb (byte r 0) 0 or (eqb (byte r 0) 1 and eqb (byte r 1) 0 and bit_of (byte r 2) 4)

    is_calm : (o : Outcome) → restarting ≡ false → eqb (byte r 0) 4 ≡ false → eqb (byte r 0) 5 ≡ false → Calm o
    unfolding answered_of answer_of
    is_calm o h4 a5 h5 =
        record {
          restarted = rw h4 (and_false (eqb o.status 0));
          unasked = λ x. false≢true (sym a5 ∙ eq-eqb (byte r 0) 4 x.operation);
          counted = rw h5 (and_false (eqb o.status 0));
        }

    refused_calm : (o : Outcome) → eqb o.status 0 ≡ false → Calm o
    unfolding answered_of answer_of
    refused_calm o h =
        record {
          restarted = rw h;
          unasked = λ x. false≢true (sym h ∙ eq-eqb o.status 0 x.accepted);
          counted = rw h;
        }

    still_low : (c : Board) (a : List ℕ) → counts_rise a ≡ false → line_high c k ≡ line_high b k → rose b c a k ≡ false
    still_low c a h l = rw (h, l, not_both (line_high b k)) (and_false (eqb k 0))

    still : (o : Outcome) → Calm o → bit_of o.board.icu.edges k ≡ e → o.board.icu.iw1 ≡ b.icu.iw1
        → (ready b.icu ≡ true → ready o.board.icu ≡ true)
        → line_high o.board k ≡ line_high b k
        → Does o
    still o q he hw hr hl = goes_on_law q.restarted q.unasked false (still_low o.board (answered o) q.counted hl) (same o.board he hw hr hl)

    lined : (d : Board) → d.icu ≡ b.icu → joined d < 256 → Calm (done (followed b d)) → Does (done (followed b d))
    lined d same h q =
        goes_on_law q.restarted q.unasked (not (line_high b k) and line_high d k)
        (rw (q.counted, and_false (eqb k 0)) (or_false (not (line_high b k) and line_high d k)))
        (followed_follows d same h)

    -- The operation is another one.
    other : (n j : ℕ) → eqb (byte r 0) n ≡ true → eqb n j ≡ false → eqb (byte r 0) j ≡ false
    other n j h q = ap (λ (x : ℕ). eqb x j) (eqb-true (byte r 0) n h) ∙ q

    refuses : (n : ℕ) → eqb n 0 ≡ false → Does (refused n b)
    refuses n h = still (refused n b) (refused_calm (refused n b) h) refl refl (λ p. p) refl

    -- Nothing of the interrupt chip and its lines changes.
    apart_from : (n : ℕ) → eqb (byte r 0) n ≡ true → eqb n 0 ≡ false → eqb n 1 ≡ false → eqb n 4 ≡ false → eqb n 5 ≡ false → (o : Outcome) → Calm o
    apart_from n h h0 h1 h4 h5 o = is_calm o (rw (other n 0 h h0, other n 1 h h1)) (other n 4 h h4) (other n 5 h h5)

    -- A write.
    module _ (op : eqb (byte r 0) 1 ≡ true) where
      written_calm : (o : Outcome) → (eqb (byte r 1) 0 and bit_of (byte r 2) 4) ≡ false → Calm o
      written_calm o h = is_calm o (rw (other 1 0 op refl, h) (and_false (eqb (byte r 0) 1))) (other 1 4 op refl) (other 1 5 op refl)

      abbrev Q : IcuAnswers.Told → Type 0
      Q t = Does (icu_told b t)

      -- Words at A0=1, MCW and PFCW: no request and no trigger changes.
      module _ (no : (eqb (byte r 1) 0 and bit_of (byte r 2) 4) ≡ false) where
        keeps : (c : Icu) → c.edges ≡ b.icu.edges → c.iw1 ≡ b.icu.iw1 → (ready b.icu ≡ true → ready c ≡ true) → Q (IcuAnswers.done c)
        keeps c he hw hr =
            still (icu_told b (IcuAnswers.done c)) (written_calm (icu_told b (IcuAnswers.done c)) no) (ap (λ (x : ℕ). bit_of x k) he) hw hr refl

        unkept : (n : ℕ) → eqb n 0 ≡ false → Q (IcuAnswers.refused n b.icu)
        unkept n h =
            still (icu_told b (IcuAnswers.refused n b.icu)) (refused_calm (icu_told b (IcuAnswers.refused n b.icu)) h) refl refl (λ p. p) refl

        later : (w x : ℕ) → Q (IcuWords.later_word b.icu w x)
        unfolding IcuWords.later_word
        later w x =
            either Q (ready b.icu) (λ p. keeps _ refl refl (λ _. p))
            (λ u. either Q (eqb b.icu.stage 1)
            (λ _. either (λ (c : Icu). Q (IcuAnswers.done c)) (sngl b.icu)
            (λ _. either (λ (c : Icu). Q (IcuAnswers.done c)) (i4 b.icu)
            (λ _. keeps _ refl refl (λ p. absurd (true≢false (sym p ∙ u))))
            (λ _. keeps _ refl refl (λ _. refl)))
            (λ _. keeps _ refl refl (λ p. absurd (true≢false (sym p ∙ u)))))
            (λ _. either Q (eqb b.icu.stage 4)
            (λ _. either Q (eqb x w)
            (λ _. either (λ (c : Icu). Q (IcuAnswers.done c)) (i4 b.icu)
            (λ _. keeps _ refl refl (λ p. absurd (true≢false (sym p ∙ u))))
            (λ _. keeps _ refl refl (λ _. refl)))
            (λ _. unkept 4 refl))
            (λ _. either Q (eqb b.icu.stage 2) (λ _. keeps _ refl refl (λ _. refl)) (λ _. unkept 3 refl))))

        mcw_goes : (x : ℕ) → Q (IcuWords.mcw b.icu x)
        unfolding IcuWords.mcw
        mcw_goes x =
            either Q (bit_of x 2) (λ _. unkept 4 refl)
            (λ _. either Q (IcuWords.sets_exceptional x) (λ _. unkept 4 refl)
            (λ _. either Q (bit_of x 1) (λ _. keeps _ refl refl (λ p. p)) (λ _. keeps _ refl refl (λ p. p))))

        abbrev D : Icu → Type 0
        D c = Q (IcuAnswers.done c)

        finish_goes : (q : Bool) → D (IcuWords.finished b.icu q)
        unfolding IcuWords.finished
        finish_goes q =
            either D (eqb b.icu.isr 0) (λ _. keeps _ refl refl (λ p. p))
            (λ _. either D q (λ _. keeps _ refl refl (λ p. p)) (λ _. keeps _ refl refl (λ p. p)))

        pfcw_goes : (x : ℕ) → D (IcuWords.pfcw b.icu x)
        unfolding IcuWords.pfcw
        pfcw_goes x = go (bit_of x 7) (bit_of x 6) (bit_of x 5)
          where
            go : (rp sil fi : Bool) → D (IcuWords.commanded rp sil fi b.icu (x % 8))
            go false false true = finish_goes false
            go true false true = finish_goes true
            go false true true = keeps _ refl refl (λ p. p)
            go true true true = keeps _ refl refl (λ p. p)
            go true true false = keeps _ refl refl (λ p. p)
            go true false false = keeps _ refl refl (λ p. p)
            go false false false = keeps _ refl refl (λ p. p)
            go false true false = keeps _ refl refl (λ p. p)

      -- IW1.
      begins : eqb (byte r 1) 0 ≡ true → bit_of (byte r 2) 4 ≡ true → Q (IcuAnswers.done (IcuWords.iw1 b.icu (byte r 2)))
      unfolding IcuWords.iw1 answered_of answer_of
      begins p d =
          starts
          (rw (other 1 0 op refl, op, p, d))
          (still_low (icu_told b (IcuAnswers.done (IcuWords.iw1 b.icu (byte r 2)))).board (answered (icu_told b (IcuAnswers.done (IcuWords.iw1 b.icu (byte r 2)))))
          (rw (other 1 5 op refl))
          refl)
          (no_bit k low)

      -- Port 00H has A0=0, port 01H has A0=1.
      at_zero : (p : ℕ) → Port p → eqb (p / 16) 0 ≡ true → a0 p ≡ false → eqb p 0 ≡ true
      at_zero p (of_icu l _ _ _) z h = eq-eqb p 0 (omega (arith, ltb-true p 2 l, eqb-false (p % 2) 1 h))
      at_zero p (of_timer _ _ _ _ z _) q h = absurd (true≢false (sym q ∙ z))
      at_zero p (of_dma _ _ _ _ _ z _ _) q h = absurd (true≢false (sym q ∙ z))
      at_zero p (of_slave _ _ _ _ _ z _ _) q h = absurd (true≢false (sym q ∙ z))

      not_zero : (p : ℕ) → a0 p ≡ true → eqb p 0 ≡ false
      not_zero p h = ne_eqb p 0 (omega (arith, eqb-true (p % 2) 1 h))

      past_zero : (p : ℕ) → eqb (p / 16) 0 ≡ false → eqb p 0 ≡ false
      past_zero p h = ne_eqb p 0 (omega (arith, eqb-false (p / 16) 0 h))

      icu_goes : Port (byte r 1) → eqb (byte r 1 / 16) 0 ≡ true → Q (IcuWords.write_of b.icu master_iw3 (a0 (byte r 1)) (byte r 2))
      unfolding IcuWords.write_of
      icu_goes port z =
          either Q (a0 (byte r 1)) (λ a. later (rw (not_zero (byte r 1) a)) master_iw3 (byte r 2))
          (λ a. either Q (bit_of (byte r 2) 4)
          (λ d. begins (at_zero (byte r 1) port z a) d)
          (λ d. let no : (eqb (byte r 1) 0 and bit_of (byte r 2) 4) ≡ false = rw d (and_false (eqb (byte r 1) 0)) in
          either Q (ready b.icu)
          (λ _. either Q (bit_of (byte r 2) 3) (λ _. mcw_goes no (byte r 2)) (λ _. pfcw_goes no (byte r 2)))
          (λ _. unkept no 3 refl)))

      write_goes : Port (byte r 1) → Does (write_of b (byte r 1) (byte r 2))
      unfolding write_of timer_written dma_written slave_written
      write_goes port =
          either Does (eqb (byte r 1 / 16) 0) (λ z. icu_goes port z)
          (λ z. let no : (eqb (byte r 1) 0 and bit_of (byte r 2) 4) ≡ false = rw (past_zero (byte r 1) z) in
          either Does (eqb (byte r 1 / 16) 1)
          (λ _. either Does (eqb (writes_of b.timer (byte r 1) (byte r 2)).status 0)
          (λ _. lined (timer_is (writes_of b.timer (byte r 1) (byte r 2)).timer b) refl fit.wires (written_calm _ no))
          (λ h. refuses _ h))
          (λ _. either Does (eqb (byte r 1 / 16) 2)
          (λ _. either Does (eqb (DmaRegisters.write_of b.dma (byte r 1) (byte r 2)).status 0)
          (λ _. still _ (written_calm _ no) refl refl (λ p. p) refl)
          (λ h. refuses _ h))
          (λ _. either Does (eqb (IcuWords.write_of b.slave slave_iw3 (a0 (byte r 1)) (byte r 2)).status 0)
          (λ _. lined (slave_is (IcuWords.write_of b.slave slave_iw3 (a0 (byte r 1)) (byte r 2)).icu b.slaveintp b) refl (joined_small b.intp _ b.slaveintp fit.intp) (written_calm _ no))
          (λ h. refuses _ h))))

    -- A read.
    read_goes : eqb (byte r 0) 2 ≡ true → Does (read_of b (byte r 1))
    unfolding read_of timer_shown dma_shown slave_shown IcuService.read_of
    read_goes op =
        either Does (eqb (byte r 1 / 16) 0)
        (λ _. either (λ (t : IcuAnswers.Told). Does (icu_told b t)) (ready b.icu)
        (λ _. either (λ (t : IcuAnswers.Told). Does (icu_told b t)) (a0 (byte r 1)) (λ _. unmoved (IcuAnswers.telling b.icu b.icu.imr) refl)
        (λ _. either (λ (t : IcuAnswers.Told). Does (icu_told b t)) b.icu.showsisr
        (λ _. unmoved (IcuAnswers.telling b.icu b.icu.isr) refl)
        (λ _. unmoved (IcuAnswers.telling b.icu (irr_of b.icu (lines b))) refl)))
        (λ _. unmoved (IcuAnswers.refused 3 b.icu) refl))
        (λ _. either Does (eqb (byte r 1 / 16) 1)
        (λ _. either Does (eqb (reads_of b.timer (byte r 1)).status 0)
        (λ _. still _ (calm _) refl refl (λ p. p) (ap (λ (q : Bool). if eqb k 0 then q else bit_of (joined b) k) (reads_out b.timer 0 (byte r 1))))
        (λ h. refuses _ h))
        (λ _. either Does (eqb (byte r 1 / 16) 2)
        (λ _. either Does (eqb (DmaRegisters.read_of b.dma (byte r 1)).status 0)
        (λ _. still _ (calm _) refl refl (λ p. p) refl)
        (λ h. refuses _ h))
        (λ _. still _ (calm _) refl refl (λ p. p) refl)))
      where
        calm : (o : Outcome) → Calm o
        calm o = apart_from 2 op refl refl refl refl o

        unmoved : (t : IcuAnswers.Told) → t.icu ≡ b.icu → Does (icu_told b t)
        unmoved t h = still (icu_told b t) (calm (icu_told b t)) (ap (λ (i : Icu). bit_of i.edges k) h) (ap (λ (i : Icu). i.iw1) h) (λ p. ap (λ (i : Icu). ready i) h ∙ p) refl

    -- An acknowledge: with INT high it takes a level, this one or another; else it leaves all.
    module _ (op : eqb (byte r 0) 4 ≡ true) where
      abbrev K : IcuAnswers.Told → Type 0
      K t = Does (icu_told b t)

      uncounted : (o : Outcome) → counts_rise (answered o) ≡ false
      unfolding answered_of answer_of
      uncounted o = rw (other 4 5 op refl) (and_false (eqb o.status 0))

      unstarted : (o : Outcome) → restarts r (answered o) ≡ false
      unfolding answered_of answer_of
      unstarted o = rw (other 4 0 op refl, other 4 1 op refl) (and_false (eqb o.status 0))

      -- INT is low.
      spurious : int b ≡ false → (t : IcuAnswers.Told) → t.icu ≡ b.icu → K t
      spurious h t q =
          still (icu_told b t)
          (record { restarted = unstarted (icu_told b t); unasked = λ x. false≢true (sym h ∙ x.high); counted = uncounted (icu_told b t) })
          (ap (λ (i : Icu). bit_of i.edges k) q)
          (ap (λ (i : Icu). i.iw1) q)
          (λ p. ap (λ (i : Icu). ready i) q ∙ p)
          refl

      -- Of two levels that are highest-ranked neither comes before the other.
      one_highest : (l i j : ℕ) → Highest (asked_for b) l i → Highest (asked_for b) l j → i ≢ j → ⊥
      one_highest l i j g h ne =
          let x = g.over j h.level h.chosen (λ z. ne (sym z)) in
          let y = h.over i g.level g.chosen ne in
          omega (arith, x, y)

      -- INT is high.
      module _ (high : int b ≡ true) where
        abbrev n : ℕ
        n = takes b.icu (lines b)

        first : Highest (asked_for b) b.icu.lowest n
        first = let q = highest_asked b fit high in subst (Highest (asked_for b) b.icu.lowest) (sym q.2) q.1

        served_bit : bit_of (served_of b.icu n).edges k ≡ (e and not (eqb k n))
        served_bit = served_edges b.icu n first.level fit.edges k low

        served_rest : ((served_of b.icu n).iw1 ≡ b.icu.iw1) × ((served_of b.icu n).stage ≡ b.icu.stage)
        unfolding served_of
        served_rest =
            either (λ (c : Icu). (c.iw1 ≡ b.icu.iw1) × (c.stage ≡ b.icu.stage)) b.icu.sfi
            (λ _. either (λ (c : Icu). (c.iw1 ≡ b.icu.iw1) × (c.stage ≡ b.icu.stage)) b.icu.rotation (λ _. (refl, refl)) (λ _. (refl, refl)))
            (λ _. (refl, refl))

        serves : (t : IcuAnswers.Told) → t.status ≡ 0 → t.icu ≡ served_of b.icu n → K t
        unfolding answered_of answer_of
        serves t st q = by (eqb k n) refl
          where
            bit : (v : Bool) → eqb k n ≡ v → bit_of t.icu.edges k ≡ (e and not v)
            bit v h = ap (λ (i : Icu). bit_of i.edges k) q ∙ served_bit ∙ ap (λ (w : Bool). e and not w) h

            by : (v : Bool) → eqb k n ≡ v → K t
            by true h =
                takes_it
                (record {
                  operation = eqb-true (byte r 0) 4 op;
                  accepted = st;
                  high = high;
                  level = subst (Highest (asked_for b) b.icu.lowest) (sym (eqb-true k n h)) first;
                })
                (still_low (icu_told b t).board (answered (icu_told b t)) (uncounted (icu_told b t)) refl)
                (bit true h ∙ and_false e)
            by false h =
                still (icu_told b t)
                (record {
                  restarted = unstarted (icu_told b t);
                  unasked = λ x. one_highest b.icu.lowest k n x.level first (eqb-false k n h);
                  counted = uncounted (icu_told b t);
                })
                (bit false h ∙ and_true e)
                (ap (λ (i : Icu). i.iw1) q ∙ served_rest.0)
                (λ p. ap (λ (i : Icu). ready i) q ∙ ap (λ (s : ℕ). eqb s 3) served_rest.1 ∙ p)
                refl

      -- Level 7 is passed on: the request of 7 goes, and line 7, which was high, makes no new one; the other lines do not move.
      module _ (passed : passed_on b.icu (lines b) b.slave ≡ true) where
        high_7 : int b ≡ true
        high_7 = (passed_by b.icu (lines b) b.slave passed).1

        is_7 : n high_7 ≡ 7
        is_7 = (passed_by b.icu (lines b) b.slave passed).2

        first_7 : Highest (asked_for b) b.icu.lowest 7
        first_7 = subst (Highest (asked_for b) b.icu.lowest) is_7 (first high_7)

        -- the chip has served level 7, and its lines have followed the slave's INT
        abbrev served_7 : Icu
        served_7 = served_of b.icu 7

        abbrev d_7 : Board
        d_7 = slave_is (slave_tells b).icu b.slaveintp (icu_is served_7 b)

        abbrev c_7 : Board
        c_7 = followed b d_7

        rest_7 : (served_7.iw1 ≡ b.icu.iw1) × (served_7.stage ≡ b.icu.stage)
        rest_7 = subst (λ (i : ℕ). ((served_of b.icu i).iw1 ≡ b.icu.iw1) × ((served_of b.icu i).stage ≡ b.icu.stage)) is_7 (served_rest high_7)

        wires_7 : joined d_7 < 256
        wires_7 = joined_small b.intp (slave_tells b).icu b.slaveintp fit.intp

        small_7 : lines d_7 < 256
        small_7 = lines_small (joined d_7) b.timer wires_7

        bit_7 : bit_of served_7.edges k ≡ (e and not (eqb k 7))
        bit_7 = served_edges b.icu 7 (omega arith) fit.edges k low

        -- what is left of the request of level k, for a line that was at a level and is at another
        after_7 : (p q : Bool) → ready b.icu ≡ p → lev b.icu ≡ q
            → bit_of c_7.icu.edges k
            ≡ (if p and not q then edged (e and not (eqb k 7)) (line_high b k) (line_high d_7 k) else e and not (eqb k 7))
        after_7 true false p q =
            edge_bit served_7 (lines b) (lines d_7) small_7 k (lines_small (joined b) b.timer fit.wires) low
            (ap (λ (s : ℕ). eqb s 3) rest_7.1 ∙ p)
            (ap (λ (x : ℕ). bit_of x 3) rest_7.0 ∙ q)
            ∙ rw (bit_7, line_bit (joined b) k b.timer fit.wires low, line_bit (joined d_7) k b.timer wires_7 low)
        after_7 true true p q =
            ap (λ (i : Icu). bit_of i.edges k) (level_lines served_7 (lines b) (lines d_7) small_7 (ap (λ (x : ℕ). bit_of x 3) rest_7.0 ∙ q)) ∙ bit_7
        after_7 false q p _ =
            ap (λ (i : Icu). bit_of i.edges k) (unready_lines served_7 (lines b) (lines d_7) small_7 (ap (λ (s : ℕ). eqb s 3) rest_7.1 ∙ p)) ∙ bit_7

        -- Line 7 was high: in level trigger that is the request, in edge trigger it backs it.
        was_high : k ≡ 7 → line_high b k ≡ true
        was_high z = by (lev b.icu) refl (both_left (requested b k) (not (bit_of b.icu.imr k)) (ap (λ (i : ℕ). asked_for b i) z ∙ first_7.chosen))
          where
            by : (q : Bool) → lev b.icu ≡ q → (if q then line_high b k else e) ≡ true → line_high b k ≡ true
            by true q h = h
            by false q h = (is-backed h).2

        abbrev told_7 : Outcome
        told_7 = told_with c_7 (slave_tells b)

        not_risen : (p q : Bool) → p ≡ true → (not p and q) ≡ false
        not_risen p q h = rw h

        no_edge : (p q : Bool) → p ≡ true → edged false p q ≡ false
        no_edge true true h = refl
        no_edge true false h = refl
        no_edge false q h = absurd (false≢true h)

        -- Of the other lines none moves.
        same_line : k ≢ 7 → line_high d_7 k ≡ line_high b k
        same_line ne =
            ap (λ (q : Bool). if eqb k 0 then (at b.timer 0).out else q)
            (joined_line b.intp (slave_tells b).icu b.slaveintp k fit.intp low
            ∙ rw (ne_eqb k 7 ne)
            (sym (joined_line b.intp b.slave b.slaveintp k fit.intp low ∙ rw (ne_eqb k 7 ne))))

        passed_goes : (slave_tells b).status ≡ 0 → Does told_7
        unfolding answered_of answer_of
        passed_goes st = by (eqb k 7) refl
          where
            gone : eqb k 7 ≡ true → (p q : Bool) → ready b.icu ≡ p → lev b.icu ≡ q → bit_of c_7.icu.edges k ≡ false
            gone h true false p q =
                after_7 true false p q
                ∙ rw (h, and_false e) (no_edge (line_high b k) (line_high d_7 k) (was_high (eqb-true k 7 h)))
            gone h true true p q = after_7 true true p q ∙ rw (h, and_false e)
            gone h false q p s = after_7 false q p s ∙ rw (h, and_false e)

            kept : eqb k 7 ≡ false → (p q : Bool) → ready b.icu ≡ p → lev b.icu ≡ q → bit_of c_7.icu.edges k ≡ e
            kept h true false p q =
                after_7 true false p q
                ∙ rw (h, and_true e, same_line (eqb-false k 7 h)) (same_edge e (line_high b k))
            kept h true true p q = after_7 true true p q ∙ rw (h, and_true e)
            kept h false q p s = after_7 false q p s ∙ rw (h, and_true e)

            by : (v : Bool) → eqb k 7 ≡ v → Does told_7
            by true h =
                takes_it
                (record {
                  operation = eqb-true (byte r 0) 4 op;
                  accepted = st;
                  high = high_7;
                  level = subst (Highest (asked_for b) b.icu.lowest) (sym (eqb-true k 7 h)) first_7;
                })
                (rw (uncounted told_7, and_false (eqb k 0)) (or_false (not (line_high b k) and line_high d_7 k) ∙ not_risen (line_high b k) (line_high d_7 k) (was_high (eqb-true k 7 h))))
                (gone h (ready b.icu) (lev b.icu) refl refl)
            by false h =
                still told_7
                (record {
                  restarted = unstarted told_7;
                  unasked = λ x. one_highest b.icu.lowest k 7 x.level first_7 (eqb-false k 7 h);
                  counted = uncounted told_7;
                })
                (kept h (ready b.icu) (lev b.icu) refl refl)
                (iw1_stays served_7 (lines b) (lines d_7) ∙ rest_7.0)
                (λ p. ap (λ (s : ℕ). eqb s 3) (stage_stays served_7 (lines b) (lines d_7) small_7 ∙ rest_7.1) ∙ p)
                (same_line (eqb-false k 7 h))

      master_goes : K (IcuService.acknowledge_of b.icu (lines b))
      unfolding IcuService.acknowledge_of
      master_goes =
          either K (ready b.icu)
          (λ _. either K (int_of b.icu (lines b))
          (λ h. let d = served_of b.icu (n h) in
          serves h (IcuService.naming b.icu (n h) d) (named_status b.icu (n h) d) (named_icu b.icu (n h) d))
          (λ h. spurious h (IcuService.naming b.icu 7 b.icu) (named_icu b.icu 7 b.icu)))
          (λ _. still (icu_told b (IcuAnswers.refused 3 b.icu)) (refused_calm (icu_told b (IcuAnswers.refused 3 b.icu)) refl) refl refl (λ p. p) refl)

      acknowledge_goes : Does (acknowledge_of b)
      unfolding acknowledge_of slave_gives
      acknowledge_goes =
          either Does (passed_on b.icu (lines b) b.slave) (λ p. passed_goes p (slave_answers b p))
          (λ _. either Does (has-answer b.icu b.slave) (λ _. master_goes) (λ _. refuses 3 refl))

    -- A reset.
    reset_goes : eqb (byte r 0) 0 ≡ true → Does (execute_of b Reset m)
    unfolding execute_of answered_of answer_of resets_of joined_of int_of IcuWords.reset_of
    reset_goes op =
        starts (rw op)
        (rw (other 0 5 op refl, no_bit k low) (all_low (eqb k 0) (line_high b k)))
        (no_bit k low)
      where
        all_low : (p q : Bool) → ((not q and (if p then false else false)) or (p and false)) ≡ false
        all_low true true = refl
        all_low true false = refl
        all_low false true = refl
        all_low false false = refl

    -- An advance of one pulse or more: line 0 by the last change of OUT0, the others as they were.
    module _ (op : eqb (byte r 0) 5 ≡ true) (n : ℕ) (some : n ≢ 0) (few : n < 65536) where
      abbrev x : ℕ
      x = (ran_of (at b.timer 0) n).rises

      abbrev out : Bool
      out = (at b.timer 0).out

      abbrev out' : Bool
      out' = (ran_of (at b.timer 0) n).counter.out

      abbrev c : Board
      c = (advance_of b n).board

      counts : counts_rise (answered (advance_of b n)) ≡ ltb 0 x
      unfolding answered_of advance_of answer_of
      counts =
          let q = (alone (joined b) b.timer b.icu 0 n (omega arith)).rises in
          let small : get_or (run b n).rises 0 0 < 65536 = rw q (omega (arith, few_rises (at b.timer 0) n)) in
          rw op (ap (λ (y : ℕ). ltb 0 y) (reported b n 0 (omega arith) small ∙ q))

      chip : c.icu ≡ lines_of b.icu (lines_by (joined b) (before out out' x)) (lines_by (joined b) out')
      unfolding advance_of
      chip = ap (λ (g : Run). g.icu) (sym (pulses (joined b) b.timer b.icu fit.wires fit.edges n some))

      line : line_high c k ≡ (if eqb k 0 then out' else bit_of (joined b) k)
      unfolding advance_of
      line = ap (λ (q : Bool). if eqb k 0 then q else bit_of (joined b) k) (ap (λ d. d.out) (alone (joined b) b.timer b.icu 0 n (omega arith)).counter)

      small_line : (q : Bool) → lines_by (joined b) q < 256
      small_line q = lines_by_small (joined b) q fit.wires

      never : ltb 0 x ≡ false → out' ≡ true → out ≡ true
      never h = never_rose (at b.timer 0) n (omega (arith, ltb-false 0 x h))

      abbrev up : Bool
      up = (not (line_high b k) and line_high c k) or (eqb k 0 and ltb 0 x)

      follows : (q : Bool) → eqb k 0 ≡ q → Follows b c up k
      follows true q =
          let w : bit_of (lines_by (joined b) (before out out' x)) k ≡ before out out' x =
          line_by (joined b) k (before out out' x) fit.wires low ∙ ap (λ (z : Bool). if z then before out out' x else bit_of (joined b) k) q in
          let v : bit_of (lines_by (joined b) out') k ≡ out' =
          line_by (joined b) k out' fit.wires low ∙ ap (λ (z : Bool). if z then out' else bit_of (joined b) k) q in
          let h : line_high c k ≡ out' = line ∙ ap (λ (z : Bool). if z then out' else bit_of (joined b) k) q in
          let g : line_high b k ≡ out = ap (λ (z : Bool). if z then out else bit_of (joined b) k) q in
          moved c (lines_by (joined b) (before out out' x)) (lines_by (joined b) out') up (small_line (before out out' x)) (small_line out') chip (h ∙ sym v)
          (λ z. let d = falls_last e out out' (ltb 0 x) (λ s. sym g ∙ (is-backed s).2) never (rw (w, v) at z) in (v ∙ d.0, rw (g, h, q) d.1))
          (λ p z. rw (w, v) (rises_last e out out' (ltb 0 x) (λ s. sym g ∙ (is-backed s).2) never (sym v ∙ p) (rw (g, h, q) at z)))
      follows false q =
          let i = bit_of (joined b) k in
          let w : bit_of (lines_by (joined b) (before out out' x)) k ≡ i =
          line_by (joined b) k (before out out' x) fit.wires low ∙ ap (λ (z : Bool). if z then before out out' x else i) q in
          let v : bit_of (lines_by (joined b) out') k ≡ i = line_by (joined b) k out' fit.wires low ∙ ap (λ (z : Bool). if z then out' else i) q in
          let h : line_high c k ≡ i = line ∙ ap (λ (z : Bool). if z then out' else i) q in
          let g : line_high b k ≡ i = ap (λ (z : Bool). if z then out else i) q in
          moved c (lines_by (joined b) (before out out' x)) (lines_by (joined b) out') up (small_line (before out out' x)) (small_line out') chip (h ∙ sym v)
          (λ z. let d = falls_back e i i (λ s. sym g ∙ (is-backed s).2) (rw (w, v) at z) in (v ∙ d.0, rw (g, h, q, or_false (not i and i)) d.1))
          (λ p z. rw (w, v) (rises_up e i i (λ s. sym g ∙ (is-backed s).2) (sym v ∙ p) (rw (g, h, q, or_false (not i and i)) at z)))

      unbegun : (o : Outcome) → restarts r (answered o) ≡ false
      unfolding answered_of answer_of
      unbegun o = rw (other 5 0 op refl, other 5 1 op refl) (and_false (eqb o.status 0))

      advance_goes : Does (advance_of b n)
      advance_goes =
          goes_on_law
          (unbegun (advance_of b n))
          (λ z. false≢true (sym (other 5 4 op refl) ∙ eq-eqb (byte r 0) 4 z.operation))
          up
          (rw counts)
          (follows (eqb k 0) refl)

    advances : eqb (byte r 0) 5 ≡ true → (n : ℕ) → n < 65536 → Does (advance_of b n)
    unfolding answered_of advance_of advanced_of answer_of
    advances op zero few =
        still (advance_of b 0)
        (record {
          restarted = rw (other 5 0 op refl, other 5 1 op refl);
          unasked = λ z. false≢true (sym (other 5 4 op refl) ∙ eq-eqb (byte r 0) 4 z.operation);
          counted = rw op;
        })
        refl
        refl
        (λ p. p)
        refl
    advances op (suc n) few = advance_goes op (suc n) (omega arith) few

    -- Any record.
    does : (x : Option Operation) → Decodes r x → Does (outcome_of b x m)
    unfolding outcome_of execute_of cycle_of
    does x malformed = refuses 2 refl
    does x (reset o) = either Does (blocked b Reset) (λ _. refuses 1 refl) (λ _. reset_goes o)
    does x (write o p) =
        either Does (blocked b (Write (byte r 1) (byte r 2))) (λ _. refuses 1 refl) (λ _. write_goes o (writable_port (byte r 1) p))
    does x (read o p) = either Does (blocked b (Read (byte r 1))) (λ _. refuses 1 refl) (λ _. read_goes o)
    does x (intp o l) =
        either Does (blocked b (Intp (byte r 2))) (λ _. refuses 1 refl)
        (λ _. lined (intp_is (byte r 2) b) refl (joined_small (byte r 2) b.slave b.slaveintp (bytes 2)) (apart_from 3 o refl refl refl refl _))
    does x (gates o l) =
        either Does (blocked b (Gates (byte r 2))) (λ _. refuses 1 refl)
        (λ _. lined (timer_is (gates_of b.timer (byte r 2)) b) refl fit.wires (apart_from 3 o refl refl refl refl _))
    does x (requests o l) =
        either Does (blocked b (Requests (byte r 2))) (λ _. refuses 1 refl)
        (λ _. still _ (apart_from 3 o refl refl refl refl _) refl refl (λ p. p) refl)
    does x (slave_intp o) =
        either Does (blocked b (SlaveIntp (byte r 2))) (λ _. refuses 1 refl)
        (λ _. lined (slave_lines b (byte r 2)) refl (joined_small b.intp _ (byte r 2) fit.intp) (apart_from 3 o refl refl refl refl _))
    does x (acknowledge o) = either Does (blocked b Acknowledge) (λ _. refuses 1 refl) (λ _. acknowledge_goes o)
    does x (advance o l) =
        either Does (blocked b (Advance (pulse_count r))) (λ _. refuses 1 refl)
        (λ _. advances o (pulse_count r) (omega (arith, leb-true (pulse_count r) 65535 l)))
    does x (cycle o) =
        either Does (blocked b (Cycle (eqb (byte r 1) 1) (byte r 2) (byte r 3))) (λ _. refuses 1 refl)
        (λ _. still _ (apart_from 6 o refl refl refl refl _) refl refl (λ p. p) refl)

    pub goes : Goes b r (step_of b r m).answer k (step_of b r m).board
    unfolding step_of answered_of
    goes = does (decode_of r) (decodes r)
