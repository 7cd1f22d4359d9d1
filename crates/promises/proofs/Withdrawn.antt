-- A request is a line that rose and is held.
use mathlib.Core.Path.{◌≡◌, refl, sym, ◌∙◌}
use mathlib.Core.Logic.{◌↔◌, ◌⊎◌, inl, inr, ⊎_elim}
use mathlib.Core.List.{List}
use mathlib.Core.Bool.{Bool, true, false, true≢false}
use Prim.Native.Nat.{ℕ, zero, suc, ◌<◌}
use native.Mathlib.Nat.{eq-or-lt_of_le, le_of_suc-le-suc}
use native.Mathlib.Omega.{arith}
use borrow.Author.Tests.{eqb-true, eq-eqb, not-true}
use Rattle.bits.specs.Choice.{◌or◌}
use Rattle.bits.specs.Bits.{bit_of}
use Rattle.icu.specs.Words as IcuWords
use Rattle.icu.specs.Words.{ready, lev}
use Rattle.board.specs.declared.Board.{Board}
use Rattle.board.specs.Wiring.{fresh_of}
use Rattle.board.specs.Records.{record_at, after}
use Rattle.intake.specs.declared.Fed.{Fed}
use Rattle.intake.specs.Feed.{bytes_of, count_of, taken, fed_of}
use Rattle.tape.proofs.Decodes.{either}
use Rattle.promises.specs.Words.{line_high, requested}
use Rattle.promises.specs.Reached.{Reached, unfed, fed, Bytes}
use Rattle.promises.specs.Withdrawn.{rose, restarts, Acknowledges, found, answer, Undisturbed, Stands, StillStands, edge_trigger, Withdrawn}
use Rattle.promises.proofs.Logic.{or_first, or_second}
use Rattle.promises.proofs.Plain.{no_bit}
use Rattle.promises.proofs.BoardKept.{Held, after_held, reached_held}
use Rattle.promises.proofs.Sizes.{Sized, after_sized, record_bytes, call_bytes, reached_keeps}
use Rattle.promises.proofs.Requested.{Fit, fit_of}
use Rattle.promises.proofs.Edges.{Backed, Goes, starts, takes_it, goes_on_law, goes}

-- From a board that is held and sized, on which level k is backed: so it is at the end of each record.
module _ (b : Board) (h : Held b) (z : Sized b) (k : ℕ) (low : k < 8) (first : Backed b k) (m s : List ℕ) (bytes : Bytes s) where
  abbrev here : ℕ → Board
  here n = found b m s n

  abbrev e : ℕ → Bool
  e n = bit_of (here n).icu.edges k

  fit : (n : ℕ) → Fit (here n)
  fit n =
      let y = after_held b m s n h in
      let x = after_sized b m s n bytes z in
      fit_of (here n) y x

  -- One record more.
  abbrev Next : ℕ → Type 0
  Next n = Goes (here n) (record_at s n) (answer b m s n) k (here (suc n))

  next : (n : ℕ) → Backed (here n) k → Next n
  unfolding after
  next n g = goes (here n) k low (fit n) g (record_at s n) (after b m s n).memory (record_bytes s n bytes)

  on : (n : ℕ) → Next n → Backed (here (suc n)) k
  on n (starts _ _ q) x = absurd (true≢false (sym x ∙ q))
  on n (takes_it _ _ q) x = absurd (true≢false (sym x ∙ q))
  on n (goes_on_law _ _ up _ f) x =
      let d = f.backed x in
      (f.stays_ready d.0, f.trigger ∙ d.1, d.2)

  pub all_backed : (n : ℕ) → Backed (here n) k
  unfolding after
  all_backed zero = first
  all_backed (suc n) = on n (next n (all_backed n))

  step : (n : ℕ) → Next n
  step n = next n (all_backed n)

  -- Stands, and one record more.
  abbrev Since : ℕ → Type 0
  Since n = Stands b m s k n ⊎ StillStands b m s k n

  abbrev Quiet : ℕ → Type 0
  Quiet n = (restarts (record_at s n) (answer b m s n) ≡ false) × (Acknowledges (here n) (record_at s n) (answer b m s n) k → ⊥)

  abbrev New : ℕ → Type 0
  New n = (ready (here n).icu ≡ true) × (rose (here n) (here (suc n)) (answer b m s n) k ≡ true)

  more : (i n : ℕ) → Undisturbed b m s k i n → Quiet n → Undisturbed b m s k i (suc n)
  more i n u q j l g = ⊎_elim (λ x. rw x q) (λ x. u j l x) (eq-or-lt_of_le (le_of_suc-le-suc g))

  goes_further : (n : ℕ) → Since n → Quiet n → Since (suc n)
  goes_further n (inl a) q =
      inl (record { at = a.at; before = omega (arith, a.before); ready = a.ready; rises = a.rises; since = more (suc a.at) n a.since q })
  goes_further n (inr a) q = inr (record { first = a.first; since = more 0 n a.since q })

  begins : (n : ℕ) → New n → Since (suc n)
  begins n w =
      inl (record {
        at = n;
        before = omega arith;
        ready = eqb-true (here n).icu.stage 3 w.0;
        rises = w.1;
        since = λ j l g. absurd (omega arith);
      })

  -- What asks after a record rose in it, or asked before and was not answered.
  back : (n : ℕ) → Since (suc n) → New n ⊎ (Since n × Quiet n)
  back n (inl a) = ⊎_elim now earlier (eq-or-lt_of_le (le_of_suc-le-suc a.before))
    where
      now : a.at ≡ n → New n ⊎ (Since n × Quiet n)
      now x = inl (rw x at (eq-eqb (here a.at).icu.stage 3 a.ready), rw x at a.rises)

      earlier : a.at < n → New n ⊎ (Since n × Quiet n)
      earlier x =
          inr (
            inl (record { at = a.at; before = x; ready = a.ready; rises = a.rises; since = λ j l g. a.since j l (omega arith) }),
            a.since n x (omega arith),
          )
  back n (inr a) = inr (inr (record { first = a.first; since = λ j l g. a.since j l (omega arith) }), a.since n (omega arith) (omega arith))

  -- What is requested is high, and asks.
  asking : (n : ℕ) → e n ≡ true → Since n
  unfolding after
  asking zero x = inr (record { first = edge_request (first x).1 x; since = λ j l g. absurd (omega arith) })
    where
      edge_request : lev b.icu ≡ false → bit_of b.icu.edges k ≡ true → requested b k ≡ true
      edge_request l x = rw l x
  asking (suc n) x = by (asking n) (step n)
    where
      old_or_new : (e n ≡ true → Since n) → (p q : Bool) → e n ≡ p → (p or q) ≡ true → rose (here n) (here (suc n)) (answer b m s n) k ≡ q → ready (here n).icu ≡ true
          → Quiet n
          → Since (suc n)
      old_or_new ih true q y _ _ _ c = goes_further n (ih y) c
      old_or_new ih false q y o r u c = begins n (u, r ∙ o)

      by : (e n ≡ true → Since n) → Next n → Since (suc n)
      by ih (starts _ _ q) = absurd (true≢false (sym x ∙ q))
      by ih (takes_it _ _ q) = absurd (true≢false (sym x ∙ q))
      by ih (goes_on_law c a up r f) =
          let d = f.backed x in
          old_or_new ih (e n) up refl d.3 r d.0 (c, a)

  -- What asks, in edge trigger, is ready; and requested if its line is high.
  abbrev Ready : ℕ → Type 0
  Ready n = lev (here n).icu ≡ false → Since n → ready (here n).icu ≡ true

  asked_ready : (n : ℕ) → Ready n
  unfolding after
  asked_ready zero l (inl a) = absurd (omega (arith, a.before))
  asked_ready zero l (inr a) = (first (rw l at a.first)).0
  asked_ready (suc n) l w = by (asked_ready n) (step n) (back n w)
    where
      by : Ready n → Next n → New n ⊎ (Since n × Quiet n) → ready (here (suc n)).icu ≡ true
      by ih (starts _ q _) (inl w) = absurd (true≢false (sym w.1 ∙ q))
      by ih (starts t _ _) (inr (_, q)) = absurd (true≢false (sym t ∙ q.0))
      by ih (takes_it _ q _) (inl w) = absurd (true≢false (sym w.1 ∙ q))
      by ih (takes_it t _ _) (inr (_, q)) = absurd (q.1 t)
      by ih (goes_on_law _ _ _ _ f) (inl w) = f.stays_ready w.0
      by ih (goes_on_law _ _ _ _ f) (inr (w, _)) = f.stays_ready (ih (sym f.trigger ∙ l) w)

  abbrev Asks : ℕ → Type 0
  Asks n = lev (here n).icu ≡ false → line_high (here n) k ≡ true → Since n → e n ≡ true

  held_asks : (n : ℕ) → Asks n
  unfolding after
  held_asks zero l high (inl a) = absurd (omega (arith, a.before))
  held_asks zero l high (inr a) = rw l at a.first
  held_asks (suc n) l high w = by (held_asks n) (step n) (back n w)
    where
      -- The line was high all the while, or rose in this record.
      was_high : Asks n → (up : Bool) → rose (here n) (here (suc n)) (answer b m s n) k ≡ up → Since n → lev (here n).icu ≡ false → (p : Bool) → line_high (here n) k ≡ p
          → (e n or up) ≡ true
      was_high ih up r w g true p = or_first (e n) up (ih g p w)
      was_high ih up r w g false p = or_second (e n) up (sym r ∙ rw (p, high) refl)

      by : Asks n → Next n → New n ⊎ (Since n × Quiet n) → e (suc n) ≡ true
      by ih (starts _ q _) (inl w) = absurd (true≢false (sym w.1 ∙ q))
      by ih (starts t _ _) (inr (_, q)) = absurd (true≢false (sym t ∙ q.0))
      by ih (takes_it _ q _) (inl w) = absurd (true≢false (sym w.1 ∙ q))
      by ih (takes_it t _ _) (inr (_, q)) = absurd (q.1 t)
      by ih (goes_on_law _ _ up r f) (inl w) = f.asks w.0 (sym f.trigger ∙ l) high (or_second (e n) up (sym r ∙ w.1))
      by ih (goes_on_law _ _ up r f) (inr (w, _)) =
          let g = sym f.trigger ∙ l in
          f.asks (asked_ready n g w) g high (was_high ih up r w g (line_high (here n) k) refl)

  exactly_asks : (n : ℕ) → edge_trigger (here n) ≡ true → (requested (here n) k ≡ true) ↔ ((line_high (here n) k ≡ true) × Since n)
  exactly_asks n g =
      let l : lev (here n).icu ≡ false = not-true (lev (here n).icu) g in (
        λ x. let y : e n ≡ true = rw l at x in ((all_backed n y).2, asking n y),
        λ w. rw l (held_asks n l w.0 w.1),
      )

-- Every board reached.
fresh_backed : (k : ℕ) → k < 8 → Backed fresh_of k
unfolding fresh_of IcuWords.reset_of
fresh_backed k l x = absurd (true≢false (sym x ∙ no_bit k l))

pub reached_backed : {b : Board} → Reached b → (k : ℕ) → k < 8 → Backed b k
unfolding fed_of
reached_backed unfed k l = fresh_backed k l
reached_backed (fed {b = b} t m room h _ g) k l =
    either (λ (f : Fed). Backed f.board k) (taken b t room)
    (λ _. all_backed b (reached_held g) (reached_keeps g).sized k l (reached_backed g k l) m (bytes_of b t) (call_bytes b t (reached_keeps g) h) (count_of b t))
    (λ _. reached_backed g k l)

from_reached : {b : Board} → Reached b → (m s : List ℕ) → Bytes s → (n k : ℕ) → k < 8
    → edge_trigger (found b m s n) ≡ true
    → (requested (found b m s n) k ≡ true)
    ↔ ((line_high (found b m s n) k ≡ true) × (Stands b m s k n ⊎ StillStands b m s k n))
from_reached {b} r m s bytes n k l g =
    exactly_asks b (reached_held r) (reached_keeps r).sized k l (reached_backed r k l) m s bytes n g

from_reset : (m s : List ℕ) → Bytes s → (n k : ℕ) → k < 8
    → edge_trigger (found fresh_of m s n) ≡ true
    → (requested (found fresh_of m s n) k ≡ true) ↔ ((line_high (found fresh_of m s n) k ≡ true) × Stands fresh_of m s k n)
unfolding fresh_of IcuWords.reset_of
from_reset m s bytes n k l g =
    let q = from_reached unfed m s bytes n k l g in (
      λ x. let y = q.0 x in (y.0, only y.1),
      λ w. q.1 (w.0, inl w.1),
    )
  where
    unasked : requested fresh_of k ≡ true → ⊥
    unasked x = true≢false (sym x ∙ rw (no_bit 3 (omega arith), no_bit k l) refl)

    only : Stands fresh_of m s k n ⊎ StillStands fresh_of m s k n → Stands fresh_of m s k n
    only (inl a) = a
    only (inr a) = absurd (unasked a.first)

pub withdrawn : Withdrawn
withdrawn = record { from_reset = from_reset; from_reached = from_reached }
