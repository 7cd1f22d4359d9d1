-- The answer of a unit tells what it should, and its channel stands where it should after it.
use Rattle.tape.specs.declared.Operation.{Operation}
use Rattle.std.specs.Prelude.{Option}
use mathlib.Core.Path.{◌≡◌, refl, sym, ap, ap₂, subst, ◌∙◌}
use mathlib.Core.List.{List}
use mathlib.Core.Logic.{◌≢◌}
use mathlib.Core.Bool.{Bool, true, false, not, true≢false, false≢true}
use Prim.Native.Nat.{ℕ, zero, suc, ◌+◌, ◌/◌, ◌%◌, ◌≤◌, ◌<◌}
use native.Mathlib.Omega.{arith}
use lib.Dec.{eqb, ltb}
use lib.ListN.{get_or, length}
use lib.Seq.{get_or-set_same, get_or-set_other}
use borrow.Author.Tests.{eq-eqb, eqb-true, eqb-false, ne_eqb, ltb-true, ltb-false, lt-ltb, le-ltb}
use Rattle.bits.specs.Choice.{◌and◌, ◌or◌}
use Rattle.std.specs.Prelude.{if◌then◌else◌}
use Rattle.bits.specs.Bits.{bit_of, less}
use Rattle.tape.specs.declared.Operation.TheVariants.{Cycle}
use Rattle.tape.specs.Records.{byte, decode_of}
use Rattle.tape.specs.Answers.{answer_of}
use Rattle.tape.proofs.Decodes.{Decodes, malformed, reset, write, read, intp, gates, requests, slave_intp, acknowledge, advance, cycle, decodes}
use Rattle.dma.specs.declared.Channel.{Channel}
use Rattle.dma.specs.declared.Dma.{Dma}
use Rattle.dma.specs.Fields.{none, span, chan, served, word}
use Rattle.dma.specs.Registers.{unbuilt_mode}
use Rattle.dma.specs.Cycle.{down, auto, writes, reads, in_memory, size_of, start_of, width, place, has_byte, byte_of, memory_of, off_at, outside_of, stepped, last_of, moved_by, moved_of, winner, releases, nothing_of, granted_of, released_of, unit_of, cycle_by}
use Rattle.dma.specs.Cycle as DmaCycle
use Rattle.dma.proofs.Units.{untouched}
use Rattle.board.specs.declared.Board.{Board}
use Rattle.board.specs.Operations.{Outcome, refused, flag_of, cycle_of, cycle_memory}
use Rattle.board.specs.Wiring.{levels_of}
use Rattle.board.specs.Step as Step
use Rattle.board.specs.Step.{execute_of, memory_after, blocked, outcome_of, answered_of, step_of, step_memory}
use Rattle.promises.specs.Words.{reports_unit, channel_in, end_in, address_in, data_in, upper_in, fell_off_in, place_of, onward}
use Rattle.promises.specs.Demand1.{call_bytes, record_of, after_first}
use Rattle.promises.specs.Outside.{Tells, Outside}
use Rattle.promises.proofs.Sound.{Good, Sound}
use Rattle.promises.proofs.Landed.{unit_length, missed, landed}
use Rattle.promises.proofs.Steps.{joined, cycle_answer}
use Rattle.promises.proofs.Runs.{sound, sound_of, reached_sound}
use Rattle.promises.proofs.Demand1.{demand_1}

-- An answer that reports no unit.
quiet : {d d' : Dma} {r m m' a : List ℕ} → reports_unit a ≡ false
    → (get_or a 1 0 ≡ 6 → (data_in a ≡ 0) × (address_in a ≡ 0) × (fell_off_in a ≡ 0) × (upper_in a ≡ 0))
    → (get_or a 1 0 ≡ 6 → (get_or a 14 0 ≡ 0) × (get_or a 15 0 ≡ 0))
    → Tells d d' r m m' a
quiet h z w =
    record {
      whose = λ u. absurd (true≢false (sym u ∙ h));
      set = λ u. absurd (true≢false (sym u ∙ h));
      bit = λ u. absurd (true≢false (sym u ∙ h));
      device = λ u. absurd (true≢false (sym u ∙ h));
      there = λ u. absurd (true≢false (sym u ∙ h));
      stays = λ u. absurd (true≢false (sym u ∙ h));
      long = λ u. absurd (true≢false (sym u ∙ h));
      read = λ u. absurd (true≢false (sym u ∙ h));
      verified = λ u. absurd (true≢false (sym u ∙ h));
      no_upper = λ u. absurd (true≢false (sym u ∙ h));
      end = λ u. absurd (true≢false (sym u ∙ h));
      next = λ u. absurd (true≢false (sym u ∙ h));
      others = λ u. absurd (true≢false (sym u ∙ h));
      no_unit = λ o _. z o;
      no_more = w;
    }

-- A channel writes memory, reads it, or verifies.
moves_bytes : (c : Channel) → unbuilt_mode c.mode ≡ false → eqb (c.mode / 4 % 4) 0 ≡ not (writes c or reads c)
unfolding unbuilt_mode
moves_bytes c h = at (c.mode / 4 % 4) (omega arith) (built (eqb (c.mode / 64) 3) (eqb (c.mode / 4 % 4) 3) (bit_of c.mode 1) h)
  where
    built : (p q r : Bool) → (p or q or r) ≡ false → q ≡ false
    built true q r h = absurd (true≢false h)
    built false true r h = absurd (true≢false h)
    built false false r h = refl

    at : (k : ℕ) → k < 4 → eqb k 3 ≡ false → eqb k 0 ≡ not (eqb k 1 or eqb k 2)
    at zero l b = refl
    at (suc zero) l b = refl
    at (suc (suc zero)) l b = refl
    at (suc (suc (suc zero))) l b = absurd (true≢false b)
    at (suc (suc (suc (suc n)))) l b = absurd (omega (arith, l))

reads_no_write : (c : Channel) → reads c ≡ true → writes c ≡ false
reads_no_write c h = ne_eqb (c.mode / 4 % 4) 1 (omega (arith, eqb-true (c.mode / 4 % 4) 2 h))

both_of : (p q : Bool) → not (p or q) ≡ true → (p ≡ false) × (q ≡ false)
both_of true q h = absurd (false≢true h)
both_of false true h = absurd (false≢true h)
both_of false false h = (refl, refl)

-- The two halves of a unit of channel c: place p is its lower byte's, or of a word its upper one's.
module _ (c : Channel) where
  abbrev A : ℕ
  A = c.current.address

  abbrev Within : ℕ → Type 0
  Within p = start_of (width c) A ≡ start_of (width c) p

  data Half (p : ℕ) : Type 0 where
    lower : p ≡ place c 0 → eqb (p % width c) 0 ≡ true → Half p
    upper : word c ≡ true → p ≡ place c 1 → eqb (p % width c) 0 ≡ false → Half p

  half : (p : ℕ) → Within p → Half p
  half p h = by (word c) refl (eqb (p % width c) 0) refl
    where
      on : (k : Bool) → start_of (size_of k) A ≡ start_of (size_of k) p → p ≡ start_of (size_of k) A + p % size_of k
      on true e = omega arith
      on false e = omega arith

      one : (k : Bool) → p % size_of k ≢ 0 → (k ≡ true) × (p % size_of k ≡ 1)
      one true n = (refl, omega (arith, n))
      one false n = absurd (n (omega arith))

      by : (k : Bool) → word c ≡ k → (q : Bool) → eqb (p % width c) 0 ≡ q → Half p
      by k _ true q = lower (on (word c) h ∙ ap (λ (z : ℕ). start_of (width c) A + z) (eqb-true (p % width c) 0 q)) q
      by k _ false q =
          let o = one (word c) (eqb-false (p % width c) 0 q) in
          upper o.0 (on (word c) h ∙ ap (λ (z : ℕ). start_of (width c) A + z) o.1) q

  has_lower : has_byte c 0 ≡ true
  has_lower = by (word c)
    where
      by : (k : Bool) → ltb 0 (size_of k) ≡ true
      by true = refl
      by false = refl

  has_upper : word c ≡ true → has_byte c 1 ≡ true
  has_upper h = rw h

  -- A place of the unit is in it, and in the address space.
  within : (i : ℕ) → has_byte c i ≡ true → Within (place c i)
  within i h = by (word c) (ltb-true i (width c) h)
    where
      by : (k : Bool) → i < size_of k → start_of (size_of k) A ≡ start_of (size_of k) (start_of (size_of k) A + i)
      by true l = omega arith
      by false l = omega arith

  in_space : A < 16777216 → (i : ℕ) → has_byte c i ≡ true → place c i < 16777216
  in_space g i h = by (word c) (ltb-true i (width c) h)
    where
      by : (k : Bool) → i < size_of k → start_of (size_of k) A + i < 16777216
      by true l = omega arith
      by false l = omega arith

  module _ (m : List ℕ) (g : A < 16777216) where
    abbrev told_at : ℕ → ℕ → ℕ → ℕ
    told_at x y p = if eqb (p % width c) 0 then byte_of c m 0 x else byte_of c m 1 y

    -- What a unit moves at place i, by its direction.
    written : (i v : ℕ) → has_byte c i ≡ true → writes c ≡ true → byte_of c m i v ≡ v
    written i v h w = rw (h, w)

    read_at : (i v : ℕ) → has_byte c i ≡ true → reads c ≡ true → byte_of c m i v ≡ get_or m (place c i) 255
    read_at i v h w = rw (h, reads_no_write c w, w, lt-ltb (place c i) 16777216 (in_space g i h))

    still : (i v : ℕ) → writes c ≡ false → reads c ≡ false → byte_of c m i v ≡ 0
    still i v w r = rw (w, r) (by (has_byte c i))
      where
        by : (q : Bool) → ◌≡◌ {A = ℕ} (if q then 0 else 0) 0
        by true = refl
        by false = refl

    lands : (x y p : ℕ) → writes c ≡ true → Within p → p < length m → get_or (memory_of c m x y) p 0 ≡ told_at x y p
    lands x y p w h l =
        landed c m x y p g l
        ∙ ap₂ (λ (u v : Bool). if u and v then (if eqb (p % width c) 0 then x else y) else get_or m p 0) w (eq-eqb (start_of (width c) A) (start_of (width c) p) h)
        ∙ at (half p h)
      where
        at : Half p → (if eqb (p % width c) 0 then x else y) ≡ told_at x y p
        at (lower _ q) = rw q (sym (written 0 x has_lower w))
        at (upper k _ q) = rw q (sym (written 1 y (has_upper k) w))

    leaves : (x y p : ℕ) → (Within p → writes c ≡ false) → get_or (memory_of c m x y) p 0 ≡ get_or m p 0
    leaves x y p f = at (eqb (start_of (width c) A) (start_of (width c) p)) refl
      where
        at : (q : Bool) → eqb (start_of (width c) A) (start_of (width c) p) ≡ q → get_or (memory_of c m x y) p 0 ≡ get_or m p 0
        at true q = ap (λ (z : List ℕ). get_or z p 0) (sym (untouched c m x y (f (eqb-true _ _ q))))
        at false q = missed c m x y p (eqb-false _ _ q)

    gets : (x y p : ℕ) → reads c ≡ true → Within p → told_at x y p ≡ get_or m p 255
    gets x y p r h = at (half p h)
      where
        at : Half p → told_at x y p ≡ get_or m p 255
        at (lower e q) = rw q (read_at 0 x has_lower r ∙ ap (λ (z : ℕ). get_or m z 255) (sym e))
        at (upper k e q) = rw q (read_at 1 y (has_upper k) r ∙ ap (λ (z : ℕ). get_or m z 255) (sym e))

    -- A byte falls off exactly if its place is past the end, and the channel moves bytes.
    past : (i : ℕ) → has_byte c i ≡ true → in_memory m (place c i) ≡ false → length m ≤ place c i
    past i h q = ltb-false (place c i) (length m) (rw (lt-ltb (place c i) 16777216 (in_space g i h)) at q)

    off : (i : ℕ) → off_at c m i ≡ true → ((p : ℕ) × Within p × (length m ≤ p)) × ((writes c or reads c) ≡ true)
    off i h = by (has_byte c i) (writes c or reads c) (in_memory m (place c i)) refl refl refl h
      where
        by : (p q r : Bool) → has_byte c i ≡ p → (writes c or reads c) ≡ q → in_memory m (place c i) ≡ r → (p and q and not r) ≡ true
            → ((p : ℕ) × Within p × (length m ≤ p)) × ((writes c or reads c) ≡ true)
        by true true true a b d h = absurd (false≢true h)
        by true true false a b d h = ((place c i, within i a, past i a d), b)
        by true false r a b d h = absurd (false≢true h)
        by false q r a b d h = absurd (false≢true h)

    fallen : outside_of c m ≡ true → ((p : ℕ) × Within p × (length m ≤ p)) × ((writes c or reads c) ≡ true)
    fallen h = by (off_at c m 0) (off_at c m 1) refl refl h
      where
        by : (p q : Bool) → off_at c m 0 ≡ p → off_at c m 1 ≡ q → (p or q) ≡ true → ((p : ℕ) × Within p × (length m ≤ p)) × ((writes c or reads c) ≡ true)
        by true q a b h = off 0 a
        by false true a b h = off 1 b
        by false false a b h = absurd (false≢true h)

    falls : (p : ℕ) → Within p → length m ≤ p → (writes c or reads c) ≡ true → outside_of c m ≡ true
    falls p h l w = at (half p h)
      where
        gone : (i : ℕ) → p ≡ place c i → has_byte c i ≡ true → off_at c m i ≡ true
        gone i e k = rw (k, w, le-ltb (place c i) (length m) (omega (arith, sym e, l))) (nowhere (ltb (place c i) 16777216))
          where
            nowhere : (q : Bool) → not (q and false) ≡ true
            nowhere true = refl
            nowhere false = refl

        or_right : (q : Bool) → (q or true) ≡ true
        or_right true = refl
        or_right false = refl

        at : Half p → outside_of c m ≡ true
        at (lower e _) = ap (λ (q : Bool). q or off_at c m 1) (gone 0 e has_lower)
        at (upper k e _) = ap (λ (q : Bool). off_at c m 0 or q) (gone 1 e (has_upper k)) ∙ or_right (off_at c m 0)

-- A unit on, by the chip's own step.
step_on : (a : ℕ) (falls k : Bool) → stepped a falls (size_of k) ≡ place_of a falls (size_of k) 1
step_on a true true = refl
step_on a true false = refl
step_on a false true = refl
step_on a false false = refl

moved_on : (c : Channel) (last : Bool) → (moved_of c last).current ≡ (if eqb (flag_of last) 1 and auto c then c.base else onward c)
unfolding moved_of
moved_on c last = at last (auto c)
  where
    on : DmaCycle.next c ≡ onward c
    on = ap (λ (p : ℕ). span p (less c.current.count)) (step_on c.current.address (down c) (word c))

    at : (l q : Bool) → (moved_by c l q).current ≡ (if eqb (flag_of l) 1 and q then c.base else onward c)
    at true true = refl
    at true false = on
    at false q = on

-- A unit of channel c, by what its answer says.
module _
    (d d' : Dma)
    (r m a : List ℕ)
    (c : Channel)
    (g : Good c)
    (unit : reports_unit a ≡ true)
    (channel : chan d (channel_in a) ≡ c)
    (at_place : address_in a ≡ c.current.address)
    (whose : (channel_in a ≡ d.channel) × (address_in a ≡ (served d).current.address))
    (data_of : data_in a ≡ byte_of c m 0 (byte r 2))
    (upper_of : upper_in a ≡ byte_of c m 1 (byte r 3))
    (Outside-of : fell_off_in a ≡ flag_of (outside_of c m))
    (last : Bool)
    (last_of_law : last ≡ (eqb c.current.count 0 or eqb (byte r 1) 1))
    (end_of_lem : end_in a ≡ flag_of last)
    (moved-of : chan d' (channel_in a) ≡ moved_of c last)
    (others-of : (k : ℕ) → k ≢ channel_in a → chan d' k ≡ chan d k)
    (no_more_of : (get_or a 14 0 ≡ 0) × (get_or a 15 0 ≡ 0)) where
  flag_one : (q : Bool) → flag_of q ≡ 1 → q ≡ true
  flag_one true h = refl
  flag_one false h = absurd (omega (arith, h))

  flag_small : (q : Bool) → flag_of q ≤ 1
  flag_small true = omega arith
  flag_small false = omega arith

  verify_not : (writes c or reads c) ≡ true → eqb (c.mode / 4 % 4) 0 ≡ false
  verify_not w = moves_bytes c g.built ∙ ap not w

  not_verify : eqb (c.mode / 4 % 4) 0 ≡ false → (writes c or reads c) ≡ true
  not_verify v = by (writes c or reads c) (sym (moves_bytes c g.built) ∙ v)
    where
      by : (q : Bool) → not q ≡ false → q ≡ true
      by true h = refl
      by false h = absurd (true≢false h)

  abbrev x : ℕ
  x = byte r 2

  abbrev y : ℕ
  y = byte r 3

  two_bytes : width c ≡ 2 → word c ≡ true
  two_bytes h = by (word c) h
    where
      by : (k : Bool) → size_of k ≡ 2 → k ≡ true
      by true e = refl
      by false e = absurd (omega (arith, e))

  unit_tells : Tells d d' r m (memory_of c m x y) a
  unit_tells =
      record {
        whose = λ _. whose;
        set = λ _.
            rw (channel, at_place, Outside-of) (
              λ o. let f = fallen c m g.address (flag_one (outside_of c m) o) in (f.0, verify_not f.1),
              λ q. ap flag_of (falls c m g.address q.0.0 q.0.1 q.0.2 (not_verify q.1)),
            );
        bit = λ _. rw Outside-of (flag_small (outside_of c m));
        device = λ _.
            rw (channel, data_of, upper_of)
            (λ w. (written c m g.address 0 x (has_lower c) w, λ k. written c m g.address 1 y (has_upper c (two_bytes k)) w));
        there = λ _. rw (channel, at_place, data_of, upper_of) (λ w p h l. lands c m g.address x y p w h l);
        stays = λ _. rw (channel, at_place) (λ p f. leaves c m g.address x y p f);
        long = λ _. unit_length c m x y;
        read = λ _. rw (channel, at_place, data_of, upper_of) (λ r p h. gets c m g.address x y p r h);
        verified = λ _.
            rw (channel, data_of, upper_of)
            (λ v. let n = both_of (writes c) (reads c) (sym (moves_bytes c g.built) ∙ v) in (still c m g.address 0 x n.0 n.1, still c m g.address 1 y n.0 n.1));
        no_upper = λ _. rw (channel, upper_of) (λ n. rw n);
        end = λ _. rw channel (end_of_lem ∙ ap flag_of last_of_law);
        next = λ _. rw (moved-of, channel, end_of_lem) (moved_on c last);
        others = λ _. others-of;
        no_unit = λ _ h. absurd (true≢false (sym unit ∙ h));
        no_more = λ _. no_more_of;
      }

-- A bus cycle.
cycle_tells : (d : Dma) (r m : List ℕ) (l : ℕ) → Sound d
    → let out = DmaCycle.cycle_of d (eqb (byte r 1) 1) (byte r 2) (byte r 3) m in Tells d out.dma r m out.memory (cycle_answer l out.report)
unfolding DmaCycle.cycle_of nothing_of granted_of released_of unit_of answer_of
cycle_tells d r m l s = at d.serving (releases d) d.disabled (eqb (winner d) 4)
  where
    e : Bool
    e = eqb (byte r 1) 1

    last : Bool
    last = last_of (served d) e

    low : d.channel < length d.channels
    low = rw s.four s.channel

    at : (v q k w : Bool)
        → Tells d (cycle_by d e (byte r 2) (byte r 3) m v q k w).dma r m (cycle_by d e (byte r 2) (byte r 3) m v q k w).memory
        (cycle_answer l (cycle_by d e (byte r 2) (byte r 3) m v q k w).report)
    at true true k w = quiet refl (λ _. (refl, refl, refl, refl)) (λ _. (refl, refl))
    at true false k w =
        let p = joined (served d).current.address (s.good d.channel).address in
        unit_tells d (cycle_by d e (byte r 2) (byte r 3) m true false k w).dma r m (cycle_answer l (cycle_by d e (byte r 2) (byte r 3) m true false k w).report) (served d)
        (s.good d.channel)
        refl
        refl
        p
        (refl, p)
        refl
        refl
        refl
        last
        refl
        refl
        (get_or-set_same d.channels d.channel (moved_of (served d) last) none low)
        (λ n h. get_or-set_other d.channels d.channel n (moved_of (served d) last) none h)
        (refl, refl)
    at false q true w = quiet refl (λ _. (refl, refl, refl, refl)) (λ _. (refl, refl))
    at false q false true = quiet refl (λ _. (refl, refl, refl, refl)) (λ _. (refl, refl))
    at false q false false = quiet refl (λ _. (refl, refl, refl, refl)) (λ _. (refl, refl))

-- Any record: one that is no cycle has another operation, and one that is refused no payload.
module _ (b : Board) (r m : List ℕ) where
  abbrev told : Outcome → List ℕ
  told o = answer_of o.status (byte r 0) o.byte (levels_of o.board) o.payload

  other : (n : ℕ) → eqb (byte r 0) n ≡ true → n ≢ 6 → (o : Outcome) (m' : List ℕ) → Tells b.dma o.board.dma r m m' (told o)
  unfolding answer_of
  other n q h o m' =
      let six : byte r 0 ≢ 6 = λ e. h (sym (eqb-true (byte r 0) n q) ∙ e) in
      quiet (none (eqb o.status 0) (ne_eqb (byte r 0) 6 six)) (λ e. absurd (six e)) (λ e. absurd (six e))
    where
      none : (u : Bool) → eqb (byte r 0) 6 ≡ false → (u and eqb (byte r 0) 6 and eqb (get_or o.payload 0 0) 2) ≡ false
      none true e = rw e
      none false e = refl

  by : (x : Option Operation) → Sound b.dma → Decodes r x → Tells b.dma (outcome_of b x m).board.dma r m (Step.memory_of b x m) (told (outcome_of b x m))
  unfolding outcome_of Step.memory_of execute_of memory_after cycle_of cycle_memory answer_of
  by x s malformed = quiet refl (λ _. (refl, refl, refl, refl)) (λ _. (refl, refl))
  by x s (reset o) = other 0 o (omega arith) (outcome_of b x m) (Step.memory_of b x m)
  by x s (write o p) = other 1 o (omega arith) (outcome_of b x m) (Step.memory_of b x m)
  by x s (read o p) = other 2 o (omega arith) (outcome_of b x m) (Step.memory_of b x m)
  by x s (intp o l) = other 3 o (omega arith) (outcome_of b x m) (Step.memory_of b x m)
  by x s (gates o l) = other 3 o (omega arith) (outcome_of b x m) (Step.memory_of b x m)
  by x s (requests o l) = other 3 o (omega arith) (outcome_of b x m) (Step.memory_of b x m)
  by x s (slave_intp o) = other 3 o (omega arith) (outcome_of b x m) (Step.memory_of b x m)
  by x s (acknowledge o) = other 4 o (omega arith) (outcome_of b x m) (Step.memory_of b x m)
  by x s (advance o l) = other 5 o (omega arith) (outcome_of b x m) (Step.memory_of b x m)
  by x s (cycle o) = at (blocked b (Cycle (eqb (byte r 1) 1) (byte r 2) (byte r 3)))
    where
      outcome : Bool → Outcome
      outcome q = if q then refused 1 b else cycle_of b (eqb (byte r 1) 1) (byte r 2) (byte r 3) m

      at : (q : Bool)
          → Tells b.dma (outcome q).board.dma r m (if q then m else cycle_memory b (eqb (byte r 1) 1) (byte r 2) (byte r 3) m) (told (outcome q))
      at true = quiet refl (λ _. (refl, refl, refl, refl)) (λ _. (refl, refl))
      at false = rw (eqb-true (byte r 0) 6 o) (cycle_tells b.dma r m _ s)

  step_tells : Sound b.dma → Tells b.dma (step_of b r m).board.dma r m (step_memory b r m) (step_of b r m).answer
  unfolding step_of step_memory answered_of
  step_tells s = by (decode_of r) s (decodes r)

pub outside : Outside
outside =
    record {
      told = λ {b} h m r. step_tells b r m (reached_sound h);
      in_range_law = λ b h t m r. step_tells b r m (sound_of b t h);
      of_calls = λ {b} h tape m buffer q i l.
          let t = (demand_1.of_call b tape m buffer).taken_call q in
          let c = after_first b tape m i in
          let r = record_of b tape i in
          subst (Tells c.board.dma (after_first b tape m (suc i)).board.dma r c.memory (after_first b tape m (suc i)).memory) (sym (t.answer i l))
          (subst (λ (b' : Board). Tells c.board.dma b'.dma r c.memory (after_first b tape m (suc i)).memory (step_of c.board r c.memory).answer)
          (sym (t.goes_on_law i).0)
          (subst (λ (m' : List ℕ). Tells c.board.dma (step_of c.board r c.memory).board.dma r c.memory m' (step_of c.board r c.memory).answer)
          (sym (t.goes_on_law i).1)
          (step_tells c.board r c.memory (sound b m (call_bytes b tape) i (reached_sound h)))));
    }
