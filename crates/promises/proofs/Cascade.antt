-- The slave on line 7.
use mathlib.Core.Path.{◌≡◌, refl, sym, ap, subst, ◌∙◌}
use mathlib.Core.Logic.{◌↔◌, ◌≢◌}
use mathlib.Core.List.{List}
use mathlib.Core.Bool.{Bool, true, false, not}
use Prim.Native.Nat.{ℕ, zero, suc, ◌+◌, ◌<◌}
use native.Mathlib.Omega.{arith}
use lib.Bits.{bit_or}
use lib.Dec.{T, eqb}
use borrow.Author.Tests.{eqb-true, eq-eqb, ne_eqb}
use Rattle.bits.specs.Choice.{◌and◌, ◌or◌, every}
use Rattle.std.specs.Prelude.{if◌then◌else◌}
use Rattle.bits.specs.Bits.{bit_of, with_of, without_of, masked_of}
use Rattle.bits.proofs.Every.{below}
use Rattle.tape.specs.declared.Operation.TheVariants.{Write, SlaveIntp, Acknowledge}
use Rattle.tape.specs.Records.{unused, writable, lines_asked, decode_of}
use Rattle.icu.specs.declared.Icu.{Icu}
use Rattle.icu.specs.Fields.{edges_is}
use Rattle.icu.specs.Answers.{Told}
use Rattle.icu.specs.Words as IcuWords
use Rattle.icu.specs.Words.{ready, lev}
use Rattle.icu.specs.Requests.{irr_of, asked_of, int_of, rises, falls, lines_of}
use Rattle.icu.specs.Service.{takes, served_of, naming}
use Rattle.cascade.specs.Cascade.{slave_iw3, joined_of, answerer_of, answered, together, passed_on}
use Rattle.timer.specs.declared.Timer.{Timer}
use Rattle.timer.specs.Timer.{at, pulses_of}
use Rattle.board.specs.declared.Board.{Board}
use Rattle.board.specs.declared.Stepped.{Stepped}
use Rattle.board.specs.Operations.{Outcome, a0, done, refused, told_with, slave_lines, slave_written, slave_tells, slave_gives, acknowledge_of, write_of}
use Rattle.board.specs.Wiring.{icu_is, slave_is, lines_by, joined, lines, lines_at, int, followed}
use Rattle.board.specs.Advance.{tick_of, advanced_of, advance_of}
use Rattle.board.specs.Step.{execute_of, memory_after, blocked, outcome_of, memory_of, answered_of, step_of, step_memory}
use Rattle.tape.proofs.Decodes.{either}
use Rattle.promises.specs.Records.{writing, setting, acknowledging, advancing}
use Rattle.promises.specs.Words.{Highest, line_high, requested, asked_for}
use Rattle.promises.specs.Reached.{Reached, Typed}
use Rattle.promises.specs.Table.{extended, unanswered}
use Rattle.promises.specs.Meant.{Names, Outranking}
use Rattle.promises.specs.Cascade.{slave_int, slave_asked, Passes, MayChangeSlave, MasterKept, Cascade}
use Rattle.promises.proofs.Logic.{both_left, both_right, or_false, T_true}
use Rattle.promises.proofs.BoardKept.{reached_held}
use Rattle.promises.proofs.Sizes.{Sized, served_small, joined_small, lines_small, reached_keeps}
use Rattle.promises.proofs.Advances.{advance_board}
use Rattle.promises.proofs.Requested.{Fit, reached_fit, line_bit, joined_line, asked_bit, masked_bit, int_by_rank, edged, same_edge, edge_bit, unready_lines, level_lines}
use Rattle.promises.proofs.SetUps.{in_turn, both_answer, passed_by, passes}
use Rattle.promises.proofs.Taken.{told_high, told_low, named_icu, acknowledged, served_edges, served_isr, served_lowest, named_so, highest_taken, takes_highest, highest_asked, memory_left}
use Rattle.promises.proofs.Withdrawn.{reached_backed}
use Rattle.promises.proofs.OneChip.{one_chip, one_chip_fresh}
use Rattle.promises.proofs.SlaveKept.{slave_kept}

-- The lines of the master.
line_7 : (b : Board) → b.intp < 256 → line_high b 7 ≡ (bit_of b.intp 7 or slave_int b)
line_7 b h = joined_line b.intp b.slave b.slaveintp 7 h (omega arith)

other_line : (b : Board) → b.intp < 256 → (k : ℕ) → k < 8 → k ≢ 7 → bit_of (joined b) k ≡ bit_of b.intp k
other_line b h k l ne =
    joined_line b.intp b.slave b.slaveintp k h l ∙ rw (ne_eqb k 7 ne) (or_false (bit_of b.intp k))

other_lines : (b : Board) → b.intp < 256 → (k : ℕ) → k < 7 → k ≢ 0 → line_high b k ≡ bit_of b.intp k
other_lines b h k l ne = rw (ne_eqb k 0 ne) (other_line b h k (omega arith) (λ e. omega (arith, e, l)))

-- A change of lines leaves all of a chip but its requests.
lines_leave : (c : Icu) (was now : ℕ) → lines_of c was now ≡ edges_is (lines_of c was now).edges c
unfolding lines_of
lines_leave c was now =
    either (λ (d : Icu). d ≡ edges_is d.edges c) (ready c)
    (λ _. either (λ (d : Icu). d ≡ edges_is d.edges c) (lev c) (λ _. refl) (λ _. refl))
    (λ _. refl)

-- The request of level k once the lines went from some levels to others.
module _ (c : Icu) (was now k : ℕ) (hw : was < 256) (hn : now < 256) (low : k < 8) where
  request_after : (p q : Bool) → ready c ≡ p → lev c ≡ q
      → bit_of (lines_of c was now).edges k ≡ (if p and not q then edged (bit_of c.edges k) (bit_of was k) (bit_of now k) else bit_of c.edges k)
  request_after true false p q = edge_bit c was now hn k hw low p q
  request_after true true p q = ap (λ (i : Icu). bit_of i.edges k) (level_lines c was now hn q)
  request_after false q p _ = ap (λ (i : Icu). bit_of i.edges k) (unready_lines c was now hn p)

  request_stays : bit_of now k ≡ bit_of was k → bit_of (lines_of c was now).edges k ≡ bit_of c.edges k
  request_stays e = by (ready c) (lev c) refl refl
    where
      by : (p q : Bool) → ready c ≡ p → lev c ≡ q → bit_of (lines_of c was now).edges k ≡ bit_of c.edges k
      by true false p q = request_after true false p q ∙ rw e (same_edge (bit_of c.edges k) (bit_of was k))
      by true true p q = request_after true true p q
      by false q p s = request_after false q p s

-- Pulses: of the lines, line 0 alone moves.
pulses_keep : (j : ℕ) → j < 256 → (t : Timer) (c : Icu) (n k : ℕ) → k < 8 → k ≢ 0 → bit_of (advanced_of j t c n).icu.edges k ≡ bit_of c.edges k
unfolding advanced_of tick_of
pulses_keep j h t c zero k l ne = refl
pulses_keep j h t c (suc n) k l ne =
    let r = advanced_of j t c n in
    request_stays r.icu (lines_at j r.timer) (lines_at j (pulses_of r.timer)) k (lines_small j r.timer h) (lines_small j (pulses_of r.timer) h) l
    (line (pulses_of r.timer) ∙ sym (line r.timer))
    ∙ pulses_keep j h t c n k l ne
  where
    line : (u : Timer) → bit_of (lines_at j u) k ≡ bit_of j k
    line u = line_bit j k u h l ∙ rw (ne_eqb k 0 ne)

line_7_pulse : (b : Board) → Typed b → (m : List ℕ) (n : ℕ) → n < 65536
    → let d = (step_of b (advancing n) m).board in
    (d.slave ≡ b.slave)
    × (d.slaveintp ≡ b.slaveintp)
    × (d.intp ≡ b.intp)
    × (line_high d 7 ≡ (bit_of b.intp 7 or slave_int b))
    × ((k : ℕ) → k < 8 → k ≢ 0 → bit_of d.icu.edges k ≡ bit_of b.icu.edges k)
unfolding advance_of
line_7_pulse b t m n h =
    let e = advance_board b m n h in (
      ap (λ (d : Board). d.slave) e,
      ap (λ (d : Board). d.slaveintp) e,
      ap (λ (d : Board). d.intp) e,
      ap (λ (d : Board). line_high d 7) e ∙ line_7 b t.intp,
      λ k l ne.
          ap (λ (d : Board). bit_of d.icu.edges k) e
          ∙ pulses_keep (joined b) (joined_small b.intp b.slave b.slaveintp t.intp) b.timer b.icu n k l ne,
    )

-- Line 7 was high, and goes to any level: nothing rises, and of the falls there is that of line 7 at the most. It takes no other request with it.
abbrev wired : Bool → Bool → ℕ → ℕ
wired p o i = lines_by (if p then with_of i 7 else i) o

abbrev only_7 : Bool → Bool → Bool → ℕ → Bool
only_7 p q o i =
    if bit_of i 7 or p then eqb (rises (wired p o i) (wired q o i)) 0 and (eqb (falls (wired p o i) (wired q o i)) 0 or eqb (falls (wired p o i) (wired q o i)) 128)
    else true

only_7_each : (p q o : Bool) → T (every (only_7 p q o) 256)
unfolding masked_of with_of without_of bit_of every
only_7_each true true true = tt
only_7_each true true false = tt
only_7_each true false true = tt
only_7_each true false false = tt
only_7_each false true true = tt
only_7_each false true false = tt
only_7_each false false true = tt
only_7_each false false false = tt

abbrev taken_off : ℕ → Bool
taken_off e = if bit_of e 7 then true else eqb (masked_of (bit_or e 0) 0) e and eqb (masked_of (bit_or e 0) 128) e

taken_off_each : T (every taken_off 256)
unfolding masked_of bit_of every
taken_off_each = tt

settled : (i e : ℕ) (p q o : Bool) → i < 256 → e < 256 → (bit_of i 7 or p) ≡ true → bit_of e 7 ≡ false
    → masked_of (bit_or e (rises (wired p o i) (wired q o i))) (falls (wired p o i) (wired q o i)) ≡ e
settled i e p q o hi he high clear =
    let x = rw high at (T_true (only_7 p q o i) (below (only_7 p q o) 256 (only_7_each p q o) i hi)) in
    let y = rw clear at (T_true (taken_off e) (below taken_off 256 taken_off_each e he)) in
    let r = rises (wired p o i) (wired q o i) in
    let f = falls (wired p o i) (wired q o i) in
    rw (eqb-true r 0 (both_left (eqb r 0) (eqb f 0 or eqb f 128) x))
    (by (eqb f 0) refl (both_right (eqb r 0) (eqb f 0 or eqb f 128) x) y)
  where
    by : (v : Bool)
        → eqb (falls (wired p o i) (wired q o i)) 0 ≡ v
        → (v or eqb (falls (wired p o i) (wired q o i)) 128) ≡ true
        → (eqb (masked_of (bit_or e 0) 0) e and eqb (masked_of (bit_or e 0) 128) e) ≡ true
        → masked_of (bit_or e 0) (falls (wired p o i) (wired q o i)) ≡ e
    by true v _ y =
        rw (eqb-true (falls (wired p o i) (wired q o i)) 0 v) (eqb-true (masked_of (bit_or e 0) 0) e (both_left (eqb (masked_of (bit_or e 0) 0) e) (eqb (masked_of (bit_or e 0) 128) e) y))
    by false v w y =
        rw (eqb-true (falls (wired p o i) (wired q o i)) 128 w) (eqb-true (masked_of (bit_or e 0) 128) e (both_right (eqb (masked_of (bit_or e 0) 0) e) (eqb (masked_of (bit_or e 0) 128) e) y))

-- What the slave is asked for, level by level.
slave_bit : (b : Board) → b.slave.imr < 256 → (k : ℕ) → k < 8 → bit_of (asked_of b.slave b.slaveintp) k ≡ slave_asked b k
unfolding asked_of irr_of
slave_bit b h k l =
    masked_bit (irr_of b.slave b.slaveintp) b.slave.imr k h l
    ∙ ap (λ (q : Bool). q and not (bit_of b.slave.imr k)) (go (lev b.slave))
  where
    go : (q : Bool) → bit_of (if q then b.slaveintp else b.slave.edges) k ≡ (if q then bit_of b.slaveintp k else bit_of b.slave.edges k)
    go true = refl
    go false = refl

-- An acknowledge that is passed on.
module _ (b : Board) (m : List ℕ) (free : b.dma.serving ≡ false) (passed : passed_on b.icu (lines b) b.slave ≡ true) where
  stepped : step_of b acknowledging m ≡ answered_of 4 (slave_gives b)
  unfolding acknowledge_of
  stepped = acknowledged b m free ∙ ap (answered_of 4) (rw passed)

  -- the board but for the master, and the board
  abbrev rest : Board
  rest = slave_is (slave_tells b).icu b.slaveintp (icu_is (served_of b.icu 7) b)

  board_passed : (step_of b acknowledging m).board ≡ followed b rest
  unfolding answered_of slave_gives
  board_passed = ap (λ (s : Stepped). s.board) stepped

  slave_set : ready b.slave ≡ true
  slave_set = both_left (ready b.slave) _ (both_answer b (passed_by b.icu (lines b) b.slave passed).0).1

  -- what the slave tells is answered
  names_passed : (n : ℕ) → n < 8 → (d : Icu) → slave_tells b ≡ naming b.slave n d → Names b.slave b m n
  unfolding slave_gives
  names_passed n l d e =
      named_so b m b.slave n l d (followed b rest)
      (stepped ∙ ap (λ (t : Told). answered_of 4 (told_with (followed b rest) t)) e)

  slave_passed : (n : ℕ) (d : Icu) → slave_tells b ≡ naming b.slave n d → (step_of b acknowledging m).board.slave ≡ d
  slave_passed n d e = ap (λ (x : Board). x.slave) board_passed ∙ ap (λ (t : Told). t.icu) e ∙ named_icu b.slave n d

-- A level that is taken leaves IW1.
served_iw1 : (c : Icu) (n : ℕ) → (served_of c n).iw1 ≡ c.iw1
unfolding served_of
served_iw1 c n =
    either (λ (d : Icu). d.iw1 ≡ c.iw1) c.sfi (λ _. either (λ (d : Icu). d.iw1 ≡ c.iw1) c.rotation (λ _. refl) (λ _. refl)) (λ _. refl)

module _ (b : Board) (f : Fit b) (back : bit_of b.icu.edges 7 ≡ true → line_high b 7 ≡ true) (first : Highest (asked_for b) b.icu.lowest 7) (s : Icu) where
  abbrev served : Icu
  served = served_of b.icu 7

  abbrev end : Board
  end = slave_is s b.slaveintp (icu_is served b)

  seven : 7 < 8
  seven = omega arith

  clear : bit_of served.edges 7 ≡ false
  clear = served_edges b.icu 7 seven f.edges 7 seven ∙ none (bit_of b.icu.edges 7)
    where
      none : (q : Bool) → (q and not (eqb 7 7)) ≡ false
      none true = refl
      none false = refl

  -- in edge trigger the request that was taken was backed by its line
  was_high : lev served ≡ false → (bit_of b.intp 7 or slave_int b) ≡ true
  was_high q =
      let g : lev b.icu ≡ false = ap (λ (x : ℕ). bit_of x 3) (sym (served_iw1 b.icu 7)) ∙ q in
      sym (line_7 b f.intp) ∙ back (rw g at (both_left (requested b 7) (not (bit_of b.icu.imr 7)) first.chosen))

  -- The master that has served level 7 sees its lines move, and stays.
  serves_still : served.edges < 256 → lines_of served (lines b) (lines end) ≡ served
  unfolding lines_of lines_at joined_of
  serves_still small = by (ready served) (lev served) refl
    where
      e : ℕ
      e = masked_of (bit_or served.edges (rises (lines b) (lines end))) (falls (lines b) (lines end))

      by : (p q : Bool) → lev served ≡ q → (if p then (if q then served else edges_is e served) else served) ≡ served
      by true true q = refl
      by true false q =
          ap (λ (x : ℕ). edges_is x served)
          (settled b.intp served.edges (slave_int b) (int_of s b.slaveintp) (at b.timer 0).out f.intp small (was_high q) clear)
      by false q _ = refl

passed_on_law : {b : Board} → Reached b → (m : List ℕ) → b.dma.serving ≡ false → unanswered b ≡ false → extended b.icu ≡ true → int b ≡ true
    → Highest (asked_for b) b.icu.lowest 7
    → Passes b m
passed_on_law {b} r m free turn ext high first =
    let c = b.icu in
    record {
      master = master;
      master_isr = λ k h. ap (λ (x : Icu). bit_of x.isr k) master ∙ served_isr c 7 seven_8 f.isr k h;
      master_lowest = ap (λ (x : Icu). x.lowest) master ∙ served_lowest c 7 seven_8;
      master_request = ap (λ (x : Icu). bit_of x.edges 7) master ∙ clear b f back first (slave_tells b).icu;
      offers = λ h.
          let q = highest_taken b.slave b.slaveintp (slave_asked b) (reached_held r).slave.lowest (slave_bit b z.slave.2) h in
          let told : slave_tells b ≡ naming b.slave q.0 (served_of b.slave q.0) =
          told_high b.slave b.slaveintp (slave_set b m free passed) h ∙ ap (λ (i : ℕ). naming b.slave i (served_of b.slave i)) q.2 in (
            q.0,
            q.1,
            names_passed b m free passed q.0 q.1.level (served_of b.slave q.0) told,
            slave_passed b m free passed q.0 (served_of b.slave q.0) told,
          );
      idle = λ h.
          let told = told_low b.slave b.slaveintp (slave_set b m free passed) h in (
            names_passed b m free passed 7 seven_8 b.slave told,
            slave_passed b m free passed 7 b.slave told,
          );
      lines = (ap (λ (x : Board). x.intp) at_end, ap (λ (x : Board). x.slaveintp) at_end);
      others = (ap (λ (x : Board). x.timer) at_end, ap (λ (x : Board). x.dma) at_end);
      memory = memory_left b m;
    }
  where
    f : Fit b
    f = reached_fit r

    z : Sized b
    z = (reached_keeps r).sized

    seven_8 : 7 < 8
    seven_8 = omega arith

    takes_7 : takes b.icu (lines b) ≡ 7
    takes_7 = takes_highest b.icu (lines b) (asked_for b) f.lowest (asked_bit b f) 7 first

    passed : passed_on b.icu (lines b) b.slave ≡ true
    passed = passes b.icu (lines b) b.slave ((in_turn b turn).2 ∙ ext) high (eq-eqb (takes b.icu (lines b)) 7 takes_7)

    at_end : (step_of b acknowledging m).board ≡ followed b (rest b m free passed)
    at_end = board_passed b m free passed

    back : bit_of b.icu.edges 7 ≡ true → line_high b 7 ≡ true
    back h = (reached_backed r 7 seven_8 h).2

    master : (step_of b acknowledging m).board.icu ≡ served_of b.icu 7
    master = ap (λ (x : Board). x.icu) at_end ∙ serves_still b f back first (slave_tells b).icu (served_small b.icu z.icu 7).3

-- What it takes for an acknowledge to change the slave.
slave_only_if : {b : Board} → Reached b → (m : List ℕ) → (step_of b acknowledging m).board.slave ≢ b.slave → MayChangeSlave b
unfolding step_of answered_of decode_of unused outcome_of execute_of acknowledge_of slave_gives
slave_only_if {b} r m =
    either P (blocked b Acknowledge) (λ _ ne. absurd (ne refl))
    (λ _. either P (passed_on b.icu (lines b) b.slave) (λ p. reaches p)
    (λ _. either P (answered b.icu b.slave) (λ _ ne. absurd (ne refl)) (λ _ ne. absurd (ne refl))))
  where
    P : Outcome → Type 0
    P o = o.board.slave ≢ b.slave → MayChangeSlave b

    reaches : passed_on b.icu (lines b) b.slave ≡ true → (slave_tells b).icu ≢ b.slave → MayChangeSlave b
    reaches p ne = by (slave_int b) refl
      where
        both_do : (together (answerer_of b.icu b.slave) ≡ true) × (int_of b.icu (lines b) ≡ true) × (takes b.icu (lines b) ≡ 7)
        both_do = passed_by b.icu (lines b) b.slave p

        chips : (extended b.icu ≡ true) × (extended b.slave ≡ true) × (unanswered b ≡ false)
        chips = both_answer b both_do.0

        by : (q : Bool) → slave_int b ≡ q → MayChangeSlave b
        by true h =
            let x = highest_asked b (reached_fit r) both_do.1 in
            record {
              master_extended = chips.0;
              slave_extended = chips.1;
              master_high = both_do.1;
              level_7 = subst (Highest (asked_for b) b.icu.lowest) (sym x.2 ∙ both_do.2) x.1;
              slave_high = h;
            }
        by false h =
            absurd
            (ne (ap (λ (t : Told). t.icu) (told_low b.slave b.slaveintp (both_left (ready b.slave) _ chips.1) h) ∙ named_icu b.slave 7 b.slave))

-- The slave's INT, and its requests by its lines.
slave_int_law : {b : Board} → Reached b → (slave_int b ≡ true) ↔ ((b.slave.stage ≡ 3) × Outranking (slave_asked b) b.slave)
slave_int_law {b} r =
    int_by_rank b.slave b.slaveintp (slave_asked b) (reached_held r).slave.lowest (slave_bit b (reached_keeps r).sized.slave.2)

-- Lines of group 3 are taken, whoever has the bus.
set_slave : (b : Board) (m : List ℕ) (l : ℕ) → (step_of b (setting 3 l) m).board ≡ followed b (slave_lines b l)
unfolding step_of answered_of decode_of unused lines_asked outcome_of execute_of blocked
set_slave b m l = go b.dma.serving
  where
    go : (q : Bool) → (if q and false then refused 1 b else done (followed b (slave_lines b l))).board ≡ followed b (slave_lines b l)
    go true = refl
    go false = refl

slave_lines_law : {b : Board} → Reached b → (m : List ℕ) (l k : ℕ) → l < 256 → k < 8 → b.slave.stage ≡ 3 → bit_of b.slave.iw1 3 ≡ false
    → bit_of (step_of b (setting 3 l) m).board.slave.edges k
    ≡ ((bit_of b.slave.edges k or (bit_of l k and not (bit_of b.slaveintp k))) and not (bit_of b.slaveintp k and not (bit_of l k)))
slave_lines_law {b} r m l k hl hk set edge =
    ap (λ (d : Board). bit_of d.slave.edges k) (set_slave b m l)
    ∙ edge_bit b.slave b.slaveintp l hl k (reached_keeps r).sized.slaveintp hk (eq-eqb b.slave.stage 3 set) edge

-- What is not the slave's, after a record that is: the board is as it was, or the master has followed.
record Kept (b d : Board) : Type 0 where
  master : d.icu ≡ edges_is d.icu.edges b.icu
  requests : (k : ℕ) → k < 7 → bit_of d.icu.edges k ≡ bit_of b.icu.edges k
  intp : d.intp ≡ b.intp
  others : (d.timer ≡ b.timer) × (d.dma ≡ b.dma)

module _ (b : Board) (f : Fit b) where
  abbrev U : Outcome → Type 0
  U o = Kept b o.board

  itself : Kept b b
  itself = record { master = refl; requests = λ k l. refl; intp = refl; others = (refl, refl) }

  followed_kept : (s : Icu) (x : ℕ) → Kept b (followed b (slave_is s x b))
  followed_kept s x =
      record {
        master = lines_leave b.icu (lines b) (lines d);
        requests = λ k l. request_stays b.icu (lines b) (lines d) k (lines_small (joined b) b.timer f.wires) (lines_small (joined d) b.timer wires) (omega arith)
            (line_bit (joined d) k b.timer wires (omega arith)
            ∙ ap (λ (q : Bool). if eqb k 0 then (at b.timer 0).out else q)
            (other_line d f.intp k (omega arith) (λ e. omega (arith, e, l)) ∙ sym (other_line b f.intp k (omega arith) (λ e. omega (arith, e, l))))
            ∙ sym (line_bit (joined b) k b.timer f.wires (omega arith)));
        intp = refl;
        others = (refl, refl);
      }
    where
      d : Board
      d = slave_is s x b

      wires : joined d < 256
      wires = joined_small b.intp s x f.intp

  written_kept : (k : Bool) (x : ℕ) → U (slave_written b k x)
  unfolding slave_written
  written_kept k x =
      either U (eqb (IcuWords.write_of b.slave slave_iw3 k x).status 0) (λ _. followed_kept (IcuWords.write_of b.slave slave_iw3 k x).icu b.slaveintp) (λ _. itself)

  step_written : (m : List ℕ) (a x : ℕ) → a < 2 → Kept b (step_of b (writing (48 + a) x) m).board
  unfolding step_of answered_of decode_of unused writable outcome_of execute_of write_of
  step_written m zero x l = either U (blocked b (Write 48 x)) (λ _. itself) (λ _. written_kept (a0 48) x)
  step_written m (suc zero) x l = either U (blocked b (Write 49 x)) (λ _. itself) (λ _. written_kept (a0 49) x)
  step_written m (suc (suc a)) x l = absurd (omega arith)

written_memory : (b : Board) (m : List ℕ) (a x : ℕ) → a < 2 → step_memory b (writing (48 + a) x) m ≡ m
unfolding step_memory decode_of unused writable memory_of memory_after
written_memory b m zero x l = either (λ (y : List ℕ). y ≡ m) (blocked b (Write 48 x)) (λ _. refl) (λ _. refl)
written_memory b m (suc zero) x l = either (λ (y : List ℕ). y ≡ m) (blocked b (Write 49 x)) (λ _. refl) (λ _. refl)
written_memory b m (suc (suc a)) x l = absurd (omega arith)

lined_memory : (b : Board) (m : List ℕ) (l : ℕ) → step_memory b (setting 3 l) m ≡ m
unfolding step_memory decode_of unused lines_asked memory_of memory_after
lined_memory b m l = either (λ (y : List ℕ). y ≡ m) (blocked b (SlaveIntp l)) (λ _. refl) (λ _. refl)

slave_written_law : {b : Board} → Reached b → (m : List ℕ) (a x : ℕ) → a < 2 → x < 256 → MasterKept b (writing (48 + a) x) m
slave_written_law {b} r m a x l h =
    let u = step_written b (reached_fit r) m a x l in
    record { master = u.master; requests = u.requests; intp = u.intp; others = u.others; memory = written_memory b m a x l }

slave_lined : {b : Board} → Reached b → (m : List ℕ) (l : ℕ) → l < 256 → MasterKept b (setting 3 l) m
slave_lined {b} r m l h =
    let u = subst (Kept b) (sym (set_slave b m l)) (followed_kept b (reached_fit r) (lines_of b.slave b.slaveintp l) l) in
    record { master = u.master; requests = u.requests; intp = u.intp; others = u.others; memory = lined_memory b m l }

pub cascade : Cascade
cascade =
    record {
      one_chip = one_chip;
      one_chip_fresh = one_chip_fresh;
      line_7 = line_7;
      other_lines = other_lines;
      line_7_pulse = line_7_pulse;
      slave_int_law = slave_int_law;
      slave_lines_law = slave_lines_law;
      slave_only_if = slave_only_if;
      slave_kept = slave_kept;
      passed_on_law = passed_on_law;
      slave_written_law = slave_written_law;
      slave_lined = slave_lined;
    }
