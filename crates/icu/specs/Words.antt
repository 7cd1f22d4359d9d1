-- Reset, and the words that the processor writes.
use Rattle.std.specs.Prelude.{ℕ, ◌%◌, Bool, true, false, eqb, if◌then◌else◌}
use Rattle.bits.specs.Choice.{◌and◌}
use Rattle.bits.specs.Bits.{bit_of, without_of}
use Rattle.icu.specs.declared.Icu.{Icu}
use Rattle.icu.specs.Fields.{stage_is, iw2_is, iw4_is, imr_is, isr_is, lowest_is, showsisr_is, rotation_is}
use Rattle.icu.specs.Answers.{Told, done, refused}
use Rattle.icu.specs.Ranks.{highest_of}

-- The stages: no IW1 yet (0), IW2 awaited (1), IW3 awaited (4), IW4 awaited (2), ready (3). IW3 has the number that was free.
abbrev pub unstarted : ℕ
unstarted = 0

abbrev pub awaits_iw2 : ℕ
awaits_iw2 = 1

abbrev pub awaits_iw3 : ℕ
awaits_iw3 = 4

abbrev pub awaits_iw4 : ℕ
awaits_iw4 = 2

abbrev pub ready : Icu → Bool
ready c = eqb c.stage 3

-- Reset: the registers are zero, level 7 is lowest, and there was no IW1.
unfoldable pub reset_of : Icu
reset_of =
    record {
      stage = unstarted;
      iw1 = 0;
      iw2 = 0;
      sfi = false;
      vector = false;
      rotation = false;
      showsisr = false;
      edges = 0;
      isr = 0;
      imr = 0;
      lowest = 7;
    }

-- IW1. The requests, ISR and IMR are cleared, reads show IRR, level 7 is lowest, the rotation in self-FI ends, and IW4 is
-- forgotten (all zero): normal FI, and CALL mode. IW2 stays until it is written.
unfoldable pub iw1 : Icu → ℕ → Icu
iw1 c x =
    record {
      stage = awaits_iw2;
      iw1 = x;
      iw2 = c.iw2;
      sfi = false;
      vector = false;
      rotation = false;
      showsisr = false;
      edges = 0;
      isr = 0;
      imr = 0;
      lowest = 7;
    }

-- The bits of IW1: D3 level trigger, D2 address gap 4, D1 single (SNGL; without it the chip is in extended mode), D0 IW4 follows.
abbrev pub lev : Icu → Bool
lev c = bit_of c.iw1 3

abbrev pub ag4 : Icu → Bool
ag4 c = bit_of c.iw1 2

abbrev pub sngl : Icu → Bool
sngl c = bit_of c.iw1 1

abbrev pub i4 : Icu → Bool
i4 c = bit_of c.iw1 0

-- All the words before IW4 are there: it is next where IW1 announced it, and otherwise the chip is ready.
abbrev pub only_iw4 : Icu → Icu
only_iw4 c = if i4 c then stage_is awaits_iw4 c else stage_is 3 c

-- IW2; in extended mode IW3 is next.
abbrev pub iw2 : Icu → ℕ → Icu
iw2 c x = if sngl c then only_iw4 (iw2_is x c) else stage_is awaits_iw3 (iw2_is x c)

-- IW3 says how the chip is wired to others, so on a board there is one that fits it: w. The chip keeps nothing of it; another one is not built, and IW3 is still awaited.
abbrev pub iw3 : Icu → ℕ → ℕ → Told
iw3 c w x = if eqb x w then done (only_iw4 c) else refused 4 c

-- IW4: D1 self-FI, D0 vector mode. The chip is ready.
abbrev pub iw4 : Icu → ℕ → Icu
iw4 c x = stage_is 3 (iw4_is (bit_of x 1) (bit_of x 0) c)

-- A word at A0=1: IMR once ready, before that the word that is awaited. Before the first IW1 it is out of turn.
unfoldable pub later_word : Icu → ℕ → ℕ → Told
later_word c w x =
    if ready c then done (imr_is x c)
    else if eqb c.stage awaits_iw2 then done (iw2 c x)
    else if eqb c.stage awaits_iw3 then iw3 c w x
    else if eqb c.stage awaits_iw4 then done (iw4 c x)
    else refused 3 c

-- D6 (SNM) and D5 (EXCN) together set the exceptional nesting mode.
abbrev pub sets_exceptional : ℕ → Bool
sets_exceptional x = bit_of x 6 and bit_of x 5

-- MCW. Polling (D2) and the exceptional nesting mode (D6 with D5) are not built. With D1, D0 chooses what reads at A0=0 show: IRR (0) or ISR (1).
unfoldable pub mcw : Icu → ℕ → Told
mcw c x =
    if bit_of x 2 then refused 4 c
    else if sets_exceptional x then refused 4 c
    else if bit_of x 1 then done (showsisr_is (bit_of x 0) c)
    else done c

-- Level n is in service no more.
abbrev pub ended : Icu → ℕ → Icu
ended c n = isr_is (without_of c.isr n) c

-- FI without a level: the highest-ranked level in service ends, and with rotation becomes lowest. With none in service nothing happens.
unfoldable pub finished : Icu → Bool → Icu
finished c rotate =
    if eqb c.isr 0 then c
    else if rotate then lowest_is (highest_of c.isr c.lowest) (ended c (highest_of c.isr c.lowest))
    else ended c (highest_of c.isr c.lowest)

-- PFCW, by D7 D6 D5: RP (rotate priority), SIL (specify a level), FI (finish). The level that it names is n.
abbrev pub commanded : Bool → Bool → Bool → Icu → ℕ → Icu
-- 001 and 101
commanded false false true c n = finished c false
commanded true false true c n = finished c true
-- 011; 111 and 110, which make the level lowest, in service or not
commanded false true true c n = ended c n
commanded true true true c n = lowest_is n (ended c n)
commanded true true false c n = lowest_is n c
-- 100 and 000, the rotation in self-FI; 010
commanded true false false c n = rotation_is true c
commanded false false false c n = rotation_is false c
commanded false true false c n = c

unfoldable pub pfcw : Icu → ℕ → Icu
pfcw c x = commanded (bit_of x 7) (bit_of x 6) (bit_of x 5) c (x % 8)

-- A write to a chip that has to get w as its IW3. At A0=0 a word with D4 set is IW1, at any time. Without D4 the chip must be ready, and D3 tells MCW from PFCW.
unfoldable pub write_of : Icu → ℕ → Bool → ℕ → Told
write_of c w a0 x =
    if a0 then later_word c w x
    else if bit_of x 4 then done (iw1 c x)
    else if ready c then (if bit_of x 3 then mcw c x else done (pfcw c x))
    else refused 3 c
