-- What some words mean, held against second readings: the places, ranges and last answers of demand 3; INT, the level that an acknowledge
-- takes, and its answer with INT low; the channel that is granted; the width of the bus and of a channel's units; a reset.
use Rattle.std.specs.Prelude.{◌≡◌, List, [], ◌∷◌, ◌++◌, Bool, true, false, not, ℕ, suc, ◌+◌, ◌*◌, ◌/◌, ◌%◌, ◌≤◌, ◌<◌, ◌↔◌, ◌⊎◌, ◌≢◌, eqb, get_or, set, replicate, if◌then◌else◌}
use Rattle.bits.specs.Choice.{◌and◌, ◌or◌}
use Rattle.bits.specs.Bits.{bit_of}
use Rattle.dma.specs.declared.Span.{Span}
use Rattle.dma.specs.Cycle.{stepped}
use Rattle.icu.specs.declared.Icu.{Icu}
use Rattle.icu.specs.Service.{served_of}
use Rattle.board.specs.declared.Board.{Board}
use Rattle.board.specs.Wiring.{fresh_of, icu_is, int, levels_of}
use Rattle.board.specs.Step.{step_of, step_memory}
use Rattle.dma.specs.Fields.{chan, selected, mode_is, channels_are, wide_is, requests_are}
use Rattle.promises.specs.Records.{writing, reading, resetting, acknowledging, cycling_with}
use Rattle.promises.specs.Words.{channel_in, start_of, moved_at, unit_at, last_at, place_of, inside, before, Highest, asked_for, asks, Foremost}
use Rattle.promises.specs.Reached.{Reached}
use Rattle.promises.specs.Table.{extended, unanswered}

-- A record writes to 20H (32) or 2AH (42), the registers that set the width of the bus and of a channel's units.
abbrev pub sets_width : List ℕ → Bool
sets_width r = eqb (get_or r 0 0) 1 and (eqb (get_or r 1 0) 32 or eqb (get_or r 1 0) 42)

-- The widths that a unit may have.
pub data Width : ℕ → Type 0 where
  byte : Width 1
  word : Width 2

-- No answer reports a unit at p by a channel of s, whose widths are w.
pub data None (s : ℕ → Bool) (w : ℕ → ℕ) (p : ℕ) : List (List ℕ) → Type 0 where
  empty : None s w p []
  misses : {a : List ℕ} {more : List (List ℕ)} → unit_at s w p a ≡ false → None s w p more → None s w p (a ∷ more)

-- An acknowledge is answered as level n of the chip c: status 0, operation 4, and the levels after it. In vector mode the data is IW2's upper five bits and n, and the payload zero; in CALL mode the
-- data is zero, and the payload CDH (205), the low address byte, of A7-A5 and 4 n with AG4=1 (D2 of IW1) or A7-A6 and 8 n with AG4=0, IW2, and zeros.
abbrev pub call_low : Icu → ℕ → ℕ
call_low c n = if bit_of c.iw1 2 then c.iw1 / 32 * 32 + n * 4 else c.iw1 / 64 * 64 + n * 8

pub record Names (c : Icu) (b : Board) (m : List ℕ) (n : ℕ) : Type 0 where
  pub vector : c.vector ≡ true
      → (step_of b acknowledging m).answer
      ≡ 0 ∷ 4 ∷ (c.iw2 / 8 * 8 + n) ∷ levels_of (step_of b acknowledging m).board ∷ replicate 12 0
  pub call : c.vector ≡ false
      → (step_of b acknowledging m).answer
      ≡ 0 ∷ 4 ∷ 0 ∷ levels_of (step_of b acknowledging m).board ∷ 205 ∷ call_low c n ∷ c.iw2 ∷ replicate 9 0

-- An acknowledge takes level n of the master, which gives the bytes: it is answered so, its edge request goes, and its ISR bit is set; in self-FI ISR stays and, with rotation on, n becomes lowest. Nothing else of
-- the board changes.
pub record Takes (b : Board) (m : List ℕ) (n : ℕ) : Type 0 where
  pub names : Names b.icu b m n
  pub board : (step_of b acknowledging m).board ≡ icu_is (served_of b.icu n) b
  pub edges : (k : ℕ) → k < 8 → bit_of (step_of b acknowledging m).board.icu.edges k ≡ (bit_of b.icu.edges k and not (eqb k n))
  pub isr : (k : ℕ) → k < 8
      → bit_of (step_of b acknowledging m).board.icu.isr k ≡ (bit_of b.icu.isr k or (not b.icu.sfi and eqb k n))
  pub lowest : (step_of b acknowledging m).board.icu.lowest ≡ (if b.icu.sfi and b.icu.rotation then n else b.icu.lowest)

-- A DMA cycle with END e and the bytes x and y grants the bus to channel n; nothing moves, and END is no end.
pub record Grants (b : Board) (e x y : ℕ) (m : List ℕ) (n : ℕ) : Type 0 where
  pub kind : get_or (step_of b (cycling_with e x y) m).answer 4 0 ≡ 1
  pub channel : get_or (step_of b (cycling_with e x y) m).answer 5 0 ≡ n
  pub serving : (step_of b (cycling_with e x y) m).board.dma.serving ≡ true
  pub served : (step_of b (cycling_with e x y) m).board.dma.channel ≡ n
  pub channels : (step_of b (cycling_with e x y) m).board.dma.channels ≡ b.dma.channels
  pub ends : (step_of b (cycling_with e x y) m).board.dma.ends ≡ b.dma.ends
  pub end : get_or (step_of b (cycling_with e x y) m).answer 6 0 ≡ 0
  pub memory : step_memory b (cycling_with e x y) m ≡ m

-- Some level of those wanted comes before every level that the chip c has in service.
pub record Outranking (wanted : ℕ → Bool) (c : Icu) : Type 0 where
  pub level : ℕ
  pub low : level < 8
  pub asked : wanted level ≡ true
  pub over : (k : ℕ) → k < 8 → bit_of c.isr k ≡ true → before c.lowest level < before c.lowest k

pub record Meant : Type 0 where
  -- In units of w bytes, which are bytes or words: the address 0 units on is the address itself, and each further one is that to which the chip steps from the one before.
  pub place_zero : {w : ℕ} → Width w → (a : ℕ) (falls : Bool) → a < 16777216 → place_of a falls w 0 ≡ a
  pub place_suc : {w : ℕ} → Width w → (a i : ℕ) (falls : Bool) → a < 16777216 → i < 65536
      → place_of a falls w (suc i) ≡ stepped (place_of a falls w i) falls w
  -- No two of 65,536 units in a row have a byte in common. The range of a span is the bytes of the units 0 to count on, which are count plus one, and no other byte.
  pub units_differ : {w : ℕ} → Width w → (a i j : ℕ) (falls : Bool) → i < 65536 → j < 65536
      → start_of w (place_of a falls w i) ≡ start_of w (place_of a falls w j)
      → i ≡ j
  pub range_has : {w : ℕ} → Width w → (s : Span) (falls : Bool) → s.address < 16777216 → s.count < 65536
      → (i : ℕ)
      → i ≤ s.count
      → (p : ℕ)
      → start_of w (place_of s.address falls w i) ≡ start_of w p
      → inside p s falls w ≡ true
  pub range_only : {w : ℕ} → Width w → (s : Span) (falls : Bool) → s.address < 16777216
      → (p : ℕ)
      → inside p s falls w ≡ true
      → (i : ℕ) × (i ≤ s.count) × (start_of w (place_of s.address falls w i) ≡ start_of w p)
  -- A word is an even place and the next one.
  pub word_pair : (p : ℕ) → p % 2 ≡ 0 → (start_of 2 p ≡ p) × (start_of 2 (suc p) ≡ p)
  -- The last answer that reports a unit at p by a channel of s: if none does, the byte is as it was; if one does and none after it, the
  -- byte is what that one moved there.
  pub last_none : {s : ℕ → Bool} {w : ℕ → ℕ} {p : ℕ} {got : List (List ℕ)} → None s w p got → (x : ℕ) → last_at s w p got x ≡ x
  pub last_found : (s : ℕ → Bool) (w : ℕ → ℕ) (p x : ℕ) (earlier : List (List ℕ)) (a : List ℕ) (later : List (List ℕ))
      → unit_at s w p a ≡ true
      → None s w p later
      → last_at s w p (earlier ++ a ∷ later) x ≡ moved_at (w (channel_in a)) p a
  -- INT is high exactly if the chip is ready and some level asked for outranks every level in service.
  -- Not so: a board on which a level outranks itself; one on which a masked level in service does not block those below it.
  pub int_rule : {b : Board} → Reached b → (int b ≡ true) ↔ ((b.icu.stage ≡ 3) × Outranking (asked_for b) b.icu)
  -- With INT high and the bus free, an acknowledge that is in turn takes the level that is asked for and that no other one asked for outranks. An extended master passes level 7 on (Cascade.antt,
  -- passed-on); for any other level it gives the bytes, and a single master gives them for 7, too.
  -- Not so: a board that takes the lowest number, whatever its rank; one that takes a masked level.
  pub level_taken : {b : Board} → Reached b → (m : List ℕ) → b.dma.serving ≡ false → unanswered b ≡ false → int b ≡ true
      → (n : ℕ) × Highest (asked_for b) b.icu.lowest n × ((extended b.icu and eqb n 7) ≡ false → Takes b m n)
  -- With INT low, for whatever reason, and the bus free, an acknowledge that is in turn is answered as level 7 of the master and leaves the whole board, the slave too, and the memory as they were: no ISR bit, no
  -- request, no rank changes, in self-FI too.
  -- Not so: a board that sets ISR bit 7, or makes level 7 lowest; one that takes a masked level, or clears its request; one that answers as the level in service.
  pub spurious : (b : Board) (m : List ℕ) → b.dma.serving ≡ false → unanswered b ≡ false → int b ≡ false
      → ((step_of b acknowledging m).board ≡ b) × (step_memory b acknowledging m ≡ m) × Names b.icu b m 7
  -- With the bus free, the chip enabled and some channel asking, a cycle grants the bus to the channel that asks and that no other one asking
  -- outranks, whatever END and the device have.
  -- Not so: a board that with END grants channel 0, whichever asks; one that goes on from the last served with fixed rank.
  pub channel_granted : {b : Board} → Reached b → (e x y : ℕ) (m : List ℕ) → e < 2 → b.dma.serving ≡ false → b.dma.disabled ≡ false
      → (k : ℕ) → k < 4 → asks b.dma k ≡ true
      → (n : ℕ) × Foremost b.dma n × Grants b e x y m n
  -- With the bus free, and the chip disabled or no channel asking, a cycle does nothing, and says so.
  -- Not so: a board that grants a masked channel; one that grants while it is disabled.
  pub nothing_granted : (b : Board) (e x y : ℕ) (m : List ℕ) → e < 2 → b.dma.serving ≡ false
      → (b.dma.disabled ≡ true) ⊎ ((k : ℕ) → k < 4 → asks b.dma k ≡ false)
      → ((step_of b (cycling_with e x y) m).board ≡ b)
      × (step_memory b (cycling_with e x y) m ≡ m)
      × (get_or (step_of b (cycling_with e x y) m).answer 0 0 ≡ 0)
      × (get_or (step_of b (cycling_with e x y) m).answer 4 0 ≡ 0)
  -- Register 0 (20H) with the bus free. With D0 the DMA chip is as op 0 leaves it, but for its request lines, and has the bus of D1. Without D0 it has the bus of D1, and nothing else of it changes; but it can't have 8 bits
  -- while some channel is set to move words (`Demand1.row-4`). A board that was never fed has 8 bits.
  -- Not so: a board that is wide from reset; one on which 03H resets and leaves the bus narrow; one on which 02H resets the chip.
  pub bus_reset : (b : Board) (m : List ℕ) (x : ℕ) → b.dma.serving ≡ false → x % 2 ≡ 1
      → (step_of b (writing 32 x) m).board.dma ≡ wide_is (bit_of x 1) (requests_are b.dma.requests fresh_of.dma)
  pub bus_set : (b : Board) (m : List ℕ) (x : ℕ) → b.dma.serving ≡ false → x % 2 ≡ 0 → get_or (step_of b (writing 32 x) m).answer 0 0 ≡ 0
      → (step_of b (writing 32 x) m).board.dma ≡ wide_is (bit_of x 1) b.dma
  pub fresh_narrow : fresh_of.dma.wide ≡ false
  -- Register A (2AH) with the bus free: a mode that is taken, with its width, is the selected channel's, and nothing else of the chip changes; a read shows all of it.
  -- Not so: a board with one width for all channels; one whose reads hide D0.
  pub mode_set : (b : Board) (m : List ℕ) (x : ℕ) → b.dma.serving ≡ false → get_or (step_of b (writing 42 x) m).answer 0 0 ≡ 0
      → (step_of b (writing 42 x) m).board.dma ≡ channels_are (set b.dma.channels b.dma.selected (mode_is x (selected b.dma))) b.dma
  pub mode_shown : (b : Board) (m : List ℕ) → b.dma.serving ≡ false → get_or (step_of b (reading 42) m).answer 2 0 ≡ (selected b.dma).mode
  -- Nothing else sets a width: a record that is no reset and no write to these two leaves the bus, and the modes of all four channels.
  -- Not so: a board that is narrow again with its first mode of bytes; one that a grant makes wide; one that an end sets back to bytes.
  pub widths_kept : (b : Board) (r m : List ℕ) → get_or r 0 0 ≢ 0 → sets_width r ≡ false
      → ((step_of b r m).board.dma.wide ≡ b.dma.wide) × ((k : ℕ) → k < 4 → (chan (step_of b r m).board.dma k).mode ≡ (chan b.dma k).mode)
  -- Operation 0 leaves a board as one that was never fed has it, but for the bytes that are kept, and leaves the memory.
  -- Not so: a board that keeps a mode or a mask; one that clears memory.
  pub reset_is_fresh : (b : Board) (m : List ℕ)
      → ((step_of b resetting m).board ≡ record { icu = fresh_of.icu; intp = 0; slave = fresh_of.slave; slaveintp = 0; timer = fresh_of.timer; dma = fresh_of.dma; kept = b.kept })
      × (step_memory b resetting m ≡ m)
