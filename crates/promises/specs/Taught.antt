-- What the class must not be taught, each ruled out on the tape.
--
-- Records.antt has the records: `writing p x` writes x to port p, `reading p` reads it, and `pulsing` advances by one pulse. TaughtWords.antt has the words.
use Rattle.std.specs.Prelude.{◌≡◌, ◌≢◌, List, [], ◌∷◌, true, false, not, ℕ, suc, ◌+◌, ◌*◌, ◌/◌, ◌%◌, ◌≤◌, ◌<◌, eqb, get_or, length, if◌then◌else◌}
use Rattle.bits.specs.Choice.{◌and◌}
use Rattle.bits.specs.Bits.{bit_of, without_of}
use Rattle.icu.specs.Fields.{isr_is}
use Rattle.icu.specs.Words.{ready}
use Rattle.timer.specs.Modes.{moded}
use Rattle.timer.specs.Timer.{at}
use Rattle.dma.specs.Fields.{chan}
use Rattle.board.specs.declared.Board.{Board}
use Rattle.board.specs.Wiring.{icu_is}
use Rattle.board.specs.Step.{step_of}
use Rattle.board.specs.Records.{record_at, after}
use Rattle.promises.specs.Records.{writing, reading, setting, advancing, pulsing}
use Rattle.promises.specs.Table.{among, unbuilt_control}
use Rattle.promises.specs.Words.{answers_in, units_of, auto, Highest, line_high, requested, in_service}
use Rattle.promises.specs.TaughtWords.{writing_of, first_byte, reading_of, value_of, Completes, too_small, loads_as, transfers_next, reloads_next, Clocks, mode_word_for, mode_named, format_in, count_made, loading, writes_in, holds, Unread, read_at, later, Reads, plain_cycle, goes_on, Alone}
use Rattle.promises.specs.Reached.{Reached}

pub record Taught : Type 0 where
  -- "Finish clears all of ISR." A finish command without a level (001 in D7-D5; D2-D0 do not matter) clears the bit of the
  -- highest-ranked level in service and no other bit, and changes nothing else of the board.
  -- Not so: a board that clears all of ISR; one that ends the lowest level number, whatever its rank.
  pub finish_clears_one : {b : Board} → Reached b → (m : List ℕ) → b.dma.serving ≡ false → ready b.icu ≡ true
      → (x : ℕ) → 32 ≤ x → x < 40
      → (n : ℕ) → Highest (in_service b) b.icu.lowest n
      → ((step_of b (writing 0 x) m).board ≡ icu_is (isr_is (without_of b.icu.isr n) b.icu) b)
      × ((k : ℕ) → k < 8 → bit_of (step_of b (writing 0 x) m).board.icu.isr k ≡ (bit_of b.icu.isr k and not (eqb k n)))
  -- There is such a level wherever ISR is not zero.
  -- Not so: a board whose ISR has a bit past level 7; one that makes level 8 lowest, so that two levels have the same rank.
  pub one_is_highest : {b : Board} → Reached b → b.icu.isr ≢ 0 → (n : ℕ) × Highest (in_service b) b.icu.lowest n
  -- With no level in service it is taken, and changes nothing of the board.
  -- Not so: a board that makes a level lowest all the same; one that refuses the command.
  pub finish_of_none : (b : Board) (m : List ℕ) → b.dma.serving ≡ false → ready b.icu ≡ true
      → (x : ℕ) → 32 ≤ x → x < 40
      → b.icu.isr ≡ 0
      → ((step_of b (writing 0 x) m).board ≡ b) × (get_or (step_of b (writing 0 x) m).answer 0 0 ≡ 0)
  -- "Masking a level hides it from IRR reads." Whatever mask is written, a read of IRR shows afterwards what it showed before: every
  -- level requested, masked or not.
  -- Not so: a board that shows the requests that the mask leaves; one that forgets a masked request.
  pub masking_hides_nothing : {b : Board} → Reached b → (m : List ℕ) → b.dma.serving ≡ false → ready b.icu ≡ true → b.icu.showsisr ≡ false
      → (x : ℕ)
      → (get_or (step_of (step_of b (writing 1 x) m).board (reading 0) m).answer 2 0 ≡ get_or (step_of b (reading 0) m).answer 2 0)
      × ((k : ℕ) → k < 8 → bit_of (get_or (step_of b (reading 0) m).answer 2 0) k ≡ requested b k)
  -- A rise of a masked line is requested, and shows, like any other: whatever the mask, a line of INTP1 to INTP7 that was low and goes high
  -- while the chip is ready.
  -- Not so: a board on which a masked line makes no request; one that shows it only once it is unmasked.
  pub masked_rise_shows : {b : Board} → Reached b → (m : List ℕ) → b.dma.serving ≡ false → ready b.icu ≡ true → b.icu.showsisr ≡ false
      → (l k : ℕ) → l < 256 → l % 2 ≡ 0 → 1 ≤ k → k < 8
      → line_high b k ≡ false
      → bit_of l k ≡ true
      → bit_of (get_or (step_of (step_of b (setting 0 l) m).board (reading 0) m).answer 2 0) k ≡ true
  -- "The count is loaded at the write." No write, of a count byte or a control word, changes the value of any counter.
  -- Not so: a board that loads the counter when its count is complete; one that clears it at a mode word.
  pub write_loads_nothing : (b : Board) (m : List ℕ) (p x n : ℕ) → (at (step_of b (writing p x) m).board.timer n).value ≡ (at b.timer n).value
  -- Nor does any other record, but a reset (operation 0) and an advance (operation 5): until one of them every counter has the value it had.
  -- Not so: a board that loads when GATE rises; one that loads when the counter is read.
  pub only_pulses_load : (b : Board) (m r : List ℕ) (n : ℕ) → n < 3 → get_or r 0 0 ≢ 0 → get_or r 0 0 ≢ 5
      → (at (step_of b r m).board.timer n).value ≡ (at b.timer n).value
  -- It is a pulse that loads it. The tape: a mode word for counter n that is built, in any mode and format, the bytes of a count, which is not 1
  -- in modes 2 and 3, and one pulse. Whatever the board was before, with its three counters and the bus free, and whatever its gates are: the
  -- counter keeps its value up to the pulse, and with the pulse it has the count; but in modes 1 and 5 it waits for a trigger, and keeps its value.
  -- Not so: a board that never loads, or loads at the write, waits for GATE, or counts one down at that pulse; one on which mode 1 starts without a trigger.
  pub mode_count_pulse : (b : Board) (m : List ℕ) (n w x y : ℕ) → n < 3
      → b.dma.serving ≡ false
      → length b.timer.counters ≡ 3
      → mode_word_for n w ≡ true
      → unbuilt_control w ≡ false
      → too_small (mode_named w) (count_made (format_in w) x y) ≡ false
      → ((at (after b m (loading n w x y) (writes_in w)).board.timer n).value ≡ (at b.timer n).value)
      × ((at (after b m (loading n w x y) (suc (writes_in w))).board.timer n).value
      ≡ (if among (mode_named w) (1 ∷ 5 ∷ []) then (at b.timer n).value else loads_as (mode_named w) (count_made (format_in w) x y)))
  -- There it waits however many pulses come: in modes 1 and 5, while a count pends that no trigger has loaded since the mode word, and no trigger
  -- pends, an advance leaves the value.
  -- Not so: a board that counts down from what stands in the counter before the first trigger; one that loads once GATE has been high for long enough.
  pub untriggered_waits : (b : Board) (m : List ℕ) (n k : ℕ) → n < 3
      → k < 65536
      → among (at b.timer n).mode (1 ∷ 5 ∷ []) ≡ true
      → (at b.timer n).pending ≡ true
      → (at b.timer n).trigger ≡ false
      → (at (step_of b (advancing k) m).board.timer n).value ≡ (at b.timer n).value
  -- A count completed in a counter with a mode, whatever its state: in modes 0 and 4 each one is loaded by the next pulse; in modes 2 and 3 the
  -- first after the mode word, or the one that replaces it before that pulse; in modes 1 and 5 any, if a trigger pends.
  -- Not so: a board that loads the first count only, or in mode 0 lets a new count wait for the end of the old one; one that shows odd values in mode 3.
  pub count_pulse : (b : Board) (m : List ℕ) (n x N : ℕ) → n < 3
      → b.dma.serving ≡ false
      → moded (at b.timer n) ≡ true
      → transfers_next (at b.timer n) ≡ true
      → Completes (at b.timer n) x N
      → too_small (at b.timer n).mode N ≡ false
      → (at (step_of (step_of b (writing (16 + n) x) m).board pulsing m).board.timer n).value ≡ loads_as (at b.timer n).mode N
  -- Once a count is complete, a rise of GATE is a trigger in modes 1, 2, 3 and 5: the next pulse loads the last complete count, wherever the
  -- counter is.
  -- Not so: a board that in mode 1 counts to the end first; one that loads the count it ran with, and not the last one.
  pub trigger_pulse : (b : Board) (m : List ℕ) (n l : ℕ) → n < 3
      → among (at b.timer n).mode (1 ∷ 2 ∷ 3 ∷ 5 ∷ []) ≡ true
      → (at b.timer n).full ≡ true
      → (at b.timer n).gate ≡ false
      → l < 8
      → bit_of l n ≡ true
      → (at (step_of (step_of b (setting 1 l) m).board pulsing m).board.timer n).value ≡ loads_as (at b.timer n).mode (at b.timer n).count
  -- Any other count, written once one is complete, waits for the next load: a trigger in modes 1 and 5, a trigger or the end in modes 2 and 3. Over any
  -- pulses and levels of the gates the counter has the value that it would have had without the write, and the first pulse that loads it loads N.
  -- Not so: a board that loads it at the next pulse, so that in mode 5 a rewrite restarts it; one that loads the old count once more.
  pub later_count_waits : (b : Board) (m s : List ℕ) (n x N j : ℕ) → n < 3
      → b.dma.serving ≡ false
      → moded (at b.timer n) ≡ true
      → (at b.timer n).full ≡ true
      → transfers_next (at b.timer n) ≡ false
      → Completes (at b.timer n) x N
      → too_small (at b.timer n).mode N ≡ false
      → ((i : ℕ) → i < j → Clocks (record_at s i))
      → ((i : ℕ) → i < j → record_at s i ≡ pulsing → reloads_next (at (after b m s i).board.timer n) ≡ false)
      → record_at s j ≡ pulsing
      → ((i : ℕ) → i ≤ j → (at (after (step_of b (writing (16 + n) x) m).board m s i).board.timer n).value ≡ (at (after b m s i).board.timer n).value)
      × (reloads_next (at (after b m s j).board.timer n) ≡ true
      → (at (after (step_of b (writing (16 + n) x) m).board m s (suc j)).board.timer n).value ≡ loads_as (at b.timer n).mode N)
  -- "One read pointer shared with writes." A read moves no writing place: the half-written byte, the last complete count and what it waits
  -- for stay as they are, of every counter, and so does its value.
  -- Not so: a board whose read completes a half-written count; one whose read drops it.
  pub read_moves_no_write : (b : Board) (m : List ℕ) (p n : ℕ)
      → (writing_of (at (step_of b (reading p) m).board.timer n) ≡ writing_of (at b.timer n))
      × (value_of (at (step_of b (reading p) m).board.timer n) ≡ value_of (at b.timer n))
  -- And where a reading stands does not matter to a write: the first byte of two is kept apart, and the last complete count stands.
  -- Not so: a board that takes it for the high byte because the low one was read; one that makes a count of it.
  pub first_byte_waits : (b : Board) (m : List ℕ) (n x : ℕ) → n < 3
      → b.dma.serving ≡ false
      → moded (at b.timer n) ≡ true
      → (at b.timer n).format ≡ 3
      → (at b.timer n).half ≡ false
      → writing_of (at (step_of b (writing (16 + n) x) m).board.timer n) ≡ first_byte x (writing_of (at b.timer n))
  -- A count byte written (ports 10H to 12H) moves no reading place: which byte is read next and what is latched stay as they are, of every
  -- counter.
  -- Not so: a board whose write takes the next read for the high byte; one whose write frees the latch.
  pub write_moves_no_read : (b : Board) (m : List ℕ) (p x n : ℕ) → 16 ≤ p → p < 19
      → reading_of (at (step_of b (writing p x) m).board.timer n) ≡ reading_of (at b.timer n)
  -- "They read half a two-byte count and walk off." A counter with a mode, in format 11 (both bytes), whose low byte is next: its read, with the bus free, is of
  -- the low byte of what it holds, which is the latch or else its value. Then any records may come, pulses, count bytes, latches, gates, other
  -- counters, other chips, refused ones, but no accepted reset, mode word for this counter, or read of it. Whenever the
  -- bus is free, the next read is of the high byte of what the counter holds then, and the one after it of a low byte again.
  -- Not so: a board that starts again with the low byte at a latch, a pulse or a count written; one with one reading place for three counters.
  pub half_read_waits : (b : Board) (m : List ℕ) (n : ℕ) → n < 3
      → b.dma.serving ≡ false
      → moded (at b.timer n) ≡ true
      → (at b.timer n).format ≡ 3
      → (at b.timer n).second ≡ false
      → Reads b m n (holds (at b.timer n) % 256) true
      × ((s : List ℕ) (k : ℕ) → Unread n (read_at b m n).board m s k
      → (later b m n s k).board.dma.serving ≡ false
      → Reads (later b m n s k).board (later b m n s k).memory n (holds (at (later b m n s k).board.timer n) / 256) false)
  -- "N units for count N." A channel k that is served with count N, in block mode, or in demand mode with its request high, and runs
  -- undisturbed, moves exactly N + 1 units: N + 1 cycles with END 0, whatever the device's bytes, each report one of its units, service
  -- goes on up to the last of them, and then stops; without autoinitialize the channel is masked then.
  -- Not so: a board that stops after N units, or goes on to count FFFFH; one that in demand mode gives the bus back between two units.
  pub held_moves_one_more : {b : Board} → Reached b → (m s : List ℕ) (k N : ℕ)
      → b.dma.serving ≡ true
      → b.dma.channel ≡ k
      → goes_on (chan b.dma k).mode (bit_of b.dma.requests k) ≡ true
      → (chan b.dma k).current.count ≡ N
      → ((i : ℕ) → i ≤ N → plain_cycle (record_at s i) ≡ true)
      → (length (units_of k (answers_in (after b m s (suc N)).answers (suc N))) ≡ N + 1)
      × ((i : ℕ) → i ≤ N → (after b m s i).board.dma.serving ≡ true)
      × ((after b m s (suc N)).board.dma.serving ≡ false)
      × (auto (chan b.dma k) ≡ false → (chan (after b m s (suc N)).board.dma k).masked ≡ true)
  -- In single mode each unit takes two cycles, of which the first is the grant (Meant.antt, channel_granted). A channel k that is set so, alone is ready and waits, with its chip enabled and count N,
  -- moves its units in pairs of cycles with END 0: after i pairs, up to N + 1, it moved i units and the bus is free; after N + 1 pairs it is
  -- masked, unless it autoinitializes.
  -- Not so: a board that keeps the bus from unit to unit; one that takes the grant for a unit, and so moves two in a pair, or N in all.
  pub single_moves_one_more : {b : Board} → Reached b → (m s : List ℕ) (k N : ℕ) → k < 4
      → b.dma.serving ≡ false
      → b.dma.disabled ≡ false
      → Alone b.dma k
      → (chan b.dma k).mode / 64 ≡ 1
      → (chan b.dma k).current.count ≡ N
      → ((i : ℕ) → i < 2 * (N + 1) → plain_cycle (record_at s i) ≡ true)
      → ((i : ℕ) → i ≤ N + 1
      → (length (units_of k (answers_in (after b m s (2 * i)).answers (2 * i))) ≡ i) × ((after b m s (2 * i)).board.dma.serving ≡ false))
      × (auto (chan b.dma k) ≡ false → (chan (after b m s (2 * (N + 1))).board.dma k).masked ≡ true)
