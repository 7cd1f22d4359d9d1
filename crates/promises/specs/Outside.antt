-- A unit and the lent memory (requests 6 and 7): what the bytes of an answer tell of a byte or a word that moved, and of one that fell off; and where its channel stands after it.
--
-- Words.antt has the words: reports_unit, channel_in, end_in, address_in, data_in, upper_in and fell_off_in (what an answer reports, by its bytes), start_of and moved_at (a unit's places), writes, reads,
-- verifies, auto and width (what a channel is set to do), onward (where it stands a unit on). Demand1.antt has whole_records and after_first (the records of a call).
use Rattle.std.specs.Prelude.{◌≡◌, List, true, false, ◌↔◌, ◌≢◌, ℕ, suc, ◌≤◌, ◌<◌, eqb, get_or, length, if◌then◌else◌}
use Rattle.bits.specs.Choice.{◌and◌, ◌or◌}
use Rattle.dma.specs.declared.Dma.{Dma}
use Rattle.dma.specs.Fields.{chan, served}
use Rattle.board.specs.declared.Board.{Board}
use Rattle.board.specs.Step.{step_of, step_memory}
use Rattle.intake.specs.Ranges.{in_range}
use Rattle.intake.specs.Feed.{fed_of, fed_answers}
use Rattle.promises.specs.Words.{answer_at, reports_unit, channel_in, end_in, address_in, data_in, upper_in, fell_off_in, start_of, moved_at, writes, reads, verifies, auto, width, onward}
use Rattle.promises.specs.Reached.{Reached, Typed}
use Rattle.promises.specs.Demand1.{whole_records, record_of, after_first}

-- The width of the unit that the answer a reports, on a board whose DMA chip is d; and that place p is in it: p is its address or, of a word, the other place
-- of its even pair.
abbrev pub width_in : Dma → List ℕ → ℕ
width_in d a = width (chan d (channel_in a))

abbrev pub InUnit : Dma → List ℕ → ℕ → Type 0
InUnit d a p = start_of (width_in d a) (address_in a) ≡ start_of (width_in d a) p

-- What is promised of a record r with the answer a: the DMA chip is d before it and d' after it, the lent memory m and m'. A unit's channel is taken as
-- it was before the record, where nothing else is said.
pub record Tells (d d' : Dma) (r m m' a : List ℕ) : Type 0 where
  -- A unit's answer is of the served channel, and of that channel's current address, odd or even.
  -- Not so: a board that turns an address past the end into one inside, writes there and reports that one; one that reports the even address of a word.
  pub whose : reports_unit a ≡ true → (channel_in a ≡ d.channel) × (address_in a ≡ (served d).current.address)
  -- Byte 12 of it is 1 exactly if some place of the unit is at or past the end of the memory and the channel does not verify; and else it is 0.
  -- Not so: a board to which the memory's length itself is an address inside; one that tells of verify, or of writes alone; one that tells of a byte
  -- FFH which the memory has; one that looks at one half of a word.
  pub set : reports_unit a ≡ true
      → (fell_off_in a ≡ 1) ↔ (((p : ℕ) × (InUnit d a p) × (length m ≤ p)) × (verifies (chan d (channel_in a)) ≡ false))
  pub bit : reports_unit a ≡ true → fell_off_in a ≤ 1
  -- A unit to memory moves what the device has: byte 2 of the record and, as a word's upper byte, byte 3.
  -- Not so: a board that swaps the two; one that takes byte 3 for a byte at an odd address.
  pub device : reports_unit a ≡ true
      → writes (chan d (channel_in a)) ≡ true
      → (data_in a ≡ get_or r 2 0) × (width_in d a ≡ 2 → upper_in a ≡ get_or r 3 0)
  -- It has landed, as far as there is memory: each of its places has the byte that the answer shows for it.
  -- Not so: a board that writes a byte at the next address; one that loses the last byte of the memory and tells nobody; one that loses both halves of a word of which one is inside.
  pub there : reports_unit a ≡ true
      → writes (chan d (channel_in a)) ≡ true
      → (p : ℕ)
      → InUnit d a p
      → p < length m
      → get_or m' p 0 ≡ moved_at (width_in d a) p a
  -- Every other place stays, and all of them where the channel does not write memory.
  -- Not so: a board that puts a lost byte at the memory's last place; one that writes the byte above an odd address.
  pub stays : reports_unit a ≡ true → (p : ℕ) → (InUnit d a p → writes (chan d (channel_in a)) ≡ false) → get_or m' p 0 ≡ get_or m p 0
  pub long : reports_unit a ≡ true → length m' ≡ length m
  -- A unit from memory: at each of its places it has the byte there, and FFH (255) where there is none.
  -- Not so: a board that gives the byte of the next address; one that gives 0 past the end.
  pub read : reports_unit a ≡ true
      → reads (chan d (channel_in a)) ≡ true
      → (p : ℕ)
      → InUnit d a p
      → moved_at (width_in d a) p a ≡ get_or m p 255
  -- Verify shows 0 for both bytes, and a byte unit shows 0 for the upper one.
  -- Not so: a board that shows the device's upper byte with every unit.
  pub verified : reports_unit a ≡ true → verifies (chan d (channel_in a)) ≡ true → (data_in a ≡ 0) × (upper_in a ≡ 0)
  pub no_upper : reports_unit a ≡ true → width_in d a ≡ 1 → upper_in a ≡ 0
  -- It was the channel's last one, and byte 6 is 1, exactly if its count was 0 or END (byte 1 of the record) came with it.
  -- Not so: a board on which a count of 1 is the last word; one that ends no word by END.
  pub end : reports_unit a ≡ true → end_in a ≡ (if eqb (chan d (channel_in a)).current.count 0 or eqb (get_or r 1 0) 1 then 1 else 0)
  -- After it the channel stands a unit on: by two places for words, and with one unit less to go, whichever way it goes. If it was the last one and the channel autoinitializes, it stands at
  -- base again. No other channel changes.
  -- Not so: a board whose words step by one with autoinitialize; one on which a word counts as two units; one that makes an odd address even.
  pub next : reports_unit a ≡ true
      → (chan d' (channel_in a)).current
      ≡ (if eqb (end_in a) 1 and auto (chan d (channel_in a)) then (chan d (channel_in a)).base else onward (chan d (channel_in a)))
  pub others : reports_unit a ≡ true → (k : ℕ) → k ≢ channel_in a → chan d' k ≡ chan d k
  -- An answer to a DMA cycle that reports no unit (nothing, a grant, a release, a refusal) has no data, no address, and bytes 12 and 13 clear; and bytes 14 and 15 are clear in every one.
  -- Not so: a board that tells at the grant already; one that shows the device's bytes at the grant; one whose answers have a unit's width in byte 14.
  pub no_unit : get_or a 1 0 ≡ 6 → reports_unit a ≡ false → (data_in a ≡ 0) × (address_in a ≡ 0) × (fell_off_in a ≡ 0) × (upper_in a ≡ 0)
  pub no_more : get_or a 1 0 ≡ 6 → (get_or a 14 0 ≡ 0) × (get_or a 15 0 ≡ 0)

pub record Outside : Type 0 where
  -- It holds of any record on any board reached.
  pub told : {b : Board} → Reached b → (m r : List ℕ) → Tells b.dma (step_of b r m).board.dma r m (step_memory b r m) (step_of b r m).answer
  -- It holds of a board that no tape reaches, too, if only each field is in its range and no wider than its type.
  pub in_range_law : (b : Board) → in_range b ≡ true → Typed b → (m r : List ℕ)
      → Tells b.dma (step_of b r m).board.dma r m (step_memory b r m) (step_of b r m).answer
  -- And so of each answer in the buffer of a call that is taken, by the chip and the memory before its record and after it.
  -- Not so: a board whose calls clear byte 12 where they fill the buffer.
  pub of_calls : {b : Board} → Reached b → (tape m buffer : List ℕ)
      → (fed_of b tape m (length buffer)).status ≡ 0
      → (i : ℕ)
      → i < whole_records b tape
      → Tells (after_first b tape m i).board.dma (after_first b tape m (suc i)).board.dma (record_of b tape i) (after_first b tape m i).memory (after_first b tape m (suc i)).memory
      (answer_at (fed_answers b tape m buffer) i)
