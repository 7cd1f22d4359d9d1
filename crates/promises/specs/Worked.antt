-- Boards and tapes of which demand 3 and the statements on bytes that fell off, words, lumps, loading, triggers, waves, half reads, latches, units, withdrawn requests and the slave speak, each from reset by a short
-- tape: so these are not about nothing. (For the other statements on interrupts, see the tapes of Examples.antt.)
use Rattle.std.specs.Prelude.{◌≡◌, List, [], ◌∷◌, ◌++◌, map, true, false, ℕ, ◌+◌, ◌*◌, ◌<◌, get_or, take, drop, length, replicate}
use Rattle.timer.specs.Timer.{at}
use Rattle.dma.specs.Fields.{chan}
use Rattle.board.specs.declared.Board.{Board}
use Rattle.board.specs.Wiring.{fresh_of}
use Rattle.board.specs.Step.{step_of}
use Rattle.board.specs.Records.{after}
use Rattle.intake.specs.Feed.{fed_of, fed_memory, fed_answers}
use Rattle.promises.specs.Records.{writing, reading, setting, acknowledging, advancing, pulsing, cycling_with, cycling, joined}
use Rattle.promises.specs.Words.{answers_in, units_of, data_in, upper_in, fell_off_in, Calm, CalmFrom, Further, requested}
use Rattle.promises.specs.Reached.{Reached}
use Rattle.promises.specs.TaughtWords.{loading, read_at, later}
use Rattle.promises.specs.Waves.{Loaded}
use Rattle.promises.specs.Modes.{rises_in}
use Rattle.promises.specs.Cascade.{slave_int}
use Rattle.promises.specs.Chopped.{Lump, called, lump_by_lump, Room, Each, advanced_on}

-- Demand 3, a further tape that disturbs nothing and moves three units. Channel 0 in block mode, device to memory, count 2 from address 5, unmasked; its
-- request goes high.
unfoldable pub setup : List ℕ
setup = joined (writing 34 2 ∷ writing 36 5 ∷ writing 42 132 ∷ writing 47 14 ∷ setting 2 1 ∷ [])

-- The grant, three units, and a cycle too many.
unfoldable pub further : List ℕ
further = joined (cycling 0 ∷ cycling 7 ∷ cycling 8 ∷ cycling 9 ∷ cycling 6 ∷ [])

unfoldable pub memory : List ℕ
memory = replicate 8 1

unfoldable pub board : Board
board = (fed_of fresh_of setup memory 80).board

-- Six bytes of memory, addresses 0 to 5: the first of the three units is at the last byte, and the other two are past the end. Then the same channel
-- from address 5 again, in another mode.
unfoldable pub short : List ℕ
short = replicate 6 1

unfoldable pub again : ℕ → List ℕ
again mode = joined (writing 34 2 ∷ writing 35 0 ∷ writing 36 5 ∷ writing 42 mode ∷ writing 47 14 ∷ []) ++ further

abbrev pub answers_again : ℕ → List (List ℕ)
answers_again mode = drop 10 (answers_in (after board short (further ++ again mode) 15).answers 15)

-- Words. A 16-bit bus; channel 0 with a mode, count 1 and an address; the grant, and two units, for which the device has 55H with AAH above it, and 56H with ABH above it. The modes are all block. The memory has three bytes, or four.
unfoldable pub ones : ℕ → List ℕ
ones n = replicate n 1

unfoldable pub word_tape : ℕ → ℕ → List ℕ
word_tape mode address =
    joined (writing 32 2 ∷ writing 42 mode ∷ writing 34 1 ∷ writing 36 address ∷ writing 47 14 ∷ setting 2 1 ∷ cycling 0 ∷ cycling_with 0 85 170 ∷ cycling_with 0 86 171 ∷ [])

abbrev pub word_answers : ℕ → ℕ → List (List ℕ)
word_answers mode address = drop 7 (answers_in (after fresh_of (ones 3) (word_tape mode address) 9).answers 9)

abbrev pub word_board : ℕ → ℕ → Board
word_board mode address = (after fresh_of (ones 3) (word_tape mode address) 9).board

-- Two channels: 0 with words, 1 with bytes. Each mode is read, and then the bus is to be made narrow.
unfoldable pub own_widths : List ℕ
own_widths = joined (writing 32 2 ∷ writing 42 133 ∷ writing 33 1 ∷ writing 42 132 ∷ reading 42 ∷ writing 33 0 ∷ reading 42 ∷ writing 32 0 ∷ [])

abbrev pub own_answers : List (List ℕ)
own_answers = answers_in (after fresh_of [] own_widths 8).answers 8

-- Loading. Counter 2 in mode 0, low byte, at 9; counter 0 in mode 2, low byte, at 3; and three pulses.
unfoldable pub timing : Board
timing = (after fresh_of [] (loading 2 144 9 0) 3).board

unfoldable pub dividing : Board
dividing = (after fresh_of [] (loading 0 20 3 0) 3).board

unfoldable pub pulses : List ℕ
pulses = joined (pulsing ∷ pulsing ∷ pulsing ∷ [])

-- Triggers. Counter 1 in mode 5, low byte, with count 9 and GATE low; at 9, once GATE rose; and a pulse, then a trigger and its pulse.
unfoldable pub armed : Board
armed = (after fresh_of [] (joined (writing 19 90 ∷ writing 17 9 ∷ setting 1 0 ∷ [])) 3).board

unfoldable pub started : Board
started = (after armed [] (joined (setting 1 2 ∷ pulsing ∷ [])) 2).board

unfoldable pub retriggering : List ℕ
retriggering = joined (pulsing ∷ setting 1 0 ∷ setting 1 2 ∷ pulsing ∷ [])

-- OUT. Counter 0 in mode m, low byte, with count 5; GATE falls and rises, and a pulse.
unfoldable pub starting : ℕ → List ℕ
starting m = joined (writing 19 (16 + 2 * m) ∷ writing 16 5 ∷ setting 1 6 ∷ setting 1 7 ∷ pulsing ∷ [])

-- Half a count read. Counter 0 in mode 0, both bytes, at 0200H; and a pulse and a latch.
unfoldable pub halved : Board
halved = (after fresh_of [] (loading 0 48 0 2) 4).board

unfoldable pub between : List ℕ
between = joined (pulsing ∷ writing 19 0 ∷ [])

-- A latch. Counter 0 in mode 3, both bytes, with count 5, is latched at 4; and a pulse, a byte of another count, a second latch and a pulse.
unfoldable pub latched : Board
latched = (after fresh_of [] (joined (writing 19 54 ∷ writing 16 5 ∷ writing 16 0 ∷ pulsing ∷ writing 19 0 ∷ [])) 5).board

unfoldable pub busy : List ℕ
busy = joined (pulsing ∷ writing 16 9 ∷ writing 19 0 ∷ pulsing ∷ [])

-- Units. Channel 0 with count 2 and its request high: in single mode (44H), and in demand mode (04H) once it is served; and six cycles.
unfoldable pub requesting : ℕ → List (List ℕ)
requesting mode = writing 34 2 ∷ writing 42 mode ∷ writing 47 14 ∷ setting 2 1 ∷ []

unfoldable pub waiting : Board
waiting = (fed_of fresh_of (joined (requesting 68)) [] 64).board

unfoldable pub serving : Board
serving = (fed_of fresh_of (joined (requesting 4 ++ cycling 7 ∷ [])) [] 80).board

unfoldable pub cycles : List ℕ
cycles = joined (cycling 7 ∷ cycling 7 ∷ cycling 7 ∷ cycling 7 ∷ cycling 7 ∷ cycling 7 ∷ [])

-- A bounce. The chip in edge trigger and vector mode, IW2 40H; line 3 rises, and falls before the acknowledge.
unfoldable pub bouncing : List ℕ
bouncing = joined (writing 0 19 ∷ writing 1 64 ∷ writing 1 1 ∷ setting 0 8 ∷ setting 0 0 ∷ acknowledging ∷ [])

-- OUT0 as a line. Counter 0 in mode 2 with count 3: OUT0 rises with the mode word, falls within three pulses and rises with the next.
unfoldable pub beating : List ℕ
beating = joined (writing 0 18 ∷ writing 1 0 ∷ writing 19 20 ∷ writing 16 3 ∷ advancing 3 ∷ advancing 1 ∷ [])

-- The same counter, acknowledged while OUT0 is high; and four pulses, within which OUT0 falls and rises.
unfoldable pub ticking : List ℕ
ticking = joined (writing 0 18 ∷ writing 1 0 ∷ writing 19 20 ∷ writing 16 3 ∷ acknowledging ∷ advancing 4 ∷ [])

-- In self-FI with rotation, and level 2 lowest: level 3 is masked, its line rises, and an acknowledge finds INT low.
unfoldable pub masking : List ℕ
masking =
    joined (writing 0 19 ∷ writing 1 64 ∷ writing 1 3 ∷ writing 0 128 ∷ writing 0 194 ∷ writing 1 8 ∷ setting 0 8 ∷ acknowledging ∷ [])

-- Level 2 is in service, and line 3 rises.
unfoldable pub outranked : List ℕ
outranked = joined (writing 0 19 ∷ writing 1 64 ∷ writing 1 1 ∷ setting 0 4 ∷ acknowledging ∷ setting 0 12 ∷ acknowledging ∷ [])

-- Two chips. Both in edge trigger, extended, in vector mode: the master with IW2 40H, the slave with 38H. Line 2 of the slave rises; or INTP7 does, and the slave has nothing to offer.
unfoldable pub both_set : List (List ℕ)
both_set =
    writing 0 17
    ∷ writing 1 64
    ∷ writing 1 128
    ∷ writing 1 1
    ∷ writing 48 17
    ∷ writing 49 56
    ∷ writing 49 7
    ∷ writing 49 1
    ∷ []

unfoldable pub cascading : Board
cascading = (fed_of fresh_of (joined (both_set ++ setting 3 4 ∷ [])) [] 144).board

unfoldable pub idling : Board
idling = (fed_of fresh_of (joined (both_set ++ setting 0 128 ∷ [])) [] 144).board

-- Line 7 masked in the master, and line 2 of the slave rises: the slave's INT is high, the master's low.
unfoldable pub deaf : Board
deaf = (after fresh_of [] (joined (both_set ++ writing 1 128 ∷ setting 3 4 ∷ [])) 10).board

-- Both in CALL mode, with no IW4. IW3 is wrong at first, in either chip; the slave's gap is 4 (B4H), and its line 3 rises.
unfoldable pub calling : List ℕ
calling =
    joined
    (writing 0 16
    ∷ writing 1 52
    ∷ writing 1 7
    ∷ writing 1 128
    ∷ writing 48 180
    ∷ writing 49 18
    ∷ writing 49 128
    ∷ writing 49 7
    ∷ setting 3 8
    ∷ acknowledging
    ∷ [])

-- Lumps. The tapes of demand 3 above, and three bytes of one record more, on a fresh board: 83 bytes that come as 51, none, 20 and 12. Two of the three units come in records that are cut.
unfoldable pub chopped : List ℕ
chopped = setup ++ further ++ 6 ∷ 0 ∷ 5 ∷ []

unfoldable pub first_lump : Lump
first_lump = record { tape = take 51 chopped; buffer = replicate 96 0 }

unfoldable pub empty_lump : Lump
empty_lump = record { tape = []; buffer = [] }

unfoldable pub last_lumps : List Lump
last_lumps =
    record { tape = take 20 (drop 51 chopped); buffer = replicate 32 0 }
    ∷ record { tape = drop 71 chopped; buffer = replicate 32 0 }
    ∷ []

unfoldable pub one_lump : Lump
one_lump = record { tape = chopped; buffer = replicate 160 0 }

-- Twelve bytes as 7 and 5: an advance of 257 pulses, and four bytes of a record more.
unfoldable pub seven_and_five : List Lump
seven_and_five =
    record { tape = take 7 (advancing 257); buffer = [] } ∷ record { tape = 0 ∷ 1 ∷ 2 ∷ 3 ∷ 4 ∷ []; buffer = replicate 16 0 } ∷ []

-- An advance in two. Counter 0 in mode 2 with count 3: OUT0 rises with pulses 4, 7 and 10.
unfoldable pub rising : Board
rising = (after fresh_of [] (joined (writing 19 20 ∷ writing 16 3 ∷ [])) 2).board

-- The answer of a write, with all levels low.
abbrev wrote : ℕ → List ℕ
wrote status = status ∷ 1 ∷ replicate 14 0

pub record Worked : Type 0 where
  pub reached : Reached board
  pub calm : Calm board memory further 5
  pub units : units_of 0 (answers_in (after board memory further 5).answers 5) ≡ 5 ∷ 6 ∷ 7 ∷ []
  pub bytes : (after board memory further 5).memory ≡ 1 ∷ 1 ∷ 1 ∷ 1 ∷ 1 ∷ 7 ∷ 8 ∷ 9 ∷ []
  -- The same in one call, from the end of its fifth record on.
  pub calm_inside : CalmFrom 5 fresh_of memory (setup ++ further) 10
  pub units_inside : units_of 0 (drop 5 (answers_in (after fresh_of memory (setup ++ further) 10).answers 10)) ≡ 5 ∷ 6 ∷ 7 ∷ []
  -- Over six bytes the first unit lands, and the others are lost: address 6 is the memory's length. From memory to the device (88H) the first is read
  -- back, and FFH (255) for the others. Verify (80H) moves the same three units, and byte 12 stays 0.
  pub fallen : map fell_off_in (answers_in (after board short further 5).answers 5) ≡ 0 ∷ 0 ∷ 1 ∷ 1 ∷ 0 ∷ []
  pub landed : (after board short further 5).memory ≡ 1 ∷ 1 ∷ 1 ∷ 1 ∷ 1 ∷ 7 ∷ []
  pub read_back : map data_in (answers_again 136) ≡ 0 ∷ 7 ∷ 255 ∷ 255 ∷ 0 ∷ []
  pub told_too : map fell_off_in (answers_again 136) ≡ 0 ∷ 0 ∷ 1 ∷ 1 ∷ 0 ∷ []
  pub verified : (units_of 0 (answers_again 128) ≡ 5 ∷ 6 ∷ 7 ∷ []) × (map fell_off_in (answers_again 128) ≡ 0 ∷ 0 ∷ 0 ∷ 0 ∷ 0 ∷ [])
  -- To memory and downwards (A5H) from address 3, over three bytes: count 1 moves two words. The one at address 3 uses bytes 2 and 3, of which byte 3 is past the end; that at address 1 uses bytes 0 and 1. Then the
  -- bus can't be made narrow, since the channel is still set to words; with RES it can.
  pub word_units : units_of 0 (word_answers 165 3) ≡ 3 ∷ 1 ∷ []
  pub word_uppers : map upper_in (word_answers 165 3) ≡ 170 ∷ 171 ∷ []
  pub half_fallen : map fell_off_in (word_answers 165 3) ≡ 1 ∷ 0 ∷ []
  pub word_bytes : (after fresh_of (ones 3) (word_tape 165 3) 9).memory ≡ 86 ∷ 171 ∷ 85 ∷ []
  pub narrow_refused : get_or (step_of (word_board 165 3) (writing 32 0) []).answer 0 0 ≡ 4
  pub narrow_reset : (step_of (word_board 165 3) (writing 32 1) []).board.dma.wide ≡ false
  pub wide_reset : (step_of (word_board 165 3) (writing 32 3) []).board.dma.wide ≡ true
  pub narrow_write : (step_of (step_of fresh_of (writing 32 2) []).board (writing 32 0) []).board.dma.wide ≡ false
  -- From address 2, over four bytes: downwards too a word is the even address and the one above it.
  pub word_downwards : (after fresh_of (ones 4) (word_tape 165 2) 8).memory ≡ 1 ∷ 1 ∷ 85 ∷ 170 ∷ []
  -- From reset a word mode is refused.
  pub word_mode_refused : get_or (step_of fresh_of (writing 42 165) []).answer 0 0 ≡ 4
  -- Upwards from address 1. Read (89H), the second word has the last byte of memory, and FFH for the one that is not there. Verified (81H), both are 0. A byte (84H) at an odd address takes the device's lower byte, on the wide bus
  -- too, and its answer has no upper one.
  pub word_read : (map data_in (word_answers 137 1) ≡ 1 ∷ 1 ∷ []) × (map upper_in (word_answers 137 1) ≡ 1 ∷ 255 ∷ []) × (map fell_off_in (word_answers 137 1) ≡ 0 ∷ 1 ∷ [])
  pub word_verified : (units_of 0 (word_answers 129 1) ≡ 1 ∷ 3 ∷ []) × (map upper_in (word_answers 129 1) ≡ 0 ∷ 0 ∷ []) × (map fell_off_in (word_answers 129 1) ≡ 0 ∷ 0 ∷ [])
  pub byte_on_wide : ((after fresh_of (ones 3) (word_tape 132 1) 9).memory ≡ 1 ∷ 85 ∷ 86 ∷ []) × (map upper_in (word_answers 132 1) ≡ 0 ∷ 0 ∷ [])
  -- With autoinitialize the words are at 1 and 3 upwards (95H), at 3 and 1 downwards (B5H), and then the address is the first one again.
  pub word_again : (units_of 0 (word_answers 149 1) ≡ 1 ∷ 3 ∷ []) × ((chan (word_board 149 1).dma 0).current.address ≡ 1)
      × (units_of 0 (word_answers 181 3) ≡ 3 ∷ 1 ∷ [])
      × ((chan (word_board 181 3).dma 0).current.address ≡ 3)
  -- Each channel has its own width, and channel 0 keeps the bus wide though channel 1 moves bytes.
  pub own_widths_law : (map data_in own_answers ≡ 0 ∷ 0 ∷ 0 ∷ 0 ∷ 132 ∷ 0 ∷ 133 ∷ 0 ∷ []) × (map (λ a. get_or a 0 0) own_answers ≡ 0 ∷ 0 ∷ 0 ∷ 0 ∷ 0 ∷ 0 ∷ 0 ∷ 4 ∷ [])
  -- With no room the call is refused, and the same tape with room goes on from what it left.
  pub refused_call : (fed_of board further memory 0).status ≡ 7
  pub after_refused : Further (fed_of board further memory 0).board (fed_memory board further memory 0) (answers_in (fed_answers board further memory (replicate 80 0)) 5 ++ []) (fed_memory board further memory 80)
  -- The lumps have room, and leave what one call leaves. Three bytes are kept over the empty one, and three at the end.
  pub roomy : Each Room fresh_of memory (first_lump ∷ empty_lump ∷ last_lumps)
  pub over_an_empty_lump : (lump_by_lump fresh_of memory (first_lump ∷ empty_lump ∷ [])).board.kept.length ≡ 3
  pub in_lumps : lump_by_lump fresh_of memory (first_lump ∷ empty_lump ∷ last_lumps) ≡ called fresh_of memory one_lump
  pub lumps_memory : (called fresh_of memory one_lump).memory ≡ 1 ∷ 1 ∷ 1 ∷ 1 ∷ 1 ∷ 7 ∷ 8 ∷ 9 ∷ []
  pub lumps_kept : (called fresh_of memory one_lump).board.kept ≡ record { bytes = 6 ∷ 0 ∷ 5 ∷ 0 ∷ 0 ∷ 0 ∷ 0 ∷ []; length = 3 }
  -- What the seven bytes left past the four is cleared.
  pub cleared : (lump_by_lump fresh_of [] seven_and_five).board.kept ≡ record { bytes = 1 ∷ 2 ∷ 3 ∷ 4 ∷ 0 ∷ 0 ∷ 0 ∷ []; length = 4 }
  -- Ten pulses have three rises; cut after the fourth, with which OUT0 rises, one and two.
  pub rises_of_one : rises_in 0 (step_of rising (advancing 10) []).answer ≡ 3
  pub rises_at_the_cut : rises_in 0 (step_of rising (advancing 4) []).answer ≡ 1
  pub rises_after_it : rises_in 0 (advanced_on rising [] 4 6).answer ≡ 2
  -- Counter 1 in mode 2, both bytes: the tape loads 0205H.
  pub loaded : (at (after fresh_of [] (loading 1 116 5 2) 4).board.timer 1).value ≡ 517
  -- Count 5 is loaded as 4 in mode 3, and waits for a trigger in mode 1.
  pub evenly : (at (after fresh_of [] (loading 0 22 5 0) 3).board.timer 0).value ≡ 4
  pub untriggered : (at (after fresh_of [] (loading 0 18 5 0) 3).board.timer 0).value ≡ 0
  -- A count of 4 is loaded by the next pulse in mode 0; in mode 2 one of 5, by the third, which reloads.
  pub rewritten : (at (step_of (step_of timing (writing 18 4) []).board pulsing []).board.timer 2).value ≡ 4
  pub waited : (at (after (step_of dividing (writing 16 5) []).board [] pulses 3).board.timer 0).value ≡ 5
  -- In mode 5 nothing counts before a trigger, and a trigger loads the count; one of 4, written while it runs, waits for the next trigger.
  pub unstarted : (at (step_of armed (advancing 3) []).board.timer 1).value ≡ 0
  pub triggered : (at (step_of (step_of armed (setting 1 2) []).board pulsing []).board.timer 1).value ≡ 9
  pub retriggered : (at (after (step_of started (writing 17 4) []).board [] retriggering 4).board.timer 1).value ≡ 4
  -- That tape loads the count in each mode.
  pub waves_from : (m : ℕ) → m < 6 → Loaded m 5 (at (after fresh_of [] (starting m) 5).board.timer 0)
  -- After the low byte of 0200H, a pulse and a latch, the high byte of 01FFH is read.
  pub half_read : data_in (read_at (later halved [] 0 between 2).board (later halved [] 0 between 2).memory 0).answer ≡ 1
  -- The latch shows 4 all the while.
  pub still_latched : data_in (read_at (after latched [] busy 4).board (after latched [] busy 4).memory 0).answer ≡ 4
  -- Count 2 moves three units.
  pub waiting_reached : Reached waiting
  pub serving_reached : Reached serving
  pub singly : length (units_of 0 (answers_in (after waiting [] cycles 6).answers 6)) ≡ 3
  pub demanded : length (units_of 0 (answers_in (after serving [] cycles 3).answers 3)) ≡ 3
  -- The rise is requested; the fall withdraws it, and the acknowledge is answered 47H (71), with nothing in service after it.
  pub pressed : requested (after fresh_of [] bouncing 4).board 3 ≡ true
  pub bounced : requested (after fresh_of [] bouncing 5).board 3 ≡ false
  pub answered_7 : data_in (step_of (after fresh_of [] bouncing 5).board acknowledging []).answer ≡ 71
  pub none_served : (after fresh_of [] bouncing 6).board.icu.isr ≡ 0
  -- OUT0's request comes with its rise and goes with its fall.
  pub beat : requested (after fresh_of [] beating 4).board 0 ≡ true
  pub beat_over : requested (after fresh_of [] beating 5).board 0 ≡ false
  pub next_beat : requested (after fresh_of [] beating 6).board 0 ≡ true
  -- It was acknowledged, and is requested again, though OUT0 was high before the advance and is high after it.
  pub tick_taken : requested (after fresh_of [] ticking 5).board 0 ≡ false
  pub tick_again : requested (after fresh_of [] ticking 6).board 0 ≡ true
  -- INT low by the mask: 47H, the request stays, and level 2 is lowest still. By a level in service: 47H, and level 2 alone is in service.
  pub masked_7 : data_in (step_of (after fresh_of [] masking 7).board acknowledging []).answer ≡ 71
  pub still_masked : (requested (after fresh_of [] masking 8).board 3 ≡ true) × ((after fresh_of [] masking 8).board.icu.lowest ≡ 2)
  pub outranked_7 : data_in (step_of (after fresh_of [] outranked 6).board acknowledging []).answer ≡ 71
  pub still_served : (after fresh_of [] outranked 7).board.icu.isr ≡ 4
  -- The slave's level 2 is answered 3AH (58), and ISR has bit 7 of the master and bit 2 of the slave. The slave's finish (20H at 30H) clears its own bit alone.
  pub cascading_reached : Reached cascading
  pub offered : data_in (step_of cascading acknowledging []).answer ≡ 58
  pub both_served : ((step_of cascading acknowledging []).board.icu.isr ≡ 128) × ((step_of cascading acknowledging []).board.slave.isr ≡ 4)
  pub slave_finished : ((step_of (step_of cascading acknowledging []).board (writing 48 32) []).board.slave.isr ≡ 0)
      × ((step_of (step_of cascading acknowledging []).board (writing 48 32) []).board.icu.isr ≡ 128)
  -- With nothing to offer it answers 3FH (63) and stays.
  pub idling_reached : Reached idling
  pub idle_7 : data_in (step_of idling acknowledging []).answer ≡ 63
  pub idle_stays : (step_of idling acknowledging []).board.slave ≡ idling.slave
  -- The INT of an answer is the master's: low, while the slave's is high. The master answers 47H (71), and the slave stays.
  pub master_int : (get_or (step_of deaf (reading 48) []).answer 3 0 ≡ 0) × (slave_int deaf ≡ true)
  pub deaf_7 : (data_in (step_of deaf acknowledging []).answer ≡ 71) × ((step_of deaf acknowledging []).board.slave ≡ deaf.slave)
  -- In CALL mode the slave gives its own address, CDH ACH 12H (205, 172, 18); the wrong words were refused with 4.
  pub slave_call : answers_in (after fresh_of [] calling 10).answers 10
      ≡ wrote 0 ∷ wrote 0 ∷ wrote 4 ∷ wrote 0 ∷ wrote 0 ∷ wrote 0 ∷ wrote 4 ∷ wrote 0 ∷ (0 ∷ 3 ∷ 0 ∷ 8 ∷ replicate 12 0) ∷ (0 ∷ 4 ∷ 0 ∷ 0 ∷ 205 ∷ 172 ∷ 18 ∷ replicate 9 0) ∷ []
  -- After the master's four words alone, with the slave not ready, an acknowledge is 3.
  pub unready_3 : get_or (step_of (after fresh_of [] (joined both_set) 4).board acknowledging []).answer 0 0 ≡ 3
