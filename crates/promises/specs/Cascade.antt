-- The slave on line 7.
--
-- Words.antt has line_high (a line of the master), asked_for and Highest; Table.antt has extended (a chip is ready, with IW1's D1=0) and unanswered (the set-ups in which an acknowledge is out of turn);
-- Meant.antt has Names (an acknowledge is answered as a level of a chip) and Outranking (a level that outranks all that a chip has in service); OneChip.antt has the board with one chip.
use Rattle.std.specs.Prelude.{◌≡◌, ◌↔◌, ◌≢◌, List, Bool, true, false, not, ℕ, ◌+◌, ◌<◌, eqb, get_or, if◌then◌else◌}
use Rattle.bits.specs.Choice.{◌and◌, ◌or◌}
use Rattle.bits.specs.Bits.{bit_of}
use Rattle.icu.specs.Fields.{edges_is}
use Rattle.icu.specs.Words.{reset_of}
use Rattle.icu.specs.Requests.{int_of}
use Rattle.icu.specs.Service.{served_of}
use Rattle.board.specs.declared.Board.{Board}
use Rattle.board.specs.Wiring.{fresh_of, int}
use Rattle.board.specs.Step.{step_of, step_memory}
use Rattle.board.specs.Records.{record_at, after}
use Rattle.promises.specs.Records.{writing, setting, acknowledging, advancing}
use Rattle.promises.specs.Words.{Highest, line_high, asked_for}
use Rattle.promises.specs.Reached.{Reached, Typed}
use Rattle.promises.specs.Table.{extended, unanswered}
use Rattle.promises.specs.Meant.{Names, Outranking}
use Rattle.promises.specs.OneChip.{One, fresh_one, names_slave, starts_extended, after_one}

-- The slave's INT; what is requested of it and asked for, by its own lines and registers.
abbrev pub slave_int : Board → Bool
slave_int b = int_of b.slave b.slaveintp

abbrev pub slave_requested : Board → ℕ → Bool
slave_requested b k = if bit_of b.slave.iw1 3 then bit_of b.slaveintp k else bit_of b.slave.edges k

abbrev pub slave_asked : Board → ℕ → Bool
slave_asked b k = slave_requested b k and not (bit_of b.slave.imr k)

-- The chips and lines of the board but for the slave and its lines.
abbrev pub alone : Board → One
alone b = record { icu = b.icu; intp = b.intp; timer = b.timer; dma = b.dma }

-- Nothing was made of the slave since reset, and the master is not extended: its IW1, if it had one (at stage 0 it had none), has D1=1.
pub record Lone (b : Board) : Type 0 where
  pub slave : b.slave ≡ reset_of
  pub lines : b.slaveintp ≡ 0
  pub single : (eqb b.icu.stage 0 or bit_of b.icu.iw1 1) ≡ true
  pub no_iw3 : b.icu.stage < 4

-- A record that does not name the slave, and writes no IW1 with D1=0.
abbrev pub without_slave : List ℕ → Bool
without_slave r = not (names_slave r) and not (starts_extended r)

-- Level 7 is taken by an extended master and passed on. What each chip does, and what is left as it was.
pub record Passes (b : Board) (m : List ℕ) : Type 0 where
  -- The master is as after any level that it takes: as line 7 follows, it sees no rise, whether the slave's INT falls or stays high. So it sets ISR bit 7, but not in self-FI, where with rotation 7 becomes lowest; its
  -- request 7 goes.
  pub master : (step_of b acknowledging m).board.icu ≡ served_of b.icu 7
  pub master_isr : (k : ℕ) → k < 8
      → bit_of (step_of b acknowledging m).board.icu.isr k ≡ (bit_of b.icu.isr k or (not b.icu.sfi and eqb k 7))
  pub master_lowest : (step_of b acknowledging m).board.icu.lowest ≡ (if b.icu.sfi and b.icu.rotation then 7 else b.icu.lowest)
  pub master_request : bit_of (step_of b acknowledging m).board.icu.edges 7 ≡ false
  -- With its INT high the slave takes its own highest-ranked level, by the rules of any such chip, and names it.
  pub offers : slave_int b ≡ true
      → (n : ℕ)
      × Highest (slave_asked b) b.slave.lowest n
      × Names b.slave b m n
      × ((step_of b acknowledging m).board.slave ≡ served_of b.slave n)
  -- With nothing to offer it names its level 7, and stays as it is.
  pub idle : slave_int b ≡ false → Names b.slave b m 7 × ((step_of b acknowledging m).board.slave ≡ b.slave)
  -- Neither the lines nor the other chips change.
  pub lines : ((step_of b acknowledging m).board.intp ≡ b.intp) × ((step_of b acknowledging m).board.slaveintp ≡ b.slaveintp)
  pub others : ((step_of b acknowledging m).board.timer ≡ b.timer) × ((step_of b acknowledging m).board.dma ≡ b.dma)
  pub memory : step_memory b acknowledging m ≡ m

-- What it takes for an acknowledge to change the slave.
pub record MayChangeSlave (b : Board) : Type 0 where
  pub master_extended : extended b.icu ≡ true
  pub slave_extended : extended b.slave ≡ true
  pub master_high : int b ≡ true
  pub level_7 : Highest (asked_for b) b.icu.lowest 7
  pub slave_high : slave_int b ≡ true

-- The record r leaves the master but for its request 7, and all that is not the slave's.
pub record MasterKept (b : Board) (r m : List ℕ) : Type 0 where
  pub master : (step_of b r m).board.icu ≡ edges_is (step_of b r m).board.icu.edges b.icu
  pub requests : (k : ℕ) → k < 7 → bit_of (step_of b r m).board.icu.edges k ≡ bit_of b.icu.edges k
  pub intp : (step_of b r m).board.intp ≡ b.intp
  pub others : ((step_of b r m).board.timer ≡ b.timer) × ((step_of b r m).board.dma ≡ b.dma)
  pub memory : step_memory b r m ≡ m

pub record Cascade : Type 0 where
  -- A tape that names neither 30H-31H nor group 3, and writes no IW1 with D1=0, is answered as by the board with one chip, byte for byte; memory, chips and lines are that board's, too. It is so from
  -- reset, and from any board on which nothing was made of the slave and whose master is not extended. (The records of a call: Demand1.antt, Taken.)
  -- Not so: a board on which the acknowledge of a single master waits for the slave to be set up; one whose slave holds line 7 high from reset; one that waits for an IW3 in single mode.
  pub one_chip : (b : Board) → Lone b → (m s : List ℕ) (n : ℕ)
      → ((i : ℕ) → i < n → without_slave (record_at s i) ≡ true)
      → ((after b m s n).answers ≡ (after_one (alone b) m s n).answers)
      × ((after b m s n).memory ≡ (after_one (alone b) m s n).memory)
      × (alone (after b m s n).board ≡ (after_one (alone b) m s n).one)
      × Lone (after b m s n).board
  pub one_chip_fresh : Lone fresh_of × (alone fresh_of ≡ fresh_one)
  -- Line 7 of the master is INTP7 or the slave's INT, whatever record came before; the others are INTP1 to INTP6 (and OUT0). Since nothing keeps a line's level, it is so at the end of every record. What the master makes of its
  -- lines: Withdrawn.antt in edge trigger; Meant.antt, int_rule, and Taught.antt, masking_hides_nothing, in level trigger.
  -- Not so: a board on which INTP7 hides the slave; one on which the slave's INT takes the place of INTP7.
  pub line_7 : (b : Board) → b.intp < 256 → line_high b 7 ≡ (bit_of b.intp 7 or slave_int b)
  pub other_lines : (b : Board) → b.intp < 256 → (k : ℕ) → k < 7 → k ≢ 0 → line_high b k ≡ bit_of b.intp k
  -- And after every pulse: n pulses, whatever n is, leave the slave, its lines and INTP, so line 7 too, and make or withdraw no request but that of level 0. (Each pulse of an advance ends an advance: Chopped.antt, advance_in_two.)
  -- Not so: a board on which a pulse resets the slave; one on which line 7 blinks with OUT0.
  pub line_7_pulse : (b : Board) → Typed b → (m : List ℕ) (n : ℕ) → n < 65536
      → let d = (step_of b (advancing n) m).board in
      (d.slave ≡ b.slave)
      × (d.slaveintp ≡ b.slaveintp)
      × (d.intp ≡ b.intp)
      × (line_high d 7 ≡ (bit_of b.intp 7 or slave_int b))
      × ((k : ℕ) → k < 8 → k ≢ 0 → bit_of d.icu.edges k ≡ bit_of b.icu.edges k)
  -- The slave's INT, by the rule of any such chip: it is ready, and some level that its lines and its mask ask for outranks all that it has in service.
  -- Not so: a board on which a slave that awaits a word asks; one on which the master's mask counts for it.
  pub slave_int_law : {b : Board} → Reached b → (slave_int b ≡ true) ↔ ((b.slave.stage ≡ 3) × Outranking (slave_asked b) b.slave)
  -- Its requests in edge trigger, by its lines: a rise makes one, a fall withdraws one.
  -- Not so: a board on which a fall leaves the slave's request; one on which line 0 of the slave is OUT0.
  pub slave_lines_law : {b : Board} → Reached b → (m : List ℕ) (l k : ℕ) → l < 256 → k < 8 → b.slave.stage ≡ 3 → bit_of b.slave.iw1 3 ≡ false
      → bit_of (step_of b (setting 3 l) m).board.slave.edges k
      ≡ ((bit_of b.slave.edges k or (bit_of l k and not (bit_of b.slaveintp k))) and not (bit_of b.slaveintp k and not (bit_of l k)))
  -- An acknowledge changes the slave only if both chips are extended, level 7 is taken and the slave's INT is high. (Not always then: in self-FI without rotation a slave in level trigger has nothing to change.)
  -- Not so: a board on which an acknowledge of level 3 takes the slave's request; one on which a slave with nothing to offer sets its ISR bit, or rotates.
  pub slave_only_if : {b : Board} → Reached b → (m : List ℕ) → (step_of b acknowledging m).board.slave ≢ b.slave → MayChangeSlave b
  -- No other record but a reset changes the slave, unless it names it: not a write to the master, its IW1 and finish commands too, not INTP, gates or pulses.
  -- Not so: a board on which the master's IW1 resets the slave; one on which a pulse does.
  pub slave_kept : (b : Board) (r m : List ℕ) → names_slave r ≡ false → get_or r 0 0 ≢ 0 → get_or r 0 0 ≢ 4
      → ((step_of b r m).board.slave ≡ b.slave) × ((step_of b r m).board.slaveintp ≡ b.slaveintp)
  -- An acknowledge in turn, on an extended master, that takes level 7.
  -- Not so: a board on which the master gives the bytes for 7; one on which the slave's acknowledge sets no bit of the master.
  pub passed_on_law : {b : Board} → Reached b → (m : List ℕ) → b.dma.serving ≡ false → unanswered b ≡ false → extended b.icu ≡ true → int b ≡ true
      → Highest (asked_for b) b.icu.lowest 7
      → Passes b m
  -- A write to the slave, a finish command or any other, and a change of its lines leave the master and all else: all that can change is the master's request 7, with line 7.
  -- Not so: a board on which the slave's finish clears the master's bit; one on which the slave's IW1 starts the master again, or its MCW chooses what the master's reads show.
  pub slave_written_law : {b : Board} → Reached b → (m : List ℕ) (a x : ℕ) → a < 2 → x < 256 → MasterKept b (writing (48 + a) x) m
  pub slave_lined : {b : Board} → Reached b → (m : List ℕ) (l : ℕ) → l < 256 → MasterKept b (setting 3 l) m
