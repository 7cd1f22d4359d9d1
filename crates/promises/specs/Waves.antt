-- OUT of a counter that is left alone, with GATE high, from the pulse that loads a count on: one law over all six modes.
use Rattle.std.specs.Prelude.{◌≡◌, List, Bool, true, false, not, ℕ, ◌+◌, ◌-◌, ◌/◌, ◌%◌, ◌≤◌, ◌<◌, eqb, ltb, leb, if◌then◌else◌}
use Rattle.bits.specs.Choice.{◌or◌}
use Rattle.timer.specs.declared.Counter.{Counter}
use Rattle.timer.specs.Modes.{mode_of}
use Rattle.timer.specs.Ports.{mode_set, completed, size_of}
use Rattle.timer.specs.Pulse.{pulse_of, gate_of}
use Rattle.timer.specs.Run.{ran_of}
use Rattle.timer.specs.Timer.{at}
use Rattle.board.specs.declared.Board.{Board}
use Rattle.board.specs.Step.{step_of}
use Rattle.promises.specs.Records.{advancing}
use Rattle.promises.specs.TaughtWords.{loads_as}
use Rattle.promises.specs.Modes.{rises_in}

-- The counter c right after the pulse that loaded the written count w in mode m. The value is w, in mode 3 without its lowest bit; OUT is low in modes 0 and 1, and
-- high in the others (in mode 3 a load that begins a high half is meant). Nothing pends, and in mode 0 no count is half written.
pub record Loaded (m w : ℕ) (c : Counter) : Type 0 where
  pub mode : c.mode ≡ m
  pub count : c.count ≡ w
  pub value : c.value ≡ loads_as m w
  pub odd : m ≡ 3 → c.odd ≡ eqb (w % 2) 1
  pub out : c.out ≡ not (ltb m 2)
  pub full : c.full ≡ true
  pub pending : c.pending ≡ false
  pub trigger : c.trigger ≡ false
  pub whole : m ≡ 0 → c.half ≡ false
  pub gate : c.gate ≡ true

-- What starts a counter whose count is complete: in modes 1 and 5 a fall and a rise of GATE, in the others nothing more.
abbrev pub started : ℕ → Counter → Counter
started m c = if eqb m 1 or eqb m 5 then gate_of (gate_of c false) true else c

-- OUT k pulses after the one that loads, for a count of N. (Where the sheet has n+1, it counts the loading pulse too.)
--   0 and 1   low for N pulses, then high
--   2         low for one pulse in N, the last
--   3         high for N/2 rounded up, then low for N/2 rounded down, and so on
--   4 and 5   low for one pulse after N, and again each 65,536 pulses later; the load itself, k = 0, is no strobe
abbrev pub out_after : ℕ → ℕ → ℕ → Bool
out_after m N k =
    if ltb m 2 then leb N k
    else if eqb m 2 then not (eqb (k % N) (N - 1))
    else if eqb m 3 then ltb (k % N) ((N + 1) / 2)
    else eqb k 0 or not (eqb (k % 65536) (N % 65536))

-- How many of the k pulses made it rise.
abbrev pub rises_after : ℕ → ℕ → ℕ → ℕ
rises_after m N k =
    if ltb m 2 then (if leb N k then 1 else 0)
    else if ltb m 4 then k / N
    else (k + 65535 - N) / 65536

-- On the tape: an advance by k pulses leaves OUT of counter n so, and reports so many rises of it.
pub record Waved (b : Board) (memory : List ℕ) (n m N k : ℕ) : Type 0 where
  pub out : (at (step_of b (advancing k) memory).board.timer n).out ≡ out_after m N k
  pub rises : rises_in n (step_of b (advancing k) memory).answer ≡ rises_after m N k

pub record Waves : Type 0 where
  -- From any counter with GATE high: a mode word, a complete count, what starts the mode, and one pulse.
  -- Not so: a counter that takes the count at the write, and has counted once by then; one that loads an odd value in mode 3.
  pub loads : (m f w : ℕ) (c : Counter) → m < 6 → c.gate ≡ true → Loaded m w (pulse_of (started m (completed (mode_set m f c) w)))
  -- And from any counter in a mode with triggers, while one pends and no first count does: the last complete count, also one that was written meanwhile.
  -- Not so: a counter in mode 5 that goes on with the old count; one in mode 2 that leaves OUT low.
  pub retriggers : (c : Counter) → c.full ≡ true → c.gate ≡ true → c.trigger ≡ true → c.pending ≡ false → (mode_of c.mode).triggers ≡ true
      → Loaded c.mode c.count (pulse_of c)
  -- From there on, for every count that the mode takes and any number of pulses.
  -- Not so: a counter in mode 2 whose period is a pulse too long; one in mode 3 whose odd halves are the wrong way round; one that strobes for two pulses.
  pub wave : (m w : ℕ) (c : Counter) → m < 6 → w < 65536 → (mode_of m).least ≤ size_of w → Loaded m w c
      → (k : ℕ)
      → ((ran_of c k).counter.out ≡ out_after m (size_of w) k) × ((ran_of c k).rises ≡ rises_after m (size_of w) k)
  -- The same on the tape, whatever the other counters do.
  -- Not so: a board whose counter 1 is clocked by OUT0; one that reports the rises of counter 0 for counter 2.
  pub waved : (b : Board) (memory : List ℕ) (n m w k : ℕ) → n < 3 → m < 6 → w < 65536 → (mode_of m).least ≤ size_of w → Loaded m w (at b.timer n)
      → k < 65536
      → Waved b memory n m (size_of w) k
  -- A written 0 means 65,536, in every mode.
  -- Not so: a counter that is at its end at once when 0 is loaded; one that counts 65,535.
  pub written_0 : (m : ℕ) (c : Counter) → m < 6 → Loaded m 0 c
      → (k : ℕ)
      → ((ran_of c k).counter.out ≡ out_after m 65536 k) × ((ran_of c k).rises ≡ rises_after m 65536 k)
