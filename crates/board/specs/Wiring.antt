-- The wiring of the board: OUT0 is INTP0, the slave's INT is joined to INTP7, and every change of these lines reaches the interrupt chip, the master.
use Rattle.std.specs.Prelude.{ℕ, ◌+◌, Bool, [], ◌∷◌, if◌then◌else◌}
use Rattle.bits.specs.Bits.{with_of, without_of}
use Rattle.icu.specs.declared.Icu.{Icu}
use Rattle.icu.specs.Words as IcuWords
use Rattle.icu.specs.Requests.{int_of, lines_of}
use Rattle.cascade.specs.Cascade.{joined_of, follows}
use Rattle.timer.specs.declared.Timer.{Timer}
use Rattle.timer.specs.Timer.{at, resets_of, outs_of}
use Rattle.dma.specs.declared.Dma.{Dma}
use Rattle.dma.specs.Registers as DmaRegisters
use Rattle.board.specs.declared.Kept.{Kept}
use Rattle.board.specs.declared.Board.{Board}
use Rattle.board.specs.declared.Wired.{Wired}

-- A board with another interrupt chip, other INTP levels, another slave with its lines, another timer, another DMA chip.
abbrev pub icu_is : Icu → Board → Board
icu_is c b =
    record { icu = c; intp = b.intp; slave = b.slave; slaveintp = b.slaveintp; timer = b.timer; dma = b.dma; kept = b.kept }

abbrev pub intp_is : ℕ → Board → Board
intp_is x b =
    record { icu = b.icu; intp = x; slave = b.slave; slaveintp = b.slaveintp; timer = b.timer; dma = b.dma; kept = b.kept }

abbrev pub slave_is : Icu → ℕ → Board → Board
slave_is s x b =
    record { icu = b.icu; intp = b.intp; slave = s; slaveintp = x; timer = b.timer; dma = b.dma; kept = b.kept }

abbrev pub timer_is : Timer → Board → Board
timer_is t b =
    record { icu = b.icu; intp = b.intp; slave = b.slave; slaveintp = b.slaveintp; timer = t; dma = b.dma; kept = b.kept }

abbrev pub dma_is : Dma → Board → Board
dma_is d b =
    record { icu = b.icu; intp = b.intp; slave = b.slave; slaveintp = b.slaveintp; timer = b.timer; dma = d; kept = b.kept }

-- Reset: each chip as after its own reset, INTP, the slave's lines and the DMA requests low. The bytes of a cut record stay.
abbrev pub reset_of : Board → Board
reset_of b =
    record {
      icu = IcuWords.reset_of;
      intp = 0;
      slave = IcuWords.reset_of;
      slaveintp = 0;
      timer = resets_of;
      dma = DmaRegisters.reset_of;
      kept = b.kept;
    }

abbrev pub nothing_kept : Kept
nothing_kept = record { bytes = 0 ∷ 0 ∷ 0 ∷ 0 ∷ 0 ∷ 0 ∷ 0 ∷ []; length = 0 }

-- A board that was never fed.
unfoldable pub fresh_of : Board
fresh_of =
    record {
      icu = IcuWords.reset_of;
      intp = 0;
      slave = IcuWords.reset_of;
      slaveintp = 0;
      timer = resets_of;
      dma = DmaRegisters.reset_of;
      kept = nothing_kept;
    }

-- The eight lines of the interrupt chip: INTP1 to INTP7 as it has them (below), and OUT0 as line 0.
abbrev pub lines_by : ℕ → Bool → ℕ
lines_by intp out0 = if out0 then with_of intp 0 else without_of intp 0

unfoldable pub lines_at : ℕ → Timer → ℕ
lines_at intp t = lines_by intp (at t 0).out

-- INTP as the master has them: with the slave's INT on line 7.
abbrev pub joined : Board → ℕ
joined b = joined_of b.intp b.slave b.slaveintp

abbrev pub lines : Board → ℕ
lines b = lines_at (joined b) b.timer

-- The levels that an answer shows: OUT0 to OUT2 in bits 0 to 2, INT in bit 3. It is the master's INT.
abbrev pub int : Board → Bool
int b = int_of b.icu (lines b)

abbrev pub levels_at : Icu → ℕ → Timer → ℕ
levels_at c intp t = if int_of c (lines_at intp t) then outs_of t + 8 else outs_of t

unfoldable pub levels_of : Board → ℕ
levels_of b = levels_at b.icu (joined b) b.timer

-- The record has made d of the board b, and the master has yet to see its lines: they go from those of b to those of d, once. (An advance does this at each pulse: Advance.antt.)
abbrev pub followed : Board → Board → Board
followed b d = icu_is (follows d.icu (lines b) (lines d)) d

-- What `followed` does to the interrupt chip, without the board: the chip after the change, and the levels.
abbrev pub wired_to : Icu → ℕ → ℕ → Timer → Wired
wired_to c was intp t =
    record { icu = lines_of c was (lines_at intp t); levels = levels_at (lines_of c was (lines_at intp t)) intp t }
