-- The range of each field of a board: the values that some board reached from reset has there. A field that is not named here has
-- every value of its type.
use Rattle.std.specs.Prelude.{ℕ, ◌%◌, Bool, not, eqb, ltb}
use Rattle.bits.specs.Choice.{◌and◌, ◌or◌}
use Rattle.bits.specs.Bits.{bit_of}
use Rattle.icu.specs.declared.Icu.{Icu}
use Rattle.timer.specs.declared.Counter.{Counter}
use Rattle.timer.specs.declared.Timer.{Timer}
use Rattle.timer.specs.Timer.{at}
use Rattle.dma.specs.declared.Channel.{Channel}
use Rattle.dma.specs.declared.Dma.{Dma}
use Rattle.dma.specs.Fields.{chan}
use Rattle.dma.specs.Registers.{unbuilt_mode}
use Rattle.board.specs.declared.Board.{Board}

-- An interrupt chip, master or slave: five stages, eight lowest levels, and an IW1 that was taken (D4 set) or none.
unfoldable pub iw1_good : ℕ → Bool
iw1_good x = eqb x 0 or bit_of x 4

unfoldable pub icu_good : Icu → Bool
icu_good c = ltb c.stage 5 and ltb c.lowest 8 and iw1_good c.iw1

-- A counter: formats 0 (none yet) to 3; modes 0 to 5 and none (255).
unfoldable pub counter_good : Counter → Bool
counter_good c = ltb c.format 4 and (ltb c.mode 6 or eqb c.mode 255)

unfoldable pub timer_good : Timer → Bool
timer_good t = counter_good (at t 0) and counter_good (at t 1) and counter_good (at t 2)

-- A channel: addresses of 24 bits, and one of the 72 modes that are built. (One of words is in range on the 8-bit bus, too, though no tape leads there: each field is
-- tested by itself.)
unfoldable pub channel_good : Channel → Bool
channel_good c =
    ltb c.current.address 16777216 and ltb c.base.address 16777216 and not (unbuilt_mode c.mode)

unfoldable pub channels_good : Dma → Bool
channels_good d =
    channel_good (chan d 0) and channel_good (chan d 1) and channel_good (chan d 2) and channel_good (chan d 3)

-- The DMA chip: channel numbers below 4, and a bit for each of four channels.
unfoldable pub dma_good : Dma → Bool
dma_good d =
    ltb d.selected 4 and ltb d.first 4 and ltb d.channel 4 and ltb d.requests 16 and ltb d.ends 16 and channels_good d

-- The board: at most seven kept bytes, and INTP without a bit 0. The slave's lines are any byte.
unfoldable pub in_range : Board → Bool
in_range b =
    ltb b.kept.length 8
    and eqb (b.intp % 2) 0
    and icu_good b.icu
    and icu_good b.slave
    and timer_good b.timer
    and dma_good b.dma
