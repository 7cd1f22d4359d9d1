-- One bus cycle.
use Rattle.std.specs.Prelude.{ℕ, zero, suc, ◌+◌, ◌-◌, ◌*◌, ◌/◌, ◌%◌, List, Bool, true, false, not, eqb, ltb, leb, get_or, set, length, if◌then◌else◌}
use Rattle.bits.specs.Choice.{◌and◌, ◌or◌}
use Rattle.bits.specs.Bits.{bit_of, with_of, less}
use Rattle.dma.specs.declared.Span.{Span}
use Rattle.dma.specs.declared.Channel.{Channel}
use Rattle.dma.specs.declared.Dma.{Dma}
use Rattle.dma.specs.declared.Carried.{Carried}
use Rattle.dma.specs.Fields.{span, current_is, masked_is, chan, served, word, turned}
use Rattle.dma.specs.Report.{Told, nothing, granted, moved, released}

-- What a channel's mode byte says. TMODE: demand 00, single 01, and block 10, which is neither. ADIR: the address falls. AUTI:
-- autoinitialize. TDIR: device to memory 01 writes, memory to device 10 reads, and verify 00 does neither. (W/B is `word`, in Fields.antt.)
abbrev pub demand : Channel → Bool
demand c = eqb (c.mode / 64) 0

abbrev pub single : Channel → Bool
single c = eqb (c.mode / 64) 1

abbrev pub down : Channel → Bool
down c = bit_of c.mode 5

abbrev pub auto : Channel → Bool
auto c = bit_of c.mode 4

abbrev pub writes : Channel → Bool
writes c = eqb (c.mode / 4 % 4) 1

abbrev pub reads : Channel → Bool
reads c = eqb (c.mode / 4 % 4) 2

-- A channel is ready if it is not masked and its request is high.
unfoldable pub ready : Dma → ℕ → Bool
ready d n = if (chan d n).masked then false else bit_of d.requests n

-- The channel at rank k. With fixed rank channel 0 is first, with rotation the one that follows the last served, and channel 0 when rotation is
-- turned on; the others come after it in the order of their numbers, modulo 4.
unfoldable pub channel_at : Dma → ℕ → ℕ
channel_at d k = ((if d.rotate then d.first else 0) + k) % 4

-- The highest-ranked ready channel; 4 if there is none.
unfoldable pub winner_from : Dma → ℕ → ℕ → ℕ
winner_from d k zero = 4
winner_from d k (suc left) = if ready d (channel_at d k) then channel_at d k else winner_from d (suc k) left

abbrev pub winner : Dma → ℕ
winner d = winner_from d 0 4

-- What a cycle leaves.
pub record Out : Type 0 where
  pub dma : Dma
  pub memory : List ℕ
  pub report : Told

unfoldable pub nothing_of : Dma → List ℕ → Out
nothing_of d m = record { dma = d; memory = m; report = nothing }

-- A grant: channel n is served from here on, and no unit moves yet.
unfoldable pub granted_of : Dma → ℕ → List ℕ → Out
granted_of d n m =
    record { dma = turned d.channels true n d.first d.ends d; memory = m; report = granted n }

-- Once the service of n stopped: with rotation n is last, so the next number is first.
abbrev pub first_after : Dma → ℕ → ℕ
first_after d n = if d.rotate then (n + 1) % 4 else d.first

-- A release: in demand mode the served channel gives the bus back once its request is low, instead of moving a unit.
abbrev pub releases : Dma → Bool
releases d = demand (served d) and not (bit_of d.requests d.channel)

unfoldable pub released_of : Dma → List ℕ → Out
released_of d m =
    record {
      dma = turned d.channels false 0 (first_after d d.channel) d.ends d;
      memory = m;
      report = released d.channel;
    }

-- Address i is byte i of the lent memory. At or past its end a read gives FFH and a write is lost; nothing from 2^24 on is read or
-- written.
abbrev pub peek_of : List ℕ → ℕ → ℕ
peek_of m a = if ltb a 16777216 then get_or m a 255 else 255

abbrev pub poke_of : List ℕ → ℕ → ℕ → List ℕ
poke_of m a b = if ltb a 16777216 then set m a b else m

-- An address is inside the lent memory if the memory has a byte there: it is below the memory's end, and below 2^24.
abbrev pub in_memory : List ℕ → ℕ → Bool
in_memory m a = ltb a 16777216 and ltb a (length m)

-- A unit is as many bytes as its width: one, or a word's two. It starts at its address, rounded down to a whole number of units, so a word at an odd
-- address uses the even one below. (House: the bytes used are rounded, and not the register, which keeps its odd address, steps by two from it and is
-- reported so.) Its byte i, the lower 0 and a word's upper 1, is i places on.
abbrev pub size_of : Bool → ℕ
size_of word = if word then 2 else 1

abbrev pub width : Channel → ℕ
width c = size_of (word c)

abbrev pub start_of : ℕ → ℕ → ℕ
start_of w a = a / w * w

abbrev pub place : Channel → ℕ → ℕ
place c i = start_of (width c) c.current.address + i

abbrev pub has_byte : Channel → ℕ → Bool
has_byte c i = ltb i (width c)

-- Byte i of a unit: the device's x, or memory's. Verify gives 0, and so does a byte that the unit does not have. The one byte of a byte unit is the device's
-- lower one, at odd addresses too.
abbrev pub byte_of : Channel → List ℕ → ℕ → ℕ → ℕ
byte_of c m i x =
    if has_byte c i then (if writes c then x else if reads c then peek_of m (place c i) else 0) else 0

-- The memory after byte i, and after the unit: the device's lower byte is b, its upper one u.
abbrev pub stored_of : Channel → List ℕ → ℕ → ℕ → List ℕ
stored_of c m i x = if has_byte c i and writes c then poke_of m (place c i) x else m

abbrev pub memory_of : Channel → List ℕ → ℕ → ℕ → List ℕ
memory_of c m b u = stored_of c (stored_of c m 0 b) 1 u

-- A byte of a unit falls off if it is written or read at an address outside: written it is lost, read it is FFH. Verify uses no memory, and never
-- falls off. A unit falls off if either byte does.
abbrev pub off_at : Channel → List ℕ → ℕ → Bool
off_at c m i = has_byte c i and (writes c or reads c) and not (in_memory m (place c i))

abbrev pub outside_of : Channel → List ℕ → Bool
outside_of c m = off_at c m 0 or off_at c m 1

-- All of it together: what the step that moves a unit hands on.
abbrev pub carried : ℕ → ℕ → Bool → Carried
carried b u o = record { byte = b; upper = u; outside = o }

abbrev pub carried_of : Channel → List ℕ → ℕ → ℕ → Carried
carried_of c m b u = carried (byte_of c m 0 b) (byte_of c m 1 u) (outside_of c m)

-- The next unit's address is one unit further in the channel's direction, by 1 for bytes and by 2 for words, modulo 2^24; the count of units falls by
-- one, modulo 2^16.
abbrev pub stepped : ℕ → Bool → ℕ → ℕ
stepped a falls w = if falls then (a + 16777216 - w) % 16777216 else (a + w) % 16777216

abbrev pub next : Channel → Span
next c = span (stepped c.current.address (down c) (width c)) (less c.current.count)

-- The last unit is the one that finds the count at 0, or that END comes with. Service stops with the last unit, and in single
-- mode with any.
abbrev pub last_of : Channel → Bool → Bool
last_of c e = eqb c.current.count 0 or e

abbrev pub stops_of : Channel → Bool → Bool
stops_of c last = last or single c

-- A channel after a unit: it goes on; or this was the last, and it is masked, or with AUTI starts again from base.
abbrev pub going : Channel → Channel
going c = current_is (next c) c

abbrev pub ended : Channel → Channel
ended c = masked_is true (current_is (next c) c)

abbrev pub reloaded : Channel → Channel
reloaded c = current_is c.base c

abbrev pub moved_by : Channel → Bool → Bool → Channel
moved_by c last auto = if last then (if auto then reloaded c else ended c) else going c

unfoldable pub moved_of : Channel → Bool → Channel
moved_of c last = moved_by c last (auto c)

-- The last unit sets the channel's end bit.
abbrev pub ends_after : Dma → Bool → ℕ
ends_after d last = if last then with_of d.ends d.channel else d.ends

-- The chip after a unit, with the served channel now c.
abbrev pub settled_of : Dma → Channel → Bool → Bool → Dma
settled_of d c last stop =
    turned (set d.channels d.channel c)
    (not stop)
    (if stop then 0 else d.channel)
    (if stop then first_after d d.channel else d.first)
    (ends_after d last)
    d

-- One unit, by its tests: it is the last, service stops.
abbrev pub unit_by : Dma → Bool → Bool → ℕ → ℕ → List ℕ → Out
unit_by d last stop b u m =
    record {
      dma = settled_of d (moved_of (served d) last) last stop;
      memory = memory_of (served d) m b u;
      report =
          moved d.channel last stop (served d).current.address
          (byte_of (served d) m 0 b)
          (byte_of (served d) m 1 u)
          (outside_of (served d) m);
    }

unfoldable pub unit_of : Dma → Bool → ℕ → ℕ → List ℕ → Out
unit_of d e b u m = unit_by d (last_of (served d) e) (stops_of (served d) (last_of (served d) e)) b u m

-- A cycle, by its tests: serving; the served channel releases; disabled; no channel is ready.
abbrev pub cycle_by : Dma → Bool → ℕ → ℕ → List ℕ → Bool → Bool → Bool → Bool → Out
cycle_by d e b u m serving releases disabled unready =
    if serving then (if releases then released_of d m else unit_of d e b u m)
    else if disabled then nothing_of d m
    else if unready then nothing_of d m
    else granted_of d (winner d) m

-- A cycle with END e, which matters to a unit alone, and the device's bytes: b matters to a unit that goes to memory, u to a word that does.
unfoldable pub cycle_of : Dma → Bool → ℕ → ℕ → List ℕ → Out
cycle_of d e b u m = cycle_by d e b u m d.serving (releases d) d.disabled (eqb (winner d) 4)

-- Whether a cycle moves a unit of channel n, which is c, and no more: n is one of the four channels and is served, it does not release, and
-- service does not stop with the unit. Of the chip such a cycle changes that channel's current address and count alone.
unfoldable pub plain_of : Channel → Bool → ℕ → ℕ → Bool → Bool
plain_of c serving n requests e =
    serving and not (leb 4 n) and not (stops_of c (last_of c e)) and (not (demand c) or bit_of requests n)
