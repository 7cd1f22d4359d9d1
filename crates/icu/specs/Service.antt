-- Acknowledging an interrupt, and reads.
use Rattle.std.specs.Prelude.{ℕ, ◌+◌, ◌*◌, ◌/◌, ◌%◌, Bool, if◌then◌else◌, Option, Some, None}
use Rattle.bits.specs.Bits.{with_of, without_of}
use Rattle.icu.specs.declared.Icu.{Icu}
use Rattle.icu.specs.Fields.{edges_is, isr_is, lowest_is}
use Rattle.icu.specs.Answers.{Told, telling, calling, refused}
use Rattle.icu.specs.Ranks.{highest_of}
use Rattle.icu.specs.Words.{ready, ag4}
use Rattle.icu.specs.Requests.{irr_of, asked_of, int_of}

-- The level that an acknowledge takes while INT is high: the highest-ranked one requested and unmasked.
abbrev pub takes : Icu → ℕ → ℕ
takes c lines = highest_of (asked_of c lines) c.lowest

-- Its edge request goes and its ISR bit is set. In self-FI the ISR bit is left clear and, with rotation, the level becomes lowest.
unfoldable pub served_of : Icu → ℕ → Icu
served_of c n =
    if c.sfi then
    (if c.rotation then lowest_is n (edges_is (without_of c.edges n) c) else edges_is (without_of c.edges n) c)
    else isr_is (with_of c.isr n) (edges_is (without_of c.edges n) c)

-- The chip once a level is taken, or none.
abbrev pub served_by : Icu → Option ℕ → Icu
served_by c (Some n) = served_of c n
served_by c None = c

-- Vector mode: the upper five bits of IW2, then the level.
unfoldable pub vector_of : Icu → ℕ → ℕ
vector_of c n = c.iw2 / 8 * 8 + n % 8

-- CALL mode, the low address byte: A7-A5 of IW1 with a gap of 4, A7-A6 with a gap of 8. The high one is IW2.
unfoldable pub call_low_of : Icu → ℕ → ℕ
call_low_of c n = if ag4 c then c.iw1 / 32 * 32 + (n % 8) * 4 else c.iw1 / 64 * 64 + (n % 8) * 8

-- The chip d, with the bytes by which c names level n to the processor: a vector, or a CALL.
abbrev pub naming : Icu → ℕ → Icu → Told
naming c n d = if c.vector then telling d (vector_of c n) else calling d (call_low_of c n) c.iw2

-- Acknowledge: out of turn before the chip is ready. With INT low, whether nothing is requested or what is requested is masked or outranked, the chip
-- answers as level 7 and stays as it was: no ISR bit is set, no request goes, and nothing rotates.
unfoldable pub acknowledge_of : Icu → ℕ → Told
acknowledge_of c lines =
    if ready c then
    (if int_of c lines then naming c (takes c lines) (served_of c (takes c lines)) else naming c 7 c)
    else refused 3 c

-- A read, out of turn before the chip is ready: IMR at A0=1; at A0=0 IRR or ISR, as MCW chose.
unfoldable pub read_of : Icu → Bool → ℕ → Told
read_of c a0 lines =
    if ready c then
    (if a0 then telling c c.imr else if c.showsisr then telling c c.isr else telling c (irr_of c lines))
    else refused 3 c
