-- The request lines, IRR and INT.
use Rattle.std.specs.Prelude.{ℕ, Bool, true, if◌then◌else◌}
use Rattle.std.specs.Int.Bits.{bit_or}
use Rattle.bits.specs.Choice.{◌and◌, every, some}
use Rattle.bits.specs.Bits.{bit_of, masked_of}
use Rattle.icu.specs.declared.Icu.{Icu}
use Rattle.icu.specs.Fields.{edges_is}
use Rattle.icu.specs.Ranks.{outranks}
use Rattle.icu.specs.Words.{ready, lev}

-- IRR: in level trigger the lines, in edge trigger the requests that rises made, that no fall has withdrawn and no acknowledge has taken. The mask does not touch it.
unfoldable pub irr_of : Icu → ℕ → ℕ
irr_of c lines = if lev c then lines else c.edges

-- The levels requested and unmasked.
unfoldable pub asked_of : Icu → ℕ → ℕ
asked_of c lines = masked_of (irr_of c lines) c.imr

-- Level n outranks every level in service.
abbrev pub outranks_all : Icu → ℕ → Bool
outranks_all c n = every (λ m. if bit_of c.isr m then outranks c.lowest n m else true) 8

-- INT: the chip is ready, and among the levels asked for there is one that outranks all those in service.
unfoldable pub int_of : Icu → ℕ → Bool
int_of c lines = ready c and some (λ n. bit_of (asked_of c lines) n and outranks_all c n) 8

-- The lines that were low and are high, and those that were high and are low.
abbrev pub rises : ℕ → ℕ → ℕ
rises was now = masked_of now was

abbrev pub falls : ℕ → ℕ → ℕ
falls was now = masked_of was now

-- The lines change. In edge trigger, while the chip is ready, each line that rises makes a request, and each line that falls withdraws its own, masked or not:
-- a line has to be held until its request is acknowledged. Apart from a fall, only its acknowledge, IW1 or reset ends a request.
unfoldable pub lines_of : Icu → ℕ → ℕ → Icu
lines_of c was now =
    if ready c then
    (if lev c then c else edges_is (masked_of (bit_or c.edges (rises was now)) (falls was now)) c)
    else c
