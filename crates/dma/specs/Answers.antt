-- What a write and a read answer, in numbers: the status, which is 0 where it is done, and the chip afterwards, which a refusal leaves as it was.
use Rattle.std.specs.Prelude.{ℕ, Result, Ok, Err}
use Rattle.dma.specs.declared.Dma.{Dma}
use Rattle.dma.specs.declared.Shown.{Shown}
use Rattle.dma.specs.declared.Refusal.{Refusal}
use Rattle.dma.specs.declared.Refusal.TheVariants.{NotThere, NotBuilt}

pub record Written : Type 0 where
  pub status : ℕ
  pub dma : Dma

pub record Got : Type 0 where
  pub status : ℕ
  pub byte : ℕ
  pub dma : Dma

-- The same without the chip, of which a read changes the end bits at the most: they stand here as they are after it.
pub record Seen : Type 0 where
  pub status : ℕ
  pub byte : ℕ
  pub ends : ℕ

-- The numbers: 2 where the register is not there, 4 not built.
abbrev pub status_of : Refusal → ℕ
status_of NotThere = 2
status_of NotBuilt = 4

abbrev pub written_as : Dma → Result Dma Refusal → Written
written_as d (Ok after) = record { status = 0; dma = after }
written_as d (Err e) = record { status = status_of e; dma = d }

abbrev pub got_as : Dma → Result (ℕ × Dma) Refusal → Got
got_as d (Ok (x, after)) = record { status = 0; byte = x; dma = after }
got_as d (Err e) = record { status = status_of e; byte = 0; dma = d }

abbrev pub shown_as : Dma → Result Shown Refusal → Seen
shown_as d (Ok s) = record { status = 0; byte = s.byte; ends = s.ends }
shown_as d (Err e) = record { status = status_of e; byte = 0; ends = d.ends }
