-- The ranges are exact: the values that some board reached from reset has in a field are those of the field's range, and no others. docs/RANGES.md
-- lists them in the same order.
use Rattle.std.specs.Prelude.{ℕ, ◌/◌, ◌%◌, ◌<◌, ◌≡◌, ◌↔◌, Bool, true, not, [], ◌∷◌, eqb, get_or, if◌then◌else◌}
use Rattle.bits.specs.Choice.{◌and◌, ◌or◌}
use Rattle.bits.specs.Bits.{bit_of}
use Rattle.icu.specs.declared.Icu.{Icu}
use Rattle.timer.specs.declared.Counter.{Counter}
use Rattle.timer.specs.Timer.{at}
use Rattle.dma.specs.declared.Channel.{Channel}
use Rattle.dma.specs.Fields.{chan}
use Rattle.board.specs.declared.Board.{Board}
use Rattle.promises.specs.Table.{among}
use Rattle.intake.specs.Ranges.{in_range}
use Rattle.promises.specs.Reached.{Reached, Typed}

-- The field f has the value v on some board reached from reset.
pub record Has (f : Board → ℕ) (v : ℕ) : Type 0 where
  pub on : Board
  pub reached : Reached on
  pub value : f on ≡ v

-- The values of f are those of the set, and no others.
abbrev pub Exactly : (Board → ℕ) → (ℕ → Type 0) → Type 0
Exactly f set = (v : ℕ) → Has f v ↔ set v

abbrev pub Below : ℕ → ℕ → Type 0
Below n v = v < n

-- A level or a flag counts as 0 or 1, and is both.
abbrev pub Both : (Board → Bool) → Type 0
Both f = Exactly (λ b. if f b then 1 else 0) (Below 2)

-- Interrupt chip n (0 the master, 1 the slave), counter n, and channel n.
abbrev pub chip : ℕ → Board → Icu
chip n b = if eqb n 0 then b.icu else b.slave

abbrev pub counter : ℕ → Board → Counter
counter n b = at b.timer n

abbrev pub channel_of : ℕ → Board → Channel
channel_of n b = chan b.dma n

-- IW1: none yet (00H), or a byte with D4 set. INTP: bit 0 is clear. A channel's mode: D7-D6 and D3-D2 are not 11, D1 is clear.
abbrev pub iw1s : ℕ → Bool
iw1s v = eqb v 0 or bit_of v 4

abbrev pub evens : ℕ → Bool
evens v = eqb (v % 2) 0

abbrev pub modes : ℕ → Bool
modes v = not (eqb (v / 64) 3) and not (eqb (v / 4 % 4) 3) and eqb (v / 2 % 2) 0

-- The bytes that pass a test.
abbrev pub ByteWith : (ℕ → Bool) → ℕ → Type 0
ByteWith test v = (v < 256) × (test v ≡ true)

-- The same sets, as far as a field's type does not see to them, of one board: what a call tests before anything else.
pub record Within (b : Board) : Type 0 where
  pub stage : (n : ℕ) → n < 2 → (chip n b).stage < 5
  pub iw1 : (n : ℕ) → n < 2 → iw1s (chip n b).iw1 ≡ true
  pub lowest : (n : ℕ) → n < 2 → (chip n b).lowest < 8
  pub intp : evens b.intp ≡ true
  pub mode : (n : ℕ) → n < 3 → among (counter n b).mode (0 ∷ 1 ∷ 2 ∷ 3 ∷ 4 ∷ 5 ∷ 255 ∷ []) ≡ true
  pub format : (n : ℕ) → n < 3 → (counter n b).format < 4
  pub address : (n : ℕ) → n < 4 → (channel_of n b).current.address < 16777216
  pub base_address : (n : ℕ) → n < 4 → (channel_of n b).base.address < 16777216
  pub channel_mode : (n : ℕ) → n < 4 → modes (channel_of n b).mode ≡ true
  pub selected : b.dma.selected < 4
  pub first : b.dma.first < 4
  pub channel : b.dma.channel < 4
  pub requests : b.dma.requests < 16
  pub ends : b.dma.ends < 16
  pub kept_length : b.kept.length < 8

pub record Exact : Type 0 where
  -- A call tests each field for its set, and for nothing else. (Where the test fails it is refused with 7: `row-7` of demand 1.)
  -- Not so: a board that lets an odd INTP pass; one that refuses a combination that no tape leads to.
  pub tested : (b : Board) → Typed b → (in_range b ≡ true) ↔ Within b
  -- Interrupt chip n, INTP, and the slave's lines.
  pub stage : (n : ℕ) → n < 2 → Exactly (λ b. (chip n b).stage) (Below 5)
  pub iw1 : (n : ℕ) → n < 2 → Exactly (λ b. (chip n b).iw1) (ByteWith iw1s)
  pub iw2 : (n : ℕ) → n < 2 → Exactly (λ b. (chip n b).iw2) (Below 256)
  pub sfi : (n : ℕ) → n < 2 → Both (λ b. (chip n b).sfi)
  pub vector : (n : ℕ) → n < 2 → Both (λ b. (chip n b).vector)
  pub rotation : (n : ℕ) → n < 2 → Both (λ b. (chip n b).rotation)
  pub showsisr : (n : ℕ) → n < 2 → Both (λ b. (chip n b).showsisr)
  pub edges : (n : ℕ) → n < 2 → Exactly (λ b. (chip n b).edges) (Below 256)
  pub isr : (n : ℕ) → n < 2 → Exactly (λ b. (chip n b).isr) (Below 256)
  pub imr : (n : ℕ) → n < 2 → Exactly (λ b. (chip n b).imr) (Below 256)
  pub lowest : (n : ℕ) → n < 2 → Exactly (λ b. (chip n b).lowest) (Below 8)
  pub intp : Exactly (λ b. b.intp) (ByteWith evens)
  pub slaveintp : Exactly (λ b. b.slaveintp) (Below 256)
  -- Counter n. Its mode is 0 to 5, or 255, none yet.
  pub mode : (n : ℕ) → n < 3 → Exactly (λ b. (counter n b).mode) (λ v. among v (0 ∷ 1 ∷ 2 ∷ 3 ∷ 4 ∷ 5 ∷ 255 ∷ []) ≡ true)
  pub format : (n : ℕ) → n < 3 → Exactly (λ b. (counter n b).format) (Below 4)
  pub value : (n : ℕ) → n < 3 → Exactly (λ b. (counter n b).value) (Below 65536)
  pub count : (n : ℕ) → n < 3 → Exactly (λ b. (counter n b).count) (Below 65536)
  pub latch : (n : ℕ) → n < 3 → Exactly (λ b. (counter n b).latch) (Below 65536)
  pub low : (n : ℕ) → n < 3 → Exactly (λ b. (counter n b).low) (Below 256)
  pub full : (n : ℕ) → n < 3 → Both (λ b. (counter n b).full)
  pub pending : (n : ℕ) → n < 3 → Both (λ b. (counter n b).pending)
  pub trigger : (n : ℕ) → n < 3 → Both (λ b. (counter n b).trigger)
  pub half : (n : ℕ) → n < 3 → Both (λ b. (counter n b).half)
  pub latched : (n : ℕ) → n < 3 → Both (λ b. (counter n b).latched)
  pub second : (n : ℕ) → n < 3 → Both (λ b. (counter n b).second)
  pub gate : (n : ℕ) → n < 3 → Both (λ b. (counter n b).gate)
  pub out : (n : ℕ) → n < 3 → Both (λ b. (counter n b).out)
  pub odd : (n : ℕ) → n < 3 → Both (λ b. (counter n b).odd)
  -- Channel n of the DMA chip.
  pub address : (n : ℕ) → n < 4 → Exactly (λ b. (channel_of n b).current.address) (Below 16777216)
  pub base_address : (n : ℕ) → n < 4 → Exactly (λ b. (channel_of n b).base.address) (Below 16777216)
  pub current_count : (n : ℕ) → n < 4 → Exactly (λ b. (channel_of n b).current.count) (Below 65536)
  pub base_count : (n : ℕ) → n < 4 → Exactly (λ b. (channel_of n b).base.count) (Below 65536)
  pub channel_mode : (n : ℕ) → n < 4 → Exactly (λ b. (channel_of n b).mode) (ByteWith modes)
  pub masked : (n : ℕ) → n < 4 → Both (λ b. (channel_of n b).masked)
  -- The chip's own.
  pub wide : Both (λ b. b.dma.wide)
  pub selected : Exactly (λ b. b.dma.selected) (Below 4)
  pub base : Both (λ b. b.dma.base)
  pub rotate : Both (λ b. b.dma.rotate)
  pub disabled : Both (λ b. b.dma.disabled)
  pub serving : Both (λ b. b.dma.serving)
  pub first : Exactly (λ b. b.dma.first) (Below 4)
  pub channel : Exactly (λ b. b.dma.channel) (Below 4)
  pub requests : Exactly (λ b. b.dma.requests) (Below 16)
  pub ends : Exactly (λ b. b.dma.ends) (Below 16)
  -- The kept bytes.
  pub kept_byte : (i : ℕ) → i < 7 → Exactly (λ b. get_or b.kept.bytes i 0) (Below 256)
  pub kept_length : Exactly (λ b. b.kept.length) (Below 8)
