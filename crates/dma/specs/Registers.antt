-- The registers, by their number A3-A0: what a write does, and what a read shows. Status 0 is done, 2 where the register is
-- not open to it, 4 where it asks for what is not built, or for words on the 8-bit bus; 2 and 4 change nothing.
use Rattle.std.specs.Prelude.{ℕ, ◌+◌, ◌*◌, ◌/◌, ◌%◌, [], ◌∷◌, Bool, true, false, not, eqb, ltb, leb, set, if◌then◌else◌}
use Rattle.bits.specs.Choice.{◌and◌, ◌or◌}
use Rattle.bits.specs.Bits.{bit_of, with_of, masked_of, weighed}
use Rattle.dma.specs.declared.Span.{Span}
use Rattle.dma.specs.declared.Channel.{Channel}
use Rattle.dma.specs.declared.Dma.{Dma}
use Rattle.dma.specs.Answers.{Written, Got, Seen}
use Rattle.dma.specs.Fields.{span, current_is, base_is, mode_is, masked_is, chan, selected, word, channels_are, wide_is, selection_is, control_is, requests_are, turned}

-- Reset: every channel masked, an 8-bit bus, all else zero.
abbrev pub unset : Channel
unset = record { current = span 0 0; base = span 0 0; mode = 0; masked = true }

unfoldable pub reset_of : Dma
reset_of =
    record {
      channels = unset ∷ unset ∷ unset ∷ unset ∷ [];
      wide = false;
      selected = 0;
      base = false;
      rotate = false;
      disabled = false;
      first = 0;
      serving = false;
      channel = 0;
      requests = 0;
      ends = 0;
    }

-- The four request lines, channel 0 in bit 0.
unfoldable pub requested_of : Dma → ℕ → Dma
requested_of d levels = requests_are (levels % 16) d

abbrev pub taken : Dma → Written
taken d = record { status = 0; dma = d }

abbrev pub refused : ℕ → Dma → Written
refused s d = record { status = s; dma = d }

-- Some channel is set to move words.
unfoldable pub any_words : Dma → Bool
any_words d = word (chan d 0) or word (chan d 1) or word (chan d 2) or word (chan d 3)

-- 0, initialize. With RES (D0) the chip is reset, the request lines stay, and 16B (D1) is the new width of the bus: 1 is 16 bits. Without RES the width
-- alone changes, and the bus can't be made narrow while some channel is set to move words.
unfoldable pub initialized_of : Dma → ℕ → Written
initialized_of d x =
    if bit_of x 0 then taken (wide_is (bit_of x 1) (requests_are d.requests reset_of))
    else if not (bit_of x 1) and any_words d then refused 4 d
    else taken (wide_is (bit_of x 1) d)

-- 1, channel: SELCH (D1-D0) and BASE (D2).
unfoldable pub selected_of : Dma → ℕ → Written
selected_of d x = taken (selection_is (x % 4) (bit_of x 2) d)

-- The number v with its byte of weight w replaced by x, and no other byte.
abbrev pub byte_is : ℕ → ℕ → ℕ → ℕ
byte_is w x v = v / (w * 256) * (w * 256) + (x % 256) * w + v % w

-- 2 and 3 are a count, 4 to 6 an address, each with its low byte first.
unfoldable pub replaced_of : ℕ → ℕ → Span → Span
replaced_of r x s =
    if eqb r 2 then span s.address (byte_is 1 x s.count)
    else if eqb r 3 then span s.address (byte_is 256 x s.count)
    else if eqb r 4 then span (byte_is 1 x s.address) s.count
    else if eqb r 5 then span (byte_is 256 x s.address) s.count
    else span (byte_is 65536 x s.address) s.count

-- The selected channel becomes c.
abbrev pub chosen : Channel → Dma → Dma
chosen c d = channels_are (set d.channels d.selected c) d

-- A byte of the count or the address goes to base; with BASE=0 to current as well.
unfoldable pub loaded_of : Dma → ℕ → ℕ → Dma
loaded_of d r x =
    if d.base then chosen (base_is (replaced_of r x (selected d).base) (selected d)) d
    else
    chosen
    (base_is (replaced_of r x (selected d).base) (current_is (replaced_of r x (selected d).current) (selected d)))
    d

-- 8, device control: ROT (D4) and DDMA (D2); its other bits are not built. The ranks stay as they are only if rotation was
-- on and stays on; else channel 0 is first.
abbrev pub kept_first : Dma → Bool → ℕ
kept_first d rotate = if rotate and d.rotate then d.first else 0

-- The bits of x besides D4 and D2 (14H, which is 20).
abbrev pub other_bits : ℕ → ℕ
other_bits x = masked_of x 20

unfoldable pub controlled_of : Dma → ℕ → Written
controlled_of d x =
    if eqb (other_bits x) 0 then
    taken (control_is (bit_of x 4) (bit_of x 2) (kept_first d (bit_of x 4)) d)
    else refused 4 d

-- 9, device control's high byte: no bit of it is built.
abbrev pub held_zero : Dma → ℕ → Written
held_zero d x = if eqb x 0 then taken d else refused 4 d

-- A, mode control: TMODE (D7-D6), ADIR (D5), AUTI (D4), TDIR (D3-D2), W/B (D0). TMODE 11, TDIR 11 and D1 are not built; W/B=1, words, needs
-- the 16-bit bus.
unfoldable pub unbuilt_mode : ℕ → Bool
unbuilt_mode x = eqb (x / 64) 3 or eqb (x / 4 % 4) 3 or bit_of x 1

unfoldable pub refuses_mode : Dma → ℕ → Bool
refuses_mode d x = unbuilt_mode x or (bit_of x 0 and not d.wide)

unfoldable pub moded_of : Dma → ℕ → Written
moded_of d x = if refuses_mode d x then refused 4 d else taken (chosen (mode_is x (selected d)) d)

-- F, masks: channel n in bit n.
unfoldable pub masked_by : Dma → ℕ → Dma
masked_by d x =
    channels_are
    (masked_is (bit_of x 0) (chan d 0)
    ∷ masked_is (bit_of x 1) (chan d 1)
    ∷ masked_is (bit_of x 2) (chan d 2)
    ∷ masked_is (bit_of x 3) (chan d 3)
    ∷ [])
    d

-- The registers, with the status where it is not 0:
--
--        written                          read
--   0    initialize; 4 if it makes the bus narrow under a word mode    2
--   1    channel and BASE                 channel and BASE
--   2-3  count, low byte first            count
--   4-6  address, low byte first          address
--   7    2                                2
--   8    device control; 4 with other bits    device control
--   9    zero; 4 otherwise                zero
--   A    mode control; 4 if not built, or words without 16B    mode control
--   B    2                                status, which clears the end bits
--   C-E  4                                4
--   F    masks                            masks
--
-- A write of x. Bits that 0, 1 and F do not have are ignored.
abbrev pub write_at : Dma → ℕ → ℕ → Written
write_at d r x =
    if eqb r 0 then initialized_of d x
    else if eqb r 1 then selected_of d x
    else if leb r 6 then taken (loaded_of d r x)
    else if eqb r 7 then refused 2 d
    else if eqb r 8 then controlled_of d x
    else if eqb r 9 then held_zero d x
    else if eqb r 10 then moded_of d x
    else if eqb r 11 then refused 2 d
    else if ltb r 15 then refused 4 d
    else taken (masked_by d x)

unfoldable pub write_of : Dma → ℕ → ℕ → Written
write_of d r x = write_at d (r % 16) x

abbrev pub shows : ℕ → Dma → Got
shows x d = record { status = 0; byte = x; dma = d }

abbrev pub unread : ℕ → Dma → Got
unread s d = record { status = s; byte = 0; dma = d }

-- What 2 to 6 show of a count and an address.
unfoldable pub byte_at : ℕ → Span → ℕ
byte_at r s =
    if eqb r 2 then s.count % 256
    else if eqb r 3 then s.count / 256 % 256
    else if eqb r 4 then s.address % 256
    else if eqb r 5 then s.address / 256 % 256
    else s.address / 65536 % 256

-- BASE=0 reads current, BASE=1 base.
unfoldable pub shown_span : Dma → Span
shown_span d = if d.base then (selected d).base else (selected d).current

-- B, status: RQ3-RQ0 (D7-D4) are the request lines, whatever the masks; TC3-TC0 (D3-D0) are the end bits, which a read
-- clears.
abbrev pub status_of : Dma → ℕ
status_of d = (d.requests % 16) * 16 + d.ends % 16

abbrev pub status_shown : Dma → Got
status_shown d = shows (status_of d) (turned d.channels d.serving d.channel d.first 0 d)

-- F, masks.
abbrev pub masks_of : Dma → ℕ
masks_of d =
    weighed (chan d 0).masked 1 + weighed (chan d 1).masked 2 + weighed (chan d 2).masked 4 + weighed (chan d 3).masked 8

-- A read. 1 shows BASE (D4), and of SEL3-SEL0 the one bit of the selected channel.
abbrev pub read_at : Dma → ℕ → Got
read_at d r =
    if eqb r 0 then unread 2 d
    else if eqb r 1 then shows (with_of (weighed d.base 16) d.selected) d
    else if leb r 6 then shows (byte_at r (shown_span d)) d
    else if eqb r 7 then unread 2 d
    else if eqb r 8 then shows (weighed d.rotate 16 + weighed d.disabled 4) d
    else if eqb r 9 then shows 0 d
    else if eqb r 10 then shows (selected d).mode d
    else if eqb r 11 then status_shown d
    else if ltb r 15 then unread 4 d
    else shows (masks_of d) d

unfoldable pub read_of : Dma → ℕ → Got
read_of d r = read_at d (r % 16)

-- A read by what it shows, and the end bits after it. It changes nothing else of the chip.
abbrev pub seen_as : Got → Seen
seen_as g = record { status = g.status; byte = g.byte; ends = g.dma.ends }

unfoldable pub seen_of : Dma → ℕ → Seen
seen_of d r = seen_as (read_of d r)
