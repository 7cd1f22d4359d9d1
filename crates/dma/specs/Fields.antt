-- The chip's parts, and each part with some of its fields changed: what the rules are written in.
use Rattle.std.specs.Prelude.{ℕ, List, Bool, false, get_or}
use Rattle.bits.specs.Bits.{bit_of}
use Rattle.dma.specs.declared.Span.{Span}
use Rattle.dma.specs.declared.Channel.{Channel}
use Rattle.dma.specs.declared.Dma.{Dma}

-- An address and a count.
abbrev pub span : ℕ → ℕ → Span
span a n = record { address = a; count = n }

-- A channel with another current, another base, another mode, another mask.
abbrev pub current_is : Span → Channel → Channel
current_is s c = record { current = s; base = c.base; mode = c.mode; masked = c.masked }

abbrev pub base_is : Span → Channel → Channel
base_is s c = record { current = c.current; base = s; mode = c.mode; masked = c.masked }

abbrev pub mode_is : ℕ → Channel → Channel
mode_is x c = record { current = c.current; base = c.base; mode = x; masked = c.masked }

abbrev pub masked_is : Bool → Channel → Channel
masked_is k c = record { current = c.current; base = c.base; mode = c.mode; masked = k }

-- What stands where there is no channel.
abbrev pub none : Channel
none = record { current = span 0 0; base = span 0 0; mode = 0; masked = false }

-- Channel n, the channel that the registers are of, the channel in service.
abbrev pub chan : Dma → ℕ → Channel
chan d n = get_or d.channels n none

abbrev pub selected : Dma → Channel
selected d = chan d d.selected

abbrev pub served : Dma → Channel
served d = chan d d.channel

-- A channel's units are words if W/B, which is D0 of its mode byte, is 1. The width is no field of its own.
abbrev pub word : Channel → Bool
word c = bit_of c.mode 0

-- The chip with other channels; bus width; selection; device control and first rank; request lines.
abbrev pub channels_are : List Channel → Dma → Dma
channels_are cs d =
    record {
      channels = cs;
      wide = d.wide;
      selected = d.selected;
      base = d.base;
      rotate = d.rotate;
      disabled = d.disabled;
      first = d.first;
      serving = d.serving;
      channel = d.channel;
      requests = d.requests;
      ends = d.ends;
    }

abbrev pub wide_is : Bool → Dma → Dma
wide_is k d =
    record {
      channels = d.channels;
      wide = k;
      selected = d.selected;
      base = d.base;
      rotate = d.rotate;
      disabled = d.disabled;
      first = d.first;
      serving = d.serving;
      channel = d.channel;
      requests = d.requests;
      ends = d.ends;
    }

abbrev pub selection_is : ℕ → Bool → Dma → Dma
selection_is n k d =
    record {
      channels = d.channels;
      wide = d.wide;
      selected = n;
      base = k;
      rotate = d.rotate;
      disabled = d.disabled;
      first = d.first;
      serving = d.serving;
      channel = d.channel;
      requests = d.requests;
      ends = d.ends;
    }

abbrev pub control_is : Bool → Bool → ℕ → Dma → Dma
control_is rot dis f d =
    record {
      channels = d.channels;
      wide = d.wide;
      selected = d.selected;
      base = d.base;
      rotate = rot;
      disabled = dis;
      first = f;
      serving = d.serving;
      channel = d.channel;
      requests = d.requests;
      ends = d.ends;
    }

abbrev pub requests_are : ℕ → Dma → Dma
requests_are l d =
    record {
      channels = d.channels;
      wide = d.wide;
      selected = d.selected;
      base = d.base;
      rotate = d.rotate;
      disabled = d.disabled;
      first = d.first;
      serving = d.serving;
      channel = d.channel;
      requests = l;
      ends = d.ends;
    }

-- The chip with what a bus cycle may change: channels, service and its channel, first rank, end bits.
abbrev pub turned : List Channel → Bool → ℕ → ℕ → ℕ → Dma → Dma
turned cs s n f e d =
    record {
      channels = cs;
      wide = d.wide;
      selected = d.selected;
      base = d.base;
      rotate = d.rotate;
      disabled = d.disabled;
      first = f;
      serving = s;
      channel = n;
      requests = d.requests;
      ends = e;
    }
