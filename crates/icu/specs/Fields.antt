-- A chip with one field changed: what the rules are written in.
use Rattle.std.specs.Prelude.{ℕ, Bool}
use Rattle.icu.specs.declared.Icu.{Icu}

abbrev pub stage_is : ℕ → Icu → Icu
stage_is x c = record { stage = x; iw1 = c.iw1; iw2 = c.iw2; sfi = c.sfi; vector = c.vector; rotation = c.rotation; showsisr = c.showsisr; edges = c.edges; isr = c.isr; imr = c.imr; lowest = c.lowest }

abbrev pub iw2_is : ℕ → Icu → Icu
iw2_is x c = record { stage = c.stage; iw1 = c.iw1; iw2 = x; sfi = c.sfi; vector = c.vector; rotation = c.rotation; showsisr = c.showsisr; edges = c.edges; isr = c.isr; imr = c.imr; lowest = c.lowest }

abbrev pub rotation_is : Bool → Icu → Icu
rotation_is x c = record { stage = c.stage; iw1 = c.iw1; iw2 = c.iw2; sfi = c.sfi; vector = c.vector; rotation = x; showsisr = c.showsisr; edges = c.edges; isr = c.isr; imr = c.imr; lowest = c.lowest }

abbrev pub showsisr_is : Bool → Icu → Icu
showsisr_is x c = record { stage = c.stage; iw1 = c.iw1; iw2 = c.iw2; sfi = c.sfi; vector = c.vector; rotation = c.rotation; showsisr = x; edges = c.edges; isr = c.isr; imr = c.imr; lowest = c.lowest }

abbrev pub edges_is : ℕ → Icu → Icu
edges_is x c = record { stage = c.stage; iw1 = c.iw1; iw2 = c.iw2; sfi = c.sfi; vector = c.vector; rotation = c.rotation; showsisr = c.showsisr; edges = x; isr = c.isr; imr = c.imr; lowest = c.lowest }

abbrev pub isr_is : ℕ → Icu → Icu
isr_is x c = record { stage = c.stage; iw1 = c.iw1; iw2 = c.iw2; sfi = c.sfi; vector = c.vector; rotation = c.rotation; showsisr = c.showsisr; edges = c.edges; isr = x; imr = c.imr; lowest = c.lowest }

abbrev pub imr_is : ℕ → Icu → Icu
imr_is x c = record { stage = c.stage; iw1 = c.iw1; iw2 = c.iw2; sfi = c.sfi; vector = c.vector; rotation = c.rotation; showsisr = c.showsisr; edges = c.edges; isr = c.isr; imr = x; lowest = c.lowest }

abbrev pub lowest_is : ℕ → Icu → Icu
lowest_is x c = record { stage = c.stage; iw1 = c.iw1; iw2 = c.iw2; sfi = c.sfi; vector = c.vector; rotation = c.rotation; showsisr = c.showsisr; edges = c.edges; isr = c.isr; imr = c.imr; lowest = x }

-- SFI and V/C, the two bits of IW4 that are kept
abbrev pub iw4_is : Bool → Bool → Icu → Icu
iw4_is s v c = record { stage = c.stage; iw1 = c.iw1; iw2 = c.iw2; sfi = s; vector = v; rotation = c.rotation; showsisr = c.showsisr; edges = c.edges; isr = c.isr; imr = c.imr; lowest = c.lowest }
