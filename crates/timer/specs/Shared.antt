-- What the modes share: how a count gets into the down counter, what a pulse counts, and the three ways in which a mode is started. The page of each
-- mode says which of them it uses.
use Rattle.std.specs.Prelude.{ℕ, Bool, true, false, eqb, if◌then◌else◌}
use Rattle.timer.specs.Fields.{value_is, pending_is, trigger_is, out_is}
use Rattle.timer.specs.declared.Counter.{Counter}

-- A mode: what its table says of OUT, GATE and counts, and what one pulse does.
pub record Mode : Type 0 where
  -- Initial OUT is high.
  pub high : Bool
  -- GATE going low sets OUT high at once.
  pub lifts : Bool
  -- GATE going high is a trigger.
  pub triggers : Bool
  -- Count write: each byte sets OUT low at once.
  pub drops : Bool
  -- Count re-write: a later count too is transferred at the next pulse. Else it waits for the next load.
  pub each : Bool
  -- One pulse, once a count is complete.
  pub pulse : Counter → Counter
  -- The minimum count.
  pub least : ℕ

-- A load copies the last complete count into the down counter.
abbrev pub loaded : Counter → Counter
loaded c = value_is c.count c

-- A load after which no count waits any more. (The sheet calls every load a transfer.)
abbrev pub transferred : Counter → Counter
transferred c = pending_is false (loaded c)

-- The counter becomes v. If that is the end, which is 0 and in mode 2 is 1, OUT takes a level.
abbrev pub counted : ℕ → Bool → ℕ → Counter → Counter
counted end level v c = if eqb v end then out_is level (value_is v c) else value_is v c

-- Started by its count (modes 0 and 4): a complete count is transferred, GATE high or low; else GATE high counts on.
abbrev pub by_count : (Counter → Counter) → Counter → Counter
by_count on c = if c.pending then transferred c else if c.gate then on c else c

-- Started by a trigger (modes 1 and 5): it transfers the last complete count, and then OUT is as the mode says. While the first count still pends, nothing was
-- transferred, and nothing counts; from then on each pulse counts. The level of GATE means nothing.
abbrev pub by_trigger : (Counter → Counter) → (Counter → Counter) → Counter → Counter
by_trigger starts on c =
    if c.trigger then starts (trigger_is false (transferred c))
    else if c.pending then c
    else on c

-- Going round (modes 2 and 3): the first complete count is transferred, GATE high or low, and uses up a trigger; else a trigger loads and sets OUT high; else GATE
-- high counts on, and what comes at the end is the mode's.
abbrev pub cyclic : (Counter → Counter) → (Counter → Counter) → Counter → Counter
cyclic load on c =
    if c.pending then trigger_is false (pending_is false (load c))
    else if c.trigger then trigger_is false (out_is true (load c))
    else if c.gate then on c
    else c
