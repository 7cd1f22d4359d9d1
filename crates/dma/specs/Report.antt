-- What a bus cycle reports, in numbers.
use Rattle.std.specs.Prelude.{ℕ, ◌≡◌, refl, eqb, Bool, true, false, if◌then◌else◌}
use Rattle.std.proofs.Common.{sym, ap, ◌∙◌}
use Rattle.dma.specs.declared.Report.{Report}
use Rattle.dma.specs.declared.Report.TheVariants.{Nothing, Granted, Moved, Released}

-- Kind: 0 nothing, 1 granted, 2 moved, 3 released. Stopped: service stopped. The address is that of the unit, as its channel has it; the byte is the
-- data moved, the upper one that of a word's odd address. Outside: some byte of the unit was written or read at an address outside the lent memory, so it fell off.
pub record Told : Type 0 where
  pub kind : ℕ
  pub channel : ℕ
  pub end : Bool
  pub stopped : Bool
  pub address : ℕ
  pub byte : ℕ
  pub upper : ℕ
  pub outside : Bool

-- All is zero that a kind doesn't name; a release stops service.
abbrev pub nothing : Told
nothing = record { kind = 0; channel = 0; end = false; stopped = false; address = 0; byte = 0; upper = 0; outside = false }

abbrev pub granted : ℕ → Told
granted n = record { kind = 1; channel = n; end = false; stopped = false; address = 0; byte = 0; upper = 0; outside = false }

abbrev pub moved : ℕ → Bool → Bool → ℕ → ℕ → ℕ → Bool → Told
moved n e s a b u o = record { kind = 2; channel = n; end = e; stopped = s; address = a; byte = b; upper = u; outside = o }

abbrev pub released : ℕ → Told
released n = record { kind = 3; channel = n; end = false; stopped = true; address = 0; byte = 0; upper = 0; outside = false }

-- The numbers of each case.
abbrev pub told : Report → Told
told Nothing = nothing
told (Granted n) = granted n
told (Moved u) = moved u.channel u.end u.stopped u.address u.byte u.upper u.outside
told (Released n) = released n

-- The report that some numbers tell of; so no two reports have the same numbers.
abbrev pub report_of : Told → Report
report_of t =
    if eqb t.kind 0 then Nothing
    else if eqb t.kind 1 then Granted t.channel
    else if eqb t.kind 2 then
    Moved
    (record {
      channel = t.channel;
      end = t.end;
      stopped = t.stopped;
      address = t.address;
      byte = t.byte;
      upper = t.upper;
      outside = t.outside;
    })
    else Released t.channel

told_back : (r : Report) → report_of (told r) ≡ r
told_back Nothing = refl
told_back (Granted n) = refl
told_back (Moved u) = refl
told_back (Released n) = refl

pub told_once : (r s : Report) → told r ≡ told s → r ≡ s
told_once r s e = sym (told_back r) ∙ ap report_of e ∙ told_back s
