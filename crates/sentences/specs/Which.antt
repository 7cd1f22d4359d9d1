-- How a unit goes, and why INT is low.
use Rattle.std.specs.Prelude.{ℕ, ◌/◌, ◌%◌, eqb, if◌then◌else◌}
use Rattle.sentences.specs.declared.which.Way.{Way}
use Rattle.sentences.specs.declared.which.Way.TheVariants.{Verify, ToMemory, FromMemory, Other}
use Rattle.sentences.specs.declared.which.Transfer.{Transfer}
use Rattle.sentences.specs.declared.which.Int.{Int}
use Rattle.sentences.specs.declared.which.Int.TheVariants.{NoLevelAsks, AllMasked, InService, High}

-- D3 and D2 of a mode.
abbrev pub way_of : ℕ → Way
way_of n = if eqb n 0 then Verify else if eqb n 1 then ToMemory else if eqb n 2 then FromMemory else Other

-- D0 of a mode is set where units are words.
abbrev pub transfer_of : ℕ → Transfer
transfer_of mode = record { way = way_of (mode / 4 % 4); word = eqb (mode % 2) 1 }

-- By the levels that ask, and those of them that are not masked.
abbrev pub low_by : ℕ → ℕ → Int
low_by irr asked = if eqb irr 0 then NoLevelAsks else if eqb asked 0 then AllMasked else InService
