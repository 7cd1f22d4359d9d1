use native.Mathlib.Omega.{arith}
use Rattle.bits.specs.Bits.{bit_of}
use Rattle.icu.proofs.Command.{by_number}
use Rattle.icu.proofs.Icu.write_pfcw.Goals as goal

pub returns-in-0 : goal.returns-in-0
unfolding bit_of
returns-in-0 c = by_number _ _ _ c.in-0.is

pub returns-in-1 : goal.returns-in-1
unfolding bit_of
returns-in-1 c = rw c.finish.ensures (by_number _ _ _ c.in-1.is)

pub returns-in-3 : goal.returns-in-3
unfolding bit_of
returns-in-3 c = rw c.without.ensures (by_number _ _ _ c.in-3.is)

pub returns-in-4 : goal.returns-in-4
unfolding bit_of
returns-in-4 c = by_number _ _ _ c.in-4.is

pub returns-in-5 : goal.returns-in-5
unfolding bit_of
returns-in-5 c = rw c.finish-in-5.ensures (by_number _ _ _ c.in-5.is)

pub returns-in-6 : goal.returns-in-6
unfolding bit_of
returns-in-6 c = by_number _ _ _ c.in-6.is

pub returns-in-7 : goal.returns-in-7
unfolding bit_of
returns-in-7 c = rw c.without-in-7.ensures (by_number _ _ _ c.in-7.is)

pub returns-in_default : goal.returns-in_default
unfolding bit_of
returns-in_default c = by_number _ _ 2 (omega arith)
