use mathlib.Core.Path.{◌≡◌, sym}
use lib.Dec.{leb}
use native.Mathlib.Omega.{arith}
use Rattle.bits.specs.Choice.{◌and◌}
use Rattle.tape.specs.Records.{byte, unused, writable, readable, pulse_count, decode_of}
use Rattle.tape.proofs.Decodes.{told, unknown}
use Rattle.tape.proofs.decode.Goals as goal

pub returns-in-0 : goal.returns-in-0
unfolding decode_of
returns-in-0 c = rw (c.then_some.ensures, told, c.is_zero_from_1.ensures, c.in-0.is)

pub returns-after-is_zero_from_3 : goal.returns-after-is_zero_from_3
unfolding decode_of
returns-after-is_zero_from_3 c =
    let q : c.if-is_zero_from_3.then_some ≡ (unused c.args.r 3 5 and writable (byte c.args.r 1)) =
    elim c.if-is_zero_from_3.branch [
      | goal.then-is_zero_from_3 w ↦ rw (w.then_some-is, w.is_writable.ensures, ← w.if-is_zero_from_3.ensures)
      | goal.else-is_zero_from_3 w ↦ rw (w.then_some-is, w.if-is_zero_from_3.false, ← w.if-is_zero_from_3.ensures)
    ]
    in
    rw (c.then_some-in-1.ensures, told, q, c.in-1.is)

pub returns-after-is_zero_from_2 : goal.returns-after-is_zero_from_2
unfolding decode_of
returns-after-is_zero_from_2 c =
    let q : c.if-is_zero_from_2.then_some ≡ (unused c.args.r 2 6 and readable (byte c.args.r 1)) =
    elim c.if-is_zero_from_2.branch [
      | goal.then-is_zero_from_2 w ↦ rw (w.then_some-is, w.is_readable.ensures, ← w.if-is_zero_from_2.ensures)
      | goal.else-is_zero_from_2 w ↦ rw (w.then_some-is, w.if-is_zero_from_2.false, ← w.if-is_zero_from_2.ensures)
    ]
    in
    rw (c.then_some-in-2.ensures, told, q, c.in-2.is)

pub returns-in-3 : goal.returns-in-3
unfolding decode_of
returns-in-3 c = rw (c.lines_asked.ensures, c.in-3.is, ← c.if-is_zero_from_3-2.ensures)

pub returns-in-4 : goal.returns-in-4
unfolding decode_of
returns-in-4 c = rw (c.then_some-in-4.ensures, told, c.is_zero_from_1-in-4.ensures, c.in-4.is)

pub returns-after-is_zero_to_3 : goal.returns-after-is_zero_to_3
unfolding decode_of pulse_count
returns-after-is_zero_to_3 c =
    let e : c.from_le_bytes-n.result ≡ pulse_count c.args.r = rw c.from_le_bytes-n.ensures (omega arith) in
    let q : c.if-is_zero_to_3.then_some ≡ (unused c.args.r 1 3 and leb (pulse_count c.args.r) 65535) =
    elim c.if-is_zero_to_3.branch [
      | goal.then-is_zero_to_3 w ↦ rw (w.then_some-is, e, ← w.if-is_zero_to_3.ensures)
      | goal.else-is_zero_to_3 w ↦ rw (w.then_some-is, w.if-is_zero_to_3.false, ← w.if-is_zero_to_3.ensures)
    ]
    in
    rw (c.then_some-in-5.ensures, told, q, e, c.in-5.is)

pub returns-after-is_zero_from_4 : goal.returns-after-is_zero_from_4
unfolding decode_of
returns-after-is_zero_from_4 c =
    let q : c.if-is_zero_from_4.then_some ≡ (unused c.args.r 4 4 and leb (byte c.args.r 1) 1) =
    elim c.if-is_zero_from_4.branch [
      | goal.then-is_zero_from_4 w ↦ rw (w.then_some-is, ← w.if-is_zero_from_4.ensures)
      | goal.else-is_zero_from_4 w ↦ rw (w.then_some-is, w.if-is_zero_from_4.false, ← w.if-is_zero_from_4.ensures)
    ]
    in
    rw (c.then_some-in-6.ensures, told, q, c.in-6.is)

pub returns-in_default : goal.returns-in_default
unfolding decode_of
returns-in_default c = rw (c.in-3.is, ← c.if-is_zero_from_3-2.ensures)

pub returns-in_default-2 : goal.returns-in_default-2
returns-in_default-2 c = sym (unknown c.args.r (omega arith))
