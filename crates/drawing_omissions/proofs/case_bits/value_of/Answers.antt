use Rattle.std.proofs.Common.{◌≤◌, arith}
use Rattle.drawing_omissions.proofs.Valuing.{net_value, no_value}
use Rattle.drawing_omissions.proofs.case_bits.value_of.Goals as goal

pub returns-in-None : goal.returns-in-None
returns-in-None c =
    let low : c.args.bit.now.bit ≤ 65535 = omega (arith, c.if-bit-gt65535.false) in
    no_value c.args.c.now c.args.bit.now _ (omega (arith, low)) low (rw c.as_slice.ensures at c.in-None.ensures)

pub returns-in-Some : goal.returns-in-Some
returns-in-Some c =
    let low : c.args.bit.now.bit ≤ 65535 = omega (arith, c.if-bit-gt65535.false) in
    net_value c.args.c.now c.args.bit.now _ (omega (arith, low)) low c.in-Some.net c.known.ensures.distinct (rw c.as_slice.ensures at c.in-Some.ensures)
