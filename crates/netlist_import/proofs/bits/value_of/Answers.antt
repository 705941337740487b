use Rattle.std.proofs.Common.{◌≡◌, ◌+◌, min, take, arith}
use Rattle.scald_lex.specs.Bytes.{value_of}
use Rattle.scald_lex.proofs.Values.{value_of_next}
use Rattle.netlist_import.proofs.bits.value_of.Goals as goal

pub loop-digit-preserved : goal.loop-digit-preserved
loop-digit-preserved c =
    let known = c.loop-digit.invariant in
    let next = value_of_next c.args.digits.now c.loop-digit.digit-index c.loop-digit-test.true in
    let all : c.saturating_add-value.result ≡ min
    (value_of (take (c.loop-digit.digit-index + 1) c.args.digits.now)) 18446744073709551615 =
    rw next (omega arith) in all
