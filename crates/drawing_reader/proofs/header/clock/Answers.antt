use Rattle.std.proofs.Common.{arith, w64, FitsSigned, rules, ◌∙◌, to_z, of_z}
use Rattle.std.proofs.lemmas.Int.{ints, to_z-of_z}
use Rattle.drawing_reader.proofs.Periods.{factors_below}
use Rattle.drawing_reader.proofs.header.clock.Goals as goal

pub overflow_cast-result : goal.overflow_cast-result
overflow_cast-result c =
    let f : FitsSigned w64 c.in-Some.period = search rules in
    let below = factors_below (to_z w64 (of_z w64 c.args.pair.first)) (to_z w64 (of_z w64 c.args.pair.second)) (to_z w64 (of_z w64 c.in-Some.period))
    (to_z-of_z w64 c.in-Some.period f ∙ c.in-Some.ensures.1) c.if-pair-ge1.true c.if-pair-ge1-2.true c.if-period-le4096.true in
    let low = below.0 in let high = below.1 in (omega (arith, ints), record { fits = omega (arith, ints) })

pub overflow_cast-result-in-Some : goal.overflow_cast-result-in-Some
overflow_cast-result-in-Some c =
    let f : FitsSigned w64 c.in-Some.period = search rules in
    let below = factors_below (to_z w64 (of_z w64 c.args.pair.first)) (to_z w64 (of_z w64 c.args.pair.second)) (to_z w64 (of_z w64 c.in-Some.period))
    (to_z-of_z w64 c.in-Some.period f ∙ c.in-Some.ensures.1) c.if-pair-ge1.true c.if-pair-ge1-2.true c.if-period-le4096.true in
    let low = below.2 in let high = below.3 in (omega (arith, ints), record { fits = omega (arith, ints) })
