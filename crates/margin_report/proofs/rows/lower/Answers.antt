use Rattle.std.proofs.Common.{◌∙◌, ap, arith, sym}
use Rattle.std.specs.Option.{option_copied}
use Rattle.fixpoint_engine.specs.Waves.{waves_of}
use Rattle.margin_report.proofs.RowByRow.{has_checker, lowered_end, lowers}
use Rattle.margin_report.proofs.rows.lower.Goals as goal
use Rattle.margin_report.proofs.rows.lower.Goals.{in-Some+in_ok-margin, in_default}

pub loop-place-preserved : goal.loop-place-preserved
loop-place-preserved g c =
    let before = c.loop-place.invariant in
    let count = before.count in
    let inside = c.loop-place-test.true in
    let len = c.len-place-end.ensures in
    elim c.match-instance.branch [
      | in-Some+in_ok-margin w ↦
          let next =
          lowers c.args.c.now c.args.case (waves_of c.args.waves.now) c.args.rows.now c.loop-place.place c.loop-place.rows
          c.as_slice.result.now _ w.in-Some.checker.now w.in_ok-margin.margin c.match-instance.rows c.as_slice.ensures
          (omega (arith, count, inside, len)) count before.rows before.lowered w.in-Some.ensures w.in_ok-margin.ensures.below
          w.in_ok-margin.ensures.is (w.rows-is ∙ w.set.ensures) in
          record { count = next.count; rows = next.rows; lowered = next.lowered }
      | in_default w ↦
          absurd (has_checker c.args.c.now c.args.case (waves_of c.args.waves.now) c.args.rows.now c.loop-place.place
          c.loop-place.rows c.as_slice.result.now _ c.as_slice.ensures (omega (arith, count, inside, len)) before.rows
          (sym c.instance.ensures ∙ ap option_copied w.in_default.is))
    ]

pub returns-clause-are : goal.returns-clause-are
returns-clause-are g c = λ cases one numbered here begun.
    let past = c.loop-place-test.false in
    let len = c.len-place-end.ensures in
    lowered_end c.args.c.now c.args.case (waves_of c.args.waves.now) c.args.rows.now c.loop-place.place c.loop-place.rows
    c.loop-place.invariant.lowered (omega (arith, past, len)) cases one numbered here begun
