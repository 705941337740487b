use Rattle.std.proofs.Common.{◌++◌, ◌∙◌, [], ap, append-nil, subst, sym}
use Rattle.std.specs.List.{All}
use Rattle.std.specs.Option.{option_copied}
use Rattle.margin_report.specs.Report.{IsRow, rows_in}
use Rattle.margin_report.proofs.RowByRow.{rows_more}
use Rattle.margin_report.proofs.rows.unbounded.Goals as goal
use Rattle.margin_report.proofs.rows.unbounded.Goals.{in-Some+in_ok-add_rows, in_default}

pub loop-number-preserved : goal.loop-number-preserved
loop-number-preserved c =
    let d = c.args.c.now in
    let number = c.loop-number.number in
    let found = c.loop-number.found in
    elim c.match-instance.branch [
      | in-Some+in_ok-add_rows w ↦ (
        rows_more d [] number found c.match-instance.found c.loop-number.invariant.0
            (w.found-is ∙ w.in_ok-add_rows.ensures.are ∙ ap (λ j. found ++ rows_in d [] number j) w.in-Some.ensures),
        subst (All (IsRow d)) (sym w.found-is) w.in_ok-add_rows.ensures.rows,
      )
      | in_default w ↦ (
        rows_more d [] number found c.match-instance.found c.loop-number.invariant.0
            (w.found-is ∙ sym (append-nil found)
            ∙ ap (λ j. found ++ rows_in d [] number j) (ap option_copied (sym w.in_default.is) ∙ c.instance.ensures)),
        subst (All (IsRow d)) (sym w.found-is) c.loop-number.invariant.1,
      )
    ]
