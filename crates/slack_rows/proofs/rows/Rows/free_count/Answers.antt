use Rattle.std.proofs.Common.{true, false, ap, sym, ◌∙◌, arith}
use Rattle.std.specs.List.{count_by}
use Rattle.std.proofs.lemmas.List.{take_all}
use Rattle.slack_rows.specs.declared.parameter.Parameter.{Parameter}
use Rattle.slack_rows.specs.Rows.{is_free_limit, row}
use Rattle.slack_rows.proofs.Forms.{forms}
use Rattle.slack_rows.proofs.Levels.{free_more}
use Rattle.slack_rows.proofs.Stepwise.{item_at}
use Rattle.slack_rows.proofs.rows.Rows.free_count.Goals as goal
use Rattle.slack_rows.proofs.rows.Rows.free_count.Goals.{then-is_free, else-is_free}

pub loop-place-preserved : goal.loop-place-preserved
loop-place-preserved c =
    let limits = c.args.self.now.parameters in
    let least = c.args.self.now.least in
    let place = c.loop-place.place in
    let count = c.loop-place.count in
    let few = c.loop-place.invariant.few in
    let long = c.len-place-end.ensures in
    let less = c.loop-place-test.true in
    let found = item_at c.args.self.now.parameters c.loop-place.place (omega (arith, long, less)) in
    let same = c.is_free.ensures found.0 found.1 in
    elim c.if-is_free.branch [
      | then-is_free w ↦
          let is = w.count-is in
          record {
            few = omega (arith, few, is);
            free = λ circuit cases known. free_more circuit (forms circuit) cases limits least c.args.self.now.cases
                c.args.self.now.sets.keys known place count c.if-is_free.count true found.0 found.1 (sym w.if-is_free.true ∙ same)
                (c.loop-place.invariant.free circuit cases known) w.count-is;
          }
      | else-is_free w ↦
          let is = w.count-is in
          record {
            few = omega (arith, few, is);
            free = λ circuit cases known. free_more circuit (forms circuit) cases limits least c.args.self.now.cases
                c.args.self.now.sets.keys known place count c.if-is_free.count false found.0 found.1 (sym w.if-is_free.false ∙ same)
                (c.loop-place.invariant.free circuit cases known) (omega (arith, is));
          }
    ]

pub returns : goal.returns
returns c = λ circuit cases known.
    let long = c.len-place-end.ensures in
    let past = c.loop-place-test.false in
    c.loop-place.invariant.free circuit cases known
    ∙ ap (count_by (λ (q : Parameter). is_free_limit circuit cases (row circuit cases q.subject q.word)))
    (take_all c.loop-place.place c.args.self.now.parameters (omega (arith, long, past)))
    ∙ ap (count_by (λ (q : Parameter). is_free_limit circuit cases (row circuit cases q.subject q.word))) known.are_limits
