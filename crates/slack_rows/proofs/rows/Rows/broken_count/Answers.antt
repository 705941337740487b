use Rattle.std.proofs.Common.{◌+◌, ◌<◌, true, false, not, length, ap, sym, subst, ◌∙◌, arith}
use Rattle.std.specs.List.{count_by}
use Rattle.std.proofs.lemmas.List.{take_all}
use Rattle.slack_rows.specs.declared.parameter.Parameter.{Parameter}
use Rattle.slack_rows.specs.Known.{breaks}
use Rattle.slack_rows.specs.Rows.{is_own_row, row}
use Rattle.slack_rows.proofs.Once.{all_broken, count_is, count_more}
use Rattle.slack_rows.proofs.Stepwise.{item_at}
use Rattle.slack_rows.proofs.Totals.{Counts, any_before, at_0, count_all, count_own, count_same, sure_at}
use Rattle.slack_rows.proofs.rows.Rows.broken_count.Goals as goal
use Rattle.slack_rows.proofs.rows.Rows.broken_count.Goals.{then-is_own, else-is_own}

pub loop-place-preserved : goal.loop-place-preserved
loop-place-preserved c =
    let limits = c.args.self.now.parameters in
    let least = c.args.self.now.least in
    let place = c.loop-place.place in
    let count = c.loop-place.count in
    let few = c.loop-place.invariant.few in
    let each = c.args.self.now.each in
    let long = c.len-place-end.ensures in
    let less = c.loop-place-test.true in
    let within : c.loop-place.place < length c.args.self.now.least = omega (arith, each, long, less) in
    let found = item_at c.args.self.now.parameters c.loop-place.place (omega (arith, long, less)) in
    elim c.if-is_own.branch [
      | then-is_own w ↦
          let is = w.count-is in
          record {
            few = omega (arith, few, is);
            counts = subst (Counts least (place + 1)) (sym w.count-is)
                (count_own least place count within (ap breaks (sym (at_0 least place)) ∙ c.is_own.ensures.own w.if-is_own.true));
            own = λ circuit cases known same sure. count_more circuit cases limits least c.args.self.now.cases c.args.self.now.sets.keys known
                place count c.if-is_own.count true found.0 found.1
                (sym w.if-is_own.true ∙ c.is_own.ensures.is circuit cases found.0 known same found.1 (sure_at circuit cases limits known.are_limits sure place found.0 found.1))
                (c.loop-place.invariant.own circuit cases known same sure) w.count-is;
          }
      | else-is_own w ↦
          let is = w.count-is in
          record {
            few = omega (arith, few, is);
            counts = subst (Counts least (place + 1)) (sym w.count-is)
                (count_same least place count within c.loop-place.invariant.counts
                (λ broken. any_before least place within
                (c.is_own.ensures.not (ap breaks (at_0 least place) ∙ broken) (ap not w.if-is_own.false))));
            own = λ circuit cases known same sure. count_more circuit cases limits least c.args.self.now.cases c.args.self.now.sets.keys known
                place count c.if-is_own.count false found.0 found.1
                (sym w.if-is_own.false ∙ c.is_own.ensures.is circuit cases found.0 known same found.1 (sure_at circuit cases limits known.are_limits sure place found.0 found.1))
                (c.loop-place.invariant.own circuit cases known same sure) (omega (arith, is));
          }
    ]

pub returns-clause-none : goal.returns-clause-none
returns-clause-none c = λ circuit cases known.
    let each = c.args.self.now.each in
    let long = c.len-place-end.ensures in
    let past = c.loop-place-test.false in
    count_all c.args.self.now.least c.loop-place.place c.loop-place.count (omega (arith, each, long, past)) c.loop-place.invariant.counts
    ∙ ap not (all_broken circuit cases c.args.self.now.parameters c.args.self.now.least c.args.self.now.cases c.args.self.now.sets.keys known)

pub returns-clause-are : goal.returns-clause-are
returns-clause-are c = λ circuit cases known same sure.
    let long = c.len-place-end.ensures in
    let past = c.loop-place-test.false in
    c.loop-place.invariant.own circuit cases known same sure
    ∙ ap (count_by (λ (q : Parameter). is_own_row circuit cases (row circuit cases q.subject q.word)))
    (take_all c.loop-place.place c.args.self.now.parameters (omega (arith, long, past)))
    ∙ count_is circuit cases c.args.self.now.parameters known.are_limits
