use Rattle.std.proofs.Common.{◌≡◌, ◌∙◌, ◌<◌, ℕ, List, length, refl, sym, subst, take, arith}
use Rattle.std.proofs.lemmas.List.{take_all}
use Rattle.std.proofs.lemmas.Result.{err_from_is_err_and}
use Rattle.flat_circuit.specs.declared.case.CaseValue.{CaseValue}
use Rattle.fixpoint_engine.specs.Table.{waves_at}
use Rattle.timing_analysis.specs.Case.{Case, Listed, numbered}
use Rattle.timing_analysis.specs.Settled.{IsSettledCase}
use Rattle.timing_analysis.proofs.Stored.{ends_from}
use Rattle.slack_report.specs.Answer.{cases_of}
use Rattle.program_call.specs.Reporter.{OfCases}
use Rattle.program_call.proofs.Reporting.{ends_early, here, next_listed, of_none}
use Rattle.draw_report.specs.Drawn.{IsCollected}
use Rattle.draw_report.proofs.Collecting.{of_collected}
use Rattle.draw_report.proofs.collected.add_cases.Goals as goal

pub loop-place-init : goal.loop-place-init
loop-place-init g c =
    let count : c.args.collected.now.faults ≡ 0 = c.requires.none.faults_are in
    record {
      so_far = of_none c.args.job.subject.now.circuit c.args.job.limit c.args.base.now.base.rounds _
          c.requires.none;
      few = omega (arith, count);
      settled = c.requires.settled;
      same = refl;
    }

pub add_settled-requires-clause-known : goal.add_settled-requires-clause-known
add_settled-requires-clause-known g c = c.in_ok-case.ensures.settled.are

pub add_settled-requires-clause-fit : goal.add_settled-requires-clause-fit
add_settled-requires-clause-fit g c = c.in_ok-case.ensures.settled.settled.fit

pub add_settled-requires-clause-ready : goal.add_settled-requires-clause-ready
add_settled-requires-clause-ready g c =
    let so_far = c.loop-place.invariant.so_far in
    (cases_of so_far.cases, so_far.holds.rows_are)

pub add_settled-requires-clause-room : goal.add_settled-requires-clause-room
add_settled-requires-clause-room g c =
    let few = c.loop-place.invariant.few in
    let one = c.in_ok-case.ensures.settled.settled.few in
    let len = c.len-place-end.ensures in
    let test = c.loop-place-test.true in
    let cases = c.requires.is.few in
    omega (arith, few, one, len, test, cases)

pub returns-in_err-case-clause-ended : goal.returns-in_err-case-clause-ended
returns-in_err-case-clause-ended g c =
    let p = err_from_is_err_and c.from_residual.result
    c.from_residual.ensures.1 in
    let len = c.len-place-end.ensures in
    let test = c.loop-place-test.true in
    let cases = c.args.job.subject.now.cases in
    let place = c.loop-place.place in
    let inside : place < length cases = omega (arith, len, test) in
    let circuit = c.args.job.subject.now.circuit in
    let base = c.args.base.now.base.rounds in
    let invariant = c.loop-place.invariant in
    rw (p.1, p.2) (ends_early cases place inside circuit c.args.job.limit base _
    c.in_err-case.field-0.0 c.requires.settled.settled.settled.settles invariant.so_far
    (ends_from circuit c.args.job.limit base c.loop-place.base.base.rounds (here cases place inside)
    c.in_err-case.field-0.0 invariant.same c.in_err-case.ensures.unsettled))

pub returns-in_err-add_settled-clause-ended : goal.returns-in_err-add_settled-clause-ended
returns-in_err-add_settled-clause-ended g c =
    let p = err_from_is_err_and c.from_residual-in_err-add_settled.result
    c.from_residual-in_err-add_settled.ensures.1 in
    rw (p.1, p.2) tt

pub loop-place-preserved : goal.loop-place-preserved
loop-place-preserved g c =
    let len = c.len-place-end.ensures in
    let test = c.loop-place-test.true in
    let cases = c.args.job.subject.now.cases in
    let place = c.loop-place.place in
    let inside : place < length cases = omega (arith, len, test) in
    let circuit = c.args.job.subject.now.circuit in
    let limit = c.args.job.limit in
    let base = c.args.base.now.base.rounds in
    let invariant = c.loop-place.invariant in
    let case = c.in_ok-case.case in
    let few = invariant.few in
    let count = c.in_ok-add_settled.ensures.count in
    let settled =
    subst (λ (b : ℕ). IsSettledCase circuit limit b (here cases place inside) case.number
    case.settled.rounds case.tick (waves_at c.case.new.settled_base.store case.settled.numbers)
    case.faults) invariant.same c.in_ok-case.ensures.settled.settled in
    let one = settled.few in
    record {
      so_far =
          subst (λ (ls : List Listed). OfCases circuit limit base ls
          (λ (some : List Case). IsCollected c.add_settled.new.collected circuit some))
          (sym (next_listed cases place inside))
          (of_collected circuit limit base (numbered 1 (take place cases)) (here cases place inside)
          case.number case.settled.rounds case.tick
          (waves_at c.case.new.settled_base.store case.settled.numbers) case.faults _ _ settled count
          c.in_ok-add_settled.ensures.rows invariant.so_far);
      few = omega (arith, few, count, one);
      settled = c.in_ok-case.ensures.kept;
      same = c.in_ok-case.ensures.round ∙ invariant.same;
    }

pub returns-clause-collected : goal.returns-clause-collected
returns-clause-collected g c =
    let len = c.len-place-end.ensures in
    let past = c.loop-place-test.false in
    let cases = c.args.job.subject.now.cases in
    let invariant = c.loop-place.invariant in
    let whole : take c.loop-place.place cases ≡ cases =
    take_all c.loop-place.place cases (omega (arith, len, past)) in
    subst (λ (xs : List (List CaseValue)). OfCases c.args.job.subject.now.circuit c.args.job.limit
    c.args.base.now.base.rounds (numbered 1 xs)
    (λ (some : List Case). IsCollected c.loop-place.collected c.args.job.subject.now.circuit some)) whole
    invariant.so_far

pub returns-clause-kept : goal.returns-clause-kept
returns-clause-kept g c = c.loop-place.invariant.settled
