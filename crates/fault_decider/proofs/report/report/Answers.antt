use Rattle.std.proofs.Common.{◌≡◌, ◌∙◌, ◌<◌, ℕ, List, [], length, refl, sym, subst, take, arith}
use Rattle.std.proofs.lemmas.List.{take_all}
use Rattle.std.proofs.lemmas.Option.{get_or_from_slice_get, slice_get_within}
use Rattle.std.proofs.lemmas.Result.{err_from_is_err_and}
use Rattle.case_analysis.specs.Case.{NetsExist}
use Rattle.flat_circuit.specs.declared.case.CaseValue.{CaseValue}
use Rattle.timing_analysis.specs.Case.{Listed, numbered}
use Rattle.timing_analysis.specs.Settled.{IsCaseIn}
use Rattle.timing_analysis.proofs.Ends.{base_early}
use Rattle.timing_analysis.proofs.Stored.{ends_from}
use Rattle.program_call.specs.Reporter.{OfCases}
use Rattle.program_call.proofs.Reporting.{ends_early, here, next_listed, of_none}
use Rattle.fault_decider.specs.Reporting.{Holds}
use Rattle.fault_decider.proofs.report.report.Goals as goal

pub returns-in_err-settled-clause-ended : goal.returns-in_err-settled-clause-ended
returns-in_err-settled-clause-ended c =
    let p = err_from_is_err_and c.from_residual.result c.from_residual.ensures.1 in
    rw (p.1, p.2) (base_early c.args.subject.now.circuit c.args.subject.now.cases c.args.limit
    c.in_err-settled.field-0.0 c.in_err-settled.ensures.unsettled)

pub loop-place-init : goal.loop-place-init
loop-place-init c = record {
  so_far = of_none c.args.subject.now.circuit c.args.limit c.in_ok-settled.settled.base.rounds _
      (c.in_ok-answer.ensures c.in_ok-settled.settled.base.rounds);
  settled = c.in_ok-settled.ensures.settled;
  same = refl;
}

pub returns-in_err-case-clause-ended : goal.returns-in_err-case-clause-ended
returns-in_err-case-clause-ended c =
    let p = err_from_is_err_and c.from_residual-in_err-case.result
    c.from_residual-in_err-case.ensures.1 in
    let len = c.len-place-end.ensures in
    let test = c.loop-place-test.true in
    let cases = c.args.subject.now.cases in
    let place = c.loop-place.place in
    let inside : place < length cases = omega (arith, len, test) in
    let circuit = c.args.subject.now.circuit in
    let base = c.in_ok-settled.settled.base.rounds in
    let invariant = c.loop-place.invariant in
    rw (p.1, p.2) (ends_early cases place inside circuit c.args.limit base _ c.in_err-case.field-0.0
    c.in_ok-settled.ensures.settled.settled.settled.settles invariant.so_far
    (ends_from circuit c.args.limit base c.loop-place.settled.base.rounds (here cases place inside)
    c.in_err-case.field-0.0 invariant.same
    c.in_err-case.ensures.unsettled))

pub add_case-requires-clause-exist : goal.add_case-requires-clause-exist
add_case-requires-clause-exist c =
    let cases = c.args.subject.now.cases in
    let place = c.loop-place.place in
    let values = c.in-Some.values.now in
    let at = sym c.in-Some.ensures in
    subst (NetsExist c.args.subject.now.circuit) (get_or_from_slice_get cases place values values at)
    (c.requires.is.exist place values (slice_get_within cases place values at))

pub add_case-requires-clause-known : goal.add_case-requires-clause-known
add_case-requires-clause-known c = c.in_ok-case.ensures.settled.are

pub add_case-requires-clause-fit : goal.add_case-requires-clause-fit
add_case-requires-clause-fit c = c.in_ok-case.ensures.settled.settled.fit

pub loop-place-preserved : goal.loop-place-preserved
loop-place-preserved c =
    let len = c.len-place-end.ensures in
    let test = c.loop-place-test.true in
    let cases = c.args.subject.now.cases in
    let place = c.loop-place.place in
    let inside : place < length cases = omega (arith, len, test) in
    let circuit = c.args.subject.now.circuit in
    let limit = c.args.limit in
    let base = c.in_ok-settled.settled.base.rounds in
    let invariant = c.loop-place.invariant in
    let case = c.in_ok-case.case in
    let settled =
    subst (λ (b : ℕ). IsCaseIn circuit limit b (here cases place inside)
    c.case.new.settled_base.store case) invariant.same
    c.in_ok-case.ensures.settled in
    record {
      so_far =
          subst (λ (ls : List Listed). OfCases circuit limit base ls
          (Holds c.args.question.request.trace c.args.question.version circuit base
          c.add_case.new.answer))
          (sym (next_listed cases place inside))
          (c.in_ok-add_case.ensures limit (numbered 1 (take place cases)) (here cases place inside)
          (get_or_from_slice_get cases place c.in-Some.values.now [] (sym c.in-Some.ensures)) settled
          invariant.so_far);
      settled = c.in_ok-case.ensures.kept;
      same = c.in_ok-case.ensures.round ∙ invariant.same;
    }

pub returns-clause-replied : goal.returns-clause-replied
returns-clause-replied c =
    let len = c.len-place-end.ensures in
    let past = c.loop-place-test.false in
    let cases = c.args.subject.now.cases in
    let circuit = c.args.subject.now.circuit in
    let limit = c.args.limit in
    let trace = c.args.question.request.trace in
    let version = c.args.question.version in
    let base = c.loop-place.settled.base.rounds in
    let invariant = c.loop-place.invariant in
    let whole : take c.loop-place.place cases ≡ cases =
    take_all c.loop-place.place cases (omega (arith, len, past)) in
    let answer = c.loop-place.answer in
    let so_far =
    subst (λ (xs : List (List CaseValue)). OfCases circuit limit base (numbered 1 xs)
    (Holds trace version circuit base answer)) whole
    (subst (λ (b : ℕ). OfCases circuit limit b (numbered 1 (take c.loop-place.place cases))
    (Holds trace version circuit b answer))
    (sym invariant.same) invariant.so_far) in
    let all = c.in_ok-add_only_case.ensures so_far in
    record {
      base = base;
      settles = invariant.settled.settled.settled.settles;
      of_cases = record {
        cases = all.cases;
        are_settled = all.are_settled;
        kept = all.kept;
        holds = c.in_ok-ended.ensures circuit base all.cases all.holds all.kept;
      };
    }
