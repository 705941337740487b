use Rattle.std.proofs.Common.{◌≡◌, ◌∙◌, ◌<◌, ℕ, List, length, refl, sym, subst, take, arith}
use Rattle.std.proofs.lemmas.List.{take_all}
use Rattle.std.proofs.lemmas.Result.{err_from_is_err_and}
use Rattle.flat_circuit.specs.declared.case.CaseValue.{CaseValue}
use Rattle.timing_analysis.specs.Case.{Case, Listed, listed_cases, numbered}
use Rattle.timing_analysis.specs.Settled.{IsCaseIn}
use Rattle.timing_analysis.proofs.Ends.{base_early}
use Rattle.timing_analysis.proofs.Stored.{ends_from}
use Rattle.program_call.specs.Reporter.{OfCases}
use Rattle.program_call.proofs.Reporting.{ends_early, here, next_listed, of_none, of_weaker}
use Rattle.program_call.proofs.cases.report_cases.Goals as goal

pub begin-requires : goal.begin-requires
begin-requires g c =
    let within = c.in_ok-settled_base.ensures.settled.settled.within in
    let few = c.requires.few in
    omega (arith, within, few)

pub returns-in_err-settled_base-clause-ended : goal.returns-in_err-settled_base-clause-ended
returns-in_err-settled_base-clause-ended g c =
    let p = err_from_is_err_and c.from_residual.result c.from_residual.ensures.1 in
    rw (p.1, p.2) (base_early c.args.subject.now.circuit c.args.subject.now.cases c.args.limit
    c.in_err-settled_base.field-0.0 c.in_err-settled_base.ensures.unsettled)

pub loop-place-init : goal.loop-place-init
loop-place-init g c = record {
  so_far = of_none c.args.subject.now.circuit c.args.limit c.in_ok-settled_base.settled_base.base.rounds _
      c.in_ok-reporter.ensures.holds;
  ready = c.in_ok-reporter.ensures.ready;
  settled = c.in_ok-settled_base.ensures.settled;
  same = refl;
}

pub add_case-requires-clause-place : goal.add_case-requires-clause-place
add_case-requires-clause-place g c =
    let len = c.len-place-end.ensures in
    let inside = c.loop-place-test.true in
    let few = c.requires.is.few in
    omega (arith, len, inside, few)

pub add_case-requires-clause-known : goal.add_case-requires-clause-known
add_case-requires-clause-known g c = c.in_ok-case.ensures.settled.are

pub add_case-requires-clause-fit : goal.add_case-requires-clause-fit
add_case-requires-clause-fit g c = c.in_ok-case.ensures.settled.settled.fit

pub add_case-requires-clause-few : goal.add_case-requires-clause-few
add_case-requires-clause-few g c = c.in_ok-case.ensures.settled.settled.few

pub returns-in_err-case-clause-ended : goal.returns-in_err-case-clause-ended
returns-in_err-case-clause-ended g c =
    let p = err_from_is_err_and c.from_residual-in_err-case.result
    c.from_residual-in_err-case.ensures.1 in
    let len = c.len-place-end.ensures in
    let test = c.loop-place-test.true in
    let cases = c.args.subject.now.cases in
    let place = c.loop-place.place in
    let inside : place < length cases = omega (arith, len, test) in
    let circuit = c.args.subject.now.circuit in
    let base = c.in_ok-settled_base.settled_base.base.rounds in
    let invariant = c.loop-place.invariant in
    rw (p.1, p.2) (ends_early cases place inside circuit c.args.limit base _ c.in_err-case.field-0.0
    c.in_ok-settled_base.ensures.settled.settled.settled.settles invariant.so_far
    (ends_from circuit c.args.limit base c.loop-place.settled_base.base.rounds (here cases place inside)
    c.in_err-case.field-0.0 invariant.same
    c.in_err-case.ensures.unsettled))

pub loop-place-preserved : goal.loop-place-preserved
loop-place-preserved g c =
    let len = c.len-place-end.ensures in
    let test = c.loop-place-test.true in
    let cases = c.args.subject.now.cases in
    let place = c.loop-place.place in
    let inside : place < length cases = omega (arith, len, test) in
    let circuit = c.args.subject.now.circuit in
    let limit = c.args.limit in
    let base = c.in_ok-settled_base.settled_base.base.rounds in
    let invariant = c.loop-place.invariant in
    let case = c.in_ok-case.case in
    let settled =
    subst (λ (b : ℕ). IsCaseIn circuit limit b (here cases place inside)
    c.case.new.settled_base.store case) invariant.same
    c.in_ok-case.ensures.settled in
    record {
      so_far =
          subst (λ (ls : List Listed). OfCases circuit limit base ls
          (λ (some : List Case). g.R.Reporter.holds c.add_case.new.reporter c.args.asked c.args.kept
          circuit base some))
          (sym (next_listed cases place inside))
          (c.in_ok-add_case.ensures.holds c.args.asked c.args.kept limit base
          (numbered 1 (take place cases)) (here cases place inside)
          settled invariant.so_far);
      ready = c.in_ok-add_case.ensures.ready;
      settled = c.in_ok-case.ensures.kept;
      same = c.in_ok-case.ensures.round ∙ invariant.same;
    }

pub returns-in_err-reporter-clause-ended : goal.returns-in_err-reporter-clause-ended
returns-in_err-reporter-clause-ended g c =
    let p = err_from_is_err_and c.from_residual-in_err-reporter.result
    c.from_residual-in_err-reporter.ensures.1 in
    rw (p.1, p.2) tt

pub returns-in_err-add_case-clause-ended : goal.returns-in_err-add_case-clause-ended
returns-in_err-add_case-clause-ended g c =
    let p = err_from_is_err_and c.from_residual-in_err-add_case.result
    c.from_residual-in_err-add_case.ensures.1 in
    rw (p.1, p.2) tt

pub add_only_case-requires-clause-ready : goal.add_only_case-requires-clause-ready
add_only_case-requires-clause-ready g c =
    let len = c.len-place-end.ensures in
    let past = c.loop-place-test.false in
    let most = c.loop-place.auto.place-end in
    let all : c.loop-place.place ≡ length c.args.subject.now.cases =
    omega (arith, len, past, most) in
    subst (g.R.Reporter.ready c.loop-place.reporter c.args.subject.now.circuit) all
    c.loop-place.invariant.ready

pub end-requires : goal.end-requires
end-requires g c = c.in_ok-add_only_case.ensures.ready

pub returns-clause-reported : goal.returns-clause-reported
returns-clause-reported g c =
    let len = c.len-place-end.ensures in
    let past = c.loop-place-test.false in
    let cases = c.args.subject.now.cases in
    let circuit = c.args.subject.now.circuit in
    let limit = c.args.limit in
    let asked = c.args.asked in
    let kept = c.args.kept in
    let base = c.loop-place.settled_base.base.rounds in
    let invariant = c.loop-place.invariant in
    let whole : take c.loop-place.place cases ≡ cases =
    take_all c.loop-place.place cases (omega (arith, len, past)) in
    let reporter = c.loop-place.reporter in
    let so_far =
    subst (λ (xs : List (List CaseValue)). OfCases circuit limit base (numbered 1 xs)
    (λ (some : List Case). g.R.Reporter.holds reporter asked kept circuit base some)) whole
    (subst (λ (b : ℕ). OfCases circuit limit b (numbered 1 (take c.loop-place.place cases))
    (λ (some : List Case). g.R.Reporter.holds reporter asked kept circuit b some))
    (sym invariant.same) invariant.so_far) in
    record {
      base = base;
      settles = invariant.settled.settled.settled.settles;
      of_cases =
          of_weaker circuit limit base (listed_cases cases) _ _
          (λ some holds. c.in_ok-end.ensures asked kept base some holds)
          (c.in_ok-add_only_case.ensures.holds asked kept so_far);
    }
