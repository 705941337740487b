use Rattle.std.proofs.Common.{◌≡◌, ◌+◌, ℕ, arith, subst, sym}
use Rattle.std.proofs.lemmas.Result.{IfOk-weaker}
use Rattle.fixpoint_engine.specs.Start.{default_limit}
use Rattle.case_analysis.specs.Case.{case_at}
use Rattle.timing_analysis.specs.Settled.{IsBaseIn}
use Rattle.narrowing.specs.Leaf.{Says}
use Rattle.narrowing.proofs.Evaluated.{OfCase, first_case, said_of}
use Rattle.narrowing.proofs.leaf.said_by_case.Goals as goal

pub case-requires-clause-few : goal.case-requires-clause-few
case-requires-clause-few c = let bounded = c.default_limit-limit.ensures.bounded in omega arith

pub case-requires-clause-settled : goal.case-requires-clause-settled
case-requires-clause-settled c =
    subst
    (λ (limit : ℕ).
    IsBaseIn c.args.subject.now.circuit limit c.args.base.now.base.rounds c.args.base.now.store
    c.args.base.now.base.numbers c.args.base.now.known)
    (sym c.default_limit-limit.ensures.is) c.requires.settled

pub said_by-requires-clause-known : goal.said_by-requires-clause-known
said_by-requires-clause-known c = c.in-Ok.ensures.settled.are

pub said_by-requires-clause-fit : goal.said_by-requires-clause-fit
said_by-requires-clause-fit c = c.in-Ok.ensures.settled.settled.fit

pub returns-in-Ok : goal.returns-in-Ok
returns-in-Ok c =
    let circuit = c.args.subject.now.circuit in
    let cases = c.args.subject.now.cases in
    let limit = c.default_limit-limit.result in
    let own : limit ≡ default_limit circuit = c.default_limit-limit.ensures.is in
    let base =
    subst
    (λ (n : ℕ).
    IsBaseIn circuit n c.args.base.now.base.rounds c.args.base.now.store c.args.base.now.base.numbers
    c.args.base.now.known)
    (sym own) c.requires.settled in
    IfOk-weaker c.said_by.result (OfCase c.in-Ok.case.tick c.in-Ok.case.faults c.args.x) (Says circuit cases c.args.x)
    (λ said of_case tick values is are.
    let both = of_case tick is in
    said_of circuit limit c.args.base.now.base.rounds (record { number = 0 + 1; values = case_at cases 0 }) _ _ _ _ _ _ _
    values c.args.x tick own (first_case values cases are c.requires.some) base.settled c.in-Ok.ensures.settled.settled
    both.0 both.1)
    c.said_by.ensures
