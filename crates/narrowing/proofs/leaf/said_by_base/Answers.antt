use Rattle.std.proofs.Common.{◌≡◌, ℕ, [], arith, subst, sym}
use Rattle.std.proofs.lemmas.Result.{IfOk-weaker}
use Rattle.fixpoint_engine.specs.Start.{default_limit}
use Rattle.timing_analysis.specs.Settled.{IsBaseIn}
use Rattle.narrowing.specs.Leaf.{Says}
use Rattle.narrowing.proofs.Evaluated.{OfCase, no_values, said_of}
use Rattle.narrowing.proofs.leaf.said_by_base.Goals as goal

pub only_case-requires-clause-few : goal.only_case-requires-clause-few
only_case-requires-clause-few c = let bounded = c.default_limit-limit.ensures.bounded in omega arith

pub only_case-requires-clause-settled : goal.only_case-requires-clause-settled
only_case-requires-clause-settled c =
    subst
    (λ (limit : ℕ).
    IsBaseIn c.args.subject.now.circuit limit c.args.base.base.rounds c.args.base.store c.args.base.base.numbers
    c.args.base.known)
    (sym c.default_limit-limit.ensures.is) c.requires.settled

pub said_by-requires-clause-known : goal.said_by-requires-clause-known
said_by-requires-clause-known c = c.in_ok-store.ensures.are

pub said_by-requires-clause-fit : goal.said_by-requires-clause-fit
said_by-requires-clause-fit c = c.in_ok-store.ensures.settled.fit

pub returns : goal.returns
returns c =
    let circuit = c.args.subject.now.circuit in
    let cases = c.args.subject.now.cases in
    let limit = c.default_limit-limit.result in
    let own : limit ≡ default_limit circuit = c.default_limit-limit.ensures.is in
    let base =
    subst
    (λ (n : ℕ).
    IsBaseIn circuit n c.args.base.base.rounds c.args.base.store c.args.base.base.numbers c.args.base.known)
    (sym own) c.requires.settled in
    IfOk-weaker c.said_by.result (OfCase c.in_ok-store.case.tick c.in_ok-store.case.faults c.args.x)
    (Says circuit cases c.args.x)
    (λ said of_case tick values is are.
    let both = of_case tick is in
    said_of circuit limit c.args.base.base.rounds (record { number = 0; values = [] }) _ _ _ _ _ _ _ values c.args.x tick
    own (no_values values cases are c.requires.none) base.settled c.in_ok-store.ensures.settled both.0 both.1)
    c.said_by.ensures
