use Rattle.std.proofs.Common.{ℕ, List, length, ap, sym, subst, arith, rules, ℤ, FitsSigned, w64}
use Rattle.std.proofs.lemmas.Int.{to_z-of_z}
use Rattle.std.proofs.lemmas.Option.{slice_get_within}
use Rattle.critical_paths.specs.declared.event.Stop.{Stop}
use Rattle.critical_paths.specs.declared.path.Node.{Node}
use Rattle.fixpoint_engine.specs.Waves.{waves_of}
use Rattle.critical_paths.specs.Known.{IsBegun, IsHalt, IsNumbered, IsRound}
use Rattle.critical_paths.proofs.Settles.{begin_end_at, begin_known, small_circuit, small_stops}
use Rattle.critical_paths.proofs.Turning.{begin_round}
use Rattle.critical_paths.proofs.Walks.{chain_short}
use Rattle.critical_paths.proofs.path.Paths.settle.Goals as goal

pub ticks_from-requires-clause-long : goal.ticks_from-requires-clause-long
ticks_from-requires-clause-long g c =
    let circuit = c.args.view.now.circuit.now in
    let ws = waves_of c.args.view.now.waves.now in
    let walked = c.requires.walked.1 in
    let short = chain_short circuit ws c.args.stop.corner c.args.chain.now.entries walked.stops
    walked.apart in
    let p = c.period-period in
    let small = small_stops circuit (small_circuit circuit p.result p.ensures.is p.ensures.shortest
    p.ensures.longest c.requires.sees.circuit.few_nets) in
    omega (arith, short, small)

pub ticks_from-requires-clause-short : goal.ticks_from-requires-clause-short
ticks_from-requires-clause-short g c = λ k e at. (c.requires.walked.1.stops k e at).short

pub number_round-requires-clause-room : goal.number_round-requires-clause-room
number_round-requires-clause-room g c =
    let circuit = c.args.view.now.circuit.now in
    let ws = waves_of c.args.view.now.waves.now in
    let walked = c.requires.walked.1 in
    let short = chain_short circuit ws c.args.stop.corner c.args.chain.now.entries walked.stops
    walked.apart in
    let p = c.period-period in
    let small = small_stops circuit (small_circuit circuit p.result p.ensures.is p.ensures.shortest
    p.ensures.longest c.requires.sees.circuit.few_nets) in
    omega (arith, short, small)

pub push_round-requires : goal.push_round-requires
push_round-requires g c =
    let circuit = c.args.view.now.circuit.now in
    let ws = waves_of c.args.view.now.waves.now in
    let met = c.args.self.now.met.entries in
    let chain = c.args.chain.now.entries in
    let halt = subst (IsHalt circuit ws met chain c.args.stop) c.in-Passed.is c.requires.halt in
    slice_get_within chain c.in-Passed.place (c.args.stop, halt.1.0) halt.1.1

pub returns-in-Known-clause-begun : goal.returns-in-Known-clause-begun
returns-in-Known-clause-begun g c =
    let circuit = c.args.view.now.circuit.now in
    let ws = waves_of c.args.view.now.waves.now in
    let nodes = c.args.self.now.nodes in
    let met = c.args.self.now.met.entries in
    let chain = c.args.chain.now.entries in
    subst (λ (m : ℕ). IsBegun circuit ws nodes met chain c.args.stop (c.in-Known.number, m))
    (sym c.len.ensures.len)
    (begin_known circuit ws nodes met chain c.args.stop c.in-Known.number c.requires.knows
    (subst (IsHalt circuit ws met chain c.args.stop) c.in-Known.is c.requires.halt)
    c.requires.walked.1.new)

pub returns-in_ok-enter-in-Ends-clause-begun : goal.returns-in_ok-enter-in-Ends-clause-begun
returns-in_ok-enter-in-Ends-clause-begun g c =
    let circuit = c.args.view.now.circuit.now in
    let ws = waves_of c.args.view.now.waves.now in
    let nodes = c.args.self.now.nodes in
    let met = c.args.self.now.met.entries in
    let chain = c.args.chain.now.entries in
    let halt = subst (IsHalt circuit ws met chain c.args.stop) c.in-Ends.is c.requires.halt in
    begin_end_at circuit ws nodes met chain c.args.stop c.in-Ends.node c.requires.knows halt.1.0
    halt.1.1 c.requires.walked.1.new
    _ _ _ _ (cc c.in_ok-enter-in-Ends.ensures.nodes) (cc c.in_ok-enter-in-Ends.ensures.met)
    (cc c.in_ok-enter-in-Ends.ensures.number) (cc)

pub returns-in_ok-number_round-in-Passed-clause-begun :
    goal.returns-in_ok-number_round-in-Passed-clause-begun
returns-in_ok-number_round-in-Passed-clause-begun g c =
    let circuit = c.args.view.now.circuit.now in
    let ws = waves_of c.args.view.now.waves.now in
    let nodes = c.args.self.now.nodes in
    let met = c.args.self.now.met.entries in
    let chain = c.args.chain.now.entries in
    let t = c.args.stop in
    let place = c.in-Passed.place in
    let walked = c.requires.walked.1 in
    let halt = subst (IsHalt circuit ws met chain t) c.in-Passed.is c.requires.halt in
    let ticks = c.ticks_from.result in
    let fits : FitsSigned w64 ticks = search rules in
    let round = subst (λ (z : ℤ). IsRound nodes chain place (length chain) z
    c.push_round.new.self.nodes) (to_z-of_z w64 ticks fits)
    c.in_ok-push_round-in-Passed.ensures.nodes in
    let numbers = subst (λ (m : List (Stop × ℕ)). IsNumbered m chain place
    (length c.as_slice-base.result.now) (length chain) c.number_round.new.self.met.entries)
    (ap (λ m. m.entries) c.push_round.ensures.met) c.in_ok-number_round-in-Passed.ensures.met in
    let short = chain_short circuit ws t.corner chain walked.stops walked.apart in
    subst (λ (l : List Node). IsBegun circuit ws l c.number_round.new.self.met.entries chain t
    ((length c.as_slice-base.result.now), place))
    (sym c.number_round.ensures.nodes)
    (begin_round circuit ws chain t halt.1.0 place (length c.as_slice-base.result.now) ticks
    walked.leads walked.apart halt.1.1 nodes c.push_round.new.self.nodes met
    c.number_round.new.self.met.entries (ap length c.as_slice-base.ensures) c.requires.knows round
    numbers c.ticks_from.ensures.is c.ticks_from.ensures.near
    (omega (arith, short)) walked.new)
