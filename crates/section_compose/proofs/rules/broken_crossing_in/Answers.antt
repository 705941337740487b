use Rattle.std.proofs.Common.{◌∙◌, ◌<◌, ◌≤◌, ℕ, length, sym, ap, arith}
use Rattle.std.specs.Prelude.{slice_get}
use Rattle.flat_circuit.proofs.Numbered.{order_long}
use Rattle.section_compose.specs.Rules.{circuits, crossing_rule, rule_at}
use Rattle.section_compose.proofs.Walks.{net_goes_on, net_stops, nets_end}
use Rattle.section_compose.proofs.rules.broken_crossing_in.Goals as goal

pub returns-in-Some : goal.returns-in-Some
returns-in-Some c =
    let circuit = c.args.circuit.now in
    let long = order_long circuit.nets circuit.order c.known.ensures.by_name in
    let below : c.loop-net.net < length circuit.order = omega (arith, long) in
    sym (c.loop-net.invariant
    ∙ net_stops (crossing_rule (circuits c.args.sections.now) c.args.circuit.now) circuit c.args.section c.loop-net.net c.in-Some.rule below
    (ap (λ (n : ℕ). rule_at (crossing_rule (circuits c.args.sections.now) c.args.circuit.now) (slice_get circuit.nets n)) (sym c.net_at.ensures) ∙ sym c.in-Some.ensures))

pub loop-net-preserved : goal.loop-net-preserved
loop-net-preserved c =
    let circuit = c.args.circuit.now in
    let long = order_long circuit.nets circuit.order c.known.ensures.by_name in
    let below : c.loop-net.net < length circuit.order = omega (arith, long) in
    c.loop-net.invariant
    ∙ net_goes_on (crossing_rule (circuits c.args.sections.now) c.args.circuit.now) circuit c.args.section c.loop-net.net below
    (ap (λ (n : ℕ). rule_at (crossing_rule (circuits c.args.sections.now) c.args.circuit.now) (slice_get circuit.nets n)) (sym c.net_at.ensures) ∙ sym c.in_default.ensures)

pub returns : goal.returns
returns c =
    let circuit = c.args.circuit.now in
    let long = order_long circuit.nets circuit.order c.known.ensures.by_name in
    let past : length circuit.order ≤ c.loop-net.net = omega (arith, long) in
    sym (c.loop-net.invariant ∙ nets_end (crossing_rule (circuits c.args.sections.now) c.args.circuit.now) circuit c.args.section c.loop-net.net past)
