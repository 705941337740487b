use Rattle.std.proofs.Common.{◌∙◌, List, ℕ, Some, ap, sym}
use Rattle.trace_sim.specs.Choice.{chosen}
use Rattle.trace_sim.proofs.Chosen.{chosen_at, no_delays, no_wires}
use Rattle.trace_sim.proofs.choice.Choice.at.Goals as goal

pub returns-in-None : goal.returns-in-None
returns-in-None c = sym (no_delays c.args.self.now.delays c.args.self.now.wires c.args.k (sym c.in-None.ensures))

pub returns-in-None-get : goal.returns-in-None-get
returns-in-None-get c = sym (no_wires c.args.self.now.delays c.args.self.now.wires c.args.k (sym c.in-None-get.ensures))

pub returns-in-Some-get : goal.returns-in-Some-get
returns-in-Some-get c =
    ap (λ (ws : List ℕ). Some (chosen c.in-Some.delays.now ws)) c.as_slice.ensures
    ∙ sym (chosen_at c.args.self.now.delays c.args.self.now.wires c.args.k c.in-Some.delays.now c.in-Some-get.wires.now (sym c.in-Some.ensures) (sym c.in-Some-get.ensures))
