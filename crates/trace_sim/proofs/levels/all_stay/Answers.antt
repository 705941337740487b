use Rattle.std.proofs.Common.{◌∙◌, sym, ap, inr, List}
use Rattle.std.specs.List.{list_all}
use Rattle.scald_base.specs.Signal.{Signal}
use Rattle.trace_sim.specs.Making.{stays_at}
use Rattle.trace_sim.specs.Making.{seen}
use Rattle.trace_sim.proofs.Steps.{no_signals}
use Rattle.trace_sim.proofs.levels.all_stay.Goals as goal

pub returns-else-place-wires : goal.returns-else-place-wires
returns-else-place-wires c =
    sym (ap (λ (xs : List Signal). list_all (stays_at c.args.t) xs)
    (no_signals (seen c.args.bits.now) c.args.pins.now c.args.wires.now c.pins.place (inr c.if-place-wires.false))) ∙ c.pins.invariant.so_far
