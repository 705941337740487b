use Rattle.std.proofs.Common.{arith}
use Rattle.flat_circuit.specs.Builder.{name_of_key}
use Rattle.flat_circuit.proofs.Counts.{built_net}
use Rattle.flat_circuit.proofs.builder.Builder.number.Goals as goal

pub invariant_of-self-2 : goal.invariant_of-self-2
invariant_of-self-2 c =
    let i = c.self.inside in (
      built_net i.header i.nets c.add.new.self i.assertions i.instances (name_of_key c.args.name) c.default_wire-wire.result c.self.invariant.0
          (omega (arith, c.len-number.ensures.names, c.if-number-ge-MOST_BITS.false))
          c.in_default.ensures c.in_ok-add.ensures.names c.in_ok-add.ensures.wires,
      c.self.invariant.1,
    )
