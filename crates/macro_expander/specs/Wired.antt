-- A use of a primitive with its connections: the bits that it makes.
use Rattle.std.specs.Prelude.{ℕ, List, map}
use Rattle.drawing_tree.specs.Tree.{use_of}
use Rattle.flat_circuit.specs.declared.instance.Instance.{Instance}
use Rattle.flat_circuit.specs.Name.{Name}
use Rattle.macro_expander.specs.declared.instance_bits.Wiring.{Wiring}
use Rattle.macro_expander.specs.Named.{State}
use Rattle.macro_expander.specs.Outcome.{Outcome}
use Rattle.macro_expander.specs.Primitives.{all_added}
use Rattle.macro_expander.specs.Numbered.{instance_ref, joined_of}

-- bit k of the use
abbrev pub wired_bit : Wiring → ℕ → Instance
wired_bit w k = instance_ref w.path.now w.statement.now w.kind w.plan w.ins.now w.outs.now k

-- so many bits of it, added to a circuit with nets of these names
abbrev pub all_wired : List Name → Wiring → ℕ → State → Outcome (Unit {0})
all_wired names w width s =
    all_added w.path.now (use_of w.statement.now) w.kind w.plan width
    (map (joined_of names) w.ins.now) (map (joined_of names) w.outs.now) s
