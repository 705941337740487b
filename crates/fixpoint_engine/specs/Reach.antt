-- How many ticks later a round holds than the round before: as far as one evaluation looks back,
-- and one tick more, since storage looks at its own output a tick before.
use Rattle.std.specs.Prelude.{ℕ, ◌+◌, max, if◌then◌else◌, List, [], ◌∷◌}
use Rattle.flat_circuit.specs.declared.instance.Pin.{Pin}
use Rattle.flat_circuit.specs.declared.instance.Instance.{Instance}
use Rattle.flat_circuit.specs.declared.net.Net.{Net}
use Rattle.element_kinds.specs.Kinds.{has_output}
use Rattle.flat_circuit.specs.Circuit.{Circuit}
use Rattle.fixpoint_engine.specs.Waves.{target_wire}

-- the most that a wire to one of the pins takes
abbrev pub greatest_wire : List Net → List Pin → ℕ
greatest_wire nets [] = 0
greatest_wire nets (p ∷ ps) = max (target_wire nets p.target).max (greatest_wire nets ps)

-- The most that an instance takes by itself: with two delays the greatest of both, with which
-- `delay` ends. A checker takes no time.
abbrev pub greatest_delay : Instance → ℕ
greatest_delay j = if has_output j.kind then j.delay.max else 0

-- how far back the instances look, the farthest of them
abbrev pub farthest : List Net → List Instance → ℕ
farthest nets [] = 0
farthest nets (j ∷ js) = max (greatest_delay j + greatest_wire nets j.pins) (farthest nets js)

abbrev pub reach : Circuit → ℕ
reach c = 1 + farthest c.nets c.instances
