-- The nets on which a constraint depends.
use Rattle.std.specs.Prelude.{ℕ, Bool}
use Rattle.flat_circuit.specs.Circuit.{Circuit}
use Rattle.narrowing.specs.Cone.{IsBehind, own_nets}
use Rattle.narrowing.specs.declared.cone.Through.TheVariants.{EachPin}
use Rattle.narrowing.specs.declared.constraint.Constraint.{Constraint}

-- A set of nets is the cone: the constraint's own nets, and with a driven net those of all pins of
-- its driver.
abbrev pub IsCone : Circuit → Constraint → (ℕ → Bool) → Type 0
IsCone c x cone = IsBehind c EachPin (own_nets c x) cone
