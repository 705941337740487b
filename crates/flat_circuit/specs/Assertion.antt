-- What is asserted of one net.
use Rattle.std.specs.Prelude.{Option, Some, None}
use Rattle.std.specs.Global.{Box}
use Rattle.scald_base.specs.declared.assertion.AssertSpec.{AssertSpec}
use Rattle.scald_base.specs.declared.assertion.AssertSpec.TheVariants.{None as Unasserted}

-- an assertion in memory of its own, or nothing
abbrev pub spec_in : Option (Box AssertSpec) → AssertSpec
spec_in None = Unasserted
spec_in (Some spec) = spec.value
