-- Where what a pin is on has one wave in two waves of all nets.
use Rattle.std.specs.Prelude.{◌≡◌}
use Rattle.vector_names.specs.declared.bits.Target.{Target}
use Rattle.vector_names.specs.declared.bits.Target.TheVariants.{Net as OnNet, Constant}
use Rattle.flat_circuit.specs.declared.instance.Pin.{Pin}
use Rattle.fixpoint_engine.specs.Waves.{Waves}

-- a net has one wave in both; a constant has
abbrev pub IsSameOn : Waves → Waves → Target → Type 0
IsSameOn ws vs (OnNet i) = ws i ≡ vs i
IsSameOn ws vs (Constant one) = Unit {0}

abbrev pub IsSameAt : Waves → Waves → Pin → Type 0
IsSameAt ws vs p = IsSameOn ws vs p.target
