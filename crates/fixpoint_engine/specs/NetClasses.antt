-- The classes by which the rounds of a circuit go.
use Rattle.std.specs.Prelude.{◌≡◌, List, length, IfSome}
use Rattle.flat_circuit.specs.declared.case.CaseValue.{CaseValue}
use Rattle.flat_circuit.specs.Circuit.{Circuit}
use Rattle.flat_circuit.specs.Stable.{IsStable}
use Rattle.fixpoint_engine.specs.declared.net_classes.NetClasses.{NetClasses}
use Rattle.fixpoint_engine.specs.Hearers.{AreHearers}

-- If there are classes, each net has one, and nothing tells the nets of one class apart, in no
-- case either; and it is known what hears each.
pub record AreClasses (c : Circuit) (cases : List (List CaseValue))
    (classes : NetClasses) : Type 0 where
  pub stable : IfSome classes.nets (λ ks. (length ks ≡ length c.nets) × IsStable c cases ks)
  pub hearers : IfSome classes.nets (λ ks. AreHearers c ks classes.hearers)
