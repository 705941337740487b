-- The limits of a subject are of few forms.
use Rattle.std.proofs.Common.{ℕ, Bool, true, false, cond, List, [], ◌∷◌, Option, Some, None}
use Rattle.std.specs.Prelude.{slice_get}
use Rattle.element_kinds.specs.declared.form.Check.{Check}
use Rattle.element_kinds.specs.declared.form.Check.TheVariants.{SetupHold as AboutRise, RiseFall as RiseToFall, MinPulse as Widths}
use Rattle.element_kinds.specs.Kinds.{check_of, may_be_marked}
use Rattle.flat_circuit.specs.declared.instance.Instance.{Instance}
use Rattle.flat_circuit.specs.declared.net.Net.{Net}
use Rattle.flat_circuit.specs.Circuit.{Circuit}
use Rattle.fixpoint_engine.specs.Waves.{marked_pin}
use Rattle.point_check.specs.Assertion.{is_held}
use Rattle.slack_rows.specs.declared.parameter.Word.TheVariants.{Gate, Before as GateBefore, After as GateAfter, Assert, From as StableFrom, To as StableTo}
use Rattle.slack_rows.specs.declared.parameter.Subject.{Subject}
use Rattle.slack_rows.specs.declared.parameter.Subject.TheVariants.{Instance as OfInstance, Net as OfNet}
use Rattle.slack_rows.specs.Limit.{beside}
use Rattle.slack_rows.specs.Rows.{if_some, limits_of, limits_of_check, limits_of_instance, limits_of_mark, limits_of_net}
use Rattle.slack_rows.proofs.Levels.{Form, NoLimits, OfEdges, OfWidths, OfMark, OfHeld}

of_some : (some : List ℕ) → Form (if_some some (Gate ∷ GateBefore ∷ GateAfter ∷ []))
of_some [] = NoLimits
of_some (i ∷ some) = OfMark

of_marked : (j : Instance) (marked : Option ℕ) → Form (limits_of_mark j marked)
of_marked j None = NoLimits
of_marked j (Some marked) = of_some (beside j marked)

of_check : (check : Option Check) → Form (limits_of_check check)
of_check None = NoLimits
of_check (Some AboutRise) = OfEdges
of_check (Some RiseToFall) = OfEdges
of_check (Some Widths) = OfWidths

of_instance : (o : Option Instance) → Form (limits_of_instance o)
of_instance None = NoLimits
of_instance (Some j) = by (may_be_marked j.kind)
  where
    by : (b : Bool) → Form (cond b (limits_of_mark j (marked_pin j)) (limits_of_check (check_of j.kind)))
    by true = of_marked j (marked_pin j)
    by false = of_check (check_of j.kind)

of_net : (o : Option Net) → Form (limits_of_net o)
of_net None = NoLimits
of_net (Some net) = by (is_held net)
  where
    by : (b : Bool) → Form (cond b (Assert ∷ StableFrom ∷ StableTo ∷ []) [])
    by true = OfHeld
    by false = NoLimits

pub forms : (c : Circuit) (subject : Subject) → Form (limits_of c subject)
forms c (OfInstance k) = of_instance (slice_get c.instances k)
forms c (OfNet i) = of_net (slice_get c.nets i)
