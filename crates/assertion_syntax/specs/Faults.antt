-- When a name's assertion is none for a header.
use Rattle.scald_base.specs.Time.{Header}
use Rattle.scald_base.specs.Fitting.{IntervalsFit, EdgesOverlap as Overlap}
use Rattle.scald_base.specs.declared.assertion.AssertSpec.{AssertSpec}
use Rattle.assertion_syntax.specs.declared.fitting.NameFault.{NameFault}
use Rattle.assertion_syntax.specs.declared.fitting.NameFault.TheVariants.{BadName, EdgesOverlap}

-- An interval comes first: edges are asked for only if all intervals fit.
abbrev pub IsFaultOf : Header → AssertSpec → NameFault → Type 0
IsFaultOf h a BadName = ¬ IntervalsFit h a
IsFaultOf h a EdgesOverlap = IntervalsFit h a × Overlap h a
