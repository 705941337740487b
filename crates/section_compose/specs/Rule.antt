-- What the rules of sections are called.
use Rattle.std.specs.Prelude.{ℕ, Bool, true, false, List, codes}
use Rattle.section_compose.specs.declared.rules.Rule.{Rule}
use Rattle.section_compose.specs.declared.rules.Rule.TheVariants.{Case, Clock, Assertion, Drivers, Unasserted, Delay}

abbrev pub number_of : Rule → ℕ
number_of Case = 24
number_of Clock = 25
number_of Assertion = 26
number_of Drivers = 27
number_of Unasserted = 28
number_of Delay = 29

abbrev pub name_of : Rule → List ℕ
name_of Case = codes "SectionCase"
name_of Clock = codes "SectionClock"
name_of Assertion = codes "SectionAssertion"
name_of Drivers = codes "SectionDrivers"
name_of Unasserted = codes "SectionUnasserted"
name_of Delay = codes "SectionDelay"

-- whether the rule is one of nets, and not of a section
abbrev pub is_of_net : Rule → Bool
is_of_net Case = false
is_of_net Clock = false
is_of_net Assertion = true
is_of_net Drivers = true
is_of_net Unasserted = true
is_of_net Delay = true
