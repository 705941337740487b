-- Where a broken rule is.
use Rattle.std.specs.Prelude.{◌≡◌, ℕ, ◌+◌, ◌<◌, true, List, length, slice_get, Some}
use Rattle.flat_circuit.specs.Circuit.{Circuit}
use Rattle.section_compose.specs.declared.rules.Broken.{Broken}
use Rattle.section_compose.specs.Rule.{is_of_net}

-- It is of a section of this list, whose first has this number, and if it is a rule of nets of a
-- place in their order.
pub record IsOfSection (sections : List Circuit) (first : ℕ) (b : Broken) : Type 0 where
  pub place : ℕ
  pub circuit : Circuit
  pub is : slice_get sections place ≡ Some circuit
  pub section : b.section ≡ first + place
  pub net : is_of_net b.rule ≡ true → b.net < length circuit.order
