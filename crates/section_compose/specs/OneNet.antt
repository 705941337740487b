-- Nets of the whole that sections make.
use Rattle.std.specs.Prelude.{◌≡◌, ℕ, true, List, slice_get, Some}
use Rattle.flat_circuit.specs.declared.net.Net.{Net}
use Rattle.flat_circuit.specs.Circuit.{Circuit, net_name}
use Rattle.section_compose.specs.Globals.{is_global}

-- The whole is all nets and all instances of all sections. This is net i of section s.
pub record IsNetOf (whole : List Circuit) (s i : ℕ) (c : Circuit) (net : Net) : Type 0 where
  pub section_is : slice_get whole s ≡ Some c
  pub net_is : slice_get c.nets i ≡ Some net

-- two nets of sections are one net of the whole
pub record AreOneNet (net other : Net) : Type 0 where
  pub global : is_global net ≡ true
  pub same_name : net_name net ≡ net_name other
