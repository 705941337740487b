-- What it is worth that sections break no rule.
use Rattle.std.specs.Prelude.{◌≡◌, ℕ, ◌≤◌, true, List, slice_get, Some}
use Rattle.scald_base.specs.Time.{Header}
use Rattle.flat_circuit.specs.declared.instance.Instance.{Instance}
use Rattle.flat_circuit.specs.declared.net.Net.{Net}
use Rattle.flat_circuit.specs.Builder.{is_asserted}
use Rattle.flat_circuit.specs.Circuit.{Circuit}
use Rattle.section_compose.specs.Globals.{crosses}
use Rattle.section_compose.specs.OneNet.{AreOneNet, IsNetOf}

-- the same clock and the same skews
pub record SameClocks (h k : Header) : Type 0 where
  pub units : h.units ≡ k.units
  pub ticks : h.ticks ≡ k.ticks
  pub pskew : h.pskew ≡ k.pskew
  pub cskew : h.cskew ≡ k.cskew

-- The section that drives a net which crosses: it asserts something there, and its driver takes a
-- tick at least.
pub record IsDrivenBy (whole : List Circuit) (net : Net) : Type 0 where
  pub s : ℕ
  pub i : ℕ
  pub k : ℕ
  pub circuit : Circuit
  pub same : Net
  pub instance : Instance
  pub is : IsNetOf whole s i circuit same
  pub one : AreOneNet same net
  pub crossing : crosses whole same ≡ true
  pub driven : same.driver ≡ Some k
  pub instance_is : slice_get circuit.instances k ≡ Some instance
  pub slow : 1 ≤ instance.delay.min
  pub asserts : is_asserted same.spec ≡ true

-- All clocks are the same, a global net asserts the same wherever it stands, and a net that crosses
-- has such a driver.
pub record AreJoined (whole : List Circuit) : Type 0 where
  pub clocks : (s s' : ℕ) (c c' : Circuit) → slice_get whole s ≡ Some c →
      slice_get whole s' ≡ Some c' →
      SameClocks c.header c'.header
  pub alike : (s i s' i' : ℕ) (c c' : Circuit) (net other : Net) → IsNetOf whole s i c net →
      IsNetOf whole s' i' c' other → AreOneNet net other → net.spec ≡ other.spec
  pub driver : (s i : ℕ) (c : Circuit) (net : Net) → IsNetOf whole s i c net →
      crosses whole net ≡ true →
      IsDrivenBy whole net
