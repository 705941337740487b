-- What a builder holds while a narrowed circuit is built of the nets of another.
use Rattle.std.specs.Prelude.{◌≡◌, ℕ, ◌<◌, ◌≤◌, [], length}
use Rattle.scald_base.specs.Time.{Header}
use Rattle.flat_circuit.specs.Builder.{Built}
use Rattle.flat_circuit.specs.Circuit.{Circuit}

-- It has a net of this number now, and no fewer nets than before.
pub record HasNet (old new : Built) (number : ℕ) : Type 0 where
  pub header : new.header ≡ old.header
  pub instances : new.instances ≡ old.instances
  pub there : number < length new.names

-- It has this header, as many nets as the circuit, and no instance yet.
pub record HasNets (h : Header) (c : Circuit) (b : Built) : Type 0 where
  pub header : b.header ≡ h
  pub instances : b.instances ≡ []
  pub long : length c.nets ≤ length b.names
