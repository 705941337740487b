-- The nets that a pin is on.
use Rattle.std.specs.Prelude.{◌≡◌, ℕ, Bool, ◌||◌, List, length}
use Rattle.std.specs.List.{list_any}
use Rattle.flat_circuit.specs.declared.instance.Pin.{Pin}
use Rattle.flat_circuit.specs.declared.instance.Instance.{Instance}
use Rattle.flat_circuit.specs.Instances.{is_on}
use Rattle.fixpoint_engine.specs.Settled.{marked_in}

-- a pin of the instance is on the net, whether its output listens there or not
abbrev pub has_pin_on : ℕ → Instance → Bool
has_pin_on i j = list_any (λ (p : Pin). is_on i p.target) j.pins

-- a pin of some element or checker is on the net
abbrev pub is_read : List Instance → ℕ → Bool
is_read js i = list_any (has_pin_on i) js

-- ---- the same by marks

-- exactly the nets that pins of these instances are on are marked
abbrev pub AreRead : List Instance → List Bool → Type 0
AreRead js marks = (i : ℕ) → marked_in marks i ≡ is_read js i

-- the nets that these pins are on are marked, beside those that were
pub record MarksPins (pins : List Pin) (old new : List Bool) : Type 0 where
  pub each_net : length new ≡ length old
  pub marks : (i : ℕ) → marked_in new i
      ≡ (marked_in old i || list_any (λ (p : Pin). is_on i p.target) pins)
