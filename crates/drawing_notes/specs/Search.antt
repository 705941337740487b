-- What a search finds that goes from net to net.
use Rattle.std.specs.Prelude.{◌≡◌, ◌↔◌, ℕ, Bool, true, false, ◌&&◌, Option, Some, None}
use Rattle.std.specs.List.{list_any}
use Rattle.flat_circuit.specs.declared.instance.Pin.{Pin}
use Rattle.flat_circuit.specs.declared.instance.Instance.{Instance}
use Rattle.flat_circuit.specs.Circuit.{Circuit, driver}
use Rattle.fixpoint_engine.specs.Work.{is_on_any}
use Rattle.fixpoint_engine.specs.Worklist.{drives_in}
use Rattle.fixpoint_engine.specs.Waves.{Waves}
use Rattle.drawing_notes.specs.Passing.{opens_on}
use Rattle.drawing_notes.specs.Pins.{passes, is_storage, clock_of, pin_net, is_net}

-- The nets at the start, and each other net of a set to which a step leads from one of these.
pub data Over (step : ℕ → ℕ → Bool) (within start : ℕ → Bool) : ℕ → Type 0 where
  At_start : {i : ℕ} → start i ≡ true → Over step within start i
  By_step : {from i : ℕ} → Over step within start from → step from i ≡ true → within i ≡ true →
      Over step within start i

-- exactly those nets were found
abbrev pub IsFound : (ℕ → ℕ → Bool) → (ℕ → Bool) → (ℕ → Bool) → (ℕ → Bool) → Type 0
IsFound step within start found = (i : ℕ) → (found i ≡ true) ↔ Over step within start i

-- what an instance drives, if it is a gate or a change function
abbrev pub passes_to : Option Instance → ℕ → Bool
passes_to None i = false
passes_to (Some j) i = passes j.kind && drives_in j.out i

-- what an instance drives, if it has an open pin on a net
abbrev pub opens_to : Circuit → Waves → ℕ → Option Instance → ℕ → Bool
opens_to c ws net None i = false
opens_to c ws net (Some j) i = opens_on c ws net (Some j) && drives_in j.out i

-- a gate or a change function has a pin on one of the nets
abbrev pub passes_from : (ℕ → Bool) → Option Instance → Bool
passes_from nets None = false
passes_from nets (Some j) = passes j.kind && list_any (λ (p : Pin). is_on_any nets p.target) j.pins

-- a net of the set leads to the net
abbrev pub is_led_to : Circuit → (ℕ → Bool) → ℕ → Bool
is_led_to c nets i = passes_from nets (driver c i)

-- storage whose clock or enable is on the net
abbrev pub is_clocked_by : ℕ → Option Instance → Bool
is_clocked_by clock None = false
is_clocked_by clock (Some j) = is_storage j.kind && is_net clock (pin_net (clock_of j))
