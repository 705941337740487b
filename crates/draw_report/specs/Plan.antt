-- The rows of the picture of a limit: nets, and pins with the waves that their checker sees.
use Rattle.std.specs.Prelude.{ℕ, ◌<◌, nat_lt, Bool, true, false, List, [], ◌∷◌, ◌++◌, codes, decimal, if◌then◌else◌}
use Rattle.std.specs.List.{All, flat_map}
use Rattle.scald_base.specs.Time.{Bounds}
use Rattle.skew_algebra.specs.Wave.{Wave}
use Rattle.step_values.specs.declared.value.Value.{Value}
use Rattle.vector_names.specs.declared.bits.Target.{Target}
use Rattle.vector_names.specs.declared.bits.Target.TheVariants.{Net as OnNet, Constant}
use Rattle.flat_circuit.specs.declared.instance.Pin.{Pin}
use Rattle.flat_circuit.specs.Circuit.{Circuit}
use Rattle.flat_circuit.specs.Instances.{PinExists}
use Rattle.fixpoint_engine.specs.Waves.{Waves, pin_wave, target_wire}
use Rattle.listing.specs.Names.{net_text}
use Rattle.draw_report.specs.declared.plan.Shown.{Shown}
use Rattle.draw_report.specs.declared.plan.Shown.TheVariants.{Net as OfNet, Pin as OfPin}

-- what is shown exists
abbrev pub IsThere : ℕ → Shown → Type 0
IsThere nets (OfNet net) = net < nets
IsThere nets (OfPin side pin) = PinExists nets pin

abbrev pub AreThere : ℕ → List Shown → Type 0
AreThere nets shown = All (IsThere nets) shown

-- ---- labels

abbrev pub sign_text : Bool → List ℕ
sign_text inverted = if inverted then codes "-" else []

abbrev pub bit_text : Bool → List ℕ
bit_text true = decimal 1
bit_text false = decimal 0

abbrev pub target_text : Circuit → Target → List ℕ
target_text c (OnNet net) = net_text c net
target_text c (Constant one) = bit_text one

abbrev pub joined : List (List ℕ) → List ℕ
joined texts = flat_map (λ (text : List ℕ). text) texts

-- the wire to a pin, if there is one
abbrev pub wire_text : Bounds → List ℕ
wire_text wire =
    if nat_lt 0 wire.max
    then joined (codes " wire " ∷ decimal wire.min ∷ codes ":" ∷ decimal wire.max ∷ [])
    else []

abbrev pub pin_text : Circuit → Pin → List ℕ
pin_text c pin =
    joined (sign_text pin.inverted ∷ target_text c pin.target ∷ [])
    ++ wire_text (target_wire c.nets pin.target)

abbrev pub shown_text : Circuit → Shown → List ℕ
shown_text c (OfNet net) = net_text c net
shown_text c (OfPin side pin) = pin_text c pin

-- ---- waves

abbrev pub shown_wave : Circuit → Waves → Shown → Wave Value
shown_wave c ws (OfNet net) = ws net
shown_wave c ws (OfPin side pin) = pin_wave c ws pin
