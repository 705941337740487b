-- The pins at which storage and checkers of setup and hold have their clock and their input.
use Rattle.std.specs.Prelude.{ℕ, ◌==◌, Bool, true, false, ◌||◌, List, codes, slice_get, Option, Some, None}
use Rattle.vector_names.specs.declared.bits.Target.{Target}
use Rattle.vector_names.specs.declared.bits.Target.TheVariants.{Net as OnNet, Constant}
use Rattle.element_kinds.specs.declared.kind.Kind.{Kind}
use Rattle.element_kinds.specs.declared.form.Form.{Form}
use Rattle.element_kinds.specs.declared.form.Form.TheVariants.{Gate, Change, Register, Latch as Enabled, Checker}
use Rattle.element_kinds.specs.Kinds.{by_form, keeps_bit, is_memoryless, checks_points}
use Rattle.flat_circuit.specs.declared.instance.Pin.{Pin}
use Rattle.flat_circuit.specs.declared.instance.Instance.{Instance}
use Rattle.flat_circuit.specs.Circuit.{Circuit}
use Rattle.listing.specs.Names.{net_text}

-- registers and latches
abbrev pub is_storage : Kind → Bool
is_storage kind = by_form keeps_bit kind

-- open while the enable is 1, and closed by the edge that ends this
abbrev pub is_enabled : Form → Bool
is_enabled Gate = false
is_enabled Change = false
is_enabled (Register forced) = false
is_enabled (Enabled forced) = true
is_enabled (Checker check) = false

abbrev pub is_latch : Kind → Bool
is_latch kind = by_form is_enabled kind

-- gates and change functions
abbrev pub passes : Kind → Bool
passes kind = by_form is_memoryless kind

-- what has a clock, or an enable, and an input: storage, and checkers of setup and hold
abbrev pub has_clock : Kind → Bool
has_clock kind = is_storage kind || checks_points kind

-- the clock or the enable, and the input
abbrev pub clock_of : Instance → Option Pin
clock_of j = slice_get j.pins 0

abbrev pub input_of : Instance → Option Pin
input_of j = slice_get j.pins 1

-- the net that a pin is on, if it is on one
abbrev pub target_net : Target → Option ℕ
target_net (OnNet i) = Some i
target_net (Constant one) = None

abbrev pub pin_net : Option Pin → Option ℕ
pin_net None = None
pin_net (Some p) = target_net p.target

-- the pin is complemented
abbrev pub is_inverted : Option Pin → Bool
is_inverted None = false
is_inverted (Some p) = p.inverted

-- it is there, and is this net
abbrev pub is_net : ℕ → Option ℕ → Bool
is_net i None = false
is_net i (Some n) = n == i

-- how a line names what a pin is on
abbrev pub target_text : Circuit → Target → List ℕ
target_text c (OnNet i) = net_text c i
target_text c (Constant true) = codes "ONE"
target_text c (Constant false) = codes "ZERO"
