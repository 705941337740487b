-- The cases of a drawing, by the nets of a circuit.
use Rattle.std.specs.Prelude.{ℕ, ◌==◌, Bool, false, ◌&&◌, List, [], ◌∷◌, length, map, nat_le, option_map, slice_get, if◌then◌else◌, Option, Some, None}
use Rattle.std.specs.List.{filter_map, find, range_with_len}
use Rattle.std.specs.Str.{bytes_eq}
use Rattle.drawing_tree.specs.declared.drawing.CaseEntry.{CaseEntry}
use Rattle.drawing_tree.specs.declared.drawing.CaseStmt.{CaseStmt}
use Rattle.drawing_tree.specs.Tree.{Drawing}
use Rattle.macro_expander.specs.Terms.{net_text}
use Rattle.flat_circuit.specs.declared.case.CaseValue.{CaseValue}
use Rattle.flat_circuit.specs.declared.net.Net.{Net}
use Rattle.flat_circuit.specs.Circuit.{Circuit}
use Rattle.drawing_omissions.specs.declared.case_bits.CaseBit.{CaseBit}

-- what an entry names, in the drawing's own scope, and the bit that it gives
abbrev pub bit_of : CaseEntry → CaseBit
bit_of e = record { name = net_text [] e.name; bit = e.bit; one = e.value == 1 }

abbrev pub bits_of : CaseStmt → List CaseBit
bits_of c = map bit_of c.entries

abbrev pub case_bits : Drawing → List (List CaseBit)
case_bits d = map bits_of d.cases

-- ---- by nets

abbrev pub is_named_by : CaseBit → Option Net → Bool
is_named_by b None = false
is_named_by b (Some n) = bytes_eq b.name n.name && (b.bit == n.bit)

abbrev pub is_its_net : Circuit → CaseBit → ℕ → Bool
is_its_net c b i = is_named_by b (slice_get c.nets i)

abbrev pub value_for : Bool → ℕ → CaseValue
value_for one net = record { net = net; one = one }

abbrev pub listed : Option CaseValue → List CaseValue
listed None = []
listed (Some v) = v ∷ []

-- the net that has this name gets the bit; no net has a greater number
abbrev pub value_of : Circuit → CaseBit → Option CaseValue
value_of c b =
    if nat_le b.bit 65535
    then option_map (value_for b.one) (find (is_its_net c b) (range_with_len 0 (length c.nets)))
    else None

abbrev pub values_of : Circuit → List CaseBit → List CaseValue
values_of c bits = filter_map (value_of c) bits

abbrev pub case_values : Circuit → List (List CaseBit) → List (List CaseValue)
case_values c cases = map (values_of c) cases
