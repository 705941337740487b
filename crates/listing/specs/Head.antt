-- The head of the report: the version of the language and the period, how many bits there are, and
-- what is taken for constant.
use Rattle.std.specs.Prelude.{ℕ, not, ◌&&◌, List, [], ◌∷◌, ◌++◌, length, codes, decimal, is_none, if◌then◌else◌, slice_get, Option, Some, None, Bool, false}
use Rattle.std.specs.List.{flat_map}
use Rattle.scald_base.specs.Time.{period}
use Rattle.flat_circuit.specs.declared.net.Net.{Net}
use Rattle.flat_circuit.specs.Instances.{outputs, checkers}
use Rattle.flat_circuit.specs.Builder.{is_asserted}
use Rattle.flat_circuit.specs.Circuit.{Circuit}
use Rattle.listing.specs.Text.{line}
use Rattle.listing.specs.Names.{net_text}

-- the version of the drawing's language, and the period in ticks
unfoldable pub period_line : ℕ → Circuit → List ℕ
period_line version c =
    line (codes "SCALD " ∷ decimal version ∷ codes " PERIOD " ∷ decimal (period c.header) ∷ [])

-- the bits of nets, of instances with an output and of checkers
unfoldable pub counts_line : Circuit → List ℕ
counts_line c = line (
    codes "NETS " ∷ decimal (length c.nets) ∷ codes " INSTANCES " ∷ decimal (outputs c.instances)
    ∷ codes " CHECKS " ∷ decimal (checkers c.instances) ∷ [])

-- nothing drives it, and its name asserts nothing
abbrev pub is_taken_stable : Option Net → Bool
is_taken_stable None = false
is_taken_stable (Some n) = is_none n.driver && not (is_asserted n.spec)

unfoldable pub stable_line : Circuit → ℕ → List ℕ
stable_line c i =
    if is_taken_stable (slice_get c.nets i) then line (codes "STABLE " ∷ net_text c i ∷ []) else []

-- a line for each such net, in the order of names
abbrev pub stable_lines : Circuit → List ℕ
stable_lines c = flat_map (stable_line c) c.order

abbrev pub head : ℕ → Circuit → List ℕ
head version c = period_line version c ++ counts_line c ++ stable_lines c
