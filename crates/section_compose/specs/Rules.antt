-- The rules of sections that are joined, and the first that is broken.
use Rattle.std.specs.Prelude.{ℕ, ◌+◌, ◌==◌, Bool, false, not, ◌&&◌, List, [], ◌∷◌, ◌++◌, if◌then◌else◌, slice_get, map, Option, Some, None}
use Rattle.std.specs.List.{list_any}
use Rattle.scald_base.specs.Time.{Header}
use Rattle.flat_circuit.specs.declared.instance.Instance.{Instance}
use Rattle.flat_circuit.specs.declared.net.Net.{Net}
use Rattle.flat_circuit.specs.Builder.{is_asserted}
use Rattle.flat_circuit.specs.Circuit.{Circuit, net_name, instance_in}
use Rattle.section_compose.specs.declared.rules.Rule.{Rule}
use Rattle.section_compose.specs.declared.rules.Rule.TheVariants.{Case, Clock, Assertion, Drivers, Unasserted, Delay}
use Rattle.section_compose.specs.declared.rules.Broken.{Broken}
use Rattle.section_compose.specs.declared.section.Section.{Section}
use Rattle.section_compose.specs.Globals.{has_name, is_driven, is_driven_in, is_global, crosses}
use Rattle.section_compose.specs.Same.{same_clocks, same_assertion}

-- the circuits of sections
abbrev pub circuits : List Section → List Circuit
circuits sections = map (λ (s : Section). s.circuit) sections

-- ---- each section by itself

-- It lists no case, and its clock and skews are written as those of the first section.
abbrev pub header_rule : Header → Section → Option Rule
header_rule first s =
    if s.has_case then Some Case
    else (if same_clocks first s.circuit.header then None else Some Clock)

abbrev pub header_break : Option Rule → ℕ → Option Broken → Option Broken
header_break None number later = later
header_break (Some rule) number later = Some (record { rule = rule; section = number; net = 0 })

-- the first that is broken in these sections, of which the first has this number
abbrev pub broken_headers : Header → ℕ → List Section → Option Broken
broken_headers first number [] = None
broken_headers first number (s ∷ rest) =
    header_break (header_rule first s) number (broken_headers first (number + 1) rest)

-- ---- each net of a section, in the order of names

abbrev pub rule_at : (Net → Option Rule) → Option Net → Option Rule
rule_at rule None = None
rule_at rule (Some net) = rule net

abbrev pub net_break : Option Rule → ℕ → ℕ → Option Broken → Option Broken
net_break None number place later = later
net_break (Some rule) number place later =
    Some (record { rule = rule; section = number; net = place })

-- the first net that breaks a rule, of those in this order, whose first is at this place
abbrev pub broken_nets : (Net → Option Rule) → Circuit → ℕ → ℕ → List ℕ → Option Broken
broken_nets rule c number place [] = None
broken_nets rule c number place (i ∷ rest) =
    net_break (rule_at rule (slice_get c.nets i)) number place
    (broken_nets rule c number (place + 1) rest)

abbrev pub or_else : Option Broken → Option Broken → Option Broken
or_else None later = later
or_else (Some broken) later = Some broken

-- ---- a global net, beside the sections before

-- a net of this name asserts something else in the section, or alone asserts something
abbrev pub asserts_otherwise : Net → Circuit → Bool
asserts_otherwise net c =
    list_any (λ (other : Net). has_name (net_name net) other
    && not (same_assertion net.spec other.spec)) c.nets

-- It asserts the same wherever it stands, and is driven in one section.
abbrev pub global_rule : List Circuit → Net → Option Rule
global_rule before net =
    if not (is_global net) then None
    else (if list_any (asserts_otherwise net) before then Some Assertion
    else (if is_driven net && list_any (is_driven_in (net_name net)) before then Some Drivers
    else None))

abbrev pub broken_globals : List Circuit → ℕ → List Circuit → Option Broken
broken_globals before number [] = None
broken_globals before number (c ∷ rest) =
    or_else (broken_nets (global_rule before) c number 0 c.order)
    (broken_globals (before ++ c ∷ []) (number + 1) rest)

-- ---- a net that crosses, where it is driven

-- the least delay of an instance; a net that nothing drives has none
abbrev pub is_at_once : Option Instance → Bool
is_at_once None = false
is_at_once (Some j) = j.delay.min == 0

-- that of the instance that drives a net
abbrev pub is_at_once_of : Circuit → Net → Bool
is_at_once_of c net = is_at_once (instance_in c net.driver)

-- It asserts something, and its driver takes a tick at least.
abbrev pub crossing_rule : List Circuit → Circuit → Net → Option Rule
crossing_rule whole c net =
    if not (is_driven net && crosses whole net) then None
    else (if not (is_asserted net.spec) then Some Unasserted
    else (if is_at_once_of c net then Some Delay
    else None))

abbrev pub broken_crossings : List Circuit → ℕ → List Circuit → Option Broken
broken_crossings whole number [] = None
broken_crossings whole number (c ∷ rest) =
    or_else (broken_nets (crossing_rule whole c) c number 0 c.order)
    (broken_crossings whole (number + 1) rest)

-- ---- all of them

-- Sections count from 1, and the clock of the first is the one that all are held against.
abbrev pub broken_by_header : List Section → Option Broken
broken_by_header [] = None
broken_by_header (s ∷ rest) = broken_headers s.circuit.header 1 (s ∷ rest)

abbrev pub first_broken : List Section → Option Broken
first_broken sections =
    let whole = circuits sections in
    or_else (broken_by_header sections)
    (or_else (broken_globals [] 1 whole) (broken_crossings whole 1 whole))
