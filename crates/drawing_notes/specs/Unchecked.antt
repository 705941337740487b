-- UNCHECKED: inputs of registers and latches that no checker of setup and hold sees with their own
-- clock. A register is seen at the edge that clocks it. A latch is seen at the edge of its enable
-- that closes it; a checker from rise to fall sees it at either edge, since it sees both.
use Rattle.std.specs.Prelude.{◌≡◌, ℕ, ◌==◌, Bool, true, false, not, ◌&&◌, ◌||◌, List, [], ◌∷◌, length, codes, slice_get, if◌then◌else◌, Option, Some, None}
use mathlib.Core.Bool.{beq}
use Rattle.std.specs.List.{flat_map, list_any, range_with_len}
use Rattle.element_kinds.specs.declared.kind.Kind.{Kind}
use Rattle.element_kinds.specs.declared.form.Check.{Check}
use Rattle.element_kinds.specs.declared.form.Check.TheVariants.{SetupHold as AboutRise, RiseFall as RiseToFall, MinPulse as Widths}
use Rattle.element_kinds.specs.Kinds.{check_of, checks_points}
use Rattle.flat_circuit.specs.declared.instance.Instance.{Instance}
use Rattle.flat_circuit.specs.Circuit.{Circuit}
use Rattle.listing.specs.Text.{line}
use Rattle.listing.specs.Names.{instance_text, net_text}
use Rattle.drawing_notes.specs.declared.unchecked.Sampling.{Sampling}
use Rattle.drawing_notes.specs.Pins.{is_storage, is_latch, clock_of, input_of, pin_net, is_inverted}

-- it checks from the rise of its clock to the fall
abbrev pub is_across : Option Check → Bool
is_across None = false
is_across (Some AboutRise) = false
is_across (Some RiseToFall) = true
is_across (Some Widths) = false

-- a clock, complemented or not as the pin is, and an input, if both are on nets
abbrev pub sampling_by : Bool → Option ℕ → Bool → Option ℕ → Option Sampling
sampling_by across (Some clock) inverted (Some input) =
    Some (record { clock = clock; inverted = inverted; input = input; across = across })
sampling_by across (Some clock) inverted None = None
sampling_by across None inverted input = None

abbrev pub sampling_of : Instance → Option Sampling
sampling_of j =
    sampling_by (is_across (check_of j.kind)) (pin_net (clock_of j)) (is_inverted (clock_of j))
    (pin_net (input_of j))

-- the same clock net with the same complement, the same net as input, and the same edges
abbrev pub is_same : Sampling → Sampling → Bool
is_same s t =
    (s.clock == t.clock)
    && (beq s.inverted t.inverted && ((s.input == t.input) && beq s.across t.across))

abbrev pub is_it : Sampling → Option Sampling → Bool
is_it s None = false
is_it s (Some t) = is_same s t

-- a checker of setup and hold
abbrev pub sees : Sampling → Instance → Bool
sees s k = checks_points k.kind && is_it s (sampling_of k)

abbrev pub is_seen : Circuit → Sampling → Bool
is_seen c s = list_any (sees s) c.instances

-- at the other edge of the same clock
abbrev pub turned : Sampling → Sampling
turned s =
    record { clock = s.clock; inverted = not s.inverted; input = s.input; across = s.across }

-- from the rise to the fall of the same clock
abbrev pub across : Sampling → Sampling
across s = record { clock = s.clock; inverted = s.inverted; input = s.input; across = true }

-- what sees an input is found by this test: a register's at the edge that clocks it, a latch's at
-- the one that closes it
abbrev pub is_watched : (Sampling → Bool) → Bool → Sampling → Bool
is_watched seen latch s =
    if latch
    then seen (turned s) || (seen (across s) || seen (across (turned s)))
    else seen s || seen (across s)

-- storage whose clock is on no net is seen by no checker
abbrev pub is_checked : Circuit → Kind → Option Sampling → Bool
is_checked c kind None = false
is_checked c kind (Some s) = is_watched (is_seen c) (is_latch kind) s

unfoldable pub unchecked_line : Circuit → ℕ → ℕ → List ℕ
unchecked_line c k input =
    line (codes "NOTE UNCHECKED " ∷ instance_text c k ∷ codes " " ∷ net_text c input ∷ [])

-- of an instance whose input is on this net
abbrev pub unchecked_on : Circuit → ℕ → Kind → Option Sampling → Option ℕ → List (List ℕ)
unchecked_on c k kind s None = []
unchecked_on c k kind s (Some input) =
    if is_checked c kind s then [] else unchecked_line c k input ∷ []

abbrev pub unchecked_of : Circuit → ℕ → Option Instance → List (List ℕ)
unchecked_of c k None = []
unchecked_of c k (Some j) =
    if is_storage j.kind then unchecked_on c k j.kind (sampling_of j) (pin_net (input_of j)) else []

abbrev pub unchecked_at : Circuit → ℕ → List (List ℕ)
unchecked_at c k = unchecked_of c k (slice_get c.instances k)

-- in the order of expansion
abbrev pub unchecked : Circuit → List (List ℕ)
unchecked c = flat_map (unchecked_at c) (range_with_len 0 (length c.instances))

-- ---- the same by a list of what is seen

abbrev pub is_among : List Sampling → Kind → Option Sampling → Bool
is_among seen kind None = false
is_among seen kind (Some s) = is_watched (λ t. list_any (is_same t) seen) (is_latch kind) s

-- what a checker of setup and hold sees
abbrev pub seen_by : Option Instance → Option Sampling
seen_by None = None
seen_by (Some k) = if checks_points k.kind then sampling_of k else None

-- what the checkers among these instances see
abbrev pub AreSeen : List Instance → List Sampling → Type 0
AreSeen js seen = (s : Sampling) → list_any (is_same s) seen ≡ list_any (sees s) js
