-- IDLE: checkers whose limits ask nothing of any run.
use Rattle.std.specs.Prelude.{ℕ, ◌==◌, nat_le, Bool, false, ◌&&◌, List, [], ◌∷◌, length, codes, slice_get, if◌then◌else◌, Option, Some, None}
use Rattle.std.specs.List.{flat_map, range_with_len}
use Rattle.element_kinds.specs.declared.form.Check.{Check}
use Rattle.element_kinds.specs.declared.form.Check.TheVariants.{SetupHold as AboutRise, RiseFall as RiseToFall, MinPulse as Widths}
use Rattle.element_kinds.specs.Kinds.{check_of}
use Rattle.flat_circuit.specs.Limits.{setup_of, hold_of, high_of, low_of}
use Rattle.flat_circuit.specs.declared.instance.Instance.{Instance}
use Rattle.flat_circuit.specs.Circuit.{Circuit}
use Rattle.flat_circuit.specs.declared.limits.Limits.{Limits}
use Rattle.listing.specs.Text.{line}
use Rattle.listing.specs.Names.{instance_text}

-- Setup and hold about a rise have no tick in their window; between a rise and the next fall there
-- is always a tick. Every pulse is one tick wide at least.
abbrev pub asks_nothing : Option Check → Limits → Bool
asks_nothing None limits = false
asks_nothing (Some AboutRise) limits = (setup_of limits == 0) && (hold_of limits == 0)
asks_nothing (Some RiseToFall) limits = false
asks_nothing (Some Widths) limits = nat_le (high_of limits) 1 && nat_le (low_of limits) 1

abbrev pub is_idle : Option Instance → Bool
is_idle None = false
is_idle (Some j) = asks_nothing (check_of j.kind) j.limits

unfoldable pub idle_line : Circuit → ℕ → List ℕ
idle_line c k = line (codes "NOTE IDLE " ∷ instance_text c k ∷ [])

abbrev pub idle_at : Circuit → ℕ → List (List ℕ)
idle_at c k = if is_idle (slice_get c.instances k) then idle_line c k ∷ [] else []

-- in the order of expansion
abbrev pub idle : Circuit → List (List ℕ)
idle c = flat_map (idle_at c) (range_with_len 0 (length c.instances))
