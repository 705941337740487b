-- How the slots of two delays are found: the bits that the output may be at, by what the slots from
-- the greatest to the least of both delays before may hold together, and those that the rise delay
-- and the fall delay reach; then the edges that those of the slot before leave. A slot depends on
-- three windows and on those of the slot before, six values, which no zip of two waves takes; the
-- bits and the edges are two such zips. The proof for 0 is that for 1 with the delays exchanged.
use Rattle.std.specs.Prelude.{ℕ, nat_le, Bool, true, false, ◌&&◌, if◌then◌else◌, List}
use Rattle.step_values.specs.declared.value.Value.{Value}
use Rattle.step_values.specs.declared.value.Value.TheVariants.{Zero, One, S, U}
use Rattle.step_values.specs.Steps.{cover_of, is_unknown}
use Rattle.step_values.specs.Cell.{values}
use Rattle.skew_algebra.specs.Wave.{cell_at}
use Rattle.flat_circuit.specs.declared.split.Split.{Split}
use Rattle.gate_eval.specs.Hold.{staying}
use Rattle.gate_eval.specs.Split.{ends_in, may_rise, may_fall}

-- ---- the bits

-- an output that stays at one of the bits that it may be at: U if it may be at both, and
-- something is unknown
abbrev pub resting : Bool → Bool → Bool → Value
resting true true true = U
resting true true false = S
resting true false unknown = Zero
resting false high unknown = One

abbrev pub own_bits : Value → Value
own_bits either = resting (ends_in false either) (ends_in true either) (is_unknown either)

-- 1 if both windows end in the bit
abbrev pub both_end : Bool → Value → Value → Value
both_end bit rise fall = staying (ends_in bit rise && ends_in bit fall)

-- the bits if the delay to 1 is at least the other one whatever both are, and if that to 0 is
abbrev pub slow_rise_bits : Value → Value → Value
slow_rise_bits either both = resting (ends_in false either) (ends_in true both) (is_unknown either)

abbrev pub slow_fall_bits : Value → Value → Value
slow_fall_bits either both = resting (ends_in true both) (ends_in true either) (is_unknown either)

-- by a value for each window
abbrev pub bits_seen : Split → Value → Value → Value → Value
bits_seen s either rise fall =
    if nat_le s.fall.max s.rise.min then slow_rise_bits either (both_end true rise fall)
    else if nat_le s.rise.max s.fall.min then slow_fall_bits either (both_end false rise fall)
    else own_bits either

-- by the cells of the windows in a slot
abbrev pub bits_at : Split → List Value → List Value → List Value → ℕ → Value
bits_at s either rise fall p =
    bits_seen s (cell_at values either p) (cell_at values rise p) (cell_at values fall p)

-- ---- the edges

-- it may stay at either bit, and rise and fall if that is said
abbrev pub edges : Bool → Bool → Value
edges rises falls = cover_of true rises falls true false

-- those that come after the two delays
abbrev pub edges_after : Value → Value → Value
edges_after rise fall = edges (may_rise rise) (may_fall fall)

-- those of them that begin at a bit of the slot before
abbrev pub edges_from : Value → Value → Value
edges_from before after =
    edges (ends_in false before && may_rise after) (ends_in true before && may_fall after)

-- what the output may do: stay at its bits, and come to them by these edges
abbrev pub output_of : Value → Value → Value
output_of bits edges =
    cover_of (ends_in false bits) (ends_in true bits && may_rise edges)
    (ends_in false bits && may_fall edges)
    (ends_in true bits) (is_unknown bits)
