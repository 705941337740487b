-- Gates with two delays: a rise delay, after which the output comes to 1, and a fall delay, after
-- which it comes to 0.
use Rattle.std.specs.Prelude.{◌≡◌, ◌↔◌, ℕ, ◌+◌, ◌-◌, ◌<◌, ◌≤◌, min, max, nat_le, Bool, true, not, if◌then◌else◌, List, All, Option, Some, None, ⊤}
use Rattle.std.specs.List.{list_all, list_any, range_with_len}
use Rattle.scald_base.specs.Time.{Bounds}
use Rattle.scald_base.specs.Signal.{Signal}
use Rattle.element_kinds.specs.declared.kind.Kind.{Kind}
use Rattle.element_kinds.specs.Kinds.{may_split}
use Rattle.flat_circuit.specs.declared.split.Split.{Split}
use Rattle.element_kinds.specs.Equation.{gate_bit, bits_at, pins_before, Equation, IsAsked, IsInReach}

-- from the least to the greatest of both delays
abbrev pub either_delay : Split → Bounds
either_delay s = record { min = min s.rise.min s.fall.min; max = max s.rise.max s.fall.max }

-- Two delays stand only at a kind that may have them, and the bounds beside them are those of both.
abbrev pub SplitFits : Kind → Bounds → Option Split → Type 0
SplitFits kind d None = ⊤
SplitFits kind d (Some s) = (may_split kind ≡ true) × (d ≡ either_delay s)

-- The two delays that count in a run: at a kind that may not have two, none do.
abbrev pub two_delays : Kind → Option Split → Option Split
two_delays kind split = if may_split kind then split else None

-- ---- the equation at a tick

-- the gate's own bit at each tick, of what its pins show there
abbrev pub gate_signal : Kind → List Signal → Signal
gate_signal kind signals u = gate_bit kind (bits_at signals u)

-- the ticks from one to another
abbrev pub ticks : ℕ → ℕ → List ℕ
ticks first last = range_with_len first (last + 1 - first)

-- If the rise takes at least as long, the output is 1 exactly if z was 1 on all ticks from
-- the rise delay before to the fall delay before, so a shorter pulse is swallowed. If the fall
-- takes longer, it is 1 exactly if z was 1 on some tick from the fall delay before to the rise
-- delay before.
abbrev pub split_bit : Signal → ℕ → ℕ → ℕ → Bool
split_bit z rise fall t =
    if nat_le fall rise
    then list_all z (ticks (t - rise) (t - fall))
    else list_any z (ticks (t - fall) (t - rise))

abbrev pub SplitEquation : Kind → ℕ → ℕ → List Signal → Signal → ℕ → Type 0
SplitEquation kind rise fall signals output t =
    output t ≡ split_bit (gate_signal kind signals) rise fall t

-- How many ticks before t each pin's net is looked at, as in `named_before`. All of those ticks are
-- named, whatever the bits are, of which the earliest counts.
abbrev pub split_named_before : ℕ → ℕ → List ℕ → List ℕ
split_named_before rise fall wires = pins_before (max rise fall) wires

-- as every equation, it is asked only if every tick that it names is 0 or later
abbrev pub IsSplitAsked : ℕ → ℕ → List ℕ → ℕ → Type 0
IsSplitAsked rise fall wires t = All (λ back. back ≤ t) (split_named_before rise fall wires)

-- ---- what holds of it

-- Two equal delays are one delay.
pub record EqualDelaysAreOne : Type 0 where
  pub equation : (kind : Kind) (bounds : Bounds) (delay : ℕ) (signals : List Signal)
      (output : Signal) (t : ℕ) → may_split kind ≡ true →
      SplitEquation kind delay delay signals output t ↔ Equation kind bounds delay signals output t
  pub asked : (kind : Kind) (bounds : Bounds) (delay : ℕ) (wires : List ℕ) (t : ℕ) →
      may_split kind ≡ true →
      IsSplitAsked delay delay wires t ↔ IsAsked kind bounds delay wires t

-- Each tick between the two delays counts, both ends too.
pub record EveryTickCounts : Type 0 where
  pub slow_rise : (z : Signal) (rise fall t : ℕ) → fall ≤ rise → rise ≤ t →
      split_bit z rise fall t ≡ true
      ↔ ((u : ℕ) → IsInReach (record { min = fall; max = rise }) t u → z u ≡ true)
  pub slow_fall : (z : Signal) (rise fall t : ℕ) → rise < fall → fall ≤ t →
      split_bit z rise fall t ≡ true
      ↔ ((u : ℕ) × IsInReach (record { min = rise; max = fall }) t u × (z u ≡ true))

-- the complement falls where this rises
abbrev pub RiseMirrorsFall : Type 0
RiseMirrorsFall =
    (z : Signal) (rise fall t : ℕ) →
    split_bit (λ u. not (z u)) fall rise t ≡ not (split_bit z rise fall t)
