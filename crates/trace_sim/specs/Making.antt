-- How the bits of a run are made: tick by tick, and within a tick instance by instance, in an order
-- of evaluation.
use Rattle.std.specs.Prelude.{◌≡◌, ℕ, zero, suc, ◌+◌, ◌-◌, min, max, Bool, true, false, ◌&&◌, nat_le, nat_lt, if◌then◌else◌, ◌⊎◌, List, [], ◌∷◌, length, map, slice_get, slice_set, slice_index_or, Option, Some, None, is_some}
use Rattle.std.specs.List.{list_all, range_with_len}
use Rattle.scald_base.specs.Time.{Bounds}
use Rattle.scald_base.specs.Signal.{Signal, turned}
use Rattle.vector_names.specs.declared.bits.Target.{Target}
use Rattle.vector_names.specs.declared.bits.Target.TheVariants.{Net as OnNet}
use Rattle.element_kinds.specs.declared.kind.Kind.{Kind}
use Rattle.element_kinds.specs.declared.form.Form.{Form}
use Rattle.element_kinds.specs.declared.form.Form.TheVariants.{Gate, Change, Register, Latch as Enabled, Checker}
use Rattle.element_kinds.specs.Kinds.{form_of}
use Rattle.element_kinds.specs.Equation.{nth_signal, registered, latched, pins_before, named_by}
use Rattle.flat_circuit.specs.declared.instance.Instance.{Instance}
use Rattle.flat_circuit.specs.declared.instance.Pin.{Pin}
use Rattle.flat_circuit.specs.Split.{gate_signal}
use Rattle.flat_circuit.specs.Circuit.{Circuit, driver_at}
use Rattle.flat_circuit.specs.Run.{Choice as Chosen, Run, pin_signals, out_signal}
use Rattle.trace_sim.specs.declared.choice.Choice.{Choice}
use Rattle.trace_sim.specs.Choice.{Bits}
use Rattle.trace_sim.specs.Simulated.{run_of}

-- ---- what is looked at

-- how many ticks before a tick an instance looks at its pins, at the latest; a gate with one delay
-- has it twice
abbrev pub near_in : Form → Bounds → Chosen → ℕ
near_in Gate bounds choice = min choice.rise choice.fall
near_in Change bounds choice = bounds.min
near_in (Register forced) bounds choice = choice.delay
near_in (Enabled forced) bounds choice = choice.delay
near_in (Checker check) bounds choice = choice.delay

-- and at the earliest
abbrev pub far_in : Form → Bounds → Chosen → ℕ
far_in Gate bounds choice = max choice.rise choice.fall
far_in Change bounds choice = bounds.max
far_in (Register forced) bounds choice = choice.delay
far_in (Enabled forced) bounds choice = choice.delay
far_in (Checker check) bounds choice = choice.delay

-- how many ticks before the ticks that an equation names lie
abbrev pub named_in : Form → Bounds → Chosen → List ℕ
named_in Gate bounds choice = pins_before (max choice.rise choice.fall) choice.wires
named_in Change bounds choice = named_by Change bounds choice.delay choice.wires
named_in (Register forced) bounds choice =
    named_by (Register forced) bounds choice.delay choice.wires
named_in (Enabled forced) bounds choice = named_by (Enabled forced) bounds choice.delay choice.wires
named_in (Checker check) bounds choice = named_by (Checker check) bounds choice.delay choice.wires

-- each of the ticks that lie so many before is 0 or later
abbrev pub are_there : List ℕ → ℕ → Bool
are_there named t = list_all (λ before. nat_le before t) named

-- every pin shows a tick of its net, and so many ticks before too
abbrev pub are_shown : ℕ → List ℕ → ℕ → Bool
are_shown back wires u = are_there (pins_before back wires) u

-- ---- ticks in a row

-- how many ticks in a row, up to the one before u, pass a test
abbrev pub in_a_row : (ℕ → Bool) → ℕ → ℕ
in_a_row test zero = 0
in_a_row test (suc u) = if test u then in_a_row test u + 1 else 0

-- whether all from `far` to `near` ticks before t do
abbrev pub held_through : (ℕ → Bool) → ℕ → ℕ → ℕ → Bool
held_through test near far t = nat_lt far (in_a_row test (t + 1 - near) + near)

-- a signal has one bit at the tick and at the one before
abbrev pub stays_at : ℕ → Signal → Bool
stays_at u x = if x (u - 1) then x u else if x u then false else true

-- What a gate and a change function wait for: a gate whose rise takes at least as long, that its
-- bit is 1; one whose fall takes longer, that it is 0; a change function, that no pin steps.
abbrev pub passes : Form → Kind → Chosen → List Signal → ℕ → Bool
passes Gate kind choice signals u =
    are_shown 0 choice.wires u && turned (nat_lt choice.rise choice.fall)
    (gate_signal kind signals u)
passes Change kind choice signals u = are_shown 1 choice.wires u && list_all (stays_at u) signals
passes (Register forced) kind choice signals u = false
passes (Enabled forced) kind choice signals u = false
passes (Checker check) kind choice signals u = false

-- by the form of a kind
abbrev pub row_by : Form → Run → Instance → Chosen → ℕ → ℕ
row_by form run i choice t =
    in_a_row (passes form i.kind choice (pin_signals run i.pins choice.wires))
    (t - near_in form i.delay choice)

-- how many ticks in a row pass at an instance, of those that it looks at before tick t
abbrev pub row_in : Run → Instance → Chosen → ℕ → ℕ
row_in run i choice t = row_by (form_of i.kind) run i choice t

-- ---- the bit that an equation fixes

-- what a set and a reset make of a bit; with both, no bit is fixed
abbrev pub forced_by : Bool → Bool → Bool → Option Bool
forced_by true true bit = None
forced_by true false bit = Some true
forced_by false true bit = Some false
forced_by false false bit = Some bit

-- whether there are a set and a reset, and what they make of a bit
abbrev pub stored : Bool → List Signal → ℕ → Bool → Option Bool
stored false signals s bit = Some bit
stored true signals s bit = forced_by (nth_signal signals 2 s) (nth_signal signals 3 s) bit

-- The output at a tick, by what the pins show and by the output a tick before. None if any bit
-- will do: of a change function that may change, if set and reset are both 1, and of a checker.
abbrev pub fixed : Form → Kind → Bounds → Chosen → List Signal → Bool → ℕ → Option Bool
fixed Gate kind bounds choice signals old t =
    Some (turned (nat_lt choice.rise choice.fall)
    (held_through (passes Gate kind choice signals) (min choice.rise choice.fall)
    (max choice.rise choice.fall) t))
fixed Change kind bounds choice signals old t =
    if held_through (passes Change kind choice signals) bounds.min bounds.max t then Some old
    else None
fixed (Register forced) kind bounds choice signals old t =
    stored forced signals (t - choice.delay) (registered signals (t - choice.delay) old)
fixed (Enabled forced) kind bounds choice signals old t =
    stored forced signals (t - choice.delay) (latched signals (t - choice.delay) old)
fixed (Checker check) kind bounds choice signals old t = None

-- the bit that an instance's equation fixes, if it is asked
abbrev pub fixed_in : Run → Instance → Chosen → ℕ → Option Bool
fixed_in run i choice t =
    if are_there (named_in (form_of i.kind) i.delay choice) t
    then fixed (form_of i.kind) i.kind i.delay choice (pin_signals run i.pins choice.wires)
    (out_signal run i.out i.out_inverted (t - 1)) t
    else None

-- ---- one instance, one tick, all ticks

-- the bits with this one of net n at tick t
abbrev pub put : Bits → ℕ → ℕ → Bool → Bits
put bits n t bit = slice_set bits n (slice_set (slice_index_or bits n []) t bit)

-- an output is written if it drives a net and its bit is fixed; else the free bit that stands
-- there is left
abbrev pub written : Bits → Option Target → Bool → ℕ → Option Bool → Bits
written bits (Some (OnNet n)) inverted t (Some bit) = put bits n t (turned inverted bit)
written bits out inverted t bit = bits

abbrev pub evaluated_by : ℕ → List Chosen → Option Instance → Option Chosen → ℕ → Bits → Bits
evaluated_by ticks choices (Some i) (Some choice) t bits =
    written bits i.out i.out_inverted t (fixed_in (run_of ticks choices bits) i choice t)
evaluated_by ticks choices i choice t bits = bits

-- the bits after instance k was evaluated at tick t
abbrev pub evaluated : Circuit → ℕ → List Chosen → ℕ → ℕ → Bits → Bits
evaluated c ticks choices t k bits =
    evaluated_by ticks choices (slice_get c.instances k) (slice_get choices k) t bits

-- after these instances were, one after another
abbrev pub pass : Circuit → ℕ → List Chosen → ℕ → List ℕ → Bits → Bits
pass c ticks choices t [] bits = bits
pass c ticks choices t (k ∷ ks) bits =
    pass c ticks choices t ks (evaluated c ticks choices t k bits)

-- after so many ticks
abbrev pub made : Circuit → ℕ → List Chosen → List ℕ → ℕ → Bits → Bits
made c ticks choices order zero bits = bits
made c ticks choices order (suc t) bits =
    pass c ticks choices t order (made c ticks choices order t bits)

-- ---- what the making begins with

-- the inputs of a net that nothing drives, and else the free bits
abbrev pub begun_row : Circuit → Choice → ℕ → List Bool
begun_row c choice n =
    if is_some (driver_at c.nets n)
    then slice_index_or choice.free n []
    else slice_index_or choice.inputs n []

abbrev pub begun : Circuit → Choice → Bits
begun c choice = map (begun_row c choice) (range_with_len 0 (length c.nets))

-- ---- what is kept from tick to tick

-- what is seen of bits goes neither by the ticks of a run nor by its choices
abbrev pub seen : Bits → Run
seen bits = run_of 0 [] bits

-- the count of each instance is that of the ticks in a row that it looks at before tick t
abbrev pub AreRows : Circuit → List Chosen → Bits → List ℕ → ℕ → Type 0
AreRows c choices bits rows t =
    (k : ℕ) (i : Instance) (choice : Chosen) → slice_get c.instances k ≡ Some i →
    slice_get choices k ≡ Some choice →
    slice_index_or rows k 0 ≡ row_in (seen bits) i choice t

-- some pin on the net, with a wire of no delay
abbrev pub SeesNow : List Pin → List ℕ → ℕ → Type 0
SeesNow [] ws n = ⊥
SeesNow (p ∷ ps) [] n = ⊥
SeesNow (p ∷ ps) (w ∷ ws) n = ((p.target ≡ OnNet n) × (w ≡ 0)) ⊎ SeesNow ps ws n
