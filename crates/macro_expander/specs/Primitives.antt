-- The uses of primitives: what each kind takes, and the instance and checker bits that a use makes.
use Rattle.std.specs.Prelude.{ℕ, ◌+◌, Bool, true, false, not, ◌&&◌, ◌||◌, List, [], ◌∷◌, ◌++◌, length, map, take, drop, reverse, count_by, sum_by, nat_le, ◌==◌, if◌then◌else◌, slice_index_or, Option, Some, None, is_some, Ok, Err, ℤ, pos, negsuc, codes, max}
use Rattle.std.specs.List.{find, list_any, list_all, flat_map, range_with_len}
use Rattle.std.specs.Option.{option_map_or}
use Rattle.std.specs.Str.{bytes_eq}
use Rattle.scald_base.specs.Time.{Bounds as DelayBounds}
use Rattle.scald_base.specs.declared.refusal.RefusalKind.{RefusalKind}
use Rattle.scald_base.specs.declared.refusal.RefusalKind.TheVariants.{BadParameter, Bounds, PinCount, TooMany, Width}
use Rattle.drawing_tree.specs.declared.environment.Binding.{Binding}
use Rattle.drawing_tree.specs.Expression.{Expression}
use Rattle.element_kinds.specs.declared.kind.Kind.{Kind}
use Rattle.element_kinds.specs.declared.form.Check.{Check}
use Rattle.element_kinds.specs.declared.form.Check.TheVariants.{SetupHold as AboutRise, RiseFall as RiseToFall, MinPulse as Widths}
use Rattle.element_kinds.specs.Kinds.{inputs_of, has_output, is_change, check_of, greatest_marks, may_split, selects_of}
use Rattle.flat_circuit.specs.declared.limits.Limits.{Limits}
use Rattle.flat_circuit.specs.declared.limits.Limits.TheVariants.{None as Unlimited, Edges, Pulses}
use Rattle.flat_circuit.specs.declared.split.Split.{Split}
use Rattle.flat_circuit.specs.Split.{either_delay}
use Rattle.flat_circuit.specs.Instances.{most_bits, most_pins}
use Rattle.drawing_tree.specs.Tree.{Assignment, Connection, UseStatement}
use Rattle.macro_expander.specs.declared.primitive.Plan.{Plan}
use Rattle.macro_expander.specs.Named.{Where, Fixed, Bit, NamedPin, NamedInstance, State}
use Rattle.macro_expander.specs.Outcome.{Outcome, Gives, Fails, after, Judged, judging, judged, collected, each}
use Rattle.macro_expander.specs.Terms.{Scope, labelled, valued, Joined, Wires, wires_of, plain}
use Rattle.macro_expander.specs.Setting.{Setting}

-- ---- kinds

-- the fewest and the most input connections
abbrev pub fewest_inputs : Kind → ℕ
fewest_inputs kind = (inputs_of kind).0

abbrev pub most_inputs : Kind → ℕ
most_inputs kind = (inputs_of kind).1

abbrev pub outputs : Kind → ℕ
outputs kind = if has_output kind then 1 else 0

-- how many of its input connections may be marked
abbrev pub most_marks : Kind → ℕ
most_marks kind = greatest_marks kind

-- by what is checked, if anything is
abbrev pub parameters_for : Option Check → List (List ℕ)
parameters_for None = []
parameters_for (Some AboutRise) = codes "SETUP" ∷ codes "HOLD" ∷ []
parameters_for (Some RiseToFall) = codes "SETUP" ∷ codes "HOLD" ∷ []
parameters_for (Some Widths) = codes "HIGH" ∷ codes "LOW" ∷ []

abbrev pub parameters : Kind → List (List ℕ)
parameters kind = parameters_for (check_of kind)

-- ---- parameters and connections that a use gives

abbrev pub assigns : List ℕ → Assignment → Bool
assigns name a = bytes_eq a.name name

-- each is one of the known, and none comes twice
abbrev pub are_of : (List ℕ → Bool) → List Assignment → Bool
are_of known [] = true
are_of known (a ∷ rest) =
    known a.name && (not (list_any (assigns a.name) rest) && are_of known rest)

abbrev pub takes : Kind → List ℕ → Bool
takes kind name = list_any (bytes_eq name) (parameters kind)

abbrev pub demanded : {A : Type 0} → Bool → RefusalKind → Judged A → Judged A
demanded true kind rest = rest
demanded false kind rest = Err kind

-- the values that a use gives, in the order of its text
abbrev pub assigned : List Binding → Assignment → Judged Binding
assigned env a = judging (valued env a.value) (λ v. Ok (record { name = a.name; value = v }))

abbrev pub values_given : List Binding → List Assignment → Judged (List Binding)
values_given env params = collected (assigned env) [] params

abbrev pub is_named : List ℕ → Binding → Bool
is_named name b = bytes_eq b.name name

abbrev pub marks : List Connection → ℕ
marks connections = count_by (λ c. c.hold) connections

-- ---- delays and limits

abbrev pub longest_delay : ℕ
longest_delay = 4095

-- of a use with two delays, the longest of either
abbrev pub longest_split : ℕ
longest_split = 255

-- 0 at most the least, the least at most the greatest, and that at most the longest
abbrev pub delay_within : ℕ → ℤ → ℤ → Judged DelayBounds
delay_within longest (pos min) (pos max) =
    if nat_le min max && nat_le max longest then Ok (record { min = min; max = max })
    else Err Bounds
delay_within longest (pos min) (negsuc max) = Err Bounds
delay_within longest (negsuc min) max = Err Bounds

abbrev pub delay_between : ℤ → ℤ → Judged DelayBounds
delay_between min max = delay_within longest_delay min max

-- a fall delay without a delay counts as not there
abbrev pub fall_beside : {A : Type 0} → Option A → Option A → Option A
fall_beside None fall = None
fall_beside (Some delay) fall = fall

-- the fall delay of a use
abbrev pub fall_of : UseStatement → Option (Expression × Expression)
fall_of u = fall_beside u.delay u.fall

-- the two expressions of a delay
abbrev pub written_delay : List Binding → Option (Expression × Expression) → Judged (Option (ℤ × ℤ))
written_delay env None = Ok None
written_delay env (Some pair) =
    judging (valued env pair.0) (λ min. judging (valued env pair.1) (λ max. Ok (Some (min, max))))

-- the bounds of every delay of an instance bit, and its two delays if it has two
abbrev pub Delays : Type 0
Delays = DelayBounds × Option Split

-- two delays, each in bounds of its own
abbrev pub split_of : ℤ × ℤ → ℤ × ℤ → Judged Split
split_of rise fall =
    judging (delay_within longest_split rise.0 rise.1) (λ r.
    judging (delay_within longest_split fall.0 fall.1) (λ f.
    Ok (record { rise = r; fall = f })))

-- A checker has no delay. If a fall delay stands beside a delay, that one is the rise delay.
abbrev pub delays_of : Option (ℤ × ℤ) → Option (ℤ × ℤ) → Judged Delays
delays_of None fall = Ok (record { min = 0; max = 0 }, None)
delays_of (Some delay) None = judging (delay_between delay.0 delay.1) (λ d. Ok (d, None))
delays_of (Some rise) (Some fall) =
    judging (split_of rise fall) (λ s. Ok (either_delay s, Some s))

-- the value of a parameter, 0 if the use gives none
abbrev pub given_or_zero : List Binding → List ℕ → ℤ
given_or_zero given name = option_map_or (λ b. b.value) (find (is_named name) given) (pos 0)

-- setup and hold: together at most the period
abbrev pub setup_and_hold : ℕ → ℤ → ℤ → Judged Limits
setup_and_hold period (pos setup) (pos hold) =
    if nat_le (setup + hold) period then Ok (Edges setup hold) else Err Bounds
setup_and_hold period (pos setup) (negsuc hold) = Err Bounds
setup_and_hold period (negsuc setup) hold = Err Bounds

-- least widths: each at most the period
abbrev pub high_and_low : ℕ → ℤ → ℤ → Judged Limits
high_and_low period (pos high) (pos low) =
    if nat_le high period && nat_le low period then Ok (Pulses high low) else Err Bounds
high_and_low period (pos high) (negsuc low) = Err Bounds
high_and_low period (negsuc high) low = Err Bounds

-- by what is checked, if anything is
abbrev pub limits_for : ℕ → Option Check → List Binding → Judged Limits
limits_for period None given = Ok Unlimited
limits_for period (Some AboutRise) given =
    setup_and_hold period (given_or_zero given (codes "SETUP")) (given_or_zero given (codes "HOLD"))
limits_for period (Some RiseToFall) given =
    setup_and_hold period (given_or_zero given (codes "SETUP")) (given_or_zero given (codes "HOLD"))
limits_for period (Some Widths) given =
    high_and_low period (given_or_zero given (codes "HIGH")) (given_or_zero given (codes "LOW"))

abbrev pub limits_of : ℕ → Kind → List Binding → Judged Limits
limits_of period kind given = limits_for period (check_of kind) given

-- ---- what a use of a primitive says before its connections are looked at: its delays and limits

-- the number of connections, and the marks
abbrev pub are_connected : Kind → UseStatement → Bool
are_connected kind u =
    (nat_le (fewest_inputs kind) (length u.ins) && nat_le (length u.ins) (most_inputs kind))
    && ((length u.outs == outputs kind)
    && (nat_le (marks u.ins) (most_marks kind) && (marks u.outs == 0)))

abbrev pub same_truth : Bool → Bool → Bool
same_truth a b = if a then b else not b

-- a delay exactly if the kind has an output, and two only if the kind may have two
abbrev pub takes_delays : Kind → UseStatement → Bool
takes_delays kind u =
    same_truth (is_some u.delay) (has_output kind) && (not (is_some (fall_of u)) || may_split kind)

-- All expressions have values before any of these is held against its bounds.
unfoldable pub plan_of : ℕ → Kind → List Binding → UseStatement → Judged Plan
plan_of period kind env u =
    demanded (takes_delays kind u) Bounds (
    demanded (are_of (takes kind) u.params) BadParameter (
    judging (written_delay env u.delay) (λ ends.
    judging (written_delay env (fall_of u)) (λ fall.
    judging (values_given env u.params) (λ given.
    judging (delays_of ends fall) (λ delays.
    judging (limits_of period kind given) (λ limits.
    demanded (are_connected kind u) PinCount (
    Ok (record { delay = delays.0; split = delays.1; limits = limits })))))))))

-- ---- widths

abbrev pub width : Joined → ℕ
width c = length c.bits

abbrev pub greatest : List ℕ → ℕ
greatest [] = 0
greatest (n ∷ ns) = max n (greatest ns)

-- The width of a primitive is that of its output, and a checker's is the greatest of its
-- connections'.
abbrev pub width_of : Kind → List ℕ → List ℕ → ℕ
width_of kind ins outs = if has_output kind then greatest outs else greatest ins

-- a connection of one bit is spread
abbrev pub can_have : ℕ → ℕ → Bool
can_have n width = width == n || width == 1

-- the inputs of a change function may have any width
abbrev pub inputs_fit : Kind → ℕ → List ℕ → Bool
inputs_fit kind n widths = if is_change kind then true else list_all (can_have n) widths

-- ---- the order of selects

-- so many in reverse order, and then the others as they stand
abbrev pub first_reversed : {X : Type 0} → ℕ → List X → List X
first_reversed n xs = reverse (take n xs) ++ drop n xs

-- Pins have the most significant select first. In version 2 of the language the connections have
-- the least significant first.
abbrev pub is_least_first : ℕ → Bool
is_least_first version = version == 2

abbrev pub in_pin_order : {X : Type 0} → Bool → Kind → List X → List X
in_pin_order true kind ins = first_reversed (selects_of kind) ins
in_pin_order false kind ins = ins

-- ---- instance bits

-- bit k of a connection, which one bit is for every k
abbrev pub bit_at : {B : Type 0} → B → List B → ℕ → B
bit_at default (b ∷ []) k = b
bit_at default bits k = slice_index_or bits k default

abbrev pub no_bit : Bit
no_bit = plain (Fixed false)

abbrev pub pin_of : Bool → Bit → NamedPin
pin_of hold b = record { target = b.target; inverted = b.inverted; hold = hold }

-- a pin for each connection
abbrev pub bits_at : ℕ → List Joined → List NamedPin
bits_at k ins = map (λ c. pin_of c.hold (bit_at no_bit c.bits k)) ins

-- a pin for each bit of each connection
abbrev pub each_bit : List Joined → List NamedPin
each_bit ins = flat_map (λ c. map (pin_of c.hold) c.bits) ins

-- Pin by pin: every bit of a change function's inputs, and of another kind's bit k of each
-- connection.
abbrev pub pins_by : Bool → List Joined → ℕ → List NamedPin
pins_by true ins k = each_bit ins
pins_by false ins k = bits_at k ins

abbrev pub pins_of : Kind → List Joined → ℕ → List NamedPin
pins_of kind ins k = pins_by (is_change kind) ins k

abbrev pub output_at : List Joined → ℕ → Option Bit
output_at [] k = None
output_at (c ∷ _) k = Some (bit_at no_bit c.bits k)

abbrev pub target_of : Option Bit → Option Where
target_of None = None
target_of (Some b) = Some b.target

abbrev pub inverted_of : Option Bit → Bool
inverted_of None = false
inverted_of (Some b) = b.inverted

abbrev pub instance_at : List ℕ → UseStatement → Kind → Plan → List Joined → List Joined → ℕ →
    NamedInstance
instance_at path u kind plan ins outs k = record {
  path = path;
  bit = k;
  kind = kind;
  delay = plan.delay;
  split = plan.split;
  limits = plan.limits;
  pins = pins_of kind ins k;
  out = target_of (output_at outs k);
  out_inverted = inverted_of (output_at outs k);
  place = u.place;
}

abbrev pub is_gate : NamedInstance → Bool
is_gate j = has_output j.kind

abbrev pub is_checker : NamedInstance → Bool
is_checker j = not (has_output j.kind)

abbrev pub pin_count : NamedInstance → ℕ
pin_count j = length j.pins

-- instance bits with an output, checker bits and pins, each within its limit
abbrev pub are_few : List NamedInstance → Bool
are_few js =
    nat_le (count_by is_gate js) most_bits
    && (nat_le (count_by is_checker js) most_bits && nat_le (sum_by pin_count js) most_pins)

abbrev pub with_instance : State → NamedInstance → State
with_instance s j = record s { instances = s.instances ++ j ∷ [] }

abbrev pub adding : NamedInstance → State → Outcome (Unit {0})
adding j s =
    if are_few (s.instances ++ j ∷ []) then Gives tt (with_instance s j) else Fails TooMany j.place

-- the bits of a use, from bit 0 on
unfoldable pub all_added : List ℕ → UseStatement → Kind → Plan → ℕ → List Joined → List Joined →
    State → Outcome (Unit {0})
all_added path u kind plan n ins outs s =
    each (λ k. adding (instance_at path u kind plan ins outs k)) (range_with_len 0 n) s

abbrev pub width_in : Kind → Wires → ℕ
width_in kind w = width_of kind (map width w.ins) (map width w.outs)

-- The use of a primitive, once it is counted. Its connections are looked at in the order of the
-- text, whatever that of its pins is.
unfoldable pub primitive_use : Setting → Kind → Scope → UseStatement → State → Outcome (Unit {0})
primitive_use setting kind scope u s =
    judged (plan_of setting.ticks kind scope.env u) u.place (λ plan.
    after (wires_of scope u s) (λ w s1.
    if inputs_fit kind (width_in kind w) (map width w.ins)
    then all_added (labelled scope u.label) u kind plan (width_in kind w)
    (in_pin_order (is_least_first setting.version) kind w.ins) w.outs s1
    else Fails Width u.place))
