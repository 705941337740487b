-- Whether bits are a run of a circuit, as a test that computes. That it decides this is proved part
-- by part, each part for one definition.
use Rattle.std.proofs.Common.{◌≡◌, ℕ, zero, suc, ◌+◌, ◌-◌, ◌≤◌, Bool, true, false, not, ◌&&◌, ◌||◌, List, [], ◌∷◌, length, nat_eq, nat_le, refl, subst, arith, slice_get, Option, Some, None, Decides}
use Rattle.std.specs.List.{list_all}
use Rattle.std.proofs.lemmas.Bool.Decides.{Decides-like, Decides-and}
use Rattle.scald_base.specs.Time.{Bounds}
use Rattle.scald_base.specs.Signal.{Signal}
use Rattle.vector_names.specs.declared.bits.Target.{Target}
use Rattle.vector_names.specs.declared.bits.Target.TheVariants.{Net as OnNet, Constant}
use Rattle.element_kinds.specs.declared.kind.Kind.{Kind}
use Rattle.element_kinds.specs.declared.form.Form.{Form}
use Rattle.element_kinds.specs.declared.form.Form.TheVariants.{Gate, Change, Register, Latch as Enabled, Checker}
use Rattle.element_kinds.specs.Kinds.{form_of}
use Rattle.flat_circuit.specs.declared.instance.Pin.{Pin}
use Rattle.flat_circuit.specs.declared.instance.Instance.{Instance}
use Rattle.flat_circuit.specs.declared.net.Net.{Net}
use Rattle.flat_circuit.specs.declared.split.Split.{Split}
use Rattle.flat_circuit.specs.Split.{two_delays, gate_signal, split_bit, split_named_before}
use Rattle.flat_circuit.specs.Circuit.{Circuit}
use Rattle.element_kinds.specs.Equation.{bits_at, gate_bit, nth_signal, registered, latched, Follows, IsForced, IsSetReset, AreStill, IsInReach, IsStored, EquationOf, Equation, named_before, IsAsked}
use Rattle.flat_circuit.specs.Run.{Run, Choice, pin_signals, out_signal, Within, DelayFitsForm, DelayFits, DelaysFit, net_wire_fits, WireFits, WiresFit, EquationWith, IsAskedWith, Obeys, IsRunAt, IsRun}
use Rattle.flat_circuit.proofs.Deciding.{at_most_tells, equal_tells, same_bit, same_bit_tells, always_tells, never_tells, if_tells, all_tells, each_below, below_tells}

-- ---- equations

abbrev follows : Kind → List Signal → ℕ → Bool → Bool
follows kind signals s output = same_bit output (gate_bit kind (bits_at signals s))

follows_tells : (kind : Kind) (signals : List Signal) (s : ℕ) (output : Bool) →
    Decides (follows kind signals s output) (Follows kind signals s output)
follows_tells kind signals s output = same_bit_tells output (gate_bit kind (bits_at signals s))

abbrev is_forced : Bool → Bool → Bool → Bool → Bool
is_forced true true free output = true
is_forced true false free output = same_bit output true
is_forced false true free output = same_bit output false
is_forced false false free output = same_bit output free

forced_tells : (set reset free output : Bool) → Decides (is_forced set reset free output)
    (IsForced set reset free output)
forced_tells true true free output = always_tells
forced_tells true false free output = same_bit_tells output true
forced_tells false true free output = same_bit_tells output false
forced_tells false false free output = same_bit_tells output free

abbrev is_set_reset : List Signal → ℕ → Bool → Bool → Bool
is_set_reset signals s free output =
    is_forced (nth_signal signals 2 s) (nth_signal signals 3 s) free output

set_reset_tells : (signals : List Signal) (s : ℕ) (free output : Bool) →
    Decides (is_set_reset signals s free output) (IsSetReset signals s free output)
set_reset_tells signals s free output =
    forced_tells (nth_signal signals 2 s) (nth_signal signals 3 s) free output

abbrev are_still : List Signal → ℕ → Bool
are_still signals t = list_all (λ x. same_bit (x (t - 1)) (x t)) signals

still_tells : (signals : List Signal) (t : ℕ) → Decides (are_still signals t) (AreStill signals t)
still_tells signals t =
    all_tells (λ x. same_bit (x (t - 1)) (x t)) (λ (x : Signal). x (t - 1) ≡ x t)
    (λ x. same_bit_tells (x (t - 1)) (x t)) signals

abbrev is_in_reach : Bounds → ℕ → ℕ → Bool
is_in_reach bounds t u = nat_le (u + bounds.min) t && nat_le t (u + bounds.max)

reach_tells : (bounds : Bounds) (t u : ℕ) → Decides (is_in_reach bounds t u) (IsInReach bounds t u)
reach_tells bounds t u =
    Decides-and (nat_le (u + bounds.min) t) (nat_le t (u + bounds.max)) (at_most_tells _ _)
    (at_most_tells _ _)

-- no pin steps in reach, of whose ticks none is later than t
abbrev still_in_reach : Bounds → List Signal → ℕ → Bool
still_in_reach bounds signals t =
    each_below (λ u. not (is_in_reach bounds t u) || are_still signals u) (suc t)

still_in_reach_tells : (bounds : Bounds) (signals : List Signal) (t : ℕ) →
    Decides (still_in_reach bounds signals t) ((u : ℕ) → IsInReach bounds t u → AreStill signals u)
still_in_reach_tells bounds signals t =
    Decides-like (still_in_reach bounds signals t)
    (λ h u near. let no_later : u + bounds.min ≤ t = near.0 in h u (omega arith) near)
    (λ h u less. h u)
    (below_tells (λ u. not (is_in_reach bounds t u) || are_still signals u)
    (λ u. IsInReach bounds t u → AreStill signals u)
    (λ u. if_tells (is_in_reach bounds t u) (are_still signals u) (reach_tells bounds t u)
    (still_tells signals u)) (suc t))

abbrev is_stored : Bool → List Signal → ℕ → Bool → Bool → Bool
is_stored false signals s free output = same_bit output free
is_stored true signals s free output = is_set_reset signals s free output

stored_tells : (forced : Bool) (signals : List Signal) (s : ℕ) (free output : Bool) →
    Decides (is_stored forced signals s free output) (IsStored forced signals s free output)
stored_tells false signals s free output = same_bit_tells output free
stored_tells true signals s free output = set_reset_tells signals s free output

abbrev obeys_as : Form → Kind → Bounds → ℕ → List Signal → Signal → ℕ → Bool
obeys_as Gate kind bounds delay signals output t = follows kind signals (t - delay) (output t)
obeys_as Change kind bounds delay signals output t =
    not (still_in_reach bounds signals t) || same_bit (output (t - 1)) (output t)
obeys_as (Register forced) kind bounds delay signals output t =
    is_stored forced signals (t - delay) (registered signals (t - delay) (output (t - 1)))
    (output t)
obeys_as (Enabled forced) kind bounds delay signals output t =
    is_stored forced signals (t - delay) (latched signals (t - delay) (output (t - 1))) (output t)
obeys_as (Checker check) kind bounds delay signals output t = true

abbrev obeys_at : Kind → Bounds → ℕ → List Signal → Signal → ℕ → Bool
obeys_at kind bounds delay signals output t =
    obeys_as (form_of kind) kind bounds delay signals output t

obeys_as_tells : (form : Form) (kind : Kind) (bounds : Bounds) (delay : ℕ) (signals : List Signal)
    (output : Signal) (t : ℕ) →
    Decides (obeys_as form kind bounds delay signals output t)
    (EquationOf form kind bounds delay signals output t)
obeys_as_tells Gate kind bounds delay signals output t =
    follows_tells kind signals (t - delay) (output t)
obeys_as_tells Change kind bounds delay signals output t =
    if_tells (still_in_reach bounds signals t) (same_bit (output (t - 1)) (output t))
    (still_in_reach_tells bounds signals t) (same_bit_tells (output (t - 1)) (output t))
obeys_as_tells (Register forced) kind bounds delay signals output t =
    stored_tells forced signals (t - delay) (registered signals (t - delay) (output (t - 1)))
    (output t)
obeys_as_tells (Enabled forced) kind bounds delay signals output t =
    stored_tells forced signals (t - delay) (latched signals (t - delay) (output (t - 1)))
    (output t)
obeys_as_tells (Checker check) kind bounds delay signals output t = always_tells

obeys_at_tells : (kind : Kind) (bounds : Bounds) (delay : ℕ) (signals : List Signal)
    (output : Signal) (t : ℕ) →
    Decides (obeys_at kind bounds delay signals output t)
    (Equation kind bounds delay signals output t)
obeys_at_tells kind bounds delay signals output t =
    obeys_as_tells (form_of kind) kind bounds delay signals output t

abbrev is_asked : Kind → Bounds → ℕ → List ℕ → ℕ → Bool
is_asked kind bounds delay wires t =
    list_all (λ before. nat_le before t) (named_before kind bounds delay wires)

asked_tells : (kind : Kind) (bounds : Bounds) (delay : ℕ) (wires : List ℕ) (t : ℕ) →
    Decides (is_asked kind bounds delay wires t) (IsAsked kind bounds delay wires t)
asked_tells kind bounds delay wires t =
    all_tells (λ before. nat_le before t) (λ before. before ≤ t) (λ before. at_most_tells before t)
    (named_before kind bounds delay wires)

-- ---- with one delay or with two

abbrev obeys_with : Kind → Bounds → Option Split → Choice → List Signal → Signal → ℕ → Bool
obeys_with kind d None choice signals output t = obeys_at kind d choice.delay signals output t
obeys_with kind d (Some s) choice signals output t =
    same_bit (output t) (split_bit (gate_signal kind signals) choice.rise choice.fall t)

obeys_with_tells : (kind : Kind) (d : Bounds) (split : Option Split) (choice : Choice)
    (signals : List Signal) (output : Signal) (t : ℕ) →
    Decides (obeys_with kind d split choice signals output t)
    (EquationWith kind d split choice signals output t)
obeys_with_tells kind d None choice signals output t =
    obeys_at_tells kind d choice.delay signals output t
obeys_with_tells kind d (Some s) choice signals output t =
    same_bit_tells (output t) (split_bit (gate_signal kind signals) choice.rise choice.fall t)

abbrev is_asked_with : Kind → Bounds → Option Split → Choice → ℕ → Bool
is_asked_with kind d None choice t = is_asked kind d choice.delay choice.wires t
is_asked_with kind d (Some s) choice t =
    list_all (λ before. nat_le before t) (split_named_before choice.rise choice.fall choice.wires)

asked_with_tells : (kind : Kind) (d : Bounds) (split : Option Split) (choice : Choice) (t : ℕ) →
    Decides (is_asked_with kind d split choice t) (IsAskedWith kind d split choice t)
asked_with_tells kind d None choice t = asked_tells kind d choice.delay choice.wires t
asked_with_tells kind d (Some s) choice t =
    all_tells (λ before. nat_le before t) (λ before. before ≤ t) (λ before. at_most_tells before t)
    (split_named_before choice.rise choice.fall choice.wires)

abbrev obeys : ℕ → Kind → Bounds → Option Split → Choice → List Signal → Signal → Bool
obeys ticks kind d split choice signals output =
    each_below (λ t. not (is_asked_with kind d split choice t)
    || obeys_with kind d split choice signals output t) ticks

obeys_tells : (ticks : ℕ) (kind : Kind) (d : Bounds) (split : Option Split) (choice : Choice)
    (signals : List Signal) (output : Signal) →
    Decides (obeys ticks kind d split choice signals output)
    (Obeys ticks kind d split choice signals output)
obeys_tells ticks kind d split choice signals output =
    below_tells (λ t. not (is_asked_with kind d split choice t)
    || obeys_with kind d split choice signals output t)
    (λ t. IsAskedWith kind d split choice t → EquationWith kind d split choice signals output t)
    (λ t. if_tells (is_asked_with kind d split choice t)
    (obeys_with kind d split choice signals output t) (asked_with_tells kind d split choice t)
    (obeys_with_tells kind d split choice signals output t)) ticks

-- ---- choices

abbrev is_within : Bounds → ℕ → Bool
is_within d n = nat_le d.min n && nat_le n d.max

within_tells : (d : Bounds) (n : ℕ) → Decides (is_within d n) (Within d n)
within_tells d n =
    Decides-and (nat_le d.min n) (nat_le n d.max) (at_most_tells _ _) (at_most_tells _ _)

abbrev delay_fits_as : Form → Bounds → ℕ → Bool
delay_fits_as Gate d n = is_within d n
delay_fits_as Change d n = true
delay_fits_as (Register forced) d n = is_within d n
delay_fits_as (Enabled forced) d n = is_within d n
delay_fits_as (Checker check) d n = true

abbrev delay_fits : Kind → Bounds → ℕ → Bool
delay_fits kind d n = delay_fits_as (form_of kind) d n

delay_as_tells : (form : Form) (d : Bounds) (n : ℕ) →
    Decides (delay_fits_as form d n) (DelayFitsForm form d n)
delay_as_tells Gate d n = within_tells d n
delay_as_tells Change d n = always_tells
delay_as_tells (Register forced) d n = within_tells d n
delay_as_tells (Enabled forced) d n = within_tells d n
delay_as_tells (Checker check) d n = always_tells

delay_tells : (kind : Kind) (d : Bounds) (n : ℕ) →
    Decides (delay_fits kind d n) (DelayFits kind d n)
delay_tells kind d n = delay_as_tells (form_of kind) d n

abbrev delays_fit : Kind → Bounds → Option Split → Choice → Bool
delays_fit kind d None choice = delay_fits kind d choice.delay
delays_fit kind d (Some s) choice = is_within s.rise choice.rise && is_within s.fall choice.fall

delays_tell : (kind : Kind) (d : Bounds) (split : Option Split) (choice : Choice) →
    Decides (delays_fit kind d split choice) (DelaysFit kind d split choice)
delays_tell kind d None choice = delay_tells kind d choice.delay
delays_tell kind d (Some s) choice =
    Decides-and (is_within s.rise choice.rise) (is_within s.fall choice.fall)
    (within_tells s.rise choice.rise) (within_tells s.fall choice.fall)

abbrev net_wire_is_in : Option Net → ℕ → Bool
net_wire_is_in None w = false
net_wire_is_in (Some net) w = is_within net.wire w

net_wire_tells : (net : Option Net) (w : ℕ) → Decides (net_wire_is_in net w) (net_wire_fits net w)
net_wire_tells None w = never_tells
net_wire_tells (Some net) w = within_tells net.wire w

abbrev wire_fits : List Net → Target → ℕ → Bool
wire_fits nets (OnNet i) w = net_wire_is_in (slice_get nets i) w
wire_fits nets (Constant b) w = nat_eq w 0

wire_tells : (nets : List Net) (target : Target) (w : ℕ) →
    Decides (wire_fits nets target w) (WireFits nets target w)
wire_tells nets (OnNet i) w = net_wire_tells (slice_get nets i) w
wire_tells nets (Constant b) w = equal_tells w 0

abbrev wires_fit : List Net → List Pin → List ℕ → Bool
wires_fit nets [] [] = true
wires_fit nets [] (w ∷ ws) = false
wires_fit nets (p ∷ ps) [] = false
wires_fit nets (p ∷ ps) (w ∷ ws) = wire_fits nets p.target w && wires_fit nets ps ws

wires_tell : (nets : List Net) (ps : List Pin) (ws : List ℕ) →
    Decides (wires_fit nets ps ws) (WiresFit nets ps ws)
wires_tell nets [] [] = always_tells
wires_tell nets [] (w ∷ ws) = never_tells
wires_tell nets (p ∷ ps) [] = never_tells
wires_tell nets (p ∷ ps) (w ∷ ws) =
    Decides-and (wire_fits nets p.target w) (wires_fit nets ps ws) (wire_tells nets p.target w)
    (wires_tell nets ps ws)

-- ---- runs

abbrev is_run_at : Circuit → Run → Instance → Choice → Bool
is_run_at c run i choice =
    delays_fit i.kind i.delay (two_delays i.kind i.split) choice
    && (wires_fit c.nets i.pins choice.wires
    && obeys run.ticks i.kind i.delay (two_delays i.kind i.split) choice
    (pin_signals run i.pins choice.wires) (out_signal run i.out i.out_inverted))

run_at_tells : (c : Circuit) (run : Run) (i : Instance) (choice : Choice) →
    Decides (is_run_at c run i choice) (IsRunAt c run i choice)
run_at_tells c run i choice =
    Decides-like (is_run_at c run i choice)
    (λ h. record { delay = h.0; wires = h.1.0; obeys = h.1.1 }) (λ h. (h.delay, (h.wires, h.obeys)))
    (Decides-and (delays_fit i.kind i.delay (two_delays i.kind i.split) choice) _
    (delays_tell i.kind i.delay (two_delays i.kind i.split) choice)
    (Decides-and (wires_fit c.nets i.pins choice.wires) _ (wires_tell c.nets i.pins choice.wires)
    (obeys_tells run.ticks i.kind i.delay (two_delays i.kind i.split) choice
    (pin_signals run i.pins choice.wires) (out_signal run i.out i.out_inverted))))

-- each instance that has a choice
abbrev EachAt : Circuit → Run → List Instance → List Choice → Type 0
EachAt c run is choices =
    (k : ℕ) (i : Instance) (choice : Choice) → slice_get is k ≡ Some i →
    slice_get choices k ≡ Some choice → IsRunAt c run i choice

abbrev each_is_run : Circuit → Run → List Instance → List Choice → Bool
each_is_run c run [] choices = true
each_is_run c run (i ∷ is) [] = true
each_is_run c run (i ∷ is) (choice ∷ choices) =
    is_run_at c run i choice && each_is_run c run is choices

each_run_tells : (c : Circuit) (run : Run) (is : List Instance) (choices : List Choice) →
    Decides (each_is_run c run is choices) (EachAt c run is choices)
each_run_tells c run [] choices = (λ h k i choice here chosen. cc, λ h. refl)
each_run_tells c run (i ∷ is) [] = (λ h k i choice here chosen. cc, λ h. refl)
each_run_tells c run (i ∷ is) (choice ∷ choices) =
    Decides-like (each_is_run c run (i ∷ is) (choice ∷ choices)) there back
    (Decides-and (is_run_at c run i choice) (each_is_run c run is choices)
    (run_at_tells c run i choice) (each_run_tells c run is choices))
  where
    there : IsRunAt c run i choice × EachAt c run is choices →
        EachAt c run (i ∷ is) (choice ∷ choices)
    there h zero j other here chosen =
        let one : i ≡ j = cc in
        let two : choice ≡ other = cc in
        subst (λ (x : Instance). IsRunAt c run x other) one
        (subst (λ (x : Choice). IsRunAt c run i x) two h.0)
    there h (suc k) j other here chosen = h.1 k j other here chosen

    back : EachAt c run (i ∷ is) (choice ∷ choices) →
        IsRunAt c run i choice × EachAt c run is choices
    back h = (h 0 i choice refl refl, λ k j other here chosen. h (suc k) j other here chosen)

abbrev pub is_run : Circuit → Run → Bool
is_run c run =
    nat_eq (length run.bits) (length c.nets) && (list_all
    (λ bits. nat_eq (length bits) run.ticks) run.bits
    && (nat_eq (length run.choices) (length c.instances)
    && each_is_run c run c.instances run.choices))

pub run_tells : (c : Circuit) (run : Run) → Decides (is_run c run) (IsRun c run)
run_tells c run =
    Decides-like (is_run c run)
    (λ h. record { nets = h.0; long = h.1.0; instances = h.1.1.0; at = h.1.1.1 })
    (λ h. (h.nets, (h.long, (h.instances, h.at))))
    (Decides-and (nat_eq (length run.bits) (length c.nets)) _ (equal_tells _ _)
    (Decides-and (list_all (λ bits. nat_eq (length bits) run.ticks) run.bits) _
    (all_tells (λ bits. nat_eq (length bits) run.ticks)
    (λ (bits : List Bool). length bits ≡ run.ticks) (λ bits. equal_tells _ _) run.bits)
    (Decides-and (nat_eq (length run.choices) (length c.instances)) _ (equal_tells _ _)
    (each_run_tells c run c.instances run.choices))))
