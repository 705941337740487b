-- One pass over the ticks of a run: at each tick, by what was last seen before it, whether a break
-- ends there.
use Rattle.std.specs.Prelude.{◌≡◌, ◌≢◌, ℕ, zero, suc, ◌+◌, ◌-◌, ◌<◌, ◌≤◌, max, Bool, true, false, not, ◌||◌, nat_le, nat_lt, if◌then◌else◌, List, length, slice_get, slice_index_or, Option, Some, None, is_some, MatchOption}
use Rattle.scald_base.specs.Time.{Header}
use Rattle.scald_base.specs.Signal.{Signal}
use Rattle.scald_base.specs.declared.assertion.AssertSpec.{AssertSpec}
use Rattle.step_values.specs.Steps.{has}
use Rattle.element_kinds.specs.declared.form.Check.{Check}
use Rattle.element_kinds.specs.declared.form.Check.TheVariants.{SetupHold as AboutRise, RiseFall as RiseToFall, MinPulse as Widths}
use Rattle.element_kinds.specs.declared.form.Form.{Form}
use Rattle.element_kinds.specs.declared.form.Form.TheVariants.{Gate, Change, Register, Latch as Enabled, Checker}
use Rattle.element_kinds.specs.Equation.{nth_signal}
use Rattle.element_kinds.specs.Kinds.{closes_of, form_of}
use Rattle.flat_circuit.specs.Limits.{setup_of, hold_of, high_of, low_of}
use Rattle.flat_circuit.specs.declared.instance.Instance.{Instance}
use Rattle.flat_circuit.specs.declared.limits.Limits.{Limits}
use Rattle.flat_circuit.specs.declared.net.Net.{Net}
use Rattle.flat_circuit.specs.Name.{net_at}
use Rattle.flat_circuit.specs.Circuit.{Circuit}
use Rattle.flat_circuit.specs.Run.{Choice as Chosen, Run, pin_signals}
use Rattle.trace_sim.specs.Choice.{Bits}
use Rattle.trace_sim.specs.Simulated.{bit_of}
use Rattle.trace_sim.specs.Making.{seen}
use Rattle.point_check.specs.Break.{Asserts, HasMark, Leaves, wide_at}
use Rattle.trace_tool.specs.declared.element.Element.{Element}
use Rattle.trace_tool.specs.declared.element.Element.TheVariants.{Instance as OfInstance, Net as OfNet}
use Rattle.trace_tool.specs.Break.{Breaks, BreaksBy, Precedes}

-- ---- what is sought

-- the first of so many ticks at which something holds, if there is one
pub record IsFirst (holds : ℕ → Type 0) (n t : ℕ) : Type 0 where
  pub below : t < n
  pub is : holds t
  pub none_before : (u : ℕ) → u < t → holds u → ⊥

abbrev pub FindsFirst : (ℕ → Type 0) → ℕ → Option ℕ → Type 0
FindsFirst holds n found = MatchOption found ((t : ℕ) → t < n → holds t → ⊥) (IsFirst holds n)

-- the last of so many ticks that passes a test
abbrev pub last_such : (ℕ → Bool) → ℕ → Option ℕ
last_such test zero = None
last_such test (suc t) = if test t then Some t else last_such test t

-- ---- pins

-- what a pin of an instance shows
abbrev pub shown : Bits → Instance → List ℕ → ℕ → Signal
shown bits i wires pin = nth_signal (pin_signals (seen bits) i.pins wires) pin

-- the first tick at which a step of a pin counts: not before this one, and its net has both bits, a
-- wire's delay before
abbrev pub begins : ℕ → List ℕ → ℕ → ℕ
begins from wires pin = max from (slice_index_or wires pin 0 + 1)

-- the bit to which these two step
abbrev pub changed : Bool → Bool → Option Bool
changed false true = Some true
changed true false = Some false
changed before now = None

-- the bit to which a signal steps at a tick, if steps count
abbrev pub step_at : ℕ → Signal → ℕ → Option Bool
step_at begin x t = if nat_le begin t then changed (x (t - 1)) (x t) else None

abbrev pub steps : ℕ → Signal → ℕ → Bool
steps begin x t = is_some (step_at begin x t)

abbrev pub last_step : ℕ → Signal → ℕ → Option ℕ
last_step begin x t = last_such (steps begin x) t

-- ---- an input about the edges of a clock

-- An input is to stay from a setup time before an edge up to a hold time after an edge: both edges
-- are one rise, or they are a rise and the fall that ends it. The second one comes at this tick;
-- where was the first?
abbrev pub opened_by : Check → Option Bool → Option ℕ → ℕ → Option ℕ
opened_by AboutRise (Some true) last t = Some t
opened_by RiseToFall (Some false) last t = last
opened_by check step last t = None

abbrev pub opened : Check → ℕ → Signal → ℕ → Option ℕ
opened check begin x t = opened_by check (step_at begin x t) (last_step begin x t) t

abbrev pub last_close : Check → ℕ → Signal → ℕ → Option ℕ
last_close check begin x t = last_such (λ u. is_some (opened check begin x u)) t

-- the last change of the input comes after the setup time began
abbrev pub breaks_setup : Option ℕ → Option ℕ → ℕ → Bool
breaks_setup (Some edge) (Some change) setup = nat_le (edge + 1) (change + setup)
breaks_setup edge change setup = false

-- the input changes before the hold time ended
abbrev pub breaks_hold : Bool → Option ℕ → ℕ → ℕ → Bool
breaks_hold true (Some edge) hold t = nat_le t (edge + hold)
breaks_hold changes edge hold t = false

abbrev pub window_ends : Check → Limits → ℕ → Signal → ℕ → Signal → ℕ → Bool
window_ends check limits begin x input y t =
    breaks_setup (opened check begin x t) (last_step input y (t + 1)) (setup_of limits)
    || breaks_hold (steps input y t) (last_close check begin x t) (hold_of limits) t

-- ---- widths

abbrev pub width_limit : Limits → Bool → ℕ
width_limit limits true = high_of limits
width_limit limits false = low_of limits

-- the pin steps from a level at this tick, and came to it too late
abbrev pub narrow : Limits → Option Bool → Option ℕ → ℕ → Bool
narrow limits (Some bit) (Some start) t = nat_lt t (start + width_limit limits (not bit))
narrow limits step last t = false

abbrev pub pulse_ends : Limits → ℕ → Signal → ℕ → Bool
pulse_ends limits begin x t = narrow limits (step_at begin x t) (last_step begin x t) t

-- ---- marks

-- The pin is marked, and at a tick it lets the others through.
pub record LetsThrough (bits : Bits) (i : Instance) (wires : List ℕ) (closed : Bool)
    (from t marked : ℕ) : Type 0 where
  pub is_marked : HasMark i marked
  pub counts : begins from wires marked ≤ t
  pub leaves : Leaves (shown bits i wires marked) closed t

-- Another pin changes at the tick.
pub record Disturbs (bits : Bits) (i : Instance) (wires : List ℕ) (from t marked : ℕ) : Type 0 where
  pub pin : ℕ
  pub below : pin < length i.pins
  pub apart : pin ≢ marked
  pub changes : steps (begins from wires pin) (shown bits i wires pin) t ≡ true

pub record MarkEnds (bits : Bits) (i : Instance) (wires : List ℕ) (closed : Bool) (from t : ℕ) :
    Type 0 where
  pub marked : ℕ
  pub lets : LetsThrough bits i wires closed from t marked
  pub other : Disturbs bits i wires from t marked

-- ---- all that an instance may ask for

abbrev pub WindowEnds : Check → Bits → Instance → List ℕ → ℕ → ℕ → Type 0
WindowEnds check bits i wires from t =
    window_ends check i.limits (begins from wires 0) (shown bits i wires 0)
    (begins from wires 1) (shown bits i wires 1) t ≡ true

abbrev pub PulseEnds : Bits → Instance → List ℕ → ℕ → ℕ → Type 0
PulseEnds bits i wires from t =
    pulse_ends i.limits (begins from wires 0) (shown bits i wires 0) t ≡ true

abbrev pub ClosedEnds : Option Bool → Bits → Instance → List ℕ → ℕ → ℕ → Type 0
ClosedEnds None bits i wires from t = ⊥
ClosedEnds (Some closed) bits i wires from t = MarkEnds bits i wires closed from t

abbrev pub CheckEnds : Check → Bits → Instance → List ℕ → ℕ → ℕ → Type 0
CheckEnds AboutRise bits i wires from t = WindowEnds AboutRise bits i wires from t
CheckEnds RiseToFall bits i wires from t = WindowEnds RiseToFall bits i wires from t
CheckEnds Widths bits i wires from t = PulseEnds bits i wires from t

-- by the form of a kind
abbrev pub FormEnds : Form → Option Bool → Bits → Instance → List ℕ → ℕ → ℕ → Type 0
FormEnds Gate closes bits i wires from t = ClosedEnds closes bits i wires from t
FormEnds Change closes bits i wires from t = ⊥
FormEnds (Register forced) closes bits i wires from t = ⊥
FormEnds (Enabled forced) closes bits i wires from t = ⊥
FormEnds (Checker check) closes bits i wires from t = CheckEnds check bits i wires from t

-- ---- assertions

-- at a tick a net makes a step that its assertion's wide wave has not in the tick's slot
pub record AssertionEnds (h : Header) (spec : AssertSpec) (x : Signal) (from t : ℕ) : Type 0 where
  pub after : from ≤ t
  pub begins : 1 ≤ t
  pub lacks : has (wide_at h spec t) (x (t - 1)) (x t) ≡ false

-- net i, which something drives and whose name asserts something, does so
pub record NetEnds (c : Circuit) (bits : Bits) (i from t : ℕ) : Type 0 where
  pub net : Net
  pub driver : ℕ
  pub net_is : slice_get c.nets i ≡ Some net
  pub is_driven : net.driver ≡ Some driver
  pub asserts : Asserts net.spec
  pub at : AssertionEnds c.header net.spec (bit_of bits i) from t

-- ---- any element

-- what instance k asks for, with the wires' delays of its choice, is broken up to this tick
pub record InstanceEnds (c : Circuit) (choices : List Chosen) (bits : Bits) (k from t : ℕ) :
    Type 0 where
  pub instance : Instance
  pub choice : Chosen
  pub instance_is : slice_get c.instances k ≡ Some instance
  pub choice_is : slice_get choices k ≡ Some choice
  pub ends : FormEnds (form_of instance.kind)
      (closes_of instance.kind) bits instance choice.wires from t

abbrev pub ElementEnds : Circuit → List Chosen → Bits → ℕ → Element → ℕ → Type 0
ElementEnds c choices bits from (OfInstance k) t = InstanceEnds c choices bits k from t
ElementEnds c choices bits from (OfNet place) t =
    (place < length c.order) × NetEnds c bits (net_at c.order place) from t

-- ---- the first of all elements

-- A break of the element that ends with this tick, and none ends sooner.
pub record IsSoonest (c : Circuit) (run : Run) (from : ℕ) (e : Element) (last : ℕ) : Type 0 where
  pub at : BreaksBy c run from last e
  pub no_sooner : (t : ℕ) → t < last → BreaksBy c run from t e → ⊥

abbrev pub HasSoonest : Circuit → Run → ℕ → Element → Option ℕ → Type 0
HasSoonest c run from e found = MatchOption found (Breaks c run from e → ⊥) (IsSoonest c run from e)

-- the same among some elements, by what `BreaksFirst` asks
pub record IsFirstAmong (c : Circuit) (run : Run) (from : ℕ) (among : Element → Type 0)
    (e : Element) (last : ℕ) : Type 0 where
  pub is_among : among e
  pub at : BreaksBy c run from last e
  pub no_sooner : (other : Element) → among other → (t : ℕ) → t < last →
      BreaksBy c run from t other → ⊥
  pub no_other : (other : Element) → among other → Precedes other e →
      BreaksBy c run from last other → ⊥

abbrev pub HasFirstAmong : Circuit → Run → ℕ → (Element → Type 0) → Option (Element × ℕ) → Type 0
HasFirstAmong c run from among found = MatchOption found
    ((e : Element) → among e → Breaks c run from e → ⊥)
    (λ b. IsFirstAmong c run from among b.0 b.1)

-- so many instances, and so many nets
abbrev pub AreAmong : ℕ → ℕ → Element → Type 0
AreAmong instances nets (OfInstance k) = k < instances
AreAmong instances nets (OfNet place) = place < nets

-- the one that ends sooner, or the earlier one if both end with one tick
abbrev pub sooner_of : Option (Element × ℕ) → Element → Option ℕ → Option (Element × ℕ)
sooner_of best e None = best
sooner_of None e (Some last) = Some (e, last)
sooner_of (Some best) e (Some last) = if nat_lt last best.1 then Some (e, last) else Some best
