-- What is told of the narrowest pulse of a wave.
use Rattle.std.proofs.Common.{◌≡◌, ℕ, List, [], length, Bool, true, false, ◌&&◌, cond, refl, sym, ap, subst, ◌∙◌, arith, Option, Some, None}
use Rattle.std.specs.Prelude.{ℤ, pos, ◌+ℤ◌, ◌-ℤ◌, ◌==◌, int_le, nat_lt, slice_get, unsigned_abs, unwrap_or}
use Rattle.std.specs.List.{All}
use Rattle.std.specs.Option.{option_map}
use Rattle.std.proofs.lemmas.List.{get_or-map}
use Rattle.std.proofs.lemmas.List.Elements.{All-get_or}
use Rattle.std.proofs.lemmas.Option.{get_or_from_slice_get, slice_get_within}
use Rattle.std.proofs.lemmas.Int.{ints}
use Rattle.scald_base.specs.Signal.{turned}
use Rattle.scald_base.specs.Time.{Header, period}
use Rattle.step_values.specs.declared.value.Value.{Value}
use Rattle.skew_algebra.specs.Wave.{Wave, skewed}
use Rattle.gate_eval.specs.Instance.{wave_of_pin}
use Rattle.fixpoint_engine.specs.Pins.{read}
use Rattle.vector_names.specs.declared.bits.Target.TheVariants.{Net as OnNet, Constant}
use Rattle.flat_circuit.specs.declared.instance.Instance.{Instance}
use Rattle.flat_circuit.specs.declared.instance.Pin.{Pin}
use Rattle.flat_circuit.specs.Circuit.{Circuit, IsCircuit, driver, driver_at, instance_in}
use Rattle.flat_circuit.specs.Instances.{InstanceFits, PinExists}
use Rattle.fixpoint_engine.specs.Waves.{Waves, pin_wave, pin_waves}
use Rattle.slack_rows.specs.Limit.{begin_of, finding_level}
use Rattle.critical_paths.specs.declared.direction.Direction.{Direction}
use Rattle.element_kinds.specs.declared.kind.Kind.{Kind}
use Rattle.element_kinds.specs.Kinds.{may_split}
use Rattle.flat_circuit.specs.declared.split.Split.{Split}
use Rattle.flat_circuit.specs.Split.{SplitFits, two_delays}
use Rattle.pulse_check.specs.Pulse.{Slots}
use Rattle.slack_rows.specs.declared.slack.By.{By}
use Rattle.slack_rows.specs.declared.slack.By.TheVariants.{Swallowed}
use Rattle.slack_rows.specs.declared.slack.Slack.TheVariants.{Ticks as NumberOfTicks}
use Rattle.slack_rows.specs.declared.slack.Finding.{Finding as Found}
use Rattle.slack_rows.specs.declared.window.Window.{Window as Ticks}
use Rattle.slack_rows.specs.Slack.{InPulse, Place, Ticks as TicksLeft, Finding, finding_at, finding_of}
use Rattle.slack_rows.specs.Pulse.{Pulse, begins_at, begins_on, left_at, left_by, left_if, left_in, left_of, left_on, left_once, may_change_again, narrowest, finding_wave, width_of}
use Rattle.slack_rows.specs.Views.{IsNear, IsFinding, IsPulseWindow, in_pulse, place_by, place_of, pulse_begin, slack_by, finding_by_found}

-- ---- how wide it is

pub width_repeated : (pulse : Pulse) (limit : ℕ) (again : Bool) (left : Option ℤ) → again ≡ true →
    width_of pulse limit (left_once again left) ≡ pos pulse.1
width_repeated pulse limit again left is = ap (λ (b : Bool). width_of pulse limit (left_once b left)) is

pub width_whole : (pulse : Pulse) (limit : ℕ) (again : Bool) (left : Option ℤ) → ((pulse.1 == 1) && nat_lt 1 limit) ≡ false →
    width_of pulse limit (left_once again left) ≡ pos pulse.1
width_whole pulse limit true left is = refl
width_whole pulse limit false None is = refl
width_whole pulse limit false (Some n) is = ap (λ (b : Bool). cond b n (pos pulse.1)) is

pub width_none : (pulse : Pulse) (limit : ℕ) (again : Bool) (left : Option ℤ) → left ≡ None → width_of pulse limit (left_once again left) ≡ pos pulse.1
width_none pulse limit again left none = ap (λ (o : Option ℤ). width_of pulse limit (left_once again o)) none ∙ by again
  where
    by : (b : Bool) → width_of pulse limit (left_once b None) ≡ pos pulse.1
    by true = refl
    by false = refl

pub width_left : (pulse : Pulse) (limit : ℕ) (again : Bool) (left : Option ℤ) (n : ℤ) → again ≡ false → left ≡ Some n →
    ((pulse.1 == 1) && nat_lt 1 limit) ≡ true → width_of pulse limit (left_once again left) ≡ n
width_left pulse limit again left n once is narrow =
    (λ i. width_of pulse limit (left_once (once i) (is i))) ∙ ap (λ (b : Bool). cond b n (pos pulse.1)) narrow

-- ---- what is told of it

module _ (p : ℕ) (d : Direction) (limit : ℕ) (pulse : Pulse) (found : Found) (window : Ticks)
    (slack_is : found.slack ≡ NumberOfTicks (window.last -ℤ window.first -ℤ pos limit)) (window_is : found.window ≡ window) (pin_is : found.pin ≡ 0)
    (direction_is : found.direction ≡ d) (tick_is : found.tick ≡ pos pulse.0) (width : ℤ) (ends : window.last ≡ window.first +ℤ width) where
  number_is : slack_by found.slack ≡ TicksLeft (width -ℤ pos limit)
  number_is =
      let same : (window.last -ℤ window.first -ℤ pos limit) ≡ (width -ℤ pos limit) = omega (arith, ints, ends) in
      ap slack_by slack_is ∙ ap TicksLeft same

  module _ (by : By) (by_is : found.by ≡ by) (place : Place) (in_place : place_by p found by ≡ place) where
    place_is : place_of p found found.slack ≡ place
    place_is = ap (place_of p found) slack_is ∙ ap (place_by p found) by_is ∙ in_place

    finding_is : finding_of 0 d (finding_at (TicksLeft (width -ℤ pos limit)) place) ≡ finding_by_found p found
    finding_is = λ i. record {
      slack = (sym number_is) i;
      place = (sym place_is) i;
      pin = (sym pin_is) i;
      direction = (sym direction_is) i;
    }

  whole_pulse : width ≡ pos pulse.1 → in_pulse found ≡ InPulse pulse.0 pulse.1
  whole_pulse whole =
      let inside : (window.last -ℤ window.first) ≡ pos pulse.1 = omega (arith, ints, ends, whole) in
      let wide : (found.window.last -ℤ found.window.first) ≡ pos pulse.1 = ap (λ (w : Ticks). w.last -ℤ w.first) window_is ∙ inside in
      λ i. InPulse (unsigned_abs (tick_is i)) (unsigned_abs (wide i))

  -- of a wave that it is the narrowest of, with so many ticks
  pub tells_whole : (wave : Slots) (left : Option ℤ) (by : By) → found.by ≡ by →
      place_by p found by ≡ in_pulse found →
      width_of pulse limit (left_once (may_change_again wave pulse) left) ≡ width → width ≡ pos pulse.1 →
      finding_of 0 d (finding_wave limit left wave (Some pulse)) ≡ finding_by_found p found
  tells_whole wave left by by_is placed width_is whole =
      ap (λ (n : ℤ). finding_of 0 d (finding_at (TicksLeft (n -ℤ pos limit)) (InPulse pulse.0 pulse.1))) width_is
      ∙ finding_is by by_is (InPulse pulse.0 pulse.1) (placed ∙ whole_pulse whole)

  pub tells_swallowed : (wave : Slots) (left : Option ℤ) → found.by ≡ Swallowed → pulse.1 ≡ 1 →
      width_of pulse limit (left_once (may_change_again wave pulse) left) ≡ width →
      finding_of 0 d (finding_wave limit left wave (Some pulse)) ≡ finding_by_found p found
  tells_swallowed wave left by_is narrow width_is =
      ap (λ (n : ℤ). finding_of 0 d (finding_at (TicksLeft (n -ℤ pos limit)) (InPulse pulse.0 pulse.1))) width_is
      ∙ finding_is Swallowed by_is (InPulse pulse.0 pulse.1) (λ i. InPulse (unsigned_abs (tick_is i)) ((sym narrow) i))

-- ---- by what drives a pin

pub splits : (kind : Kind) (split : Option Split) (s : Split) → split ≡ Some s → may_split kind ≡ true → two_delays kind split ≡ Some s
splits kind split s is may = (λ i. cond (may i) (is i) None)

pub splits_none : (kind : Kind) (split : Option Split) → split ≡ None → two_delays kind split ≡ None
splits_none kind split is = ap (λ (o : Option Split). cond (may_split kind) o None) is ∙ by (may_split kind) None
  where
    by : (b : Bool) (o : Option Split) → cond b o o ≡ o
    by true o = refl
    by false o = refl

pub may_split_of : (h : Header) (nets : ℕ) (j : Instance) (s : Split) → InstanceFits h nets j → j.split ≡ Some s → may_split j.kind ≡ true
may_split_of h nets j s fits is = by (subst (SplitFits j.kind j.delay) is fits.split)
  where
    by : SplitFits j.kind j.delay (Some s) → may_split j.kind ≡ true
    by fit = fit.0

-- what is left of one pulse, if it is not more than nothing
pub some_left : (s : Split) (level : Bool) (pulse : Pulse) (n : ℤ) → n ≡ left_of s level pulse.1 → int_le n (pos 0) ≡ true →
    Some n ≡ left_if s level (Some pulse)
some_left s level pulse n is most =
    ap Some is
    ∙ sym (ap (λ (b : Bool). cond b (Some (left_of s level pulse.1)) None) (ap (λ (m : ℤ). int_le m (pos 0)) (sym is) ∙ most))

pub none_left : (s : Split) (level : Bool) (pulse : Pulse) (n : ℤ) → n ≡ left_of s level pulse.1 → int_le n (pos 0) ≡ false →
    None ≡ left_if s level (Some pulse)
none_left s level pulse n is more =
    sym (ap (λ (b : Bool). cond b (Some (left_of s level pulse.1)) None) (ap (λ (m : ℤ). int_le m (pos 0)) (sym is) ∙ more))

module _ (c : Circuit) (ws : Waves) (level : Bool) (pin : Pin) (i : ℕ) (on : pin.target ≡ OnNet i) where
  pub left_without : driver c i ≡ None → None ≡ left_at c ws level pin
  left_without none =
      sym (ap (left_on c ws (turned pin.inverted level)) on ∙ ap (left_in c ws (turned pin.inverted level)) none)

  pub left_with : (j : Instance) (own : Bool) → driver c i ≡ Some j → own ≡ turned j.out_inverted (turned pin.inverted level) →
      left_by c ws j own (two_delays j.kind j.split) ≡ left_at c ws level pin
  left_with j own is own_is =
      ap (λ (b : Bool). left_by c ws j b (two_delays j.kind j.split)) own_is
      ∙ sym (ap (left_on c ws (turned pin.inverted level)) on ∙ ap (left_in c ws (turned pin.inverted level)) is)

pub left_constant : (c : Circuit) (ws : Waves) (level one : Bool) (pin : Pin) → pin.target ≡ Constant one → None ≡ left_at c ws level pin
left_constant c ws level one pin is = sym (ap (left_on c ws (turned pin.inverted level)) is)

pub begin_constant : (c : Circuit) (ws : Waves) (level one : Bool) (pin : Pin) → pin.target ≡ Constant one → None ≡ begins_at c ws level pin
begin_constant c ws level one pin is = sym (ap (begins_on c ws (turned pin.inverted level)) is)

-- a pulse that begins later
pub begin_later : (found : Option (ℤ × ℤ)) (wire : ℕ) →
    option_map (λ (left : ℤ × ℤ). left.0 +ℤ pos wire) found
    ≡ option_map (λ begin. begin +ℤ pos wire) (option_map (λ (left : ℤ × ℤ). left.0) found)
begin_later None wire = refl
begin_later (Some left) wire = refl

-- ---- when a pulse begins

-- in its slot
pub window_here : (limit : ℕ) (late : Option ℤ) (n : ℕ) (found : Found) (w : Ticks) (b : By) →
    w.first ≡ pos n → found.slack ≡ NumberOfTicks (w.last -ℤ w.first -ℤ pos limit) → found.window ≡ w →
    found.tick ≡ pos n → found.by ≡ b → pulse_begin late (pos n) b ≡ pos n → IsPulseWindow limit late found
window_here limit late n found w b first slack window tick way here =
    record {
      first = ap (λ (x : Ticks). x.first) window ∙ first ∙ sym here ∙ sym (λ i. pulse_begin late (tick i) (way i));
      slack = slack ∙ sym (ap (λ (x : Ticks). NumberOfTicks (x.last -ℤ x.first -ℤ pos limit)) window);
    }

-- or as late as it may, if it may be swallowed
pub window_late : (limit : ℕ) (late : Option ℤ) (n : ℕ) (begin : ℤ) (found : Found) (w : Ticks) →
    late ≡ Some begin → w.first ≡ begin → found.slack ≡ NumberOfTicks (w.last -ℤ w.first -ℤ pos limit) →
    found.window ≡ w → found.by ≡ Swallowed → IsPulseWindow limit late found
window_late limit late n begin found w at first slack window way =
    record {
      first = ap (λ (x : Ticks). x.first) window ∙ first
          ∙ sym (ap (pulse_begin late found.tick) way ∙ ap (λ (o : Option ℤ). unwrap_or o found.tick) at);
      slack = slack ∙ sym (ap (λ (x : Ticks). NumberOfTicks (x.last -ℤ x.first -ℤ pos limit)) window);
    }

-- what drives a net fits
pub driver_fits : (c : Circuit) (i : ℕ) (j : Instance) → IsCircuit c → driver c i ≡ Some j → InstanceFits c.header (length c.nets) j
driver_fits c i j known is = by (driver_at c.nets i) is
  where
    by : (o : Option ℕ) → instance_in c o ≡ Some j → InstanceFits c.header (length c.nets) j
    by None none = absurd (cc)
    by (Some k) at =
        subst (InstanceFits c.header (length c.nets)) (get_or_from_slice_get c.instances k j j at)
        (All-get_or (InstanceFits c.header (length c.nets)) c.instances k j (slice_get_within c.instances k j at) known.each)

-- ---- by the first pin of a checker

pub pin_of_net : (c : Circuit) (pins : List Pin) (pin : Pin) → All (PinExists (length c.nets)) pins → slice_get pins 0 ≡ Some pin →
    PinExists (length c.nets) pin
pin_of_net c pins pin all is =
    subst (PinExists (length c.nets)) (get_or_from_slice_get pins 0 pin pin is)
    (All-get_or (PinExists (length c.nets)) pins 0 pin (slice_get_within pins 0 pin is) all)

pub level_finding : (c : Circuit) (ws : Waves) (j : Instance) (level : Bool) (limit : ℕ) (pin : Pin) → slice_get j.pins 0 ≡ Some pin →
    finding_of 0 (begin_of level)
    (finding_wave limit (left_at c ws level pin) (read (pin_wave c ws pin).cells) (narrowest (period c.header) level (read (pin_wave c ws pin).cells)))
    ≡ finding_level c ws j level limit (slice_get j.pins 0)
level_finding c ws j level limit pin is =
    let below = slice_get_within j.pins 0 pin is in
    let wave : pin_wave c ws pin ≡ wave_of_pin (pin_waves c ws j) 0 =
    ap (pin_wave c ws) (sym (get_or_from_slice_get j.pins 0 pin pin is))
    ∙ sym (get_or-map (pin_wave c ws) j.pins 0 pin (skewed [] 0) below) in
    ap (λ (w : Wave Value). finding_of 0 (begin_of level)
    (finding_wave limit (left_at c ws level pin) (read w.cells) (narrowest (period c.header) level (read w.cells)))) wave
    ∙ ap (finding_level c ws j level limit) (sym is)

-- what is told by no region
pub finding_near : (p : ℕ) (found : Found) (finding : Finding) (by : By) → found.by ≡ by → IsNear p found by → finding ≡ finding_by_found p found →
    IsFinding p found finding
finding_near p found finding by way near is = record { is = is; near = subst (IsNear p found) (sym way) near }
