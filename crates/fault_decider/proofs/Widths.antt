-- Faults of widths are of checkers that measure pulses, of which nothing else can break.
use Rattle.std.specs.Prelude.{IfSome, filter_map, slice_get}
use Rattle.std.proofs.Common.{◌≡◌, ℕ, zero, suc, ◌+◌, Bool, true, false, true≢false, cond, List, [], ◌∷◌, ◌++◌, length, refl, sym, subst, ◌∙◌, Option, Some, None}
use Rattle.std.specs.List.{AllByRecursion, cons_option, flat_map, range_with_len}
use Rattle.std.specs.Option.{option_or, option_map}
use Rattle.scald_base.specs.Time.{Header, period}
use Rattle.scald_base.specs.declared.assertion.AssertSpec.{AssertSpec}
use Rattle.step_values.specs.declared.value.Value.{Value}
use Rattle.step_values.specs.Steps.{has}
use Rattle.step_values.specs.Cell.{values}
use Rattle.skew_algebra.specs.Wave.{Wave, fold}
use Rattle.element_kinds.specs.declared.form.Check.TheVariants.{SetupHold as AboutRise, RiseFall as RiseToFall, MinPulse as Widths}
use Rattle.element_kinds.specs.declared.form.Form.{Form}
use Rattle.element_kinds.specs.declared.form.Form.TheVariants.{Gate, Change, Register, Latch as Enabled, Checker}
use Rattle.element_kinds.specs.declared.kind.Kind.{Kind}
use Rattle.element_kinds.specs.Kinds.{checks_points, checks_pulses, closes_of, form_of, is_of_pulses, may_be_marked}
use Rattle.element_kinds.proofs.Forms.{of_form}
use Rattle.flat_circuit.specs.declared.fault.Fault.{Fault}
use Rattle.flat_circuit.specs.declared.fault.Fault.TheVariants.{Point, Width, Hazard, Assertion}
use Rattle.flat_circuit.specs.declared.instance.Instance.{Instance}
use Rattle.flat_circuit.specs.declared.limits.Limits.{Limits}
use Rattle.flat_circuit.specs.declared.net.Net.{Net}
use Rattle.flat_circuit.specs.Circuit.{Circuit}
use Rattle.flat_circuit.specs.Limits.{high_of, low_of}
use Rattle.flat_circuit.specs.Run.{Choice, Run}
use Rattle.gate_eval.specs.Hold.{first_some, hazard}
use Rattle.fixpoint_engine.specs.Waves.{Waves, marked_pin, pin_waves}
use Rattle.point_check.specs.declared.window.Window.{Window}
use Rattle.point_check.specs.Assertion.{assertion_fault, fault_in, first_excess, is_held}
use Rattle.point_check.specs.Break.{BreaksForm, BreaksInstance}
use Rattle.point_check.specs.Faults.{fault_by, fault_by_kind, fault_if_held, fault_of, fault_of_net, hazard_at, instance_fault, net_fault, point_faults}
use Rattle.point_check.specs.Point.{checker_fault, edge_fault, window_of}
use Rattle.point_check.specs.Window.{Folds, fault_at as window_fault_at, first_mover, window_fault}
use Rattle.pulse_check.specs.Faults.{IsPulseChecker, fault_at, faults_by, faults_of as pulse_faults_of, instance_faults, limited_fault, listed, pin_of, width_fault, width_faults}
use Rattle.pulse_check.specs.Pulse.{first_narrow}
use Rattle.fixpoint_engine.specs.Pins.{read}
use Rattle.timing_analysis.specs.Case.{Case, faults}

-- a fault of a width is of a checker that measures pulses
abbrev pub IsOfPulses : Circuit → Fault → Type 0
IsOfPulses c (Width k high start width) = IsPulseChecker (slice_get c.instances k)
IsOfPulses c (Point kind k edge slot value) = Unit {0}
IsOfPulses c (Hazard k slot pin) = Unit {0}
IsOfPulses c (Assertion net slot value) = Unit {0}

-- ---- what holds of whatever is found

module _ (P : Fault → Type 0) where
  or_each : (o p : Option Fault) → IfSome o P → IfSome p P → IfSome (option_or o p) P
  or_each None p h k = k
  or_each (Some x) p h k = h

  first_each : (f : ℕ → Option Fault) (n i : ℕ) → ((j : ℕ) → IfSome (f j) P) →
      IfSome (first_some f n i) P
  first_each f zero i each = tt
  first_each f (suc n) i each =
      or_each (f i) (first_some f n (i + 1)) (each i) (first_each f n (i + 1) each)

  map_each : {A : Type 0} (h : A → Fault) (o : Option A) → ((x : A) → P (h x)) →
      IfSome (option_map h o) P
  map_each h None each = tt
  map_each h (Some x) each = each x

  cond_each : (b : Bool) (o : Option Fault) → IfSome o P → IfSome (cond b o None) P
  cond_each true o each = each
  cond_each false o each = tt

  filter_each : {A : Type 0} (f : A → Option Fault) (xs : List A) → ((x : A) → IfSome (f x) P) →
      AllByRecursion P (filter_map f xs)
  filter_each f [] each = tt
  filter_each f (x ∷ xs) each = added (f x) (each x) (filter_each f xs each)
    where
      added : (o : Option Fault) → IfSome o P → AllByRecursion P (filter_map f xs) →
          AllByRecursion P (cons_option o (filter_map f xs))
      added None is others = others
      added (Some y) is others = (is, others)

  both_each : (fs gs : List Fault) → AllByRecursion P fs → AllByRecursion P gs →
      AllByRecursion P (fs ++ gs)
  both_each [] gs all more = more
  both_each (f ∷ fs) gs all more = (all.0, both_each fs gs all.1 more)

  flat_each : {A : Type 0} (f : A → List Fault) (xs : List A) → ((x : A) → AllByRecursion P (f x)) →
      AllByRecursion P (flat_map f xs)
  flat_each f [] each = tt
  flat_each f (x ∷ xs) each = both_each (f x) (flat_map f xs) (each x) (flat_each f xs each)

  listed_each : (o : Option Fault) → IfSome o P → AllByRecursion P (listed o)
  listed_each None is = tt
  listed_each (Some f) is = (is, tt)

-- ---- faults of points are of no width

module _ (c : Circuit) where
  window_points : (p k : ℕ) (input : Folds) (t : ℕ) (window : Option Window) →
      IfSome (window_fault p k input t window) (IsOfPulses c)
  window_points p k input t None = tt
  window_points p k input t (Some w) =
      map_each (IsOfPulses c) (window_fault_at p k input w t) (first_mover p input w t) (λ place. tt)

  checker_points : (kind : Kind) (p k : ℕ) (clock input : Wave Value) (limits : Limits) →
      IfSome (checker_fault kind p k clock input limits) (IsOfPulses c)
  unfolding checker_fault
  checker_points kind p k clock input limits =
      first_each (IsOfPulses c) (edge_fault kind p k (fold values clock) (fold values input) limits) p 0
      (λ t.
      cond_each (IsOfPulses c) (has (fold values clock t) false true)
      (window_fault p k (fold values input) t (window_of kind p (fold values clock) limits t))
      (window_points p k (fold values input) t (window_of kind p (fold values clock) limits t)))

  kind_points : (kind : Kind) (ws : Waves) (k : ℕ) (j : Instance) →
      IfSome (fault_by_kind kind c ws k j) (IsOfPulses c)
  kind_points kind ws k j = by (checks_points kind) (may_be_marked kind)
    where
      by : (points markable : Bool) → IfSome (fault_by points markable c ws k j) (IsOfPulses c)
      by true markable = checker_points j.kind _ k _ _ j.limits
      by false true =
          map_each (IsOfPulses c) (hazard_at k) (hazard j.kind (pin_waves c ws j) (marked_pin j))
          (λ found. tt)
      by false false = tt

  instance_points : (ws : Waves) (k : ℕ) → IfSome (instance_fault c ws k) (IsOfPulses c)
  unfolding instance_fault
  instance_points ws k = by (slice_get c.instances k)
    where
      by : (o : Option Instance) → IfSome (fault_of c ws k o) (IsOfPulses c)
      by None = tt
      by (Some j) = kind_points j.kind ws k j

  assertion_points : (h : Header) (spec : AssertSpec) (i : ℕ) (w : Wave Value) →
      IfSome (assertion_fault h spec i w) (IsOfPulses c)
  unfolding assertion_fault
  assertion_points h spec i w =
      map_each (IsOfPulses c) (fault_in i (fold values w)) (first_excess _ (fold values w) _)
      (λ s. tt)

  net_points : (ws : Waves) (i : ℕ) → IfSome (net_fault c ws i) (IsOfPulses c)
  unfolding net_fault
  net_points ws i = by (slice_get c.nets i)
    where
      if_held : (held : Bool) (net : Net) → IfSome (fault_if_held held c ws i net) (IsOfPulses c)
      if_held true net = assertion_points c.header net.spec i (ws i)
      if_held false net = tt

      by : (o : Option Net) → IfSome (fault_of_net c ws i o) (IsOfPulses c)
      by None = tt
      by (Some net) = if_held (is_held net) net

  all_points : (ws : Waves) → AllByRecursion (IsOfPulses c) (point_faults c ws)
  all_points ws =
      both_each (IsOfPulses c)
      (filter_map (instance_fault c ws) (range_with_len 0 (length c.instances)))
      (filter_map (net_fault c ws) c.order)
      (filter_each (IsOfPulses c) (instance_fault c ws) (range_with_len 0 (length c.instances))
      (instance_points ws))
      (filter_each (IsOfPulses c) (net_fault c ws) c.order (net_points ws))

  -- ---- faults of widths

  width_each : (p k : ℕ) (wave : Wave Value) (level : Bool) (limit : ℕ) →
      IsPulseChecker (slice_get c.instances k) →
      IfSome (width_fault p k wave level limit) (IsOfPulses c)
  unfolding width_fault
  width_each p k wave level limit is =
      map_each (IsOfPulses c) (fault_at k level) (first_narrow p level (read wave.cells) limit)
      (λ found. is)

  instance_widths : (ws : Waves) (k : ℕ) → AllByRecursion (IsOfPulses c) (instance_faults c ws k)
  unfolding instance_faults
  instance_widths ws k = by (slice_get c.instances k) refl
    where
      measured : (j : Instance) (checks : Bool) → checks_pulses j.kind ≡ checks →
          slice_get c.instances k ≡ Some j → AllByRecursion (IsOfPulses c) (faults_by checks c ws k j)
      measured j false same there = tt
      measured j true same there =
          let is : IsPulseChecker (slice_get c.instances k) = subst IsPulseChecker (sym there) same in
          both_each (IsOfPulses c) (listed (limited_fault c ws k j true (high_of j.limits)))
          (listed (limited_fault c ws k j false (low_of j.limits)))
          (listed_each (IsOfPulses c) (limited_fault c ws k j true (high_of j.limits))
          (width_each (period c.header) k (pin_of c ws j) true (high_of j.limits) is))
          (listed_each (IsOfPulses c) (limited_fault c ws k j false (low_of j.limits))
          (width_each (period c.header) k (pin_of c ws j) false (low_of j.limits) is))

      by : (o : Option Instance) → slice_get c.instances k ≡ o →
          AllByRecursion (IsOfPulses c) (pulse_faults_of c ws k o)
      by None there = tt
      by (Some j) there = measured j (checks_pulses j.kind) refl there

  pub all_of_pulses : (case : Case) → AllByRecursion (IsOfPulses c) (faults c case)
  all_of_pulses case =
      both_each (IsOfPulses c) (point_faults c case.waves) (width_faults c case.waves)
      (all_points case.waves)
      (flat_each (IsOfPulses c) (instance_faults c case.waves) (range_with_len 0 (length c.instances))
      (instance_widths case.waves))

-- ---- a checker that measures pulses has no other constraint

form_unbroken : (run : Run) (j : Instance) (choice : Choice) (start : ℕ) (form : Form)
    (closes : Option Bool) → is_of_pulses form ≡ true → BreaksForm form closes run j choice start → ⊥
form_unbroken run j choice start Gate closes is breaks = true≢false (sym is)
form_unbroken run j choice start Change closes is breaks = true≢false (sym is)
form_unbroken run j choice start (Register forced) closes is breaks = true≢false (sym is)
form_unbroken run j choice start (Enabled forced) closes is breaks = true≢false (sym is)
form_unbroken run j choice start (Checker AboutRise) closes is breaks = true≢false (sym is)
form_unbroken run j choice start (Checker RiseToFall) closes is breaks = true≢false (sym is)
form_unbroken run j choice start (Checker Widths) closes is breaks = breaks

pulses_form : (kind : Kind) → checks_pulses kind ≡ true → is_of_pulses (form_of kind) ≡ true
pulses_form kind is = of_form is_of_pulses kind ∙ is

pub pulses_unbroken : (c : Circuit) (run : Run) (k start : ℕ) →
    IsPulseChecker (slice_get c.instances k) → BreaksInstance c run k start → ⊥
pulses_unbroken c run k start is h =
    form_unbroken run h.instance h.choice start (form_of h.instance.kind) (closes_of h.instance.kind)
    (pulses_form h.instance.kind (subst IsPulseChecker h.instance_is is)) h.breaks
