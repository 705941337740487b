-- Runs of small circuits, written out, and tests that compute and say the same as the definitions:
-- whether inputs keep their assertions, and whether waves permit a run.
use Prim.Native.String.{String}
use Rattle.std.proofs.Common.{◌≡◌, ℕ, zero, suc, ◌+◌, ◌-◌, ◌<◌, ◌≤◌, max, Bool, true, false, not, ◌&&◌, ◌==◌, nat_lt, nat_le, List, [], ◌∷◌, length, map, slice_get, codes, Option, Some, None, refl, subst, arith, lt-ltb, ltb-true, le-leb, leb-true}
use Rattle.std.specs.Prelude.{⊤}
use Rattle.std.specs.List.{list_all}
use Rattle.std.proofs.lemmas.Bool.{and_parts, and_from}
use Rattle.std.proofs.lemmas.Option.{same_Some}
use Rattle.scald_base.specs.Time.{Header}
use Rattle.scald_base.specs.Signal.{Signal}
use Rattle.step_values.specs.declared.value.Value.{Value}
use Rattle.step_values.specs.Cell.{values}
use Rattle.wave_core.specs.Slots.{earlier}
use Rattle.skew_algebra.specs.Wave.{Wave}
use Rattle.skew_algebra.specs.Permits.{Permits}
use Rattle.flat_circuit.specs.declared.instance.Instance.{Instance}
use Rattle.flat_circuit.specs.declared.net.Net.{Net}
use Rattle.flat_circuit.specs.Circuit.{Circuit}
use Rattle.flat_circuit.specs.Run.{Run, Choice, net_signal}
use Rattle.gate_eval.specs.Instance.{wave_of_pin}
use Rattle.pin_waves.specs.Meets.{Meets}
use Rattle.pin_waves.proofs.Tests.{implies, implies_is, implies_from, not_true, all_below, any_below, each_passes, all_pass, some_passes, any_passes}
use Rattle.pin_waves.proofs.Kept.{keeps, meets_is, meets_from}
use Rattle.fixpoint_engine.specs.Waves.{Waves, pin_waves}
use Rattle.fixpoint_engine.specs.Interface.{MeetsInterface, PermitRun}
use Rattle.fixpoint_engine.specs.Pins.{wire_to, pin_at, StepsFrom, PinsPermit}

-- a run of so many ticks, with these bits of each net as texts of `0` and `1`
abbrev pub run_of : ℕ → List Choice → List String → Run
run_of n choices texts =
    record {
      ticks = n;
      choices = choices;
      bits = map
          (λ text. map (λ c. c == 49) (codes text)) texts;
    }

-- ---- whether inputs keep their assertions

-- a net that something drives is asked nothing
abbrev pub asked_of : Option ℕ → Bool → Bool
asked_of None kept = kept
asked_of (Some k) kept = true

asked_is : (driver : Option ℕ) (kept : Bool) → asked_of driver kept ≡ true → driver ≡ None →
    kept ≡ true
asked_is None kept passed none = passed
asked_is (Some k) kept passed none = cc

asked_from : (driver : Option ℕ) (kept : Bool) → (driver ≡ None → kept ≡ true) →
    asked_of driver kept ≡ true
asked_from None kept h = h refl
asked_from (Some k) kept h = refl

-- the nets, whose signals stand in the same order
abbrev pub nets_keep : Header → ℕ → (ℕ → Signal) → List Net → Bool
nets_keep h n signals [] = true
nets_keep h n signals (net ∷ nets) =
    asked_of net.driver (keeps h net.spec n (signals zero)) && nets_keep h n
    (λ i. signals (suc i)) nets

abbrev pub inputs_keep : Circuit → Run → Bool
inputs_keep c run = nets_keep c.header run.ticks (net_signal run) c.nets

abbrev NetsMeet : Header → ℕ → (ℕ → Signal) → List Net → Type 0
NetsMeet h n signals nets = (i : ℕ) (net : Net) → slice_get nets i ≡ Some net → net.driver ≡ None →
    Meets h net.spec n (signals i)

nets_is : (h : Header) (n : ℕ) (signals : ℕ → Signal) (nets : List Net) →
    nets_keep h n signals nets ≡ true → NetsMeet h n signals nets
nets_is h n signals [] passed i net is none = cc
nets_is h n signals (first ∷ nets) passed zero net is none =
    let parts = and_parts (asked_of first.driver (keeps h first.spec n (signals zero))) _ passed in
    let same : first ≡ net = same_Some first net is in
    let kept : asked_of net.driver (keeps h net.spec n (signals zero)) ≡ true =
    subst (λ (m : Net). asked_of m.driver (keeps h m.spec n (signals zero)) ≡ true) same parts.0 in
    meets_is h net.spec n (signals zero) (asked_is net.driver _ kept none)
nets_is h n signals (first ∷ nets) passed (suc i) net is none =
    nets_is h n (λ k. signals (suc k)) nets
    (and_parts (asked_of first.driver
    (keeps h first.spec n (signals zero))) _ passed).1 i net is none

nets_from : (h : Header) (n : ℕ) (signals : ℕ → Signal) (nets : List Net) →
    NetsMeet h n signals nets → nets_keep h n signals nets ≡ true
nets_from h n signals [] meet = refl
nets_from h n signals (first ∷ nets) meet =
    and_from _ _ (asked_from first.driver _
    (λ none. meets_from h first.spec n (signals zero) (meet zero first refl none)))
    (nets_from h n (λ k. signals (suc k)) nets (λ i net is none. meet (suc i) net is none))

pub inputs_is : (c : Circuit) (run : Run) → inputs_keep c run ≡ true → MeetsInterface c run
inputs_is c run passed = nets_is c.header run.ticks (net_signal run) c.nets passed

pub inputs_from : (c : Circuit) (run : Run) → MeetsInterface c run → inputs_keep c run ≡ true
inputs_from c run meets = nets_from c.header run.ticks (net_signal run) c.nets meets

-- ---- tables of runs

abbrev pub EachMeets : Circuit → ℕ → List (List String) → Type 0
EachMeets c n [] = ⊤
EachMeets c n (texts ∷ more) = MeetsInterface c (run_of n [] texts) × EachMeets c n more

abbrev pub NoneMeets : Circuit → ℕ → List (List String) → Type 0
NoneMeets c n [] = ⊤
NoneMeets c n (texts ∷ more) = (¬ MeetsInterface c (run_of n [] texts)) × NoneMeets c n more

-- Of these runs of n ticks the ones meet the interface, and the others do not.
pub record Inputs (c : Circuit) (n : ℕ) (kept broken : List (List String)) : Type 0 where
  pub each : EachMeets c n kept
  pub none : NoneMeets c n broken

abbrev pub passes : Circuit → ℕ → List String → Bool
passes c n texts = inputs_keep c (run_of n [] texts)

each_meets : (c : Circuit) (n : ℕ) (runs : List (List String)) → list_all (passes c n) runs ≡ true →
    EachMeets c n runs
each_meets c n [] passed = tt
each_meets c n (texts ∷ more) passed =
    let parts = and_parts (passes c n texts) (list_all (passes c n) more) passed in
    (inputs_is c (run_of n [] texts) parts.0, each_meets c n more parts.1)

none_meets : (c : Circuit) (n : ℕ) (runs : List (List String)) →
    list_all (λ texts. not (passes c n texts)) runs ≡ true → NoneMeets c n runs
none_meets c n [] passed = tt
none_meets c n (texts ∷ more) passed =
    let parts = and_parts (not (passes c n texts))
    (list_all (λ other. not (passes c n other)) more) passed in
    let failed : passes c n texts ≡ false = not_true (passes c n texts) parts.0 in (
      λ meets. let is : passes c n texts ≡ true = inputs_from c (run_of n [] texts) meets in
          absurd (cc),
      none_meets c n more parts.1,
    )

pub table : {c : Circuit} {n : ℕ} {kept broken : List (List String)} →
    list_all (passes c n) kept ≡ true → list_all (λ texts. not (passes c n texts)) broken ≡ true →
    Inputs c n kept broken
table {c = c} {n = n} {kept = kept} {broken = broken} passed failed =
    record { each = each_meets c n kept passed; none = none_meets c n broken failed }

-- ---- whether waves permit a run

abbrev pub permits_by : Wave Value → ℕ → Signal → ℕ → ℕ → Bool
permits_by w n x v offset =
    all_below (λ t. implies (nat_le 1 t && nat_le v t)
    (values.has (earlier values w.cells t offset) (x (t - 1)) (x t))) n

abbrev pub permits : Wave Value → ℕ → Signal → ℕ → Bool
permits w n x v = any_below (permits_by w n x v) (w.skew + 1)

permits_is : (w : Wave Value) (n : ℕ) (x : Signal) (v : ℕ) → permits w n x v ≡ true →
    Permits values w n x v
permits_is w n x v passed =
    let found = some_passes (permits_by w n x v) (w.skew + 1) passed in
    record {
      offset = found.0;
      within = (let below : found.0 < w.skew + 1 = found.1 in omega (arith, below));
      steps = λ t one from below.
          implies_is (nat_le 1 t && nat_le v t) _
          (each_passes (λ i. implies (nat_le 1 i && nat_le v i)
          (values.has (earlier values w.cells i found.0) (x (i - 1)) (x i))) n found.2 t below)
          (and_from _ _ (le-leb 1 t one) (le-leb v t from));
    }

permits_from : (w : Wave Value) (n : ℕ) (x : Signal) (v : ℕ) → Permits values w n x v →
    permits w n x v ≡ true
permits_from w n x v permit =
    let within : permit.offset ≤ w.skew = permit.within in
    any_passes (permits_by w n x v) (w.skew + 1) permit.offset (omega (arith, within))
    (all_pass (λ i. implies (nat_le 1 i && nat_le v i)
    (values.has (earlier values w.cells i permit.offset) (x (i - 1)) (x i))) n
    (λ t below. implies_from (nat_le 1 t && nat_le v t) _ (λ both.
    let parts = and_parts (nat_le 1 t) (nat_le v t) both in
    permit.steps t (leb-true 1 t parts.0) (leb-true v t parts.1) below)))

abbrev pub run_permitted : Circuit → Run → Waves → ℕ → Bool
run_permitted c run ws v =
    all_below (λ i. permits (ws i) run.ticks (net_signal run i) v) (length c.nets)

pub run_is : (c : Circuit) (run : Run) (ws : Waves) (v : ℕ) → run_permitted c run ws v ≡ true →
    PermitRun c run ws v
run_is c run ws v passed i below =
    permits_is (ws i) run.ticks (net_signal run i) v
    (each_passes (λ k. permits (ws k) run.ticks (net_signal run k) v)
    (length c.nets) passed i below)

pub run_from : (c : Circuit) (run : Run) (ws : Waves) (v : ℕ) → PermitRun c run ws v →
    run_permitted c run ws v ≡ true
run_from c run ws v permit =
    all_pass (λ k. permits (ws k) run.ticks (net_signal run k) v) (length c.nets)
    (λ i below. permits_from (ws i) run.ticks (net_signal run i) v (permit i below))

-- ---- the pins of an instance

abbrev pub pin_permitted : Circuit → Waves → Run → Instance → Choice → ℕ → ℕ → Bool
pin_permitted c ws run j choice start i =
    permits (wave_of_pin (pin_waves c ws j) i) run.ticks (pin_at run j choice i)
    (max start (wire_to choice i + 1))

abbrev pub pins_permitted : Circuit → Waves → Run → Instance → Choice → ℕ → Bool
pins_permitted c ws run j choice start =
    all_below (pin_permitted c ws run j choice start) (length j.pins)

pub pins_is : (c : Circuit) (ws : Waves) (run : Run) (j : Instance) (choice : Choice) (start : ℕ) →
    pins_permitted c ws run j choice start ≡ true → PinsPermit c ws run j choice start
pins_is c ws run j choice start passed i below =
    permits_is (wave_of_pin (pin_waves c ws j) i) run.ticks (pin_at run j choice i)
    (max start (wire_to choice i + 1))
    (each_passes (pin_permitted c ws run j choice start) (length j.pins) passed i below)

pub pins_from : (c : Circuit) (ws : Waves) (run : Run) (j : Instance) (choice : Choice)
    (start : ℕ) → PinsPermit c ws run j choice start → pins_permitted c ws run j choice start ≡ true
pins_from c ws run j choice start permit =
    all_pass (pin_permitted c ws run j choice start) (length j.pins)
    (λ i below. permits_from (wave_of_pin (pin_waves c ws j) i) run.ticks (pin_at run j choice i)
    (max start (wire_to choice i + 1)) (permit i below))

-- a step of pin i at tick t lies in the run, and at a given tick or later
abbrev pub steps_from : Run → Choice → ℕ → ℕ → ℕ → Bool
steps_from run choice i start t =
    nat_le start t && (nat_le (wire_to choice i + 1) t && nat_lt t run.ticks)

pub steps_is : (run : Run) (choice : Choice) (i start t : ℕ) →
    steps_from run choice i start t ≡ true → StepsFrom run choice i start t
steps_is run choice i start t passed =
    let first = and_parts (nat_le start t) _ passed in
    let rest = and_parts (nat_le (wire_to choice i + 1) t) (nat_lt t run.ticks) first.1 in
    record {
      after = leb-true start t first.0;
      begins = leb-true
          (wire_to choice i + 1) t rest.0;
      ends = ltb-true t run.ticks rest.1;
    }

pub steps_made : (run : Run) (choice : Choice) (i start t : ℕ) → StepsFrom run choice i start t →
    steps_from run choice i start t ≡ true
steps_made run choice i start t steps =
    and_from _ _ (le-leb start t steps.after)
    (and_from _ _ (le-leb (wire_to choice i + 1) t steps.begins)
    (lt-ltb t run.ticks steps.ends))
