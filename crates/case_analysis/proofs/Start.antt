-- The waves that the base begins with: one of the period for each net, which permits each run whose inputs keep their
-- assertions.
use Rattle.std.proofs.Common.{◌≡◌, ℕ, ◌-◌, ◌<◌, ◌≤◌, Bool, true, List, [], length, map, get_or, slice_get, refl, sym, ap, subst, ◌∙◌, arith, inl, inr, Option, Some, None}
use Rattle.std.specs.List.{range_with_len}
use Rattle.std.proofs.lemmas.Option.{slice_get_cases}
use Rattle.std.proofs.lemmas.List.{get_or_past}
use Rattle.std.proofs.lemmas.List.FromFn.{get_or-map-range_with_len, length-map-range_with_len}
use Rattle.std.proofs.lemmas.Bool.{cases_lt}
use Rattle.scald_base.specs.Time.{Header, period}
use Rattle.scald_base.specs.Signal.{Signal}
use Rattle.scald_base.specs.declared.assertion.AssertSpec.{AssertSpec}
use Rattle.step_values.specs.declared.value.Value.{Value}
use Rattle.step_values.specs.declared.value.Value.TheVariants.{U}
use Rattle.step_values.specs.Steps.{has}
use Rattle.step_values.specs.Cell.{values}
use Rattle.wave_core.proofs.Slots.{length_slots, earlier_slots}
use Rattle.skew_algebra.specs.Wave.{Wave, skewed}
use Rattle.skew_algebra.specs.Permits.{Permits}
use Rattle.flat_circuit.specs.declared.net.Net.{Net}
use Rattle.flat_circuit.specs.Circuit.{Circuit}
use Rattle.flat_circuit.specs.Run.{Run, net_signal}
use Rattle.pin_waves.specs.Meets.{Meets}
use Rattle.pin_waves.specs.Interface.{interface_wave}
use Rattle.pin_waves.proofs.Asserted.{length_interface, Permits_interface}
use Rattle.fixpoint_engine.specs.Waves.{Waves, waves_of, FitWaves}
use Rattle.fixpoint_engine.specs.Interface.{MeetsInterface, PermitRun}
use Rattle.fixpoint_engine.proofs.WavesOf.{wave_found}
use Rattle.fixpoint_engine.specs.Start.{unknown_wave, start_in, base_start}
use Rattle.case_analysis.specs.Base.{AreAssertedAlike}

-- ---- one net

pub length_unknown : (h : Header) → length (unknown_wave h).cells ≡ period h
length_unknown h = length_slots (period h) (λ p. U)

all_has : (before after : Bool) → has U before after ≡ true
all_has before after = grind (arith)

pub Permits_unknown : (h : Header) (n v : ℕ) (x : Signal) → 0 < period h → Permits values (unknown_wave h) n x v
Permits_unknown h n v x some = record {
  offset = 0;
  within = omega arith;
  steps = λ t t1 tv tn. ap (λ value. has value (x (t - 1)) (x t)) (earlier_slots values (period h) (λ p. U) t 0 some) ∙ all_has (x (t - 1)) (x t);
}

abbrev pub started : Header → AssertSpec → Option ℕ → Wave Value
started h a driver = elim driver [ None ↦ interface_wave h a | Some k ↦ unknown_wave h ]

length_started : (h : Header) (a : AssertSpec) (driver : Option ℕ) → length (started h a driver).cells ≡ period h
length_started h a None = length_interface h a
length_started h a (Some k) = length_unknown h

pub Permits_started : (h : Header) (a : AssertSpec) (driver : Option ℕ) (n : ℕ) (x : Signal) → 0 < period h → (driver ≡ None → Meets h a n x) → Permits values (started h a driver) n x 1
Permits_started h a None n x some meets = Permits_interface h a n x some (meets refl)
Permits_started h a (Some k) n x some meets = Permits_unknown h n 1 x some

-- ---- a net that asserts what another does

pub asserted_alike : (c : Circuit) (m n : Net) (i j : ℕ) → slice_get c.nets i ≡ Some m → slice_get c.nets j ≡ Some n → AreAssertedAlike m n → base_start c i ≡ base_start c j
asserted_alike c m n i j is_m is_n alike =
    let none : m.driver ≡ n.driver = alike.first ∙ sym alike.second in
    ap (start_in c.header) is_m ∙ (λ t. started c.header (alike.spec t) (none t)) ∙ sym (ap (start_in c.header) is_n)

-- as many as there are nets before
pub all_begun : (c : Circuit) (before xs : List (Wave Value)) (net : ℕ) → before ≡ map (base_start c) (range_with_len 0 net) → xs ≡ before → length xs ≡ net
all_begun c before xs net begun same = ap length (same ∙ begun) ∙ length-map-range_with_len (base_start c) 0 net

-- the wave of the net before, among those of all nets before
pub last_begun : (c : Circuit) (before xs : List (Wave Value)) (net : ℕ) (x : Wave Value) → before ≡ map (base_start c) (range_with_len 0 net) → xs ≡ before → 0 < net →
    x ≡ get_or xs (net - 1) x → x ≡ base_start c (net - 1)
last_begun c before xs net x begun same some is =
    let below : net - 1 < net = omega arith in
    wave_found xs (net - 1) net x below (all_begun c before xs net begun same) is
    ∙ ap (λ (ws : List (Wave Value)). waves_of ws (net - 1)) (same ∙ begun)
    ∙ get_or-map-range_with_len (base_start c) 0 net (net - 1) (net - 1) (skewed [] 0) below (omega arith)

-- ---- all nets

pub start_long : (c : Circuit) (i : ℕ) → i < length c.nets → length (base_start c i).cells ≡ period c.header
start_long c i below = elim (slice_get_cases c.nets i).1 [
  | inl found ↦ ap (λ (o : Option Net). length (start_in c.header o).cells) found.2 ∙ length_started c.header found.0.spec found.0.driver
  | inr past ↦ absurd (let far = past.0 in omega (arith, far))
]

-- past the last net there is no wave
pub start_past : (c : Circuit) (i : ℕ) → length c.nets ≤ i → base_start c i ≡ skewed [] 0
start_past c i past = elim (slice_get_cases c.nets i).1 [
  | inl found ↦ absurd (let below = found.1 in omega (arith, below))
  | inr none ↦ ap (start_in c.header) none.1
]

pub start_permits : (c : Circuit) (run : Run) → 0 < period c.header → MeetsInterface c run → PermitRun c run (base_start c) 1
start_permits c run some meets i below = elim (slice_get_cases c.nets i).1 [
  | inl found ↦
      subst (λ (o : Option Net). Permits values (start_in c.header o) run.ticks (net_signal run i) 1) (sym found.2)
      (Permits_started c.header found.0.spec found.0.driver run.ticks (net_signal run i) some (meets i found.0 found.2))
  | inr past ↦ absurd (let far = past.0 in omega (arith, far))
]

-- ---- as code has them

-- the waves of a list, if past its end there is none
pub listed_is : (f : ℕ → Wave Value) (n : ℕ) (waves : List (Wave Value)) → waves ≡ map f (range_with_len 0 n) → ((i : ℕ) → n ≤ i → f i ≡ skewed [] 0) → (i : ℕ) → waves_of waves i ≡ f i
listed_is f n waves is none i = elim (cases_lt i n) [
  | inl below ↦
      ap (λ (ws : List (Wave Value)). waves_of ws i) is
      ∙ get_or-map-range_with_len f 0 n i i (skewed [] 0) below (omega arith)
  | inr past ↦ get_or_past waves i (skewed [] 0) (omega (arith, long, past)) ∙ sym (none i past)
]
  where
    long : length waves ≡ n
    long = ap length is ∙ length-map-range_with_len f 0 n

pub start_is : (c : Circuit) (waves : List (Wave Value)) → waves ≡ map (base_start c) (range_with_len 0 (length c.nets)) → waves_of waves ≡ base_start c
start_is c waves is = λ k i. listed_is (base_start c) (length c.nets) waves is (start_past c) i k

pub start_fits : (c : Circuit) (waves : List (Wave Value)) → waves ≡ map (base_start c) (range_with_len 0 (length c.nets)) → FitWaves c waves
start_fits c waves is = record {
  each_net = ap length is ∙ length-map-range_with_len (base_start c) 0 (length c.nets);
  each_slot = λ i below. ap (λ (ws : Waves). length (ws i).cells) (start_is c waves is) ∙ start_long c i below;
}
