-- The waves that a case begins with, and the runs that they permit.
use Rattle.std.proofs.Common.{◌≡◌, ℕ, ◌+◌, ◌-◌, ◌*◌, ◌<◌, ◌≤◌, ◌==◌, ◌&&◌, Bool, true, false, cond, List, [], ◌∷◌, ◌++◌, length, take, set, get_or, refl, sym, ap, subst, ◌∙◌, arith, Option, Some, None}
use Rattle.std.specs.Prelude.{Result, Ok, Err, MatchResult}
use Rattle.std.specs.Cmp.{both_ways}
use Rattle.std.proofs.lemmas.Bool.{eqb-true}
use Rattle.std.proofs.lemmas.List.{get_or_past, length-set, take_more}
use Rattle.std.proofs.lemmas.List.Elements.{All-head, All-tail}
use Rattle.scald_base.specs.Time.{Header, period}
use Rattle.step_values.specs.declared.value.Value.{Value}
use Rattle.step_values.specs.declared.value.Value.TheVariants.{Zero, One}
use Rattle.step_values.specs.Cell.{values}
use Rattle.wave_core.specs.Slots.{earlier}
use Rattle.wave_core.proofs.Slots.{length_slots}
use Rattle.skew_algebra.specs.Wave.{Wave, skewed}
use Rattle.skew_algebra.specs.Permits.{Permits}
use Rattle.flat_circuit.specs.declared.case.CaseValue.{CaseValue}
use Rattle.flat_circuit.specs.Circuit.{Circuit}
use Rattle.flat_circuit.specs.Run.{Run, net_signal}
use Rattle.pin_waves.specs.Interface.{constant_wave}
use Rattle.pin_waves.proofs.CodeSlots.{Permits_constant}
use Rattle.flat_circuit.specs.Alike.{value_after, value_in}
use Rattle.fixpoint_engine.specs.Waves.{Waves, waves_of, FitWaves}
use Rattle.fixpoint_engine.specs.Interface.{PermitRun}
use Rattle.fixpoint_engine.proofs.WavesOf.{set_at}
use Rattle.fixpoint_engine.specs.Reach.{reach}
use Rattle.fixpoint_engine.specs.Start.{is_driven}
use Rattle.fixpoint_engine.specs.Settled.{FitActive, KeepRuns, marked_in}
use Rattle.case_analysis.specs.Base.{PermitInputs}
use Rattle.fixpoint_engine.specs.declared.rounds.EngineEnd.{EngineEnd}
use Rattle.fixpoint_engine.specs.declared.rounds.EngineEnd.TheVariants.{Unsettled, NoMemory}
use Rattle.case_analysis.specs.Case.{HasCone, EndsInCone, NetsExist, IsInCase, IsCone, case_wave, case_start, case_active, PermitCase}
use Rattle.case_analysis.proofs.Start.{length_unknown, Permits_unknown}
use Rattle.case_analysis.proofs.Inputs.{as_same}

-- ---- one cone

pub one_cone : (c : Circuit) (vs : List CaseValue) (a b : ℕ → Bool) → IsCone c vs a → IsCone c vs b → (i : ℕ) → a i ≡ b i
one_cone c vs a b one other i = both_ways (a i) (b i) (λ is. (other i).1 ((one i).0 is)) (λ is. (one i).1 ((other i).0 is))

pub start_same : (c : Circuit) (vs : List CaseValue) (a b : ℕ → Bool) (base : Waves) → ((i : ℕ) → a i ≡ b i) → (i : ℕ) → case_start c vs a base i ≡ case_start c vs b base i
start_same c vs a b base same i = ap (λ reached. case_wave c.header (value_in vs i) reached (base i)) (same i)

-- What holds of the active nets and of the waves that code begins with holds of those of the case.
pub as_case : (c : Circuit) (vs : List CaseValue) (marks active : ℕ → Bool) (base first : Waves) (P : (ℕ → Bool) → Waves → Type 0) → IsCone c vs marks → ((i : ℕ) → active i ≡ case_active c marks i) →
    ((i : ℕ) → first i ≡ case_start c vs marks base i) → P active first → (cone : ℕ → Bool) → IsCone c vs cone → P (case_active c cone) (case_start c vs cone base)
as_case c vs marks active base first P marked of from holds cone is =
    as_same active (case_active c cone) first (case_start c vs cone base) P
    (λ i. of i ∙ ap (λ b. b && is_driven c i) (one_cone c vs marks cone marked is i))
    (λ i. from i ∙ start_same c vs marks cone base (one_cone c vs marks cone marked is) i) holds

-- rounds in a cone, whichever way they end
pub in_cone : {X : Type 0} (c : Circuit) (vs : List CaseValue) (cone : ℕ → Bool) → IsCone c vs cone → (end : Result X EngineEnd) → MatchResult end (λ _. HasCone c vs) (EndsInCone c vs)
in_cone c vs cone is (Ok x) = record { cone = cone; is = is }
in_cone c vs cone is (Err NoMemory) = tt
in_cone c vs cone is (Err (Unsettled net limit)) = record { cone = cone; is = is }

-- the driven nets of a cone are driven
pub active_fits : (c : Circuit) (active : List Bool) (cone : ℕ → Bool) →
    ((i : ℕ) → marked_in active i ≡ case_active c cone i) → FitActive c active
active_fits c active cone are i on = and_second (cone i) (is_driven c i) (sym (are i) ∙ on)
  where
    and_second : (a b : Bool) → (a && b) ≡ true → b ≡ true
    and_second true b e = e
    and_second false b e = absurd (cc)

-- ---- one value more

value_more : (before : Option Bool) (vs : List CaseValue) (v : CaseValue) (i : ℕ) → value_after before (vs ++ v ∷ []) i ≡ cond (v.net == i) (Some v.one) (value_after before vs i)
value_more before [] v i = refl
value_more before (w ∷ vs) v i = value_more (cond (w.net == i) (Some w.one) before) vs v i

start_more : (c : Circuit) (vs : List CaseValue) (v : CaseValue) (cone : ℕ → Bool) (base : Waves) (i : ℕ) →
    case_start c (vs ++ v ∷ []) cone base i ≡ cond (v.net == i) (constant_wave c.header v.one) (case_start c vs cone base i)
start_more c vs v cone base i = ap (λ (o : Option Bool). case_wave c.header o (cone i) (base i)) (value_more None vs v i) ∙ by (v.net == i)
  where
    by : (here : Bool) → case_wave c.header (cond here (Some v.one) (value_in vs i)) (cone i) (base i) ≡ cond here (constant_wave c.header v.one) (case_start c vs cone base i)
    by true = refl
    by false = refl

-- as code sets it
pub long_more : {A : Type 0} (n k : ℕ) (items : List CaseValue) (d : CaseValue) (waves after : List A) (w : A) → after ≡ set waves (get_or items k d).net w → length waves ≡ n → length after ≡ n
long_more n k items d waves after w sets long = ap length sets ∙ length-set waves (get_or items k d).net w ∙ long

pub case_more : (c : Circuit) (h : Header) (vs items : List CaseValue) (k : ℕ) (d : CaseValue) (cone : ℕ → Bool) (base : Waves)
    (waves after : List (Wave Value)) (w : Wave Value) → items ≡ vs → k < length items → NetsExist c vs →
    length waves ≡ length c.nets → after ≡ set waves (get_or items k d).net w → h ≡ c.header → w ≡ constant_wave h (get_or items k d).one →
    ((i : ℕ) → waves_of waves i ≡ case_start c (take k vs) cone base i) → (i : ℕ) → waves_of after i ≡ case_start c (take (k + 1) vs) cone base i
case_more c h vs items k d cone base waves after w same inside exist each sets head is so i =
    let read : get_or vs k d ≡ get_or items k d = ap (λ (xs : List CaseValue). get_or xs k d) (sym same) in
    let below : k < length vs = subst (λ (xs : List CaseValue). k < length xs) same inside in
    let more : take (k + 1) vs ≡ take k vs ++ get_or items k d ∷ [] = take_more vs k d below ∙ ap (λ x. take k vs ++ x ∷ []) read in
    let real : (get_or vs k d).net < length c.nets = exist k d below in
    let here : (get_or items k d).net < length c.nets = subst (λ (v : CaseValue). v.net < length c.nets) read real in
    ap (λ (ws : List (Wave Value)). waves_of ws i) sets
    ∙ set_at waves (get_or items k d).net i w (omega (arith, here, each))
    ∙ (λ n. cond ((get_or items k d).net == i) (is n) (so i n))
    ∙ (λ n. cond ((get_or items k d).net == i) (constant_wave (head n) (get_or items k d).one) (case_start c (take k vs) cone base i))
    ∙ sym (ap (λ (xs : List CaseValue). case_start c xs cone base i) more ∙ start_more c (take k vs) (get_or items k d) cone base i)

-- ---- one for each net, of the period

pub past_set : (cone : List Bool) (waves : List (Wave Value)) (c : Circuit) (i : ℕ) → length cone ≤ i → length waves ≤ i → case_start c [] (λ j. get_or cone j false) (waves_of waves) i ≡ skewed [] 0
past_set cone waves c i none past =
    (λ k. case_wave c.header None (get_or_past cone i false none k) (waves_of waves i)) ∙ get_or_past waves i (skewed [] 0) past

case_long : (h : Header) (value : Option Bool) (reached : Bool) (before : Wave Value) → length before.cells ≡ period h → length (case_wave h value reached before).cells ≡ period h
case_long h (Some one) reached before long = length_slots (period h) (λ p. cond one One Zero)
case_long h None true before long = length_unknown h
case_long h None false before long = long

pub case_fits : (c : Circuit) (vs : List CaseValue) (cone : ℕ → Bool) (base waves : List (Wave Value)) →
    FitWaves c base → length waves ≡ length c.nets → ((i : ℕ) → waves_of waves i ≡ case_start c vs cone (waves_of base) i) → FitWaves c waves
case_fits c vs cone base waves fit each is = record {
  each_net = each;
  each_slot = λ i below. ap (λ (w : Wave Value). length w.cells) (is i) ∙ case_long c.header (value_in vs i) (cone i) (waves_of base i) (fit.each_slot i below);
}

-- ---- runs

value_kept : (run : Run) (i : ℕ) (before : Option Bool) (vs : List CaseValue) (one : Bool) → IsInCase vs run → ((b : Bool) → before ≡ Some b → (t : ℕ) → t < run.ticks → net_signal run i t ≡ b) →
    value_after before vs i ≡ Some one → (t : ℕ) → t < run.ticks → net_signal run i t ≡ one
value_kept run i before [] one inside held is = held one is
value_kept run i before (v ∷ vs) one inside held is =
    value_kept run i (cond (v.net == i) (Some v.one) before) vs one (All-tail (λ (v : CaseValue). (t : ℕ) → t < run.ticks → net_signal run v.net t ≡ v.one) v vs inside) (next (v.net == i) refl) is
  where
    here : (t : ℕ) → t < run.ticks → net_signal run v.net t ≡ v.one
    here = All-head (λ (v : CaseValue). (t : ℕ) → t < run.ticks → net_signal run v.net t ≡ v.one) v vs inside

    next : (same : Bool) → (v.net == i) ≡ same → (b : Bool) → cond same (Some v.one) before ≡ Some b → (t : ℕ) → t < run.ticks → net_signal run i t ≡ b
    next true e b is t below = let one : v.one ≡ b = cc in ap (λ n. net_signal run n t) (sym (eqb-true v.net i e)) ∙ here t below ∙ one
    next false e b is t below = held b is t below

case_permits : (c : Circuit) (run : Run) (vs : List CaseValue) (i v : ℕ) (value : Option Bool) (reached : Bool) (before : Wave Value) → 0 < period c.header → IsInCase vs run → value_in vs i ≡ value →
    Permits values before run.ticks (net_signal run i) v → Permits values (case_wave c.header value reached before) run.ticks (net_signal run i) v
case_permits c run vs i v (Some one) reached before some inside is permits =
    let keeps = value_kept run i None vs one inside (λ b none. cc) is in
    let constant = Permits_constant c.header one run.ticks v some in
    record {
      offset = constant.offset;
      within = constant.within;
      steps = λ t t1 tv tn.
          (λ k. values.has (earlier values (constant_wave c.header one).cells t constant.offset) (keeps (t - 1) (omega arith) k) (keeps t tn k)) ∙ constant.steps t t1 tv tn;
    }
case_permits c run vs i v None true before some inside is permits = Permits_unknown c.header run.ticks v (net_signal run i) some
case_permits c run vs i v None false before some inside is permits = permits

pub case_permitted : (c : Circuit) (vs : List CaseValue) (cone : ℕ → Bool) (base first settled : Waves) (b r : ℕ) → 0 < period c.header → PermitInputs c b base →
    ((i : ℕ) → first i ≡ case_start c vs cone base i) → KeepRuns c first r settled → PermitCase c vs (b + r) settled
case_permitted c vs cone base first settled b r some inputs start keeps run isrun meets inside =
    let later : b * reach c + 1 + r * reach c ≡ (b + r) * reach c + 1 = omega arith in
    subst (PermitRun c run settled) later
    (keeps run (b * reach c + 1) isrun (omega arith)
    (λ i below. subst (λ (w : Wave Value). Permits values w run.ticks (net_signal run i) (b * reach c + 1)) (sym (start i))
    (case_permits c run vs i (b * reach c + 1) (value_in vs i) (cone i) (base i) some inside refl (inputs run isrun meets i below))))
