-- Sections joined: by induction over ticks, each net that crosses keeps its assertion, and so nothing of any
-- section breaks.
use Rattle.std.proofs.Common.{◌≡◌, ℕ, zero, suc, ◌+◌, ◌*◌, ◌<◌, ◌≤◌, false, not, List, [], ◌∷◌, length}
use Rattle.std.proofs.Common.{slice_get, refl, sym, ap, subst, ◌∙◌, arith, inl, inr, Some, None}
use Rattle.std.specs.Prelude.{◌++◌, slice_index_or}
use Rattle.std.proofs.lemmas.Bool.{and_parts, cases_lt}
use Rattle.scald_base.specs.Time.{period}
use Rattle.flat_circuit.specs.declared.net.Net.{Net}
use Rattle.flat_circuit.specs.Circuit.{Circuit, IsCircuit}
use Rattle.flat_circuit.specs.Run.{Run, IsRun, net_signal}
use Rattle.pin_waves.proofs.MeetsLaws.{front}
use Rattle.fixpoint_engine.specs.Interface.{PermitRun}
use Rattle.fixpoint_engine.specs.Waves.{Waves}
use Rattle.fixpoint_engine.proofs.Fits.{AreLong}
use Rattle.fixpoint_engine.specs.Reach.{reach}
use Rattle.point_check.specs.Faults.{point_faults}
use Rattle.point_check.specs.Sound.{KeepsConstraints}
use Rattle.point_check.proofs.Kept.{keeps_constraints}
use Rattle.pulse_check.specs.Faults.{width_faults}
use Rattle.pulse_check.proofs.Kept.{keeps_widths}
use Rattle.timing_analysis.specs.Case.{faults_of}
use Rattle.timing_analysis.specs.Promise.{Breaks, by_instance, by_pulse, by_net}
use Rattle.timing_analysis.proofs.Reached.{all_pins_permit, no_instance_breaks, no_net_breaks}
use Rattle.section_compose.specs.Evaluated.{tick_of}
use Rattle.section_compose.specs.Globals.{crosses, is_driven}
use Rattle.section_compose.specs.Joined.{AreJoined, IsDrivenBy}
use Rattle.section_compose.specs.OneNet.{AreOneNet, IsNetOf}
use Rattle.section_compose.specs.Whole.{CrossingsKeep, IsRunOfWhole, KeepsOn, NeverBreaksWhole, bits_of}
use Rattle.section_compose.proofs.Across.{InputsKeep}
use Rattle.section_compose.proofs.Ahead.{settling_long, settling_permits, step_ahead}
use Rattle.section_compose.proofs.Clocks.{keeps_same}
use Rattle.section_compose.proofs.Facts.{SettlesClean}

-- ---- lists without faults

front_none : {A : Type 0} (xs ys : List A) → xs ++ ys ≡ [] → xs ≡ []
front_none [] ys none = refl
front_none (x ∷ xs) ys none = absurd (cc)

back_none : {A : Type 0} (xs ys : List A) → xs ++ ys ≡ [] → ys ≡ []
back_none [] ys none = none
back_none (x ∷ xs) ys none = absurd (cc)

-- the settled waves hold a reach before the printed tick
printed_far : (rounds n T : ℕ) → (rounds + 0 + 1) * n ≤ T → rounds * n + 1 + n ≤ T + 1
printed_far rounds n T sooner = omega (arith, sooner)

-- ---- bits of the whole

signal_of : (runs : List Run) (s i : ℕ) (run : Run) → slice_get runs s ≡ Some run →
    net_signal run i ≡ (λ t. slice_index_or (bits_of runs s i) t false)
signal_of runs s i run is =
    sym (λ k t. slice_index_or (elim (is k) [ None ↦ [] | Some r ↦ slice_index_or r.bits i [] ]) t false)

one_signal : (whole : List Circuit) (runs : List Run) (ticks : ℕ) → IsRunOfWhole whole runs ticks →
    (s i s' i' : ℕ) (c c' : Circuit) (net other : Net) (run run' : Run) →
    IsNetOf whole s i c net → IsNetOf whole s' i' c' other → AreOneNet net other →
    slice_get runs s ≡ Some run → slice_get runs s' ≡ Some run' → net_signal run i ≡ net_signal run' i'
one_signal whole runs ticks is s i s' i' c c' net other run run' of of' one at at' =
    signal_of runs s i run at
    ∙ ap (λ bits. λ t. slice_index_or bits t false) (is.one_net s i s' i' c c' net other of of' one)
    ∙ sym (signal_of runs s' i' run' at')

-- there is a run for each section
run_of : (whole : List Circuit) (runs : List Run) (s : ℕ) (c : Circuit) → length runs ≡ length whole →
    slice_get whole s ≡ Some c → (run : Run) × (slice_get runs s ≡ Some run)
run_of [] runs s c long is = absurd (cc)
run_of (first ∷ whole) [] s c long is = absurd (omega arith)
run_of (first ∷ whole) (run ∷ runs) zero c long is = (run, refl)
run_of (first ∷ whole) (run ∷ runs) (suc s) c long is = run_of whole runs s c (omega (arith, long)) is

-- ---- the whole

module _ (whole : List Circuit) (T : ℕ) (joined : AreJoined whole)
    (known : (s : ℕ) (c : Circuit) → slice_get whole s ≡ Some c → IsCircuit c)
    (some : (s : ℕ) (c : Circuit) → slice_get whole s ≡ Some c → 0 < period c.header)
    (settlings : (s : ℕ) (c : Circuit) → slice_get whole s ≡ Some c → SettlesClean whole T c) where
  module _ (runs : List Run) (ticks : ℕ) (is : IsRunOfWhole whole runs ticks)
      (early : (t : ℕ) → 1 ≤ t → t ≤ T → t < ticks → CrossingsKeep whole runs t) where
    -- at all ticks before one, the nets that cross keep their assertions
    abbrev KeptBefore : ℕ → Type 0
    KeptBefore t = (u : ℕ) → 1 ≤ u → u < t → u < ticks → CrossingsKeep whole runs u

    -- then the inputs of each section keep what they assert up to there
    inputs_keep : (n s : ℕ) (c : Circuit) (run : Run) → slice_get whole s ≡ Some c → slice_get runs s ≡ Some run →
        n ≤ ticks → KeptBefore n → InputsKeep whole c run n
    inputs_keep n s c run at run_at inside before = record {
      alone = λ i net net_is undriven apart.
          front c.header net.spec n ticks (net_signal run i) inside
          (is.inputs s i c net run (record { section_is = at; net_is = net_is }) run_at undriven apart);
      across = λ i net net_is into t t1 tn.
          before t t1 tn (omega (arith, tn, inside)) s i c net run (record { section_is = at; net_is = net_is }) run_at
          (and_parts (not (is_driven net)) (crosses whole net) into).1;
    }

    no_faults : (c : Circuit) (ws : Waves) → faults_of c ws ≡ [] → (point_faults c ws ≡ []) × (width_faults c ws ≡ [])
    no_faults c ws none = (front_none (point_faults c ws) (width_faults c ws) none, back_none (point_faults c ws) (width_faults c ws) none)

    constraints : (s : ℕ) (c : Circuit) (run : Run) (at : slice_get whole s ≡ Some c) → slice_get runs s ≡ Some run →
        KeepsConstraints c (settlings s c at).settling.waves []
    constraints s c run at run_at =
        let r = settlings s c at in
        keeps_constraints c r.settling.waves [] (some s c at) (known s c at)
        (settling_long whole c r.settling run (known s c at) (some s c at) (is.each s c run at run_at) r.at)
        (sym (no_faults c r.settling.waves r.clean).0)

    -- One tick: what keeps its assertion before it keeps it there.
    step : (t : ℕ) → T < t → t < ticks → KeptBefore t → CrossingsKeep whole runs t
    step t past inside before s i c net run of run_at crossing =
        let d : IsDrivenBy whole net = joined.driver s i c net of crossing in
        let found = run_of whole runs d.s d.circuit is.sections d.is.section_is in
        let r = settlings d.s d.circuit d.is.section_is in
        let long : found.0.ticks ≡ ticks = is.long d.s found.0 found.1 in
        let sooner : tick_of d.circuit r.settling ≤ T = r.sooner in
        keeps_same d.circuit.header c.header d.same.spec net.spec (net_signal found.0 d.i) (net_signal run i) t
        (joined.clocks d.s s d.circuit c d.is.section_is of.section_is)
        (joined.alike d.s d.i s i d.circuit c d.same net d.is of d.one)
        (one_signal whole runs ticks is d.s d.i s i d.circuit c d.same net found.0 run d.is of d.one found.1 run_at)
        (step_ahead whole d.circuit r.settling found.0 (known d.s d.circuit d.is.section_is) (some d.s d.circuit d.is.section_is)
        (is.each d.s d.circuit found.0 d.is.section_is found.1) r.at t d.i d.k d.same d.instance
        (omega (arith, long, inside)) (omega (arith, sooner, past))
        (inputs_keep t d.s d.circuit found.0 d.is.section_is found.1 (omega (arith, inside)) before)
        d.is.net_is d.driven d.instance_is d.slow d.asserts (constraints d.s d.circuit found.0 d.is.section_is found.1))

    kept_before : (t : ℕ) → KeptBefore t
    kept_before zero u u1 below inside = absurd (omega (arith, u1, below))
    kept_before (suc t) u u1 below inside = elim (cases_lt u t) [
      | inl sooner ↦ kept_before t u u1 sooner inside
      | inr later ↦
          let last : u ≡ t = omega (arith, below, later) in
          elim (cases_lt T u) [
            | inl past ↦ step u past inside (subst KeptBefore (sym last) (kept_before t))
            | inr within ↦ early u u1 within inside
          ]
    ]

    -- ---- nothing breaks

    unbroken : (s : ℕ) (c : Circuit) (run : Run) → slice_get whole s ≡ Some c → slice_get runs s ≡ Some run → ¬ Breaks c run T
    unbroken s c run at run_at broken = elim broken as (λ _. ⊥) [
      | by_instance k b ↦ no_instance_breaks c run ws [] v T pos circuit long (constraints s c run at run_at) isrun permits v1 far k refl b
      | by_pulse k level b ↦
          keeps_widths c ws [] pos circuit long (sym (no_faults c ws r.clean).1) run k level T refl
          (all_pins_permit c run ws k v T pos circuit long isrun permits v1 far) b
      | by_net i b ↦ no_net_breaks c run ws [] v T pos circuit long (constraints s c run at run_at) isrun permits v1 far i refl b
    ]
      where
        r : SettlesClean whole T c
        r = settlings s c at

        ws : Waves
        ws = r.settling.waves

        v : ℕ
        v = r.settling.rounds * reach c + 1

        pos : 0 < period c.header
        pos = some s c at

        circuit : IsCircuit c
        circuit = known s c at

        isrun : IsRun c run
        isrun = is.each s c run at run_at

        long : AreLong c ws
        long = settling_long whole c r.settling run circuit pos isrun r.at

        all : run.ticks ≡ ticks
        all = is.long s run run_at

        permits : PermitRun c run ws v
        permits =
            settling_permits whole c r.settling run circuit pos isrun r.at run.ticks (omega arith)
            (inputs_keep run.ticks s c run at run_at (omega (arith, all)) (kept_before run.ticks))

        v1 : 1 ≤ v
        v1 = omega arith

        far : v + reach c ≤ T + 1
        far = let sooner = r.sooner in printed_far r.settling.rounds (reach c) T sooner

    pub keeps_on : KeepsOn whole runs ticks T
    keeps_on = record {
      kept = λ t past inside. kept_before (suc t) t (omega (arith, past)) (omega arith) inside;
      unbroken = unbroken;
    }

  -- If sections without a fault are joined, nothing of the whole breaks.
  pub never_breaks : NeverBreaksWhole whole T
  never_breaks runs ticks is early = keeps_on runs ticks is early
