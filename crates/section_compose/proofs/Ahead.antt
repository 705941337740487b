-- A section that sees what comes into it up to a tick makes its driven nets' steps at the next.
use Rattle.std.proofs.Common.{◌≡◌, ℕ, ◌+◌, ◌-◌, ◌*◌, ◌<◌, ◌≤◌, Bool, true, false, cond, List}
use Rattle.std.proofs.Common.{[], slice_get, refl, sym, ap, subst, ◌∙◌, arith, Option, Some}
use Rattle.std.specs.Prelude.{is_some}
use Rattle.scald_base.specs.Time.{period}
use Rattle.scald_base.specs.declared.assertion.AssertSpec.{AssertSpec}
use Rattle.scald_base.specs.declared.assertion.AssertSpec.TheVariants.{None as Unasserted, Precision, Clock, Stable}
use Rattle.step_values.specs.declared.value.Value.{Value}
use Rattle.step_values.specs.Steps.{has}
use Rattle.step_values.specs.Cell.{values}
use Rattle.skew_algebra.specs.Wave.{Wave}
use Rattle.skew_algebra.specs.Permits.{Permits}
use Rattle.flat_circuit.specs.declared.instance.Instance.{Instance}
use Rattle.flat_circuit.specs.declared.net.Net.{Net}
use Rattle.flat_circuit.specs.Builder.{is_asserted}
use Rattle.flat_circuit.specs.Circuit.{Circuit, IsCircuit, driver_at, driver_in}
use Rattle.flat_circuit.specs.Run.{Run, IsRun, net_signal}
use Rattle.fixpoint_engine.specs.Interface.{PermitFront}
use Rattle.fixpoint_engine.specs.Waves.{Waves}
use Rattle.fixpoint_engine.proofs.Fits.{AreLong}
use Rattle.fixpoint_engine.specs.Reach.{reach}
use Rattle.fixpoint_engine.specs.Rounds.{evaluated, next, round}
use Rattle.fixpoint_engine.specs.Start.{is_driven}
use Rattle.fixpoint_engine.proofs.Reached.{round_next}
use Rattle.fixpoint_engine.proofs.Sound.{driver_permits_ahead, round_long, round_sound_front}
use Rattle.point_check.specs.Break.{Asserts, BreaksNet, KeepsAssertion, wide_at}
use Rattle.point_check.specs.Sound.{KeepsConstraints}
use Rattle.section_compose.specs.Evaluated.{IsSettled, Settling, section_start, tick_of}
use Rattle.section_compose.proofs.Across.{InputsKeep, section_start_long, section_start_permits}

-- the run up to so many ticks
abbrev until : ℕ → Run → Run
until n run = record run { ticks = n }

-- a round and a reach past the settled waves lies the printed tick
printed_after : (rounds n : ℕ) → rounds * n + 1 + n ≡ (rounds + 0 + 1) * n + 1
printed_after rounds n = omega arith

is_true : (b : Bool) → (b ≡ false → ⊥) → b ≡ true
is_true true never = refl
is_true false never = absurd (never refl)

asserts_of : (spec : AssertSpec) → is_asserted spec ≡ true → Asserts spec
asserts_of Unasserted e = cc
asserts_of (Precision c) e = tt
asserts_of (Clock c) e = tt
asserts_of (Stable spans) e = tt

next_driven : (c : Circuit) (ws : Waves) (i k : ℕ) → driver_at c.nets i ≡ Some k → next c (is_driven c) ws i ≡ evaluated c ws i
unfolding next
next_driven c ws i k driven = ap (λ (o : Option ℕ). cond (is_some o) (evaluated c ws i) (ws i)) driven

module _ (whole : List Circuit) (c : Circuit) (settling : Settling) (run : Run) (known : IsCircuit c) (some : 0 < period c.header)
    (isrun : IsRun c run) (at : IsSettled whole c settling) where
  waves_are : settling.waves ≡ round c (is_driven c) (section_start whole c) settling.rounds
  waves_are = λ k i. at.waves i k

  pub settling_long : AreLong c settling.waves
  settling_long =
      subst (AreLong c) (sym waves_are)
      (round_long c (is_driven c) (section_start whole c) settling.rounds some known (section_start_long whole c))

  -- The settled waves permit the first n ticks, if what comes in keeps its assertions in them.
  pub settling_permits : (n : ℕ) → n ≤ run.ticks → InputsKeep whole c run n →
      PermitFront c run n settling.waves (settling.rounds * reach c + 1)
  settling_permits n inside inputs =
      let later : 1 + settling.rounds * reach c ≡ settling.rounds * reach c + 1 = omega arith in
      subst (λ (v : ℕ). PermitFront c run n settling.waves v) later
      (subst (λ (ws : Waves). PermitFront c run n ws (1 + settling.rounds * reach c)) (sym waves_are)
      (round_sound_front c (is_driven c) (section_start whole c) settling.rounds some known (section_start_long whole c)
      run n 1 isrun inside (omega arith) (section_start_permits whole c run n some inputs)))

  -- a driven net's settled wave is what its driver makes of the settled waves
  settling_evaluated : (i k : ℕ) → driver_at c.nets i ≡ Some k → settling.waves i ≡ evaluated c settling.waves i
  settling_evaluated i k driven =
      at.waves i ∙ sym (at.settles.still i)
      ∙ round_next c (is_driven c) (section_start whole c) settling.rounds i
      ∙ next_driven c (round c (is_driven c) (section_start whole c) settling.rounds) i k driven
      ∙ (λ j. evaluated c (sym waves_are j) i)

  -- A net whose driver takes a tick at least keeps its assertion at a tick past the printed one, if
  -- what comes in keeps its assertions before that tick, and the section has no fault.
  pub step_ahead : (t i k : ℕ) (net : Net) (j : Instance) → t < run.ticks → tick_of c settling < t → InputsKeep whole c run t →
      slice_get c.nets i ≡ Some net → net.driver ≡ Some k → slice_get c.instances k ≡ Some j → 1 ≤ j.delay.min →
      is_asserted net.spec ≡ true → KeepsConstraints c settling.waves [] →
      KeepsAssertion c.header net.spec (net_signal run i) t
  step_ahead t i k net j inside past inputs net_is driver_is instance_is slow asserted keeps =
      is_true (has (wide_at c.header net.spec t) (net_signal run i (t - 1)) (net_signal run i t))
      (λ lacks. keeps.nets (until (t + 1) run) i (tick_of c settling + 1) refl permits (broken lacks))
    where
      driven : driver_at c.nets i ≡ Some k
      driven = ap driver_in net_is ∙ driver_is

      made : Permits values (evaluated c settling.waves i) (t + 1) (net_signal run i) (settling.rounds * reach c + 1 + reach c)
      made =
          driver_permits_ahead c run settling.waves i k j t (t + 1) (settling.rounds * reach c + 1) some known isrun settling_long driven instance_is
          (settling_permits t (omega (arith, inside)) inputs) (omega arith) (omega (arith, slow)) (omega (arith, inside))

      printed : settling.rounds * reach c + 1 + reach c ≡ tick_of c settling + 1
      printed = printed_after settling.rounds (reach c)

      permits : Permits values (settling.waves i) (t + 1) (net_signal run i) (tick_of c settling + 1)
      permits =
          subst (λ (w : Wave Value). Permits values w (t + 1) (net_signal run i) (tick_of c settling + 1)) (sym (settling_evaluated i k driven))
          (subst (λ (v : ℕ). Permits values (evaluated c settling.waves i) (t + 1) (net_signal run i) v) printed made)

      broken : has (wide_at c.header net.spec t) (net_signal run i (t - 1)) (net_signal run i t) ≡ false →
          BreaksNet c (until (t + 1) run) i (tick_of c settling + 1)
      broken lacks = record {
        net = net;
        driver = k;
        tick = t;
        at = record {
          net_is = net_is;
          is_driven = driver_is;
          asserts = asserts_of net.spec asserted;
          after = omega (arith, past);
          begins = omega (arith, past);
          ends = omega arith;
          lacks = lacks;
        };
      }
