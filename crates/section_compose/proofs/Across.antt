-- The waves with which a section begins: one of the period for each net, which permits what its inputs do
-- and what comes from other sections, as long as that keeps its assertions.
use Rattle.std.proofs.Common.{◌≡◌, ℕ, ◌-◌, ◌%◌, ◌<◌, ◌≤◌, Bool, true, false, List, length, slice_get}
use Rattle.std.proofs.Common.{refl, sym, ap, subst, ◌∙◌, arith, inl, inr, Option, Some, None}
use Rattle.std.specs.Prelude.{slice_index_or}
use Rattle.std.proofs.lemmas.Option.{slice_get_cases}
use Rattle.scald_base.proofs.Back.{back_zero}
use Rattle.scald_base.specs.Time.{Header, period}
use Rattle.scald_base.specs.Signal.{Signal}
use Rattle.scald_base.specs.declared.assertion.AssertSpec.{AssertSpec}
use Rattle.step_values.specs.declared.value.Value.{Value}
use Rattle.step_values.specs.Steps.{has}
use Rattle.step_values.specs.Cell.{values}
use Rattle.wave_core.specs.Slots.{earlier}
use Rattle.wave_core.proofs.Slots.{length_slots}
use Rattle.step_values.specs.Lawful.{values_lawful}
use Rattle.skew_algebra.specs.Wave.{Wave, cell_at, fold, skewed}
use Rattle.skew_algebra.specs.Permits.{Permits}
use Rattle.skew_algebra.proofs.Moves.{Permits_normal}
use Rattle.skew_algebra.proofs.Normal.{length_normal}
use Rattle.flat_circuit.specs.declared.net.Net.{Net}
use Rattle.flat_circuit.specs.Circuit.{Circuit}
use Rattle.flat_circuit.specs.Run.{Run, net_signal}
use Rattle.pin_waves.specs.Interface.{interface_wave, wide_wave}
use Rattle.pin_waves.specs.Meets.{Meets}
use Rattle.pin_waves.proofs.Asserted.{length_interface}
use Rattle.fixpoint_engine.specs.Interface.{PermitFront}
use Rattle.fixpoint_engine.proofs.Fits.{AreLong}
use Rattle.fixpoint_engine.specs.Start.{start_in}
use Rattle.case_analysis.proofs.Start.{Permits_started, start_long}
use Rattle.point_check.specs.Break.{KeepsAssertion}
use Rattle.section_compose.specs.Evaluated.{across, comes_in, section_start, start_with, wave_across, wave_in}
use Rattle.section_compose.specs.Globals.{crosses_into}

pub length_wide : (h : Header) (a : AssertSpec) → length (wide_wave h a) ≡ period h
length_wide h a = length_slots (length (interface_wave h a).cells) (fold values (interface_wave h a)) ∙ length_interface h a

-- without an offset, each tick has the cell of its slot
earlier_here : (h : Header) (a : AssertSpec) (t : ℕ) → earlier values (wide_wave h a) t 0 ≡ cell_at values (wide_wave h a) (t % period h)
unfolding earlier
earlier_here h a t =
    ap (λ (s : ℕ). slice_index_or (wide_wave h a) s values.any)
    (back_zero (length (wide_wave h a)) t ∙ ap (λ (p : ℕ). t % p) (length_wide h a))

length_across : (h : Header) (a : AssertSpec) → length (wave_across h a).cells ≡ period h
length_across h a = length_normal values (skewed (wide_wave h a) 0) ∙ length_wide h a

-- A net that keeps its assertion at each of its ticks is permitted by the wide wave, which has no skew.
pub across_permits : (h : Header) (a : AssertSpec) (n : ℕ) (x : Signal) → 0 < period h →
    ((t : ℕ) → 1 ≤ t → t < n → KeepsAssertion h a x t) → Permits values (wave_across h a) n x 1
across_permits h a n x some keeps =
    Permits_normal values values_lawful (skewed (wide_wave h a) 0) (let long = length_wide h a in omega (arith, long, some)) n 1 x (record {
      offset = 0;
      within = omega arith;
      steps = λ t t1 tv tn. ap (λ (v : Value). has v (x (t - 1)) (x t)) (earlier_here h a t) ∙ keeps t t1 tn;
    })

-- ---- all nets

-- what the inputs of a section do, and what comes from other sections, in the first n ticks of a run
pub record InputsKeep (whole : List Circuit) (c : Circuit) (run : Run) (n : ℕ) : Type 0 where
  pub alone : (i : ℕ) (net : Net) → slice_get c.nets i ≡ Some net → net.driver ≡ None →
      crosses_into whole net ≡ false → Meets c.header net.spec n (net_signal run i)
  pub across : (i : ℕ) (net : Net) → slice_get c.nets i ≡ Some net → crosses_into whole net ≡ true →
      (t : ℕ) → 1 ≤ t → t < n → KeepsAssertion c.header net.spec (net_signal run i) t

start_of : (c : Circuit) (across : ℕ → Bool) (i : ℕ) (net : Net) → slice_get c.nets i ≡ Some net →
    start_with c across i ≡ wave_in c.header (across i) (Some net) (start_in c.header (Some net))
start_of c across i net is = λ k. wave_in c.header (across i) (is k) (start_in c.header (is k))

pub start_with_long : (c : Circuit) (across : ℕ → Bool) → AreLong c (start_with c across)
start_with_long c across i below = elim (slice_get_cases c.nets i).1 [
  | inl found ↦
      ap (λ (w : Wave Value). length w.cells) (start_of c across i found.0 found.2)
      ∙ by (across i) found.0 found.2
  | inr past ↦ absurd (let far = past.0 in omega (arith, far))
]
  where
    by : (b : Bool) (net : Net) → slice_get c.nets i ≡ Some net →
        length (wave_in c.header b (Some net) (start_in c.header (Some net))).cells ≡ period c.header
    by true net is = length_across c.header net.spec
    by false net is = ap (λ (o : Option Net). length (start_in c.header o).cells) (sym is) ∙ start_long c i below

pub section_start_long : (whole : List Circuit) (c : Circuit) → AreLong c (section_start whole c)
section_start_long whole c = start_with_long c (across whole c)

pub section_start_permits : (whole : List Circuit) (c : Circuit) (run : Run) (n : ℕ) → 0 < period c.header →
    InputsKeep whole c run n → PermitFront c run n (section_start whole c) 1
section_start_permits whole c run n some inputs i below = elim (slice_get_cases c.nets i).1 [
  | inl found ↦
      subst (λ (w : Wave Value). Permits values w n (net_signal run i) 1)
      (sym (start_of c (across whole c) i found.0 found.2 ∙ ap (λ (o : Option Net). wave_in c.header (comes_in whole o) (Some found.0) (start_in c.header (Some found.0))) found.2))
      (by (crosses_into whole found.0) found.0 found.2 refl)
  | inr past ↦ absurd (let far = past.0 in omega (arith, far))
]
  where
    by : (b : Bool) (net : Net) → slice_get c.nets i ≡ Some net → crosses_into whole net ≡ b →
        Permits values (wave_in c.header b (Some net) (start_in c.header (Some net))) n (net_signal run i) 1
    by true net is into = across_permits c.header net.spec n (net_signal run i) some (inputs.across i net is into)
    by false net is into =
        Permits_started c.header net.spec net.driver n (net_signal run i) some
        (λ undriven. inputs.alone i net is undriven into)
