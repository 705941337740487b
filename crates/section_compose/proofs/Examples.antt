-- The premise of sections that are joined can be met: two registers in a ring of two sections, whose
-- outputs cross, and a run of the whole in which all of its nets are 0 throughout.
use Rattle.std.proofs.Common.{◌≡◌, ℕ, zero, suc, ◌+◌, ◌-◌, ◌%◌, Bool, true, false, List, [], ◌∷◌, slice_get, replicate}
use Rattle.std.proofs.Common.{codes, refl, sym, ap, subst, ◌∙◌, true≢false, Option, Some, None}
use Prim.Native.String.{String}
use Rattle.std.specs.Prelude.{slice_index_or}
use Rattle.std.specs.List.{list_all}
use Rattle.std.proofs.lemmas.Bool.{and_parts}
use Rattle.scald_base.specs.Clock.{back}
use Rattle.scald_base.specs.Time.{Header}
use Rattle.scald_base.specs.declared.assertion.AssertSpec.{AssertSpec}
use Rattle.scald_base.specs.declared.assertion.AssertSpec.TheVariants.{Precision, Stable}
use Rattle.step_values.specs.declared.value.Value.{Value}
use Rattle.step_values.specs.declared.value.Value.TheVariants.{U}
use Rattle.step_values.specs.Steps.{has}
use Rattle.wave_core.specs.Slots.{earlier}
use Rattle.skew_algebra.specs.Wave.{normal}
use Rattle.element_kinds.specs.declared.kind.Kind.TheVariants.{Reg, SetupHold}
use Rattle.flat_circuit.specs.declared.limits.Limits.TheVariants.{Edges}
use Rattle.flat_circuit.specs.declared.net.Net.{Net}
use Rattle.flat_circuit.specs.Circuit.{Circuit}
use Rattle.flat_circuit.specs.Run.{Run, IsRun, net_signal}
use Rattle.flat_circuit.proofs.RunTables.{bounds, checker, element, late, on}
use Rattle.flat_circuit.proofs.RunTest.{run_tells}
use Rattle.pin_waves.specs.Interface.{wide_wave}
use Rattle.pin_waves.specs.Meets.{Meets}
use Rattle.fixpoint_engine.specs.Interface.{MeetsInterface}
use Rattle.point_check.specs.Break.{KeepsAssertion, wide_at}
use Rattle.fixpoint_engine.proofs.Tables.{inputs_is}
use Rattle.section_compose.specs.Globals.{crosses}
use Rattle.section_compose.specs.OneNet.{IsNetOf}
use Rattle.section_compose.specs.Whole.{CrossingsKeep, IsRunOfWhole, bits_of}

-- ---- two sections

abbrev header : Header
header = record { units = 8; ticks = 50; wire = bounds 0 0; pskew = (0, 0); cskew = (0, 0) }

abbrev clock : ℕ → AssertSpec
clock unit = Precision (record { spans = record { lo = unit; hi = unit + 1 } ∷ []; skew = None; low = false })

-- stable but in unit 2
abbrev still : AssertSpec
still = Stable (record { lo = 3; hi = 2 } ∷ [])

abbrev net : String → AssertSpec → Option ℕ → Net
net name spec driver = record { name = codes name; bit = 0; spec = spec; wire = bounds 0 0; driver = driver }

abbrev first : Circuit
first = record {
  header = header;
  nets = net "/CK" (clock 2) None ∷ net "/B" still None ∷ net "/A" still (Some 0) ∷ [];
  instances = element Reg (bounds 5 15) (on 0 ∷ on 1 ∷ []) 2 ∷ [];
  order = 2 ∷ 1 ∷ 0 ∷ [];
}

abbrev second : Circuit
second = record {
  header = header;
  nets = net "/CK" (clock 2) None ∷ net "/A" still None ∷ net "/B" still (Some 0) ∷ net "/K" (clock 5) None ∷ [];
  instances =
      element Reg (bounds 5 15) (on 0 ∷ on 1 ∷ []) 2
      ∷ record (checker SetupHold (on 3 ∷ on 1 ∷ [])) { limits = Edges 20 5 } ∷ [];
  order = 1 ∷ 2 ∷ 0 ∷ 3 ∷ [];
}

abbrev whole : List Circuit
whole = first ∷ second ∷ []

-- ---- a run of 40 ticks, past 32, which is the tick that is printed for both

abbrev zeros : List Bool
zeros = replicate 40 false

abbrev first_run : Run
first_run = record { ticks = 40; choices = late 5 (0 ∷ 0 ∷ []) ∷ []; bits = zeros ∷ zeros ∷ zeros ∷ [] }

abbrev second_run : Run
second_run = record {
  ticks = 40;
  choices = late 5 (0 ∷ 0 ∷ []) ∷ late 0 (0 ∷ 0 ∷ []) ∷ [];
  bits = zeros ∷ zeros ∷ zeros ∷ zeros ∷ [];
}

abbrev runs : List Run
runs = first_run ∷ second_run ∷ []

first_is_run : IsRun first first_run
first_is_run = (run_tells first first_run).0 refl

second_is_run : IsRun second second_run
second_is_run = (run_tells second second_run).0 refl

first_meets : MeetsInterface first first_run
unfolding back
first_meets = inputs_is first first_run refl

second_meets : MeetsInterface second second_run
unfolding back
second_meets = inputs_is second second_run refl

-- what holds of both sections and of their runs
both : (P : Circuit → Run → Type 0) → P first first_run → P second second_run → (s : ℕ) (c : Circuit) (run : Run) →
    slice_get whole s ≡ Some c → slice_get runs s ≡ Some run → P c run
both P one two zero c run is at =
    let circuit : first ≡ c = cc in
    let same : first_run ≡ run = cc in
    subst (λ (x : Circuit). P x run) circuit (subst (P first) same one)
both P one two (suc zero) c run is at =
    let circuit : second ≡ c = cc in
    let same : second_run ≡ run = cc in
    subst (λ (x : Circuit). P x run) circuit (subst (P second) same two)
both P one two (suc (suc s)) c run is at = absurd (cc)

bits_first : (i : ℕ) (found : Net) → slice_get first.nets i ≡ Some found → slice_index_or first_run.bits i [] ≡ zeros
bits_first zero found is = refl
bits_first (suc zero) found is = refl
bits_first (suc (suc zero)) found is = refl
bits_first (suc (suc (suc i))) found is = absurd (cc)

bits_second : (i : ℕ) (found : Net) → slice_get second.nets i ≡ Some found → slice_index_or second_run.bits i [] ≡ zeros
bits_second zero found is = refl
bits_second (suc zero) found is = refl
bits_second (suc (suc zero)) found is = refl
bits_second (suc (suc (suc zero))) found is = refl
bits_second (suc (suc (suc (suc i)))) found is = absurd (cc)

-- each net is 0 throughout
all_zero : (s i : ℕ) (c : Circuit) (found : Net) → IsNetOf whole s i c found → bits_of runs s i ≡ zeros
all_zero zero i c found of =
    let circuit : c ≡ first = cc (of.section_is) in
    bits_first i found (sym (ap (λ (x : Circuit). slice_get x.nets i) circuit) ∙ of.net_is)
all_zero (suc zero) i c found of =
    let circuit : c ≡ second = cc (of.section_is) in
    bits_second i found (sym (ap (λ (x : Circuit). slice_get x.nets i) circuit) ∙ of.net_is)
all_zero (suc (suc s)) i c found of = absurd (cc (of.section_is))

pub is_run_of_whole : IsRunOfWhole whole runs 40
is_run_of_whole = record {
  sections = refl;
  each = both IsRun first_is_run second_is_run;
  long = long;
  one_net = λ s i s' i' c c' found other of of' one. all_zero s i c found of ∙ sym (all_zero s' i' c' other of');
  inputs = λ s i c found run of at undriven apart.
      meets s c run of.section_is at i found of.net_is undriven;
}
  where
    long : (s : ℕ) (run : Run) → slice_get runs s ≡ Some run → run.ticks ≡ 40
    long zero run is = let same : first_run ≡ run = cc in ap (λ (r : Run). r.ticks) (sym same)
    long (suc zero) run is = let same : second_run ≡ run = cc in ap (λ (r : Run). r.ticks) (sym same)
    long (suc (suc s)) run is = absurd (cc)

    meets : (s : ℕ) (c : Circuit) (run : Run) (is : slice_get whole s ≡ Some c) (at : slice_get runs s ≡ Some run) (i : ℕ) (found : Net) →
        slice_get c.nets i ≡ Some found → found.driver ≡ None → Meets c.header found.spec 40 (net_signal run i)
    meets s c run is at i found net_is undriven =
        subst (λ (n : ℕ). Meets c.header found.spec n (net_signal run i)) (long s run at)
        (both MeetsInterface first_meets second_meets s c run is at i found net_is undriven)

-- ---- both nets that cross keep their assertions at every tick

-- a net that stays at 0 is permitted by each value of the wave
keeps_zero : list_all (λ v. has v false false) (wide_wave header still) ≡ true
unfolding normal earlier back
keeps_zero = refl

at_each : (cells : List Value) (s : ℕ) → list_all (λ v. has v false false) cells ≡ true → has (slice_index_or cells s U) false false ≡ true
at_each [] s all = refl
at_each (v ∷ cells) zero all = (and_parts (has v false false) (list_all (λ v. has v false false) cells) all).0
at_each (v ∷ cells) (suc s) all = at_each cells s (and_parts (has v false false) (list_all (λ v. has v false false) cells) all).1

-- the signal of 0s
zero_at : (n t : ℕ) → slice_index_or (replicate n false) t false ≡ false
zero_at zero t = refl
zero_at (suc n) zero = refl
zero_at (suc n) (suc t) = zero_at n t

keeps_at : (bits : List Bool) (t : ℕ) → bits ≡ zeros → KeepsAssertion header still (λ u. slice_index_or bits u false) t
keeps_at bits t are =
    (λ k. has (wide_at header still t) (nothing (t - 1) k) (nothing t k)) ∙ at_each (wide_wave header still) (t % 400) keeps_zero
  where
    nothing : (u : ℕ) → slice_index_or bits u false ≡ false
    nothing u = ap (λ (b : List Bool). slice_index_or b u false) are ∙ zero_at 40 u

-- which of the nets cross: A and B, and the clocks do not, since no section drives them
crossing_first : (i : ℕ) (found : Net) → slice_get first.nets i ≡ Some found → crosses whole found ≡ true → found.spec ≡ still
crossing_first zero found is crossing =
    let same : net "/CK" (clock 2) None ≡ found = cc in
    absurd (true≢false (sym crossing ∙ sym (ap (crosses whole) same)))
crossing_first (suc zero) found is crossing =
    let same : net "/B" still None ≡ found = cc in ap (λ (n : Net). n.spec) (sym same)
crossing_first (suc (suc zero)) found is crossing =
    let same : net "/A" still (Some 0) ≡ found = cc in ap (λ (n : Net). n.spec) (sym same)
crossing_first (suc (suc (suc i))) found is crossing = absurd (cc)

crossing_second : (i : ℕ) (found : Net) → slice_get second.nets i ≡ Some found → crosses whole found ≡ true → found.spec ≡ still
crossing_second zero found is crossing =
    let same : net "/CK" (clock 2) None ≡ found = cc in
    absurd (true≢false (sym crossing ∙ sym (ap (crosses whole) same)))
crossing_second (suc zero) found is crossing =
    let same : net "/A" still None ≡ found = cc in ap (λ (n : Net). n.spec) (sym same)
crossing_second (suc (suc zero)) found is crossing =
    let same : net "/B" still (Some 0) ≡ found = cc in ap (λ (n : Net). n.spec) (sym same)
crossing_second (suc (suc (suc zero))) found is crossing =
    let same : net "/K" (clock 5) None ≡ found = cc in
    absurd (true≢false (sym crossing ∙ sym (ap (crosses whole) same)))
crossing_second (suc (suc (suc (suc i)))) found is crossing = absurd (cc)

pub premise_is_met : (t : ℕ) → CrossingsKeep whole runs t
premise_is_met t zero i c found run of at crossing =
    let circuit : first ≡ c = cc (of.section_is) in
    let same : first_run ≡ run = cc in
    let here : slice_get first.nets i ≡ Some found = ap (λ (x : Circuit). slice_get x.nets i) circuit ∙ of.net_is in
    subst (λ (x : Circuit). KeepsAssertion x.header found.spec (net_signal run i) t) circuit
    (subst (λ (r : Run). KeepsAssertion header found.spec (net_signal r i) t) same
    (subst (λ (spec : AssertSpec). KeepsAssertion header spec (net_signal first_run i) t) (sym (crossing_first i found here crossing))
    (keeps_at (slice_index_or first_run.bits i []) t (bits_first i found here))))
premise_is_met t (suc zero) i c found run of at crossing =
    let circuit : second ≡ c = cc (of.section_is) in
    let same : second_run ≡ run = cc in
    let here : slice_get second.nets i ≡ Some found = ap (λ (x : Circuit). slice_get x.nets i) circuit ∙ of.net_is in
    subst (λ (x : Circuit). KeepsAssertion x.header found.spec (net_signal run i) t) circuit
    (subst (λ (r : Run). KeepsAssertion header found.spec (net_signal r i) t) same
    (subst (λ (spec : AssertSpec). KeepsAssertion header spec (net_signal second_run i) t) (sym (crossing_second i found here crossing))
    (keeps_at (slice_index_or second_run.bits i []) t (bits_second i found here))))
premise_is_met t (suc (suc s)) i c found run of at crossing = absurd (cc (of.section_is))
