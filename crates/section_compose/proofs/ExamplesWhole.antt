-- A whole that moves: a register in one section, whose output crosses into another, where a checker
-- looks at it. Which runs are its own, which of them keep on, and when it breaks, worked out on
-- paper.
use Rattle.std.proofs.Common.{◌≡◌, ℕ, zero, suc, ◌+◌, ◌-◌, ◌≤◌, Bool, true, false, List, [], ◌∷◌, slice_get, codes, refl, sym, ap, subst, arith, ◌∙◌, true≢false, Option, Some, None}
use Rattle.std.proofs.lemmas.Bool.{false≢true}
use Prim.Native.String.{String}
use Rattle.std.specs.Prelude.{slice_index_or}
use Rattle.std.proofs.lemmas.Option.{same_Some}
use Rattle.scald_base.specs.Clock.{back}
use Rattle.scald_base.specs.declared.assertion.AssertSpec.{AssertSpec}
use Rattle.scald_base.specs.declared.assertion.AssertSpec.TheVariants.{Precision, Stable}
use Rattle.wave_core.specs.Slots.{earlier}
use Rattle.skew_algebra.specs.Wave.{normal}
use Rattle.step_values.specs.Steps.{has}
use Rattle.element_kinds.specs.declared.kind.Kind.TheVariants.{Reg, SetupHold}
use Rattle.element_kinds.specs.Kinds.{checks_pulses}
use Rattle.flat_circuit.specs.declared.instance.Instance.{Instance}
use Rattle.flat_circuit.specs.declared.limits.Limits.TheVariants.{Edges}
use Rattle.flat_circuit.specs.declared.net.Net.{Net}
use Rattle.flat_circuit.specs.Name.{Name}
use Rattle.flat_circuit.specs.Circuit.{Circuit}
use Rattle.flat_circuit.specs.Run.{Run, Choice, IsRun, net_signal}
use Rattle.flat_circuit.proofs.RunTables.{bits, bounds, checker, element, header, late, on}
use Rattle.flat_circuit.proofs.RunTest.{run_tells}
use Rattle.pin_waves.specs.Meets.{Meets}
use Rattle.pin_waves.proofs.Kept.{meets_is}
use Rattle.pin_waves.proofs.Tests.{all_below, each_passes}
use Rattle.point_check.specs.Break.{BreaksInstance, BreaksKind, BreaksNet, KeepsAssertion, wide_at}
use Rattle.point_check.proofs.Literal.{found, no_driver, no_net, no_setup_hold, no_such_net}
use Rattle.pulse_check.specs.Break.{BreaksMeasured}
use Rattle.timing_analysis.specs.Promise.{Breaks, by_instance, by_net, by_pulse}
use Rattle.section_compose.specs.Globals.{begins_with_slash, crosses, crosses_into, is_global}
use Rattle.section_compose.specs.OneNet.{IsNetOf}
use Rattle.section_compose.specs.Whole.{CrossingsKeep, IsRunOfWhole, KeepsOn, NeverBreaksWhole, bits_of}

-- ---- two sections

-- quiet in the slots between two ticks
abbrev still : ℕ → ℕ → AssertSpec
still lo hi = Stable (record { lo = lo; hi = hi } ∷ [])

abbrev net : String → AssertSpec → Option ℕ → Net
net name spec driver =
    record { name = codes name; bit = 0; spec = spec; wire = bounds 0 0; driver = driver }

-- high in the slots 2 and 3
abbrev clock : Net
clock =
    net "CK"
    (Precision (record { spans = record { lo = 2; hi = 4 } ∷ []; skew = None; low = false })) None

-- each section has one of this name, which are two nets
abbrev local : Net
local = net "D" (still 2 6) None

abbrev register : Instance
register = element Reg (bounds 2 2) (on 0 ∷ on 1 ∷ []) 2

abbrev checked : ℕ → Instance
checked hold = record (checker SetupHold (on 0 ∷ on 2 ∷ [])) { limits = Edges 1 hold }

abbrev source : AssertSpec → Circuit
source spec = record {
  header = header;
  nets = clock ∷ local ∷ net "/Q" spec (Some 0) ∷ [];
  instances = register ∷ [];
  order = 2 ∷ 0 ∷ 1 ∷ [];
}

abbrev sink : AssertSpec → ℕ → Circuit
sink spec hold = record {
  header = header;
  nets = clock ∷ local ∷ net "/Q" spec None ∷ [];
  instances = checked hold ∷ [];
  order = 2 ∷ 0 ∷ 1 ∷ [];
}

abbrev whole : AssertSpec → ℕ → List Circuit
whole spec hold = source spec ∷ sink spec hold ∷ []

-- where /Q asserts the one it may change in the slots 3 to 5, and where it asserts the other in all
-- but these
abbrev wide : AssertSpec
wide = still 5 3

abbrev narrow : AssertSpec
narrow = still 2 6

-- ---- five ticks: the clock rises at tick 2, and /Q at tick 4, which is the last

abbrev ck : List Bool
ck = bits "00110"

abbrev q : List Bool
q = bits "00001"

abbrev two_wires : Choice
two_wires = late 0 (0 ∷ 0 ∷ [])

abbrev source_run : List Bool → List Bool → Run
source_run d out =
    record { ticks = 5; choices = late 2 (0 ∷ 0 ∷ []) ∷ []; bits = ck ∷ d ∷ out ∷ [] }

abbrev sink_run : List Bool → Run
sink_run seen = record { ticks = 5; choices = two_wires ∷ []; bits = ck ∷ bits "00000" ∷ seen ∷ [] }

abbrev runs_of : List Bool → List Bool → List Bool → List Run
runs_of d out seen = source_run d out ∷ sink_run seen ∷ []

abbrev of_source : Run
of_source = source_run (bits "01111") q

abbrev of_sink : Run
of_sink = sink_run q

abbrev runs : List Run
runs = of_source ∷ of_sink ∷ []

source_is_run : (spec : AssertSpec) → IsRun (source spec) of_source
source_is_run spec = (run_tells (source spec) of_source).0 refl

sink_is_run : (spec : AssertSpec) (hold : ℕ) → IsRun (sink spec hold) of_sink
sink_is_run spec hold = (run_tells (sink spec hold) of_sink).0 refl

clock_meets : Meets header clock.spec 5 (λ t. slice_index_or ck t false)
unfolding back
clock_meets = meets_is header clock.spec 5 (λ t. slice_index_or ck t false) refl

changes_meets : Meets header local.spec 5 (λ t. slice_index_or (bits "01111") t false)
unfolding back
changes_meets = meets_is header local.spec 5 (λ t. slice_index_or (bits "01111") t false) refl

stays_meets : Meets header local.spec 5 (λ t. slice_index_or (bits "00000") t false)
unfolding back
stays_meets = meets_is header local.spec 5 (λ t. slice_index_or (bits "00000") t false) refl

-- ---- each section and each of its nets

two : {A : Type 0} (P : ℕ → A → Type 0) (a b : A) → P 0 a → P 1 b → (s : ℕ) (x : A) →
    slice_get (a ∷ b ∷ []) s ≡ Some x → P s x
two P a b pa pb zero x is = subst (P 0) (same_Some a x is) pa
two P a b pa pb (suc zero) x is = subst (P 1) (same_Some b x is) pb
two P a b pa pb (suc (suc s)) x is = absurd (cc)

three : {A : Type 0} (P : ℕ → A → Type 0) (a b c : A) → P 0 a → P 1 b → P 2 c → (i : ℕ) (x : A) →
    slice_get (a ∷ b ∷ c ∷ []) i ≡ Some x → P i x
three P a b c pa pb pc zero x is = subst (P 0) (same_Some a x is) pa
three P a b c pa pb pc (suc i) x is = two (λ j. P (suc j)) b c pb pc i x is

-- the bits of net i, if there is a run
abbrev row_in : ℕ → Option Run → List Bool
row_in i r = elim r as (λ r. List Bool) [ None ↦ [] | Some run ↦ slice_index_or run.bits i [] ]

no_truth : {A : Type 0} → false ≡ true → A
no_truth h = absurd (false≢true h)

module _ (spec : AssertSpec) (hold : ℕ) where
  -- what holds of both sections and of their runs
  of_both : (P : Circuit → Run → Type 0) → P (source spec) of_source → P (sink spec hold) of_sink →
      (s : ℕ) (c : Circuit) (run : Run) → slice_get (whole spec hold) s ≡ Some c →
      slice_get runs s ≡ Some run → P c run
  of_both P one other s c run is at =
      two (λ (s : ℕ) (x : Circuit). (run : Run) → slice_get runs s ≡ Some run → P x run)
      (source spec) (sink spec hold)
      (λ run at. subst (P (source spec)) (same_Some of_source run at) one)
      (λ run at. subst (P (sink spec hold)) (same_Some of_sink run at) other) s c is run at

  -- and of each net: the clock, the local one and /Q
  of_each : (P : Run → ℕ → Net → Type 0) →
      P of_source 0 clock → P of_source 1 local → P of_source 2 (net "/Q" spec (Some 0)) →
      P of_sink 0 clock → P of_sink 1 local → P of_sink 2 (net "/Q" spec None) →
      (s i : ℕ) (c : Circuit) (n : Net) (run : Run) → IsNetOf (whole spec hold) s i c n →
      slice_get runs s ≡ Some run → P run i n
  of_each P a b c d e f s i circuit n run of at =
      of_both (λ x r. (i : ℕ) (n : Net) → slice_get x.nets i ≡ Some n → P r i n)
      (three (P of_source) clock local (net "/Q" spec (Some 0)) a b c)
      (three (P of_sink) clock local (net "/Q" spec None) d e f)
      s circuit run of.section_is at i n of.net_is

  run_at : (s : ℕ) (c : Circuit) → slice_get (whole spec hold) s ≡ Some c →
      (run : Run) × (slice_get runs s ≡ Some run)
  run_at s c is =
      two (λ (s : ℕ) (x : Circuit). (run : Run) × (slice_get runs s ≡ Some run))
      (source spec) (sink spec hold) (of_source, refl) (of_sink, refl) s c is

  -- ---- it is a run of the whole, whether or not /Q keeps its assertion

  q_alone : (s i : ℕ) (c : Circuit) (n : Net) → IsNetOf (whole spec hold) s i c n →
      is_global n ≡ true → bits_of runs s i ≡ q
  q_alone s i c n of global =
      let there = run_at s c of.section_is in
      ap (row_in i) there.1
      ∙ of_each (λ r i n. is_global n ≡ true → slice_index_or r.bits i [] ≡ q)
      no_truth no_truth (λ h. refl) no_truth no_truth (λ h. refl) s i c n there.0 of there.1 global

  moves : IsRunOfWhole (whole spec hold) runs 5
  moves = record {
    sections = refl;
    each = of_both IsRun (source_is_run spec) (sink_is_run spec hold);
    long = two (λ (s : ℕ) (run : Run). run.ticks ≡ 5) of_source of_sink refl refl;
    one_net = λ s i s' i' c c' n other of of' one.
        q_alone s i c n of one.global
        ∙ sym (q_alone s' i' c' other of'
        (sym (ap (λ (name : Name). begins_with_slash name.text) one.same_name) ∙ one.global));
    inputs = inputs;
  }
    where
      inputs : (s i : ℕ) (c : Circuit) (n : Net) (run : Run) → IsNetOf (whole spec hold) s i c n →
          slice_get runs s ≡ Some run → n.driver ≡ None → crosses_into (whole spec hold) n ≡ false →
          Meets c.header n.spec 5 (net_signal run i)
      inputs s i c n run of at undriven apart =
          subst (λ h. Meets h n.spec 5 (net_signal run i))
          (of_both (λ c r. header ≡ c.header) refl refl s c run of.section_is at)
          (of_each (λ r i n. n.driver ≡ None → crosses_into (whole spec hold) n ≡ false →
          Meets header n.spec 5 (net_signal r i))
          (λ u a. clock_meets) (λ u a. changes_meets) (λ u a. absurd (cc))
          (λ u a. clock_meets) (λ u a. stays_meets) (λ u a. absurd (true≢false a))
          s i c n run of at undriven apart)

-- ---- at which ticks /Q keeps its assertion

abbrev q_keeps : AssertSpec → ℕ → Bool
q_keeps spec t =
    has (wide_at header spec t) (slice_index_or q (t - 1) false) (slice_index_or q t false)

wide_keeps : all_below (q_keeps wide) 5 ≡ true
unfolding normal earlier back
wide_keeps = refl

narrow_keeps : all_below (q_keeps narrow) 4 ≡ true
unfolding normal earlier back
narrow_keeps = refl

narrow_lacks : q_keeps narrow 4 ≡ false
unfolding normal earlier back
narrow_lacks = refl

-- of the nets it alone crosses
keeps_where : (spec : AssertSpec) (hold t : ℕ) → q_keeps spec t ≡ true →
    CrossingsKeep (whole spec hold) runs t
keeps_where spec hold t kept s i c n run of at crossing =
    subst (λ h. KeepsAssertion h n.spec (net_signal run i) t)
    (of_both spec hold (λ c r. header ≡ c.header) refl refl s c run of.section_is at)
    (of_each spec hold (λ r i n. crosses (whole spec hold) n ≡ true →
    KeepsAssertion header n.spec (net_signal r i) t)
    no_truth no_truth (λ h. kept) no_truth no_truth (λ h. kept) s i c n run of at crossing)

-- ---- what breaks: about the rise at tick 2, /Q changes at 4

changes_in_hold : BreaksInstance (sink wide 2) of_sink 0 2
changes_in_hold = record {
  instance = checked 2;
  choice = two_wires;
  instance_is = refl;
  choice_is = refl;
  breaks = record { edge = 2; change = 4; at = search found };
}

-- ---- what is not broken

same_alone : {A : Type 0} (a : A) (k : ℕ) (x : A) → slice_get (a ∷ []) k ≡ Some x → x ≡ a
same_alone a zero x is = sym (same_Some a x is)
same_alone a (suc k) x is = absurd (cc)

-- a circuit of one instance, and a run of it
abbrev alone : List Net → List ℕ → Instance → Circuit
alone nets order j = record { header = header; nets = nets; instances = j ∷ []; order = order }

abbrev run_alone : Choice → List (List Bool) → Run
run_alone choice rows = record { ticks = 5; choices = choice ∷ []; bits = rows }

module _ (nets : List Net) (order : List ℕ) (j : Instance) (choice : Choice)
    (rows : List (List Bool)) (start : ℕ) where
  none_breaks : ¬ BreaksKind j.kind (run_alone choice rows) j choice start →
      checks_pulses j.kind ≡ false →
      ((i : ℕ) → ¬ BreaksNet (alone nets order j) (run_alone choice rows) i start) →
      ¬ Breaks (alone nets order j) (run_alone choice rows) start
  none_breaks kind measures net (by_instance k b) =
      let run = run_alone choice rows in
      kind
      (subst (λ (x : Choice). BreaksKind j.kind run j x start)
      (same_alone choice k b.choice b.choice_is)
      (subst (λ (x : Instance). BreaksKind x.kind run x b.choice start)
      (same_alone j k b.instance b.instance_is) b.breaks))
  none_breaks kind measures net (by_pulse k level b) =
      let run = run_alone choice rows in
      let same = same_alone j k b.instance b.instance_is in
      subst (λ measured. BreaksMeasured measured run b.instance b.choice level start)
      (ap (λ (x : Instance). checks_pulses x.kind) same ∙ measures) b.breaks
  none_breaks kind measures net (by_net i b) = net i b

source_keeps : (start i : ℕ) → ¬ BreaksNet (source wide) of_source i start
unfolding normal earlier back
source_keeps start zero = no_driver refl refl
source_keeps start (suc zero) = no_driver refl refl
source_keeps start (suc (suc zero)) =
    no_net 0 refl refl (λ driver at. let begins = at.begins in omega (arith, begins))
source_keeps start (suc (suc (suc i))) = no_such_net refl

source_unbroken : (start : ℕ) → ¬ Breaks (source wide) of_source start
source_unbroken start =
    none_breaks (source wide).nets (2 ∷ 0 ∷ 1 ∷ []) register (late 2 (0 ∷ 0 ∷ []))
    of_source.bits start (λ none. none) refl (source_keeps start)

sink_keeps : (hold start i : ℕ) → ¬ BreaksNet (sink wide hold) of_sink i start
sink_keeps hold start zero = no_driver refl refl
sink_keeps hold start (suc zero) = no_driver refl refl
sink_keeps hold start (suc (suc zero)) = no_driver refl refl
sink_keeps hold start (suc (suc (suc i))) = no_such_net refl

-- the rise at tick 2 and the change at 4 are the only ones
sink_unbroken : (hold start : ℕ) → (start ≤ 2 → 2 ≤ hold → ⊥) →
    ¬ Breaks (sink wide hold) of_sink start
sink_unbroken hold start apart =
    none_breaks (sink wide hold).nets (2 ∷ 0 ∷ 1 ∷ []) (checked hold) two_wires of_sink.bits start
    (no_setup_hold 2 4 refl refl (λ at.
    let from = at.edge_in.after in
    let near : 4 ≤ 2 + hold = at.not_after in apart (omega (arith, from)) (omega (arith, near))))
    refl (sink_keeps hold start)

keeps_on : (hold T : ℕ) → (T ≤ 2 → 2 ≤ hold → ⊥) → KeepsOn (whole wide hold) runs 5 T
keeps_on hold T apart = record {
  kept = λ t after before.
      keeps_where wide hold t (each_passes (q_keeps wide) 5 wide_keeps t before);
  unbroken =
      of_both wide hold (λ c run. ¬ Breaks c run T) (source_unbroken T)
      (sink_unbroken hold T apart);
}

-- ---- what keeps on, and what does not

-- a hold time of 1 is kept from the first tick on
hold_of_one : KeepsOn (whole wide 1) runs 5 0
hold_of_one = keeps_on 1 0 (λ early long. omega (arith, long))

-- one of 2 is broken from tick 2 on, where the clock rises, and not from 3 on
hold_of_two : ¬ KeepsOn (whole wide 2) runs 5 2
hold_of_two keeps = keeps.unbroken 1 (sink wide 2) of_sink refl refl (by_instance 0 changes_in_hold)

hold_of_two_later : KeepsOn (whole wide 2) runs 5 3
hold_of_two_later = keeps_on 2 3 (λ early long. omega (arith, early))

-- from tick 3 on there is tick 4 alone, at which /Q leaves its assertion
leaves_at_four : ¬ CrossingsKeep (whole narrow 1) runs 4
leaves_at_four keep =
    false≢true (sym narrow_lacks
    ∙ keep 0 2 (source narrow) (net "/Q" narrow (Some 0)) of_source
    (record { section_is = refl; net_is = refl }) refl refl)

leaves_at_the_last : ¬ KeepsOn (whole narrow 1) runs 5 3
leaves_at_the_last keeps = leaves_at_four (keeps.kept 4 (omega arith) (omega arith))

-- ---- wholes that break, if /Q keeps its assertion at each tick that is asked for

breaks_hold : ¬ NeverBreaksWhole (whole wide 2) 2
breaks_hold never =
    hold_of_two
    (never runs 5 (moves wide 2) (λ t one most below.
    keeps_where wide 2 t (each_passes (q_keeps wide) 5 wide_keeps t below)))

-- up to tick 3 it does, and at 4 no more
breaks_at_once : ¬ NeverBreaksWhole (whole narrow 1) 3
breaks_at_once never =
    leaves_at_the_last
    (never runs 5 (moves narrow 1) (λ t one most below.
    keeps_where narrow 1 t (each_passes (q_keeps narrow) 4 narrow_keeps t (omega (arith, most)))))

-- ---- what is no run of the whole

-- one net has the same bits in both sections, at each tick
other_copy : ¬ IsRunOfWhole (whole wide 1) (runs_of (bits "01111") q (bits "00011")) 5
other_copy is =
    let same : q ≡ bits "00011" =
    is.one_net 0 2 1 2 (source wide) (sink wide 1) (net "/Q" wide (Some 0)) (net "/Q" wide None)
    (record { section_is = refl; net_is = refl }) (record { section_is = refl; net_is = refl })
    (record { global = refl; same_name = refl }) in
    false≢true (ap (λ (row : List Bool). slice_index_or row 3 false) same)

-- the register does not follow
other_output : ¬ IsRunOfWhole (whole wide 1)
    (runs_of (bits "01111") (bits "00011") (bits "00011")) 5
other_output is =
    let run = source_run (bits "01111") (bits "00011") in
    false≢true ((run_tells (source wide) run).1 (is.each 0 (source wide) run refl refl))

-- D changes in the quiet slot 3
other_input : ¬ IsRunOfWhole (whole wide 1) (runs_of (bits "00011") q q) 5
unfolding back
other_input is =
    let run = source_run (bits "00011") q in
    let of : IsNetOf (whole wide 1) 0 1 (source wide) local =
    record { section_is = refl; net_is = refl } in
    let meets = is.inputs 0 1 (source wide) local run of refl refl refl in
    false≢true (meets 3 (omega arith) (omega arith) refl)

-- it has as many ticks as are said, in each section, and a run of each
other_length : ¬ IsRunOfWhole (whole wide 1) runs 6
other_length is = let long : 5 ≡ 6 = is.long 1 of_sink refl in omega (arith, long)

run_of_one : ¬ IsRunOfWhole (whole wide 1) (of_source ∷ []) 5
run_of_one is = let same : 1 ≡ 2 = is.sections in omega (arith, same)
