-- Margins over a period of eight slots, worked out on paper.
use Rattle.std.specs.Prelude.{◌≡◌, ℕ, true, false, List, [], ◌∷◌, codes, map, None}
use Rattle.std.specs.Fmt.{digits}
use Rattle.std.proofs.Common.{refl}
use Rattle.scald_base.specs.Clock.{back}
use Rattle.scald_base.specs.Time.{Header}
use Rattle.scald_base.specs.declared.assertion.AssertSpec.TheVariants.{None as Unasserted}
use Rattle.scald_base.specs.declared.outcome.Outcome.TheVariants.{Clean, Faulty as HasFaults, Done, Unsettled, BadWords, TooLong, ReadFault, WriteFault, NoMemory}
use Rattle.vector_names.specs.declared.bits.Target.TheVariants.{Net as OnNet}
use Rattle.step_values.specs.declared.value.Value.{Value}
use Rattle.step_values.specs.declared.value.Value.TheVariants.{Zero, One, S, C, R, F}
use Rattle.wave_core.specs.Slots.{earlier}
use Rattle.skew_algebra.specs.Wave.{Wave, skewed, moved, normal}
use Rattle.element_kinds.specs.declared.kind.Kind.{Kind}
use Rattle.element_kinds.specs.declared.kind.Kind.TheVariants.{SetupHold, MinPulse}
use Rattle.flat_circuit.specs.declared.instance.Pin.{Pin}
use Rattle.flat_circuit.specs.declared.instance.Instance.{Instance}
use Rattle.flat_circuit.specs.declared.limits.Limits.TheVariants.{Edges, Pulses}
use Rattle.flat_circuit.specs.declared.limits.Limits.{Limits}
use Rattle.flat_circuit.specs.declared.net.Net.{Net}
use Rattle.flat_circuit.specs.declared.fault.PointKind.TheVariants.{Setup as Before, Hold as After}
use Rattle.flat_circuit.specs.declared.fault.Fault.TheVariants.{Point, Width}
use Rattle.flat_circuit.specs.Circuit.{Circuit}
use Rattle.fixpoint_engine.specs.Waves.{waves_of}
use Rattle.point_check.specs.Faults.{instance_fault}
use Rattle.point_check.specs.Point.{checker_fault}
use Rattle.pulse_check.specs.Faults.{instance_faults, width_fault}
use Rattle.listing.specs.Fault.{fault_place}
use Rattle.timing_analysis.specs.Case.{Case}
use Rattle.margin_report.specs.declared.margin.Parameter.TheVariants.{Setup, Hold, High, Low}
use Rattle.margin_report.specs.declared.margin.Margin.TheVariants.{Fault as Faulty, Limit, Next}
use Rattle.margin_report.specs.Margin.{margin, written, spare}
use Rattle.margin_report.specs.Promise.{may_answer}
use Rattle.margin_report.specs.Report.{count_line, margin_line}
use Rattle.margin_report.specs.Tried.{own_faults, with_limit, with_value}

abbrev header : Header
header = record { units = 8; ticks = 1; wire = record { min = 0; max = 0 }; pskew = (0, 0); cskew = (0, 0) }

abbrev net : List ℕ → Net
net name = record { name = name; bit = 0; spec = Unasserted; wire = record { min = 0; max = 0 }; driver = None }

abbrev pin : ℕ → Pin
pin i = record { target = OnNet i; inverted = false; hold = false }

abbrev checker : Kind → Limits → List Pin → Instance
checker kind limits pins =
    record {
      path = codes "c1";
      bit = 0;
      kind = kind;
      delay = record { min = 0; max = 0 };
      split = None;
      limits = limits;
      pins = pins;
      out = None;
      out_inverted = false;
      place = record { line = 4; col = 1 };
    }

abbrev circuit : Instance → Circuit
circuit j = record { header = header; nets = net (codes "CK") ∷ net (codes "D") ∷ []; instances = j ∷ []; order = 0 ∷ 1 ∷ [] }

abbrev eight : Value → Value → Value → Value → Value → Value → Value → Value → Wave Value
eight a b c d e f g h = skewed (a ∷ b ∷ c ∷ d ∷ e ∷ f ∷ g ∷ h ∷ []) 0

-- a clock that rises in slot 2 and falls in slot 4
abbrev pulse : Wave Value
pulse = eight Zero Zero R One F Zero Zero Zero

-- a case with this input
abbrev case : ℕ → Wave Value → Case
case number input = record { listed = record { number = number; values = [] }; rounds = 0; waves = waves_of (pulse ∷ input ∷ []) }

-- ---- setup and hold of one tick each, and an input that may change in one slot

abbrev edge : Instance
edge = checker SetupHold (Edges 1 1) (pin 0 ∷ pin 1 ∷ [])

abbrev in_5 : Wave Value
in_5 = eight S S S S S C S S

-- the window begins in slot 2; it may begin in slot 6 of the period before
five_slots_of_setup : margin (circuit edge) (case 0 in_5 ∷ []) 0 edge Setup ≡ Next 4 0 (Point Before 0 2 5 67)
unfolding margin checker_fault moved normal back earlier
five_slots_of_setup = refl

-- it ends in slot 3, and may end in slot 4
two_slots_of_hold : margin (circuit edge) (case 0 in_5 ∷ []) 0 edge Hold ≡ Next 1 0 (Point After 0 2 5 67)
unfolding margin checker_fault moved normal back earlier
two_slots_of_hold = refl

the_whole_period : margin (circuit edge) (case 0 (eight S S S S S S S S) ∷ []) 0 edge Setup ≡ Limit 6
unfolding margin checker_fault moved normal back earlier
the_whole_period = refl

no_margin : margin (circuit edge) (case 0 (eight S S C S S S S S) ∷ []) 0 edge Hold ≡ Faulty
unfolding margin checker_fault moved normal back earlier
no_margin = refl

-- the worst case counts, and of two that are alike the first
the_second_case : margin (circuit edge) (case 1 in_5 ∷ case 2 (eight S S S S C S S S) ∷ []) 0 edge Hold ≡ Next 0 2 (Point After 0 2 4 67)
unfolding margin checker_fault moved normal back earlier
the_second_case = refl

the_first_of_two : margin (circuit edge) (case 1 in_5 ∷ case 2 in_5 ∷ []) 0 edge Hold ≡ Next 1 1 (Point After 0 2 5 67)
unfolding margin checker_fault moved normal back earlier
the_first_of_two = refl

-- ---- widths of the clock's pulses

abbrev width : Instance
width = checker MinPulse (Pulses 2 0) (pin 0 ∷ [])

high_pulses : margin (circuit width) (case 0 in_5 ∷ []) 0 width High ≡ Next 0 0 (Width 0 true 2 2)
unfolding margin width_fault moved normal back earlier
high_pulses = refl

low_pulses : margin (circuit width) (case 0 in_5 ∷ []) 0 width Low ≡ Next 6 0 (Width 0 false 4 6)
unfolding margin width_fault moved normal back earlier
low_pulses = refl

-- ---- what counts for a parameter

-- high pulses of two slots if three are asked for, and low ones of six if seven are
abbrev wider : Instance
wider = checker MinPulse (Pulses 3 7) (pin 0 ∷ [])

own_high : own_faults (circuit wider) (case 0 in_5).waves 0 High ≡ Width 0 true 2 2 ∷ []
unfolding instance_faults width_fault moved normal back earlier
own_high = refl

own_low : own_faults (circuit wider) (case 0 in_5).waves 0 Low ≡ Width 0 false 4 6 ∷ []
unfolding instance_faults width_fault moved normal back earlier
own_low = refl

no_high : own_faults (circuit width) (case 0 in_5).waves 0 High ≡ []
unfolding instance_faults width_fault moved normal back earlier
no_high = refl

own_hold : own_faults (circuit (with_value edge Hold 3)) (case 0 in_5).waves 0 Hold ≡ Point After 0 2 5 67 ∷ []
unfolding instance_fault checker_fault moved normal back earlier
own_hold = refl

no_hold : own_faults (circuit edge) (case 0 in_5).waves 0 Hold ≡ []
unfolding instance_fault checker_fault moved normal back earlier
no_hold = refl

one_limit_more : map (λ parameter. (with_value edge parameter 5).limits) (Setup ∷ Hold ∷ High ∷ Low ∷ [])
    ≡ Edges 5 1 ∷ Edges 1 5 ∷ Pulses 5 0 ∷ Pulses 0 5 ∷ []
one_limit_more = refl

-- the other limit stays as it is written
other_edge : map (λ parameter. with_limit (Edges 2 3) parameter 5) (Setup ∷ Hold ∷ [])
    ≡ Edges 5 3 ∷ Edges 2 5 ∷ []
other_edge = refl

other_width : map (λ parameter. with_limit (Pulses 2 3) parameter 5) (High ∷ Low ∷ [])
    ≡ Pulses 5 3 ∷ Pulses 2 5 ∷ []
other_width = refl

-- ---- what is written, and how much more may be in a period of eight ticks

edges_written : map (written (Edges 2 3)) (Setup ∷ Hold ∷ High ∷ Low ∷ []) ≡ 2 ∷ 3 ∷ 0 ∷ 0 ∷ []
edges_written = refl

widths_written : map (written (Pulses 2 3)) (Setup ∷ Hold ∷ High ∷ Low ∷ []) ≡ 0 ∷ 0 ∷ 2 ∷ 3 ∷ []
widths_written = refl

more_of_edges : map (spare 8 (Edges 2 3)) (Setup ∷ Hold ∷ []) ≡ 3 ∷ 3 ∷ []
more_of_edges = refl

more_of_widths : map (spare 8 (Pulses 2 3)) (High ∷ Low ∷ []) ≡ 6 ∷ 5 ∷ []
more_of_widths = refl

-- ---- outcomes

spoken : map may_answer (Done ∷ Unsettled 3 16 ∷ []) ≡ true ∷ true ∷ []
spoken = refl

never_spoken : map may_answer (Clean ∷ HasFaults 1 ∷ BadWords 0 ∷ TooLong ∷ ReadFault ∷ WriteFault ∷ NoMemory ∷ [])
    ≡ false ∷ false ∷ false ∷ false ∷ false ∷ false ∷ false ∷ []
never_spoken = refl

-- ---- lines

faulty_line : margin_line (circuit edge) (record { instance = 0; parameter = Setup; margin = Faulty }) ≡ codes "MARGIN c1<0> SETUP FAULT\n"
unfolding digits margin_line
faulty_line = refl

limit_line : margin_line (circuit edge) (record { instance = 0; parameter = Low; margin = Limit 400 }) ≡ codes "MARGIN c1<0> LOW 400 LIMIT\n"
unfolding digits margin_line
limit_line = refl

next_line : margin_line (circuit edge) (record { instance = 0; parameter = Hold; margin = Next 1 12 (Point After 0 2 5 67) })
    ≡ codes "MARGIN c1<0> HOLD 1 NEXT CASE 12 HOLD EDGE 2 SLOT 5 VALUE C\n"
unfolding digits margin_line fault_place
next_line = refl

counted : count_line 2 ≡ codes "MARGINS 2\n"
unfolding digits count_line
counted = refl
