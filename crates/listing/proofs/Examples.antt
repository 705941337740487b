-- Lines of small circuits of a period of 400 slots, whose waves and faults were worked out on paper.
use Rattle.std.specs.Prelude.{◌≡◌, ℕ, ◌-◌, ◌++◌, true, false, List, [], ◌∷◌, codes, map, replicate, Option, Some, None}
use Rattle.std.specs.List.{range_with_len}
use Rattle.std.specs.Fmt.{digits}
use Rattle.std.proofs.Common.{refl}
use Rattle.scald_base.specs.Time.{Header}
use Rattle.scald_base.specs.declared.assertion.AssertSpec.{AssertSpec}
use Rattle.scald_base.specs.declared.assertion.AssertSpec.TheVariants.{None as Unasserted, Precision, Stable}
use Rattle.scald_base.specs.declared.refusal.RefusalKind.TheVariants.{ZeroLoop}
use Rattle.vector_names.specs.declared.bits.Target.{Target}
use Rattle.vector_names.specs.declared.bits.Target.TheVariants.{Net as OnNet}
use Rattle.step_values.specs.declared.value.Value.{Value}
use Rattle.step_values.specs.declared.value.Value.TheVariants.{Zero, One, S, C, R, F}
use Rattle.skew_algebra.specs.Wave.{Wave, skewed}
use Rattle.element_kinds.specs.declared.kind.Kind.{Kind}
use Rattle.element_kinds.specs.declared.kind.Kind.TheVariants.{Buf, And, Reg, SetupHold, MinPulse}
use Rattle.flat_circuit.specs.declared.instance.Instance.{Instance}
use Rattle.flat_circuit.specs.declared.limits.Limits.TheVariants.{None as Unlimited}
use Rattle.flat_circuit.specs.declared.net.Net.{Net}
use Rattle.flat_circuit.specs.declared.fault.PointKind.TheVariants.{Setup, High, Hold}
use Rattle.flat_circuit.specs.declared.fault.Fault.{Fault}
use Rattle.flat_circuit.specs.declared.fault.Fault.TheVariants.{Point, Width, Hazard, Assertion}
use Rattle.flat_circuit.specs.Circuit.{Circuit}
use Rattle.fixpoint_engine.specs.Waves.{waves_of}
use Rattle.listing.specs.declared.case.Mode.TheVariants.{Full, Waves, Faults}
use Rattle.listing.specs.Head.{head, period_line, counts_line, stable_line}
use Rattle.listing.specs.Wave.{wave_line}
use Rattle.listing.specs.Fault.{fault_line, fault_place, fault_text, unnamed_fault}
use Rattle.listing.specs.Case.{case_line, case_lines}
use Rattle.listing.specs.End.{last_line}
use Rattle.listing.specs.Answer.{refusal_line, unsettled_line, summary_line}

abbrev header : Header
header = record { units = 8; ticks = 50; wire = record { min = 0; max = 0 }; pskew = (0, 0); cskew = (0, 0) }

abbrev net : List ℕ → ℕ → AssertSpec → Option ℕ → Net
net name bit spec driver = record { name = name; bit = bit; spec = spec; wire = record { min = 0; max = 0 }; driver = driver }

-- an assertion of a clock, and one of an input
abbrev clocked : AssertSpec
clocked = Precision (record { spans = record { lo = 2; hi = 3 } ∷ []; skew = None; low = false })

abbrev quiet : AssertSpec
quiet = Stable (record { lo = 1; hi = 4 } ∷ [])

abbrev made : List ℕ → Kind → Option Target → Instance
made label kind out =
    record {
      path = label;
      bit = 0;
      kind = kind;
      delay = record { min = 0; max = 0 };
      split = None;
      limits = Unlimited;
      pins = [];
      out = out;
      out_inverted = false;
      place = record { line = 4; col = 1 };
    }

abbrev element : List ℕ → Kind → ℕ → Instance
element label kind out = made label kind (Some (OnNet out))

abbrev checker : List ℕ → Kind → Instance
checker label kind = made label kind None

abbrev circuit : List Net → List Instance → List ℕ → Circuit
circuit nets instances order = record { header = header; nets = nets; instances = instances; order = order }

-- ---- a checker of an input D at the rise of a clock CK

abbrev checked : Circuit
checked = circuit (net (codes "CK") 0 clocked None ∷ net (codes "D") 0 quiet None ∷ []) (checker (codes "c1") SetupHold ∷ []) (0 ∷ 1 ∷ [])

abbrev clock_cells : List Value
clock_cells = replicate 100 Zero ++ R ∷ (replicate 49 One ++ F ∷ replicate 249 Zero)

abbrev input_cells : ℕ → List Value
input_cells late = replicate late C ++ (replicate (200 - late) S ++ replicate 200 C)

abbrev checked_waves : ℕ → ℕ → Wave Value
checked_waves late = waves_of (skewed clock_cells 0 ∷ skewed (input_cells late) 0 ∷ [])

pub clean_report : head 1 checked ++ case_lines checked Full 0 0 0 1 (checked_waves 51) [] ++ last_line 0
    ≡ codes "SCALD 1 PERIOD 400\nNETS 2 INSTANCES 0 CHECKS 1\nCASE 0 BASE 0 ROUNDS 0 T 1\nWAVE CK<0> SKEW 0 0:100 R:1 1:49 F:1 0:249\nWAVE D<0> SKEW 0 C:51 S:149 C:200\nCLEAN\n"
unfolding digits period_line counts_line stable_line case_line wave_line last_line
clean_report = refl

abbrev late_fault : Fault
late_fault = Point Setup 0 100 81 67

-- the same with an input that comes late, in each mode
pub late_in_full : case_lines checked Full 0 0 0 1 (checked_waves 101) (late_fault ∷ [])
    ≡ codes "CASE 0 BASE 0 ROUNDS 0 T 1\nWAVE CK<0> SKEW 0 0:100 R:1 1:49 F:1 0:249\nWAVE D<0> SKEW 0 C:101 S:99 C:200\nFAULT SETUP c1<0> EDGE 100 SLOT 81 VALUE C\n"
unfolding digits case_line wave_line fault_place
late_in_full = refl

pub late_in_waves : case_lines checked Waves 0 0 0 1 (checked_waves 101) (late_fault ∷ [])
    ≡ codes "CASE 0 BASE 0 ROUNDS 0 T 1\nWAVE CK<0> SKEW 0 0:100 R:1 1:49 F:1 0:249\nWAVE D<0> SKEW 0 C:101 S:99 C:200\n"
unfolding digits case_line wave_line
late_in_waves = refl

pub late_in_faults : case_lines checked Faults 2 4 3 408 (checked_waves 101) (late_fault ∷ []) ≡ codes "CASE 2 BASE 4 ROUNDS 3 T 408\nFAULT SETUP c1<0> EDGE 100 SLOT 81 VALUE C\n"
unfolding digits case_line fault_place
late_in_faults = refl

pub one_fault : last_line 1 ≡ codes "FAULTS 1\n"
unfolding digits last_line
one_fault = refl

-- a point of a window that goes on over the period's end
pub held_and_high : fault_line checked (Point Hold 0 398 405 85) ++ fault_line checked (Point High 0 100 150 67)
    ≡ codes "FAULT HOLD c1<0> EDGE 398 SLOT 5 VALUE U\nFAULT HIGH c1<0> EDGE 100 SLOT 150 VALUE C\n"
unfolding digits fault_place
held_and_high = refl

-- the same two nets with the clock named last: lines stand in the order of names
pub in_name_order : case_lines (circuit (net (codes "D") 0 quiet None ∷ net (codes "CK") 0 clocked None ∷ []) [] (1 ∷ 0 ∷ [])) Waves 0 0 0 1
    (waves_of (skewed (input_cells 51) 0 ∷ skewed clock_cells 0 ∷ [])) []
    ≡ codes "CASE 0 BASE 0 ROUNDS 0 T 1\nWAVE CK<0> SKEW 0 0:100 R:1 1:49 F:1 0:249\nWAVE D<0> SKEW 0 C:51 S:149 C:200\n"
unfolding digits case_line wave_line
in_name_order = refl

-- the parts of a line
pub named_and_unnamed : (fault_text checked late_fault ≡ codes "SETUP c1<0> EDGE 100 SLOT 81 VALUE C")
    × (unnamed_fault checked late_fault ≡ codes "SETUP EDGE 100 SLOT 81 VALUE C")
unfolding digits fault_place
named_and_unnamed = (refl, refl)

-- ---- a buffer that may be late as a whole, and a checker of its pulse

abbrev pulsed : Circuit
pulsed = circuit (net (codes "CK") 0 clocked None ∷ net (codes "X") 0 Unasserted (Some 0) ∷ []) (element (codes "b1") Buf 1 ∷ checker (codes "w1") MinPulse ∷ []) (0 ∷ 1 ∷ [])

abbrev late_pulse : ℕ → Wave Value
late_pulse = waves_of (skewed clock_cells 0 ∷ skewed (replicate 110 Zero ++ R ∷ (replicate 49 One ++ F ∷ replicate 239 Zero)) 20 ∷ [])

pub narrow_pulse : head 1 pulsed ++ case_lines pulsed Full 0 1 0 62 late_pulse (Width 1 true 110 50 ∷ [])
    ≡ codes "SCALD 1 PERIOD 400\nNETS 2 INSTANCES 1 CHECKS 1\nCASE 0 BASE 1 ROUNDS 0 T 62\n"
    ++ codes "WAVE CK<0> SKEW 0 0:100 R:1 1:49 F:1 0:249\nWAVE X<0> SKEW 20 0:110 R:1 1:49 F:1 0:239\nFAULT WIDTH w1<0> HIGH FROM 110 WIDTH 50\n"
unfolding digits period_line counts_line stable_line case_line wave_line fault_place
narrow_pulse = refl

pub low_pulse : fault_line pulsed (Width 1 false 12 3) ≡ codes "FAULT WIDTH w1<0> LOW FROM 12 WIDTH 3\n"
unfolding digits fault_place
low_pulse = refl

-- ---- a hazard at a gate, and an assertion that does not hold

abbrev gated : Circuit
gated = circuit (net (codes "CK") 0 clocked None ∷ net (codes "E") 0 quiet None ∷ net (codes "G") 0 Unasserted (Some 0) ∷ []) (element (codes "a1") And 2 ∷ []) (0 ∷ 1 ∷ 2 ∷ [])

pub hazard : fault_line gated (Hazard 0 100 1) ≡ codes "FAULT HAZARD a1<0> SLOT 100 PIN 1\n"
unfolding digits fault_place
hazard = refl

abbrev asserted : Circuit
asserted = circuit (net (codes "CK") 0 clocked None ∷ net (codes "D") 0 quiet None ∷ net (codes "Q") 0 quiet (Some 0) ∷ []) (element (codes "r1") Reg 2 ∷ []) (0 ∷ 1 ∷ 2 ∷ [])

pub broken_assertion : fault_line asserted (Assertion 2 105 67) ≡ codes "FAULT ASSERT Q<0> SLOT 105 VALUE C\n"
unfolding digits fault_place
broken_assertion = refl

-- ---- inputs that are taken for stable stand in the order of names, whichever was named first

abbrev unasserted : Circuit
unasserted =
    circuit (net (codes "u1/Z") 10 Unasserted None ∷ net (codes "u1/Z") 9 Unasserted None ∷
    net (codes "/A") 0 Unasserted None ∷ net (codes "X") 0 Unasserted (Some 0) ∷ net (codes "K") 0 clocked None ∷ [])
    (element (codes "u1/a") And 3 ∷ []) (2 ∷ 4 ∷ 3 ∷ 1 ∷ 0 ∷ [])

-- of a drawing of version 2
pub stable_by_name : head 2 unasserted ≡ codes "SCALD 2 PERIOD 400\nNETS 5 INSTANCES 1 CHECKS 0\nSTABLE /A<0>\nSTABLE u1/Z<9>\nSTABLE u1/Z<10>\n"
unfolding digits period_line counts_line stable_line
stable_by_name = refl

-- ---- in place of a report

pub zero_loop : refusal_line (record { kind = ZeroLoop; place = record { line = 4; col = 1 } }) ≡ codes "REFUSED 18 ZeroLoop 4:1\n"
unfolding digits refusal_line
zero_loop = refl

-- 41 bits of a net X after a clock CK, which was named last
abbrev chain : Circuit
chain = circuit (map (λ bit. net (codes "X") bit Unasserted (Some 0)) (range_with_len 0 41) ++ net (codes "CK") 0 clocked None ∷ []) [] (41 ∷ range_with_len 0 41)

pub unsettled : unsettled_line chain 18 1657 ≡ codes "UNSETTLED X<17> ROUND 1657\n"
unfolding digits unsettled_line
unsettled = refl

-- two nets, a buffer and a checker
pub summary : summary_line pulsed 3 2 189 4 ≡ codes "BENCH 3 NETS 2 INSTANCES 1 CHECKS 1 ROUNDS 2 T 189 FAULTS 4\n"
unfolding digits summary_line
summary = refl
