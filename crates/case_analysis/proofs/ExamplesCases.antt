-- Which runs are in a case, what its cone is and where its rounds begin, which cases a circuit may
-- have, and printed ticks, worked out on paper.
use Rattle.std.proofs.Common.{◌≡◌, ℕ, ◌<◌, Bool, true, false, List, [], ◌∷◌, length, map, slice_get, Some, None, refl, arith}
use Rattle.std.proofs.lemmas.List.Elements.{All-nil, All-cons, All-head, All-tail}
use Rattle.scald_base.specs.declared.assertion.ClockSpec.{ClockSpec}
use Rattle.scald_base.specs.declared.assertion.AssertSpec.TheVariants.{None as Unasserted, Precision, Clock, Stable}
use Rattle.vector_names.specs.declared.bits.Target.TheVariants.{Constant}
use Rattle.step_values.specs.declared.value.Value.TheVariants.{Zero, One, U}
use Rattle.skew_algebra.specs.Wave.{skewed}
use Rattle.flat_circuit.specs.declared.case.CaseValue.{CaseValue}
use Rattle.element_kinds.specs.declared.kind.Kind.TheVariants.{Buf, And, Reg, RegRs, Latch, SetupHold}
use Rattle.flat_circuit.specs.declared.instance.Pin.{Pin}
use Rattle.flat_circuit.specs.declared.net.Net.{Net}
use Rattle.flat_circuit.specs.Circuit.{Circuit}
use Rattle.flat_circuit.specs.Run.{Run, net_signal}
use Rattle.pin_waves.proofs.Tests.{bits}
use Rattle.fixpoint_engine.specs.Waves.{Waves}
use Rattle.fixpoint_engine.proofs.Tables.{run_of}
use Rattle.fixpoint_engine.proofs.ExamplesInterface.{bounds, net, element, on, circuit, clock, stable}
use Rattle.case_analysis.specs.Case.{IsInCase, case_start, case_active}
use Rattle.case_analysis.specs.Listed.{is_free, AreOnce, none, one_more, IsListed}
use Rattle.case_analysis.specs.Tick.{tick}
use Rattle.case_analysis.proofs.Tables.{InCases, cases, ConeIs, cone}

abbrev value : ℕ → Bool → CaseValue
value i one = record { net = i; one = one }

-- ---- runs in a case

-- four nets: always 1, always 0, 0 at the first tick alone, 0 at the last alone
abbrev run : ℕ → Run
run n = run_of n [] ("11111" ∷ "00000" ∷ "01111" ∷ "11110" ∷ [])

-- a net is at its value at every tick, the first and the last, and each net of the case is
of_five_ticks : InCases (run 5)
    ([] ∷ (value 0 true ∷ []) ∷ (value 1 false ∷ []) ∷ (value 0 true ∷ value 1 false ∷ []) ∷ [])
    ((value 0 false ∷ []) ∷ (value 1 true ∷ []) ∷ (value 2 true ∷ []) ∷ (value 2 false ∷ [])
    ∷ (value 3 true ∷ []) ∷ (value 3 false ∷ [])
    ∷ (value 0 true ∷ value 3 true ∷ []) ∷ (value 3 true ∷ value 0 true ∷ []) ∷ [])
of_five_ticks = cases refl refl

-- bits past the run's ticks do not count
of_four_ticks : InCases (run 4) ((value 3 true ∷ []) ∷ [])
    ((value 3 false ∷ []) ∷ (value 2 true ∷ []) ∷ [])
of_four_ticks = cases refl refl

of_no_tick : InCases (run 0) ((value 0 false ∷ value 0 true ∷ []) ∷ []) []
of_no_tick = cases refl refl

-- every run is in the case that sets nothing, and one in a case is in the case of its further
-- values
pub in_no_case : (a_run : Run) → IsInCase [] a_run
in_no_case a_run =
    All-nil (λ (v : CaseValue). (t : ℕ) → t < a_run.ticks → net_signal a_run v.net t ≡ v.one)

pub in_rest_of_case : (v : CaseValue) (values : List CaseValue) (a_run : Run) →
    IsInCase (v ∷ values) a_run → IsInCase values a_run
in_rest_of_case v values a_run is =
    All-tail (λ (w : CaseValue). (t : ℕ) → t < a_run.ticks →
    net_signal a_run w.net t ≡ w.one) v values is

-- ---- cones: of the clock 0 and the data 1 a register makes 2, a buffer of 1 makes 3, an AND of 3
-- and 2 makes 4, a register with clock 0, input 4, set 3 and a constant reset makes 5, a latch with
-- enable 2 and input 4 makes 6, and a buffer of a constant makes 7

abbrev tied : Pin
tied = record { target = Constant false; inverted = false; hold = false }

abbrev driven : ℕ → Net
driven k = net Unasserted (bounds 0 0) (Some k)

abbrev reaching : Circuit
reaching = circuit
    (net clock (bounds 0 0) None ∷ net stable (bounds 0 0) None ∷ driven 0 ∷ driven 1 ∷ driven 2
    ∷ driven 3 ∷ driven 4 ∷ driven 6 ∷ [])
    (element Reg (bounds 1 1) (on 0 ∷ on 1 ∷ []) (Some 2)
    ∷ element Buf (bounds 1 1) (on 1 ∷ []) (Some 3)
    ∷ element And (bounds 1 1) (on 3 ∷ on 2 ∷ []) (Some 4)
    ∷ element RegRs (bounds 1 1) (on 0 ∷ on 4 ∷ on 3 ∷ tied ∷ []) (Some 5)
    ∷ element Latch (bounds 1 1) (on 2 ∷ on 4 ∷ []) (Some 6)
    ∷ element SetupHold (bounds 0 0) (on 0 ∷ on 1 ∷ []) None
    ∷ element Buf (bounds 1 1) (tied ∷ []) (Some 7) ∷ [])

of_nothing : ConeIs reaching [] "00000000"
of_nothing = cone refl refl refl

-- a register's clock listens
of_clock : ConeIs reaching (value 0 false ∷ []) "10101110"
of_clock = cone refl refl refl

-- a register's input does not, and its set does
of_data : ConeIs reaching (value 1 true ∷ []) "01011110"
of_data = cone refl refl refl

of_both : ConeIs reaching (value 1 true ∷ value 0 true ∷ []) "11111110"
of_both = cone refl refl refl

-- a latch's input listens, and so does its enable
of_gate : ConeIs reaching (value 4 true ∷ []) "00001010"
of_gate = cone refl refl refl

of_register : ConeIs reaching (value 2 true ∷ []) "00101010"
of_register = cone refl refl refl

of_last : ConeIs reaching (value 7 true ∷ []) "00000001"
of_last = cone refl refl refl

-- ---- where the rounds of a case begin: nets 0 and 2 set, 3 in the cone too, 1 and 4 outside

abbrev before : Waves
before i = skewed (Zero ∷ []) i

starts : map (case_start (circuit [] []) (value 0 true ∷ value 2 false ∷ []) (bits "10110") before)
    (0 ∷ 1 ∷ 2 ∷ 3 ∷ 4 ∷ [])
    ≡ skewed (One ∷ One ∷ One ∷ One ∷ One ∷ One ∷ One ∷ One ∷ []) 0
    ∷ skewed (Zero ∷ []) 1
    ∷ skewed (Zero ∷ Zero ∷ Zero ∷ Zero ∷ Zero ∷ Zero ∷ Zero ∷ Zero ∷ []) 0
    ∷ skewed (U ∷ U ∷ U ∷ U ∷ U ∷ U ∷ U ∷ U ∷ []) 0
    ∷ skewed (Zero ∷ []) 4 ∷ []
starts = refl

-- the driven nets of the cone are active
active : map (case_active reaching (bits "10101000")) (0 ∷ 1 ∷ 2 ∷ 3 ∷ 4 ∷ 8 ∷ []) ≡ false ∷ false
    ∷ true ∷ false ∷ true ∷ false ∷ []
active = refl

-- ---- which nets a case may set

abbrev a_clock : ClockSpec
a_clock = record { spans = record { lo = 2; hi = 4 } ∷ []; low = false; skew = None }

free : map is_free
    (Some (net Unasserted (bounds 0 0) None) ∷ Some (net stable (bounds 0 0) None)
    ∷ Some (net (Stable []) (bounds 0 0) None)
    ∷ Some (net (Precision a_clock) (bounds 0 0) None)
    ∷ Some (net (Clock a_clock) (bounds 0 0) None) ∷ Some (net Unasserted (bounds 0 0) (Some 0))
    ∷ Some (net stable (bounds 0 0) (Some 0)) ∷ None ∷ [])
    ≡ true ∷ true ∷ true ∷ false ∷ false ∷ false ∷ false ∷ false ∷ []
free = refl

abbrev Free : CaseValue → Type 0
Free v = is_free (slice_get reaching.nets v.net) ≡ true

abbrev Exists : CaseValue → Type 0
Exists v = v.net < length reaching.nets

data_alone : IsListed reaching (value 1 true ∷ [])
data_alone = record {
  exist = All-cons Exists (value 1 true) [] (let below : 1 < 8 = omega arith in below) (All-nil Exists);
  free = All-cons Free (value 1 true) [] refl (All-nil Free);
  once = one_more refl none;
}

nothing_set : IsListed reaching []
nothing_set = record { exist = All-nil Exists; free = All-nil Free; once = none }

not_twice : AreOnce (value 1 true ∷ value 1 false ∷ []) → ⊥
not_twice (one_more apart rest) = cc

two_nets : AreOnce (value 1 true ∷ value 0 true ∷ [])
two_nets = one_more refl (one_more refl none)

not_a_clock : IsListed reaching (value 0 true ∷ []) → ⊥
not_a_clock listed = let is : false ≡ true = All-head Free (value 0 true) [] listed.free in cc

not_driven : IsListed reaching (value 2 true ∷ []) → ⊥
not_driven listed = let is : false ≡ true = All-head Free (value 2 true) [] listed.free in cc

none_past_the_last : IsListed reaching (value 8 true ∷ []) → ⊥
none_past_the_last listed = let is : false ≡ true = All-head Free (value 8 true) [] listed.free in
    cc

-- ---- the printed tick, by the reach and the rounds of the base and of the case

ticks : map (λ (p : ℕ × ℕ × ℕ). tick p.0 p.1 p.2)
    ((1, 0, 0) ∷ (5, 0, 0) ∷ (31, 1, 0) ∷ (51, 4, 0) ∷ (51, 4, 3) ∷ (51, 0, 3) ∷ []) ≡ 1 ∷ 5 ∷ 62
    ∷ 255 ∷ 408 ∷ 204 ∷ []
ticks = refl
