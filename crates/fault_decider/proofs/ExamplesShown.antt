-- The lines of a run that shows a fault, computed on a small circuit: its delays, offsets, inputs and
-- steps.
use Rattle.std.specs.Prelude.{codes}
use Rattle.std.specs.Fmt.{digits}
use Rattle.std.proofs.Common.{◌≡◌, ℕ, ◌==◌, Bool, true, false, List, [], ◌∷◌, None, Some, refl}
use Rattle.scald_base.specs.Clock.{back}
use Rattle.scald_base.specs.Time.{Header}
use Rattle.scald_base.specs.declared.assertion.AssertSpec.{AssertSpec}
use Rattle.scald_base.specs.declared.assertion.AssertSpec.TheVariants.{None as Unasserted, Precision, Stable}
use Rattle.scald_base.specs.declared.assertion.ClockSpec.{ClockSpec}
use Rattle.element_kinds.specs.declared.kind.Kind.TheVariants.{And, Chg, Reg, SetupHold}
use Rattle.flat_circuit.specs.declared.case.CaseValue.{CaseValue}
use Rattle.flat_circuit.specs.declared.instance.Instance.{Instance}
use Rattle.flat_circuit.specs.declared.net.Net.{Net}
use Rattle.flat_circuit.specs.Circuit.{Circuit}
use Rattle.flat_circuit.proofs.RunTables.{bits, bounds, checker, element, on, split_element, two}
use Rattle.trace_tool.specs.declared.trace.Trace.{Trace}
use Rattle.fault_decider.specs.Choices.{delays_text, first_from, inputs_text, offset_line, offset_of, offsets_text, steps_text, wires_text}

-- ---- a register behind a clock, a gate with two delays, a change function and a checker

abbrev periods : ℕ → ℕ → Header
periods units ticks = record { units = units; ticks = ticks; wire = bounds 0 0; pskew = (0, 0); cskew = (0, 0) }

-- 1 in the third of four units; 2 ticks early to 1 tick late
abbrev clock : ClockSpec
clock = record { spans = record { lo = 2; hi = 3 } ∷ []; skew = Some (2, 1); low = false }

abbrev net : List ℕ → AssertSpec → ℕ → Net
net name spec widest = record { name = name; bit = 0; spec = spec; wire = bounds 0 widest; driver = None }

abbrev driven : List ℕ → ℕ → Net
driven name k = record { name = name; bit = 0; spec = Unasserted; wire = bounds 0 0; driver = Some k }

abbrev nets : List Net
nets =
    net (codes "CK") (Precision clock) 2 ∷ net (codes "D") Unasserted 0 ∷ net (codes "SEL") (Stable []) 0
    ∷ net (codes "S") (Stable (record { lo = 1; hi = 4 } ∷ [])) 0 ∷ driven (codes "Q") 0
    ∷ driven (codes "Y") 1 ∷ driven (codes "X") 2 ∷ []

abbrev named : List ℕ → Instance → Instance
named path j = record j { path = path }

abbrev instances : List Instance
instances =
    named (codes "r1") (element Reg (bounds 5 10) (on 0 ∷ on 1 ∷ []) 4)
    ∷ named (codes "a1") (split_element And (two 1 3 2 2) (on 4 ∷ on 2 ∷ []) 5)
    ∷ named (codes "x1") (element Chg (bounds 1 4) (on 5 ∷ []) 6)
    ∷ named (codes "c1") (checker SetupHold (on 0 ∷ on 5 ∷ [])) ∷ []

abbrev small_of : Header → Circuit
small_of h = record { header = h; nets = nets; instances = instances; order = 0 ∷ 1 ∷ 4 ∷ 3 ∷ 2 ∷ 6 ∷ 5 ∷ [] }

abbrev small : Circuit
small = small_of (periods 4 2)

abbrev trace : Trace
trace = record {
  ticks = 6;
  delays = (7, 7) ∷ (2, 2) ∷ (3, 3) ∷ (0, 0) ∷ [];
  wires = (1 ∷ 0 ∷ []) ∷ (0 ∷ 0 ∷ []) ∷ (0 ∷ []) ∷ (2 ∷ 0 ∷ []) ∷ [];
  bits = bits "000110" ∷ bits "111111" ∷ bits "000000" ∷ bits "000000" ∷ bits "000000" ∷ bits "000011"
      ∷ bits "000000" ∷ [];
}

abbrev all : ℕ → Bool
all i = true

-- the net of this number alone
abbrev only : ℕ → ℕ → Bool
only n i = i == n

-- ---- delays

-- of both delays of a gate the one that could be another; a change function and a checker have none
delays : delays_text small trace all ≡ codes "  DELAY r1<0> 7 OF 5:10\n  DELAY a1<0> RISE 2 OF 1:3\n"
unfolding digits
delays = refl

-- of the drivers of the cone alone
delays_within : delays_text small trace (only 5) ≡ codes "  DELAY a1<0> RISE 2 OF 1:3\n"
unfolding digits
delays_within = refl

-- ---- wires

-- to the pins of drivers of the cone, and to those of the constraint's own instance
wires : wires_text small trace all (Some 3) ≡ codes "  WIRE r1<0> PIN 0 1 OF 0:2\n  WIRE c1<0> PIN 0 2 OF 0:2\n"
unfolding digits
wires = refl

wires_within : (wires_text small trace (only 5) (Some 3) ≡ codes "  WIRE c1<0> PIN 0 2 OF 0:2\n")
    × (wires_text small trace all None ≡ codes "  WIRE r1<0> PIN 0 1 OF 0:2\n")
unfolding digits
wires_within = (refl, refl)

-- ---- offsets

-- the first number of which something holds
firsts : (first_from (only 3) 1 5 ≡ Some 3) × (first_from (only 3) 1 2 ≡ None) × (first_from (only 3) 4 5 ≡ None)
firsts = (refl, refl, refl)

-- so late that it is 1 at ticks 3 and 4: a tick early; and no clock of this assertion is 1 at all ticks
offset : (offset_of (periods 4 2) clock (2, 1) 6 (bits "000110") ≡ Some 1)
    × (offset_of (periods 4 2) clock (2, 1) 6 (bits "001100") ≡ Some 0)
    × (offset_of (periods 4 2) clock (2, 1) 6 (bits "000001") ≡ Some 3)
    × (offset_of (periods 4 2) clock (2, 1) 6 (bits "111111") ≡ None)
unfolding back
offset = (refl, refl, refl, refl)

offsets : (offsets_text small trace all ≡ codes "  OFFSET CK<0> -1 OF -2:1\n") × (offsets_text small trace (only 5) ≡ [])
unfolding digits back
offsets = (refl, refl)

-- a clock without skew has no line
signs : (offset_line small 0 (2, 1) (Some 3) ≡ codes "  OFFSET CK<0> 1 OF -2:1\n")
    × (offset_line small 0 (0, 5) (Some 3) ≡ codes "  OFFSET CK<0> 3 OF 0:5\n")
    × (offset_line small 0 (2, 1) (Some 2) ≡ codes "  OFFSET CK<0> 0 OF -2:1\n")
    × (offset_line small 0 (0, 0) (Some 0) ≡ [])
unfolding digits
signs = (refl, refl, refl, refl)

-- ---- inputs

-- in the order of names; of a net that is stable for a time only where the case sets it
inputs : inputs_text small [] trace all ≡ codes "  INPUT D<0> = 1\n  INPUT SEL<0> = 0\n"
unfolding digits
inputs = refl

inputs_set : inputs_text small (record { net = 3; one = false } ∷ []) trace all
    ≡ codes "  INPUT D<0> = 1\n  INPUT S<0> = 0\n  INPUT SEL<0> = 0\n"
unfolding digits
inputs_set = refl

inputs_within : inputs_text small [] trace (only 2) ≡ codes "  INPUT SEL<0> = 0\n"
unfolding digits
inputs_within = refl

-- ---- steps

-- by tick, then by name
steps : steps_text small trace all 5 ≡ codes "  NET CK<0> RISES AT 3\n  NET Y<0> RISES AT 4\n  NET CK<0> FALLS AT 5\n"
unfolding digits
steps = refl

-- to the last tick alone, of the cone alone, and no more than a period
steps_within : (steps_text small trace all 4 ≡ codes "  NET CK<0> RISES AT 3\n  NET Y<0> RISES AT 4\n")
    × (steps_text small trace (only 0) 5 ≡ codes "  NET CK<0> RISES AT 3\n  NET CK<0> FALLS AT 5\n")
    × (steps_text (small_of (periods 2 1)) trace all 5 ≡ codes "  NET Y<0> RISES AT 4\n  NET CK<0> FALLS AT 5\n")
unfolding digits
steps_within = (refl, refl, refl)
