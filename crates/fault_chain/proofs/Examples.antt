-- Chains over a period of eight slots, worked out on paper.
use Rattle.std.specs.Prelude.{◌≡◌, ℕ, false, true, List, [], ◌∷◌, codes, Option, None, Some}
use Rattle.std.specs.Fmt.{digits}
use Rattle.std.proofs.Common.{refl}
use Rattle.scald_base.specs.Clock.{back}
use Rattle.scald_base.specs.Time.{Bounds, Header}
use Rattle.scald_base.specs.declared.assertion.AssertSpec.TheVariants.{None as Unasserted}
use Rattle.vector_names.specs.declared.bits.Target.TheVariants.{Net as OnNet, Constant}
use Rattle.step_values.specs.declared.value.Value.{Value}
use Rattle.step_values.specs.declared.value.Value.TheVariants.{Zero, One, S, C, R, F, U}
use Rattle.wave_core.specs.Slots.{earlier}
use Rattle.skew_algebra.specs.Wave.{Wave, skewed}
use Rattle.element_kinds.specs.declared.kind.Kind.{Kind}
use Rattle.element_kinds.specs.declared.kind.Kind.TheVariants.{And, Buf, Reg, RegRs, SetupHold, MinPulse}
use Rattle.flat_circuit.specs.declared.instance.Pin.{Pin}
use Rattle.flat_circuit.specs.declared.instance.Instance.{Instance}
use Rattle.flat_circuit.specs.declared.limits.Limits.TheVariants.{None as Unlimited}
use Rattle.flat_circuit.specs.declared.net.Net.{Net}
use Rattle.flat_circuit.specs.declared.fault.PointKind.TheVariants.{Setup}
use Rattle.flat_circuit.specs.declared.fault.Fault.TheVariants.{Point, Width, Hazard, Assertion}
use Rattle.flat_circuit.specs.Circuit.{Circuit}
use Rattle.flat_circuit.proofs.RunTables.{limits_of}
use Rattle.fixpoint_engine.specs.Waves.{Waves, waves_of}
use Rattle.fault_chain.specs.declared.chain.Link.{Link}
use Rattle.fault_chain.specs.declared.chain.End.TheVariants.{Level, Repeat, Undriven, Both}
use Rattle.fault_chain.specs.declared.chain.Chain.{Chain}
use Rattle.fault_chain.specs.Chain.{chain_of, first_link, next_link, through_first}
use Rattle.fault_chain.specs.Report.{end_line, link_line, number_line}

abbrev header : Header
header = record { units = 8; ticks = 1; wire = record { min = 0; max = 0 }; pskew = (0, 0); cskew = (0, 0) }

abbrev net : List ℕ → Bounds → Option ℕ → Net
net name wire driver = record { name = name; bit = 0; spec = Unasserted; wire = wire; driver = driver }

abbrev pin : ℕ → Pin
pin i = record { target = OnNet i; inverted = false; hold = false }

abbrev constant : Pin
constant = record { target = Constant true; inverted = false; hold = false }

abbrev late : ℕ → ℕ → Bounds
late least greatest = record { min = least; max = greatest }

-- an element of this delay that drives net 1
abbrev element : Kind → Bounds → List Pin → Instance
element kind delay pins =
    record {
      path = codes "b1";
      bit = 0;
      kind = kind;
      delay = delay;
      split = None;
      limits = Unlimited;
      pins = pins;
      out = Some (OnNet 1);
      out_inverted = false;
      place = record { line = 4; col = 1 };
    }

-- its input A, whose wire has these bounds, and its output X
abbrev circuit : Bounds → Instance → Circuit
circuit wire j =
    record { header = header; nets = net (codes "A") wire None ∷ net (codes "X") (late 0 0) (Some 0) ∷ []; instances = j ∷ []; order = 0 ∷ 1 ∷ [] }

abbrev eight : Value → Value → Value → Value → Value → Value → Value → Value → Wave Value
eight a b c d e f g h = skewed (a ∷ b ∷ c ∷ d ∷ e ∷ f ∷ g ∷ h ∷ []) 0

abbrev link : ℕ → ℕ → Value → Link
link net slot value = record { net = net; slot = slot; value = value }

-- A rises in slot 2 and falls in slot 4, and X may change in slot 6
abbrev changing : Waves
changing = waves_of (eight Zero Zero R One F Zero Zero Zero ∷ eight S S S S S S C S ∷ [])

-- the chain of an assertion's fault in slot 6
abbrev chain_in : Bounds → Instance → Waves → Chain
chain_in wire j ws = chain_of (circuit wire j) ws (Assertion 1 6 67)

the_latest_change : chain_in (late 0 0) (element Buf (late 1 4) (pin 0 ∷ [])) changing
    ≡ record { links = link 1 6 C ∷ link 0 4 F ∷ []; end = Undriven }
unfolding chain_of back earlier
the_latest_change = refl

through_the_wire : chain_in (late 1 1) (element Buf (late 2 4) (pin 0 ∷ [])) changing
    ≡ record { links = link 1 6 C ∷ link 0 2 R ∷ []; end = Undriven }
unfolding chain_of back earlier
through_the_wire = refl

-- a register listens to its clock and not to its input
not_the_input : chain_in (late 0 0) (element Reg (late 0 4) (pin 0 ∷ pin 1 ∷ [])) changing
    ≡ record { links = link 1 6 C ∷ link 0 4 F ∷ []; end = Undriven }
unfolding chain_of back earlier
not_the_input = refl

round_a_loop : chain_in (late 0 0) (element Buf (late 1 1) (pin 1 ∷ [])) (waves_of (eight S S S S S S S S ∷ eight U U U U U U U U ∷ []))
    ≡ record { links = link 1 6 U ∷ link 1 5 U ∷ []; end = Repeat }
unfolding chain_of back earlier
round_a_loop = refl

set_and_reset : chain_in (late 0 0) (element RegRs (late 0 0) (pin 0 ∷ pin 0 ∷ pin 0 ∷ pin 0 ∷ [])) (waves_of (eight One One One One One One One One ∷ eight C C C C C C C C ∷ []))
    ≡ record { links = link 1 6 C ∷ []; end = Both }
unfolding chain_of back earlier
set_and_reset = refl

-- of two pins the first that changes is taken, and a constant never does
the_second_pin : chain_in (late 0 0) (element And (late 0 0) (constant ∷ pin 0 ∷ pin 1 ∷ [])) changing
    ≡ record { links = link 1 6 C ∷ link 1 6 C ∷ []; end = Repeat }
unfolding chain_of back earlier
the_second_pin = refl

at_a_level : chain_in (late 0 0) (element Buf (late 1 1) (pin 0 ∷ [])) (waves_of (eight One One One One One One One One ∷ eight One One One One One One One One ∷ []))
    ≡ record { links = link 1 6 One ∷ []; end = Level }
unfolding chain_of back earlier
at_a_level = refl

-- ---- which pin a link goes through

-- Over A and X, late by so much: in slot 6 A shows its fall of slot 4, and X its own change.
abbrev through_pins : ℕ → Bounds → List Pin → Option Link
through_pins p d pins =
    through_first (circuit (late 0 0) (element And (late 0 0) [])) changing p d pins

both_may : through_pins 6 (late 0 2) (pin 0 ∷ pin 1 ∷ []) ≡ Some (link 0 4 F)
unfolding back earlier
both_may = refl

-- the first pin is taken, whichever net it is on
both_may_turned : through_pins 6 (late 0 2) (pin 1 ∷ pin 0 ∷ []) ≡ Some (link 1 6 C)
unfolding back earlier
both_may_turned = refl

the_second_alone : through_pins 6 (late 0 1) (pin 0 ∷ pin 1 ∷ []) ≡ Some (link 1 6 C)
unfolding back earlier
the_second_alone = refl

the_first_alone : through_pins 5 (late 0 1) (pin 0 ∷ pin 1 ∷ []) ≡ Some (link 0 4 F)
unfolding back earlier
the_first_alone = refl

none_may : through_pins 5 (late 0 0) (pin 0 ∷ pin 1 ∷ []) ≡ None
unfolding back earlier
none_may = refl

-- an element listens to the pins after its input too: those of a register's set and reset
past_the_input : next_link (circuit (late 0 0) (element RegRs (late 0 0) [])) changing
    (element RegRs (late 0 2) (constant ∷ pin 1 ∷ constant ∷ pin 0 ∷ [])) 6 ≡ Some (link 0 4 F)
unfolding back earlier
past_the_input = refl

-- ---- faults of checkers and of marks

-- Its clock or pulses are on A, and its input is on X, whose wire takes 1 to 2 ticks. Nothing drives either.
abbrev checked : Kind → List Pin → Circuit
checked kind pins =
    record {
      header = header;
      nets = net (codes "A") (late 0 0) None ∷ net (codes "X") (late 1 2) None ∷ [];
      instances = record {
        path = codes "c1";
        bit = 0;
        kind = kind;
        delay = late 0 0;
        split = None;
        limits = limits_of kind 2;
        pins = pins;
        out = None;
        out_inverted = false;
        place = record { line = 5; col = 1 };
      } ∷ [];
      order = 0 ∷ 1 ∷ [];
    }

-- X changes in slot 6, which its pin shows in slots 7 and 0
through_the_input : chain_of (checked SetupHold (pin 0 ∷ pin 1 ∷ [])) changing (Point Setup 0 1 0 67)
    ≡ record { links = link 1 6 C ∷ []; end = Undriven }
unfolding chain_of back earlier
through_the_input = refl

at_the_pulse : chain_of (checked MinPulse (pin 0 ∷ [])) changing (Width 0 true 2 2)
    ≡ record { links = link 0 2 R ∷ []; end = Undriven }
unfolding chain_of back earlier
at_the_pulse = refl

through_the_named_pin : chain_of (checked And (pin 0 ∷ pin 1 ∷ [])) changing (Hazard 0 7 1)
    ≡ record { links = link 1 6 C ∷ []; end = Undriven }
unfolding chain_of back earlier
through_the_named_pin = refl

-- no change shows in slot 5, in which there is no such fault
nothing_before : first_link (checked SetupHold (pin 0 ∷ pin 1 ∷ [])) changing (Point Setup 0 6 5 83) ≡ None
unfolding back earlier
nothing_before = refl

-- ---- lines

a_link : link_line (circuit (late 0 0) (element Buf (late 1 1) (pin 0 ∷ []))) (link 1 6 C) ≡ codes "LINK X<0> SLOT 6 VALUE C\n"
unfolding digits link_line
a_link = refl

an_end : end_line Undriven ≡ codes "END UNDRIVEN\n"
unfolding end_line
an_end = refl

a_case : number_line 12 ≡ codes "CASE 12\n"
unfolding digits number_line
a_case = refl
