-- What the pins of an instance show in a run, which of their steps lie in it, and waves that permit
-- them, worked out on paper.
use Rattle.std.proofs.Common.{◌≡◌, ℕ, true, false, List, [], ◌∷◌, codes, None, refl}
use Rattle.scald_base.specs.Clock.{back}
use Rattle.scald_base.specs.declared.assertion.AssertSpec.TheVariants.{None as Unasserted}
use Rattle.vector_names.specs.declared.bits.Target.TheVariants.{Net as OnNet, Constant}
use Rattle.step_values.specs.declared.value.Value.{Value}
use Rattle.step_values.specs.declared.value.Value.TheVariants.{Zero, R, F}
use Rattle.wave_core.specs.Slots.{earlier}
use Rattle.skew_algebra.specs.Wave.{skewed, normal, moved}
use Rattle.element_kinds.specs.declared.kind.Kind.TheVariants.{And, Buf}
use Rattle.flat_circuit.specs.declared.instance.Pin.{Pin}
use Rattle.flat_circuit.specs.declared.instance.Instance.{Instance}
use Rattle.flat_circuit.specs.Circuit.{Circuit}
use Rattle.flat_circuit.specs.Run.{Run, Choice}
use Rattle.pin_waves.proofs.Tests.{shown}
use Rattle.fixpoint_engine.specs.Waves.{waves_of}
use Rattle.fixpoint_engine.specs.Pins.{pin_at}
use Rattle.fixpoint_engine.proofs.Tables.{run_of, steps_from, pins_permitted}
use Rattle.fixpoint_engine.proofs.ExamplesInterface.{bounds, net, element, on, circuit}

abbrev not_on : ℕ → Pin
not_on i = record { target = OnNet i; inverted = true; hold = false }

abbrev tied : Pin
tied = record { target = Constant true; inverted = false; hold = false }

abbrev not_tied : Pin
not_tied = record { target = Constant true; inverted = true; hold = false }

abbrev choice : List ℕ → Choice
choice wires = record { delay = 0; rise = 0; fall = 0; wires = wires }

-- ---- what pins show: a wire's delay later, and what the net was at tick 0 before

abbrev gate : Instance
gate = element And (bounds 0 0) (on 0 ∷ not_on 0 ∷ on 1 ∷ tied ∷ not_tied ∷ []) None

abbrev run : Run
run = run_of 8 [] ("10110000" ∷ "01111111" ∷ [])

abbrev pin : ℕ → List ℕ
pin i = shown (pin_at run gate (choice (2 ∷ 0 ∷ 1 ∷ 0 ∷ 0 ∷ [])) i) 8

two_later : pin 0 ≡ codes "11101100"
two_later = refl

complemented : pin 1 ≡ codes "01001111"
complemented = refl

one_later : pin 2 ≡ codes "00111111"
one_later = refl

constant : pin 3 ≡ codes "11111111"
constant = refl

complemented_constant : pin 4 ≡ codes "00000000"
complemented_constant = refl

-- ---- which ticks of a step count, of 0 to 9, in a run of 8: the net has both bits of it, a wire
-- before

abbrev steps : ℕ → ℕ → List ℕ
steps i start = shown (steps_from run (choice (2 ∷ 0 ∷ [])) i start) 10

through_a_wire : steps 0 0 ≡ codes "0001111100"
through_a_wire = refl

at_once : steps 1 0 ≡ codes "0111111100"
at_once = refl

from_one : steps 1 1 ≡ codes "0111111100"
from_one = refl

from_two : steps 1 2 ≡ codes "0011111100"
from_two = refl

from_three : steps 0 3 ≡ codes "0001111100"
from_three = refl

from_four : steps 0 4 ≡ codes "0000111100"
from_four = refl

from_the_last : steps 0 7 ≡ codes "0000000100"
from_the_last = refl

past_the_last : steps 0 8 ≡ codes "0000000000"
past_the_last = refl

-- ---- waves at pins that permit what they show: from which ticks on, of 0 to 5

-- a wire of two ticks
abbrev wired : Circuit
wired = circuit (net Unasserted (bounds 2 2) None ∷ []) []

abbrev permitted : List Value → Run → List ℕ
permitted cells a_run =
    shown (pins_permitted wired (waves_of (skewed cells 0 ∷ [])) a_run
    (element Buf (bounds 0 0) (on 0 ∷ []) None) (choice (2 ∷ []))) 6

-- the net falls at tick 1, as its wave has it, and the pin at tick 3; what the pin shows before
-- does not count
falls : permitted (Zero ∷ F ∷ Zero ∷ Zero ∷ Zero ∷ Zero ∷ Zero ∷ Zero ∷ [])
    (run_of 8 [] ("10000000" ∷ [])) ≡ codes "111111"
unfolding back earlier normal moved
falls = refl

-- it falls at tick 2, and at tick 1 its wave lets it be 0 alone, so the pin breaks that at tick 3
is_high : permitted (Zero ∷ Zero ∷ F ∷ Zero ∷ Zero ∷ Zero ∷ Zero ∷ Zero ∷ [])
    (run_of 8 [] ("11000000" ∷ [])) ≡ codes "000011"
unfolding back earlier normal moved
is_high = refl

-- a rise of the net at tick 5 reaches the pin at tick 7, which is not in a run of seven ticks
in_eight_ticks : permitted (Zero ∷ Zero ∷ R ∷ F ∷ Zero ∷ Zero ∷ Zero ∷ Zero ∷ [])
    (run_of 8 [] ("00000100" ∷ [])) ≡ codes "000000"
unfolding back earlier normal moved
in_eight_ticks = refl

in_seven_ticks : permitted (Zero ∷ Zero ∷ R ∷ F ∷ Zero ∷ Zero ∷ Zero ∷ Zero ∷ [])
    (run_of 7 [] ("0000010" ∷ [])) ≡ codes "111111"
unfolding back earlier normal moved
in_seven_ticks = refl
