-- A circuit, a run of it whose inputs keep their assertions, and a break of each kind in that run
-- from tick 2 on, which is the tick that is printed for the circuit: what is promised not to be is
-- false of it.
use Rattle.std.proofs.Common.{ℕ, Bool, false, List, [], ◌∷◌, refl, codes, Option, Some, None}
use Rattle.scald_base.specs.Clock.{back}
use Rattle.scald_base.specs.declared.assertion.ClockSpec.{ClockSpec}
use Rattle.scald_base.specs.declared.assertion.AssertSpec.{AssertSpec}
use Rattle.scald_base.specs.declared.assertion.AssertSpec.TheVariants.{None as Unasserted, Precision, Stable}
use Rattle.wave_core.specs.Slots.{earlier}
use Rattle.skew_algebra.specs.Wave.{normal}
use Rattle.element_kinds.specs.declared.kind.Kind.TheVariants.{Buf, And, SetupHold, RiseFall}
use Rattle.flat_circuit.specs.declared.instance.Instance.{Instance}
use Rattle.flat_circuit.specs.declared.net.Net.{Net}
use Rattle.flat_circuit.specs.Circuit.{Circuit}
use Rattle.flat_circuit.specs.Run.{Run, Choice, IsRun}
use Rattle.flat_circuit.proofs.RunTables.{bounds, header, on, element, checker, bits, late}
use Rattle.flat_circuit.proofs.RunTest.{run_tells}
use Rattle.fixpoint_engine.specs.Interface.{MeetsInterface}
use Rattle.fixpoint_engine.proofs.Tables.{inputs_is}
use Rattle.point_check.specs.Break.{BreaksInstance, BreaksNet}
use Rattle.point_check.proofs.Literal.{holding, high_to, has_mark, found, net_breaks}

-- ---- the circuit

abbrev pub clock : ClockSpec
clock = record { spans = record { lo = 2; hi = 4 } ∷ []; low = false; skew = None }

abbrev pub still : ℕ → ℕ → AssertSpec
still lo hi = Stable (record { lo = lo; hi = hi } ∷ [])

abbrev pub net : List ℕ → AssertSpec → Option ℕ → Net
net name spec driver =
    record { name = name; bit = 0; spec = spec; wire = bounds 0 0; driver = driver }

abbrev pub nets : List Net
nets =
    net (codes "CK") (Precision clock) None ∷ net (codes "D") (still 2 6) None
    ∷ net (codes "Q") (still 1 6) (Some 0) ∷ net (codes "G") Unasserted (Some 3) ∷ []

abbrev pub labelled : List ℕ → Instance → Instance
labelled label j = record j { path = label }

abbrev pub buffer : Instance
buffer = labelled (codes "b") (element Buf (bounds 0 0) (on 1 ∷ []) 2)

abbrev pub about_the_edge : Instance
about_the_edge = labelled (codes "c") (checker SetupHold (on 0 ∷ on 1 ∷ []))

abbrev pub while_high : Instance
while_high = labelled (codes "d") (checker RiseFall (on 0 ∷ on 1 ∷ []))

abbrev pub gate : Instance
gate = labelled (codes "g") (element And (bounds 0 0) (holding (on 0) ∷ on 1 ∷ []) 3)

abbrev pub instances : List Instance
instances = buffer ∷ about_the_edge ∷ while_high ∷ gate ∷ []

abbrev pub circuit : Circuit
circuit = record { header = header; nets = nets; instances = instances; order = 0 ∷ 1 ∷ 3 ∷ 2 ∷ [] }

-- ---- the run: the input changes at tick 2, with the clock's rise, and keeps its assertion

abbrev ck : List Bool
ck = bits "00110000"

abbrev d : List Bool
d = bits "00111111"

abbrev pub one_wire : Choice
one_wire = late 0 (0 ∷ [])

abbrev pub two_wires : Choice
two_wires = late 0 (0 ∷ 0 ∷ [])

abbrev pub choices : List Choice
choices = one_wire ∷ two_wires ∷ two_wires ∷ two_wires ∷ []

abbrev pub run : Run
run = record { ticks = 8; choices = choices; bits = ck ∷ d ∷ d ∷ ck ∷ [] }

pub is_run : IsRun circuit run
is_run = (run_tells circuit run).0 refl

pub meets : MeetsInterface circuit run
unfolding back
meets = inputs_is circuit run refl

-- ---- what it breaks from tick 2 on

pub breaks_setup_hold : BreaksInstance circuit run 1 2
breaks_setup_hold = record {
  instance = about_the_edge;
  choice = two_wires;
  instance_is = refl;
  choice_is = refl;
  breaks = record { edge = 2; change = 2; at = search found };
}

pub breaks_rise_fall : BreaksInstance circuit run 2 2
breaks_rise_fall = record {
  instance = while_high;
  choice = two_wires;
  instance_is = refl;
  choice_is = refl;
  breaks = record { edge = 2; fall = 4; change = 2; at = search (found, high_to) };
}

pub breaks_mark : BreaksInstance circuit run 3 2
breaks_mark = record {
  instance = gate;
  choice = two_wires;
  instance_is = refl;
  choice_is = refl;
  breaks = record { marked = 0; pin = 1; tick = 2; at = search (found, has_mark) };
}

pub breaks_net : BreaksNet circuit run 2 2
unfolding back earlier normal
breaks_net = net_breaks 0 2 refl (search found)
