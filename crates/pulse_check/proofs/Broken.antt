-- A circuit, a run of it whose input keeps its assertion, and a break of each level in that run
-- from tick 1 on, which is the tick that is printed for the circuit: what is promised not to be is
-- false of it.
use Rattle.std.proofs.Common.{ℕ, Bool, true, false, [], ◌∷◌, refl, codes, None}
use Rattle.scald_base.specs.Clock.{back}
use Rattle.scald_base.specs.declared.assertion.ClockSpec.{ClockSpec}
use Rattle.scald_base.specs.declared.assertion.AssertSpec.TheVariants.{Precision}
use Rattle.element_kinds.specs.declared.kind.Kind.TheVariants.{MinPulse}
use Rattle.flat_circuit.specs.declared.instance.Instance.{Instance}
use Rattle.flat_circuit.specs.declared.limits.Limits.TheVariants.{Pulses}
use Rattle.flat_circuit.specs.declared.net.Net.{Net}
use Rattle.flat_circuit.specs.Circuit.{Circuit}
use Rattle.flat_circuit.specs.Run.{Run, IsRun}
use Rattle.flat_circuit.proofs.RunTables.{bounds, header, on, bits, late}
use Rattle.flat_circuit.proofs.RunTest.{run_tells}
use Rattle.fixpoint_engine.specs.Interface.{MeetsInterface}
use Rattle.fixpoint_engine.proofs.Tables.{inputs_is}
use Rattle.fixpoint_engine.proofs.WrittenRuns.{element, run_of}
use Rattle.pulse_check.specs.Break.{BreaksPulse}
use Rattle.pulse_check.proofs.Literal.{found}

-- ---- the circuit: a clock that is high for two ticks of eight, if three are asked for, and low
-- for six, if seven are

abbrev pub clock : ClockSpec
clock = record { spans = record { lo = 2; hi = 4 } ∷ []; low = false; skew = None }

abbrev pub net : Net
net =
    record {
      name = codes "CK";
      bit = 0;
      spec = Precision clock;
      wire = bounds 0 0;
      driver = None;
    }

abbrev pub checker : Instance
checker = element MinPulse (Pulses 3 7) (on 0 ∷ [])

abbrev pub circuit : Circuit
circuit = record { header = header; nets = net ∷ []; instances = checker ∷ []; order = 0 ∷ [] }

-- ---- the run, whose input keeps its assertion

abbrev pub run : Run
run = run_of 14 (0 ∷ []) (bits "00110000001100" ∷ [])

pub is_run : IsRun circuit run
is_run = (run_tells circuit run).0 refl

pub meets : MeetsInterface circuit run
unfolding back
meets = inputs_is circuit run refl

-- ---- what it breaks from tick 1 on

abbrev Breaks : Bool → ℕ → Type 0
Breaks level from = BreaksPulse circuit run 0 level from

pub breaks_high : Breaks true 1
breaks_high = record {
  instance = checker;
  choice = late 0 (0 ∷ []);
  instance_is = refl;
  choice_is = refl;
  breaks = record { start = 2; end = 4; at = search found };
}

pub breaks_low : Breaks false 1
breaks_low = record {
  instance = checker;
  choice = late 0 (0 ∷ []);
  instance_is = refl;
  choice_is = refl;
  breaks = record { start = 4; end = 10; at = search found };
}
