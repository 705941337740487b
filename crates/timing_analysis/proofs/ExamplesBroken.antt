-- What is promised never to break is false of runs that break, one kind of break at a time: at the
-- printed tick itself, a constraint of an instance and the assertion of a driven net; and from it on,
-- a pulse of either level.
use Rattle.std.proofs.Common.{ℕ, true, false, [], refl}
use Rattle.std.proofs.lemmas.List.Elements.{All-nil}
use Rattle.flat_circuit.specs.Circuit.{Circuit}
use Rattle.flat_circuit.specs.Run.{Run, IsRun}
use Rattle.fixpoint_engine.specs.Waves.{Waves}
use Rattle.fixpoint_engine.specs.Interface.{MeetsInterface}
use Rattle.fixpoint_engine.specs.Reach.{reach}
use Rattle.case_analysis.specs.Tick.{tick}
use Rattle.point_check.proofs.Broken.{circuit, run, is_run, meets, breaks_setup_hold, breaks_rise_fall, breaks_mark, breaks_net}
use Rattle.pulse_check.proofs.Broken.{circuit as pulsed, run as pulses, is_run as is_pulses, meets as pulses_meet, breaks_high, breaks_low}
use Rattle.timing_analysis.specs.Case.{Case}
use Rattle.timing_analysis.specs.Promise.{Breaks, by_instance, by_net, IsUnbroken, KeepsFaultless}

-- ---- a case without values that settles at once

abbrev at_once : Waves → Case
at_once waves = record { listed = record { number = 0; values = [] }; rounds = 0; waves = waves }

broken : (c : Circuit) (r : Run) → IsRun c r → MeetsInterface c r → (base : ℕ) (waves : Waves) →
    Breaks c r (tick (reach c) base 0) → ¬ IsUnbroken c base (at_once waves)
broken c r is keeps base waves breaks unbroken = unbroken r is keeps (All-nil _) breaks

-- The base settles in one round, and one tick is a reach: tick 2 is printed, at which all breaks.
broken_edge : (waves : Waves) → ¬ IsUnbroken circuit 1 (at_once waves)
broken_edge waves = broken circuit run is_run meets 1 waves (by_instance 1 breaks_setup_hold)

broken_while_high : (waves : Waves) → ¬ IsUnbroken circuit 1 (at_once waves)
broken_while_high waves =
    broken circuit run is_run meets 1 waves (by_instance 2 breaks_rise_fall)

broken_mark : (waves : Waves) → ¬ IsUnbroken circuit 1 (at_once waves)
broken_mark waves = broken circuit run is_run meets 1 waves (by_instance 3 breaks_mark)

broken_net : (waves : Waves) → ¬ IsUnbroken circuit 1 (at_once waves)
broken_net waves = broken circuit run is_run meets 1 waves (by_net 2 breaks_net)

-- ---- where no fault is listed

kept_edge : ¬ KeepsFaultless circuit [] [] 2
kept_edge keeps = keeps.instances run 1 is_run meets (All-nil _) refl breaks_setup_hold

kept_net : ¬ KeepsFaultless circuit [] [] 2
kept_net keeps = keeps.nets run 2 is_run meets (All-nil _) refl breaks_net

kept_high : ¬ KeepsFaultless pulsed [] [] 1
kept_high keeps = keeps.pulses pulses 0 true is_pulses pulses_meet (All-nil _) refl breaks_high

kept_low : ¬ KeepsFaultless pulsed [] [] 1
kept_low keeps = keeps.pulses pulses 0 false is_pulses pulses_meet (All-nil _) refl breaks_low
