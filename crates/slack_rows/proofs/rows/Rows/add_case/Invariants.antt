use Rattle.std.proofs.Common.{◌≡◌, List}
use Rattle.fixpoint_engine.specs.Waves.{waves_of}
use Rattle.critical_paths.specs.Known.{Knows}
use Rattle.critical_paths.specs.Reached.{KnowsArrivals}
use Rattle.slack_rows.specs.Exact.{AreOfKnown}
use Rattle.slack_rows.specs.Known.{AreKnown, SlacksKnown}
use Rattle.slack_rows.specs.Limit.{Case}
use Rattle.slack_rows.specs.Rows.{all_limits}
use Rattle.slack_rows.proofs.Exactly.{PassedExactly}
use Rattle.slack_rows.proofs.Sided.{PassedAlike}
use Rattle.slack_rows.proofs.Stepwise.{Passed}
use Rattle.slack_rows.proofs.rows.Rows.add_case.Given as goal

-- the limits before the place have the new case too
abbrev pub invariant-loop-place : goal.invariant-loop-place
invariant-loop-place g l =
    record {
      parameters : l.self.parameters ≡ l.fn.self.parameters;
      cases : l.self.cases ≡ l.fn.self.cases;
      period : l.self.period ≡ l.fn.self.period;
      knows : Knows l.view.circuit.now (waves_of l.view.waves.now) l.self.paths.nodes l.self.paths.met.entries;
      arrives : KnowsArrivals l.view.circuit.now (waves_of l.view.waves.now) l.self.paths;
      slacks : SlacksKnown l.view.circuit.now (waves_of l.view.waves.now) l.subject l.slacks;
      own : AreOfKnown l.view.circuit.now (waves_of l.view.waves.now) l.subject l.slacks;
      exact : (cases : List Case) (one : Case) → one.waves ≡ waves_of l.view.waves.now →
          AreKnown l.view.circuit.now cases l.fn.self.parameters l.fn.self.least l.fn.self.cases l.fn.self.sets.keys →
          PassedExactly l.view.circuit.now cases one l.fn.self.parameters l.self.least l.place;
      passed : (cases : List Case) (one : Case) → one.waves ≡ waves_of l.view.waves.now →
          AreKnown l.view.circuit.now cases l.fn.self.parameters l.fn.self.least l.fn.self.cases l.fn.self.sets.keys →
          Passed l.view.circuit.now cases one l.fn.self.parameters l.self.least l.self.sets.keys l.place;
      alike : (cases : List Case) (one : Case) → one.waves ≡ waves_of l.view.waves.now →
          AreKnown l.view.circuit.now cases l.fn.self.parameters l.fn.self.least l.fn.self.cases l.fn.self.sets.keys →
          (are : l.fn.self.parameters ≡ all_limits l.view.circuit.now) →
          PassedAlike l.view.circuit.now cases one l.fn.self.parameters are l.self.least l.place l.subject l.slacks;
    }
