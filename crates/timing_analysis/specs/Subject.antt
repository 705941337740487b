-- What is evaluated: a circuit, its cases, the classes in which its nets are evaluated, the nets
-- that all cases reach, if that is known, and its reach.
use Rattle.std.specs.Prelude.{◌≡◌, ◌≤◌, IfSome, List, length}
use Rattle.std.specs.List.{All}
use Rattle.fixpoint_engine.specs.NetClasses.{AreClasses}
use Rattle.fixpoint_engine.specs.Reach.{reach}
use Rattle.flat_circuit.specs.declared.case.CaseValue.{CaseValue}
use Rattle.case_analysis.specs.Case.{NetsExist}
use Rattle.case_analysis.specs.Reached.{AreReached}
use Rattle.timing_analysis.specs.declared.subject.Subject.{Subject}

-- Its cases are few, their nets exist, its classes are stable, and its reach is that of the
-- circuit, which is at most twice the longest delay and one more.
pub record IsSubject (s : Subject) : Type 0 where
  pub few : length s.cases ≤ 256
  pub exist : All (NetsExist s.circuit) s.cases
  pub classes : AreClasses s.circuit s.cases s.classes
  pub reached :
      All (λ (case : List CaseValue). IfSome s.reached (AreReached s.circuit case)) s.cases
  pub reach_is : s.reach ≡ reach s.circuit
  pub reach_bounded : s.reach ≤ 8191
