-- What an answer holds while the cases come one after the other.
use Rattle.std.specs.Prelude.{◌≡◌, ℕ, ◌+◌, true, false, List, [], ◌∷◌, ◌++◌, length, Option, Some, None}
use Rattle.std.specs.List.{sum_by}
use Rattle.flat_circuit.specs.declared.case.CaseValue.{CaseValue}
use Rattle.flat_circuit.specs.declared.fault.Fault.{Fault}
use Rattle.flat_circuit.specs.Circuit.{Circuit}
use Rattle.fixpoint_engine.specs.Rounds.{SettlesAt}
use Rattle.fixpoint_engine.specs.declared.rounds.EngineEnd.{EngineEnd}
use Rattle.fixpoint_engine.specs.declared.rounds.EngineEnd.TheVariants.{Unsettled as UnsettledEnd}
use Rattle.case_analysis.specs.Base.{base_round}
use Rattle.timing_analysis.specs.Case.{Case, fault_count, listed_cases, printed_tick}
use Rattle.listing.specs.Answer.{unsettled_line}
use Rattle.listing.specs.Fault.{fault_line}
use Rattle.listing.specs.Head.{head}
use Rattle.program_call.specs.Reporter.{OfCases}
use Rattle.narrowing.specs.Constraint.{constraint_of}
use Rattle.trace_tool.specs.Trace.{trace_text}
use Rattle.fault_decider.specs.declared.outcome.DecideOutcome.{DecideOutcome}
use Rattle.fault_decider.specs.declared.outcome.DecideOutcome.TheVariants.{Unsettled}
use Rattle.fault_decider.specs.declared.answer.Answer.{Answer}
use Rattle.fault_decider.specs.declared.answer.Counts.{Counts}
use Rattle.fault_decider.specs.declared.showing.Showing.{Showing}
use Rattle.fault_decider.specs.declared.verdict.Verdict.{Verdict}
use Rattle.fault_decider.specs.declared.verdict.Verdict.TheVariants.{Shown, Refuted, Window, Open}
use Rattle.fault_decider.specs.Decided.{AreCasesDecided, AreDecided, Concluded, IsNumbered, open_one, refuted_one, shown_one}
use Rattle.fault_decider.specs.Lines.{AreLines}
use Rattle.fault_decider.specs.Verdict.{IsVerdict}

-- ---- a report

-- the counts are those of the verdicts
pub record AreCounted (counts : Counts) (vs : List Verdict) : Type 0 where
  pub shown : counts.shown ≡ sum_by shown_one vs
  pub refuted : counts.refuted ≡ sum_by refuted_one vs
  pub left_open : counts.left_open ≡ sum_by open_one vs

-- A verdict is counted, and the fault's line and those of the verdict stand at the end.
pub record IsTold (c : Circuit) (values : List CaseValue) (f : Fault) (v : Verdict)
    (old new : Answer) : Type 0 where
  pub said : List ℕ
  pub are : AreLines c values (constraint_of f) v said
  pub text : new.bytes ≡ old.bytes ++ fault_line c f ++ said
  pub counted : (vs : List Verdict) → AreCounted old.counts vs →
      AreCounted new.counts (vs ++ v ∷ [])

-- The same of each of these faults, with a verdict that it has in the case.
pub record AreTold (c : Circuit) (values : List CaseValue) (printed : ℕ) (fs : List Fault)
    (old new : Answer) : Type 0 where
  pub verdicts : List Verdict
  pub lines : List ℕ
  pub are : AreDecided c values printed fs verdicts lines
  pub text : new.bytes ≡ old.bytes ++ lines
  pub counted : (vs : List Verdict) → AreCounted old.counts vs →
      AreCounted new.counts (vs ++ verdicts)

-- a report so far, of these cases
pub record IsReport (version : ℕ) (c : Circuit) (base : ℕ) (answer : Answer) (cases : List Case) :
    Type 0 where
  pub verdicts : List Verdict
  pub lines : List ℕ
  pub are : AreCasesDecided c base cases verdicts lines
  pub text : answer.bytes ≡ head version c ++ lines
  pub counted : AreCounted answer.counts verdicts

-- ---- the trace of one fault

-- what a verdict adds if its fault is wanted: the trace of the run that shows it, if one does
abbrev pub TraceAdded : Circuit → Verdict → Answer → Answer → Type 0
TraceAdded c (Shown s) old new =
    (new.is_traced ≡ true) × (new.bytes ≡ old.bytes ++ trace_text c s.trace)
TraceAdded c (Refuted from leaves) old new =
    (new.is_traced ≡ old.is_traced) × (new.bytes ≡ old.bytes)
TraceAdded c (Window from) old new = (new.is_traced ≡ old.is_traced) × (new.bytes ≡ old.bytes)
TraceAdded c Open old new = (new.is_traced ≡ old.is_traced) × (new.bytes ≡ old.bytes)

-- Among these faults the one with the number i, if so many came before them all, is shown by a
-- run whose trace stands at the end; or none is, and nothing came in.
pub data HasSought (c : Circuit) (values : List CaseValue) (printed : ℕ) (fs : List Fault) (i : ℕ)
    (old new : Answer) : Type 0 where
  unfound : new.is_traced ≡ old.is_traced → new.bytes ≡ old.bytes →
      HasSought c values printed fs i old new
  found : (earlier later : List Fault) (f : Fault) (s : Showing) → fs ≡ earlier ++ f ∷ later →
      i ≡ old.faults + length earlier + 1 → IsVerdict c values (constraint_of f) printed (Shown s) →
      new.is_traced ≡ true → new.bytes ≡ old.bytes ++ trace_text c s.trace →
      HasSought c values printed fs i old new

pub record AreSought (c : Circuit) (values : List CaseValue) (printed : ℕ) (fs : List Fault)
    (i : ℕ) (old new : Answer) : Type 0 where
  pub passed : new.faults ≡ old.faults + length fs
  pub has : HasSought c values printed fs i old new

-- The trace of the fault with the number i over these cases is the answer, or nothing is.
pub data HasTrace (c : Circuit) (base : ℕ) (cases : List Case) (i : ℕ) (answer : Answer) :
    Type 0 where
  no_trace : answer.is_traced ≡ false → answer.bytes ≡ [] → HasTrace c base cases i answer
  has_trace : (k : Case) (f : Fault) (s : Showing) → IsNumbered c cases i k f →
      IsVerdict c k.listed.values (constraint_of f) (printed_tick c base k) (Shown s) →
      answer.is_traced ≡ true → answer.bytes ≡ trace_text c s.trace →
      HasTrace c base cases i answer

pub record IsSought (c : Circuit) (base i : ℕ) (answer : Answer) (cases : List Case) :
    Type 0 where
  pub passed : answer.faults ≡ fault_count c cases
  pub has : HasTrace c base cases i answer

-- ---- either

abbrev pub Holds : Option ℕ → ℕ → Circuit → ℕ → Answer → List Case → Type 0
Holds None version c base answer cases = IsReport version c base answer cases
Holds (Some i) version c base answer cases = IsSought c base i answer cases

-- what is added in a case
abbrev pub AreAdded : Option ℕ → Circuit → List CaseValue → ℕ → List Fault → Answer → Answer → Type 0
AreAdded None c values printed fs old new = AreTold c values printed fs old new
AreAdded (Some i) c values printed fs old new = AreSought c values printed fs i old new

-- The base and all cases of a circuit have settled, and the outcome and the bytes are replied of
-- them.
pub record IsReplied (trace : Option ℕ) (version : ℕ) (c : Circuit) (values : List (List CaseValue))
    (limit : ℕ) (o : DecideOutcome) (bytes : List ℕ) : Type 0 where
  pub base : ℕ
  pub settles : SettlesAt (base_round c) limit base
  pub of_cases : OfCases c limit base (listed_cases values)
      (λ (cases : List Case). Concluded version c base cases trace o bytes)

-- ---- the end of what never settles

-- The outcome and the bytes are those of an end that names a net.
pub record IsEnded (c : Circuit) (end : EngineEnd) (o : DecideOutcome) (bytes : List ℕ) :
    Type 0 where
  pub place : ℕ
  pub round : ℕ
  pub end_is : end ≡ UnsettledEnd place round
  pub outcome : o ≡ Unsettled place round
  pub text : bytes ≡ unsettled_line c place round
