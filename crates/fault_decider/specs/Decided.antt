-- What is replied to a text: the report with what is said of each fault, or the trace of one.
use Rattle.std.specs.Prelude.{◌≡◌, ℕ, ◌+◌, ◌==◌, true, ◌&&◌, if◌then◌else◌, List, [], ◌∷◌, ◌++◌, length, codes, decimal, Option, Some, None}
use Rattle.std.specs.List.{All, sum_by}
use Rattle.scald_base.specs.declared.refusal.Refusal.{Refusal}
use Rattle.flat_circuit.specs.declared.case.CaseValue.{CaseValue}
use Rattle.flat_circuit.specs.declared.fault.Fault.{Fault}
use Rattle.flat_circuit.specs.Circuit.{Circuit}
use Rattle.fixpoint_engine.specs.Rounds.{SettlesAt}
use Rattle.fixpoint_engine.specs.Start.{default_limit}
use Rattle.case_analysis.specs.Base.{base_round}
use Rattle.timing_analysis.specs.Case.{AreSettled, Case, fault_count, faults, listed_cases, printed_tick}
use Rattle.timing_analysis.specs.Drawn.{DrawsCircuit, IsTextRefused}
use Rattle.timing_analysis.specs.Ended.{StopsEarly}
use Rattle.listing.specs.Answer.{refusal_line, unsettled_line}
use Rattle.listing.specs.Case.{case_line}
use Rattle.listing.specs.Fault.{fault_line}
use Rattle.listing.specs.Head.{head}
use Rattle.listing.specs.Text.{line}
use Rattle.program_call.specs.Program.{Meaning}
use Rattle.program_call.specs.Wordless.{most_bytes}
use Rattle.narrowing.specs.Constraint.{constraint_of}
use Rattle.trace_tool.specs.Trace.{trace_text}
use Rattle.fault_decider.specs.declared.outcome.DecideOutcome.{DecideOutcome}
use Rattle.fault_decider.specs.declared.outcome.DecideOutcome.TheVariants.{Settled, Faulty, Done, NoRun, Refused, Unsettled, Ended}
use Rattle.fault_decider.specs.declared.showing.Showing.{Showing}
use Rattle.fault_decider.specs.declared.verdict.Verdict.{Verdict}
use Rattle.fault_decider.specs.declared.verdict.Verdict.TheVariants.{Shown, Refuted as RefutedFault, Window, Open}
use Rattle.fault_decider.specs.declared.words.Request.{Request}
use Rattle.fault_decider.specs.Latest.{latest}
use Rattle.fault_decider.specs.Lines.{AreLines}
use Rattle.fault_decider.specs.Outcome.{end_of}
use Rattle.fault_decider.specs.Promise.{IsUnbrokenFrom, NeverBreaksLater}
use Rattle.fault_decider.specs.Verdict.{IsVerdict}
use Rattle.fault_decider.specs.Words.{request_of}

-- ---- faults of a case

-- one fault with what is said of it, in a case that has these values and this printed tick
pub record IsDecided (c : Circuit) (values : List CaseValue) (printed : ℕ) (f : Fault)
    (v : Verdict) (bytes : List ℕ) : Type 0 where
  pub is : IsVerdict c values (constraint_of f) printed v
  pub said : List ℕ
  pub are : AreLines c values (constraint_of f) v said
  pub text : bytes ≡ fault_line c f ++ said

-- Each fault, in the order of the report, with one verdict; and their lines.
pub data AreDecided (c : Circuit) (values : List CaseValue) (printed : ℕ) : List Fault →
    List Verdict → List ℕ → Type 0 where
  no_fault : AreDecided c values printed [] [] []
  fault_more : {f : Fault} {fs : List Fault} {v : Verdict} {vs : List Verdict}
      {bytes others : List ℕ} → IsDecided c values printed f v bytes →
      AreDecided c values printed fs vs others →
      AreDecided c values printed (f ∷ fs) (v ∷ vs) (bytes ++ others)

-- ---- cases

-- the line of a case
abbrev pub head_of_case : Circuit → ℕ → Case → List ℕ
head_of_case c base case =
    case_line case.listed.number base case.rounds (printed_tick c base case)

pub data AreCasesDecided (c : Circuit) (base : ℕ) : List Case → List Verdict → List ℕ →
    Type 0 where
  no_case : AreCasesDecided c base [] [] []
  case_more : {k : Case} {ks : List Case} {vs others : List Verdict} {bytes rest : List ℕ} →
      AreDecided c k.listed.values (printed_tick c base k) (faults c k) vs bytes →
      AreCasesDecided c base ks others rest →
      AreCasesDecided c base (k ∷ ks) (vs ++ others) (head_of_case c base k ++ bytes ++ rest)

-- ---- the end

abbrev pub shown_one : Verdict → ℕ
shown_one (Shown s) = 1
shown_one (RefutedFault from leaves) = 0
shown_one (Window from) = 0
shown_one Open = 0

abbrev pub refuted_one : Verdict → ℕ
refuted_one (Shown s) = 0
refuted_one (RefutedFault from leaves) = 1
refuted_one (Window from) = 1
refuted_one Open = 0

abbrev pub open_one : Verdict → ℕ
open_one (Shown s) = 0
open_one (RefutedFault from leaves) = 0
open_one (Window from) = 0
open_one Open = 1

-- how many faults there are, and how many of them are shown, refuted and left open
abbrev pub end_line : List Verdict → List ℕ
end_line [] = line (codes "CLEAN" ∷ [])
end_line (v ∷ vs) =
    line (codes "FAULTS " ∷ decimal (length (v ∷ vs))
    ∷ codes " SHOWN " ∷ decimal (sum_by shown_one (v ∷ vs))
    ∷ codes " REFUTED " ∷ decimal (sum_by refuted_one (v ∷ vs))
    ∷ codes " OPEN " ∷ decimal (sum_by open_one (v ∷ vs)) ∷ [])

-- no fault is shown or left open
abbrev pub outcome_of : List Verdict → DecideOutcome
outcome_of vs =
    if sum_by shown_one vs == 0 && sum_by open_one vs == 0 then Settled else Faulty

-- If the report ends `Settled`, nothing is broken in any of the cases from the latest tick on that
-- it prints: it is as good as one without faults.
abbrev pub IsUnbrokenIfSettled : Circuit → ℕ → List Case → List Verdict → Type 0
IsUnbrokenIfSettled c base cases vs =
    outcome_of vs ≡ Settled → All (IsUnbrokenFrom c (latest c base cases vs) base) cases

-- ---- one fault's trace

-- The fault has the number i, counted from 1 over these cases, and it is in this case.
pub record IsNumbered (c : Circuit) (cases : List Case) (i : ℕ) (k : Case) (f : Fault) :
    Type 0 where
  pub before : List Case
  pub after : List Case
  pub earlier : List Fault
  pub later : List Fault
  pub in_cases : cases ≡ before ++ k ∷ after
  pub in_case : faults c k ≡ earlier ++ f ∷ later
  pub number : i ≡ fault_count c before + length earlier + 1

-- The trace of the fault is that of a run which shows it; or there is none, or none is found.
pub data IsTraced (c : Circuit) (base : ℕ) (cases : List Case) (i : ℕ) : DecideOutcome → List ℕ →
    Type 0 where
  done : (k : Case) (f : Fault) (s : Showing) →
      IsNumbered c cases i k f →
      IsVerdict c k.listed.values (constraint_of f) (printed_tick c base k) (Shown s) →
      IsTraced c base cases i Done (trace_text c s.trace)
  no_run : IsTraced c base cases i NoRun []

-- ---- the reply

-- To a settled circuit: a report, or the trace of the fault that is asked for.
pub data Concluded (version : ℕ) (c : Circuit) (base : ℕ) (cases : List Case) : Option ℕ →
    DecideOutcome → List ℕ → Type 0 where
  reported : (vs : List Verdict) (bytes : List ℕ) → AreCasesDecided c base cases vs bytes →
      IsUnbrokenIfSettled c base cases vs →
      Concluded version c base cases None (outcome_of vs) (head version c ++ bytes ++ end_line vs)
  traced : (i : ℕ) (o : DecideOutcome) (bytes : List ℕ) → IsTraced c base cases i o bytes →
      Concluded version c base cases (Some i) o bytes

-- To a text: why it is refused comes first, then which net does not settle.
pub data Decided (r : Request) (text : List ℕ) : DecideOutcome → List ℕ → Type 0 where
  refused : (why : Refusal) → IsTextRefused text why →
      Decided r text (Refused why) (refusal_line why)
  unsettled : (c : Circuit) (values : List (List CaseValue)) (place : ℕ) →
      DrawsCircuit text c values → StopsEarly c values (default_limit c) place →
      Decided r text (Unsettled place (default_limit c)) (unsettled_line c place (default_limit c))
  settled : (c : Circuit) (values : List (List CaseValue)) (draws : DrawsCircuit text c values)
      (base : ℕ) (cases : List Case) (o : DecideOutcome) (bytes : List ℕ) →
      SettlesAt (base_round c) (default_limit c) base →
      AreSettled c (default_limit c) base (listed_cases values) cases →
      Concluded draws.drawing.version c base cases r.trace o bytes → Decided r text o bytes

-- What the words ask for, and what is answered to a text. Which verdict a fault has is left open
-- if more than one would do, so all replies that speak of the text count as one.
abbrev pub decider : Meaning Request DecideOutcome
decider = record {
  command_of = request_of;
  reads = λ request. true;
  most_bytes = λ read. most_bytes;
  Replied = Decided;
  AreOne = λ o bytes p others. end_of o ≡ end_of p;
  ended = Ended;
  end_of = end_of;
}

-- beside the answer
abbrev pub promised_of : Request → List ℕ → DecideOutcome → Type 0
promised_of request text o = o ≡ Settled → NeverBreaksLater text
