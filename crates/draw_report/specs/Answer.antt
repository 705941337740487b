-- What `draw` answers to its words and to the bytes that it is given.
use Rattle.std.specs.Prelude.{◌≡◌, ℕ, true, List, length, Option, ⊤}
use Rattle.scald_base.specs.declared.refusal.Refusal.{Refusal}
use Rattle.scald_base.specs.declared.outcome.Outcome.{Outcome}
use Rattle.scald_base.specs.declared.outcome.Outcome.TheVariants.{Refused, Unsettled}
use Rattle.flat_circuit.specs.declared.case.CaseValue.{CaseValue}
use Rattle.flat_circuit.specs.Circuit.{Circuit}
use Rattle.fixpoint_engine.specs.Rounds.{SettlesAt}
use Rattle.case_analysis.specs.Base.{base_round}
use Rattle.listing.specs.Answer.{refusal_line, unsettled_line}
use Rattle.timing_analysis.specs.Case.{AreSettled, Case, listed_cases}
use Rattle.timing_analysis.specs.Drawn.{DrawsCircuit, IsTextRefused}
use Rattle.timing_analysis.specs.Ended.{StopsEarly}
use Rattle.program_call.specs.Answer.{limit_for}
use Rattle.program_call.specs.Program.{Meaning}
use Rattle.program_call.specs.Wordless.{most_bytes}
use Rattle.draw_report.specs.declared.asked.Asked.{Asked}
use Rattle.draw_report.specs.declared.asked.Asked.TheVariants.{Case as OfCase, Limits as OfLimits}
use Rattle.draw_report.specs.declared.asked.Limits.{Limits as AskedLimits}
use Rattle.draw_report.specs.declared.job.Told.{Told}
use Rattle.draw_report.specs.declared.outcome.DrawOutcome.{DrawOutcome}
use Rattle.draw_report.specs.declared.outcome.DrawOutcome.TheVariants.{Drawing, Limits, NoCase, NoNet, NoRow, TooMuch}
use Rattle.draw_report.specs.Below.{has_below}
use Rattle.draw_report.specs.Case.{answer_of}
use Rattle.draw_report.specs.Drawn.{IsToldOf, answered_below}
use Rattle.draw_report.specs.Outcome.{end_of, ended}
use Rattle.draw_report.specs.Words.{Asking, asking_of}

-- To a circuit and its cases: the picture of the case of this number, or why there is none; or, if
-- the base or a case has not settled by the limit, the first net that still changes there.
pub data DrawsCase (asked : ℕ) (c : Circuit) (values : List (List CaseValue)) (limit : ℕ) :
    DrawOutcome → List ℕ → Type 0 where
  settled : (base : ℕ) (cases : List Case) → SettlesAt (base_round c) limit base →
      AreSettled c limit base (listed_cases values) cases →
      DrawsCase asked c values limit (answer_of c base asked cases (length values)).outcome
      (answer_of c base asked cases (length values)).bytes
  unsettled : (place : ℕ) → StopsEarly c values limit place →
      DrawsCase asked c values limit (Drawing (Unsettled place limit))
      (unsettled_line c place limit)

-- The same of limits, or of the nets below a path: what is drawn of them, or why there is nothing.
pub data DrawsLimits (asked : AskedLimits) (under : Option (List ℕ)) (c : Circuit)
    (values : List (List CaseValue)) (limit : ℕ) : DrawOutcome → List ℕ → Type 0 where
  told : (t : Told) → IsToldOf asked c values limit t →
      DrawsLimits asked under c values limit
      (answered_below (has_below c under) t.drawn t.faults).outcome
      (answered_below (has_below c under) t.drawn t.faults).bytes
  untold : (place : ℕ) → StopsEarly c values limit place →
      DrawsLimits asked under c values limit (Drawing (Unsettled place limit))
      (unsettled_line c place limit)

abbrev pub DrawsAsked : Asked → Option (List ℕ) → Circuit → List (List CaseValue) → ℕ →
    DrawOutcome → List ℕ → Type 0
DrawsAsked (OfCase number) under = DrawsCase number
DrawsAsked (OfLimits limits) under = DrawsLimits limits under

-- To a text: why it is refused comes first.
pub data Draws (asking : Asking) (text : List ℕ) : DrawOutcome → List ℕ → Type 0 where
  refused : (r : Refusal) → IsTextRefused text r →
      Draws asking text (Drawing (Refused r)) (refusal_line r)
  drawn : (c : Circuit) (values : List (List CaseValue)) (o : DrawOutcome) (bytes : List ℕ) →
      DrawsCircuit text c values →
      DrawsAsked asking.request.asked asking.under c values (limit_for c asking.request.rounds) o
      bytes →
      Draws asking text o bytes

-- ---- one answer

-- What is said of limits, with this verdict if they are drawn.
abbrev pub IsOfLimits : DrawOutcome → Type 0
IsOfLimits (Drawing o) = ⊥
IsOfLimits (Limits o) = ⊤
IsOfLimits (NoCase count) = ⊥
IsOfLimits (NoRow count) = ⊤
IsOfLimits NoNet = ⊥
IsOfLimits TooMuch = ⊤

abbrev pub HasVerdict : Outcome → DrawOutcome → Type 0
HasVerdict o (Drawing p) = ⊥
HasVerdict o (Limits p) = o ≡ p
HasVerdict o (NoCase count) = ⊥
HasVerdict o (NoRow count) = ⊤
HasVerdict o NoNet = ⊥
HasVerdict o TooMuch = ⊤

-- Answers are one if they are the same. What is drawn of limits, and whether it is, has no exact
-- definition: all that is said of them has one verdict.
abbrev pub AreOne : DrawOutcome → List ℕ → DrawOutcome → List ℕ → Type 0
AreOne (Drawing o) bytes p others = (Drawing o ≡ p) × (bytes ≡ others)
AreOne (Limits o) bytes p others = HasVerdict o p
AreOne (NoCase count) bytes p others = (NoCase count ≡ p) × (bytes ≡ others)
AreOne (NoRow count) bytes p others = IsOfLimits p
AreOne NoNet bytes p others = (NoNet ≡ p) × (bytes ≡ others)
AreOne TooMuch bytes p others = IsOfLimits p

abbrev pub draw_program : Meaning Asking DrawOutcome
draw_program = record {
  command_of = asking_of;
  reads = λ asking. true;
  most_bytes = λ read. most_bytes;
  Replied = Draws;
  AreOne = AreOne;
  ended = ended;
  end_of = end_of;
}
