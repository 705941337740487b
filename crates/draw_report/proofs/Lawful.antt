-- No answer to a text is an end of the call, and a text has one.
use Rattle.std.proofs.Common.{◌≡◌, ℕ, Bool, true, false, List, Option, refl, None}
use Rattle.std.specs.Prelude.{length}
use Rattle.flat_circuit.specs.declared.case.CaseValue.{CaseValue}
use Rattle.flat_circuit.specs.Circuit.{Circuit}
use Rattle.timing_analysis.specs.Case.{fault_count}
use Rattle.program_call.specs.Program.{IsLawful}
use Rattle.program_call.proofs.Answering.{end_of_ended}
use Rattle.program_call.proofs.Speaking.{verdict_speaks}
use Rattle.draw_report.specs.declared.asked.Asked.{Asked}
use Rattle.draw_report.specs.declared.asked.Asked.TheVariants.{Case as OfCase, Limits as OfLimits}
use Rattle.draw_report.specs.declared.asked.Limits.{Limits}
use Rattle.draw_report.specs.declared.drawn.Drawn.{Drawn}
use Rattle.draw_report.specs.declared.drawn.Drawn.TheVariants.{Much as MuchDrawn, NoRow, Picture as PictureDrawn}
use Rattle.draw_report.specs.declared.outcome.DrawOutcome.{DrawOutcome}
use Rattle.draw_report.specs.declared.sought.Found.{Found}
use Rattle.draw_report.specs.declared.sought.Found.TheVariants.{Much, Nothing, Picture}
use Rattle.draw_report.specs.Answer as answer
use Rattle.draw_report.specs.Answer.{Draws, DrawsAsked, DrawsCase, DrawsLimits, draw_program}
use Rattle.draw_report.specs.Case.{answered, found_among}
use Rattle.draw_report.specs.Below.{has_below}
use Rattle.draw_report.specs.Drawn.{answered as answered_told, answered_below}
use Rattle.draw_report.specs.Words.{Asking}
use Rattle.draw_report.specs.Outcome.{end_of}
use Rattle.draw_report.proofs.OneAnswer.{one_answer, same_one}

answered_speaks : (found : Found) (count faults : ℕ) →
    end_of (answered found count faults).outcome ≡ None
answered_speaks Nothing count faults = refl
answered_speaks Much count faults = refl
answered_speaks (Picture bytes) count faults = verdict_speaks faults

case_speaks : (asked : ℕ) (c : Circuit) (values : List (List CaseValue)) (limit : ℕ)
    (o : DrawOutcome) (bytes : List ℕ) → DrawsCase asked c values limit o bytes → end_of o ≡ None
case_speaks asked c values limit _ _ (answer.settled base cases settles are_settled) =
    answered_speaks (found_among c base asked cases) (length values) (fault_count c cases)
case_speaks asked c values limit _ _ (answer.unsettled place stops) = refl

told_speaks : (drawn : Drawn) (faults : ℕ) → end_of (answered_told drawn faults).outcome ≡ None
told_speaks (NoRow count) faults = refl
told_speaks MuchDrawn faults = refl
told_speaks (PictureDrawn bytes) faults = verdict_speaks faults

below_speaks : (has : Bool) (drawn : Drawn) (faults : ℕ) →
    end_of (answered_below has drawn faults).outcome ≡ None
below_speaks false drawn faults = refl
below_speaks true drawn faults = told_speaks drawn faults

limits_speak : (asked : Limits) (under : Option (List ℕ)) (c : Circuit)
    (values : List (List CaseValue)) (limit : ℕ) (o : DrawOutcome) (bytes : List ℕ) →
    DrawsLimits asked under c values limit o bytes → end_of o ≡ None
limits_speak asked under c values limit _ _ (answer.told t is) =
    below_speaks (has_below c under) t.drawn t.faults
limits_speak asked under c values limit _ _ (answer.untold place stops) = refl

asked_speaks : (asked : Asked) (under : Option (List ℕ)) (c : Circuit)
    (values : List (List CaseValue)) (limit : ℕ) (o : DrawOutcome) (bytes : List ℕ) →
    DrawsAsked asked under c values limit o bytes → end_of o ≡ None
asked_speaks (OfCase number) under c values limit o bytes is =
    case_speaks number c values limit o bytes is
asked_speaks (OfLimits limits) under c values limit o bytes is =
    limits_speak limits under c values limit o bytes is

answer_speaks : (asking : Asking) (text : List ℕ) (o : DrawOutcome) (bytes : List ℕ) →
    Draws asking text o bytes → end_of o ≡ None
answer_speaks asking text _ _ (answer.refused r is) = refl
answer_speaks asking text _ _ (answer.drawn c values o bytes draws is) =
    asked_speaks asking.request.asked asking.under c values _ o bytes is

pub draw_program_lawful : IsLawful draw_program
draw_program_lawful = record {
  ends = end_of_ended;
  replies = answer_speaks;
  one = one_answer;
  same = same_one;
  unread = λ asking text other o bytes none is. absurd (cc);
}
