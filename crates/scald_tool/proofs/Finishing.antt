-- What passes every stage has a finished answer.
use Rattle.std.proofs.Common.{◌≡◌, ◌⊎◌, inl, inr, ℕ, Bool, true, false, cond, List, refl, subst, arith, Option, None}
use Rattle.std.specs.Prelude.{◌==◌}
use Rattle.scald_base.specs.Device.{Rose}
use Rattle.program_call.specs.Program.{replied}
use Rattle.drawing_tree.specs.Canonical.{canonical}
use Rattle.design_gen.specs.Datapath.{datapath}
use Rattle.fixpoint_engine.specs.Reach.{reach}
use Rattle.case_analysis.specs.Tick.{tick}
use Rattle.listing.specs.Answer.{summary_line}
use Rattle.format_upgrade.specs.Upgraded.{upgraded_text}
use Rattle.scald_base.specs.declared.outcome.Outcome.{Outcome}
use Rattle.scald_base.specs.declared.outcome.Outcome.TheVariants.{Clean, Faulty, Done, NoMemory}
use Rattle.scald_tool.specs.declared.words.Command.{Command}
use Rattle.timing_analysis.specs.Case.{fault_count}
use Rattle.program_call.specs.Answer.{is_finished, verdict_of}
use Rattle.program_call.proofs.Outcomes.{settled_evaluated}
use Rattle.scald_tool.specs.Answer as answer
use Rattle.scald_tool.specs.Answer.{Measured, Replied, Reported}
use Rattle.scald_tool.specs.Promise.{IsAnswered}
use Rattle.scald_tool.specs.Report.{report}
use Rattle.scald_tool.specs.Finished.{Passes, formatted, upgraded, verified, benched}
use Rattle.scald_tool.specs.Finished.{IsFinished, AsksWell}

verdict_finished : (n : ℕ) → is_finished (verdict_of n) ≡ true
verdict_finished n = either (n == 0) n
  where
    either : (none : Bool) (n : ℕ) → is_finished (cond none Clean (Faulty n)) ≡ true
    either true n = refl
    either false n = refl

-- what a form replies to a text, if that is finished
pub record Finishes (command : Command) (text : List ℕ) : Type 0 where
  pub outcome : Outcome
  pub bytes : List ℕ
  pub is : Replied command text outcome bytes
  pub finished : is_finished outcome ≡ true

finishes : (text : List ℕ) (command : Command) → Passes text command → Finishes command text
finishes text _ (formatted d draws) = record { outcome = Done; bytes = canonical d; is = answer.drawn d draws; finished = refl }
finishes text _ (upgraded d draws) = record { outcome = Done; bytes = upgraded_text d; is = answer.readable d draws; finished = refl }
finishes text _ (verified mode rounds settles) = record {
  outcome = verdict_of (fault_count settles.circuit settles.cases);
  bytes = report mode settles.drawn.drawing.version settles.circuit settles.base settles.cases;
  is = settled_evaluated (λ d. Reported mode d.version) rounds text settles _ _
      (record { outcome = refl; text = refl });
  finished = verdict_finished (fault_count settles.circuit settles.cases);
}
finishes text _ (benched sections settles) = record {
  outcome = Done;
  bytes = summary_line settles.circuit sections settles.base (tick (reach settles.circuit) settles.base 0)
      (fault_count settles.circuit settles.cases);
  is = settled_evaluated (λ d. Measured sections) None (datapath sections) settles _ _
      (record { outcome = refl; text = refl });
  finished = refl;
}

finished : (words : List (List ℕ)) (text : List ℕ) (o : Outcome) (taken taken' : Option (List ℕ)) → AsksWell words text → IsAnswered words text o taken taken' → IsFinished words text o taken taken'
finished words text o taken taken' asks answered =
    let made : Finishes asks.command text = finishes text asks.command asks.passes in
    let same = answered.only made.outcome made.bytes (replied asks.command made.outcome made.bytes asks.form asks.short made.is) in
    (answered, subst (λ (p : Outcome). is_finished p ≡ true) same.0 made.finished)

pub finished_or_not : (words : List (List ℕ)) (text : List ℕ) (o : Outcome) (taken taken' : Option (List ℕ)) → (o ≡ NoMemory) ⊎ IsAnswered words text o taken taken' → AsksWell words text →
    (o ≡ NoMemory) ⊎ IsFinished words text o taken taken'
finished_or_not words text o taken taken' (inl none) asks = inl none
finished_or_not words text o taken taken' (inr answered) asks = inr (finished words text o taken taken' asks answered)

-- a count of faults that stays nothing did not rise
pub calm : ¬ Rose 0 0
calm (inl more) = absurd (omega (arith, more))
calm (inr full) = absurd (omega (arith, full))
