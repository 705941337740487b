-- What is promised of a text, beside its answer.
use Rattle.std.specs.Prelude.{◌≡◌, ◌≢◌, ℕ, true, List, Some}
use Rattle.scald_base.specs.declared.outcome.Outcome.{Outcome}
use Rattle.scald_base.specs.declared.outcome.Outcome.TheVariants.{Clean, Unsettled}
use Rattle.scald_tool.specs.declared.words.Command.{Command}
use Rattle.timing_analysis.specs.Drawn.{IsLoopless}
use Rattle.timing_analysis.specs.Promise.{FaultlessNeverBreaks, NeverBreaks}
use Rattle.scald_tool.specs.Promise.{has_report, may_give, unlimited}

-- The form may have this outcome; waves without loops settle, if no limit is set; and what has
-- no fault is never broken.
pub record IsPromised (command : Command) (text : List ℕ) (o : Outcome) : Type 0 where
  pub given : may_give command o ≡ true
  pub loopless : (evaluated : List ℕ) (place round : ℕ) → unlimited command text ≡ Some evaluated →
      IsLoopless evaluated → o ≢ Unsettled place round
  pub clean : o ≡ Clean → NeverBreaks text
  pub faultless : has_report o ≡ true → FaultlessNeverBreaks text
