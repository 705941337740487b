use Rattle.std.proofs.Common.{◌≡◌, ℕ, List, IfSome, Option, Some, None}
use Rattle.scald_base.specs.declared.outcome.Outcome.{Outcome}
use Rattle.scald_base.specs.declared.outcome.Outcome.TheVariants.{Clean}
use Rattle.fault_decider.specs.declared.outcome.DecideOutcome.{DecideOutcome}
use Rattle.fault_decider.specs.declared.outcome.DecideOutcome.TheVariants.{Settled}
use Rattle.fault_decider.specs.Promise.{NeverBreaksLater}
use Rattle.scald.specs.declared.named.Answer.TheVariants.{Drawing, Faults}
use Rattle.timing_analysis.specs.Promise.{NeverBreaks}
use Rattle.scald.proofs.named.answer_to.Goals as goal

-- the answer to a drawing is clean if the outcome of its call is
drawn : (left : Option (List ℕ)) (o : Outcome) (Asked : Type 0) → IfSome left (λ text. o ≡ Clean → NeverBreaks text) →
    IfSome left (λ text. Asked → Drawing o ≡ Drawing Clean → NeverBreaks text)
drawn None o Asked clean = tt
drawn (Some text) o Asked clean = λ asked same. let is : o ≡ Clean = cc same in clean is

pub returns-in-Tool-clause-clean : goal.returns-in-Tool-clause-clean
returns-in-Tool-clause-clean g c = drawn (g.S.Source.left c.args.source.now) c.tool_main.result _ c.tool_main.ensures.clean

pub returns-in-Slacks-clause-met : goal.returns-in-Slacks-clause-met
returns-in-Slacks-clause-met g c = drawn (g.S.Source.left c.args.source.now) c.slack_main.result _ c.slack_main.ensures.clean

-- the answer on faults is settled if the outcome of its call is
decided : (left : Option (List ℕ)) (o : DecideOutcome) (Asked : Type 0) →
    IfSome left (λ text. o ≡ Settled → NeverBreaksLater text) →
    IfSome left (λ text. Asked → Faults o ≡ Faults Settled → NeverBreaksLater text)
decided None o Asked settled = tt
decided (Some text) o Asked settled = λ asked same. let is : o ≡ Settled = cc same in settled is

pub returns-in-Decisions-clause-decided : goal.returns-in-Decisions-clause-decided
returns-in-Decisions-clause-decided g c = decided (g.S.Source.left c.args.source.now) c.decide_main.result _ c.decide_main.ensures.settled
