-- What the answer to a text says of the outcome of the call.
use Rattle.std.proofs.Common.{◌≡◌, ◌∙◌, ℕ, true, List, refl, sym, ap, None}
use Rattle.scald_base.specs.declared.outcome.Outcome.{Outcome}
use Rattle.timing_analysis.specs.Case.{fault_count}
use Rattle.scald_base.specs.Outcome.{end_of}
use Rattle.program_call.specs.Answer.{Evaluated}
use Rattle.program_call.specs.Promise.{SettlesLoopless, may_count}
use Rattle.program_call.proofs.Judgement.{IsOne}
use Rattle.program_call.proofs.Outcomes.{HoldsOfReports, evaluated_has, evaluated_settles}
use Rattle.program_call.proofs.Outcomes.{verdict_counts, verdict_settles}
use Rattle.program_call.proofs.Speaking.{verdict_speaks}
use Rattle.fault_chain.specs.Answer.{chains_of}

pub chains_are_one : IsOne chains_of
chains_are_one d c base cases o o' bytes bytes' is is' =
    (is.outcome ∙ sym is'.outcome, is.text ∙ sym is'.text)

pub chains_speak : HoldsOfReports (λ o. end_of o ≡ None) chains_of
chains_speak d c base cases o bytes is = ap end_of is.outcome ∙ verdict_speaks (fault_count c cases)

pub is_given : (text : List ℕ) (o : Outcome) (bytes : List ℕ) → Evaluated chains_of None text o bytes →
    may_count o ≡ true
is_given text o bytes =
    evaluated_has (λ o. may_count o ≡ true) (λ place last. refl) (λ r. refl) chains_of None text o
    bytes
    (λ d c base cases o bytes is. ap may_count is.outcome ∙ verdict_counts (fault_count c cases))

pub is_settled : (text : List ℕ) (o : Outcome) (bytes : List ℕ) →
    Evaluated chains_of None text o bytes → SettlesLoopless text o
is_settled text o bytes =
    evaluated_settles chains_of text o bytes
    (λ d c base cases o bytes is place last still. verdict_settles (fault_count c cases) place last
    (sym is.outcome ∙ still))
