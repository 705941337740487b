-- What the answer to a text says of the outcome of the call.
use Rattle.std.proofs.Common.{◌≡◌, ◌∙◌, ℕ, true, List, refl, sym, ap, None}
use Rattle.scald_base.specs.declared.outcome.Outcome.{Outcome}
use Rattle.scald_base.specs.Outcome.{end_of}
use Rattle.program_call.specs.Answer.{Evaluated}
use Rattle.program_call.specs.Promise.{SettlesLoopless}
use Rattle.program_call.proofs.Judgement.{IsOne}
use Rattle.program_call.proofs.Outcomes.{HoldsOfReports, evaluated_has, evaluated_settles}
use Rattle.margin_report.specs.Answer.{margins_of}
use Rattle.margin_report.specs.Promise.{may_answer}

pub margins_are_one : IsOne margins_of
margins_are_one d c base cases o o' bytes bytes' is is' =
    (is.outcome ∙ sym is'.outcome, is.text ∙ sym is'.text)

pub margins_speak : HoldsOfReports (λ o. end_of o ≡ None) margins_of
margins_speak d c base cases o bytes is = ap end_of is.outcome

pub is_given : (text : List ℕ) (o : Outcome) (bytes : List ℕ) →
    Evaluated margins_of None text o bytes → may_answer o ≡ true
is_given text o bytes =
    evaluated_has (λ o. may_answer o ≡ true) (λ place last. refl) (λ r. refl) margins_of None text
    o bytes
    (λ d c base cases o bytes is. ap may_answer is.outcome)

pub is_settled : (text : List ℕ) (o : Outcome) (bytes : List ℕ) →
    Evaluated margins_of None text o bytes → SettlesLoopless text o
is_settled text o bytes =
    evaluated_settles margins_of text o bytes (λ d c base cases o bytes is place last still.
    let none = sym is.outcome ∙ still in absurd (cc))
