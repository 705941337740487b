-- What the answer to a text says of the outcome of the call.
use Rattle.std.proofs.Common.{◌≡◌, ◌∙◌, true, List, ℕ, length, refl, sym, ap, None}
use Rattle.scald_base.specs.declared.outcome.Outcome.{Outcome}
use Rattle.scald_base.specs.Outcome.{end_of}
use Rattle.program_call.specs.Program.{IsLawful}
use Rattle.program_call.specs.Answer.{verdict_of}
use Rattle.program_call.specs.Promise.{SettlesLoopless, may_count}
use Rattle.program_call.proofs.Judgement.{IsOne}
use Rattle.program_call.proofs.Outcomes.{HoldsOfReports, evaluated_has, evaluated_settles}
use Rattle.program_call.proofs.Outcomes.{verdict_counts, verdict_settles}
use Rattle.program_call.proofs.Speaking.{reporting_is_lawful, verdict_speaks}
use Rattle.drawing_notes.specs.Ways.{Ways}
use Rattle.drawing_notes.specs.Answer.{Noted, kept_of, notes_of, notes_program, own_word}
use Rattle.drawing_notes.specs.Report.{note_lines, notes}
use Rattle.drawing_notes.proofs.OneWay.{one_way}

-- ---- one answer, which is no end of a call

notes_are_one : IsOne notes_of
notes_are_one d c base cases o o' bytes bytes' is is' =
    let same : is.ways ≡ is'.ways = one_way c cases is.ways is'.ways is.are is'.are in (
      is.outcome ∙ ap (λ (ways : Ways). verdict_of (length (notes ways (kept_of d) c cases))) same
          ∙ sym is'.outcome,
      is.text ∙ ap (λ (ways : Ways). note_lines d.version c (notes ways (kept_of d) c cases)) same
          ∙ sym is'.text,
    )

notes_speak : HoldsOfReports (λ o. end_of o ≡ None) notes_of
notes_speak d c base cases o bytes is =
    ap end_of is.outcome ∙ verdict_speaks (length (notes is.ways (kept_of d) c cases))

pub notes_are_lawful : IsLawful notes_program
notes_are_lawful = reporting_is_lawful own_word notes_of notes_speak notes_are_one

-- ---- the call

pub is_given : (text : List ℕ) (o : Outcome) (bytes : List ℕ) → Noted text o bytes → may_count o ≡ true
is_given text o bytes =
    evaluated_has (λ p. may_count p ≡ true) (λ place last. refl) (λ r. refl) notes_of None text o
    bytes
    (λ d c base cases p bs is. ap may_count is.outcome
    ∙ verdict_counts (length (notes is.ways (kept_of d) c cases)))

pub is_settled : (text : List ℕ) (o : Outcome) (bytes : List ℕ) → Noted text o bytes → SettlesLoopless text o
is_settled text o bytes =
    evaluated_settles notes_of text o bytes
    (λ d c base cases p bs is place last still.
    verdict_settles (length (notes is.ways (kept_of d) c cases)) place last
    (sym is.outcome ∙ still))
