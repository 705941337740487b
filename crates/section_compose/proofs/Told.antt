-- What is promised of a reply, as the clause of the whole call has it.
use Rattle.std.proofs.Common.{◌≡◌, ℕ, List, refl, subst, IfSome, Option, Some, None}
use Rattle.program_call.specs.Program.{IsReplied}
use Rattle.program_call.proofs.Answering.{read_whole}
use Rattle.section_compose.specs.declared.outcome.SectionsOutcome.{SectionsOutcome}
use Rattle.section_compose.specs.declared.outcome.SectionsOutcome.TheVariants.{Clean}
use Rattle.program_call.specs.Wordless.{most_bytes}
use Rattle.section_compose.specs.Answer.{composer}
use Rattle.section_compose.specs.Promise.{IsPromised, NeverBreaksJoined}

pub clean_of : (words : List (List ℕ)) (left left' taken taken' : Option (List ℕ)) (o : SectionsOutcome) →
    (o ≡ Clean → IsReplied composer IsPromised words left left' o taken taken') → IfSome left (λ text. o ≡ Clean → NeverBreaksJoined text)
clean_of words left left' taken taken' o replied = by left (λ text told clean. go text told clean (replied clean))
  where
    by : (l : Option (List ℕ)) → ((text : List ℕ) → l ≡ Some text → o ≡ Clean → NeverBreaksJoined text) →
        IfSome l (λ text. o ≡ Clean → NeverBreaksJoined text)
    by None f = tt
    by (Some text) f = f text refl

    go : (text : List ℕ) → left ≡ Some text → o ≡ Clean → IsReplied composer IsPromised words left left' o taken taken' → NeverBreaksJoined text
    go text told clean r =
        subst NeverBreaksJoined
        (read_whole left left' most_bytes r.reply.text text (r.reply.read refl) told) (r.kept clean)
