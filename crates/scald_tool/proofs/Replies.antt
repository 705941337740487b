-- From what is read to what is answered and written.
use Rattle.std.proofs.Common.{◌≡◌, ℕ, List, sym, subst, IfOk, Result, Ok, Err}
use Rattle.scald_base.specs.declared.refusal.Refusal.{Refusal}
use Rattle.scald_base.specs.declared.list.NoMemory.{NoMemory as OutOfMemory}
use Rattle.drawing_tree.specs.Tree.{Drawing}
use Rattle.drawing_tree.specs.Canonical.{canonical}
use Rattle.format_upgrade.specs.Upgraded.{upgraded_text}
use Rattle.drawing_grammar.specs.CanonicalDraws.{TextDraws}
use Rattle.drawing_grammar.specs.Refused.{IsRefusal}
use Rattle.listing.specs.Answer.{refusal_line}
use Rattle.scald_base.specs.declared.outcome.Outcome.{Outcome}
use Rattle.scald_base.specs.declared.outcome.Outcome.TheVariants.{Done, Refused}
use Rattle.program_call.specs.declared.reply.Reply.{Reply}
use Rattle.scald_tool.specs.declared.words.Command.{Command}
use Rattle.scald_tool.specs.Answer as answer
use Rattle.scald_tool.specs.Answer.{Formatted, Upgrades, Replied}

-- the reply to a form of words is that to the words
pub by_form : (command form : Command) (text : List ℕ) (made : Result (Reply Outcome) OutOfMemory) →
    command ≡ form →
    IfOk made (λ reply. Replied form text reply.outcome reply.bytes) →
    IfOk made (λ reply. Replied command text reply.outcome reply.bytes)
by_form command form text made is replied =
    subst (λ (k : Command). IfOk made (λ reply. Replied k text reply.outcome reply.bytes)) (sym is)
    replied

-- ---- canonical texts

pub formatted_drawing : (text : List ℕ) (d : Drawing) (made : Result (Reply Outcome) OutOfMemory) → TextDraws text d →
    IfOk made (λ reply. reply.outcome ≡ Done) → IfOk made (λ reply. reply.bytes ≡ canonical d) →
    IfOk made (λ reply. Formatted text reply.outcome reply.bytes)
formatted_drawing text d (Ok reply) draws outcome bytes =
    subst (λ (z : Outcome). Formatted text z reply.bytes) (sym outcome) (subst (λ (z : List ℕ). Formatted text Done z) (sym bytes) (answer.drawn d draws))
formatted_drawing text d (Err e) draws outcome bytes = tt

pub formatted_refusal : (text : List ℕ) (r : Refusal) (made : Result (Reply Outcome) OutOfMemory) → IsRefusal text r →
    IfOk made (λ reply. reply.outcome ≡ Refused r) → IfOk made (λ reply. reply.bytes ≡ refusal_line r) →
    IfOk made (λ reply. Formatted text reply.outcome reply.bytes)
formatted_refusal text r (Ok reply) is outcome bytes =
    subst (λ (z : Outcome). Formatted text z reply.bytes) (sym outcome) (subst (λ (z : List ℕ). Formatted text (Refused r) z) (sym bytes) (answer.undrawn r is))
formatted_refusal text r (Err e) is outcome bytes = tt

-- ---- upgraded texts

pub upgraded_drawing : (text : List ℕ) (d : Drawing) (made : Result (Reply Outcome) OutOfMemory) → TextDraws text d →
    IfOk made (λ reply. reply.outcome ≡ Done) → IfOk made (λ reply. reply.bytes ≡ upgraded_text d) →
    IfOk made (λ reply. Upgrades text reply.outcome reply.bytes)
upgraded_drawing text d (Ok reply) draws outcome bytes =
    subst (λ (z : Outcome). Upgrades text z reply.bytes) (sym outcome) (subst (λ (z : List ℕ). Upgrades text Done z) (sym bytes) (answer.readable d draws))
upgraded_drawing text d (Err e) draws outcome bytes = tt

pub upgraded_refusal : (text : List ℕ) (r : Refusal) (made : Result (Reply Outcome) OutOfMemory) → IsRefusal text r →
    IfOk made (λ reply. reply.outcome ≡ Refused r) → IfOk made (λ reply. reply.bytes ≡ refusal_line r) →
    IfOk made (λ reply. Upgrades text reply.outcome reply.bytes)
upgraded_refusal text r (Ok reply) is outcome bytes =
    subst (λ (z : Outcome). Upgrades text z reply.bytes) (sym outcome) (subst (λ (z : List ℕ). Upgrades text (Refused r) z) (sym bytes) (answer.unreadable r is))
upgraded_refusal text r (Err e) is outcome bytes = tt
