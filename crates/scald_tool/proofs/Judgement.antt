-- A form and a text have one reply.
use Rattle.std.proofs.Common.{◌≡◌, ◌∙◌, ℕ, refl, sym, ap, List, None}
use Rattle.drawing_tree.specs.Canonical.{canonical}
use Rattle.drawing_grammar.proofs.TextLaws.{one_drawing, not_both as no_drawing, one_refusal as one_cause}
use Rattle.design_gen.specs.Datapath.{datapath}
use Rattle.format_upgrade.specs.Upgraded.{upgraded_text}
use Rattle.scald_base.specs.declared.outcome.Outcome.{Outcome}
use Rattle.listing.specs.declared.case.Mode.{Mode}
use Rattle.scald_tool.specs.declared.words.Command.{Command}
use Rattle.scald_tool.specs.declared.words.Command.TheVariants.{Verify, Format, Upgrade, Bench}
use Rattle.scald_tool.specs.Answer as answer
use Rattle.scald_tool.specs.Answer.{Measured, Reported, Formatted, Upgrades, Replied}
use Rattle.program_call.proofs.Judgement.{IsOne, one_evaluated}

one_formatted : (text : List ℕ) (o o' : Outcome) (bytes bytes' : List ℕ) → Formatted text o bytes → Formatted text o' bytes' → (o ≡ o') × (bytes ≡ bytes')
one_formatted text _ _ _ _ (answer.undrawn r is) (answer.undrawn s is') = let same : r ≡ s = one_cause text r s is is' in (rw same refl, rw same refl)
one_formatted text _ _ _ _ (answer.undrawn r is) (answer.drawn d draws) = absurd (no_drawing text r d is draws)
one_formatted text _ _ _ _ (answer.drawn d draws) (answer.undrawn r is) = absurd (no_drawing text r d is draws)
one_formatted text _ _ _ _ (answer.drawn d draws) (answer.drawn e draws') = let same : d ≡ e = one_drawing text d e draws draws' in (refl, ap canonical same)

one_upgraded : (text : List ℕ) (o o' : Outcome) (bytes bytes' : List ℕ) → Upgrades text o bytes → Upgrades text o' bytes' → (o ≡ o') × (bytes ≡ bytes')
one_upgraded text _ _ _ _ (answer.unreadable r is) (answer.unreadable s is') = let same : r ≡ s = one_cause text r s is is' in (rw same refl, rw same refl)
one_upgraded text _ _ _ _ (answer.unreadable r is) (answer.readable d draws) = absurd (no_drawing text r d is draws)
one_upgraded text _ _ _ _ (answer.readable d draws) (answer.unreadable r is) = absurd (no_drawing text r d is draws)
one_upgraded text _ _ _ _ (answer.readable d draws) (answer.readable e draws') = let same : d ≡ e = one_drawing text d e draws draws' in (refl, ap upgraded_text same)

reports_are_one : (mode : Mode) → IsOne (λ d. Reported mode d.version)
reports_are_one mode d c base cases o o' bytes bytes' is is' =
    (is.outcome ∙ sym is'.outcome, is.text ∙ sym is'.text)

measures_are_one : (sections : ℕ) → IsOne (λ d. Measured sections)
measures_are_one sections d c base cases o o' bytes bytes' is is' =
    (is.outcome ∙ sym is'.outcome, is.text ∙ sym is'.text)

pub one_reply : (command : Command) (text : List ℕ) (o o' : Outcome) (bytes bytes' : List ℕ) →
    Replied command text o bytes → Replied command text o' bytes' → (o ≡ o') × (bytes ≡ bytes')
one_reply (Verify mode rounds) text o o' bytes bytes' r r' =
    one_evaluated (λ d. Reported mode d.version) (reports_are_one mode) rounds text o o' bytes
    bytes' r r'
one_reply Format text o o' bytes bytes' r r' = one_formatted text o o' bytes bytes' r r'
one_reply Upgrade text o o' bytes bytes' r r' = one_upgraded text o o' bytes bytes' r r'
one_reply (Bench sections) text o o' bytes bytes' r r' =
    one_evaluated (λ d. Measured sections) (measures_are_one sections) None (datapath sections) o o'
    bytes bytes' r r'
