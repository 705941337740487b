use Rattle.std.specs.Prelude.{codes, decimal}
use Rattle.std.proofs.Common.{◌≡◌, ◌∙◌, ◌∷◌, ◌++◌, [], List, ℕ, ap, sym}
use Rattle.std.proofs.lemmas.Result.{on_ok_weaker}
use Rattle.listing.specs.Text.{line}
use Rattle.narrowing.specs.declared.named.Named.{Named}
use Rattle.fault_decider.specs.Lines.{named_texts}
use Rattle.fault_decider.proofs.lines.add_named.Goals as goal

pub returns-in-High : goal.returns-in-High
returns-in-High c =
    let texts : ℕ → ℕ → ℕ → List (List ℕ) =
    λ a b d. codes "CLOCK RISES " ∷ decimal a ∷ codes " FALLS " ∷ decimal b ∷ codes " INPUT CHANGES " ∷ decimal d ∷ [] in
    on_ok_weaker c.add_line.result
    (λ added.
    added
    ∙ ap (λ (t : List (List ℕ)). c.args.out.now ++ line t)
    (ap (λ (a : ℕ). texts a c.from-in-High.result c.from-in-High-2.result) c.from.ensures
    ∙ ap (λ (b : ℕ). texts c.in-High.rise b c.from-in-High-2.result) c.from-in-High.ensures
    ∙ ap (λ (d : ℕ). texts c.in-High.rise c.in-High.fall d) c.from-in-High-2.ensures
    ∙ sym (ap (λ (n : Named). named_texts c.args.x n) c.in-High.is)))
    c.add_line.ensures.ok

pub returns-in-Mark : goal.returns-in-Mark
returns-in-Mark c =
    on_ok_weaker c.add_two-in-Mark.result
    (λ added. added ∙ sym (ap (λ (n : Named). c.args.out.now ++ line (named_texts c.args.x n)) c.in-Mark.is))
    c.add_two-in-Mark.ensures
