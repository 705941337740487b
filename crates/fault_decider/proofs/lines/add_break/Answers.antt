use Rattle.std.specs.Prelude.{codes, decimal}
use Rattle.std.proofs.Common.{◌∙◌, ◌∷◌, ◌++◌, [], ℕ, ap}
use Rattle.std.proofs.lemmas.Result.{on_ok_weaker}
use Rattle.listing.specs.Text.{line}
use Rattle.fault_decider.specs.Lines.{named_texts}
use Rattle.fault_decider.proofs.Numbers.{texts_added}
use Rattle.fault_decider.proofs.lines.add_break.Goals as goal

pub returns : goal.returns
returns c =
    let texts = named_texts c.args.x c.args.named in
    on_ok_weaker c.add_named.result
    (λ added.
    texts_added (codes "SHOWN TICK " ∷ decimal c.from.result ∷ codes " " ∷ []) texts c.args.out.now
    c.add_pieces.new.out c.add_named.new.out c.in_ok-add_pieces.ensures.ok added
    ∙ ap (λ (n : ℕ). c.args.out.now ++ line (codes "SHOWN TICK " ∷ decimal n ∷ codes " " ∷ texts))
    (c.from.ensures ∙ c.last.ensures))
    c.add_named.ensures
