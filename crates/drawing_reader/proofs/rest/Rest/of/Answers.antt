use Rattle.std.proofs.Common.{reverse, ap, ◌∙◌}
use Rattle.std.proofs.lemmas.List.{reverse-reverse}
use Rattle.drawing_reader.proofs.rest.Rest.of.Goals as goal

pub returns : goal.returns
returns c =
    ap reverse c.reverse.ensures.items ∙ (reverse-reverse c.into_vec-backwards.result.items
    ∙ c.into_vec-backwards.ensures)
