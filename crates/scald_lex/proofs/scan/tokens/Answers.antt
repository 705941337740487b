use Rattle.std.proofs.Common.{◌∙◌}
use Rattle.scald_lex.proofs.scan.tokens.Goals as goal

pub returns-in-Ok-unpacked-clause-only_list : goal.returns-in-Ok-unpacked-clause-only_list
returns-in-Ok-unpacked-clause-only_list c list are =
    c.in-Ok-unpacked.ensures ∙ c.as_slice.ensures ∙ c.in-Ok.ensures.only_list list are
