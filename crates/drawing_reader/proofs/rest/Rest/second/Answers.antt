use Rattle.std.proofs.Common.{List, Some, arith, ap, ◌∙◌}
use Rattle.std.specs.Prelude.{slice_get}
use Rattle.scald_lex.specs.declared.token.Token.{Token}
use Rattle.drawing_reader.proofs.Backwards.{none_behind, second_is}
use Rattle.drawing_reader.proofs.rest.Rest.second.Goals as goal

pub returns-then-count-lt2 : goal.returns-then-count-lt2
returns-then-count-lt2 c =
    let tokens = c.self.inside.backwards in
    none_behind tokens.items 1
    (omega (arith, c.len-count.ensures, tokens.ok.0, c.if-count-lt2.true))
    ∙ ap (λ (ts : List Token). slice_get ts 1) c.self.view_is

pub returns : goal.returns
returns c =
    let tokens = c.self.inside.backwards in
    ap (λ (t : Token). Some t) c.token.ensures
    ∙ (second_is tokens.items c.len-count.result c.index.result.now
    (c.len-count.ensures ∙ tokens.ok.0) (omega (arith, c.if-count-lt2.false)) c.index.ensures
    ∙ ap (λ (ts : List Token). slice_get ts 1) c.self.view_is)
