use Rattle.std.proofs.Common.{List, Some, reverse, sym, ap, ◌∙◌}
use Rattle.std.specs.Prelude.{slice_get}
use Rattle.std.specs.Option.{option_copied}
use Rattle.scald_lex.specs.declared.token.Token.{Token}
use Rattle.drawing_reader.proofs.Backwards.{last_is}
use Rattle.drawing_reader.proofs.rest.Rest.first.Goals as goal

pub returns-in-None : goal.returns-in-None
returns-in-None c = ap option_copied (sym c.in-None.is) ∙ (c.last.ensures.value
    ∙ (last_is c.deref.result.now
    ∙ (ap (λ (ts : List Token). slice_get (reverse ts) 0) c.deref.ensures.value
    ∙ ap (λ (ts : List Token). slice_get ts 0) c.self.view_is)))

pub returns-in-Some : goal.returns-in-Some
returns-in-Some c = ap (λ (t : Token). Some t) c.token.ensures
    ∙ (ap option_copied (sym c.in-Some.is) ∙ (c.last.ensures.value
    ∙ (last_is c.deref.result.now
    ∙ (ap (λ (ts : List Token). slice_get (reverse ts) 0) c.deref.ensures.value
    ∙ ap (λ (ts : List Token). slice_get ts 0) c.self.view_is))))
