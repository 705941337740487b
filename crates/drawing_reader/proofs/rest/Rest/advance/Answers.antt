use Rattle.std.proofs.Common.{◌≡◌, List, [], None, length, reverse, arith, sym, ap, subst, ◌∙◌}
use Rattle.std.specs.Prelude.{◌≤◌}
use Rattle.std.proofs.lemmas.Grind.{common_steps}
use Rattle.scald_lex.specs.declared.token.Token.{Token}
use Rattle.drawing_reader.specs.Reader.{other_tokens}
use Rattle.drawing_reader.proofs.Backwards.{taken, no_longer}
use Rattle.drawing_reader.proofs.rest.Rest.advance.Goals as goal

pub returns : goal.returns
returns c = record {
  rest = others;
  no_longer = subst (λ (ts : List Token). length ts ≤ length c.args.self.now) (sym others)
      (no_longer c.args.self.now);
}
  where
    none : c.pop-taken.result ≡ None → c.pop-taken.new.self.items ≡ []
    none e = grind (arith, common_steps, e, c.pop-taken.ensures.cases)

    others : reverse c.give_back.new.tokens.items ≡ other_tokens c.args.self.now
    others = ap reverse c.give_back.ensures
        ∙ (taken c.self.inside.backwards.items c.pop-taken.new.self.items c.pop-taken.result
        c.pop-taken.ensures.items none ∙ ap other_tokens c.self.view_is)
