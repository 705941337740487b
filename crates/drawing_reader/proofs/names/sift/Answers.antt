use Rattle.std.proofs.Common.{map, subst, List}
use Rattle.drawing_grammar.specs.Names.{named}
use Rattle.drawing_reader.specs.declared.names.Doubtful.{Doubtful}
use Rattle.drawing_reader.specs.Sifted.{IsAgain, naming_of}
use Rattle.drawing_reader.proofs.Bare.{bare_good}
use Rattle.drawing_reader.proofs.Sifting.{sifted_out, again_good, kept}
use Rattle.drawing_reader.proofs.names.sift.Goals as goal

pub returns-then-is_bare : goal.returns-then-is_bare
returns-then-is_bare c = λ all rest so.
    sifted_out (map naming_of c.args.doubtful.now) all rest
    (named c.args.text.now c.args.of_formal c.args.place)
    (λ h good. bare_good h c.args.text.now c.args.of_formal c.args.place
    (c.is_bare.ensures c.if-is_bare.true)) so

pub returns-then-is_again : goal.returns-then-is_again
returns-then-is_again c = λ all rest so.
    let text = c.args.text.now in let formal = c.args.of_formal in
    let is = subst (λ (ds : List Doubtful). IsAgain (map naming_of ds) text formal)
    c.as_slice.ensures (c.is_again.ensures c.if-is_again.true) in
    sifted_out (map naming_of c.args.doubtful.now) all rest (named text formal c.args.place)
    (again_good (map naming_of c.args.doubtful.now) text formal c.args.place is) so

pub returns : goal.returns
returns c = λ all rest so.
    kept c.args.doubtful.now c.push.new.self _ all rest c.in_ok-push.ensures.ok so
