use Rattle.std.proofs.Common.{[], length, ap, ◌∙◌, arith, Some, None}
use Rattle.std.proofs.lemmas.List.{get_or_read}
use Rattle.drawing_omissions.specs.Same.{case_at}
use Rattle.drawing_omissions.proofs.AddingHeld.{firsts_long, new_is}
use Rattle.drawing_omissions.proofs.parts.is_new.Goals as goal

pub bounds : goal.bounds
bounds c = let long = firsts_long c.args.cases.now c.args.firsts.now c.requires.firsts in omega (arith, long, c.requires.exists)

pub returns-in-None : goal.returns-in-None
returns-in-None c =
    let cases = c.args.cases.now in
    new_is cases c.args.firsts.now c.args.entries c.args.place None c.len.result c.requires.firsts c.requires.exists c.in-None.is
    (c.len.ensures ∙ ap length (get_or_read cases c.args.place c.index-cases-place.result c.requires.exists c.index-cases-place.is []))

pub returns-in-Some : goal.returns-in-Some
returns-in-Some c =
    let cases = c.args.cases.now in
    new_is cases c.args.firsts.now c.args.entries c.args.place (Some c.in-Some.field-0) _ c.requires.firsts c.requires.exists c.in-Some.is (λ k. length (case_at cases c.args.place))
