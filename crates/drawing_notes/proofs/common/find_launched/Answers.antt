use Rattle.std.proofs.Common.{◌∙◌, ap, Some}
use Rattle.std.proofs.lemmas.Result.{on_ok_weaker}
use Rattle.drawing_notes.proofs.common.find_launched.Goals as goal

pub returns-in-Some-clause-is : goal.returns-in-Some-clause-is
returns-in-Some-clause-is g c = λ looped are was. was c.args.clock (c.in-Some.is ∙ ap Some c.if-same-clock.true)

pub returns-in_default-clause-is : goal.returns-in_default-clause-is
returns-in_default-clause-is g c = on_ok_weaker c.search.result (λ is looped are was. is looped are) c.search.ensures.is
