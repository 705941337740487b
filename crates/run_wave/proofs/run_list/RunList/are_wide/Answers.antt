use Rattle.std.proofs.Common.{rules, arith, ◌≡◌, ◌≤◌, get_or, ap}
use Rattle.std.proofs.lemmas.List.{take_all}
use Rattle.std.proofs.lemmas.List.Elements.{All-more}
use Rattle.run_wave.proofs.run_list.RunList.are_wide.Goals as goal

pub loop-run-preserved : goal.loop-run-preserved
loop-run-preserved g c =
    let rs = c.args.self.now.runs.items in
    let i = c.loop-run.run-index in
    let r = c.run-item.result in
    let is : r ≡ get_or rs i r = search rules in
    let same = ap (λ z. z.width) is in
    All-more (λ z. c.args.width ≤ z.width) rs i r (omega arith) c.loop-run.invariant (omega (arith, same))

pub returns : goal.returns
returns g c = λ _. rw (take_all c.loop-run.run-index c.args.self.now.runs.items (omega arith)) at c.loop-run.invariant
