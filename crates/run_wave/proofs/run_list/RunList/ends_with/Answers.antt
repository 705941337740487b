use Rattle.std.proofs.Common.{rules, arith, ◌≡◌, ◌+◌, ◌-◌, length, sym, ap, ◌∙◌}
use Rattle.run_wave.proofs.Runs.{last_ends, ends_last}
use Rattle.run_wave.proofs.run_list.RunList.ends_with.Goals as goal

pub returns : goal.returns
returns g c =
    let rs = c.args.self.now.runs.items in
    let r = c.index.result.now in
    let last : c.len-count.result - 1 + 1 ≡ length rs = omega arith in
    let is : c.eq.result ≡ g.T.PartialEq.eq r.cell c.args.cell = search rules in
    let equal = g.met.T.Cell.equal r.cell c.args.cell in (
      λ t. last_ends rs (c.len-count.result - 1) r c.args.cell last c.index.ensures
          (g.met.T.Cell.laws.same_is r.cell c.args.cell (sym equal ∙ sym is ∙ t)),
      λ h. is ∙ equal ∙ ap (g.T.Cell.kind.same r.cell) (sym (ends_last rs (c.len-count.result - 1) r c.args.cell last c.index.ensures h)) ∙ g.met.T.Cell.laws.same_self r.cell,
    )
