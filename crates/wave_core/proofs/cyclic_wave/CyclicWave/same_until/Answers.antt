use Rattle.std.proofs.Common.{Some, arith, sym, ap, ◌∙◌}
use Rattle.std.proofs.lemmas.Bool.{not-false}
use Rattle.wave_core.proofs.Steady.{grown, held, is_no_other, one}
use Rattle.wave_core.proofs.cyclic_wave.CyclicWave.same_until.Goals as goal

pub loop-next-init : goal.loop-next-init
loop-next-init g c = one (g.Self.CyclicWave.cells c.args.self.now) c.args.slot

pub returns-then-ne : goal.returns-then-ne
returns-then-ne g c =
    let here = c.at.result in
    let first = c.at-cell.result in
    record {
      behind = omega arith;
      within = omega (arith, c.period-next-end.ensures, c.loop-next-test.true);
      same = c.loop-next.invariant;
      other = λ below e.
          is_no_other (g.Self.Item.PartialEq.eq here first) c.if-ne.ensures
          (g.met.Self.Item.Cell.equal here first
          ∙ ap (λ v. g.Self.Item.Cell.kind.same here v) (sym (held here first (sym c.at.ensures ∙ e ∙ c.at-cell.ensures)))
          ∙ g.met.Self.Item.Cell.laws.same_self here);
    }

pub loop-next-preserved : goal.loop-next-preserved
loop-next-preserved g c =
    let here = c.at.result in
    let first = c.at-cell.result in
    let equal = sym (g.met.Self.Item.Cell.equal here first) ∙ not-false (g.Self.Item.PartialEq.eq here first) (sym c.if-ne.ensures) in
    grown (g.Self.CyclicWave.cells c.args.self.now) c.args.slot c.loop-next.next c.loop-next.invariant
    (c.at.ensures ∙ ap Some (g.met.Self.Item.Cell.laws.same_is here first equal) ∙ sym c.at-cell.ensures)

pub returns : goal.returns
returns g c = record {
  behind = omega (arith, c.requires, c.period.ensures);
  within = omega (arith, c.period.ensures);
  same = λ p from below. c.loop-next.invariant p from (omega (arith, below, c.period.ensures, c.period-next-end.ensures, c.loop-next-test.false));
  other = λ below. absurd (omega (arith, below, c.period.ensures));
}
