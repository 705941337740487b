use Rattle.std.proofs.Common.{◌+◌, ◌-◌, Bool, [], ◌∷◌, ◌++◌, arith, ap, sym, ◌∙◌}
use Rattle.std.specs.List.{flat_map}
use Rattle.std.specs.Prelude.{codes, if◌then◌else◌}
use Rattle.draw_report.specs.Element.{all_written, written}
use Rattle.draw_report.specs.Grid.{head_at, lines, unit_at, unit_numbers}
use Rattle.draw_report.proofs.Texts.{adds_no_number, adds_number, adds_same, adds_two, nodes_numbers}
use Rattle.draw_report.proofs.grid.put_units.Goals as goal

pub loop-line-init : goal.loop-line-init
loop-line-init c = record {
  after = omega arith;
  text = adds_no_number (λ k. all_written (unit_at c.args.view k)) c.args.view.first
      (c.args.view.first - c.args.view.first) c.put.new.self (omega arith);
}

pub loop-line-preserved : goal.loop-line-preserved
loop-line-preserved c = record {
  after = omega arith;
  text = adds_number (λ k. all_written (unit_at c.args.view k)) c.args.view.first
      (c.loop-line.line - c.args.view.first) (c.loop-line.line + 1 - c.args.view.first)
      c.loop-line.line c.put.new.self c.loop-line.out c.put_unit.new.out (omega arith)
      (omega arith) c.loop-line.invariant.text c.put_unit.ensures;
}

pub returns-after-loop-line : goal.returns-after-loop-line
returns-after-loop-line c =
    let v = c.args.view in
    let head = head_at (codes "-170") (codes "unit") in
    adds_same c.args.out.now c.loop-line.out
    (written head ++ all_written (flat_map (unit_at v) (lines v))) (all_written (unit_numbers v))
    (sym (ap (λ (t : Bool). all_written (if t then head ∷ flat_map (unit_at v) (lines v) else []))
    (sym c.any_unit.ensures ∙ c.if-any_unit.true)))
    (adds_two c.args.out.now c.put.new.self c.loop-line.out (written head)
    (all_written (flat_map (unit_at v) (lines v))) c.put.ensures
    (nodes_numbers (unit_at v) v.first (c.loop-line.line - v.first) (v.count + 1) c.put.new.self
    c.loop-line.out (omega arith) c.loop-line.invariant.text))
