use Rattle.std.proofs.Common.{◌≡◌, ◌∙◌, ◌++◌, ◌∷◌, [], List, ℕ, ap, map}
use Rattle.netlist_import.specs.declared.netlist.Module.{Module}
use Rattle.netlist_import.specs.declared.netlist.Cell.{Cell}
use Rattle.netlist_import.specs.Kinds.{all_cells, all_uses_after, kinds_after, uses_after}
use Rattle.netlist_import.specs.Shapes.{number_of_used}
use Rattle.netlist_import.proofs.Joining.{kinds_end, kinds_here, targets_end, targets_here}
use Rattle.netlist_import.proofs.kinds.targets_by.Goals as goal

pub loop-module-preserved : goal.loop-module-preserved
loop-module-preserved c =
    let ms = c.args.modules.now in
    let i = c.loop-module.module-index in
    let m = c.module-item.result in
    let kinds = c.loop-module.kinds in
    let next = c.targets_of.new.kinds in
    let grown : next ≡ kinds_after ms kinds m.cells =
    c.in_ok-targets_of.ensures.kinds ∙ ap (λ (t : List Module). kinds_after t kinds
    c.as_slice-cells.result.now) c.requires
    ∙ ap (λ (cs : List Cell). kinds_after ms kinds cs) c.as_slice-cells.ensures in
    let used : c.in_ok-targets_of.field-0 ≡ map (number_of_used ms) (uses_after ms kinds m.cells) =
    c.in_ok-targets_of.ensures.targets
    ∙ ap (λ (t : List Module). map (number_of_used t)
    (uses_after t kinds c.as_slice-cells.result.now)) c.requires
    ∙ ap (λ (cs : List Cell). map (number_of_used ms) (uses_after ms kinds cs))
    c.as_slice-cells.ensures in
    record {
      targets =
          targets_here ms ms i m kinds next
          (map (map (number_of_used ms)) (all_uses_after ms c.args.kinds.now ms))
          c.loop-module.all c.push.new.self
          c.loop-module-test.true c.module-item.is grown
          (c.in_ok-push.ensures.ok ∙ ap (λ (t : List ℕ). c.loop-module.all ++ t ∷ []) used)
          c.loop-module.invariant.targets;
      kinds =
          kinds_here ms ms i m kinds next (kinds_after ms c.args.kinds.now (all_cells ms))
          c.loop-module-test.true c.module-item.is grown
          c.loop-module.invariant.kinds;
    }

pub returns-clause-targets : goal.returns-clause-targets
returns-clause-targets c =
    let ms = c.args.modules.now in
    targets_end ms ms c.loop-module.module-index c.loop-module.kinds
    (map (map (number_of_used ms)) (all_uses_after ms c.args.kinds.now ms)) c.loop-module.all
    c.loop-module-test.false c.loop-module.invariant.targets

pub returns-clause-kinds : goal.returns-clause-kinds
returns-clause-kinds c =
    let ms = c.args.modules.now in
    kinds_end ms ms c.loop-module.module-index c.loop-module.kinds
    (kinds_after ms c.args.kinds.now (all_cells ms))
    c.loop-module-test.false c.loop-module.invariant.kinds
