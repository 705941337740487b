use Rattle.std.proofs.Common.{◌≡◌, ℕ, ◌++◌, ◌∙◌, List, [], ap, map, slice_get, codes}
use Rattle.std.proofs.lemmas.Result.{on_ok_weaker}
use Rattle.drawing_tree.specs.Canonical.{statements_lines}
use Rattle.netlist_import.specs.declared.netlist.Cell.{Cell}
use Rattle.netlist_import.specs.Fresh.{names_after}
use Rattle.netlist_import.specs.Body.{cell_labels, cells_written, listed}
use Rattle.netlist_import.proofs.Written.{labels_given}
use Rattle.netlist_import.proofs.body.add_cell_part.Goals as goal

pub returns-clause-labels : goal.returns-clause-labels
returns-clause-labels c =
    on_ok_weaker c.add_cells.result
    (λ e. labels_given c.args.module.now c.as_slice-cells.result.now c.args.labels.now
    c.take_labels.new.labels c.requires c.as_slice-cells.ensures c.in_ok-take_labels.ensures)
    c.add_cells.ensures.text

pub returns-clause-text : goal.returns-clause-text
returns-clause-text c =
    let used = map (slice_get c.args.shapes.now) c.args.targets.now in
    let nets = c.args.nets.now in
    let cells = c.as_slice-cells.result.now in
    let given : c.as_slice.result.now ≡ names_after [] (cell_labels 0 c.args.module.now.cells) =
    c.as_slice.ensures ∙ labels_given c.args.module.now cells c.args.labels.now
    c.take_labels.new.labels c.requires c.as_slice-cells.ensures c.in_ok-take_labels.ensures in
    on_ok_weaker c.add_cells.result
    (λ e. e
    ∙ ap (λ (ls : List (List ℕ)). c.args.out.now ++ statements_lines (codes "  ")
    (listed (cells_written cells ls used nets).statements)) given
    ∙ ap (λ (cs : List Cell). c.args.out.now ++ statements_lines (codes "  ")
    (listed (cells_written cs (names_after [] (cell_labels 0 c.args.module.now.cells)) used
    nets).statements))
    c.as_slice-cells.ensures)
    c.add_cells.ensures.text

pub returns-clause-nets : goal.returns-clause-nets
returns-clause-nets c =
    let used = map (slice_get c.args.shapes.now) c.args.targets.now in
    let nets = c.args.nets.now in
    let cells = c.as_slice-cells.result.now in
    let given : c.as_slice.result.now ≡ names_after [] (cell_labels 0 c.args.module.now.cells) =
    c.as_slice.ensures ∙ labels_given c.args.module.now cells c.args.labels.now
    c.take_labels.new.labels c.requires c.as_slice-cells.ensures c.in_ok-take_labels.ensures in
    on_ok_weaker c.add_cells.result
    (λ e. e ∙ ap (λ (ls : List (List ℕ)). (cells_written cells ls used nets).nets) given
    ∙ ap (λ (cs : List Cell). (cells_written cs
    (names_after [] (cell_labels 0 c.args.module.now.cells)) used nets).nets)
    c.as_slice-cells.ensures)
    c.add_cells.ensures.nets
