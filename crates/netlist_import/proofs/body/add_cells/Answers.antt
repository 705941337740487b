use Rattle.std.proofs.Common.{◌≡◌, ◌++◌, ◌∙◌, List, ℕ, ap, map, codes, slice_get, Option, Some, option_map}
use Rattle.std.proofs.lemmas.Option.{slice_get_past}
use Rattle.drawing_tree.specs.Canonical.{statements_lines}
use Rattle.netlist_import.specs.declared.shapes.Shape.{Shape}
use Rattle.netlist_import.specs.Body.{cell_written, cells_written, listed}
use Rattle.netlist_import.proofs.Written.{cells_all, cells_unlabelled, cells_untargeted, got, got_option, nets_end, nets_more, text_end, text_more}
use Rattle.netlist_import.proofs.body.add_cells.Goals as goal

pub loop-place-preserved : goal.loop-place-preserved
loop-place-preserved c =
    let cells = c.args.cells.now in
    let labels = c.args.labels.now in
    let targets = c.args.targets.now in
    let shapes = c.args.shapes.now in
    let i = c.loop-place.place in
    let s = c.loop-place.nets in
    let cell = c.index-cells-place.result in
    let label = c.in-Some.label.now in
    let target = c.in-Some-get.target.now in
    let found = c.in-Some.ensures.lookup in
    let found2 = c.in-Some-get.ensures.lookup in
    let hc : slice_get cells i ≡ Some cell = got cells i cell c.loop-place-test.true
    c.index-cells-place.is in
    let hl : slice_get labels i ≡ Some label = got labels i label found.3.0 found.1 in
    let ht : slice_get targets i ≡ Some target = got targets i target found2.3.0 found2.1 in
    let shape : option_map (λ b. b.now) c.get-in-loop-place-2.result ≡ slice_get shapes target =
    got_option c.get-in-loop-place-2.result shapes target c.get-in-loop-place-2.ensures.lookup in
    let next = c.add_target.new.nets in
    let text_is =
    c.in_ok-add_target.ensures.text
    ∙ ap (λ (l : List ℕ). c.loop-place.out
    ++ statements_lines (codes "  ") (listed
    (cell_written cell l (option_map (λ b. b.now) c.get-in-loop-place-2.result) s).statements))
    c.as_slice.ensures
    ∙ ap (λ (o : Option Shape). c.loop-place.out
    ++ statements_lines (codes "  ") (listed (cell_written cell label o s).statements))
    shape in
    let nets_is =
    c.in_ok-add_target.ensures.nets
    ∙ ap (λ (l : List ℕ). (cell_written cell l (option_map (λ b. b.now) c.get-in-loop-place-2.result) s).nets)
    c.as_slice.ensures
    ∙ ap (λ (o : Option Shape). (cell_written cell label o s).nets) shape in
    let all = cells_written cells labels (map (slice_get shapes) targets) c.args.nets.now in
    record {
      text =
          text_more cells labels targets shapes i s cell label target hc hl ht next
          (c.args.out.now ++ statements_lines (codes "  ") (listed all.statements)) c.loop-place.out
          c.add_target.new.out text_is nets_is c.loop-place.invariant.text;
      nets = nets_more cells labels targets shapes i s cell label target hc hl ht next all.nets
          nets_is c.loop-place.invariant.nets;
    }

pub returns-in_default-clause-text : goal.returns-in_default-clause-text
returns-in_default-clause-text c =
    let cells = c.args.cells.now in
    let labels = c.args.labels.now in
    let targets = c.args.targets.now in
    let shapes = c.args.shapes.now in
    let i = c.loop-place.place in
    let s = c.loop-place.nets in
    let all = cells_written cells labels (map (slice_get shapes) targets) c.args.nets.now in
    let cell = c.index-cells-place.result in
    let hc : slice_get cells i ≡ Some cell = got cells i cell c.loop-place-test.true
    c.index-cells-place.is in
    text_end cells labels targets shapes i s (c.args.out.now
    ++ statements_lines (codes "  ") (listed all.statements)) c.loop-place.out
    (cells_unlabelled cells labels targets shapes i s cell hc
    (slice_get_past labels i c.in_default.ensures.lookup.3))
    c.loop-place.invariant.text

pub returns-in_default-clause-nets : goal.returns-in_default-clause-nets
returns-in_default-clause-nets c =
    let cells = c.args.cells.now in
    let labels = c.args.labels.now in
    let targets = c.args.targets.now in
    let shapes = c.args.shapes.now in
    let i = c.loop-place.place in
    let s = c.loop-place.nets in
    let all = cells_written cells labels (map (slice_get shapes) targets) c.args.nets.now in
    let cell = c.index-cells-place.result in
    let hc : slice_get cells i ≡ Some cell = got cells i cell c.loop-place-test.true
    c.index-cells-place.is in
    nets_end cells labels targets shapes i s all.nets
    (cells_unlabelled cells labels targets shapes i s cell hc
    (slice_get_past labels i c.in_default.ensures.lookup.3))
    c.loop-place.invariant.nets

pub returns-in_default-get-clause-text : goal.returns-in_default-get-clause-text
returns-in_default-get-clause-text c =
    let cells = c.args.cells.now in
    let labels = c.args.labels.now in
    let targets = c.args.targets.now in
    let shapes = c.args.shapes.now in
    let i = c.loop-place.place in
    let s = c.loop-place.nets in
    let all = cells_written cells labels (map (slice_get shapes) targets) c.args.nets.now in
    let cell = c.index-cells-place.result in
    let hc : slice_get cells i ≡ Some cell = got cells i cell c.loop-place-test.true
    c.index-cells-place.is in
    let found = c.in-Some.ensures.lookup in
    let hl : slice_get labels i ≡ Some c.in-Some.label.now =
    got labels i c.in-Some.label.now found.3.0 found.1 in
    text_end cells labels targets shapes i s (c.args.out.now
    ++ statements_lines (codes "  ") (listed all.statements)) c.loop-place.out
    (cells_untargeted cells labels targets shapes i s cell c.in-Some.label.now hc hl
    (slice_get_past targets i c.in_default-get.ensures.lookup.3))
    c.loop-place.invariant.text

pub returns-in_default-get-clause-nets : goal.returns-in_default-get-clause-nets
returns-in_default-get-clause-nets c =
    let cells = c.args.cells.now in
    let labels = c.args.labels.now in
    let targets = c.args.targets.now in
    let shapes = c.args.shapes.now in
    let i = c.loop-place.place in
    let s = c.loop-place.nets in
    let all = cells_written cells labels (map (slice_get shapes) targets) c.args.nets.now in
    let cell = c.index-cells-place.result in
    let hc : slice_get cells i ≡ Some cell = got cells i cell c.loop-place-test.true
    c.index-cells-place.is in
    let found = c.in-Some.ensures.lookup in
    let hl : slice_get labels i ≡ Some c.in-Some.label.now =
    got labels i c.in-Some.label.now found.3.0 found.1 in
    nets_end cells labels targets shapes i s all.nets
    (cells_untargeted cells labels targets shapes i s cell c.in-Some.label.now hc hl
    (slice_get_past targets i c.in_default-get.ensures.lookup.3))
    c.loop-place.invariant.nets

pub returns-clause-text : goal.returns-clause-text
returns-clause-text c =
    let cells = c.args.cells.now in
    let labels = c.args.labels.now in
    let targets = c.args.targets.now in
    let shapes = c.args.shapes.now in
    let i = c.loop-place.place in
    let s = c.loop-place.nets in
    let all = cells_written cells labels (map (slice_get shapes) targets) c.args.nets.now in
    text_end cells labels targets shapes i s (c.args.out.now
    ++ statements_lines (codes "  ") (listed all.statements)) c.loop-place.out
    (cells_all cells labels targets shapes i s (slice_get_past cells i c.loop-place-test.false))
    c.loop-place.invariant.text

pub returns-clause-nets : goal.returns-clause-nets
returns-clause-nets c =
    let cells = c.args.cells.now in
    let labels = c.args.labels.now in
    let targets = c.args.targets.now in
    let shapes = c.args.shapes.now in
    let i = c.loop-place.place in
    let s = c.loop-place.nets in
    let all = cells_written cells labels (map (slice_get shapes) targets) c.args.nets.now in
    nets_end cells labels targets shapes i s all.nets
    (cells_all cells labels targets shapes i s (slice_get_past cells i c.loop-place-test.false))
    c.loop-place.invariant.nets
