use Rattle.std.proofs.Common.{◌≡◌, ℕ, List, ◌∷◌, ◌++◌, subst}
use Rattle.std.specs.Prelude.{codes}
use Rattle.std.specs.List.{flat_map, zip}
use Rattle.step_values.specs.declared.value.Value.{Value}
use Rattle.skew_algebra.specs.Wave.{Wave}
use Rattle.draw_report.specs.declared.mark.Layout.{Layout}
use Rattle.draw_report.specs.declared.paper.Paper.{Paper}
use Rattle.draw_report.specs.declared.sketch.Sketch.{Sketch as Drawn}
use Rattle.draw_report.specs.Element.{Break, all_written}
use Rattle.draw_report.specs.Grid.{grid_nodes}
use Rattle.draw_report.specs.Mark.{mark_nodes}
use Rattle.draw_report.specs.Paper.{Adds}
use Rattle.draw_report.specs.Picture.{grid_height, layout_of, plotted, row_groups, sketched}
use Rattle.draw_report.proofs.Texts.{adds_two, nodes_two}
use Rattle.draw_report.proofs.picture.put_plot.Goals as goal

plot_put : (d : Drawn) (ws : List (Wave Value)) (layout : Layout) (grid : ℕ)
    (old one two three four new : Paper) → layout ≡ layout_of (sketched d ws) →
    grid ≡ grid_height (sketched d ws) → Adds old one (codes "\n") →
    Adds one two (all_written (grid_nodes d.view grid)) → Adds two three (codes "\n") →
    Adds three four (all_written (row_groups d.view layout d.marks.now 0 (zip d.labels.now ws))) →
    Adds four new (all_written (flat_map (mark_nodes d.view layout d.texts.now) d.marks.now)) →
    Adds old new (all_written (plotted (sketched d ws)))
plot_put d ws layout grid old one two three four new rows high a b c e f =
    let l = layout_of (sketched d ws) in
    let h = grid_height (sketched d ws) in
    let groups = row_groups d.view l d.marks.now 0 (zip d.labels.now ws) in
    let over = flat_map (mark_nodes d.view l d.texts.now) d.marks.now in
    adds_two old one new (codes "\n") (all_written
    (grid_nodes d.view h ++ (Break ∷ (groups ++ over)))) a
    (nodes_two one two new (grid_nodes d.view h) (Break ∷ (groups ++ over))
    (subst (λ (n : ℕ). Adds one two (all_written (grid_nodes d.view n))) high b)
    (adds_two two three new (codes "\n") (all_written (groups ++ over)) c
    (nodes_two three four new groups over
    (subst (λ (m : Layout). Adds three four (all_written
    (row_groups d.view m d.marks.now 0 (zip d.labels.now ws)))) rows e)
    (subst (λ (m : Layout). Adds four new (all_written
    (flat_map (mark_nodes d.view m d.texts.now) d.marks.now))) rows f))))

pub returns : goal.returns
returns g c =
    plot_put c.args.sketch.now c.args.waves.now c.args.layout c.args.grid c.args.out.now
    c.put.new.self c.put_grid.new.out c.put-2.new.self c.put_rows.new.out c.put_marks.new.out
    c.requires.layout c.requires.grid c.put.ensures c.put_grid.ensures c.put-2.ensures
    c.put_rows.ensures c.put_marks.ensures
