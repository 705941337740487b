use Rattle.std.proofs.Common.{ℕ, List, [], ◌∷◌, ◌++◌, ap, sym, ◌∙◌}
use Rattle.std.specs.Prelude.{codes}
use Rattle.std.specs.List.{flat_map, list_any}
use Rattle.draw_report.specs.Element.{Chars, escaped}
use Rattle.draw_report.specs.Grid.{class_of, is_ruled, lines, ruled_words}
use Rattle.draw_report.specs.Wave.{path}
use Rattle.draw_report.proofs.Paths.{adds_if, adds_path, class_front}
use Rattle.draw_report.proofs.grid.put_ruled.Goals as goal

pub returns-then-any_ruled : goal.returns-then-any_ruled
returns-then-any_ruled c =
    let v = c.args.view in
    let class = class_of c.args.ruled in
    let data_ = flat_map (ruled_words v c.args.height c.args.ruled) (lines v) in
    adds_if (list_any (is_ruled c.args.ruled v) (lines v)) (path (Chars class ∷ []) data_)
    c.args.out.now c.put-then-any_ruled.new.self (sym c.any_ruled.ensures ∙ c.if-any_ruled.true)
    (adds_path (Chars class ∷ []) data_
    (codes "<path class=\"" ++ (escaped c.class.result.now ++ codes "\" d=\"")) c.args.out.now
    c.put.new.self c.put_lines.new.out c.put-then-any_ruled.new.self
    (ap (λ (l : List ℕ). codes "<path class=\"" ++ (escaped l ++ codes "\" d=\"")) c.class.ensures
    ∙ class_front class)
    c.put.ensures c.put_lines.ensures c.put-then-any_ruled.ensures)
