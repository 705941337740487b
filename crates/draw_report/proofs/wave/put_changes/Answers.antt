use Rattle.std.proofs.Common.{[], ◌∷◌, refl, sym, ◌∙◌}
use Rattle.std.specs.Prelude.{codes}
use Rattle.std.specs.List.{flat_map, list_any}
use Rattle.draw_report.specs.Element.{Chars}
use Rattle.draw_report.specs.Wave.{is_busy, late_words, path}
use Rattle.draw_report.proofs.Paths.{adds_if, adds_path, path_front}
use Rattle.draw_report.proofs.wave.put_changes.Goals as goal

pub returns-then-any_busy : goal.returns-then-any_busy
returns-then-any_busy c =
    let data_ = flat_map (late_words c.args.scale) c.args.runs.now in
    adds_if (list_any is_busy c.args.runs.now) (path (Chars (codes "late") ∷ []) data_)
    c.args.out.now c.put-then-any_busy.new.self (sym c.any_busy.ensures ∙ c.if-any_busy.true)
    (adds_path (Chars (codes "late") ∷ []) data_ (path_front (Chars (codes "late") ∷ []))
    c.args.out.now c.put.new.self c.put_all_busy.new.out c.put-then-any_busy.new.self refl
    c.put.ensures
    c.put_all_busy.ensures c.put-then-any_busy.ensures)
