use Rattle.std.proofs.Common.{◌≡◌, ℕ, List, [], ◌∷◌, ◌++◌, append_assoc, append-nil, ap, subst, ◌∙◌}
use Rattle.std.specs.Prelude.{codes}
use Rattle.step_values.specs.Steps.{letter_of}
use Rattle.draw_report.specs.declared.paper.Paper.{Paper}
use Rattle.draw_report.specs.declared.run.Placed.{Placed}
use Rattle.draw_report.specs.declared.shape.Stroke.{Stroke}
use Rattle.draw_report.specs.Element.{Byte, Chars, escape, words_text, written}
use Rattle.draw_report.specs.Paper.{Adds}
use Rattle.draw_report.specs.Shape.{shape}
use Rattle.draw_report.specs.Wave.{run_path, stroke}
use Rattle.draw_report.proofs.Paths.{adds_path}
use Rattle.draw_report.proofs.wave.put_run.Goals as goal

regrouped : (front letter opens : List ℕ) →
    front ++ (letter ++ opens) ≡ (front ++ (letter ++ [])) ++ opens
regrouped front letter opens = simp (append_assoc, append-nil)

run_put : (k : ℕ) (p : Placed) (letter : ℕ) (s : Stroke) (old one two new : Paper) →
    letter ≡ letter_of p.value → s ≡ stroke k p →
    Adds old one (codes "<path class=\"v" ++ (escape letter ++ codes "\" d=\"")) →
    Adds one two (words_text (shape p.value s)) → Adds two new (codes "\"/>") →
    Adds old new (written (run_path k p))
run_put k p letter s old one two new is at a b c =
    adds_path (Chars (codes "v") ∷ Byte (letter_of p.value) ∷ []) (shape p.value (stroke k p))
    (codes "<path class=\"v" ++ (escape letter ++ codes "\" d=\"")) old one two new
    (ap (λ (n : ℕ). codes "<path class=\"v" ++ (escape n ++ codes "\" d=\"")) is
    ∙ regrouped (codes "<path class=\"v") (escape (letter_of p.value)) (codes "\" d=\""))
    a (subst (λ (t : Stroke). Adds one two (words_text (shape p.value t))) at b) c

pub returns : goal.returns
returns c =
    run_put c.args.scale c.args.run c.letter.result c.stroke.result c.args.out.now c.put.new.self
    c.put_shape.new.out c.put-2.new.self c.letter.ensures c.stroke.ensures c.put.ensures
    c.put_shape.ensures c.put-2.ensures
