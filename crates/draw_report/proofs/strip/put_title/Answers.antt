use Rattle.std.proofs.Common.{◌≡◌, ℕ, List, [], ◌++◌, length, append_assoc, ap, subst, sym, ◌∙◌}
use Rattle.std.specs.Prelude.{codes, decimal}
use Rattle.std.specs.List.{flat_map}
use Rattle.step_values.specs.declared.value.Value.{Value}
use Rattle.draw_report.specs.declared.paper.Paper.{Paper}
use Rattle.skew_algebra.specs.Wave.{Wave}
use Rattle.draw_report.specs.Element.{escaped, words_text, written}
use Rattle.draw_report.specs.Paper.{Adds}
use Rattle.draw_report.specs.Picture.{title}
use Rattle.draw_report.specs.Wave.{run_words, runs_from}
use Rattle.draw_report.proofs.Texts.{adds_same, adds_three, words_rest}
use Rattle.draw_report.proofs.strip.put_title.Goals as goal

titled : (name digits runs end : List ℕ) →
    (codes "<title>" ++ (escaped name ++ (codes " SKEW " ++ (digits ++ [])))) ++ (runs ++ end)
    ≡ codes "<title>" ++ (escaped name ++ (codes " SKEW " ++ (digits ++ (runs ++ end))))
titled name digits runs end = simp append_assoc

adds_title : (name : List ℕ) (w : Wave Value) (skew : ℕ) (cells : List Value)
    (old one two new : Paper) → skew ≡ w.skew → cells ≡ w.cells →
    Adds old one (codes "<title>" ++ (escaped name ++ (codes " SKEW " ++ (decimal skew ++ [])))) →
    Adds one two (words_text (flat_map run_words (runs_from cells 0 (length cells)))) →
    Adds two new (codes "</title>") → Adds old new (written (title name w))
adds_title name w skew cells old one two new late same a b c =
    let runs = flat_map run_words (runs_from w.cells 0 (length w.cells)) in
    let front = codes "<title>" ++ (escaped name ++ (codes " SKEW " ++ (decimal w.skew ++ []))) in
    adds_same old new (front ++ (words_text runs ++ codes "</title>")) (written (title name w))
    (titled name (decimal w.skew) (words_text runs) (codes "</title>")
    ∙ ap (λ (l : List ℕ). codes "<title>"
    ++ (escaped name ++ (codes " SKEW " ++ (decimal w.skew ++ l))))
    (sym (words_rest runs (codes "</title>"))))
    (adds_three old one two new front (words_text runs) (codes "</title>")
    (subst (λ (n : ℕ). Adds old one (codes "<title>"
    ++ (escaped name ++ (codes " SKEW " ++ (decimal n ++ []))))) late a)
    (subst (λ (vs : List Value). Adds one two
    (words_text (flat_map run_words (runs_from vs 0 (length vs))))) same b)
    c)

pub returns : goal.returns
returns g c =
    adds_title c.args.label.now c.args.wave.now c.from.result
    (g.W.CyclicWave.cells c.wave.result.now) c.args.out.now c.put.new.self c.put_period.new.out
    c.put-2.new.self (c.from.ensures ∙ c.skew.ensures) c.wave.ensures c.put.ensures
    c.put_period.ensures c.put-2.ensures
