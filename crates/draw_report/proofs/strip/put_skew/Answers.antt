use Rattle.std.proofs.Common.{◌≡◌, ℕ, ◌+◌, ◌<◌, true, List, [], ◌∷◌, ◌++◌, arith, ap, ap₂}
use Rattle.std.specs.Prelude.{codes, decimal, nat_lt}
use Rattle.std.proofs.lemmas.Bool.Decides.{nat_tests}
use Rattle.draw_report.specs.declared.paper.Paper.{Paper}
use Rattle.draw_report.specs.declared.view.View.{View}
use Rattle.draw_report.specs.Element.{Chars, Label, Number, all_written, labelled, written}
use Rattle.draw_report.specs.Paper.{Adds}
use Rattle.draw_report.specs.Picture.{skew_texts}
use Rattle.draw_report.specs.View.{plot as plot_of}
use Rattle.draw_report.proofs.Paths.{adds_if}
use Rattle.draw_report.proofs.Texts.{adds_same}
use Rattle.draw_report.proofs.strip.put_skew.Goals as goal

abbrev skewed : ℕ → ℕ → List ℕ
skewed x n =
    codes "<text class=\"q\" x=\"" ++ (decimal x ++ (codes "\" y=\"155\">skew " ++ (decimal n
    ++ codes "</text>")))

skew_put : (v : View) (skew x n : ℕ) (old new : Paper) → x ≡ plot_of v + 60 → n ≡ skew →
    0 < skew → Adds old new (skewed x n) → Adds old new (all_written (skew_texts v skew))
skew_put v skew x n old new is_x is_n some put =
    let test : nat_lt 0 skew ≡ true = grind (arith, nat_tests) in
    adds_if (nat_lt 0 skew)
    (labelled Label
    ((Chars (codes "q") ∷ []) ∷ (Number (plot_of v + 60) ∷ []) ∷ (Chars (codes "155") ∷ []) ∷ [])
    (Chars (codes "skew ") ∷ Number skew ∷ [])) old new test
    (adds_same old new (skewed x n)
    (written (labelled Label
    ((Chars (codes "q") ∷ []) ∷ (Number (plot_of v + 60) ∷ []) ∷ (Chars (codes "155") ∷ []) ∷ [])
    (Chars (codes "skew ") ∷ Number skew ∷ [])))
    (ap₂ skewed is_x is_n) put)

pub returns-then-skew-gt0 : goal.returns-then-skew-gt0
returns-then-skew-gt0 c =
    skew_put c.args.view c.args.skew (c.plot.result + 60) c.from.result c.args.out.now
    c.put.new.self (ap (λ (n : ℕ). n + 60) c.plot.ensures.is) c.from.ensures c.if-skew-gt0.true
    c.put.ensures
