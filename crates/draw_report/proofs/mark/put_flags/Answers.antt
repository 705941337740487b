use Rattle.std.proofs.Common.{◌≡◌, ℕ, ◌+◌, List, [], ◌∷◌, ◌++◌, append_assoc, append-nil, refl, ap, sym, ◌∙◌}
use Rattle.std.specs.Prelude.{codes, decimal}
use Rattle.std.specs.List.{flat_map, list_any}
use Rattle.draw_report.specs.declared.mark.Mark.{Mark}
use Rattle.draw_report.specs.declared.paper.Paper.{Paper}
use Rattle.draw_report.specs.declared.view.View.{View}
use Rattle.draw_report.specs.Element.{Chars, Label, Node, Number, Text, all_written, full, written}
use Rattle.draw_report.specs.Mark.{flag_in, is_flag}
use Rattle.draw_report.specs.Paper.{Adds}
use Rattle.draw_report.specs.View.{plot}
use Rattle.draw_report.proofs.Paths.{adds_if}
use Rattle.draw_report.proofs.Texts.{adds_same, adds_three}
use Rattle.draw_report.proofs.Writing.{full_some}
use Rattle.draw_report.proofs.mark.put_flags.Goals as goal

regrouped : (begins x opens word numbers ends : List ℕ) →
    (begins ++ (x ++ (opens ++ word))) ++ (numbers ++ ends)
    ≡ (begins ++ (x ++ opens)) ++ ((word ++ numbers) ++ (ends ++ []))
regrouped begins x opens word numbers ends = simp (append_assoc, append-nil)

abbrev flag_front : ℕ → List ℕ
flag_front x = codes "<text class=\"r\" x=\"" ++ (decimal x ++ codes "\" y=\"160\">fault")

abbrev flag_text : View → ℕ → List Mark → Node
flag_text v row marks =
    full Label
    ((Chars (codes "r") ∷ []) ∷ (Number (plot v + 700) ∷ []) ∷ (Chars (codes "160") ∷ []) ∷ [])
    (Text (Chars (codes "fault") ∷ []) ∷ flat_map (flag_in row) marks)

flags_written : (v : View) (row : ℕ) (marks : List Mark) →
    flag_front (plot v + 700) ++ (all_written (flat_map (flag_in row) marks) ++ codes "</text>")
    ≡ written (flag_text v row marks)
flags_written v row marks =
    regrouped (codes "<text class=\"r\" x=\"") (decimal (plot v + 700)) (codes "\" y=\"160\">")
    (codes "fault") (all_written (flat_map (flag_in row) marks)) (codes "</text>")
    ∙ sym (full_some Label
    ((Chars (codes "r") ∷ []) ∷ (Number (plot v + 700) ∷ []) ∷ (Chars (codes "160") ∷ []) ∷ [])
    (Text (Chars (codes "fault") ∷ []) ∷ flat_map (flag_in row) marks) [] refl)

flags_put : (v : View) (row x : ℕ) (marks : List Mark) (old one two new : Paper) →
    x ≡ plot v + 700 → Adds old one (flag_front x) →
    Adds one two (all_written (flat_map (flag_in row) marks)) → Adds two new (codes "</text>") →
    Adds old new (written (flag_text v row marks))
flags_put v row x marks old one two new is a b c =
    adds_same old new
    (flag_front (plot v + 700) ++ (all_written (flat_map (flag_in row) marks) ++ codes "</text>"))
    (written (flag_text v row marks)) (flags_written v row marks)
    (adds_three old one two new (flag_front (plot v + 700))
    (all_written (flat_map (flag_in row) marks)) (codes "</text>")
    (adds_same old one (flag_front x) (flag_front (plot v + 700)) (ap flag_front is) a) b c)

pub returns-then-has_flag : goal.returns-then-has_flag
returns-then-has_flag c =
    let v = c.args.view in
    adds_if (list_any (is_flag c.args.place) c.args.marks.now)
    (flag_text v c.args.place c.args.marks.now) c.args.out.now c.put-then-has_flag.new.self
    (sym c.has_flag.ensures ∙ c.if-has_flag.true)
    (flags_put v c.args.place (c.plot.result + 700) c.args.marks.now c.args.out.now
    c.put.new.self c.put_numbers.new.out c.put-then-has_flag.new.self
    (ap (λ (n : ℕ). n + 700) c.plot.ensures.is) c.put.ensures c.put_numbers.ensures
    c.put-then-has_flag.ensures)
