-- Elements of one tag, as they are put piece by piece.
use Rattle.std.proofs.Common.{◌≡◌, ℕ, ◌-◌, ◌*◌, ◌<◌, Bool, true, false, List, [], ◌∷◌, ◌++◌, append_assoc, append-nil, arith, sym, ap, subst, ◌∙◌}
use Rattle.std.specs.Prelude.{codes, decimal, if◌then◌else◌, nat_lt}
use Rattle.std.proofs.lemmas.Bool.Decides.{nat_tests}
use Rattle.draw_report.specs.declared.mark.Slots.{Slots}
use Rattle.draw_report.specs.declared.paper.Paper.{Paper}
use Rattle.draw_report.specs.declared.view.View.{View}
use Rattle.draw_report.specs.Element.{Break, Chars, MovedPath, Node, Number, Word, all_written, empty, escaped, words_onto, words_text, written}
use Rattle.draw_report.specs.Mark.{after_shown, area_path, area_stroke, first_shown}
use Rattle.draw_report.specs.Paper.{Adds}
use Rattle.draw_report.specs.Shape.{area}
use Rattle.draw_report.specs.View.{scale, x_of}
use Rattle.draw_report.specs.Wave.{path}
use Rattle.draw_report.proofs.Texts.{adds_none, adds_same, adds_three, words_rest}

-- ---- paths

abbrev pub path_front : List Word → List ℕ
path_front class = codes "<path class=\"" ++ (words_text class ++ codes "\" d=\"")

path_written : (class data_ : List Word) →
    path_front class ++ (words_text data_ ++ codes "\"/>") ≡ written (path class data_)
path_written class data_ =
    ap (λ (l : List ℕ). codes "<path class=\"" ++ l)
    (append_assoc (words_text class) (codes "\" d=\"") (words_text data_ ++ codes "\"/>")
    ∙ ap (λ (l : List ℕ). words_text class ++ (codes "\" d=\"" ++ l))
    (sym (words_rest data_ (codes "\"/>")))
    ∙ sym (words_rest class (codes "\" d=\"" ++ words_onto data_ (codes "\"/>"))))

pub adds_path : (class data_ : List Word) (front : List ℕ) (old one two new : Paper) →
    front ≡ path_front class → Adds old one front → Adds one two (words_text data_) →
    Adds two new (codes "\"/>") → Adds old new (written (path class data_))
adds_path class data_ front old one two new is a b c =
    adds_same old new (path_front class ++ (words_text data_ ++ codes "\"/>"))
    (written (path class data_)) (path_written class data_)
    (adds_three old one two new (path_front class) (words_text data_) (codes "\"/>")
    (adds_same old one front (path_front class) is a) b c)

-- a class is written as a text is
pub class_front : (class : List ℕ) →
    codes "<path class=\"" ++ (escaped class ++ codes "\" d=\"") ≡ path_front (Chars class ∷ [])
class_front class =
    ap (λ (l : List ℕ). codes "<path class=\"" ++ (l ++ codes "\" d=\""))
    (sym (append-nil (escaped class)))

-- one path, if there is one
pub adds_if : (test : Bool) (n : Node) (old new : Paper) → test ≡ true →
    Adds old new (written n) → Adds old new (all_written (if test then n ∷ [] else []))
adds_if test n old new is a =
    adds_same old new (written n) (all_written (if test then n ∷ [] else []))
    (sym (ap (λ (t : Bool). all_written (if t then n ∷ [] else [])) is ∙ append-nil (written n))) a

pub adds_if_not : (test : Bool) (n : Node) (old : Paper) → test ≡ false →
    Adds old old (all_written (if test then n ∷ [] else []))
adds_if_not test n old is =
    adds_same old old [] (all_written (if test then n ∷ [] else []))
    (sym (ap (λ (t : Bool). all_written (if t then n ∷ [] else [])) is)) (adds_none old)

-- ---- areas of a row

pub adds_area : (v : View) (class : List ℕ) (s : Slots) (from end x width : ℕ)
    (old one two new : Paper) → from ≡ first_shown v s → end ≡ after_shown v s → from < end →
    x ≡ x_of v (first_shown v s) →
    width ≡ scale v * (after_shown v s - first_shown v s) →
    Adds old one (codes "<path class=\"" ++ (escaped class ++ codes "\" d=\"")) →
    Adds one two (words_text (area (record { x = x; width = width; is_single = false }))) →
    Adds two new (codes "\"/>") → Adds old new (all_written (area_path v class s))
adds_area v class s from end x width old one two new begin last some at wide a b c =
    let test : nat_lt (first_shown v s) (after_shown v s) ≡ true =
    (let there : first_shown v s < after_shown v s = subst (λ (n : ℕ). n < after_shown v s) begin
    (subst (λ (n : ℕ). from < n) last some) in grind (arith, nat_tests)) in
    adds_if (nat_lt (first_shown v s) (after_shown v s))
    (path (Chars class ∷ []) (area (area_stroke v s))) old new test
    (adds_path (Chars class ∷ []) (area (area_stroke v s))
    (codes "<path class=\"" ++ (escaped class ++ codes "\" d=\"")) old one two new
    (class_front class) a
    (subst (λ (n : ℕ). Adds one two (words_text
    (area (record { x = x_of v (first_shown v s); width = n; is_single = false })))) wide
    (subst (λ (n : ℕ). Adds one two (words_text
    (area (record { x = n; width = width; is_single = false })))) at b))
    c)

-- ---- a path that is moved down, and the end of its line

moved_regrouped : (front side moved y opens data_ end line : List ℕ) →
    (front ++ (side ++ (moved ++ (y ++ opens)))) ++ (data_ ++ (end ++ line))
    ≡ (front ++ (side ++ (moved ++ (y ++ (opens ++ (data_ ++ end)))))) ++ line
moved_regrouped front side moved y opens data_ end line = simp append_assoc

moved_written : (side y : ℕ) (data_ : List Word) →
    (codes "<path class=\"st" ++ (decimal side ++ (codes "\" transform=\"translate(0 "
    ++ (decimal y ++ codes ")\" d=\"")))) ++ (words_text data_ ++ codes "\"/>\n")
    ≡ all_written (empty MovedPath ((Chars (codes "st") ∷ Number side ∷ [])
    ∷ (Chars (codes "translate(0 ") ∷ Number y ∷ Chars (codes ")") ∷ []) ∷ data_ ∷ []) ∷ Break ∷ [])
moved_written side y data_ =
    moved_regrouped (codes "<path class=\"st") (decimal side) (codes "\" transform=\"translate(0 ")
    (decimal y) (codes ")\" d=\"") (words_text data_) (codes "\"/>") (codes "\n")
    ∙ ap (λ (l : List ℕ). (codes "<path class=\"st" ++ (decimal side
    ++ (codes "\" transform=\"translate(0 " ++ (decimal y ++ (codes ")\" d=\"" ++ l)))))
    ++ codes "\n") (sym (words_rest data_ (codes "\"/>")))

pub adds_moved : (side y n h : ℕ) (data_ : List Word) (old one two new : Paper) → n ≡ side →
    h ≡ y →
    Adds old one (codes "<path class=\"st" ++ (decimal n ++ (codes "\" transform=\"translate(0 "
    ++ (decimal h ++ codes ")\" d=\"")))) →
    Adds one two (words_text data_) → Adds two new (codes "\"/>\n") →
    Adds old new (all_written (empty MovedPath ((Chars (codes "st") ∷ Number side ∷ [])
    ∷ (Chars (codes "translate(0 ") ∷ Number y ∷ Chars (codes ")") ∷ []) ∷ data_ ∷ [])
    ∷ Break ∷ []))
adds_moved side y n h data_ old one two new is_n is_h a b c =
    adds_same old new
    ((codes "<path class=\"st" ++ (decimal side ++ (codes "\" transform=\"translate(0 "
    ++ (decimal y ++ codes ")\" d=\"")))) ++ (words_text data_ ++ codes "\"/>\n"))
    (all_written (empty MovedPath ((Chars (codes "st") ∷ Number side ∷ [])
    ∷ (Chars (codes "translate(0 ") ∷ Number y ∷ Chars (codes ")") ∷ []) ∷ data_ ∷ [])
    ∷ Break ∷ []))
    (moved_written side y data_)
    (adds_three old one two new
    (codes "<path class=\"st" ++ (decimal side ++ (codes "\" transform=\"translate(0 "
    ++ (decimal y ++ codes ")\" d=\""))))
    (words_text data_) (codes "\"/>\n")
    (subst (λ (m : ℕ). Adds old one (codes "<path class=\"st" ++ (decimal side
    ++ (codes "\" transform=\"translate(0 " ++ (decimal m ++ codes ")\" d=\""))))) is_h
    (subst (λ (m : ℕ). Adds old one (codes "<path class=\"st" ++ (decimal m
    ++ (codes "\" transform=\"translate(0 " ++ (decimal h ++ codes ")\" d=\""))))) is_n a))
    b c)
