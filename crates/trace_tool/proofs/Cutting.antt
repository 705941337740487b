-- Texts that are cut into lines.
use Rattle.std.proofs.Common.{◌≡◌, ◌≢◌, ℕ, zero, suc, ◌+◌, ◌-◌, ◌<◌, List, [], ◌∷◌, ◌++◌, length, get_or, take, drop, refl, arith, add-one, ap, sym, subst, ◌∙◌, append_assoc, append-nil}
use Rattle.std.specs.Prelude.{◌==◌, ◌||◌, not, true, false}
use Rattle.std.specs.Prelude.{Bool, MatchBool}
use Rattle.std.specs.Str.{bytes_eq}
use Rattle.std.proofs.lemmas.Slice.Eq.{bytes_eq-Decides}
use Rattle.std.specs.List.{All, list_all, list_any}
use Rattle.std.proofs.lemmas.Bool.{and_parts, false_from_ne_true, eqb-true}
use Rattle.std.proofs.Math.Seq.{get_or-append_seam, take-append_seam}
use Rattle.std.proofs.lemmas.List.{get_or_default, length-append}
use Rattle.std.proofs.lemmas.List.Elements.{All-cons, All-head, All-nil, All-tail, All-push}
use Rattle.trace_tool.specs.Trace.{end_line, text_of_lines}
use Rattle.trace_tool.specs.Reading.{HasNoTrace, HasTrace, IsLine}
use Rattle.trace_tool.specs.Scan.{lines_after, lines_of, StartsWith}

-- texts that are the same, or not
pub same_or_not : (same : Bool) (xs ys : List ℕ) → same ≡ bytes_eq xs ys → MatchBool same (xs ≡ ys) (xs ≡ ys → ⊥)
same_or_not true xs ys is = (bytes_eq-Decides xs ys).0 (sym is)
same_or_not false xs ys is = λ same. let yes = (bytes_eq-Decides xs ys).1 same in cc

-- a byte that ends no line
not_ten : (b : ℕ) → b ≢ 10 → (b == 10) ≡ false
not_ten b other = false_from_ne_true (b == 10) (λ same. other (eqb-true b 10 same))

-- one line, ended
line_cut : (begun line rest : List ℕ) → IsLine line → lines_after begun (line ++ 10 ∷ rest) ≡ (begun ++ line) ∷ lines_of rest
line_cut begun [] rest is = ap (λ (l : List ℕ). l ∷ lines_of rest) (sym (append-nil begun))
line_cut begun (b ∷ bs) rest is =
    rw (not_ten b (All-head (λ (b : ℕ). b ≢ 10) b bs is))
    (line_cut (begun ++ b ∷ []) bs rest (All-tail (λ (b : ℕ). b ≢ 10) b bs is)
    ∙ ap (λ (l : List ℕ). l ∷ lines_of rest) (append_assoc begun (b ∷ []) bs))

-- one that is not
no_line_cut : (begun line : List ℕ) → IsLine line → lines_after begun line ≡ []
no_line_cut begun [] is = refl
no_line_cut begun (b ∷ bs) is =
    rw (not_ten b (All-head (λ (b : ℕ). b ≢ 10) b bs is))
    (no_line_cut (begun ++ b ∷ []) bs (All-tail (λ (b : ℕ). b ≢ 10) b bs is))

-- lines, each ended
pub lines_cut : (lines : List (List ℕ)) (rest : List ℕ) → All IsLine lines → lines_of (text_of_lines lines ++ rest) ≡ lines ++ lines_of rest
lines_cut [] rest each = refl
lines_cut (line ∷ lines) rest each =
    ap lines_of (append_assoc (line ++ 10 ∷ []) (text_of_lines lines) rest ∙ append_assoc line (10 ∷ []) (text_of_lines lines ++ rest))
    ∙ line_cut [] line (text_of_lines lines ++ rest) (All-head IsLine line lines each)
    ∙ ap (λ (ls : List (List ℕ)). line ∷ ls) (lines_cut lines rest (All-tail IsLine line lines each))

pub first_cut : (text line rest : List ℕ) → StartsWith text line rest → lines_of text ≡ line ∷ lines_of rest
first_cut text line rest s = ap lines_of s.is ∙ line_cut [] line rest s.ends

-- ---- the bytes up to a place

-- each byte before a place ends no line
abbrev pub NoneEnds : List ℕ → ℕ → Type 0
NoneEnds text at = (k : ℕ) → k < at → get_or text k 0 ≢ 10

front_is_line : (text : List ℕ) (at : ℕ) → NoneEnds text at → at < suc (length text) → IsLine (take at text)
front_is_line text zero none within = λ k d below. absurd (omega arith)
front_is_line [] (suc at) none within = absurd (omega arith)
front_is_line (b ∷ bs) (suc at) none within = λ k d below.
    elim k as (λ (k : ℕ). k < length (take (suc at) (b ∷ bs)) → get_or (take (suc at) (b ∷ bs)) k d ≢ 10) [
      | zero ↦ λ below. none zero (omega arith)
      | suc k ↦ λ below. front_is_line bs at (λ k below. none (suc k) (omega arith)) (omega arith) k d (omega arith)
    ] below

split_at : (text : List ℕ) (at : ℕ) → at < length text → get_or text at 0 ≡ 10 → text ≡ take at text ++ 10 ∷ drop (suc at) text
split_at [] at within is = absurd (omega arith)
split_at (b ∷ bs) zero within is = ap (λ (b : ℕ). b ∷ bs) is
split_at (b ∷ bs) (suc at) within is = ap (λ (l : List ℕ). b ∷ l) (split_at bs at (omega arith) is)

pub starts_with : (text line rest : List ℕ) (at : ℕ) → NoneEnds text at → at < length text → get_or text at 0 ≡ 10 →
    line ≡ take at text → rest ≡ drop (at + 1) text → StartsWith text line rest
starts_with text line rest at none within is line_is rest_is = record {
  ends = subst IsLine (sym line_is) (front_is_line text at none (omega arith));
  is = split_at text at within is ∙ ap (λ (n : ℕ). take at text ++ 10 ∷ drop n text) (sym (add-one at))
      ∙ ap (λ (l : List ℕ). l ++ 10 ∷ drop (at + 1) text) (sym line_is)
      ∙ ap (λ (l : List ℕ). line ++ 10 ∷ l) (sym rest_is);
}

pub shorter : (text line rest : List ℕ) → StartsWith text line rest → length rest < length text
shorter text line rest s =
    let whole = ap length s.is in
    let long = length-append line (10 ∷ rest) in omega (arith, whole, long)

pub no_lines : (text : List ℕ) → NoneEnds text (length text) → lines_of text ≡ []
no_lines text none = no_line_cut [] text (λ k d below. subst (λ (b : ℕ). b ≢ 10) (get_or_default text k 0 d below) (none k below))

-- ---- a trace in a text

-- Of what was passed, no line ends a trace.
pub record Passed (text rest : List ℕ) : Type 0 where
  pub lines : List (List ℕ)
  pub each : All IsLine lines
  pub none_ends : All (λ (line : List ℕ). line ≢ end_line) lines
  pub is : text ≡ text_of_lines lines ++ rest

pub nothing_passed : (text : List ℕ) → Passed text text
nothing_passed text = record { lines = []; each = λ k d below. absurd (omega arith); none_ends = λ k d below. absurd (omega arith); is = refl }

-- text_of_lines of one line more
text_push : (lines : List (List ℕ)) (line : List ℕ) → text_of_lines (lines ++ line ∷ []) ≡ text_of_lines lines ++ (line ++ 10 ∷ [])
text_push [] line = append-nil (line ++ 10 ∷ [])
text_push (first ∷ lines) line =
    ap (λ (l : List ℕ). (first ++ 10 ∷ []) ++ l) (text_push lines line)
    ∙ sym (append_assoc (first ++ 10 ∷ []) (text_of_lines lines) (line ++ 10 ∷ []))

text_more : (text rest line after : List ℕ) (p : Passed text rest) → StartsWith rest line after →
    text ≡ text_of_lines (p.lines ++ line ∷ []) ++ after
text_more text rest line after p s =
    p.is ∙ ap (λ (l : List ℕ). text_of_lines p.lines ++ l) (s.is ∙ sym (append_assoc line (10 ∷ []) after))
    ∙ sym (append_assoc (text_of_lines p.lines) (line ++ 10 ∷ []) after)
    ∙ ap (λ (l : List ℕ). l ++ after) (sym (text_push p.lines line))

pub one_passed : (text rest line after : List ℕ) → Passed text rest → StartsWith rest line after → line ≢ end_line → Passed text after
one_passed text rest line after p s other = record {
  lines = p.lines ++ line ∷ [];
  each = All-push IsLine p.lines line p.each s.ends;
  none_ends = All-push (λ (line : List ℕ). line ≢ end_line) p.lines line p.none_ends other;
  is = text_more text rest line after p s;
}

pub or_right : (b v : Bool) → v ≡ true → (b || v) ≡ true
or_right true v h = refl
or_right false v h = h

-- the bytes of a line, one by one
pub each_byte : (bs : List ℕ) → list_all (λ b. not (b == 10)) bs ≡ true → IsLine bs
each_byte [] is = All-nil (λ (b : ℕ). b ≢ 10)
each_byte (b ∷ bs) is =
    let parts = and_parts (not (b == 10)) (list_all (λ b. not (b == 10)) bs) is in
    All-cons (λ (b : ℕ). b ≢ 10) b bs (λ same. (let clash = ap (λ (b : ℕ). not (b == 10)) same in cc)) (each_byte bs parts.1)

end_is_line : IsLine end_line
end_is_line = each_byte end_line refl

pub none_found : (text rest : List ℕ) → Passed text rest → lines_of rest ≡ [] → HasNoTrace text
none_found text rest p none = λ lines drawing has.
    let ended = All-push IsLine has.before end_line has.each end_is_line in
    let cut : lines_of text ≡ (has.before ++ end_line ∷ []) ++ lines_of drawing =
    ap lines_of (has.is ∙ ap (λ (ls : List (List ℕ)). text_of_lines ls ++ drawing) has.are)
    ∙ lines_cut (has.before ++ end_line ∷ []) drawing ended in
    let whole : lines_of text ≡ p.lines =
    ap lines_of p.is ∙ lines_cut p.lines rest p.each ∙ ap (λ (ls : List (List ℕ)). p.lines ++ ls) none ∙ append-nil p.lines in
    let same : p.lines ≡ has.before ++ (end_line ∷ lines_of drawing) =
    sym whole ∙ cut ∙ append_assoc has.before (end_line ∷ []) (lines_of drawing) in
    subst (All (λ (line : List ℕ). line ≢ end_line)) same p.none_ends (length has.before) [] (seam_within has.before end_line (lines_of drawing))
    (get_or-append_seam has.before end_line (lines_of drawing) [])
  where
    seam_within : (xs : List (List ℕ)) (y : List ℕ) (ys : List (List ℕ)) → length xs < length (xs ++ y ∷ ys)
    seam_within xs y ys = let long = length-append xs (y ∷ ys) in omega arith

any_behind : (p : List ℕ → Bool) (xs : List (List ℕ)) (y : List ℕ) (ys : List (List ℕ)) → p y ≡ true → list_any p (xs ++ (y ∷ ys)) ≡ true
any_behind p [] y ys is = rw is refl
any_behind p (x ∷ xs) y ys is = or_right (p x) (list_any p (xs ++ (y ∷ ys))) (any_behind p xs y ys is)

-- a text none of whose lines ends a trace has none
pub no_trace : (text : List ℕ) → list_any (λ line. bytes_eq line end_line) (lines_of text) ≡ false → HasNoTrace text
no_trace text none = λ lines drawing has.
    let ended = All-push IsLine has.before end_line has.each end_is_line in
    let cut : lines_of text ≡ has.before ++ (end_line ∷ lines_of drawing) =
    ap lines_of (has.is ∙ ap (λ (ls : List (List ℕ)). text_of_lines ls ++ drawing) has.are)
    ∙ lines_cut (has.before ++ end_line ∷ []) drawing ended ∙ append_assoc has.before (end_line ∷ []) (lines_of drawing) in
    let some = ap (list_any (λ line. bytes_eq line end_line)) cut
    ∙ any_behind (λ line. bytes_eq line end_line) has.before end_line (lines_of drawing) refl in cc

pub found_trace : (text rest line after front : List ℕ) → Passed text rest → StartsWith rest line after → line ≡ end_line →
    front ≡ take (length text - length after) text → HasTrace text (lines_of front) after
found_trace text rest line after front p s ends front_is =
    let lines = p.lines ++ end_line ∷ [] in
    let whole : text ≡ text_of_lines lines ++ after =
    text_more text rest line after p s ∙ ap (λ (l : List ℕ). text_of_lines (p.lines ++ l ∷ []) ++ after) ends in
    let is_line = subst IsLine ends s.ends in
    let long = length-append (text_of_lines lines) after in
    let count : length text - length after ≡ length (text_of_lines lines) =
    let e = ap length whole in omega arith in
    let cut : front ≡ text_of_lines lines =
    front_is ∙ ap (λ (n : ℕ). take n text) count ∙ ap (take (length (text_of_lines lines))) whole
    ∙ take-append_seam (text_of_lines lines) after in
    let back : lines_of front ≡ lines =
    ap lines_of (cut ∙ sym (append-nil (text_of_lines lines))) ∙ lines_cut lines [] (All-push IsLine p.lines end_line p.each is_line)
    ∙ append-nil lines in
    record {
      before = p.lines;
      are = back;
      each = p.each;
      none_ends = p.none_ends;
      is = whole ∙ ap (λ (ls : List (List ℕ)). text_of_lines ls ++ after) (sym back);
    }
