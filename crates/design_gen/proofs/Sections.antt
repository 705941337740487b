-- Sections, one after another, and how long they are.
use Rattle.std.proofs.Common.{◌≡◌, ℕ, zero, suc, ◌+◌, ◌*◌, ◌-◌, ◌<◌, ◌≤◌, List, [], ◌∷◌, ◌++◌, length, codes, decimal, map, append-nil, length-append, Bool, true, false, ◌==◌, refl, ap, ◌∙◌, arith}
use Rattle.std.specs.Prelude.{if◌then◌else◌}
use Rattle.std.specs.List.{concat, range_with_len}
use Rattle.std.proofs.lemmas.Fmt.{length-decimal-le}
use Rattle.std.proofs.lemmas.List.Folds.{concat-append}
use Rattle.std.proofs.lemmas.List.FromFn.{map-range_with_len_more}
use Rattle.design_gen.specs.Text.{line}
use Rattle.design_gen.specs.Datapath.{head, assertion, change_line, checker_line, register_line, section, datapath}

-- one section more, after those before it
pub section_more : (n : ℕ) → concat (map section (range_with_len 1 (n + 1))) ≡ concat (map section (range_with_len 1 n)) ++ section (n + 1)
section_more n =
    ap concat (map-range_with_len_more section 1 n (n + 1) (omega arith))
    ∙ concat-append (map section (range_with_len 1 n)) (section (n + 1) ∷ [])
    ∙ ap (λ (l : List ℕ). concat (map section (range_with_len 1 n)) ++ l) (append-nil (section (n + 1)))

-- ---- lengths

abbrev total : List (List ℕ) → ℕ
total [] = 0
total (x ∷ xs) = length x + total xs

line_length : (texts : List (List ℕ)) → length (line texts) ≡ total texts + 1
line_length [] = refl
line_length (x ∷ xs) = omega (arith, length-append x (concat xs), length-append (x ++ concat xs) (10 ∷ []), length-append (concat xs) (10 ∷ []), line_length xs)

short_line : (texts : List (List ℕ)) (n : ℕ) → total texts < n → length (line texts) ≤ n
short_line texts n short = omega (arith, short, line_length texts)

digits_short : (i : ℕ) → i < 65536 → length (decimal i) ≤ 5
digits_short i few = length-decimal-le 5 i (omega arith) (omega arith) (omega arith)

assertion_short : (i : ℕ) → length (assertion i) ≤ 6
unfolding assertion
assertion_short i = either (i == 1)
  where
    either : (first : Bool) → length (if first then codes " .S4-3" else []) ≤ 6
    either true = omega arith
    either false = omega arith

abbrev change_texts : ℕ → List (List ℕ)
change_texts i =
    codes "g" ∷ decimal i ∷ codes " : CHG [20:60] (\"Q" ∷ decimal (i - 1) ∷ assertion i ∷ codes "\"<0:7>) -> (\"D" ∷ decimal i ∷ codes "\"<0:7>);" ∷ []

change_short : (i : ℕ) → i < 65536 → length (change_line i) ≤ 80
unfolding change_line
change_short i few = short_line (change_texts i) 80 (omega (arith, digits_short i few, digits_short (i - 1) (omega (arith, few)), assertion_short i))

abbrev checker_texts : ℕ → List (List ℕ)
checker_texts i = codes "c" ∷ decimal i ∷ codes " : SETUP_HOLD_CHK {SETUP=20, HOLD=5} (\"CK .P2-3\", \"D" ∷ decimal i ∷ codes "\"<0:7>);" ∷ []

checker_short : (i : ℕ) → i < 65536 → length (checker_line i) ≤ 80
unfolding checker_line
checker_short i few = short_line (checker_texts i) 80 (omega (arith, digits_short i few))

abbrev register_texts : ℕ → List (List ℕ)
register_texts i = codes "r" ∷ decimal i ∷ codes " : REG [5:10] (\"CK .P2-3\", \"D" ∷ decimal i ∷ codes "\"<0:7>) -> (\"Q" ∷ decimal i ∷ codes "\"<0:7>);" ∷ []

register_short : (i : ℕ) → i < 65536 → length (register_line i) ≤ 80
unfolding register_line
register_short i few = short_line (register_texts i) 80 (omega (arith, digits_short i few))

section_short : (i : ℕ) → i < 65536 → length (section i) ≤ 240
section_short i few =
    omega (
      arith,
      length-append (change_line i ++ checker_line i) (register_line i),
      length-append (change_line i) (checker_line i),
      change_short i few,
      checker_short i few,
      register_short i few,
    )

sections_short : (n : ℕ) → n < 65536 → length (concat (map section (range_with_len 1 n))) ≤ 240 * n
sections_short zero few = omega arith
sections_short (suc n) few =
    let next : suc n ≡ n + 1 = omega arith in
    let same = ap (λ (k : ℕ). length (concat (map section (range_with_len 1 k)))) next in
    omega (
      arith,
      same,
      ap length (section_more n),
      length-append (concat (map section (range_with_len 1 n))) (section (n + 1)),
      sections_short n (omega (arith, few)),
      section_short (n + 1) (omega (arith, few)),
    )

head_short : length head ≤ 48
unfolding head
head_short = omega arith

-- A drawing has at most 240 bytes a section, and 53 more.
pub datapath_short : (n : ℕ) → n < 65536 → length (datapath n) ≤ 240 * n + 53
unfolding datapath
datapath_short n few =
    let middle = concat (map section (range_with_len 1 n)) in
    let last : length (line (codes "END;" ∷ [])) ≡ 5 = refl in
    omega (arith, last, length-append (head ++ middle) (line (codes "END;" ∷ [])), length-append head middle, head_short, sections_short n few)
