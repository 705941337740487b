-- The first line of a trace says how many ticks it has.
use Rattle.std.proofs.Common.{◌≡◌, ℕ, ◌+◌, ◌-◌, ◌*◌, ◌/◌, ◌%◌, ◌<◌, ◌≤◌, ◌^◌, Bool, true, false, ◌&&◌, cond, leb, List, [], ◌∷◌, ◌++◌, drop, codes, decimal, Option, Some, None, refl, arith, ap, sym, subst, ◌∙◌, append-nil}
use Rattle.std.specs.Prelude.{MatchOption}
use Rattle.std.specs.Str.{bytes_eq}
use Rattle.std.proofs.lemmas.Bool.{and_parts, and_from, le-leb, leb-true}
use Rattle.std.proofs.lemmas.Fmt.{decimal_by_steps}
use Rattle.std.proofs.lemmas.Slice.Eq.{bytes_eq-Decides}
use Rattle.scald_lex.specs.Bytes.{value_of}
use Rattle.scald_lex.proofs.Values.{value_after_more}
use Rattle.trace_tool.specs.declared.extent.Extent.{Extent}
use Rattle.trace_tool.specs.declared.extent.Extent.TheVariants.{Short, Long}
use Rattle.trace_tool.specs.Extent.{most_ticks}
use Rattle.trace_tool.specs.Trace.{head_line}
use Rattle.trace_tool.specs.Words.{number_in}

-- ---- numbers

abbrev HasValue : ℕ → List ℕ → Type 0
HasValue n digits = value_of digits ≡ n

one_has : (n : ℕ) → n < 10 → HasValue n ((48 + n) ∷ [])
one_has n few = omega arith

more_has : (n : ℕ) (ds : List ℕ) → 10 ≤ n → HasValue (n / 10) ds → HasValue n (ds ++ ((48 + n % 10) ∷ []))
more_has n ds some has =
    let sum : n / 10 * 10 + (48 + n % 10 - 48) ≡ n = omega arith in
    value_after_more 0 ds (48 + n % 10) ∙ ap (λ (v : ℕ). v * 10 + (48 + n % 10 - 48)) has ∙ sum

value_written : (n : ℕ) → n < 2 ^ 64 → value_of (decimal n) ≡ n
value_written n small = decimal_by_steps HasValue one_has more_has n small

-- the text of a number that is found is its decimal, and it is within the bounds
number_is : (least most : ℕ) (digits : List ℕ) (n : ℕ) → number_in least most digits ≡ Some n → (digits ≡ decimal n) × (least ≤ n) × (n ≤ most)
unfolding number_in
number_is least most digits n found =
    by (bytes_eq digits (decimal (value_of digits)) && (leb least (value_of digits) && leb (value_of digits) most)) refl found
  where
    by : (b : Bool) → (bytes_eq digits (decimal (value_of digits)) && (leb least (value_of digits) && leb (value_of digits) most)) ≡ b →
        cond b (Some (value_of digits)) None ≡ Some n → (digits ≡ decimal n) × (least ≤ n) × (n ≤ most)
    by true holds same =
        let value : value_of digits ≡ n = cc in
        let parts =
        and_parts (bytes_eq digits (decimal (value_of digits))) (leb least (value_of digits) && leb (value_of digits) most) holds in
        let bounds = and_parts (leb least (value_of digits)) (leb (value_of digits) most) parts.1 in
        let low = leb-true least (value_of digits) bounds.0 in
        let high = leb-true (value_of digits) most bounds.1 in (
          (bytes_eq-Decides digits (decimal (value_of digits))).0 parts.0 ∙ ap decimal value,
          omega (arith, low, value),
          omega (arith, high, value),
        )
    by false holds same = absurd cc

-- and it is found in the decimal of each number of the bounds
number_here : (least most n : ℕ) → least ≤ n → n ≤ most → n < 2 ^ 64 → number_in least most (decimal n) ≡ Some n
unfolding number_in
number_here least most n low high small =
    subst (λ (v : ℕ). cond (bytes_eq (decimal n) (decimal v) && (leb least v && leb v most)) (Some v) None ≡ Some n)
    (sym (value_written n small))
    (ap (λ (b : Bool). cond b (Some n) None)
    (and_from (bytes_eq (decimal n) (decimal n)) (leb least n && leb n most) ((bytes_eq-Decides (decimal n) (decimal n)).1 refl)
    (and_from (leb least n) (leb n most) (le-leb least n low) (le-leb n most high))))

-- ---- heads

-- the digits of a head
head_digits : (line digits : List ℕ) (n : ℕ) → line ≡ codes "TRACE " ++ digits → line ≡ head_line n → digits ≡ decimal n
head_digits line digits n is head = ap (drop 6) (sym is ∙ head) ∙ append-nil (decimal n)

head_written : (line digits : List ℕ) (n : ℕ) → line ≡ codes "TRACE " ++ digits → digits ≡ decimal n → line ≡ head_line n
head_written line digits n is of = is ∙ ap (λ (ds : List ℕ). codes "TRACE " ++ ds) (of ∙ sym (append-nil (decimal n)))

pub most_small : (e : Extent) → most_ticks e ≤ 1048576
most_small Short = omega arith
most_small Long = omega arith

-- A line that begins as a head is one exactly if its digits are those of a number of ticks.
pub head_read : (e : Extent) (line digits : List ℕ) (found : Option ℕ) → line ≡ codes "TRACE " ++ digits →
    found ≡ number_in 1 (most_ticks e) digits →
    MatchOption found ((n : ℕ) → 1 ≤ n → n ≤ most_ticks e → line ≡ head_line n → ⊥) (λ n. (1 ≤ n) × (n ≤ most_ticks e) × (line ≡ head_line n))
head_read e line digits None begins is = λ n some few head.
    let most = most_small e in
    let here = number_here 1 (most_ticks e) n some few (omega (arith, few, most)) in
    let none = is ∙ ap (number_in 1 (most_ticks e)) (head_digits line digits n begins head) ∙ here in absurd cc
head_read e line digits (Some n) begins is =
    let found = number_is 1 (most_ticks e) digits n (sym is) in (found.1, found.2, head_written line digits n begins found.0)

-- the value of its digits
pub head_found : (line : List ℕ) (first n : ℕ) → first ≡ value_of (drop 6 line) → n < 2 ^ 64 → line ≡ head_line n → first ≡ n
head_found line first n is small head =
    is ∙ ap value_of (ap (drop 6) head ∙ append-nil (decimal n)) ∙ value_written n small

-- one head says one number
pub head_is_one : (m n : ℕ) → m < 2 ^ 64 → n < 2 ^ 64 → head_line m ≡ head_line n → m ≡ n
head_is_one m n small few same =
    sym (value_written m small)
    ∙ ap value_of (sym (append-nil (decimal m)) ∙ ap (drop 6) same ∙ append-nil (decimal n)) ∙ value_written n few
