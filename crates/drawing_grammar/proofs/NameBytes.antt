-- A signal's name holds only bytes that may stand between quotes.
use Rattle.std.proofs.Common.{◌≡◌, ℕ, suc, ◌≤◌, Bool, true, false, List, [], ◌∷◌, ◌++◌, Option, Some, None, decimal, refl, arith}
use Rattle.std.specs.Prelude.{codes, All, IfSome}
use Rattle.std.specs.List.{list_all, flat_map, AllByRecursion}
use Rattle.std.proofs.lemmas.Bool.Decides.{nat_tests}
use Rattle.std.proofs.lemmas.List.Folds.{list_all-append}
use Rattle.scald_base.specs.Word.{is_digit}
use Rattle.scald_base.specs.Time.{IsSkew}
use Rattle.scald_base.specs.declared.assertion.Span.{Span}
use Rattle.scald_base.specs.declared.assertion.ClockSpec.{ClockSpec}
use Rattle.scald_base.specs.declared.assertion.AssertSpec.{AssertSpec}
use Rattle.scald_base.specs.declared.assertion.AssertSpec.TheVariants.{None as Unasserted, Precision, Clock, Stable}
use Rattle.scald_lex.specs.Bytes.{is_name_byte}
use Rattle.assertion_syntax.specs.declared.name.SignalName.{SignalName}
use Rattle.assertion_syntax.specs.Name.{is_base_byte, IsBase, IsInterval, IsClock, IsAssertion, IsName, span_text, spans_text, skew_text, low_text, clock_text, assertion_text, global_text, name_text}
use Rattle.drawing_grammar.proofs.Leaves.{all_by, is_numeral}

pub by_recursion : {A : Type 0} (P : A → Type 0) (xs : List A) → All P xs → AllByRecursion P xs
by_recursion P [] h = tt
by_recursion P (x ∷ xs) h = (h 0 x (omega arith), by_recursion P xs (λ k d q. h (suc k) d (omega arith)))

-- The bytes of a text may stand in a name.
abbrev Holds : List ℕ → Type 0
Holds text = list_all is_name_byte text ≡ true

both : (s t : List ℕ) → Holds s → Holds t → Holds (s ++ t)
both s t h k = rw (list_all-append is_name_byte s t, h, k) refl

base_byte : (b : ℕ) → is_base_byte b ≡ true → is_name_byte b ≡ true
base_byte b h = grind (arith, nat_tests)

digit_byte : (b : ℕ) → is_digit b ≡ true → is_name_byte b ≡ true
digit_byte b h = grind (arith, nat_tests)

number_holds : (n : ℕ) → n ≤ 4096 → Holds (decimal n)
number_holds n h = all_by is_digit is_name_byte digit_byte (decimal n) (is_numeral n (omega arith)).all

span_holds : (s : Span) → IsInterval s → Holds (span_text s)
span_holds s is = both (decimal s.lo ++ codes "-") (decimal s.hi) (both (decimal s.lo) (codes "-") (number_holds s.lo is.lo) refl) (number_holds s.hi is.hi)

more_hold : (spans : List Span) → AllByRecursion IsInterval spans → Holds (flat_map (λ s. codes "," ++ span_text s) spans)
more_hold [] is = refl
more_hold (s ∷ ss) is = both (codes "," ++ span_text s) (flat_map (λ s. codes "," ++ span_text s) ss) (both (codes ",") (span_text s) refl (span_holds s is.0)) (more_hold ss is.1)

spans_hold : (spans : List Span) → AllByRecursion IsInterval spans → Holds (spans_text spans)
spans_hold [] is = refl
spans_hold (s ∷ ss) is = both (span_text s) (flat_map (λ s. codes "," ++ span_text s) ss) (span_holds s is.0) (more_hold ss is.1)

skew_holds : (skew : ℕ × ℕ) → IsSkew skew → Holds (skew_text (Some skew))
skew_holds skew is =
    let early = number_holds skew.0 (omega (arith, is.early)) in
    let late = number_holds skew.1 (omega (arith, is.late)) in
    both (codes "(" ++ decimal skew.0 ++ codes "," ++ decimal skew.1) (codes ")")
    (both (codes "(" ++ decimal skew.0 ++ codes ",") (decimal skew.1)
    (both (codes "(" ++ decimal skew.0) (codes ",") (both (codes "(") (decimal skew.0) refl early) refl) late) refl

low_holds : (low : Bool) → Holds (low_text low)
low_holds true = refl
low_holds false = refl

clock_holds_with : (c : ClockSpec) (skew : Option (ℕ × ℕ)) → Holds (spans_text c.spans) → Holds (skew_text skew) → Holds (spans_text c.spans ++ skew_text skew ++ low_text c.low)
clock_holds_with c skew h k = both (spans_text c.spans ++ skew_text skew) (low_text c.low) (both (spans_text c.spans) (skew_text skew) h k) (low_holds c.low)

some_skew_holds : (skew : Option (ℕ × ℕ)) → IfSome skew IsSkew → Holds (skew_text skew)
some_skew_holds None is = refl
some_skew_holds (Some skew) is = skew_holds skew is

clock_holds : (c : ClockSpec) → IsClock c → Holds (clock_text c)
clock_holds c is = clock_holds_with c c.skew (spans_hold c.spans (by_recursion IsInterval c.spans is.spans)) (some_skew_holds c.skew is.skew)

assertion_holds : (a : AssertSpec) → IsAssertion a → Holds (assertion_text a)
assertion_holds Unasserted is = refl
assertion_holds (Precision c) is = both (codes " .P") (clock_text c) refl (clock_holds c is)
assertion_holds (Clock c) is = both (codes " .C") (clock_text c) refl (clock_holds c is)
assertion_holds (Stable spans) is = both (codes " .S") (spans_text spans) refl (spans_hold spans (by_recursion IsInterval spans is))

pub base_holds : (base : List ℕ) → IsBase base → list_all is_name_byte base ≡ true
base_holds base is = all_by is_base_byte is_name_byte base_byte base is.bytes

global_holds : (global : Bool) → Holds (global_text global)
global_holds true = refl
global_holds false = refl

pub name_holds : (n : SignalName) → IsName n → list_all is_name_byte (name_text n) ≡ true
name_holds n is = both (global_text n.global ++ n.base) (assertion_text n.spec)
    (both (global_text n.global) n.base (global_holds n.global) (base_holds n.base is.base)) (assertion_holds n.spec is.assertion)
