-- Intervals that fit a header, by a test.
use Rattle.std.proofs.Common.{◌≡◌, ℕ, Bool, true, false, not, ◌&&◌, ltb, leb, eqb, List, [], ◌∷◌, refl, sym}
use Rattle.std.specs.Prelude.{MatchBool}
use Rattle.std.specs.List.{list_all, AllByRecursion}
use Rattle.std.proofs.lemmas.Bool.{and_parts, and_from, ltb-true, lt-ltb, leb-true, le-leb, eqb-false, ne_eqb, not-true, not_from_false, both_ways}
use Rattle.std.proofs.lemmas.List.Elements.{recursion_from_All, All-from_recursion}
use Rattle.scald_base.specs.declared.assertion.Span.{Span}
use Rattle.scald_base.specs.Time.{Header}
use Rattle.scald_base.specs.Span.{SpanFits, span_fits}
use Rattle.scald_base.specs.Fitting.{SpansFit}

span_fits_is : (units : ℕ) (s : Span) → span_fits units s ≡ true → SpanFits units s
span_fits_is units s e =
    let outer = and_parts (ltb s.lo units && leb s.hi units) (not (eqb s.lo s.hi)) e in
    let inner = and_parts (ltb s.lo units) (leb s.hi units) outer.0 in
    record { begins = ltb-true s.lo units inner.0; ends = leb-true s.hi units inner.1; some = eqb-false s.lo s.hi (not-true (eqb s.lo s.hi) outer.1) }

span_fits_from : (units : ℕ) (s : Span) → SpanFits units s → span_fits units s ≡ true
span_fits_from units s is =
    and_from (ltb s.lo units && leb s.hi units) (not (eqb s.lo s.hi))
    (and_from (ltb s.lo units) (leb s.hi units) (lt-ltb s.lo units is.begins) (le-leb s.hi units is.ends))
    (not_from_false (eqb s.lo s.hi) (ne_eqb s.lo s.hi is.some))

all_fit : (units : ℕ) (ss : List Span) → list_all (span_fits units) ss ≡ true → AllByRecursion (SpanFits units) ss
all_fit units [] e = tt
all_fit units (s ∷ ss) e =
    let parts = and_parts (span_fits units s) (list_all (span_fits units) ss) e in
    (span_fits_is units s parts.0, all_fit units ss parts.1)

all_tests : (units : ℕ) (ss : List Span) → AllByRecursion (SpanFits units) ss → list_all (span_fits units) ss ≡ true
all_tests units [] all = refl
all_tests units (s ∷ ss) all =
    and_from (span_fits units s) (list_all (span_fits units) ss) (span_fits_from units s all.0) (all_tests units ss all.1)

pub spans_decided : (h : Header) (ss : List Span) (r : Bool) → r ≡ list_all (span_fits h.units) ss → MatchBool r (SpansFit h ss) (¬ SpansFit h ss)
spans_decided h ss true e = All-from_recursion (SpanFits h.units) ss (all_fit h.units ss (sym e))
spans_decided h ss false e = λ fit. both_ways (list_all (span_fits h.units) ss) (sym e) (all_tests h.units ss (recursion_from_All (SpanFits h.units) ss fit))
