-- The parts of an assertion: what is read is spelled so, and what is spelled so is read.
use Rattle.std.proofs.Common.{◌≡◌, ℕ, zero, suc, ◌<◌, ◌≤◌, Bool, true, false, cond, eqb, List, [], ◌∷◌, ◌++◌, length, All, Option, Some, None, inl, inr, refl, sym, ap, subst, ◌∙◌, append_assoc, arith, length-append}
use Rattle.std.specs.Prelude.{codes, decimal, IfSome}
use Rattle.std.specs.List.{AllByRecursion, flat_map}
use Rattle.std.proofs.lemmas.Bool.{eqb-true, ne_eqb}
use Rattle.std.proofs.lemmas.Option.{same_Some}
use Rattle.std.proofs.lemmas.List.{append-nil, nil_from_length}
use Rattle.std.proofs.lemmas.List.Elements.{recursion_from_All, All-from_recursion}
use Rattle.std.proofs.lemmas.Fmt.{decimal_nonempty}
use Rattle.scald_base.specs.Time.{IsSkew}
use Rattle.scald_base.specs.declared.assertion.Span.{Span}
use Rattle.scald_base.specs.declared.assertion.ClockSpec.{ClockSpec}
use Rattle.assertion_syntax.specs.Name.{IsInterval, IsClock, span_text, spans_text, skew_text, low_text, clock_text}
use Rattle.assertion_syntax.specs.Reading.{◌>>=◌, either, literal_at, limited_at, pair_at, span_at, spans_at, parted_at, skew_at, low_at, edges_at, clock_at, stable_at}
use Rattle.assertion_syntax.proofs.Pieces.{bind_some, either_parts, chosen, passed, digit_ahead, EndsNumber, literal_takes, literal_again, limited_takes, limited_again}

-- ---- two numbers

abbrev pub pair_text : List ℕ → ℕ × ℕ → List ℕ
pair_text between p = decimal p.0 ++ between ++ decimal p.1

pub record IsPair (limit : ℕ) (p : ℕ × ℕ) : Type 0 where
  pub first : p.0 ≤ limit
  pub second : p.1 ≤ limit

three_parts : (a b c rest : List ℕ) → (a ++ b ++ c) ++ rest ≡ a ++ (b ++ (c ++ rest))
three_parts a b c rest = simp append_assoc

three_read : (a b c s0 s1 s2 s3 : List ℕ) → s0 ≡ a ++ s1 → s1 ≡ b ++ s2 → s2 ≡ c ++ s3 → s0 ≡ (a ++ b ++ c) ++ s3
three_read a b c s0 s1 s2 s3 p q r =
    p ∙ ap (λ (t : List ℕ). a ++ t) (q ∙ ap (λ (t : List ℕ). b ++ t) r) ∙ sym (three_parts a b c s3)

pair_takes : (limit : ℕ) (between rest : List ℕ) (x : (ℕ × ℕ) × List ℕ) → pair_at limit between rest ≡ Some x → (rest ≡ pair_text between x.0 ++ x.1) × IsPair limit x.0
unfolding pair_at
pair_takes limit between rest x e =
    let s1 = bind_some (limited_at limit rest) (λ m. literal_at between m.1 >>= λ t. limited_at limit t >>= λ n. Some ((m.0, n.0), n.1)) x e in
    let m = s1.0 in
    let s2 = bind_some (literal_at between m.1) (λ t. limited_at limit t >>= λ n. Some ((m.0, n.0), n.1)) x s1.2 in
    let s3 = bind_some (limited_at limit s2.0) (λ n. Some ((m.0, n.0), n.1)) x s2.2 in
    let n = s3.0 in
    let m-is = limited_takes limit rest m s1.1 in
    let n-is = limited_takes limit s2.0 n s3.1 in
    let made : (ℕ × ℕ) × List ℕ = ((m.0, n.0), n.1) in
    subst (λ (y : (ℕ × ℕ) × List ℕ). (rest ≡ pair_text between y.0 ++ y.1) × IsPair limit y.0) (same_Some made x s3.2)
    (three_read (decimal m.0) between (decimal n.0) rest m.1 s2.0 n.1 m-is.0 (literal_takes between m.1 s2.0 s2.1) n-is.0, record { first = m-is.1; second = n-is.1 })

pair_again : (limit : ℕ) (between rest : List ℕ) (p : ℕ × ℕ) → limit < 10000 → EndsNumber between →
    IsPair limit p → digit_ahead rest ≡ false → pair_at limit between (pair_text between p ++ rest) ≡ Some (p, rest)
unfolding pair_at
pair_again limit between rest p small between_ends fits stop =
    let t2 = decimal p.1 ++ rest in
    ap (pair_at limit between) (three_parts (decimal p.0) between (decimal p.1) rest)
    ∙ rw (limited_again limit p.0 (between ++ t2) fits.first small (between_ends t2), literal_again between t2, limited_again limit p.1 rest fits.second small stop) refl

-- ---- an interval

pub span_takes : (rest : List ℕ) (x : Span × List ℕ) → span_at rest ≡ Some x → (rest ≡ span_text x.0 ++ x.1) × IsInterval x.0
unfolding span_at
span_takes rest x e =
    let s = bind_some (pair_at 4096 (codes "-") rest) (λ p. Some (record { lo = p.0.0; hi = p.0.1 }, p.1)) x e in
    let p = s.0 in
    let is = pair_takes 4096 (codes "-") rest p s.1 in
    let made : Span × List ℕ = (record { lo = p.0.0; hi = p.0.1 }, p.1) in
    subst (λ (y : Span × List ℕ). (rest ≡ span_text y.0 ++ y.1) × IsInterval y.0) (same_Some made x s.2)
    (is.0, record { lo = is.1.first; hi = is.1.second })

pub span_again : (s : Span) (rest : List ℕ) → IsInterval s → digit_ahead rest ≡ false → span_at (span_text s ++ rest) ≡ Some (s, rest)
unfolding span_at
span_again s rest is stop =
    rw (pair_again 4096 (codes "-") rest (s.lo, s.hi) (omega arith) (λ _. refl) (record { first = is.lo; second = is.hi }) stop) refl

span_long : (s : Span) → IsInterval s → 1 ≤ length (span_text s)
span_long s is =
    let lo : s.lo ≤ 4096 = is.lo in
    let long = decimal_nonempty s.lo (omega arith) in
    omega (arith, length-append (decimal s.lo ++ codes "-") (decimal s.hi), length-append (decimal s.lo) (codes "-"))

-- what stands after an interval is shorter
pub span_shorter : (rest : List ℕ) (x : Span × List ℕ) → span_at rest ≡ Some x → length x.1 < length rest
span_shorter rest x e =
    let is = span_takes rest x e in
    let long = span_long x.0 is.1 in
    omega (arith, ap (λ (l : List ℕ). length l) is.0, length-append (span_text x.0) x.1)

pub literal_shorter : (word rest left : List ℕ) → literal_at word rest ≡ Some left → length left ≤ length rest
literal_shorter word rest left e =
    omega (arith, ap (λ (l : List ℕ). length l) (literal_takes word rest left e), length-append word left)

-- ---- intervals

abbrev comma : List ℕ
comma = codes ","

abbrev joined : List Span → List ℕ
joined spans = flat_map (λ s. comma ++ span_text s) spans

spans_text_cons : (s m : Span) (ms : List Span) (tail : List ℕ) → spans_text (s ∷ m ∷ ms) ++ tail ≡ span_text s ++ (comma ++ (spans_text (m ∷ ms) ++ tail))
spans_text_cons s m ms tail = parts (span_text s) comma (span_text m) (joined ms) tail
  where
    parts : (a b c d rest : List ℕ) → (a ++ ((b ++ c) ++ d)) ++ rest ≡ a ++ (b ++ ((c ++ d) ++ rest))
    parts a b c d rest = simp append_assoc

record AreSpans (rest : List ℕ) (x : List Span × List ℕ) : Type 0 where
  spelled : rest ≡ spans_text x.0 ++ x.1
  some : 1 ≤ length x.0
  each : AllByRecursion IsInterval x.0

more_spans : (s : Span) (ss : List Span) (rest after inside tail : List ℕ) → rest ≡ span_text s ++ after →
    IsInterval s → after ≡ comma ++ inside → AreSpans inside (ss, tail) → AreSpans rest (s ∷ ss, tail)
more_spans s [] rest after inside tail e is c are = let none : 1 ≤ 0 = are.some in absurd (omega arith)
more_spans s (m ∷ ms) rest after inside tail e is c are = record {
  spelled = e ∙ ap (λ (l : List ℕ). span_text s ++ l) (c ∙ ap (λ (l : List ℕ). comma ++ l) are.spelled) ∙ sym (spans_text_cons s m ms tail);
  some = omega arith;
  each = (is, are.each);
}

spans_by : (most : ℕ) (rest : List ℕ) (x : List Span × List ℕ) → spans_at most rest ≡ Some x → AreSpans rest x
unfolding spans_at
spans_by zero rest x e = absurd cc
spans_by (suc most) rest x e =
    let s1 = bind_some (span_at rest) (λ span. either (literal_at comma span.1) (Some (span.0 ∷ [], span.1)) (λ more_text. spans_at most more_text >>= λ more. Some (span.0 ∷ more.0, more.1))) x e in
    let span = s1.0 in
    let is = span_takes rest span s1.1 in
    elim (either_parts (literal_at comma span.1) (Some (span.0 ∷ [], span.1)) (λ more_text. spans_at most more_text >>= λ more. Some (span.0 ∷ more.0, more.1)) (Some x) s1.2) [
      | inl last ↦
          let made : List Span × List ℕ = (span.0 ∷ [], span.1) in
          subst (AreSpans rest) (same_Some made x last.1)
          record { spelled = is.0 ∙ ap (λ (l : List ℕ). l ++ span.1) (sym (append-nil (span_text span.0))); some = omega arith; each = (is.1, tt) }
      | inr on ↦
          let s2 = bind_some (spans_at most on.0) (λ more. Some (span.0 ∷ more.0, more.1)) x on.2 in
          let more = s2.0 in
          let made : List Span × List ℕ = (span.0 ∷ more.0, more.1) in
          subst (AreSpans rest) (same_Some made x s2.2)
          (more_spans span.0 more.0 rest span.1 on.0 more.1 is.0 is.1 (literal_takes comma span.1 on.0 on.1) (spans_by most on.0 more s2.1))
    ]

pub spans_take : (most : ℕ) (rest : List ℕ) (x : List Span × List ℕ) → spans_at most rest ≡ Some x → (rest ≡ spans_text x.0 ++ x.1) × (1 ≤ length x.0) × All IsInterval x.0
spans_take most rest x e = let are = spans_by most rest x e in (are.spelled, are.some, All-from_recursion IsInterval x.0 are.each)

-- no interval goes on with these bytes
pub record EndsSpans (tail : List ℕ) : Type 0 where
  pub number : digit_ahead tail ≡ false
  pub list : literal_at comma tail ≡ None

spans_again_by : (ss : List Span) (tail : List ℕ) (most : ℕ) → 1 ≤ length ss → AllByRecursion IsInterval ss →
    EndsSpans tail → length ss ≤ most → spans_at most (spans_text ss ++ tail) ≡ Some (ss, tail)
unfolding spans_at
spans_again_by [] tail most some each ends room = absurd (omega arith)
spans_again_by (s ∷ ss) tail zero some each ends room = absurd (omega arith)
spans_again_by (s ∷ []) tail (suc most) some each ends room =
    ap (λ (l : List ℕ). spans_at (suc most) (l ++ tail)) (append-nil (span_text s))
    ∙ rw (span_again s tail each.0 ends.number, ends.list) refl
spans_again_by (s ∷ m ∷ ms) tail (suc most) some each ends room =
    let inside = spans_text (m ∷ ms) ++ tail in
    ap (spans_at (suc most)) (spans_text_cons s m ms tail)
    ∙ rw (span_again s (comma ++ inside) each.0 refl, literal_again comma inside, spans_again_by (m ∷ ms) tail most (omega arith) each.1 ends (omega arith)) refl

spans_long : (ss : List Span) (tail : List ℕ) → AllByRecursion IsInterval ss → length ss ≤ length (spans_text ss ++ tail)
spans_long [] tail each = omega arith
spans_long (s ∷ []) tail each =
    let long = span_long s each.0 in
    omega (arith, length-append (spans_text (s ∷ [])) tail, length-append (span_text s) [])
spans_long (s ∷ m ∷ ms) tail each =
    let onward = spans_long (m ∷ ms) tail each.1 in
    let inside = spans_text (m ∷ ms) ++ tail in
    omega (arith, onward, ap (λ (l : List ℕ). length l) (spans_text_cons s m ms tail), length-append (span_text s) (comma ++ inside), length-append comma inside)

pub spans_again : (ss : List Span) (tail : List ℕ) → 1 ≤ length ss → All IsInterval ss → EndsSpans tail → spans_at (length (spans_text ss ++ tail)) (spans_text ss ++ tail) ≡ Some (ss, tail)
spans_again ss tail some each ends =
    let by = recursion_from_All IsInterval ss each in
    spans_again_by ss tail (length (spans_text ss ++ tail)) some by ends (spans_long ss tail by)

-- ---- a skew

four_parts : (opened a between b close rest : List ℕ) → (opened ++ a ++ between ++ b ++ close) ++ rest ≡ opened ++ ((a ++ between ++ b) ++ (close ++ rest))
four_parts opened a between b close rest = simp append_assoc

parted_takes : (rest : List ℕ) (x : (ℕ × ℕ) × List ℕ) → parted_at rest ≡ Some x → (rest ≡ pair_text comma x.0 ++ (codes ")" ++ x.1)) × IsSkew x.0
unfolding parted_at
parted_takes rest x e =
    let s1 = bind_some (pair_at 4095 comma rest) (λ skew. literal_at (codes ")") skew.1 >>= λ left. Some (skew.0, left)) x e in
    let skew = s1.0 in
    let s2 = bind_some (literal_at (codes ")") skew.1) (λ left. Some (skew.0, left)) x s1.2 in
    let is = pair_takes 4095 comma rest skew s1.1 in
    let made : (ℕ × ℕ) × List ℕ = (skew.0, s2.0) in
    subst (λ (y : (ℕ × ℕ) × List ℕ). (rest ≡ pair_text comma y.0 ++ (codes ")" ++ y.1)) × IsSkew y.0) (same_Some made x s2.2)
    (is.0 ∙ ap (λ (l : List ℕ). pair_text comma skew.0 ++ l) (literal_takes (codes ")") skew.1 s2.0 s2.1), record { early = is.1.first; late = is.1.second })

skew_takes : (rest : List ℕ) (x : Option (ℕ × ℕ) × List ℕ) → skew_at rest ≡ Some x → (rest ≡ skew_text x.0 ++ x.1) × IfSome x.0 IsSkew
unfolding skew_at
skew_takes rest x e =
    elim (either_parts (literal_at (codes "(") rest) (Some (None, rest)) (λ inside. parted_at inside >>= λ skew. Some (Some skew.0, skew.1)) (Some x) e) [
      | inl none ↦
          let made : Option (ℕ × ℕ) × List ℕ = (None, rest) in
          subst (λ (y : Option (ℕ × ℕ) × List ℕ). (rest ≡ skew_text y.0 ++ y.1) × IfSome y.0 IsSkew) (same_Some made x none.1) (refl, tt)
      | inr on ↦
          let s = bind_some (parted_at on.0) (λ skew. Some (Some skew.0, skew.1)) x on.2 in
          let skew = s.0 in
          let is = parted_takes on.0 skew s.1 in
          let made : Option (ℕ × ℕ) × List ℕ = (Some skew.0, skew.1) in
          subst (λ (y : Option (ℕ × ℕ) × List ℕ). (rest ≡ skew_text y.0 ++ y.1) × IfSome y.0 IsSkew) (same_Some made x s.2)
          (literal_takes (codes "(") rest on.0 on.1 ∙ ap (λ (l : List ℕ). codes "(" ++ l) is.0 ∙ sym (four_parts (codes "(") (decimal skew.0.0) comma (decimal skew.0.1) (codes ")") skew.1), is.1)
    ]

skew_again : (skew : Option (ℕ × ℕ)) (tail : List ℕ) → IfSome skew IsSkew → literal_at (codes "(") tail ≡ None → skew_at (skew_text skew ++ tail) ≡ Some (skew, tail)
unfolding skew_at parted_at
skew_again None tail is stop = rw stop refl
skew_again (Some skew) tail is stop =
    let inside = pair_text comma skew ++ (codes ")" ++ tail) in
    ap skew_at (four_parts (codes "(") (decimal skew.0) comma (decimal skew.1) (codes ")") tail)
    ∙ rw (
      literal_again (codes "(") inside,
      pair_again 4095 comma (codes ")" ++ tail) skew
          (omega arith) (λ _. refl) (record { first = is.early; second = is.late }) refl,
      literal_again (codes ")") tail,
    ) refl

-- ---- the end of a clock

low_takes : (rest : List ℕ) (x : Bool) → low_at rest ≡ Some x → rest ≡ low_text x
unfolding low_at
low_takes rest x e =
    elim (either_parts (literal_at (codes "L") rest) (cond (eqb (length rest) 0) (Some false) None) (λ left. cond (eqb (length left) 0) (Some true) None) (Some x) e) [
      | inl none ↦
          let p = passed (eqb (length rest) 0) (Some false) x none.1 in
          subst (λ (y : Bool). rest ≡ low_text y) (same_Some false x p.1) (nil_from_length rest (eqb-true (length rest) 0 p.0))
      | inr on ↦
          let p = passed (eqb (length on.0) 0) (Some true) x on.2 in
          subst (λ (y : Bool). rest ≡ low_text y) (same_Some true x p.1)
          (literal_takes (codes "L") rest on.0 on.1 ∙ ap (λ (l : List ℕ). codes "L" ++ l) (nil_from_length on.0 (eqb-true (length on.0) 0 p.0)))
    ]

low_again : (low : Bool) → low_at (low_text low) ≡ Some low
unfolding low_at literal_at
low_again true = refl
low_again false = refl

low_opens : (low : Bool) → literal_at (codes "(") (low_text low) ≡ None
unfolding literal_at
low_opens true = refl
low_opens false = refl

-- what stands after a clock's intervals
abbrev edges_text : Option (ℕ × ℕ) → Bool → List ℕ
edges_text skew low = skew_text skew ++ low_text low

edges_take : (rest : List ℕ) (x : Option (ℕ × ℕ) × Bool) → edges_at rest ≡ Some x → (rest ≡ edges_text x.0 x.1) × IfSome x.0 IsSkew
unfolding edges_at
edges_take rest x e =
    let s1 = bind_some (skew_at rest) (λ skew. low_at skew.1 >>= λ low. Some (skew.0, low)) x e in
    let skew = s1.0 in
    let s2 = bind_some (low_at skew.1) (λ low. Some (skew.0, low)) x s1.2 in
    let is = skew_takes rest skew s1.1 in
    let made : Option (ℕ × ℕ) × Bool = (skew.0, s2.0) in
    subst (λ (y : Option (ℕ × ℕ) × Bool). (rest ≡ edges_text y.0 y.1) × IfSome y.0 IsSkew) (same_Some made x s2.2)
    (is.0 ∙ ap (λ (l : List ℕ). skew_text skew.0 ++ l) (low_takes skew.1 s2.0 s2.1), is.1)

edges_again : (skew : Option (ℕ × ℕ)) (low : Bool) → IfSome skew IsSkew → edges_at (edges_text skew low) ≡ Some (skew, low)
unfolding edges_at
edges_again skew low is = rw (skew_again skew (low_text low) is (low_opens low), low_again low) refl

edges_end : (skew : Option (ℕ × ℕ)) (low : Bool) → EndsSpans (edges_text skew low)
unfolding literal_at
edges_end None true = record { number = refl; list = refl }
edges_end None false = record { number = refl; list = refl }
edges_end (Some skew) low = record { number = refl; list = refl }

-- ---- a clock

clock_parts : (a b c : List ℕ) → a ++ b ++ c ≡ a ++ (b ++ c)
clock_parts a b c = append_assoc a b c

pub clock_takes : (rest : List ℕ) (c : ClockSpec) → clock_at rest ≡ Some c → (rest ≡ clock_text c) × IsClock c
unfolding clock_at
clock_takes rest c e =
    let s1 = bind_some (spans_at (length rest) rest) (λ spans. edges_at spans.1 >>= λ edges. Some (record { spans = spans.0; skew = edges.0; low = edges.1 })) c e in
    let spans = s1.0 in
    let s2 = bind_some (edges_at spans.1) (λ edges. Some (record { spans = spans.0; skew = edges.0; low = edges.1 })) c s1.2 in
    let edges = s2.0 in
    let spans-are = spans_take (length rest) rest spans s1.1 in
    let edges-are = edges_take spans.1 edges s2.1 in
    let made : ClockSpec = record { spans = spans.0; skew = edges.0; low = edges.1 } in
    subst (λ (y : ClockSpec). (rest ≡ clock_text y) × IsClock y) (same_Some made c s2.2) (
      spans-are.0 ∙ ap (λ (l : List ℕ). spans_text spans.0 ++ l) edges-are.0 ∙ sym (clock_parts (spans_text spans.0) (skew_text edges.0) (low_text edges.1)),
      record { some = spans-are.1; spans = spans-are.2; skew = edges-are.1 },
    )

pub clock_again : (c : ClockSpec) → IsClock c → clock_at (clock_text c) ≡ Some c
unfolding clock_at
clock_again c is =
    let tail = edges_text c.skew c.low in
    ap clock_at (clock_parts (spans_text c.spans) (skew_text c.skew) (low_text c.low))
    ∙ rw (spans_again c.spans tail is.some is.spans (edges_end c.skew c.low), edges_again c.skew c.low is.skew) refl

-- ---- the intervals of a stable signal

pub stable_takes : (rest : List ℕ) (ss : List Span) → stable_at rest ≡ Some ss → (rest ≡ spans_text ss) × All IsInterval ss
unfolding stable_at
stable_takes rest ss e =
    elim (chosen (eqb (length rest) 0) (Some []) (spans_at (length rest) rest >>= λ spans. cond (eqb (length spans.1) 0) (Some spans.0) None) (Some ss) e) [
      | inl none ↦
          let nothing : List Span = [] in
          subst (λ (y : List Span). (rest ≡ spans_text y) × All IsInterval y) (same_Some nothing ss none.1)
          (nil_from_length rest (eqb-true (length rest) 0 none.0), All-from_recursion IsInterval [] tt)
      | inr some ↦
          let s = bind_some (spans_at (length rest) rest) (λ spans. cond (eqb (length spans.1) 0) (Some spans.0) None) ss some.1 in
          let spans = s.0 in
          let p = passed (eqb (length spans.1) 0) (Some spans.0) ss s.2 in
          let are = spans_take (length rest) rest spans s.1 in
          let ended : spans.1 ≡ [] = nil_from_length spans.1 (eqb-true (length spans.1) 0 p.0) in
          subst (λ (y : List Span). (rest ≡ spans_text y) × All IsInterval y) (same_Some spans.0 ss p.1)
          (are.0 ∙ ap (λ (l : List ℕ). spans_text spans.0 ++ l) ended ∙ append-nil (spans_text spans.0), are.2)
    ]

nothing_ends : EndsSpans []
unfolding literal_at
nothing_ends = record { number = refl; list = refl }

some_stable : (rest : List ℕ) (ss : List Span) → 1 ≤ length rest → spans_at (length rest) rest ≡ Some (ss, []) → stable_at rest ≡ Some ss
unfolding stable_at
some_stable rest ss long e = rw (ne_eqb (length rest) 0 (λ z. omega arith), e) refl

none_stable : stable_at [] ≡ Some []
unfolding stable_at
none_stable = refl

pub stable_again : (ss : List Span) → All IsInterval ss → stable_at (spans_text ss) ≡ Some ss
stable_again [] each = none_stable
stable_again (s ∷ ss) each =
    let all = s ∷ ss in
    let by = recursion_from_All IsInterval all each in
    let long = spans_long all [] by in
    let whole = append-nil (spans_text all) in
    some_stable (spans_text all) all (omega (arith, long, ap (λ (l : List ℕ). length l) whole))
    (ap (λ (l : List ℕ). spans_at (length l) l) (sym whole) ∙ spans_again all [] (omega arith) each nothing_ends)
