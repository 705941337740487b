-- The header of a canonical text is the one that it is made from.
use Rattle.std.proofs.Common.{◌≡◌, ℕ, zero, suc, ◌*◌, ◌≤◌, Bool, true, false, ℤ, pos, negsuc, Option, Some, None, ◌⊎◌, inl, inr, refl, ap, ◌∙◌, subst, arith}
use Rattle.std.specs.Prelude.{IfSome, Result, Ok}
use Rattle.std.proofs.lemmas.Bool.Decides.{nat_tests}
use Rattle.scald_base.specs.Time.{Header, IsHeader, IsDelay, IsSkew}
use Rattle.scald_base.specs.declared.refusal.Place.{Place}
use Rattle.scald_base.specs.declared.refusal.Refusal.{Refusal}
use Rattle.drawing_grammar.specs.declared.header.NumberPair.{NumberPair}
use Rattle.drawing_grammar.specs.declared.header.WrittenHeader.{WrittenHeader}
use Rattle.drawing_grammar.specs.Header.{natural, is_version, is_clock, is_bounds, is_skew, judged_statement, judged_pair, judged, header_of, pair_of, bounds_of}
use Rattle.drawing_grammar.proofs.PhraseHeader.{IsPair}
use Rattle.drawing_grammar.proofs.Judging.{passed, passed_pair}

good_clock : (u t : ℕ) → 2 ≤ u * t → u * t ≤ 4096 → is_clock (pos u) (pos t) ≡ true
good_clock zero t h k = absurd (let e : zero * t ≡ 0 = omega arith in omega arith)
good_clock (suc u) zero h k = absurd (let e : suc u * zero ≡ 0 = omega arith in omega arith)
good_clock (suc u) (suc t) h k = grind (arith, nat_tests)

good_bounds : (a b : ℕ) → a ≤ b → b ≤ 4095 → is_bounds (pos a) (pos b) ≡ true
good_bounds a b h k = grind (arith, nat_tests)

good_skew : (a b : ℕ) → a ≤ 4095 → b ≤ 4095 → is_skew (pos a) (pos b) ≡ true
good_skew a b h k = grind (arith, nat_tests)

-- ---- a header that is judged good is one that may be

clock_is : (m n : ℤ) → is_clock m n ≡ true → (2 ≤ natural m * natural n) × (natural m * natural n ≤ 4096)
clock_is (pos u) (pos t) e = (grind (arith, nat_tests), grind (arith, nat_tests))
clock_is (pos u) (negsuc t) e = absurd (grind (arith, nat_tests))
clock_is (negsuc u) n e = absurd cc

bounds_are : (m n : ℤ) → is_bounds m n ≡ true → (natural m ≤ natural n) × (natural n ≤ 4095)
bounds_are (pos a) (pos b) e = (grind (arith, nat_tests), grind (arith, nat_tests))
bounds_are (pos a) (negsuc b) e = absurd (grind (arith, nat_tests))
bounds_are (negsuc a) n e = absurd cc

skews_are : (m n : ℤ) → is_skew m n ≡ true → (natural m ≤ 4095) × (natural n ≤ 4095)
skews_are (pos a) (pos b) e = (grind (arith, nat_tests), grind (arith, nat_tests))
skews_are (pos a) (negsuc b) e = absurd (grind (arith, nat_tests))
skews_are (negsuc a) n e = absurd cc

delay_is : (o : Option NumberPair) → IfSome o (λ p. is_bounds p.first p.second ≡ true) → IsDelay (bounds_of o)
delay_is None h = record { ordered = omega arith; bounded = omega arith }
delay_is (Some p) h = let b = bounds_are p.first p.second h in record { ordered = b.0; bounded = b.1 }

skew_is : (o : Option NumberPair) → IfSome o (λ p. is_skew p.first p.second ≡ true) → IsSkew (pair_of o)
skew_is None h = record { early = omega arith; late = omega arith }
skew_is (Some p) h = let b = skews_are p.first p.second h in record { early = b.0; late = b.1 }

pub header_may_be : (w : WrittenHeader) (h : Header) → judged w ≡ Ok h → IsHeader h
header_may_be w h e =
    let first = passed (is_version w.version) w.place _ h e in
    let second = passed (is_clock w.clock.first w.clock.second) w.clock.place _ h first.1 in
    let third = passed_pair is_bounds w.wire _ h second.1 in
    let fourth = passed_pair is_skew w.pskew _ h third.1 in
    let last = passed_pair is_skew w.cskew _ h fourth.1 in
    let same : header_of w ≡ h = cc in
    let clock = clock_is w.clock.first w.clock.second second.0 in
    subst IsHeader same (record { shortest = clock.0; longest = clock.1; wire = delay_is w.wire third.0; pskew = skew_is w.pskew fourth.0; cskew = skew_is w.cskew last.0 })

-- ---- and it is judged good again

passes : {A : Type 0} (b : Bool) (place : Place) (said : Result A Refusal) (x : Result A Refusal) → b ≡ true → said ≡ x → judged_statement b place said ≡ x
passes true place said x e h = h
passes false place said x e h = absurd cc

passes_pair : {A : Type 0} (test : ℤ → ℤ → Bool) (a b : ℕ) (o : Option NumberPair) (said : Result A Refusal) (x : Result A Refusal) →
    IsPair a b o → test (pos a) (pos b) ≡ true → said ≡ x → judged_pair test o said ≡ x
passes_pair test a b None said x h e k = absurd h
passes_pair test a b (Some p) said x h e k = passes (test p.first p.second) p.place said x (ap (λ (m : ℤ). test m p.second) h.0 ∙ (ap (λ (n : ℤ). test (pos a) n) h.1 ∙ e)) k

pair_is : (a b : ℕ) (o : Option NumberPair) → IsPair a b o → ((pair_of o).0 ≡ a) × ((pair_of o).1 ≡ b)
pair_is a b None h = absurd h
pair_is a b (Some p) h = (ap natural h.0, ap natural h.1)

header_same : (h : Header) (u t wa wb pa pb ca cb : ℕ) → u ≡ h.units → t ≡ h.ticks → wa ≡ h.wire.min → wb ≡ h.wire.max → pa ≡ h.pskew.0 →
    pb ≡ h.pskew.1 → ca ≡ h.cskew.0 → cb ≡ h.cskew.1 →
    (let x : Header = record { units = u; ticks = t; wire = record { min = wa; max = wb }; pskew = (pa, pb); cskew = (ca, cb) } in x) ≡ h
header_same h u t wa wb pa pb ca cb a b c d e f i j = rw (a, b, c, d, e, f, i, j) refl

is_known : (version : ℕ) → (version ≡ 1) ⊎ (version ≡ 2) → is_version (pos version) ≡ true
is_known version (inl e) = ap (λ (n : ℕ). is_version (pos n)) e
is_known version (inr e) = ap (λ (n : ℕ). is_version (pos n)) e

pub judged_again : (w : WrittenHeader) (version : ℕ) (h : Header) → IsHeader h → (version ≡ 1) ⊎ (version ≡ 2) → w.version ≡ pos version → w.clock.first ≡ pos h.units →
    w.clock.second ≡ pos h.ticks → IsPair h.wire.min h.wire.max w.wire →
    IsPair h.pskew.0 h.pskew.1 w.pskew → IsPair h.cskew.0 h.cskew.1 w.cskew → judged w ≡ Ok h
judged_again w version h is known v u t wire pskew cskew =
    let W = pair_is h.wire.min h.wire.max w.wire wire in
    let P = pair_is h.pskew.0 h.pskew.1 w.pskew pskew in
    let C = pair_is h.cskew.0 h.cskew.1 w.cskew cskew in
    let same : header_of w ≡ h = header_same h (natural w.clock.first) (natural w.clock.second) (pair_of w.wire).0 (pair_of w.wire).1
    (pair_of w.pskew).0 (pair_of w.pskew).1 (pair_of w.cskew).0 (pair_of w.cskew).1 (ap natural u) (ap natural t) W.0 W.1 P.0 P.1 C.0 C.1 in
    let versions : is_version w.version ≡ true = ap is_version v ∙ is_known version known in
    let clocks : is_clock w.clock.first w.clock.second ≡ true = ap (λ (m : ℤ). is_clock m w.clock.second) u
    ∙ (ap (λ (n : ℤ). is_clock (pos h.units) n) t ∙ good_clock h.units h.ticks is.shortest is.longest) in
    passes (is_version w.version) w.place _ (Ok h) versions
    (passes (is_clock w.clock.first w.clock.second) w.clock.place _ (Ok h) clocks
    (passes_pair is_bounds h.wire.min h.wire.max w.wire _ (Ok h) wire (good_bounds h.wire.min h.wire.max is.wire.ordered is.wire.bounded)
    (passes_pair is_skew h.pskew.0 h.pskew.1 w.pskew _ (Ok h) pskew (good_skew h.pskew.0 h.pskew.1 is.pskew.early is.pskew.late)
    (passes_pair is_skew h.cskew.0 h.cskew.1 w.cskew _ (Ok h) cskew (good_skew h.cskew.0 h.cskew.1 is.cskew.early is.cskew.late)
    (ap (λ (x : Header). Ok x) same)))))

pub header_again : (w : WrittenHeader) (h : Header) → IsHeader h → w.clock.first ≡ pos h.units → w.clock.second ≡ pos h.ticks →
    IsPair h.wire.min h.wire.max w.wire → IsPair h.pskew.0 h.pskew.1 w.pskew → IsPair h.cskew.0 h.cskew.1 w.cskew → header_of w ≡ h
header_again w h is u t wire pskew cskew =
    let W = pair_is h.wire.min h.wire.max w.wire wire in
    let P = pair_is h.pskew.0 h.pskew.1 w.pskew pskew in
    let C = pair_is h.cskew.0 h.cskew.1 w.cskew cskew in
    header_same h (natural w.clock.first) (natural w.clock.second) (pair_of w.wire).0 (pair_of w.wire).1
    (pair_of w.pskew).0 (pair_of w.pskew).1 (pair_of w.cskew).0 (pair_of w.cskew).1 (ap natural u) (ap natural t) W.0 W.1 P.0 P.1 C.0 C.1
