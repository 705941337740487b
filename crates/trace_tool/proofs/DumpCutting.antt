-- Stretches, cut net by net.
use Rattle.std.proofs.Common.{◌≡◌, ℕ, zero, suc, ◌+◌, ◌-◌, ◌<◌, ◌≤◌, Bool, true, false, List, [], ◌∷◌, ◌++◌, length, map, append_assoc, append-nil, refl, arith, ap, sym, ◌∙◌}
use Rattle.std.specs.Prelude.{if◌then◌else◌}
use Rattle.std.specs.List.{All, flat_map, range_with_len}
use Rattle.std.proofs.lemmas.List.Elements.{All-cons, All-nil}
use borrow.Author.Count.{below_more}
use Rattle.flat_circuit.specs.Circuit.{Circuit}
use Rattle.trace_tool.specs.declared.stretch.Stretch.{Stretch}
use Rattle.trace_tool.specs.Stretch.{AreStretches, Begins, IsOne, cut, cut_all, first, follows, longer, next, places, stretches}

-- ---- one net more

if_so : {X : Type 0} (b : Bool) (x y : X) → b ≡ true → (if b then x else y) ≡ x
if_so b x y is = ap (λ t. if t then x else y) is

if_not : {X : Type 0} (b : Bool) (x y : X) → b ≡ false → (if b then x else y) ≡ y
if_not b x y is = ap (λ t. if t then x else y) is

one_more : (c : Circuit) (s : Stretch) (place count : ℕ) → place < count → cut c s place (count - place) ≡ cut c s place (suc (count - (place + 1)))
one_more c s place count below = let e : count - place ≡ suc (count - (place + 1)) = omega arith in ap (cut c s place) e

pub kept : (c : Circuit) (s : Stretch) (place count : ℕ) → place < count → follows c place ≡ true →
    cut c s place (count - place) ≡ cut c (longer s place) (place + 1) (count - (place + 1))
kept c s place count below goes =
    one_more c s place count below
    ∙ if_so (follows c place) (cut c (longer s place) (place + 1) (count - (place + 1))) (s ∷ cut c (next s place) (place + 1) (count - (place + 1))) goes

pub parted : (c : Circuit) (s : Stretch) (place count : ℕ) → place < count → follows c place ≡ false →
    cut c s place (count - place) ≡ s ∷ cut c (next s place) (place + 1) (count - (place + 1))
parted c s place count below stops =
    one_more c s place count below
    ∙ if_not (follows c place) (cut c (longer s place) (place + 1) (count - (place + 1))) (s ∷ cut c (next s place) (place + 1) (count - (place + 1))) stops

pub first_cut : (c : Circuit) (count : ℕ) → (count ≡ 0 → ⊥) → cut c first 1 (count - 1) ≡ cut_all c count
first_cut c zero some = absurd (some refl)
first_cut c (suc more) some = let e : suc more - 1 ≡ more = omega arith in ap (cut c first 1) e

pub none_left : (c : Circuit) (s : Stretch) (place count : ℕ) → count ≤ place → cut c s place (count - place) ≡ s ∷ []
none_left c s place count past = let e : count - place ≡ 0 = omega arith in ap (cut c s place) e

-- ---- what stretches are

pub range_apart : (a m n : ℕ) → range_with_len a (m + n) ≡ range_with_len a m ++ range_with_len (a + m) n
range_apart a zero n =
    let none : zero + n ≡ n = omega arith in
    let same : a ≡ a + zero = omega arith in
    ap (range_with_len a) none ∙ ap (λ (b : ℕ). range_with_len b n) same
range_apart a (suc m) n =
    let more : suc m + n ≡ suc (m + n) = omega arith in
    let same : a + 1 + m ≡ a + suc m = omega arith in
    ap (range_with_len a) more
    ∙ ap (λ (l : List ℕ). a ∷ l) (range_apart (a + 1) m n ∙ ap (λ (b : ℕ). range_with_len (a + 1) m ++ range_with_len b n) same)

-- a stretch that ends at a place, and is one
record IsOpen (c : Circuit) (s : Stretch) (place : ℕ) : Type 0 where
  ends : s.to ≡ place
  some : s.from < place
  one : IsOne c s
  begins : Begins c s

one_longer : (c : Circuit) (s : Stretch) (place : ℕ) → IsOpen c s place → follows c place ≡ true → (p : ℕ) → p < place + 1 → s.from < p → follows c p ≡ true
one_longer c s place o goes =
    below_more (λ (p : ℕ). s.from < p → follows c p ≡ true) place
    (λ p below after. o.one p after (let e = o.ends in omega (arith, e))) (λ after. goes)

longer_is : (c : Circuit) (s : Stretch) (place : ℕ) → IsOpen c s place → follows c place ≡ true → IsOpen c (longer s place) (place + 1)
longer_is c s place o goes = record {
  ends = refl;
  some = let h = o.some in omega (arith, h);
  one = λ p after before. one_longer c s place o goes p before after;
  begins = o.begins;
}

next_is : (c : Circuit) (s : Stretch) (place : ℕ) → follows c place ≡ false → IsOpen c (next s place) (place + 1)
next_is c s place stops = record {
  ends = refl;
  some = omega arith;
  one = λ p after before. absurd (omega arith);
  begins = λ some. stops;
}

-- what holds of all that are cut from an open one on
record AreCut (c : Circuit) (s : Stretch) (place more : ℕ) (ss : List Stretch) : Type 0 where
  cover : flat_map places ss ≡ range_with_len s.from ((place - s.from) + more)
  some : All (λ (q : Stretch). q.from < q.to) ss
  one : All (IsOne c) ss
  apart : All (Begins c) ss
  numbered : map (λ (q : Stretch). q.number) ss ≡ range_with_len s.number (length ss)

closed_width : (s : Stretch) (place : ℕ) → s.to ≡ place → s.to - s.from ≡ (place - s.from) + 0
closed_width s place e = omega (arith, e)

more_width : (from place more : ℕ) → from < place → (place + 1 - from) + more ≡ (place - from) + suc more
more_width from place more h = omega (arith, h)

closed : (c : Circuit) (s : Stretch) (place : ℕ) → IsOpen c s place → AreCut c s place zero (s ∷ [])
closed c s place o = record {
  cover = append-nil (places s) ∙ ap (range_with_len s.from) (closed_width s place o.ends);
  some = All-cons (λ (q : Stretch). q.from < q.to) s [] (let e = o.ends in let h = o.some in omega (arith, e, h)) (All-nil (λ (q : Stretch). q.from < q.to));
  one = All-cons (IsOne c) s [] o.one (All-nil (IsOne c));
  apart = All-cons (Begins c) s [] o.begins (All-nil (Begins c));
  numbered = refl;
}

more_longer : (c : Circuit) (s : Stretch) (place more : ℕ) (ss : List Stretch) → IsOpen c s place →
    AreCut c (longer s place) (place + 1) more ss → AreCut c s place (suc more) ss
more_longer c s place more ss o a = record {
  cover = a.cover ∙ ap (range_with_len s.from) (more_width s.from place more o.some);
  some = a.some;
  one = a.one;
  apart = a.apart;
  numbered = a.numbered;
}

more_next : (c : Circuit) (s : Stretch) (place more : ℕ) (ss : List Stretch) → IsOpen c s place →
    AreCut c (next s place) (place + 1) more ss → AreCut c s place (suc more) (s ∷ ss)
more_next c s place more ss o a =
    let width : s.to - s.from ≡ place - s.from = (let e = o.ends in omega (arith, e)) in
    let h = o.some in
    let count : (place + 1 - place) + more ≡ suc more = omega arith in
    let begin : place ≡ s.from + (place - s.from) = omega (arith, h) in
    let rest : range_with_len place ((place + 1 - place) + more) ≡ range_with_len (s.from + (place - s.from)) (suc more) =
    ap (range_with_len place) count ∙ ap (λ (b : ℕ). range_with_len b (suc more)) begin in
    record {
      cover = ap (λ (l : List ℕ). places s ++ l) (a.cover ∙ rest)
          ∙ ap (λ (n : ℕ). range_with_len s.from n ++ range_with_len (s.from + (place - s.from)) (suc more)) width
          ∙ sym (range_apart s.from (place - s.from) (suc more));
      some = All-cons (λ (q : Stretch). q.from < q.to) s ss (let e = o.ends in let h = o.some in omega (arith, e, h)) a.some;
      one = All-cons (IsOne c) s ss o.one a.one;
      apart = All-cons (Begins c) s ss o.begins a.apart;
      numbered = ap (λ (l : List ℕ). s.number ∷ l) a.numbered;
    }

cut_are : (c : Circuit) (s : Stretch) (place more : ℕ) → IsOpen c s place → AreCut c s place more (cut c s place more)
cut_are c s place zero o = closed c s place o
cut_are c s place (suc more) o = by (follows c place) refl
    (λ goes. cut_are c (longer s place) (place + 1) more (longer_is c s place o goes))
    (λ stops. cut_are c (next s place) (place + 1) more (next_is c s place stops))
  where
    by : (goes : Bool) → follows c place ≡ goes →
        (follows c place ≡ true → AreCut c (longer s place) (place + 1) more (cut c (longer s place) (place + 1) more)) →
        (follows c place ≡ false → AreCut c (next s place) (place + 1) more (cut c (next s place) (place + 1) more)) →
        AreCut c s place (suc more) (if goes then cut c (longer s place) (place + 1) more else s ∷ cut c (next s place) (place + 1) more)
    by true goes a b = more_longer c s place more (cut c (longer s place) (place + 1) more) o (a goes)
    by false stops a b = more_next c s place more (cut c (next s place) (place + 1) more) o (b stops)

first_is : (c : Circuit) → IsOpen c first 1
first_is c = record {
  ends = refl;
  some = omega arith;
  one = λ p after before. absurd (omega arith);
  begins = λ some. absurd (omega arith);
}

all_width : (count more : ℕ) → count ≡ suc more → (1 - 0) + more ≡ count
all_width count more is = omega (arith, is)

all_are : (c : Circuit) (count : ℕ) → length c.nets ≡ count → AreStretches c (cut_all c count)
all_are c zero is = record {
  cover = sym (ap (range_with_len 0) is);
  some = All-nil (λ (q : Stretch). q.from < q.to);
  adjoin = All-nil (IsOne c);
  apart = All-nil (Begins c);
  numbered = refl;
}
all_are c (suc more) is =
    let a = cut_are c first 1 more (first_is c) in
    record {
      cover = a.cover ∙ ap (range_with_len 0) (all_width (length c.nets) more is);
      some = a.some;
      adjoin = a.one;
      apart = a.apart;
      numbered = a.numbered;
    }

pub stretches_are : (c : Circuit) → AreStretches c (stretches c)
stretches_are c = all_are c (length c.nets) refl

-- ---- from net to net

pub goes_on : (c : Circuit) (s t : Stretch) (place count : ℕ) (found more all : List Stretch) → place < count → follows c place ≡ true →
    t ≡ s → more ≡ found → found ++ cut c s place (count - place) ≡ all →
    more ++ cut c (longer t place) (place + 1) (count - (place + 1)) ≡ all
goes_on c s t place count found more all below goes same kept_ before =
    ap (λ (q : Stretch). more ++ cut c (longer q place) (place + 1) (count - (place + 1))) same
    ∙ ap (λ (l : List Stretch). l ++ cut c (longer s place) (place + 1) (count - (place + 1))) kept_
    ∙ ap (λ (l : List Stretch). found ++ l) (sym (kept c s place count below goes)) ∙ before

pub stops : (c : Circuit) (s t : Stretch) (place count : ℕ) (found more all : List Stretch) → place < count → follows c place ≡ false →
    t ≡ record { number = s.number + 1; from = place; to = place } → more ≡ found ++ s ∷ [] → found ++ cut c s place (count - place) ≡ all →
    more ++ cut c (longer t place) (place + 1) (count - (place + 1)) ≡ all
stops c s t place count found more all below stop same added before =
    ap (λ (q : Stretch). more ++ cut c (longer q place) (place + 1) (count - (place + 1))) same
    ∙ ap (λ (l : List Stretch). l ++ cut c (next s place) (place + 1) (count - (place + 1))) added
    ∙ append_assoc found (s ∷ []) (cut c (next s place) (place + 1) (count - (place + 1)))
    ∙ ap (λ (l : List Stretch). found ++ l) (sym (parted c s place count below stop)) ∙ before
