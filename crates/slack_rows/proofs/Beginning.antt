-- Rows over no case, and sets of cases from the last back.
use Rattle.std.proofs.Common.{◌≡◌, ℕ, zero, suc, ◌+◌, ◌-◌, ◌<◌, ◌≤◌, Bool, true, false, ◌||◌, cond, refl, sym, ap, subst, ◌∙◌, arith, List, [], ◌∷◌, ◌++◌, append-nil, map, length, replicate, reverse, take, Option, Some, None}
use Rattle.std.specs.Prelude.{is_none, nat_le, slice_get, slice_index_or, unwrap_or}
use Rattle.std.proofs.lemmas.List.{get_or-reverse, length-replicate, length-reverse, map_more, reverse-append}
use Rattle.flat_circuit.specs.Circuit.{Circuit}
use Rattle.slack_rows.specs.declared.parameter.Parameter.{Parameter}
use Rattle.slack_rows.specs.declared.parameter.Word.{Word as Limit}
use Rattle.slack_rows.specs.declared.rows.Least.{Least}
use Rattle.slack_rows.specs.Rows.{all_limits, partner}
use Rattle.slack_rows.proofs.Exactly.{no_cases}
use Rattle.slack_rows.specs.Known.{AreKnown, BreaksBoth, IsKnown, IsNumbered, breaks, least_at, places_of, places_within}

-- ---- no case

at_none : (n i : ℕ) (found : Option Least) → slice_get (replicate n None) i ≡ Some found → found ≡ None
at_none zero i found at = absurd (cc)
at_none (suc n) zero found at = by found at
  where
    item : Option (Option Least) → Option Least
    item None = None
    item (Some x) = x

    by : (x : Option Least) → Some None ≡ Some x → x ≡ None
    by x same = sym (ap item same)
at_none (suc n) (suc i) found at = at_none n i found at

index_none : (n i : ℕ) → ◌≡◌ {A = Option Least} (slice_index_or (replicate n None) i None) None
index_none zero i = refl
index_none (suc n) zero = refl
index_none (suc n) (suc i) = index_none n i

no_least : (least : List (Option Least)) (n i back : ℕ) → least ≡ replicate n None → least_at least i back ≡ None
no_least least n i back is = by (nat_le back i) (ap (λ (xs : List (Option Least)). slice_index_or xs (i - back) None) is ∙ index_none n (i - back))
  where
    by : (b : Bool) → slice_index_or least (i - back) None ≡ None → cond b (slice_index_or least (i - back) None) None ≡ None
    by true none = none
    by false none = refl

none_both : (c : Circuit) (least : List (Option Least)) (n i : ℕ) (q : Parameter) (o : Option Limit) → least ≡ replicate n None → BreaksBoth c [] least i q o
none_both c least n i q None is = tt
none_both c least n i q (Some before) is =
    (λ k. breaks (no_least least n i 1 is k) || breaks (no_least least n i 0 is k))

pub known_none : (c : Circuit) (limits : List Parameter) (least : List (Option Least)) (n : ℕ) → limits ≡ all_limits c →
    least ≡ replicate n None → n ≡ length limits → AreKnown c [] limits least [] []
known_none c limits least n are is long =
    let none : (i : ℕ) (found : Option Least) → slice_get least i ≡ Some found → found ≡ None =
    (λ i found at. at_none n i found (ap (λ (xs : List (Option Least)). slice_get xs i) (sym is) ∙ at)) in
    record {
      are_limits = are;
      count = ap (λ (xs : List (Option Least)). length xs) is ∙ length-replicate n None ∙ long;
      are_numbers = refl;
      are_sets = λ k. omega arith;
      numbered = λ i found at. subst (IsNumbered []) (sym (none i found at)) tt;
      exact = λ i q found at here. no_cases c q found (none i found here);
      each = λ i q found at here sure. subst (IsKnown c [] [] q) (sym (none i found here)) refl;
      free = λ i q found at here. ap (λ (o : Option Least). is_none o) (none i found here);
      alone = λ i q found at here two. ap breaks (none i found here);
      both = λ i q at. none_both c least n i q (partner q.word) is;
    }

-- ---- from the last back

-- those of a set that are left, before those that there are
abbrev pub Leads : List (ℕ × ℕ) → ℕ → ℕ → ℕ → List ℕ → Type 0
Leads sets set gone left places = places_within (length sets - gone) sets left ++ reverse places ≡ places_of sets set

pub leads_first : (sets : List (ℕ × ℕ)) (set : ℕ) → Leads sets set 0 set []
leads_first sets set =
    let same : length sets - 0 ≡ length sets = omega arith in
    append-nil (places_within (length sets - 0) sets set) ∙ ap (λ (n : ℕ). places_within n sets set) same

no_more : (sets : List (ℕ × ℕ)) (left : ℕ) → places_within left sets zero ≡ []
no_more sets zero = refl
no_more sets (suc left) = refl

pub leads_none : (sets : List (ℕ × ℕ)) (set gone left : ℕ) (places : List ℕ) → left ≡ 0 → Leads sets set gone left places →
    reverse places ≡ places_of sets set
leads_none sets set gone left places none leads =
    sym (ap (λ (n : ℕ). places_within (length sets - gone) sets n ++ reverse places) none
    ∙ ap (λ (xs : List ℕ). xs ++ reverse places) (no_more sets (length sets - gone)))
    ∙ leads

pub leads_all : (sets : List (ℕ × ℕ)) (set gone left : ℕ) (places : List ℕ) → length sets ≤ gone → Leads sets set gone left places →
    reverse places ≡ places_of sets set
leads_all sets set gone left places past leads =
    let none : length sets - gone ≡ zero = omega (arith, past) in
    sym (ap (λ (n : ℕ). places_within n sets left ++ reverse places) none) ∙ leads

pub leads_more : (sets : List (ℕ × ℕ)) (set gone left : ℕ) (places : List ℕ) (next : ℕ × ℕ) → gone < length sets → 1 ≤ left →
    slice_index_or sets (left - 1) (0, 0) ≡ next → Leads sets set gone left places → Leads sets set (gone + 1) next.0 (places ++ next.1 ∷ [])
leads_more sets set gone left places next more some is leads =
    let fuel : length sets - gone ≡ suc (length sets - (gone + 1)) = omega (arith, more) in
    let from : left ≡ suc (left - 1) = omega (arith, some) in
    ap (λ (xs : List ℕ). places_within (length sets - (gone + 1)) sets next.0 ++ xs) (reverse-append places (next.1 ∷ []))
    ∙ behind (places_within (length sets - (gone + 1)) sets next.0)
    ∙ ap (λ (e : ℕ × ℕ). (places_within (length sets - (gone + 1)) sets e.0 ++ e.1 ∷ []) ++ reverse places) (sym is)
    ∙ ap (λ (n : ℕ). places_within n sets (suc (left - 1)) ++ reverse places) (sym fuel)
    ∙ ap (λ (n : ℕ). places_within (length sets - gone) sets n ++ reverse places) (sym from)
    ∙ leads
  where
    behind : (xs : List ℕ) → xs ++ next.1 ∷ reverse places ≡ (xs ++ next.1 ∷ []) ++ reverse places
    behind [] = refl
    behind (x ∷ xs) = ap (λ (ys : List ℕ). x ∷ ys) (behind xs)

-- ---- their numbers

pub read_or : {A : Type 0} (xs : List A) (i : ℕ) (d : A) → unwrap_or (slice_get xs i) d ≡ slice_index_or xs i d
read_or [] i d = refl
read_or (x ∷ xs) zero d = refl
read_or (x ∷ xs) (suc i) d = read_or xs i d

abbrev pub numbers_back : List ℕ → List ℕ → ℕ → List ℕ
numbers_back cases places back = map (λ place. slice_index_or cases place 0) (take back (reverse places))

pub number_more : (cases places numbers : List ℕ) (back d got : ℕ) → back < length places →
    got ≡ unwrap_or (slice_get cases (slice_index_or places (length places - 1 - back) d)) 0 → numbers ≡ numbers_back cases places back →
    numbers ++ got ∷ [] ≡ numbers_back cases places (back + 1)
number_more cases places numbers back d got within is are =
    let long = length-reverse places in
    ap (λ (ks : List ℕ). ks ++ got ∷ []) are
    ∙ ap (λ (k : ℕ). numbers_back cases places back ++ k ∷ [])
    (is ∙ read_or cases (slice_index_or places (length places - 1 - back) d) 0
    ∙ ap (λ (k : ℕ). slice_index_or cases k 0) (sym (get_or-reverse places back d within)))
    ∙ sym (map_more (λ place. slice_index_or cases place 0) (reverse places) back d (omega (arith, within, long)))
