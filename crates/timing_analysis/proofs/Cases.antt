-- The cases of a drawing one after the other: those so far have settled, or one is the first that never settles.
use Rattle.std.proofs.Common.{◌≡◌, ℕ, suc, ◌+◌, ◌<◌, List, [], ◌∷◌, ◌++◌, length, take, drop, refl, sym, ap, ◌∙◌, arith}
use Rattle.std.proofs.lemmas.List.{map_push, take-append-drop, drop_more, length-take-le}
use Rattle.std.proofs.lemmas.List.Elements.{All-nil, All-push}
use Rattle.flat_circuit.specs.declared.case.CaseValue.{CaseValue}
use Rattle.flat_circuit.specs.Circuit.{Circuit}
use Rattle.case_analysis.specs.Case.{case_at}
use Rattle.timing_analysis.specs.Case.{Listed, Case, IsSettled, AreSettled, NeverSettles, StopsAt, numbered}

-- ---- numbers of cases

numbered_split : (from : ℕ) (xs : List (List CaseValue)) (v : List CaseValue) (ys : List (List CaseValue)) →
    numbered from (xs ++ v ∷ ys) ≡
    numbered from xs ++ record { number = from + length xs; values = v } ∷ numbered (from + length xs + 1) ys
numbered_split from [] v ys =
    let same : from ≡ from + 0 = omega arith in
    ap (λ (n : ℕ). let l : Listed = record { number = n; values = v } in l ∷ numbered (n + 1) ys) same
numbered_split from (x ∷ xs) v ys =
    let same : from + 1 + length xs ≡ from + suc (length xs) = omega arith in
    let first : Listed = record { number = from; values = x } in
    ap (λ (ls : List Listed). first ∷ ls)
    (numbered_split (from + 1) xs v ys
    ∙ ap (λ (n : ℕ). let l : Listed = record { number = n; values = v } in
    numbered (from + 1) xs ++ l ∷ numbered (n + 1) ys) same)

module _ (cases : List (List CaseValue)) (k : ℕ) (inside : k < length cases) where
  -- the case at a place has a number one greater than those before it are
  pub numbered_here : (ys : List (List CaseValue)) →
      numbered 1 (take k cases ++ case_at cases k ∷ ys) ≡
      numbered 1 (take k cases) ++ record { number = k + 1; values = case_at cases k } ∷ numbered (k + 1 + 1) ys
  numbered_here ys =
      let long : length (take k cases) ≡ k = length-take-le k cases (omega (arith, inside)) in
      let same : 1 + length (take k cases) ≡ k + 1 = omega (arith, long) in
      numbered_split 1 (take k cases) (case_at cases k) ys
      ∙ ap (λ (n : ℕ). let l : Listed = record { number = n; values = case_at cases k } in
      numbered 1 (take k cases) ++ l ∷ numbered (n + 1) ys) same

  -- it stands between those before it and those after it
  pub around_here : take k cases ++ case_at cases k ∷ drop (k + 1) cases ≡ cases
  around_here =
      ap (λ (xs : List (List CaseValue)). take k cases ++ xs) (sym (drop_more cases k [] inside))
      ∙ take-append-drop k cases

-- ---- settled cases

module _ (c : Circuit) (limit base : ℕ) where
  pub none_settled : AreSettled c limit base [] []
  none_settled = record { each = refl; settled = All-nil (IsSettled c limit base) }

  pub one_more_settled : (listed : List Listed) (l : Listed) (cases : List Case) (case : Case) →
      AreSettled c limit base listed cases → case.listed ≡ l → IsSettled c limit base case →
      AreSettled c limit base (listed ++ l ∷ []) (cases ++ case ∷ [])
  one_more_settled listed l cases case are_settled is settles = record {
    each =
        map_push (λ (k : Case). k.listed) cases case
        ∙ ap (λ (ls : List Listed). ls ++ case.listed ∷ []) are_settled.each
        ∙ ap (λ (k : Listed). listed ++ k ∷ []) is;
    settled = All-push (IsSettled c limit base) cases case are_settled.settled settles;
  }

  pub first_that_never_settles : (listed all after : List Listed) (l : Listed) (cases : List Case) (place : ℕ) →
      AreSettled c limit base listed cases → listed ++ l ∷ after ≡ all → NeverSettles c limit base l place →
      StopsAt c limit base all place
  first_that_never_settles listed all after l cases place are_settled order never = record {
    before = cases;
    case = l;
    after = after;
    order = ap (λ (ls : List Listed). ls ++ l ∷ after) are_settled.each ∙ order;
    settled = are_settled.settled;
    never = never;
  }
