-- The notes on cases, by the first that has the entries of each.
use Rattle.std.proofs.Common.{◌≡◌, ℕ, zero, suc, ◌+◌, ◌<◌, List, ◌++◌, length, refl, sym, ap, subst, ◌∙◌, arith, Bool, None, Option}
use Rattle.std.specs.List.{flat_map, range_with_len}
use Rattle.std.proofs.lemmas.List.FromFn.{get_or-map-range_with_len, length-range_with_len}
use Rattle.std.proofs.lemmas.List.{length-map}
use Rattle.flat_circuit.specs.declared.case.CaseValue.{CaseValue}
use Rattle.drawing_omissions.specs.Same.{first_same, firsts_same}
use Rattle.drawing_omissions.specs.Open.{is_open}
use Rattle.drawing_omissions.specs.Lines.{Adds, Lines}
use Rattle.drawing_omissions.specs.CaseNotes.{case_notes, open_if, same_at, same_in, same_to, sames}
use Rattle.drawing_omissions.proofs.Adding.{adds_both, lines_more}

-- notes that are the same at the first numbers
same_lines : (f g : ℕ → List (List ℕ)) (n : ℕ) → ((k : ℕ) → k < n → f k ≡ g k) → flat_map f (range_with_len 0 n) ≡ flat_map g (range_with_len 0 n)
same_lines f g zero same = refl
same_lines f g (suc n) same =
    let one : suc n ≡ n + 1 = omega arith in
    ap (λ m. flat_map f (range_with_len 0 m)) one ∙ lines_more f n
    ∙ ap (λ (l : List (List ℕ)). l ++ f n) (same_lines f g n (λ k below. same k (omega (arith, below))))
    ∙ ap (λ (l : List (List ℕ)). flat_map g (range_with_len 0 n) ++ l) (same n (omega arith))
    ∙ sym (lines_more g n) ∙ ap (λ m. flat_map g (range_with_len 0 m)) (sym one)

sames_are : (cases : List (List CaseValue)) → sames (firsts_same cases) ≡ flat_map (same_at cases) (range_with_len 0 (length cases))
sames_are cases =
    let n = length cases in
    let long : length (firsts_same cases) ≡ n = length-map (range_with_len 0 n) (first_same cases) ∙ length-range_with_len 0 n in
    ap (λ m. flat_map (same_in (firsts_same cases)) (range_with_len 0 m)) long
    ∙ same_lines (same_in (firsts_same cases)) (same_at cases) n
    (λ k below. ap (same_to k) (get_or-map-range_with_len (first_same cases) 0 n k k None below (omega arith)))

-- all notes on cases
pub cases_added : (cases : List (List CaseValue)) (firsts : List (Option ℕ)) (is_so : Bool) (old between new : Lines) → firsts ≡ firsts_same cases → is_so ≡ is_open cases →
    Adds old between (sames firsts) → Adds between new (open_if is_so) → Adds old new (case_notes cases)
cases_added cases firsts is_so old between new are is one two =
    adds_both _ _ old between new
    (subst (Adds old between) (ap sames are ∙ sames_are cases) one)
    (subst (λ b. Adds between new (open_if b)) is two)
