-- Notes that follow one another.
use Rattle.std.proofs.Common.{◌≡◌, ℕ, ◌+◌, ◌<◌, List, [], ◌∷◌, ◌++◌, length, take, get_or, ap, sym, subst, ◌∙◌, arith, append_assoc, append-nil, length-append}
use Rattle.std.specs.List.{concat, flat_map, range_with_len}
use Rattle.std.proofs.lemmas.List.{take_more}
use Rattle.std.proofs.lemmas.List.Concat.{flat_map-append}
use Rattle.std.proofs.lemmas.List.Folds.{concat-append}
use Rattle.vector_names.proofs.Ranges.{range_more}
use Rattle.drawing_omissions.specs.Lines.{Lines, Adds}

pub adds_none : (t : Lines) → Adds t t []
adds_none t = record { bytes = sym (append-nil t.bytes); count = omega arith }

pub adds_both : (first second : List (List ℕ)) (old between new : Lines) → Adds old between first →
    Adds between new second → Adds old new (first ++ second)
adds_both first second old between new a b = record {
  bytes =
      b.bytes ∙ ap (λ (l : List ℕ). l ++ concat second) a.bytes ∙ append_assoc old.bytes (concat first) (concat second)
      ∙ ap (λ (l : List ℕ). old.bytes ++ l) (sym (concat-append first second));
  count = let n = length-append first second in let one = a.count in let two = b.count in omega (arith, n, one, two);
}

-- ---- of one number after the other

pub lines_more : (f : ℕ → List (List ℕ)) (n : ℕ) → flat_map f (range_with_len 0 (n + 1)) ≡ flat_map f (range_with_len 0 n) ++ f n
lines_more f n =
    ap (flat_map f) (range_more 0 n n (omega arith)) ∙ flat_map-append f (range_with_len 0 n) (n ∷ [])
    ∙ ap (λ (l : List (List ℕ)). flat_map f (range_with_len 0 n) ++ l) (append-nil (f n))

pub adds_number : (f : ℕ → List (List ℕ)) (n : ℕ) (old between new : Lines) →
    Adds old between (flat_map f (range_with_len 0 n)) → Adds between new (f n) → Adds old new (flat_map f (range_with_len 0 (n + 1)))
adds_number f n old between new before one =
    subst (Adds old new) (sym (lines_more f n)) (adds_both (flat_map f (range_with_len 0 n)) (f n) old between new before one)

pub adds_numbers : (f : ℕ → List (List ℕ)) (n m : ℕ) (old new : Lines) → n ≡ m →
    Adds old new (flat_map f (range_with_len 0 n)) → Adds old new (flat_map f (range_with_len 0 m))
adds_numbers f n m old new same all = subst (λ k. Adds old new (flat_map f (range_with_len 0 k))) same all

-- ---- of one item of a list after the other

pub adds_item : (f : ℕ → List (List ℕ)) (xs : List ℕ) (k : ℕ) (old between new : Lines) →
    k < length xs →
    Adds old between (flat_map f (take k xs)) → Adds between new (f (get_or xs k 0)) → Adds old new (flat_map f (take (k + 1) xs))
adds_item f xs k old between new below before one =
    subst (Adds old new)
    (ap (λ (l : List (List ℕ)). flat_map f (take k xs) ++ l) (sym (append-nil (f (get_or xs k 0))))
    ∙ sym (flat_map-append f (take k xs) (get_or xs k 0 ∷ [])) ∙ ap (flat_map f) (sym (take_more xs k 0 below)))
    (adds_both (flat_map f (take k xs)) (f (get_or xs k 0)) old between new before one)

pub adds_item_of : {X : Type 0} (f : X → List (List ℕ)) (xs : List X) (k : ℕ) (d : X) (old between new : Lines) →
    k < length xs →
    Adds old between (flat_map f (take k xs)) → Adds between new (f (get_or xs k d)) → Adds old new (flat_map f (take (k + 1) xs))
adds_item_of f xs k d old between new below before one =
    subst (Adds old new)
    (ap (λ (l : List (List ℕ)). flat_map f (take k xs) ++ l) (sym (append-nil (f (get_or xs k d))))
    ∙ sym (flat_map-append f (take k xs) (get_or xs k d ∷ [])) ∙ ap (flat_map f) (sym (take_more xs k d below)))
    (adds_both (flat_map f (take k xs)) (f (get_or xs k d)) old between new before one)
