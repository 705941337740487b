-- Texts of items between brackets, one item after another.
use Rattle.std.proofs.Common.{◌≡◌, ℕ, suc, Bool, arith, eqb-true, true, false, ◌==◌, ◌||◌, List, [], ◌∷◌, ◌++◌, length, refl, sym, ap, ◌∙◌, if◌then◌else◌}
use Rattle.std.specs.Prelude.{codes, not}
use Rattle.std.specs.List.{flat_map}
use Rattle.std.proofs.lemmas.List.{append_assoc, append-nil}
use Rattle.drawing_tree.specs.Canonical.{bracketed, bracketed_if_some, inputs_text, outputs_text}

-- what is written of items after others, if there are some
abbrev pub rest_text : {A : Type 0} → Bool → List ℕ → (A → List ℕ) → List A → List ℕ
rest_text true before text items = flat_map (λ x. codes ", " ++ text x) items
rest_text false before text items = bracketed_if_some before [] text items

abbrev pub is_any : {A : Type 0} → List A → Bool
is_any items = not (length items == 0)

suc_some : (n : ℕ) → (suc n == 0) ≡ false
suc_some n = at (suc n == 0) refl
  where
    at : (b : Bool) → (suc n == 0) ≡ b → (suc n == 0) ≡ false
    at false e = e
    at true e = let none = eqb-true (suc n) 0 e in absurd (omega arith)

pub any_some : {A : Type 0} (x : A) (xs : List A) → is_any (x ∷ xs) ≡ true
any_some x xs = rw (suc_some (length xs)) refl

module _ {A : Type 0} (before : List ℕ) (text : A → List ℕ) where
  pub rest_more : (is_some : Bool) (x : A) (xs : List A) (all done : List ℕ) → all ≡ done
      ++ rest_text is_some before text (x ∷ xs) →
      all ≡ ((done ++ (if is_some then codes ", " else before)) ++ text x)
      ++ rest_text true before text xs
  unfolding bracketed bracketed_if_some
  rest_more true x xs all done e = e ∙ simp append_assoc
  rest_more false x xs all done e = e ∙ simp (append_assoc, append-nil)

  pub rest_none : (is_some : Bool) → rest_text is_some before text [] ≡ []
  unfolding bracketed_if_some
  rest_none true = refl
  rest_none false = refl

  -- where nothing is left
  pub rest_end : (is_some : Bool) (xs : List A) (all out : List ℕ) → xs ≡ [] →
      all ≡ out ++ rest_text is_some before text xs → out ≡ all
  rest_end is_some xs all out none e =
      sym (e ∙ ap (λ (t : List ℕ). out ++ t) (ap (λ (ys : List A). rest_text is_some before text ys)
      none ∙ rest_none is_some) ∙ append-nil out)

  pub any_more : (is_some : Bool) (x : A) (xs : List A) → (is_some || is_any (x ∷ xs)) ≡ true
  any_more true x xs = refl
  any_more false x xs = any_some x xs

  -- An item of those that are left is written, or passed over.
  pub text_here : (is_some now : Bool) (x : A) (xs items : List A) (all out middle end : List ℕ) →
      items ≡ x ∷ xs → now ≡ true → all ≡ out ++ rest_text is_some before text items →
      middle ≡ out ++ (if is_some then codes ", " else before) → end ≡ middle ++ text x →
      all ≡ end ++ rest_text now before text xs
  text_here is_some now x xs items all out middle end here shown e m n =
      let more = rest_more is_some x xs all out
      (e ∙ ap (λ (ys : List A). out ++ rest_text is_some before text ys) here) in
      rw (shown, n, m) more

  pub text_past : (is_some now : Bool) (xs items : List A) (all out end : List ℕ) →
      items ≡ xs → now ≡ is_some → end ≡ out → all ≡ out ++ rest_text is_some before text items →
      all ≡ end ++ rest_text now before text xs
  text_past is_some now xs items all out end here same n e =
      rw (same, n) (e ∙ ap (λ (ys : List A). out ++ rest_text is_some before text ys) here)

  pub some_here : (is_some now any : Bool) (x : A) (xs items : List A) → items ≡ x ∷ xs →
      now ≡ true →
      any ≡ (is_some || is_any items) → any ≡ (now || is_any xs)
  some_here is_some now any x xs items here shown e =
      rw shown (e ∙ ap (λ (ys : List A). is_some || is_any ys) here ∙ any_more is_some x xs)

  pub some_past : (is_some now any : Bool) (xs items : List A) → items ≡ xs → now ≡ is_some →
      any ≡ (is_some || is_any items) → any ≡ (now || is_any xs)
  some_past is_some now any xs items here same e =
      rw same (e ∙ ap (λ (ys : List A). is_some || is_any ys) here)

  pub some_end : (is_some any : Bool) (items : List A) → items ≡ [] →
      any ≡ (is_some || is_any items) →
      is_some ≡ any
  some_end is_some any items none e = sym (e ∙ ap (λ (ys : List A). is_some || is_any ys) none
      ∙ no_more is_some)
    where
      no_more : (b : Bool) → (b || false) ≡ b
      no_more true = refl
      no_more false = refl

module _ {A : Type 0} (text : A → List ℕ) where
  pub in_parentheses : (items : List A) → codes " (" ++ bracketed_if_some [] [] text items
      ++ codes ")" ≡ inputs_text text items
  unfolding bracketed bracketed_if_some
  in_parentheses [] = refl
  in_parentheses (x ∷ xs) = simp (append_assoc, append-nil)

  pub behind_arrow : (items : List A) → bracketed_if_some (codes " -> (") [] text items
      ++ (if is_any items then codes ")" else []) ≡ outputs_text text items
  unfolding bracketed bracketed_if_some
  behind_arrow [] = refl
  behind_arrow (x ∷ xs) = simp (any_some, append_assoc, append-nil)

  -- after other text
  pub parentheses_after : (items : List A) (out opened listed end : List ℕ) → opened ≡ out
      ++ codes " (" →
      listed ≡ opened ++ bracketed_if_some [] [] text items → end ≡ listed ++ codes ")" →
      end ≡ out ++ inputs_text text items
  parentheses_after items out opened listed end o l e =
      let inside = bracketed_if_some [] [] text items in
      e ∙ ap (λ (t : List ℕ). t ++ codes ")") (l ∙ ap (λ (t : List ℕ). t ++ inside) o
      ∙ append_assoc out (codes " (") inside)
      ∙ append_assoc out (codes " (" ++ inside) (codes ")")
      ∙ ap (λ (t : List ℕ). out ++ t) (in_parentheses items)

  pub arrow_after : (items : List A) (some : Bool) (out listed end : List ℕ) → some ≡ is_any items →
      listed ≡ out ++ bracketed_if_some (codes " -> (") [] text items → end ≡ listed
      ++ (if some then codes ")" else []) →
      end ≡ out ++ outputs_text text items
  arrow_after items some out listed end s l e =
      let inside = bracketed_if_some (codes " -> (") [] text items in
      e ∙ ap (λ (t : List ℕ). t ++ (if some then codes ")" else [])) l
      ∙ ap (λ (b : Bool). (out ++ inside) ++ (if b then codes ")" else [])) s
      ∙ append_assoc out inside (if is_any items then codes ")" else [])
      ∙ ap (λ (t : List ℕ). out ++ t) (behind_arrow items)
