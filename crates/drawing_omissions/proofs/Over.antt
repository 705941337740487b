-- The formals of a macro with the connections of a use, one after another.
use Rattle.std.proofs.Common.{◌≡◌, ℕ, ◌+◌, ◌<◌, ◌≤◌, List, [], ◌∷◌, ◌++◌, length, drop, get_or, map, refl, ap, sym, ◌∙◌, arith, inl, inr}
use Rattle.std.specs.Prelude.{min}
use Rattle.std.specs.List.{flat_map, zip}
use Rattle.std.proofs.lemmas.Bool.{cases_lt}
use Rattle.std.proofs.lemmas.List.{append-nil, append_assoc, drop_all, drop_more}
use Rattle.std.proofs.lemmas.List.Concat.{flat_map-cons}
use Rattle.drawing_tree.specs.declared.connection.Conn.{Conn}
use Rattle.drawing_tree.specs.Tree.{Connection, connection_of}
use Rattle.macro_expander.specs.declared.formal.Shape.{Shape}
use Rattle.macro_expander.specs.Terms.{Scope}
use Rattle.drawing_omissions.specs.declared.spread.Finding.{Finding}
use Rattle.drawing_omissions.specs.Spreads.{in_formal, spread_over}

zip_none : (shapes : List Shape) → zip shapes (map connection_of []) ≡ []
zip_none [] = refl
zip_none (x ∷ xs) = refl

module _ (scope : Scope) (shapes : List Shape) (ins : List Conn) where
  abbrev pairs : ℕ → List (Shape × Connection)
  pairs i = zip (drop i shapes) (map connection_of (drop i ins))

  -- what is spread from a place on
  abbrev pub from : ℕ → List Finding
  from i = flat_map (in_formal scope) (pairs i)

  module _ (i : ℕ) (found want : List Finding) (so_far : found ++ from i ≡ want) where
    pub over_more : (x : Shape) (y : Conn) (n : ℕ) (new : List Finding) → i < length shapes → i < length ins →
        ((d : Shape) → x ≡ get_or shapes i d) → ((d : Conn) → y ≡ get_or ins i d) → n ≡ length x.numbers →
        new ≡ found ++ spread_over scope n (connection_of y) → new ++ from (i + 1) ≡ want
    over_more x y n new h k e f wide more =
        let split : pairs i ≡ (x, connection_of y) ∷ pairs (i + 1) =
        rw (drop_more shapes i x h, drop_more ins i y k, sym (e x), sym (f y)) refl in
        let here : List Finding = in_formal scope (x, connection_of y) in
        ap (λ (s : List Finding). s ++ from (i + 1))
        (more ∙ ap (λ m. found ++ spread_over scope m (connection_of y)) wide)
        ∙ append_assoc found here (from (i + 1))
        ∙ ap (λ (s : List Finding). found ++ s)
        (sym (ap (flat_map (in_formal scope)) split ∙ flat_map-cons (in_formal scope) (x, connection_of y) (pairs (i + 1))))
        ∙ so_far

    pub over_all : i ≡ min (length shapes) (length ins) → found ≡ want
    over_all e = sym (append-nil found) ∙ ap (λ ps. found ++ flat_map (in_formal scope) ps) (sym done) ∙ so_far
      where
        done : pairs i ≡ []
        done = elim (cases_lt (length shapes) (length ins)) as (λ _. pairs i ≡ []) [
          | inl h ↦ let all : length shapes ≤ i = omega arith in rw (drop_all i shapes all) refl
          | inr h ↦ let all : length ins ≤ i = omega arith in rw (drop_all i ins all) (zip_none (drop i shapes))
        ]
