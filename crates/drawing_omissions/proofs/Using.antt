-- One use: of a primitive, or of a macro with its body.
use Rattle.std.proofs.Common.{◌≡◌, ◌≢◌, ℕ, suc, zero, ◌-◌, List, [], ◌++◌, Option, Some, None, Ok, Err, refl, ap, sym, ◌∙◌, arith}
use Rattle.std.specs.List.{All, flat_map, zip}
use Rattle.std.specs.Result.{result_ok}
use Rattle.std.proofs.lemmas.List.{append-nil, append_assoc}
use Rattle.element_kinds.specs.declared.kind.Kind.{Kind}
use Rattle.element_kinds.specs.Kinds.{kind_of}
use Rattle.drawing_tree.specs.Tree.{Use, UseStatement, Macro}
use Rattle.macro_expander.specs.declared.formal.Inside.{Inside}
use Rattle.macro_expander.specs.declared.library.Library.{Library}
use Rattle.macro_expander.specs.declared.scope.Scope as numbered_scope
use Rattle.macro_expander.specs.Outcome.{Judged, judging}
use Rattle.macro_expander.specs.Macros.{given_to, inside_of, macro_of as first_called}
use Rattle.macro_expander.specs.Library.{macros_in, setting_in}
use Rattle.macro_expander.specs.Numbered.{IsRange}
use Rattle.macro_expander.proofs.Ranges.{shapes_are}
use Rattle.drawing_omissions.specs.declared.spread.Finding.{Finding}
use Rattle.drawing_omissions.specs.Spreads.{body_scope, in_formal, in_macro, in_macro_with, in_use_of, inside_at, spreading_at}
use Rattle.drawing_omissions.specs.Walk.{in_all, in_one, seen}

-- both steps of a judgement that has a value have one
both_give : {A B : Type 0} (j : Judged A) (next : A → Judged B) (b : B) → judging j next ≡ Ok b →
    (a : A) × (j ≡ Ok a) × (next a ≡ Ok b)
both_give (Ok a) next b e = (a, refl, e)
both_give (Err kind) next b e = absurd (cc)

module _ (l : Library) (levels : ℕ) (u : UseStatement) (scope : numbered_scope.Scope) where
  abbrev whole : List Finding
  whole = in_one l levels (Use u) scope

  abbrev by_kind : Option Kind → List Finding
  by_kind k = in_use_of k (setting_in l) (spreading_at (setting_in l) levels) u (seen scope)

  abbrev by_macro : Option Macro → List Finding
  by_macro m = in_macro (setting_in l) (spreading_at (setting_in l) levels) m u (seen scope)

  module _ (m : Option Macro) (unknown : let none : Option Kind = None in none ≡ kind_of u.kind)
      (first : m ≡ first_called u.kind (macros_in l)) where
    pub of_macro : whole ≡ by_macro m
    of_macro = ap by_kind (sym unknown) ∙ ap by_macro (sym first)

  -- what its body is expanded with
  module _ (m : Macro) where
    abbrev the_inside : Judged Inside
    the_inside = inside_at l.consts m (seen scope) u

    abbrev with_inside : Judged Inside → List Finding
    with_inside j = in_macro_with (spreading_at (setting_in l) levels) m (seen scope) u j

    pub refused_use : let none : Option Inside = None in none ≡ result_ok the_inside → by_macro (Some m) ≡ []
    refused_use h = by the_inside h where
      by : (j : Judged Inside) → let none : Option Inside = None in none ≡ result_ok j → with_inside j ≡ []
      by (Ok inside) h = absurd (cc)
      by (Err kind) h = refl

    module _ (inside : Inside) (is : Some inside ≡ result_ok the_inside) where
      is_ok : the_inside ≡ Ok inside
      is_ok = by the_inside is where
        by : (j : Judged Inside) → Some inside ≡ result_ok j → j ≡ Ok inside
        by (Ok i) h = let same : i ≡ inside = cc in rw same refl
        by (Err kind) h = absurd (cc)

      pub ranges : All IsRange inside.ins × All IsRange inside.outs
      ranges =
          let given = both_give (given_to m scope.env u) (inside_of l.consts m) inside is_ok in
          shapes_are l.consts m given.0 inside given.2

      abbrev over_formals : List Finding
      over_formals = flat_map (in_formal (seen scope)) (zip inside.ins u.ins)

      pub no_body : levels ≡ 0 → by_macro (Some m) ≡ over_formals
      unfolding spreading_at
      no_body h = ap with_inside is_ok ∙ rw h (append-nil over_formals)

      pub with_body : levels ≢ 0 → (inner : numbered_scope.Scope) → seen inner ≡ body_scope (seen scope) u.label inside →
          by_macro (Some m) ≡ over_formals ++ in_all l (levels - 1) m.body inner
      unfolding spreading_at
      with_body deep inner same = ap with_inside is_ok ∙ by levels deep where
        by : (n : ℕ) → n ≢ 0 →
            in_macro_with (spreading_at (setting_in l) n) m (seen scope) u (Ok inside) ≡ over_formals ++ in_all l (n - 1) m.body inner
        by zero h = absurd (h refl)
        by (suc n) h = let e : suc n - 1 ≡ n = omega arith in rw (e, same) refl

      -- what is found over the formals, and then in the body
      pub used_macro : whole ≡ by_macro (Some m) → levels ≢ 0 → (inner : numbered_scope.Scope) →
          seen inner ≡ body_scope (seen scope) u.label inside → (found over new : List Finding) → over ≡ found ++ over_formals →
          new ≡ over ++ in_all l (levels - 1) m.body inner → new ≡ found ++ whole
      used_macro is_macro deep inner same found over new first second =
          second ∙ ap (λ (s : List Finding). s ++ in_all l (levels - 1) m.body inner) first
          ∙ append_assoc found over_formals (in_all l (levels - 1) m.body inner)
          ∙ ap (λ (s : List Finding). found ++ s) (sym (is_macro ∙ with_body deep inner same))
