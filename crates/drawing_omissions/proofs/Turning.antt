-- FOR, value by value: what the values that are left spread comes after what was found.
use Rattle.std.proofs.Common.{◌≡◌, ℕ, zero, suc, ◌-◌, ◌<◌, true, false, List, [], ◌∷◌, ◌++◌, ℤ, pos, negsuc, ◌+ℤ◌, ◌-ℤ◌, ◌<ℤ◌, Ok, Err, refl, ap, sym, ◌∙◌, arith}
use Rattle.std.specs.Prelude.{◌≤ℤ◌}
use Rattle.std.proofs.lemmas.Int.{ints}
use borrow.Author.Differences.{up, down}
use Rattle.std.specs.List.{flat_map}
use Rattle.std.proofs.lemmas.List.{append-nil, append_assoc}
use Rattle.std.proofs.lemmas.List.Concat.{flat_map-cons}
use Rattle.scald_base.specs.declared.refusal.Refusal.{Refusal}
use Rattle.scald_base.specs.declared.refusal.Stop.TheVariants.{Refused}
use Rattle.drawing_tree.specs.Expression.{expression_of}
use Rattle.drawing_tree.specs.declared.statement.ForStmt.{ForStmt}
use Rattle.drawing_tree.specs.Tree.{Statement, for_of, statements_of}
use Rattle.drawing_tree.proofs.Views.{view_for}
use Rattle.macro_expander.specs.declared.library.Library.{Library}
use Rattle.macro_expander.specs.declared.scope.Scope as numbered_scope
use Rattle.macro_expander.specs.Outcome.{Judged}
use Rattle.macro_expander.specs.Loops.{count_of, in_turn, loop_ends, upwards, values_between}
use Rattle.macro_expander.specs.Library.{setting_in}
use Rattle.macro_expander.specs.Statements.{AreEnds, turned_scope}
use Rattle.macro_expander.proofs.Turns.{values_more, values_none, values_one}
use Rattle.drawing_omissions.specs.declared.spread.Finding.{Finding}
use Rattle.drawing_omissions.specs.declared.spread.Finding.TheVariants.{Loop}
use Rattle.drawing_omissions.specs.Spreads.{in_statements, in_turns, is_some_turn, spreading_at}
use Rattle.drawing_omissions.specs.Walk.{in_all, in_one, seen}

count_is : (z : ℤ) → count_of z ≡ up z - down z
count_is (pos n) = omega arith
count_is (negsuc n) = omega arith

some_of : (first : ℤ) (n : ℕ) → 0 < n → is_some_turn (upwards first n) ≡ true
some_of first zero h = absurd (omega arith)
some_of first (suc n) h = refl

some_turn : (first last : ℤ) → first ≤ℤ last → is_some_turn (values_between first last) ≡ true
some_turn first last h = some_of first (count_of ((last +ℤ pos 1) -ℤ first)) (omega (arith, ints, count_is))

module _ (l : Library) (levels : ℕ) (loop : ForStmt) (scope : numbered_scope.Scope) where
  abbrev pub turn : ℤ → List Finding
  turn v = in_statements (setting_in l) (spreading_at (setting_in l) levels)
      (statements_of loop.body.items) (in_turn loop.var v (seen scope))

  -- from one value to another
  abbrev pub turns : ℤ → ℤ → List Finding
  turns first last = flat_map turn (values_between first last)

  -- the FOR itself, where it has a turn
  abbrev pub turn_of : Finding
  turn_of = Loop (record { place = loop.place; has_turn = true })

  abbrev whole : List Finding
  whole = in_one l levels (for_of loop) scope

  abbrev ends : Judged (ℤ × ℤ)
  ends = loop_ends scope.env (expression_of loop.first) (expression_of loop.last)

  for_is : whole ≡ in_turns loop.var loop.place (in_statements (setting_in l) (spreading_at (setting_in l) levels)
      (statements_of loop.body.items)) ends (seen scope)
  for_is = ap (λ (s : Statement). in_one l levels s scope) (view_for loop)

  pub for_refused : (r : Refusal) → AreEnds scope.env loop (Err (Refused r)) → whole ≡ []
  for_refused r h = for_is ∙ rw (h.agrees r refl) refl

  module _ (first last : ℤ) (are : ends ≡ Ok (first, last)) where
    pub for_none : last <ℤ first → whole ≡ Loop (record { place = loop.place; has_turn = false }) ∷ []
    for_none h = for_is ∙ rw (are, values_none first last h) refl

    for_turns : first ≤ℤ last → whole ≡ turn_of ∷ turns first last
    for_turns h = for_is ∙ rw (are, some_turn first last h) refl

    -- once the FOR itself is found
    pub begun : first ≤ℤ last → (found new : List Finding) → new ≡ found ++ turn_of ∷ [] → new ++ turns first last ≡ found ++ whole
    begun h found new more =
        ap (λ (s : List Finding). s ++ turns first last) more ∙ append_assoc found (turn_of ∷ []) (turns first last)
        ∙ ap (λ (s : List Finding). found ++ s) (sym (for_turns h))

  -- ---- value by value

  module _ (v last : ℤ) (inner : numbered_scope.Scope) (is : inner ≡ turned_scope loop.var v scope)
      (found new want : List Finding) (so_far : found ++ turns v last ≡ want)
      (more : new ≡ found ++ in_all l levels (statements_of loop.body.items) inner) where
    turned : new ≡ found ++ turn v
    turned = more ∙ rw is refl

    pub turns_more : v <ℤ last → new ++ turns (v +ℤ pos 1) last ≡ want
    turns_more h =
        ap (λ (s : List Finding). s ++ turns (v +ℤ pos 1) last) turned
        ∙ append_assoc found (turn v) (turns (v +ℤ pos 1) last)
        ∙ ap (λ (s : List Finding). found ++ s) (sym (flat_map-cons turn v (values_between (v +ℤ pos 1) last)))
        ∙ ap (λ (vs : List ℤ). found ++ flat_map turn vs) (sym (values_more v last h))
        ∙ so_far

    pub turns_done : v ≡ last → new ≡ want
    turns_done same =
        let one : values_between v last ≡ v ∷ [] = rw same (values_one last) in
        turned
        ∙ ap (λ (s : List Finding). found ++ s) (sym (append-nil (turn v)))
        ∙ ap (λ (s : List Finding). found ++ s) (sym (flat_map-cons turn v []))
        ∙ ap (λ (vs : List ℤ). found ++ flat_map turn vs) (sym one)
        ∙ so_far
