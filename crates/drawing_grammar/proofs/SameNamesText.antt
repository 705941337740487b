-- The names of a whole canonical text.
use Rattle.std.proofs.Common.{◌≡◌, Bool, true, false, List, [], ◌∷◌, ◌++◌, sym, ap, ◌∙◌, subst, append_assoc}
use Rattle.std.specs.Prelude.{codes}
use Rattle.std.specs.List.{AllByRecursion, flat_map}
use Rattle.std.proofs.lemmas.List.{append-nil}
use Rattle.scald_base.specs.Time.{Header}
use Rattle.drawing_tree.specs.Tree as tree
use Rattle.drawing_tree.specs.WellFormed.{IsFreeWord, IsGoodName}
use Rattle.assertion_syntax.specs.declared.name.SignalName.{SignalName}
use Rattle.drawing_grammar.specs.declared.edition.Edition.{Edition}
use Rattle.drawing_grammar.specs.declared.terminal.Terminal.{Terminal}
use Rattle.drawing_grammar.specs.declared.terminal.Terminal.TheVariants as is
use Rattle.drawing_grammar.specs.Lexeme.{Lexeme, terminal, symbol_terminal, word_terminal}
use Rattle.drawing_grammar.specs.Names.{names_at, head_behind, names_from, AreGood}
use Rattle.drawing_grammar.proofs.Cutting.{Bare}
use Rattle.drawing_grammar.proofs.Leaves as leaf
use Rattle.drawing_grammar.proofs.CanonicalTokens.{semicolon, header_tokens, constant_tokens, macro_tokens, body_tokens, case_tokens, drawing_tokens, end_of_text}
use Rattle.drawing_grammar.proofs.Matching.{bare, Are, parts, single, terminal_is}
use Rattle.drawing_grammar.proofs.DrawingParts.{drawing_parts, title_tokens}
use Rattle.drawing_grammar.proofs.PhraseSteps.{bare_symbol}
use Rattle.drawing_grammar.proofs.Drawable.{IsDrawnAssignment}
use Rattle.drawing_grammar.proofs.ProperTrees.{IsMacroOf, AreStatementsOf, IsCaseOf}
use Rattle.drawing_grammar.proofs.SameNames.{AreCalm, calm_names, head_tokens, head, header, constants, title, body, cases, end}

module _ (v : Edition) (h : Header) where
  abbrev Good : SignalName → Type 0
  Good n = IsGoodName h n

  -- The names from these tokens on are good.
  abbrev AreGoodFrom : Bool → List Lexeme → Type 0
  AreGoodFrom b ts = AreGood h (names_from b ts)

  -- over tokens that are in two parts
  over_two : (b : Bool) (ts first second us : List Lexeme) → ts ≡ first ++ second → AreGoodFrom b (first ++ (second ++ us)) → AreGoodFrom b (ts ++ us)
  over_two b ts first second us e good = subst (AreGoodFrom b) (sym (ap (λ (xs : List Lexeme). xs ++ us) e ∙ append_assoc first second us)) good

  calm_over : (b : Bool) (ts us : List Lexeme) (bs : List Bare) → Are ts bs → AreCalm h b bs → AreGoodFrom b us → AreGoodFrom b (ts ++ us)
  calm_over b ts us bs are calm good = calm_names h b ts us (subst (AreCalm h b) (sym are) calm) good

  step : (b : Bool) (t : Lexeme) (us : List Lexeme) (l : Terminal) → terminal t ≡ l → AreGood h (names_at b l t ++ names_from (head_behind b l) us) → AreGoodFrom b (t ∷ us)
  unfolding names_from
  step b t us l e good = let F : Terminal → Type 0 = λ x. AreGood h (names_at b x t ++ names_from (head_behind b x) us) in subst F (sym e) good

  macro_over : (m : tree.Macro) → IsMacroOf Good v m → (ts us : List Lexeme) → Are ts (macro_tokens m) → AreGoodFrom false us → AreGoodFrom false (ts ++ us)
  unfolding symbol_terminal word_terminal
  macro_over m p [] us are good = absurd cc
  macro_over m p (t ∷ ts) us are good =
      let begin : bare t ≡ leaf.word (codes "MACRO") = ap first_of are in
      let rest : Are ts ((head_tokens h m ++ semicolon) ++ body_tokens m.body) = ap rest_of are in
      let a = parts ts (head_tokens h m ++ semicolon) (body_tokens m.body) rest in
      let c = parts a.first (head_tokens h m) semicolon a.front in
      let s = single c.second (bare_symbol 59) c.back in
      let is_macro : terminal t ≡ is.Macro = terminal_is t (leaf.word (codes "MACRO")) begin in
      let is_stop : terminal s.token ≡ is.Semicolon = terminal_is s.token (bare_symbol 59) s.is in
      let behind : AreGoodFrom false (a.second ++ us) = calm_over false a.second us (body_tokens m.body) a.back (body h v m.body p.body) good in
      let stop : AreGoodFrom true (s.token ∷ (a.second ++ us)) = step true s.token (a.second ++ us) is.Semicolon is_stop behind in
      let inside : AreGoodFrom true (c.first ++ (s.token ∷ (a.second ++ us))) = calm_over true c.first (s.token ∷ (a.second ++ us)) (head_tokens h m) c.front (head h v m p) stop in
      let joined : AreGoodFrom true (a.first ++ (a.second ++ us)) =
      subst (AreGoodFrom true)
      (sym (ap (λ (xs : List Lexeme). xs ++ (a.second ++ us)) (c.whole ∙ ap (λ (xs : List Lexeme). c.first ++ xs) s.whole)
      ∙ append_assoc c.first (s.token ∷ []) (a.second ++ us))) inside in
      step false t (ts ++ us) is.Macro is_macro (over_two true ts a.first a.second us a.whole joined)
    where
      first_of : List Bare → Bare
      first_of [] = leaf.word []
      first_of (x ∷ xs) = x

      rest_of : List Bare → List Bare
      rest_of [] = []
      rest_of (x ∷ xs) = xs

  macros_over : (ms : List tree.Macro) → AllByRecursion (IsMacroOf Good v) ms → (ts us : List Lexeme) → Are ts (flat_map macro_tokens ms) → AreGoodFrom false us → AreGoodFrom false (ts ++ us)
  macros_over [] p [] us are good = good
  macros_over [] p (t ∷ ts) us are good = absurd cc
  macros_over (m ∷ ms) p ts us are good =
      let a = parts ts (macro_tokens m) (flat_map macro_tokens ms) are in
      over_two false ts a.first a.second us a.whole (macro_over m p.0 a.first (a.second ++ us) a.front (macros_over ms p.1 a.second us a.back good))

  pub text_names : (d : tree.Drawing) → IsFreeWord d.name → AllByRecursion IsDrawnAssignment d.consts → AllByRecursion (IsMacroOf Good v) d.macros → AreStatementsOf Good v d.body →
      AllByRecursion (IsCaseOf Good) d.cases → (ts : List Lexeme) → Are ts (drawing_tokens d ++ end_of_text) → AreGood h (names_from false ts)
  unfolding names_from
  text_names d named consts macros inside listed ts are =
      let cut = drawing_parts d ts are in
      let a0 = cut.end in
      let a1 = cut.cases in
      let a2 = cut.body in
      let a3 = cut.title in
      let a4 = cut.macros in
      let a5 = cut.consts in
      let g0 : AreGoodFrom false (a0.second ++ []) = calm_over false a0.second [] end_of_text a0.back (end h) tt in
      let g1 : AreGoodFrom false (a1.second ++ (a0.second ++ [])) = calm_over false a1.second (a0.second ++ []) (flat_map case_tokens d.cases) a1.back (cases h d.cases listed) g0 in
      let g2 : AreGoodFrom false (a2.second ++ (a1.second ++ (a0.second ++ []))) =
      calm_over false a2.second (a1.second ++ (a0.second ++ [])) (body_tokens d.body) a2.back (body h v d.body inside) g1 in
      let g3 : AreGoodFrom false (a3.second ++ (a2.second ++ (a1.second ++ (a0.second ++ [])))) =
      calm_over false a3.second (a2.second ++ (a1.second ++ (a0.second ++ []))) (title_tokens d) a3.back (title h d.name named) g2 in
      let g4 : AreGoodFrom false (a4.second ++ (a3.second ++ (a2.second ++ (a1.second ++ (a0.second ++ []))))) =
      macros_over d.macros macros a4.second (a3.second ++ (a2.second ++ (a1.second ++ (a0.second ++ [])))) a4.back g3 in
      let us = a4.second ++ (a3.second ++ (a2.second ++ (a1.second ++ (a0.second ++ [])))) in
      let g5 : AreGoodFrom false (a5.second ++ us) = calm_over false a5.second us (flat_map constant_tokens d.consts) a5.back (constants h d.consts consts) g4 in
      let g6 : AreGoodFrom false (a5.first ++ (a5.second ++ us)) =
      calm_over false a5.first (a5.second ++ us) (header_tokens d.version d.header) a5.front (header h d.version d.header) g5 in
      let k4 = over_two false a4.first a5.first a5.second us a5.whole g6 in
      let k3 = over_two false a3.first a4.first a4.second (a3.second ++ (a2.second ++ (a1.second ++ (a0.second ++ [])))) a4.whole k4 in
      let k2 = over_two false a2.first a3.first a3.second (a2.second ++ (a1.second ++ (a0.second ++ []))) a3.whole k3 in
      let k1 = over_two false a1.first a2.first a2.second (a1.second ++ (a0.second ++ [])) a2.whole k2 in
      let k0 = over_two false a0.first a1.first a1.second (a0.second ++ []) a1.whole k1 in
      let k = over_two false ts a0.first a0.second [] a0.whole k0 in
      subst (AreGoodFrom false) (append-nil ts) k
