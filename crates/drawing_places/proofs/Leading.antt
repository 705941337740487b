-- The uses that a scope is in, label by label.
use Rattle.std.proofs.Common.{◌≡◌, ℕ, List, [], ◌∷◌, ◌++◌, map, refl, sym, ap, ◌∙◌, Option, Some, None}
use Rattle.std.proofs.lemmas.List.{append-nil, append_assoc}
use Rattle.drawing_tree.specs.declared.statement.UseStmt.{UseStmt}
use Rattle.drawing_tree.specs.Tree.{Drawing, Statements, UseStatement, use_of}
use Rattle.drawing_places.specs.Path.{labels_of}
use Rattle.drawing_places.specs.Uses.{body_after, body_of, scope_body, use_in, use_then, uses_from, uses_through}
use denote.Ref.{Bor}

-- uses as the code has them
abbrev pub seen : List (Bor UseStmt) → List UseStatement
seen uses = map (λ (u : Bor UseStmt). use_of u.now) uses

-- So many uses lead to this body, and the labels that are left lead on from there.
pub record Leads (d : Drawing) (scope : List ℕ) (uses : List (Bor UseStmt)) (body : Statements) (rest : List ℕ) : Type 0 where
  pub on : uses_through d scope ≡ seen uses ++ uses_from d.macros body (labels_of rest)
  pub there : body ≡ body_after d.macros d.body (seen uses)

module _ (d : Drawing) (scope : List ℕ) where
  pub leads_first : Leads d scope [] d.body scope
  leads_first = record { on = refl; there = refl }

  body_more : (body : Statements) (us : List UseStatement) (u : UseStatement) →
      body_after d.macros body (us ++ u ∷ []) ≡ body_of d.macros u
  body_more body [] u = refl
  body_more body (v ∷ us) u = body_more (body_of d.macros v) us u

  seen_more : (uses : List (Bor UseStmt)) (u : Bor UseStmt) → seen (uses ++ u ∷ []) ≡ seen uses ++ use_of u.now ∷ []
  seen_more [] u = refl
  seen_more (v ∷ uses) u = ap (λ (us : List UseStatement). use_of v.now ∷ us) (seen_more uses u)

  pub leads_on : (uses : List (Bor UseStmt)) (body next : Statements) (rest label more : List ℕ) (u : Bor UseStmt) →
      labels_of rest ≡ label ∷ labels_of more → use_in body label ≡ Some (use_of u.now) → next ≡ body_of d.macros (use_of u.now) →
      Leads d scope uses body rest → Leads d scope (uses ++ u ∷ []) next more
  leads_on uses body next rest label more u split is there leads = record {
    on =
        leads.on
        ∙ ap (λ (ls : List (List ℕ)). seen uses ++ uses_from d.macros body ls) split
        ∙ ap (λ (o : Option UseStatement). seen uses ++ use_then d.macros (λ inner. uses_from d.macros inner (labels_of more)) o) is
        ∙ ap (λ (b : Statements). seen uses ++ use_of u.now ∷ uses_from d.macros b (labels_of more)) (sym there)
        ∙ sym (append_assoc (seen uses) (use_of u.now ∷ []) (uses_from d.macros next (labels_of more)))
        ∙ ap (λ (us : List UseStatement). us ++ uses_from d.macros next (labels_of more)) (sym (seen_more uses u));
    there = there ∙ sym (body_more d.body (seen uses) (use_of u.now)) ∙ ap (body_after d.macros d.body) (sym (seen_more uses u));
  }

  pub leads_nowhere : (uses : List (Bor UseStmt)) (body : Statements) (rest label more : List ℕ) → labels_of rest ≡ label ∷ labels_of more →
      use_in body label ≡ None → Leads d scope uses body rest → seen uses ≡ uses_through d scope
  leads_nowhere uses body rest label more split is leads =
      sym (leads.on
      ∙ ap (λ (ls : List (List ℕ)). seen uses ++ uses_from d.macros body ls) split
      ∙ ap (λ (o : Option UseStatement). seen uses ++ use_then d.macros (λ inner. uses_from d.macros inner (labels_of more)) o) is
      ∙ append-nil (seen uses))

  pub leads_end : (uses : List (Bor UseStmt)) (body : Statements) (rest : List ℕ) → labels_of rest ≡ [] → Leads d scope uses body rest →
      seen uses ≡ uses_through d scope
  leads_end uses body rest none leads =
      sym (leads.on ∙ ap (λ (ls : List (List ℕ)). seen uses ++ uses_from d.macros body ls) none ∙ append-nil (seen uses))

  pub leads_to : (uses : List (Bor UseStmt)) (body : Statements) (rest : List ℕ) → seen uses ≡ uses_through d scope → Leads d scope uses body rest →
      body ≡ scope_body d scope
  leads_to uses body rest all leads = leads.there ∙ ap (body_after d.macros d.body) all
