-- Clauses of facts by numbers: numbers that are refuted are facts that are, and facts that come in at
-- the end leave the clauses before them as they are.
use Rattle.std.specs.Prelude.{◌||◌, ◌&&◌}
use Rattle.std.proofs.Common.{◌≡◌, ℕ, ◌<◌, ◌≤◌, Bool, List, [], ◌∷◌, ◌++◌, length, append_assoc, length-append, refl, sym, ap, ◌∙◌, arith, Some, slice_get}
use Rattle.std.specs.List.{All, AllByRecursion}
use Rattle.std.proofs.lemmas.List.{append-nil, get_or_append_left, map-append}
use Rattle.std.proofs.lemmas.List.Elements.{All-push, All-weaker, recursion_from_All}
use Rattle.std.proofs.lemmas.Option.{get_or_from_slice_get, slice_get_within}
use Rattle.clause_check.specs.declared.literal.Literal.{Literal}
use Rattle.clause_check.specs.Clauses as numbered
use Rattle.run_clauses.specs.declared.fact.Fact.{Fact}
use Rattle.run_clauses.specs.declared.fact.Fact.TheVariants.{Lasts}
use Rattle.run_clauses.specs.declared.fact.Said.{Said}
use Rattle.run_clauses.specs.Clauses.{AreRefuted, all_hold, clause_holds, said_holds}
use Rattle.run_clauses.specs.Forms.{said}
use Rattle.run_clauses.specs.Formula.{Begins, SpeakWithin, Speaks, clause_by, clauses_by, fact_at, said_by}

-- ---- refuted numbers are refuted facts

module _ (facts : List Fact) (bits : Fact → Bool) where
  abbrev bit_at : ℕ → Bool
  bit_at n = bits (fact_at facts n)

  same_clause : (clause : List Literal) →
      clause_holds bits (clause_by facts clause) ≡ numbered.clause_holds bit_at clause
  same_clause [] = refl
  same_clause (l ∷ ls) =
      ap (λ (b : Bool). said_holds bits (said_by facts l) || b) (same_clause ls)

  same_clauses : (clauses : List (List Literal)) →
      all_hold bits (clauses_by facts clauses) ≡ numbered.all_hold bit_at clauses
  same_clauses [] = refl
  same_clauses (clause ∷ clauses) =
      ap (λ (b : Bool). b && all_hold bits (clauses_by facts clauses)) (same_clause clause)
      ∙ ap (λ (b : Bool). numbered.clause_holds bit_at clause && b) (same_clauses clauses)

pub refuted_said : (facts : List Fact) (clauses : List (List Literal)) → numbered.Refuted clauses →
    AreRefuted (clauses_by facts clauses)
refuted_said facts clauses refuted bits =
    same_clauses facts bits clauses ∙ refuted (bit_at facts bits)

-- ---- facts that come in

pub begins_same : (facts : List Fact) → Begins facts facts
begins_same facts = record { rest = []; is = sym (append-nil facts) }

pub begins_push : (facts : List Fact) (fact : Fact) → Begins facts (facts ++ fact ∷ [])
begins_push facts fact = record { rest = fact ∷ []; is = refl }

pub begins_both : (old between new : List Fact) → Begins old between → Begins between new →
    Begins old new
begins_both old between new one two = record {
  rest = one.rest ++ two.rest;
  is = two.is ∙ ap (λ (facts : List Fact). facts ++ two.rest) one.is
      ∙ append_assoc old one.rest two.rest;
}

-- the fact at the end has the number of those before it
pub pushed_fact : (facts : List Fact) (fact : Fact) →
    slice_get (facts ++ fact ∷ []) (length facts) ≡ Some fact
pushed_fact [] fact = refl
pushed_fact (f ∷ fs) fact = pushed_fact fs fact

module _ (old new : List Fact) (begins : Begins old new) where
  no_shorter : length old ≤ length new
  no_shorter =
      let more = length-append old begins.rest in
      let same = ap length begins.is in
      omega (arith, more, same)

  speak_more : (clause : List Literal) → All (Speaks old) clause → All (Speaks new) clause
  speak_more clause speak =
      All-weaker (Speaks old) (Speaks new)
      (λ l within. let long = no_shorter in omega (arith, within, long)) clause speak

  pub speak_within : (clauses : List (List Literal)) → SpeakWithin old clauses →
      SpeakWithin new clauses
  speak_within clauses speak =
      All-weaker (All (Speaks old)) (All (Speaks new)) speak_more clauses speak

  same_fact : (n : ℕ) → n < length old → fact_at new n ≡ fact_at old n
  same_fact n within =
      ap (λ (facts : List Fact). fact_at facts n) begins.is
      ∙ get_or_append_left old begins.rest (Lasts 0) n within

  same_said : (clause : List Literal) → AllByRecursion (Speaks old) clause →
      clause_by new clause ≡ clause_by old clause
  same_said [] speak = refl
  same_said (l ∷ ls) speak =
      ap
      (λ (fact : Fact). (let s : Said = record { fact = fact; holds = l.value } in s)
      ∷ clause_by new ls)
      (same_fact l.variable speak.0)
      ∙ ap (λ (rest : List Said). said_by old l ∷ rest) (same_said ls speak.1)

  all_same : (clauses : List (List Literal)) → AllByRecursion (All (Speaks old)) clauses →
      clauses_by new clauses ≡ clauses_by old clauses
  all_same [] speak = refl
  all_same (clause ∷ clauses) speak =
      ap (λ (said : List Said). said ∷ clauses_by new clauses)
      (same_said clause (recursion_from_All (Speaks old) clause speak.0))
      ∙ ap (λ (rest : List (List Said)). clause_by old clause ∷ rest) (all_same clauses speak.1)

  -- a literal more, whose fact may be new
  pub literal_within : (clause : List Literal) (l : Literal) (fact : Fact) →
      All (Speaks old) clause → slice_get new l.variable ≡ Some fact →
      All (Speaks new) (clause ++ l ∷ [])
  literal_within clause l fact speak at =
      All-push (Speaks new) clause l (speak_more clause speak)
      (slice_get_within new l.variable fact at)

  pub literal_said : (clause : List Literal) (l : Literal) (fact : Fact) →
      All (Speaks old) clause → slice_get new l.variable ≡ Some fact →
      clause_by new (clause ++ l ∷ []) ≡ clause_by old clause ++ said fact l.value ∷ []
  literal_said clause l fact speak at =
      map-append (said_by new) clause (l ∷ [])
      ∙ ap (λ (before : List Said). before ++ said_by new l ∷ [])
      (same_said clause (recursion_from_All (Speaks old) clause speak))
      ∙ ap (λ (f : Fact). clause_by old clause ++ said f l.value ∷ [])
      (get_or_from_slice_get new l.variable fact (Lasts 0) at)

  -- a clause more, of which facts may be new
  pub clause_pushed : (clauses : List (List Literal)) (clause : List Literal) →
      SpeakWithin old clauses →
      clauses_by new (clauses ++ clause ∷ []) ≡ clauses_by old clauses ++ clause_by new clause ∷ []
  clause_pushed clauses clause speak =
      map-append (clause_by new) clauses (clause ∷ [])
      ∙ ap (λ (said : List (List Said)). said ++ clause_by new clause ∷ [])
      (all_same clauses (recursion_from_All (All (Speaks old)) clauses speak))

  pub clause_within : (clauses : List (List Literal)) (clause : List Literal) →
      SpeakWithin old clauses → All (Speaks new) clause → SpeakWithin new (clauses ++ clause ∷ [])
  clause_within clauses clause speak here =
      All-push (All (Speaks new)) clauses clause (speak_within clauses speak) here
