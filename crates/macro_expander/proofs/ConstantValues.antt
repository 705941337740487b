-- Constants, one after the other: what those that are left give is what all give.
use Rattle.std.proofs.Common.{◌≡◌, ℕ, ◌+◌, ◌<◌, ◌≤◌, List, [], ◌∷◌, ◌++◌, length, map, drop, get_or, ℤ, Ok, Err, refl, sym, ◌∙◌}
use Rattle.std.proofs.lemmas.List.{drop_more, drop_all}
use Rattle.scald_base.specs.declared.refusal.Place.{Place}
use Rattle.scald_base.specs.declared.refusal.Stop.{Stop}
use Rattle.drawing_tree.specs.declared.environment.Binding.{Binding}
use Rattle.drawing_tree.specs.declared.statement.Assign.{Assign}
use Rattle.drawing_tree.specs.Tree.{Assignment, assignment_of}
use Rattle.macro_expander.specs.Named.{State}
use Rattle.macro_expander.specs.Outcome.{Outcome, Gives, Judged, judging, judged}
use Rattle.macro_expander.specs.Steps.{IsJudgedRefusal}
use Rattle.macro_expander.specs.Terms.{valued}
use Rattle.macro_expander.specs.Primitives.{assigned}
use Rattle.macro_expander.specs.Loops.{binding}
use Rattle.macro_expander.specs.Flat.{const_values}
use Rattle.macro_expander.specs.Numbered.{Failed}
use Rattle.macro_expander.proofs.Gathered.{next_of}

-- a value, and then what it is bound to
bound_first : {A : Type 0} (j : Judged ℤ) (name : List ℕ) (place : Place)
    (next : Binding → Outcome A) →
    judged j place (λ v. next (binding name v))
    ≡ judged (judging j (λ v. Ok (binding name v))) place next
bound_first (Ok v) name place next = refl
bound_first (Err kind) name place next = refl

-- the first of some, and then the others
first_const : (known : List Binding) (c : Assignment) (cs : List Assignment) (place : Place)
    (places : List Place) (s : State) →
    const_values known (c ∷ cs) (place ∷ places) s
    ≡ judged (assigned known c) place (λ b. const_values (known ++ b ∷ []) cs places s)
first_const known c cs place places s =
    bound_first (valued known c.value) c.name place
    (λ b. const_values (known ++ b ∷ []) cs places s)

-- what is left gives, after those so far, what all give
abbrev pub GoneOn : List Binding → List Assign → List Place → (State → Outcome (List Binding)) →
    Type 0
GoneOn known cs places want = (s : State) →
    const_values known (map assignment_of cs) places s ≡ want s

module _ (known : List Binding) (cs : List Assign) (places : List Place)
    (want : State → Outcome (List Binding)) (i : ℕ) (c : Assign)
    (below : i < length cs) (here : c ≡ get_or cs i c) (inside : i < length places)
    (nowhere : Place) where
  abbrev place : Place
  place = get_or places i nowhere

  -- what those after it give
  abbrev behind : List Binding → State → Outcome (List Binding)
  behind env s = const_values env (map assignment_of (drop (i + 1) cs)) (drop (i + 1) places) s

  split : (s : State) → const_values known (map assignment_of (drop i cs)) (drop i places) s
      ≡ judged (assigned known (assignment_of c)) place (λ b. behind (known ++ b ∷ []) s)
  split s =
      rw (next_of assignment_of cs i c below here, drop_more places i nowhere inside)
      (first_const known (assignment_of c) (map assignment_of (drop (i + 1) cs)) place
      (drop (i + 1) places) s)

  pub consts_more : (b : Binding) → assigned known (assignment_of c) ≡ Ok b →
      GoneOn known (drop i cs) (drop i places) want →
      GoneOn (known ++ b ∷ []) (drop (i + 1) cs) (drop (i + 1) places) want
  consts_more b is w = λ s. sym (split s ∙ rw is refl) ∙ w s

  pub consts_failed : (stop : Stop) →
      IsJudgedRefusal place stop (assigned known (assignment_of c)) →
      GoneOn known (drop i cs) (drop i places) want →
      (s : State) → Failed stop (want s)
  consts_failed stop h w = λ s. record {
    agrees = λ r is. sym (w s) ∙ split s ∙ rw (h.agrees r is, sym (h.here r is)) refl;
  }

pub consts_all : (known : List Binding) (cs : List Assign) (places : List Place)
    (want : State → Outcome (List Binding)) (i : ℕ) → length cs ≤ i →
    GoneOn known (drop i cs) (drop i places) want → (s : State) → want s ≡ Gives known s
consts_all known cs places want i past w = λ s. sym (w s) ∙ rw (drop_all i cs past) refl
