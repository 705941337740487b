-- What a step of expansion gives, and steps one after another: the first refusal is the refusal of
-- all.
use Rattle.std.specs.Prelude.{List, [], ◌∷◌, ◌++◌, Option, Some, None, Result, Ok, Err}
use Rattle.scald_base.specs.declared.refusal.Place.{Place}
use Rattle.scald_base.specs.declared.refusal.RefusalKind.{RefusalKind}
use Rattle.macro_expander.specs.Named.{State}

-- a value with the circuit so far, or why the drawing is refused, and where
pub data Outcome (A : Type 0) : Type 0 where
  Gives : A → State → Outcome A
  Fails : RefusalKind → Place → Outcome A

abbrev pub after : {A B : Type 0} → Outcome A → (A → State → Outcome B) → Outcome B
after (Gives a s) next = next a s
after (Fails kind place) next = Fails kind place

-- what looks at no circuit: a value, or why there is none
abbrev pub Judged : Type 0 → Type 0
Judged A = Result A RefusalKind

abbrev pub judging : {A B : Type 0} → Judged A → (A → Judged B) → Judged B
judging (Ok a) next = next a
judging (Err kind) next = Err kind

-- the same as a step at a statement
abbrev pub judged : {A B : Type 0} → Judged A → Place → (A → Outcome B) → Outcome B
judged (Ok a) place next = next a
judged (Err kind) place next = Fails kind place

abbrev pub or_refuse : {A : Type 0} → Option A → RefusalKind → Judged A
or_refuse (Some a) kind = Ok a
or_refuse None kind = Err kind

-- one value for each, in order, after those so far
abbrev pub collected : {X Y : Type 0} → (X → Judged Y) → List Y → List X → Judged (List Y)
collected step ys [] = Ok ys
collected step ys (x ∷ xs) = judging (step x) (λ y. collected step (ys ++ y ∷ []) xs)

-- what each gives, in order, after what there is so far
abbrev pub gathered : {X Y : Type 0} → (X → State → Outcome (List Y)) → List Y → List X → State →
    Outcome (List Y)
gathered step ys [] s = Gives ys s
gathered step ys (x ∷ xs) s = after (step x s) (λ more s'. gathered step (ys ++ more) xs s')

-- each in order
abbrev pub each : {X : Type 0} → (X → State → Outcome (Unit {0})) → List X → State →
    Outcome (Unit {0})
each step [] s = Gives tt s
each step (x ∷ xs) s = after (step x s) (λ _ s'. each step xs s')
