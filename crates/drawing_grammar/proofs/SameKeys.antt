-- Keys of declarations are the same if their parts are.
use Rattle.std.proofs.Common.{◌≡◌, ℕ, suc, true, ◌&&◌, List, ◌∷◌, refl, arith, nat_eq, subst}
use Rattle.std.specs.Prelude.{Contains}
use Rattle.std.specs.Str.{bytes_eq}
use Rattle.std.proofs.lemmas.Slice.Eq.{bytes_eq-Decides}
use Rattle.std.proofs.lemmas.Bool.Decides.{nat_tests}
use Rattle.std.proofs.lemmas.Bool.{and_parts}
use denote.Enum.Bare.{sameb}
use Rattle.drawing_grammar.specs.contracts.declared.Kind.{the_type}
use Rattle.drawing_grammar.specs.declared.declared.Kind.{Kind}
use Rattle.drawing_grammar.specs.declared.declared.Kind.TheVariants.{Constant, Macro, Parameter, Formal, Label}
use Rattle.drawing_grammar.specs.DoubleNames.{Key}

same_kind : (a b : Kind) → sameb the_type a b ≡ true → a ≡ b
same_kind Constant Constant h = refl
same_kind Constant Macro h = absurd cc
same_kind Constant Parameter h = absurd cc
same_kind Constant Formal h = absurd cc
same_kind Constant Label h = absurd cc
same_kind Macro Constant h = absurd cc
same_kind Macro Macro h = refl
same_kind Macro Parameter h = absurd cc
same_kind Macro Formal h = absurd cc
same_kind Macro Label h = absurd cc
same_kind Parameter Constant h = absurd cc
same_kind Parameter Macro h = absurd cc
same_kind Parameter Parameter h = refl
same_kind Parameter Formal h = absurd cc
same_kind Parameter Label h = absurd cc
same_kind Formal Constant h = absurd cc
same_kind Formal Macro h = absurd cc
same_kind Formal Parameter h = absurd cc
same_kind Formal Formal h = refl
same_kind Formal Label h = absurd cc
same_kind Label Constant h = absurd cc
same_kind Label Macro h = absurd cc
same_kind Label Parameter h = absurd cc
same_kind Label Formal h = absurd cc
same_kind Label Label h = refl

kind_same : (a : Kind) → sameb the_type a a ≡ true
kind_same Constant = refl
kind_same Macro = refl
kind_same Parameter = refl
kind_same Formal = refl
kind_same Label = refl

pub same_parts : (s t : ℕ) (j k : Kind) (x y : List ℕ) → (nat_eq s t && (sameb the_type j k && bytes_eq x y)) ≡ true → (s ≡ t) × (j ≡ k) × (x ≡ y)
same_parts s t j k x y h =
    let first = and_parts (nat_eq s t) (sameb the_type j k && bytes_eq x y) h in
    let second = and_parts (sameb the_type j k) (bytes_eq x y) first.1 in
    let p : nat_eq s t ≡ true = first.0 in
    let q : bytes_eq x y ≡ true = second.1 in
    (grind (arith, nat_tests), same_kind j k second.0, grind (arith, bytes_eq-Decides))

pub parts_same : (s t : ℕ) (j k : Kind) (x y : List ℕ) → s ≡ t → j ≡ k → x ≡ y → (nat_eq s t && (sameb the_type j k && bytes_eq x y)) ≡ true
parts_same s t j k x y p q r =
    let kinds : sameb the_type j k ≡ true = subst (λ (l : Kind). sameb the_type j l ≡ true) q (kind_same j) in
    let scopes : nat_eq s t ≡ true = grind (arith, nat_tests) in
    let names : bytes_eq x y ≡ true = grind (arith, bytes_eq-Decides) in
    rw (scopes, kinds) names

pub later : (xs : List Key) (x y : Key) → Contains xs y → Contains (x ∷ xs) y
later xs x y found = (suc found.0, omega (arith, found.1), found.2)
