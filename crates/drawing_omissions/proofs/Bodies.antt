-- The scope of a macro's body, whose formals are bound to no bits, and the formals that names mean.
use Rattle.std.proofs.Common.{◌≡◌, ℕ, false, List, [], ◌∷◌, ◌++◌, map, Option, refl, ap, sym, ◌∙◌}
use Rattle.std.specs.Prelude.{codes}
use Rattle.std.specs.List.{All, find}
use Rattle.std.specs.Option.{option_map}
use Rattle.std.specs.Str.{bytes_eq}
use Rattle.std.proofs.lemmas.List.Elements.{All-append, All-cons, All-head, All-nil, All-tail}
use Rattle.assertion_syntax.specs.declared.name.SignalName.{SignalName}
use Rattle.macro_expander.specs.declared.formal.Inside.{Inside}
use Rattle.macro_expander.specs.declared.formal.Shape.{Shape}
use Rattle.macro_expander.specs.declared.scope.Bound as numbered_bound
use Rattle.macro_expander.specs.declared.scope.Scope as numbered_scope
use Rattle.macro_expander.specs.Macros.{bound}
use Rattle.macro_expander.specs.Numbered.{IsRange, bound_of, bound_ref}
use Rattle.macro_expander.specs.Runs.{HasRun}
use Rattle.macro_expander.specs.Terms.{formal_of}
use Rattle.macro_expander.proofs.Lists.{find_map}
use Rattle.drawing_omissions.specs.Spreads.{body_scope}
use Rattle.drawing_omissions.specs.Walk.{seen}

-- ---- formals

pub local_formal : (s : numbered_scope.Scope) (name : SignalName) (o : Option numbered_bound.Bound) → name.global ≡ false →
    o ≡ find (λ f. bytes_eq f.base name.base) s.formals → option_map (bound_of []) o ≡ formal_of (seen s).formals name
local_formal s name o local is =
    rw local (ap (option_map (bound_of [])) is ∙ sym (find_map (λ f. bytes_eq f.base name.base) (bound_of []) s.formals))

abbrev pub unbound : List Shape → List numbered_bound.Bound
unbound shapes = map (λ shape. bound_ref shape []) shapes

runs_of : (shapes : List Shape) → All IsRange shapes → All HasRun (unbound shapes)
runs_of [] are = All-nil HasRun
runs_of (x ∷ xs) are =
    All-cons HasRun (bound_ref x []) (unbound xs) (record { numbers = (All-head IsRange x xs are).run })
    (runs_of xs (All-tail IsRange x xs are))

pub unbound_run : (ins outs : List Shape) (none first second : List numbered_bound.Bound) → All IsRange ins → All IsRange outs →
    none ≡ [] → first ≡ none ++ unbound ins → second ≡ first ++ unbound outs → All HasRun second
unbound_run ins outs none first second ins_are outs_are empty one two =
    rw (two, one, empty) (All-append HasRun (unbound ins) (unbound outs) (runs_of ins ins_are) (runs_of outs outs_are))

seen_unbound : (shapes : List Shape) → map (bound_of []) (unbound shapes) ≡ map (λ shape. bound shape []) shapes
seen_unbound [] = refl
seen_unbound (x ∷ xs) = ap (λ fs. bound x [] ∷ fs) (seen_unbound xs)

-- ---- scopes

pub body_is : (scope : numbered_scope.Scope) (label : List ℕ) (inside : Inside) (path slash suffix : List ℕ) (formals : List numbered_bound.Bound)
    (start : List ℕ) → start ≡ scope.path ++ label ++ scope.suffix → path ≡ start ++ slash → slash ≡ codes "/" → suffix ≡ [] →
    formals ≡ unbound (inside.ins ++ inside.outs) →
    seen (record { path = path; suffix = suffix; env = inside.env; formals = formals }) ≡ body_scope (seen scope) label inside
body_is scope label inside path slash suffix formals start begins ends is none are =
    rw (are, none, ends, is, begins, seen_unbound (inside.ins ++ inside.outs)) refl
