-- Texts that stand for the same, places aside, declare the same names.
use Rattle.std.proofs.Common.{◌≡◌, ℕ, suc, List, [], ◌∷◌, ◌++◌, length, map, refl, sym, ap, ◌∙◌, subst}
use Rattle.std.proofs.lemmas.List.{map-append, length-map}
use Rattle.scald_base.specs.declared.refusal.Place.{Place}
use Rattle.drawing_tree.specs.Tree as tree
use Rattle.drawing_tree.specs.Places.{unplaced_statement, unplaced_statements, unplaced_otherwise, unplaced_macro}
use Rattle.drawing_grammar.specs.declared.head.Head.{Head}
use Rattle.drawing_grammar.specs.declared.declared.Kind.TheVariants.{Constant, Macro, Parameter, Formal}
use Rattle.drawing_grammar.specs.Sketch.{PlacedConstants}
use Rattle.drawing_grammar.specs.DoubleNames.{Key, key, Declaration, constants, parameters, formals, statement_labels, labels, else_labels, head_declared, macros_declared, declared, primitives, keys_of, AreDifferent, IsDistinct}
use Rattle.drawing_grammar.proofs.ProperTrees.{IsHeadOf, AreHeads, AreConstantsOf}

abbrev pub the_key : Declaration → Key
the_key d = d.key

both : (a b c d : List Declaration) → keys_of a ≡ keys_of c → keys_of b ≡ keys_of d → keys_of (a ++ b) ≡ keys_of (c ++ d)
both a b c d e f = map-append the_key a b ∙ (ap (λ (x : List Key). x ++ keys_of b) e ∙ (ap (λ (x : List Key). keys_of c ++ x) f ∙ sym (map-append the_key c d)))

-- ---- labels

mutual
  unfolding statement_labels labels else_labels

  statement_again : (scope : ℕ) (s : tree.Statement) → keys_of (statement_labels scope (unplaced_statement s)) ≡ keys_of (statement_labels scope s)
  statement_again scope (tree.Use u) = refl
  statement_again scope (tree.Wire w) = refl
  statement_again scope (tree.If test ss other place) = both (labels scope (unplaced_statements ss)) (else_labels scope (unplaced_otherwise other))
      (labels scope ss) (else_labels scope other) (statements_again scope ss) (otherwise_again scope other)
  statement_again scope (tree.For var first last ss place) = statements_again scope ss

  statements_again : (scope : ℕ) (ss : tree.Statements) → keys_of (labels scope (unplaced_statements ss)) ≡ keys_of (labels scope ss)
  statements_again scope tree.nil = refl
  statements_again scope (tree.cons s ss) = both (statement_labels scope (unplaced_statement s)) (labels scope (unplaced_statements ss))
      (statement_labels scope s) (labels scope ss) (statement_again scope s) (statements_again scope ss)

  otherwise_again : (scope : ℕ) (o : tree.Otherwise) → keys_of (else_labels scope (unplaced_otherwise o)) ≡ keys_of (else_labels scope o)
  otherwise_again scope tree.no_else = refl
  otherwise_again scope (tree.else_ ss) = statements_again scope ss

-- ---- heads

abbrev pub parameter_keys : ℕ → List tree.Assignment → List Key
parameter_keys scope ps = map (λ p. key scope Parameter p.name) ps

abbrev pub formal_keys : ℕ → List tree.Formal → List Key
formal_keys scope fs = map (λ f. key scope Formal f.base) fs

abbrev pub constant_keys : List tree.Assignment → List Key
constant_keys cs = map (λ c. key 0 Constant c.name) cs

pub constants_are : (cs : List tree.Assignment) (places : List Place) → length places ≡ length cs → keys_of (constants cs places) ≡ constant_keys cs
constants_are [] places e = refl
constants_are (c ∷ cs) [] e = absurd cc
constants_are (c ∷ cs) (place ∷ places) e = let k : length places ≡ length cs = cc in ap (λ (ks : List Key). key 0 Constant c.name ∷ ks) (constants_are cs places k)

parameters_are : (scope : ℕ) (ps : List tree.Assignment) (places : List Place) → length places ≡ length ps → keys_of (parameters scope ps places) ≡ parameter_keys scope ps
parameters_are scope [] places e = refl
parameters_are scope (p ∷ ps) [] e = absurd cc
parameters_are scope (p ∷ ps) (place ∷ places) e = let k : length places ≡ length ps = cc in ap (λ (ks : List Key). key scope Parameter p.name ∷ ks) (parameters_are scope ps places k)

formals_are : (scope : ℕ) (fs : List tree.Formal) (places : List Place) → length places ≡ length fs → keys_of (formals scope fs places) ≡ formal_keys scope fs
formals_are scope [] places e = refl
formals_are scope (f ∷ fs) [] e = absurd cc
formals_are scope (f ∷ fs) (place ∷ places) e = let k : length places ≡ length fs = cc in ap (λ (ks : List Key). key scope Formal f.base ∷ ks) (formals_are scope fs places k)

-- what a macro declares, whatever its places are
abbrev pub macro_keys : ℕ → tree.Macro → List Key
macro_keys scope m = (key 0 Macro m.name ∷ (parameter_keys scope m.params ++ (formal_keys scope m.ins ++ formal_keys scope m.outs))) ++ keys_of (labels scope m.body)

three : (a b c : List Declaration) (x y z : List Key) → keys_of a ≡ x → keys_of b ≡ y → keys_of c ≡ z → keys_of (a ++ (b ++ c)) ≡ x ++ (y ++ z)
three a b c x y z e f h = map-append the_key a (b ++ c) ∙ (ap (λ (k : List Key). k ++ keys_of (b ++ c)) e
    ∙ ap (λ (k : List Key). x ++ k) (map-append the_key b c ∙ (ap (λ (k : List Key). k ++ keys_of c) f ∙ ap (λ (k : List Key). y ++ k) h)))

head_is : (scope : ℕ) (m : tree.Macro) (h : Head) → IsHeadOf m h →
    keys_of (head_declared scope m h) ≡ key 0 Macro m.name ∷ (parameter_keys scope m.params ++ (formal_keys scope m.ins ++ formal_keys scope m.outs))
head_is scope m h is = ap (λ (ks : List Key). key 0 Macro m.name ∷ ks) (three (parameters scope m.params h.parameters)
    (formals scope m.ins h.ins) (formals scope m.outs h.outs) (parameter_keys scope m.params) (formal_keys scope m.ins) (formal_keys scope m.outs)
    (parameters_are scope m.params h.parameters is.parameters) (formals_are scope m.ins h.ins is.ins) (formals_are scope m.outs h.outs is.outs))

macro_is : (scope : ℕ) (m : tree.Macro) (h : Head) → IsHeadOf m h → keys_of (head_declared scope m h ++ labels scope m.body) ≡ macro_keys scope (unplaced_macro m)
macro_is scope m h is =
    map-append the_key (head_declared scope m h) (labels scope m.body)
    ∙ (ap (λ (ks : List Key). ks ++ keys_of (labels scope m.body)) (head_is scope m h is)
    ∙ ap (λ (ks : List Key). (key 0 Macro m.name ∷ (parameter_keys scope m.params ++ (formal_keys scope m.ins ++ formal_keys scope m.outs))) ++ ks) (sym (statements_again scope m.body)))

abbrev pub all_keys : ℕ → List tree.Macro → List Key
all_keys scope [] = []
all_keys scope (m ∷ ms) = macro_keys scope m ++ all_keys (suc scope) ms

pub macros_are : (scope : ℕ) (ms : List tree.Macro) (hs : List Head) → AreHeads ms hs → keys_of (macros_declared scope ms hs) ≡ all_keys scope (map unplaced_macro ms)
macros_are scope [] hs is = refl
macros_are scope (m ∷ ms) [] is = absurd is
macros_are scope (m ∷ ms) (h ∷ hs) is =
    map-append the_key (head_declared scope m h ++ labels scope m.body) (macros_declared (suc scope) ms hs)
    ∙ (ap (λ (ks : List Key). ks ++ keys_of (macros_declared (suc scope) ms hs)) (macro_is scope m h is.0)
    ∙ ap (λ (ks : List Key). macro_keys scope (unplaced_macro m) ++ ks) (macros_are (suc scope) ms hs is.1))

-- ---- the whole

same_labels : (scope : ℕ) (ss us : tree.Statements) → unplaced_statements us ≡ unplaced_statements ss → keys_of (labels scope us) ≡ keys_of (labels scope ss)
same_labels scope ss us e = sym (statements_again scope us) ∙ (ap (λ (x : tree.Statements). keys_of (labels scope x)) e ∙ statements_again scope ss)

same_keys : (ms us : List tree.Macro) (hs ks : List Head) (body again : tree.Statements) → AreHeads ms hs → AreHeads us ks → map unplaced_macro
    us ≡ map unplaced_macro ms → unplaced_statements again ≡ unplaced_statements body →
    keys_of (macros_declared 0 us ks ++ labels (length us) again) ≡ keys_of (macros_declared 0 ms hs ++ labels (length ms) body)
same_keys ms us hs ks body again h k e f =
    let count : length us ≡ length ms = sym (length-map us unplaced_macro) ∙ (ap length e ∙ length-map ms unplaced_macro) in
    both (macros_declared 0 us ks) (labels (length us) again) (macros_declared 0 ms hs) (labels (length ms) body)
    (macros_are 0 us ks k ∙ (ap (λ (xs : List tree.Macro). all_keys 0 xs) e ∙ sym (macros_are 0 ms hs h)))
    (ap (λ (n : ℕ). keys_of (labels n again)) count ∙ same_labels (length ms) body again f)

-- two texts with the same constants
pub distinct_again : (cs ds : PlacedConstants) (ms us : List tree.Macro) (hs ks : List Head) (body again : tree.Statements) →
    AreConstantsOf cs → AreConstantsOf ds → AreHeads ms hs → AreHeads us ks → ds.constants ≡ cs.constants →
    map unplaced_macro us ≡ map unplaced_macro ms → unplaced_statements again ≡ unplaced_statements body →
    IsDistinct (declared cs.constants cs.name_places ms hs body) → IsDistinct (declared ds.constants ds.name_places us ks again)
distinct_again cs ds ms us hs ks body again a b h k c e f is =
    let F : List Key → Type 0 = λ keys. AreDifferent (primitives ++ keys) in
    let consts : keys_of (constants ds.constants ds.name_places) ≡ keys_of (constants cs.constants cs.name_places) =
    constants_are ds.constants ds.name_places b.name_places
    ∙ (ap (λ (xs : List tree.Assignment). constant_keys xs) c ∙ sym (constants_are cs.constants cs.name_places a.name_places)) in
    subst F (sym (both (constants ds.constants ds.name_places) (macros_declared 0 us ks ++ labels (length us) again)
    (constants cs.constants cs.name_places) (macros_declared 0 ms hs ++ labels (length ms) body) consts
    (same_keys ms us hs ks body again h k e f))) is
