-- What a drawing declares, in the order of its text, and the first that it declares twice.
use Rattle.std.specs.Prelude.{◌≡◌, ◌≢◌, ℕ, suc, List, [], ◌∷◌, ◌++◌, length, map, Contains, AllPairs, ⊤}
use Rattle.scald_base.specs.declared.refusal.Place.{Place}
use Rattle.scald_base.specs.declared.refusal.Refusal.{Refusal}
use Rattle.scald_base.specs.declared.refusal.RefusalKind.TheVariants.{DoubleName}
use Rattle.scald_base.specs.declared.refusal.Stop.{Stop}
use Rattle.scald_base.specs.declared.refusal.Stop.TheVariants.{Refused, NoMemory}
use Rattle.drawing_tree.specs.Tree as tree
use Rattle.drawing_tree.specs.Tree.{Statement, Statements, nil, cons, Otherwise, no_else, else_}
use Rattle.drawing_tree.specs.WellFormed.{primitive_names}
use Rattle.drawing_grammar.specs.declared.head.Head.{Head}
use Rattle.drawing_grammar.specs.declared.declared.Kind.{Kind}
use Rattle.drawing_grammar.specs.declared.declared.Kind.TheVariants.{Constant, Macro, Parameter, Formal, Label}

-- A name as a kind of thing in a scope. Each macro is a scope, and after all macros the drawing
-- itself; constants and macros are all of scope 0.
pub record Key : Type 0 where
  pub scope : ℕ
  pub kind : Kind
  pub name : List ℕ

abbrev pub key : ℕ → Kind → List ℕ → Key
key scope kind name = record { scope = scope; kind = kind; name = name }

-- with the place of the name
pub record Declaration : Type 0 where
  pub key : Key
  pub place : Place

-- ---- what is declared

abbrev pub declaration : ℕ → Kind → List ℕ → Place → Declaration
declaration scope kind name place = record { key = key scope kind name; place = place }

-- Each stands at the place beside it; one without a place is left out.
abbrev pub constants : List tree.Assignment → List Place → List Declaration
constants [] places = []
constants (c ∷ consts) [] = []
constants (c ∷ consts) (place ∷ places) =
    declaration 0 Constant c.name place ∷ constants consts places

abbrev pub parameters : ℕ → List tree.Assignment → List Place → List Declaration
parameters scope [] places = []
parameters scope (p ∷ params) [] = []
parameters scope (p ∷ params) (place ∷ places) =
    declaration scope Parameter p.name place ∷ parameters scope params places

abbrev pub formals : ℕ → List tree.Formal → List Place → List Declaration
formals scope [] places = []
formals scope (f ∷ fs) [] = []
formals scope (f ∷ fs) (place ∷ places) =
    declaration scope Formal f.base place ∷ formals scope fs places

-- the labels of a body, those inside of IFs and FORs too
unfoldable mutual
  pub statement_labels : ℕ → Statement → List Declaration
  statement_labels scope (tree.Use u) = declaration scope Label u.label u.place ∷ []
  statement_labels scope (tree.Wire w) = []
  statement_labels scope (tree.If test behind_then behind_else place) =
      labels scope behind_then ++ else_labels scope behind_else
  statement_labels scope (tree.For var first last body place) = labels scope body

  pub labels : ℕ → Statements → List Declaration
  labels scope nil = []
  labels scope (cons s ss) = statement_labels scope s ++ labels scope ss

  pub else_labels : ℕ → Otherwise → List Declaration
  else_labels scope no_else = []
  else_labels scope (else_ ss) = labels scope ss

-- a macro's own name, and what its head declares
abbrev pub head_declared : ℕ → tree.Macro → Head → List Declaration
head_declared scope m h =
    declaration 0 Macro m.name m.place
    ∷ (parameters scope m.params h.parameters
    ++ (formals scope m.ins h.ins ++ formals scope m.outs h.outs))

-- each macro with its body
abbrev pub macros_declared : ℕ → List tree.Macro → List Head → List Declaration
macros_declared scope [] heads = []
macros_declared scope (m ∷ macros) [] = []
macros_declared scope (m ∷ macros) (h ∷ heads) =
    (head_declared scope m h ++ labels scope m.body) ++ macros_declared (suc scope) macros heads

-- what a drawing of these constants, these macros and this body declares
abbrev pub declared : List tree.Assignment → List Place → List tree.Macro → List Head →
    Statements → List Declaration
declared consts places macros heads body =
    constants consts places ++ (macros_declared 0 macros heads ++ labels (length macros) body)

-- the primitives, which each drawing has
unfoldable pub primitives : List Key
primitives = map (key 0 Macro) primitive_names

-- ---- what is declared twice

abbrev pub keys_of : List Declaration → List Key
keys_of ds = map (λ d. d.key) ds

abbrev pub AreDifferent : List Key → Type 0
AreDifferent keys = AllPairs (λ a b. a ≢ b) keys

-- Nothing is declared twice, nor as a primitive is.
abbrev pub IsDistinct : List Declaration → Type 0
IsDistinct ds = AreDifferent (primitives ++ keys_of ds)

abbrev pub double_at : Place → Refusal
double_at place = record { kind = DoubleName; place = place }

-- The refusal is at the first declaration that stands before already, or is a primitive's.
pub record IsDoubleName (ds : List Declaration) (r : Refusal) : Type 0 where
  pub before : List Declaration
  pub again : Declaration
  pub after : List Declaration
  pub parts : ds ≡ before ++ again ∷ after
  pub first : IsDistinct before
  pub double : Contains (primitives ++ keys_of before) again.key
  pub refusal : r ≡ double_at again.place

abbrev pub IsDoubleStop : List Declaration → Stop → Type 0
IsDoubleStop ds (Refused r) = IsDoubleName ds r
IsDoubleStop ds NoMemory = ⊤

-- ---- some declarations after others

-- Nothing of these is declared again.
pub record Declares (taken now : List Key) (ds : List Declaration) : Type 0 where
  pub added : now ≡ taken ++ keys_of ds
  pub different : AreDifferent taken → AreDifferent now

-- The refusal is at the first of these that declares again what was taken, or stands before among
-- these.
pub record Repeats (taken : List Key) (ds : List Declaration) (r : Refusal) : Type 0 where
  pub before : List Declaration
  pub again : Declaration
  pub after : List Declaration
  pub parts : ds ≡ before ++ again ∷ after
  pub first : AreDifferent taken → AreDifferent (taken ++ keys_of before)
  pub double : Contains (taken ++ keys_of before) again.key
  pub refusal : r ≡ double_at again.place

abbrev pub IsStopAt : List Key → List Declaration → Stop → Type 0
IsStopAt taken ds (Refused r) = Repeats taken ds r
IsStopAt taken ds NoMemory = ⊤

-- These were declared so far, and the rest is still to come.
pub record Goes (taken now : List Key) (all rest : List Declaration) : Type 0 where
  pub done : List Declaration
  pub parts : all ≡ done ++ rest
  pub declares : Declares taken now done
