-- Labels in their order differ, and differ from all that is declared before.
use Rattle.std.proofs.Common.{◌≡◌, ℕ, zero, suc, ◌+◌, ◌≤◌, List, [], ◌∷◌, ◌++◌, length, sym, ap, ◌∙◌, arith, subst, append_assoc}
use Rattle.std.specs.Prelude.{Contains, Ok}
use Rattle.std.specs.declared.cmp.Ordering.TheVariants.{Less}
use Rattle.std.specs.Cmp.{IsTotalOrder}
use Rattle.std.proofs.lemmas.Cmp.{then_total, on_total, nat_list_cmp_total, nat_cmp_total, tied_itself}
use Rattle.std.proofs.lemmas.List.{map-append, append-nil}
use Rattle.scald_base.specs.declared.refusal.Place.{Place}
use Rattle.drawing_tree.specs.Tree as tree
use Rattle.drawing_tree.specs.Tree.{Statement, Statements, nil, cons, Otherwise, no_else, else_}
use Rattle.drawing_grammar.specs.declared.head.Head.{Head}
use Rattle.drawing_grammar.specs.declared.declared.Kind.TheVariants.{Constant, Macro, Parameter, Formal, Label}
use Rattle.drawing_grammar.specs.DoubleNames.{Key, key, Declaration, declaration, constants, parameters, formals, labels, statement_labels, else_labels, head_declared, macros_declared, primitives, keys_of, IsDistinct, Declares}
use Rattle.drawing_grammar.proofs.Doubles.{declares_none, declares_both, declares_one}
use Rattle.drawing_grammar.proofs.Distinct.{distinct_given}
use Rattle.drawing_tree.specs.WellFormed.{primitive_names}
use Rattle.drawing_reader.proofs.Keys.{taken_key, neither_has}
use Rattle.drawing_reader.specs.Ascending.{label_cmp, IsLast, Climbs, AreFresh}

label_cmp_total : IsTotalOrder label_cmp
label_cmp_total = then_total (on_total (λ (n : List ℕ). length n) nat_cmp_total) nat_list_cmp_total

-- ---- one label after another

only_key : (k l : Key) → Contains (k ∷ []) l → k ≡ l
only_key k l (zero, below, e) = e
only_key k l (suc n, below, e) = absurd (omega (arith, below))

one_is_last : (scope : ℕ) (taken : List Key) (last name : List ℕ) → label_cmp last name ≡ Less → IsLast scope taken last → IsLast scope (taken ++ key scope Label name ∷ []) name
one_is_last scope taken last name less is n found behind =
    neither_has taken (key scope Label name ∷ []) (key scope Label n)
    (λ h. is n h (label_cmp_total.trans last name n less behind))
    (λ h.
    let same : name ≡ n = ap (λ (k : Key). k.name) (only_key (key scope Label name) (key scope Label n) h) in
    let itself = tied_itself label_cmp_total name in
    let against : label_cmp name name ≡ Less = subst (λ (m : List ℕ). label_cmp name m ≡ Less) (sym same) behind in
    cc)
    found

pub climbs_one : (scope : ℕ) (last name : List ℕ) (place : Place) → label_cmp last name ≡ Less → Climbs scope last name (declaration scope Label name place ∷ [])
climbs_one scope last name place less taken is = (declares_one taken (declaration scope Label name place) (λ found. is name found less), one_is_last scope taken last name less is)

pub climbs_none : (scope : ℕ) (last : List ℕ) → Climbs scope last last []
climbs_none scope last taken is =
    let e : taken ≡ taken ++ [] = sym (append-nil taken) in
    (subst (λ (ks : List Key). Declares taken ks []) e (declares_none taken), subst (λ (ks : List Key). IsLast scope ks last) e is)

pub climbs_both : (scope : ℕ) (a b c : List ℕ) (ds es : List Declaration) → Climbs scope a b ds → Climbs scope b c es → Climbs scope a c (ds ++ es)
climbs_both scope a b c ds es first second taken is =
    let p = first taken is in
    let now = taken ++ keys_of ds in
    let q = second now p.1 in
    let e : now ++ keys_of es ≡ taken ++ keys_of (ds ++ es) = append_assoc taken (keys_of ds) (keys_of es) ∙ ap (λ (ks : List Key). taken ++ ks) (sym (map-append (λ d. d.key) ds es)) in
    (subst (λ (ks : List Key). Declares taken ks (ds ++ es)) e (declares_both taken now (now ++ keys_of es) ds es p.0 q.0), subst (λ (ks : List Key). IsLast scope ks c) e q.1)

pub climbs_as : (scope : ℕ) (a b : List ℕ) (ds es : List Declaration) → es ≡ ds → Climbs scope a b ds → Climbs scope a b es
climbs_as scope a b ds es e climbs = subst (λ (xs : List Declaration). Climbs scope a b xs) (sym e) climbs

pub fresh : (scope : ℕ) (last : List ℕ) (ds : List Declaration) → Climbs scope [] last ds → AreFresh scope ds
fresh scope last ds climbs taken free = (climbs taken (λ name found _. free name found)).0

-- ---- what is declared before

-- nothing is declared as this
abbrev pub Lacks : Key → List Declaration → Type 0
Lacks k ds = Contains (keys_of ds) k → ⊥

lacks_none : (k : Key) → Lacks k []
lacks_none k found = absurd (omega (arith, found.1))

lacks_more : (k : Key) (d : Declaration) (ds : List Declaration) → (d.key ≡ k → ⊥) → Lacks k ds → Lacks k (d ∷ ds)
lacks_more k d ds other rest (zero, below, e) = other e
lacks_more k d ds other rest (suc n, below, e) = rest (n, omega arith, e)

lacks_both : (k : Key) (ds es : List Declaration) → Lacks k ds → Lacks k es → Lacks k (ds ++ es)
lacks_both k ds es f g found = neither_has (keys_of ds) (keys_of es) k f g (subst (λ (ks : List Key). Contains ks k) (map-append (λ d. d.key) ds es) found)

no_constant : (n : ℕ) (name : List ℕ) (cs : List tree.Assignment) (places : List Place) → Lacks (key n Label name) (constants cs places)
no_constant n name [] places = lacks_none (key n Label name)
no_constant n name (c ∷ cs) [] = lacks_none (key n Label name)
no_constant n name (c ∷ cs) (place ∷ places) =
    lacks_more (key n Label name) (declaration 0 Constant c.name place) (constants cs places) (λ e. let kinds = ap (λ (k : Key). k.kind) e in cc) (no_constant n name cs places)

no_parameter : (scope n : ℕ) (name : List ℕ) (ps : List tree.Assignment) (places : List Place) → Lacks (key n Label name) (parameters scope ps places)
no_parameter scope n name [] places = lacks_none (key n Label name)
no_parameter scope n name (p ∷ ps) [] = lacks_none (key n Label name)
no_parameter scope n name (p ∷ ps) (place ∷ places) =
    lacks_more (key n Label name) (declaration scope Parameter p.name place) (parameters scope ps places) (λ e. let kinds = ap (λ (k : Key). k.kind) e in cc) (no_parameter scope n name ps places)

no_formal : (scope n : ℕ) (name : List ℕ) (fs : List tree.Formal) (places : List Place) → Lacks (key n Label name) (formals scope fs places)
no_formal scope n name [] places = lacks_none (key n Label name)
no_formal scope n name (f ∷ fs) [] = lacks_none (key n Label name)
no_formal scope n name (f ∷ fs) (place ∷ places) =
    lacks_more (key n Label name) (declaration scope Formal f.base place) (formals scope fs places) (λ e. let kinds = ap (λ (k : Key). k.kind) e in cc) (no_formal scope n name fs places)

mutual
  unfolding labels statement_labels else_labels

  no_statement_label : (scope n : ℕ) (name : List ℕ) → (scope ≡ n → ⊥) → (s : Statement) → Lacks (key n Label name) (statement_labels scope s)
  no_statement_label scope n name other (tree.Use u) = lacks_more (key n Label name)
      (declaration scope Label u.label u.place) [] (λ e. other (ap (λ (k : Key). k.scope) e)) (lacks_none (key n Label name))
  no_statement_label scope n name other (tree.Wire w) = lacks_none (key n Label name)
  no_statement_label scope n name other (tree.If test behind_then behind_else place) = lacks_both (key n Label name) (labels scope behind_then)
      (else_labels scope behind_else) (no_label scope n name other behind_then) (no_else_label scope n name other behind_else)
  no_statement_label scope n name other (tree.For var first last body place) = no_label scope n name other body

  no_label : (scope n : ℕ) (name : List ℕ) → (scope ≡ n → ⊥) → (ss : Statements) → Lacks (key n Label name) (labels scope ss)
  no_label scope n name other nil = lacks_none (key n Label name)
  no_label scope n name other (cons s ss) = lacks_both (key n Label name) (statement_labels scope s) (labels scope ss) (no_statement_label scope n name other s) (no_label scope n name other ss)

  no_else_label : (scope n : ℕ) (name : List ℕ) → (scope ≡ n → ⊥) → (o : Otherwise) → Lacks (key n Label name) (else_labels scope o)
  no_else_label scope n name other no_else = lacks_none (key n Label name)
  no_else_label scope n name other (else_ ss) = no_label scope n name other ss

no_head_label : (scope n : ℕ) (name : List ℕ) (m : tree.Macro) (h : Head) → Lacks (key n Label name) (head_declared scope m h)
no_head_label scope n name m h =
    let k = key n Label name in
    let ps = parameters scope m.params h.parameters in
    let fs = formals scope m.ins h.ins in
    let gs = formals scope m.outs h.outs in
    lacks_more k (declaration 0 Macro m.name m.place) (ps ++ (fs ++ gs)) (λ e. let kinds = ap (λ (k : Key). k.kind) e in cc)
    (lacks_both k ps (fs ++ gs) (no_parameter scope n name m.params h.parameters)
    (lacks_both k fs gs (no_formal scope n name m.ins h.ins) (no_formal scope n name m.outs h.outs)))

-- no label of a scope after the macros
no_macro_label : (scope n : ℕ) (name : List ℕ) (ms : List tree.Macro) (hs : List Head) → scope + length ms ≤ n → Lacks (key n Label name) (macros_declared scope ms hs)
no_macro_label scope n name [] hs behind = lacks_none (key n Label name)
no_macro_label scope n name (m ∷ ms) [] behind = lacks_none (key n Label name)
no_macro_label scope n name (m ∷ ms) (h ∷ hs) behind =
    let k = key n Label name in
    let ls = labels scope m.body in
    lacks_both k (head_declared scope m h ++ ls) (macros_declared (suc scope) ms hs)
    (lacks_both k (head_declared scope m h) ls (no_head_label scope n name m h) (no_label scope n name (λ e. omega (arith, behind, e)) m.body))
    (no_macro_label (suc scope) n name ms hs (omega (arith, behind)))

no_primitive : (n : ℕ) (name : List ℕ) → Contains primitives (key n Label name) → ⊥
unfolding primitives
no_primitive n name found = let kinds = (taken_key primitive_names n Label name found).1 in cc

-- The body of a drawing declares nothing again, if its labels are in their order.
pub body_fresh : (cs : List tree.Assignment) (places : List Place) (ms : List tree.Macro) (hs : List Head) (ss : Statements) (mid now : List Key) →
    AreFresh (length ms) (labels (length ms) ss) → Declares primitives mid (constants cs places) → Declares mid now (macros_declared 0 ms hs) →
    Declares primitives (now ++ keys_of (labels (length ms) ss)) (constants cs places ++ (macros_declared 0 ms hs ++ labels (length ms) ss))
body_fresh cs places ms hs ss mid now is first second =
    let own = constants cs places in
    let before = macros_declared 0 ms hs in
    let body = labels (length ms) ss in
    declares_both primitives mid (now ++ keys_of body) own (before ++ body) first (declares_both mid now (now ++ keys_of body) before body second
    (is now (λ name found. neither_has mid (keys_of before) (key (length ms) Label name)
    (λ there. neither_has primitives (keys_of own) (key (length ms) Label name) (no_primitive (length ms) name) (no_constant (length ms) name cs places)
    (subst (λ (ks : List Key). Contains ks (key (length ms) Label name)) first.added there))
    (no_macro_label 0 (length ms) name ms hs (omega arith))
    (subst (λ (ks : List Key). Contains ks (key (length ms) Label name)) second.added found))))

pub distinct_made : (now : List Key) (ds : List Declaration) → Declares primitives now ds → IsDistinct ds
distinct_made now ds made = distinct_given {A = ℕ} (Ok 0) now ds made
