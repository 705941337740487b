-- A text names nothing twice: so its drawing is well formed.
use Rattle.std.proofs.Common.{◌≡◌, ℕ, suc, Bool, true, false, List, [], ◌∷◌, ◌++◌, length, map, refl, sym, ap, ◌∙◌, subst, arith}
use Rattle.std.specs.Prelude.{◌≢◌, All, Ok}
use Rattle.std.specs.List.{AllByRecursion, filter}
use Rattle.std.proofs.Math.ListN.{get_or-map}
use Rattle.std.proofs.lemmas.Simd.{map-map}
use Rattle.std.proofs.lemmas.List.{length-map, map-append, append-nil}
use Rattle.std.proofs.lemmas.List.Elements.{filter-append, All-from_recursion}
use Rattle.std.proofs.lemmas.List.Kept.{AllPairs-filter}
use Rattle.std.proofs.lemmas.Map.Made.{IsDistinct-from_AllPairs}
use Rattle.std.proofs.lemmas.Slice.Eq.{bytes_eq-Decides}
use Rattle.scald_base.specs.Time.{Header, IsHeader}
use Rattle.scald_lex.specs.declared.token.Token as lex
use Rattle.scald_lex.specs.Tokens.{AreTokens}
use Rattle.drawing_tree.specs.Tree as tree
use Rattle.drawing_tree.specs.WellFormed as well
use Rattle.drawing_tree.specs.WellFormed.{primitive_names, IsGoodBody, IsGoodCase, IsGoodMacro, IsGoodName, IsWellFormed}
use Rattle.drawing_tree.specs.Places.{unplaced_statement, unplaced_statements, unplaced_otherwise, unplaced_macro}
use Rattle.drawing_grammar.specs.declared.declared.Kind.{Kind}
use Rattle.drawing_grammar.specs.declared.declared.Kind.TheVariants.{Constant, Macro, Parameter, Formal, Label}
use Rattle.drawing_grammar.specs.declared.head.Head.{Head}
use Rattle.drawing_grammar.specs.DoubleNames.{Key, key, Declaration, constants, statement_labels, labels, else_labels, macros_declared, declared, primitives, keys_of, AreDifferent, IsDistinct}
use Rattle.drawing_grammar.specs.declared.edition.Edition.{Edition}
use Rattle.drawing_grammar.specs.Edition.{edition_of}
use Rattle.drawing_grammar.specs.Header.{judged, header_of}
use Rattle.drawing_grammar.specs.Lexeme.{Lexeme, lexemes}
use Rattle.drawing_grammar.specs.Names.{Naming, AreGood, names, names_from}
use Rattle.drawing_grammar.specs.Sketch.{Sketch, PlacedConstants}
use Rattle.drawing_grammar.specs.Written.{values}
use Rattle.drawing_grammar.specs.Drawing.{drawing_of_sketch, declared_by, Draws}
use Rattle.drawing_grammar.proofs.First.{different_front}
use Rattle.drawing_grammar.proofs.Heads.{names_of_text}
use Rattle.drawing_grammar.proofs.ProperTrees.{AreHeads, AreConstantsOf, IsMacroOf, IsSketchOf}
use Rattle.drawing_grammar.proofs.SameDeclared.{the_key, constant_keys, constants_are, parameter_keys, formal_keys, macro_keys, all_keys, macros_are}
use Rattle.drawing_grammar.proofs.SameHeader.{header_may_be}
use Rattle.drawing_grammar.proofs.Formed.{consts_good, macro_good, body_good, cases_good, judged_ok, sketch_proper}

-- ---- some of the keys

different_behind : (xs ys : List Key) → AreDifferent (xs ++ ys) → AreDifferent ys
different_behind [] ys h = h
different_behind (x ∷ xs) ys h = different_behind xs ys (λ i j d before within same. h (suc i) (suc j) d (omega arith) (omega arith) same)

-- names of one kind and scope
texts_different : (scope : ℕ) (kind : Kind) (names : List (List ℕ)) → AreDifferent (map (key scope kind) names) → well.AreDifferent names
texts_different scope kind names h =
    let k : List ℕ → Key = key scope kind in
    IsDistinct-from_AllPairs bytes_eq-Decides names (λ i j d before within same. h i j (k d) before (let e =
    length-map names k in omega (arith, e)) (get_or-map k names i d ∙ (ap k same ∙ sym (get_or-map k names j d))))

names_different : {A : Type 0} (scope : ℕ) (kind : Kind) (f : A → List ℕ) (xs : List A) → AreDifferent (map (λ x. key scope kind (f x)) xs) → well.AreDifferent (map f xs)
names_different scope kind f xs h =
    let F : List Key → Type 0 = λ ks. AreDifferent ks in
    texts_different scope kind (map f xs) (subst F (sym (map-map (key scope kind) f xs)) h)

-- ---- labels

joined : (scope : ℕ) (a b : List Declaration) (x y : List (List ℕ)) → keys_of a ≡ map (key scope Label) x → keys_of b ≡ map (key scope Label) y → keys_of (a ++ b) ≡ map (key scope Label) (x ++ y)
joined scope a b x y e f = map-append the_key a b ∙ (ap (λ (ks : List Key). ks ++ keys_of b) e ∙ (ap (λ (ks : List Key). map (key scope Label) x ++ ks) f ∙ sym (map-append (key scope Label) x y)))

mutual
  unfolding statement_labels labels else_labels

  statement_keys : (scope : ℕ) (s : tree.Statement) → keys_of (statement_labels scope s) ≡ map (key scope Label) (well.statement_labels s)
  statement_keys scope (tree.Use u) = refl
  statement_keys scope (tree.Wire w) = refl
  statement_keys scope (tree.If test ss other place) = joined scope (labels scope ss)
      (else_labels scope other) (well.labels ss) (well.else_labels other) (label_keys scope ss) (otherwise_keys scope other)
  statement_keys scope (tree.For var first last ss place) = label_keys scope ss

  label_keys : (scope : ℕ) (ss : tree.Statements) → keys_of (labels scope ss) ≡ map (key scope Label) (well.labels ss)
  label_keys scope tree.nil = refl
  label_keys scope (tree.cons s ss) = joined scope (statement_labels scope s) (labels scope ss) (well.statement_labels s) (well.labels ss) (statement_keys scope s) (label_keys scope ss)

  otherwise_keys : (scope : ℕ) (o : tree.Otherwise) → keys_of (else_labels scope o) ≡ map (key scope Label) (well.else_labels o)
  otherwise_keys scope tree.no_else = refl
  otherwise_keys scope (tree.else_ ss) = label_keys scope ss

labels_different : (scope : ℕ) (ss : tree.Statements) → AreDifferent (keys_of (labels scope ss)) → well.AreDifferent (well.labels ss)
labels_different scope ss h =
    let F : List Key → Type 0 = λ ks. AreDifferent ks in
    texts_different scope Label (well.labels ss) (subst F (label_keys scope ss) h)

-- labels are the same, whatever the places are
both_same : (a b c d : List (List ℕ)) → a ≡ c → b ≡ d → a ++ b ≡ c ++ d
both_same a b c d e f = rw (e, f) refl

mutual
  statement_same : (s : tree.Statement) → well.statement_labels (unplaced_statement s) ≡ well.statement_labels s
  statement_same (tree.Use u) = refl
  statement_same (tree.Wire w) = refl
  statement_same (tree.If test ss other place) = both_same (well.labels (unplaced_statements ss))
      (well.else_labels (unplaced_otherwise other)) (well.labels ss) (well.else_labels other) (statements_same ss) (otherwise_same other)
  statement_same (tree.For var first last ss place) = statements_same ss

  statements_same : (ss : tree.Statements) → well.labels (unplaced_statements ss) ≡ well.labels ss
  statements_same tree.nil = refl
  statements_same (tree.cons s ss) = both_same (well.statement_labels (unplaced_statement s))
      (well.labels (unplaced_statements ss)) (well.statement_labels s) (well.labels ss) (statement_same s) (statements_same ss)

  otherwise_same : (o : tree.Otherwise) → well.else_labels (unplaced_otherwise o) ≡ well.else_labels o
  otherwise_same tree.no_else = refl
  otherwise_same (tree.else_ ss) = statements_same ss

-- ---- each macro by itself

record IsApart (m : tree.Macro) : Type 0 where
  params : well.AreDifferent (map (λ p. p.name) m.params)
  formals : well.AreDifferent (map (λ f. f.base) (m.ins ++ m.outs))
  labels : well.AreDifferent (well.labels m.body)

macro_apart : (scope : ℕ) (m : tree.Macro) → AreDifferent (macro_keys scope (unplaced_macro m)) → IsApart m
macro_apart scope m h =
    let ps = parameter_keys scope m.params in
    let ins = formal_keys scope m.ins in
    let outs = formal_keys scope m.outs in
    let own = keys_of (labels scope (unplaced_statements m.body)) in
    let head : AreDifferent (key 0 Macro m.name ∷ (ps ++ (ins ++ outs))) = different_front (key 0 Macro m.name ∷ (ps ++ (ins ++ outs))) own h in
    let declared : AreDifferent (ps ++ (ins ++ outs)) = different_behind (key 0 Macro m.name ∷ []) (ps ++ (ins ++ outs)) head in
    let F : List Key → Type 0 = λ ks. AreDifferent ks in
    let L : List (List ℕ) → Type 0 = λ ns. well.AreDifferent ns in
    record {
      params = names_different scope Parameter (λ p. p.name) m.params (different_front ps (ins ++ outs) declared);
      formals = names_different scope Formal (λ f. f.base) (m.ins ++ m.outs) (subst F (sym (map-append (λ f. key scope Formal f.base) m.ins m.outs)) (different_behind ps (ins ++ outs) declared));
      labels = subst L (statements_same m.body) (labels_different scope (unplaced_statements m.body) (different_behind (key 0 Macro m.name ∷ (ps ++ (ins ++ outs))) own h));
    }

macros_apart : (scope : ℕ) (ms : List tree.Macro) → AreDifferent (all_keys scope (map unplaced_macro ms)) → AllByRecursion IsApart ms
macros_apart scope [] h = tt
macros_apart scope (m ∷ ms) h =
    let own = macro_keys scope (unplaced_macro m) in
    let more = all_keys (suc scope) (map unplaced_macro ms) in
    (macro_apart scope m (different_front own more h), macros_apart (suc scope) ms (different_behind own more h))

-- ---- the names of macros among all that is declared

abbrev is_macro_kind : Kind → Bool
is_macro_kind Constant = false
is_macro_kind Macro = true
is_macro_kind Parameter = false
is_macro_kind Formal = false
is_macro_kind Label = false

abbrev is_macro : Key → Bool
is_macro k = is_macro_kind k.kind

none_kept : (a b : List Key) → filter is_macro a ≡ [] → filter is_macro b ≡ [] → filter is_macro (a ++ b) ≡ []
none_kept a b e f = filter-append is_macro a b ∙ rw (e, f) refl

no_constants_kept : (cs : List tree.Assignment) → filter is_macro (constant_keys cs) ≡ []
no_constants_kept [] = refl
no_constants_kept (c ∷ cs) = no_constants_kept cs

no_parameters : (scope : ℕ) (ps : List tree.Assignment) → filter is_macro (parameter_keys scope ps) ≡ []
no_parameters scope [] = refl
no_parameters scope (p ∷ ps) = no_parameters scope ps

no_formals : (scope : ℕ) (fs : List tree.Formal) → filter is_macro (formal_keys scope fs) ≡ []
no_formals scope [] = refl
no_formals scope (f ∷ fs) = no_formals scope fs

no_labels : (scope : ℕ) (names : List (List ℕ)) → filter is_macro (map (key scope Label) names) ≡ []
no_labels scope [] = refl
no_labels scope (name ∷ names) = no_labels scope names

no_body : (scope : ℕ) (ss : tree.Statements) → filter is_macro (keys_of (labels scope ss)) ≡ []
no_body scope ss = ap (filter is_macro) (label_keys scope ss) ∙ no_labels scope (well.labels ss)

abbrev macro_name : tree.Macro → List ℕ
macro_name m = m.name

one_macro : (scope : ℕ) (m : tree.Macro) → filter is_macro (macro_keys scope m) ≡ key 0 Macro m.name ∷ []
one_macro scope m =
    let ps = parameter_keys scope m.params in
    let ins = formal_keys scope m.ins in
    let outs = formal_keys scope m.outs in
    let own = keys_of (labels scope m.body) in
    ap (λ (ks : List Key). key 0 Macro m.name ∷ ks) (none_kept (ps ++ (ins ++ outs)) own
    (none_kept ps (ins ++ outs) (no_parameters scope m.params) (none_kept ins outs (no_formals scope m.ins) (no_formals scope m.outs)))
    (no_body scope m.body))

macros_kept : (scope : ℕ) (ms : List tree.Macro) → filter is_macro (all_keys scope (map unplaced_macro ms)) ≡ map (key 0 Macro) (map macro_name ms)
macros_kept scope [] = refl
macros_kept scope (m ∷ ms) =
    filter-append is_macro (macro_keys scope (unplaced_macro m)) (all_keys (suc scope) (map unplaced_macro ms))
    ∙ (ap (λ (ks : List Key). ks ++ filter is_macro (all_keys (suc scope) (map unplaced_macro ms))) (one_macro scope (unplaced_macro m))
    ∙ ap (λ (ks : List Key). key 0 Macro m.name ∷ ks) (macros_kept (suc scope) ms))

primitives_kept : filter is_macro primitives ≡ map (key 0 Macro) primitive_names
unfolding primitives
primitives_kept = refl

kinds_kept : (cs : List tree.Assignment) (ms : List tree.Macro) (own : List Key) → filter is_macro own ≡ [] →
    filter is_macro (primitives ++ (constant_keys cs ++ (all_keys 0 (map unplaced_macro ms) ++ own)))
    ≡ map (key 0 Macro) (primitive_names ++ map macro_name ms)
kinds_kept cs ms own e =
    let all = all_keys 0 (map unplaced_macro ms) in
    let consts = constant_keys cs in
    filter-append is_macro primitives (consts ++ (all ++ own))
    ∙ (ap (λ (ks : List Key). ks ++ filter is_macro (consts ++ (all ++ own))) primitives_kept
    ∙ (ap (λ (ks : List Key). map (key 0 Macro) primitive_names ++ ks) (filter-append is_macro consts (all ++ own)
    ∙ (ap (λ (ks : List Key). ks ++ filter is_macro (all ++ own)) (no_constants_kept cs)
    ∙ (filter-append is_macro all own
    ∙ (ap (λ (ks : List Key). filter is_macro all ++ ks) e ∙ (append-nil (filter is_macro all) ∙ macros_kept 0 ms)))))
    ∙ sym (map-append (key 0 Macro) primitive_names (map macro_name ms))))

-- ---- the drawing

-- all that is different in a drawing
record AllApart (cs : List tree.Assignment) (ms : List tree.Macro) (body : tree.Statements) : Type 0 where
  consts : well.AreDifferent (map (λ c. c.name) cs)
  macros : AllByRecursion IsApart ms
  labels : well.AreDifferent (well.labels body)
  kinds : well.AreDifferent (primitive_names ++ map macro_name ms)

all_apart : (cs : PlacedConstants) (ms : List tree.Macro) (hs : List Head) (body : tree.Statements) → AreConstantsOf cs → AreHeads ms hs →
    IsDistinct (declared cs.constants cs.name_places ms hs body) → AllApart cs.constants ms body
all_apart cs ms hs body placed heads h =
    let consts = constant_keys cs.constants in
    let all = all_keys 0 (map unplaced_macro ms) in
    let own = keys_of (labels (length ms) body) in
    let F : List Key → Type 0 = λ ks. AreDifferent ks in
    let G : List Key → Type 0 = λ ks. AreDifferent (primitives ++ ks) in
    let rest : keys_of (macros_declared 0 ms hs ++ labels (length ms) body) ≡ all ++ own =
    map-append the_key (macros_declared 0 ms hs) (labels (length ms) body) ∙ ap (λ (ks : List Key). ks ++ own) (macros_are 0 ms hs heads) in
    let parts : keys_of (declared cs.constants cs.name_places ms hs body) ≡ consts ++ (all ++ own) =
    map-append the_key (constants cs.constants cs.name_places) (macros_declared 0 ms hs ++ labels (length ms) body)
    ∙ (ap (λ (ks : List Key). ks ++ keys_of (macros_declared 0 ms hs ++ labels (length ms) body)) (constants_are cs.constants cs.name_places placed.name_places)
    ∙ ap (λ (ks : List Key). consts ++ ks) rest) in
    let every : AreDifferent (primitives ++ (consts ++ (all ++ own))) = subst G parts h in
    let declared : AreDifferent (consts ++ (all ++ own)) = different_behind primitives (consts ++ (all ++ own)) every in
    let written : AreDifferent (all ++ own) = different_behind consts (all ++ own) declared in
    record {
      consts = names_different 0 Constant (λ c. c.name) cs.constants (different_front consts (all ++ own) declared);
      macros = macros_apart 0 ms (different_front all own written);
      labels = labels_different (length ms) body (different_behind all own written);
      kinds = texts_different 0 Macro (primitive_names ++ map macro_name ms)
          (subst F (kinds_kept cs.constants ms own (no_body (length ms) body))
          (AllPairs-filter (λ a b. a ≢ b) is_macro (primitives ++ (consts ++ (all ++ own))) every));
    }

macros_good : (v : Edition) (h : Header) (ms : List tree.Macro) → AllByRecursion (IsMacroOf (λ n. IsGoodName h n) v) ms → AllByRecursion IsApart ms → AllByRecursion (IsGoodMacro h) ms
macros_good v h [] a b = tt
macros_good v h (m ∷ ms) a b = (macro_good h v m a.0 b.0.params b.0.formals b.0.labels, macros_good v h ms a.1 b.1)

sketch_good : (v : Edition) (h : Header) (s : Sketch) → judged s.header ≡ Ok h → IsSketchOf (λ n. IsGoodName h n) v s → IsDistinct (declared_by s) → IsWellFormed (drawing_of_sketch s)
sketch_good v h s e proper distinct =
    let said = judged_ok s.header h e in
    let apart = all_apart s.consts s.macros.macros s.macros.heads s.body proper.consts proper.macros.heads distinct in
    let to_h : h ≡ header_of s.header = sym said.0 in
    let M : Header → Type 0 = λ x. All (IsGoodMacro x) s.macros.macros in
    let B : Header → Type 0 = λ x. IsGoodBody x s.body in
    let C : Header → Type 0 = λ x. All (IsGoodCase x) s.cases in
    record {
      version = said.1;
      header = subst IsHeader to_h (header_may_be s.header h e);
      consts = consts_good s.consts.constants proper.consts.constants;
      const_places = proper.consts.places;
      name = proper.name;
      macros = subst M to_h (All-from_recursion (IsGoodMacro h) s.macros.macros (macros_good v h s.macros.macros proper.macros.macros apart.macros));
      body = subst B to_h (body_good h v s.body proper.body apart.labels);
      cases = subst C to_h (cases_good h v s.cases proper.cases);
      different_consts = apart.consts;
      different_kinds = apart.kinds;
    }

-- Each drawing that a text draws is well formed.
pub well_formed : (text : List ℕ) (tokens : List lex.Token) (d : tree.Drawing) → AreTokens text tokens → Draws (lexemes text tokens) d → IsWellFormed d
well_formed text tokens d are draws =
    let w = draws.written in
    let ts = lexemes text tokens in
    let N : List Naming → Type 0 = λ ns. AreGood d.header ns in
    let named : names w ≡ names_from false ts = names_of_text (edition_of ts) w ∙ ap (λ (xs : List Lexeme). names_from false xs) draws.text.spelled in
    let proper = sketch_proper (edition_of ts) d.header text tokens w are draws.text.spelled (subst N named draws.names) in
    subst IsWellFormed draws.stands (sketch_good (edition_of ts) d.header (values w).0 draws.header proper draws.distinct)
