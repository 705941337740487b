-- Declarations in a set are told apart by their keys.
use Rattle.std.proofs.Common.{◌≡◌, ℕ, zero, suc, Bool, true, false, ◌||◌, not, List, [], ◌∷◌, ◌++◌, map, refl, sym, ap, ◌∙◌, arith, subst, append_assoc, ◌⊎◌, inl, inr}
use Rattle.std.specs.Prelude.{if◌then◌else◌}
use Rattle.std.proofs.lemmas.List.{map_push}
use Rattle.std.specs.Prelude.{Contains, IsTrue, ◌≢◌}
use Rattle.drawing_tree.specs.WellFormed.{primitive_names}
use Rattle.std.specs.List.{list_any}
use Rattle.std.specs.Str.{bytes_eq}
use Rattle.std.proofs.lemmas.Slice.Eq.{bytes_eq-Decides}
use Rattle.std.proofs.lemmas.Bool.{not-false, not-true}
use Rattle.std.proofs.Math.Bool.{or-true}
use Rattle.drawing_reader.specs.declared.declared.Declared.{Declared}
use Rattle.drawing_grammar.specs.declared.declared.Kind.{Kind}
use Rattle.drawing_grammar.specs.declared.declared.Kind.TheVariants.{Macro}
use Rattle.drawing_reader.specs.contracts.declared.DeclaredPartialEq.TheImpl.{eq-value}
use Rattle.scald_base.specs.declared.refusal.Place.{Place}
use Rattle.drawing_grammar.specs.DoubleNames.{Key, key, Declaration, declaration, double_at, primitives, Repeats, Declares}
use Rattle.drawing_reader.specs.Keys.{key_of}
use Rattle.drawing_grammar.proofs.SameKeys.{same_parts, parts_same, later}
use Rattle.drawing_grammar.proofs.Doubles.{repeats_one, declares_one}

same_key : (a b : Declared) → eq-value.it a b ≡ true → key_of a ≡ key_of b
same_key a b h = let e = same_parts a.scope b.scope a.kind b.kind a.name.now b.name.now h in let p = e.0 in let q = e.1 in let r = e.2 in cc

key_same : (a b : Declared) → key_of a ≡ key_of b → eq-value.it a b ≡ true
key_same a b h = parts_same a.scope b.scope a.kind b.kind a.name.now b.name.now (ap (λ (k : Key). k.scope) h) (ap (λ (k : Key). k.kind) h) (ap (λ (k : Key). k.name) h)

-- the first is the key, or else it is among the others
found_by : (d x : Declared) (xs : List Declared) (b : Bool) → eq-value.it d x ≡ b → (list_any (eq-value.it d) xs ≡ true →
    Contains (map key_of xs) (key_of d)) → (b || list_any (eq-value.it d) xs) ≡ true → Contains (key_of x ∷ map key_of xs) (key_of d)
found_by d x xs true e rest h = (0, omega arith, sym (same_key d x e))
found_by d x xs false e rest h = later (map key_of xs) (key_of x) (key_of d) (rest h)

-- The set has a declaration exactly if its key is among their keys.
pub found_key : (d : Declared) (ds : List Declared) → list_any (eq-value.it d) ds ≡ true → Contains (map key_of ds) (key_of d)
found_key d [] h = absurd cc
found_key d (x ∷ xs) h = found_by d x xs (eq-value.it d x) refl (found_key d xs) h

pub key_found : (d : Declared) (ds : List Declared) → Contains (map key_of ds) (key_of d) → list_any (eq-value.it d) ds ≡ true
key_found d [] h = absurd (omega (arith, h.1))
key_found d (x ∷ xs) (zero, below, e) = ap (λ (b : Bool). b || list_any (eq-value.it d) xs) (key_same d x (sym e))
key_found d (x ∷ xs) (suc k, below, e) = ap (λ (b : Bool). eq-value.it d x || b) (key_found d xs (k, omega arith, e)) ∙ or-true (eq-value.it d x)

-- ---- keys of a front and of more after it

front_has : (front more : List Key) (k : Key) → Contains front k → Contains (front ++ more) k
front_has [] more k found = absurd (omega (arith, found.1))
front_has (x ∷ xs) more k (zero, below, e) = (0, omega arith, e)
front_has (x ∷ xs) more k (suc n, below, e) = later (xs ++ more) x k (front_has xs more k (n, omega arith, e))

more_has : (front more : List Key) (k : Key) → Contains more k → Contains (front ++ more) k
more_has [] more k found = found
more_has (x ∷ xs) more k found = later (xs ++ more) x k (more_has xs more k found)

either_has : (front more : List Key) (k : Key) → Contains (front ++ more) k → Contains front k ⊎ Contains more k
either_has [] more k found = inr found
either_has (x ∷ xs) more k (zero, below, e) = inl (0, omega arith, e)
either_has (x ∷ xs) more k (suc n, below, e) = elim (either_has xs more k (n, omega arith, e)) [ inl h ↦ inl (later xs x k h) | inr h ↦ inr h ]

pub neither_has : (front more : List Key) (k : Key) → (Contains front k → ⊥) → (Contains more k → ⊥) → Contains (front ++ more) k → ⊥
neither_has front more k f g found = elim (either_has front more k found) [ inl h ↦ f h | inr h ↦ g h ]

-- ---- the primitives

pub taken_key : (names : List (List ℕ)) (scope : ℕ) (kind : Kind) (name : List ℕ) →
    Contains (map (key 0 Macro) names) (key scope kind name) → (0 ≡ scope) × (Macro ≡ kind) × (list_any (bytes_eq name) names ≡ true)
taken_key [] scope kind name found = absurd (omega (arith, found.1))
taken_key (x ∷ xs) scope kind name (zero, below, e) =
    let same : x ≡ name = ap (λ (k : Key). k.name) e in
    let test : bytes_eq name x ≡ true = grind (arith, bytes_eq-Decides) in
    (ap (λ (k : Key). k.scope) e, ap (λ (k : Key). k.kind) e, ap (λ (b : Bool). b || list_any (bytes_eq name) xs) test)
taken_key (x ∷ xs) scope kind name (suc n, below, e) =
    let rest = taken_key xs scope kind name (n, omega arith, e) in
    (rest.0, rest.1, ap (λ (b : Bool). bytes_eq name x || b) rest.2 ∙ or-true (bytes_eq name x))

key_taken_by : (name x : List ℕ) (xs : List (List ℕ)) (b : Bool) → bytes_eq name x ≡ b →
    (list_any (bytes_eq name) xs ≡ true → Contains (map (key 0 Macro) xs) (key 0 Macro name)) →
    (b || list_any (bytes_eq name) xs) ≡ true → Contains (key 0 Macro x ∷ map (key 0 Macro) xs) (key 0 Macro name)
key_taken_by name x xs true e rest h = let same : x ≡ name = grind (arith, bytes_eq-Decides) in (0, omega arith, ap (key 0 Macro) same)
key_taken_by name x xs false e rest h = later (map (key 0 Macro) xs) (key 0 Macro x) (key 0 Macro name) (rest h)

pub key_taken : (names : List (List ℕ)) (name : List ℕ) → list_any (bytes_eq name) names ≡ true → Contains (map (key 0 Macro) names) (key 0 Macro name)
key_taken [] name h = absurd cc
key_taken (x ∷ xs) name h = key_taken_by name x xs (bytes_eq name x) refl (key_taken xs name) h

pub not_scope : (scope : ℕ) (kind : Kind) (name : List ℕ) → scope ≢ 0 → (IsTrue false → Contains primitives (key scope kind name)) × (Contains primitives (key scope kind name) → IsTrue false)
unfolding primitives
not_scope scope kind name other = (λ h. absurd cc, λ found. absurd (other (sym (taken_key primitive_names scope kind name found).0)))

pub not_kind : (scope : ℕ) (kind : Kind) (name : List ℕ) → (kind ≡ Macro → ⊥) → (IsTrue false → Contains primitives (key scope kind name)) × (Contains primitives (key scope kind name) → IsTrue false)
unfolding primitives
not_kind scope kind name other = (λ h. absurd cc, λ found. absurd (other (sym (taken_key primitive_names scope kind name found).1)))

pub taken_test : (scope : ℕ) (kind : Kind) (name : List ℕ) (taken : Bool) → scope ≡ 0 → kind ≡ Macro → taken ≡ list_any (bytes_eq name)
    primitive_names → (IsTrue taken → Contains primitives (key scope kind name)) × (Contains primitives (key scope kind name) → IsTrue taken)
unfolding primitives
taken_test scope kind name taken e f g =
    let same : key 0 Macro name ≡ key scope kind name = cc in
    let F : Key → Type 0 = λ k. Contains primitives k in
    (λ h. subst F same (key_taken primitive_names name (sym g ∙ h)), λ found. g ∙ (taken_key primitive_names scope kind name found).2)

-- ---- a declaration that is put into a set

pub taken_again : (front : List Key) (seen : List Declared) (d : Declared) (place : Place) (new : Bool) → new ≡ not (list_any (eq-value.it d) seen) →
    new ≡ false → Repeats (front ++ map key_of seen) (declaration d.scope d.kind d.name.now place ∷ []) (double_at place)
taken_again front seen d place new e f =
    repeats_one (front ++ map key_of seen) (declaration d.scope d.kind d.name.now place)
    (more_has front (map key_of seen) (key_of d) (found_key d seen (not-false (list_any (eq-value.it d) seen) (sym e ∙ f))))

pub taken_before : (front more : List Key) (d : Declaration) → Contains front d.key → Repeats (front ++ more) (d ∷ []) (double_at d.place)
taken_before front more d found = repeats_one (front ++ more) d (front_has front more d.key found)

pushed : (seen keys : List Declared) (d : Declared) (b : Bool) → keys ≡ (if b then seen else seen ++ d ∷ []) → b ≡ false → map key_of keys ≡ map key_of seen ++ key_of d ∷ []
pushed seen keys d true e f = absurd cc
pushed seen keys d false e f = ap (map key_of) e ∙ map_push key_of seen d

pub taken_new : (front : List Key) (seen keys : List Declared) (d : Declared) (place : Place) (new : Bool) → (Contains front (key_of d) → ⊥) →
    new ≡ not (list_any (eq-value.it d) seen) → new ≡ true → keys ≡ (if list_any (eq-value.it d) seen then seen else seen ++ d ∷ []) →
    Declares (front ++ map key_of seen) (front ++ map key_of keys) (declaration d.scope d.kind d.name.now place ∷ [])
taken_new front seen keys d place new free e f g =
    let none = not-true (list_any (eq-value.it d) seen) (sym e ∙ f) in
    let one = declaration d.scope d.kind d.name.now place in
    let more : front ++ map key_of keys ≡ (front ++ map key_of seen) ++ key_of d ∷ [] =
    ap (λ (ks : List Key). front ++ ks) (pushed seen keys d (list_any (eq-value.it d) seen) g none) ∙ sym (append_assoc front (map key_of seen) (key_of d ∷ [])) in
    let F : List Key → Type 0 = λ ks. Declares (front ++ map key_of seen) ks (one ∷ []) in
    subst F (sym more) (declares_one (front ++ map key_of seen) one
    (neither_has front (map key_of seen) (key_of d) free (λ found. let again : list_any (eq-value.it d) seen ≡ true = key_found d seen found in cc)))
