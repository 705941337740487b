-- The names of macros are words, and differ.
use Rattle.std.proofs.Common.{◌≡◌, ℕ, ◌+◌, ◌<◌, ◌^◌, Bool, true, false, ◌&&◌, List, [], ◌∷◌, ◌++◌, length, map, refl, sym, ap, subst, ◌∙◌, arith}
use Rattle.std.specs.Prelude.{not}
use Rattle.std.specs.List.{AllByRecursion, IsDistinct, list_all, list_any}
use Rattle.std.specs.Str.{bytes_eq}
use Rattle.std.proofs.lemmas.Bool.{and_parts, or_parts}
use Rattle.std.proofs.lemmas.List.Elements.{All-from_recursion}
use Rattle.element_kinds.specs.Kinds.{kind_names}
use Rattle.drawing_tree.specs.WellFormed.{IsFreeWord}
use Rattle.netlist_import.specs.declared.netlist.Module.{Module}
use Rattle.netlist_import.specs.Words.{is_primitive, kind_word_of}
use Rattle.netlist_import.specs.Fresh.{fresh, names_after}
use Rattle.netlist_import.specs.Kinds.{all_kinds, formals_of}
use Rattle.netlist_import.specs.Shapes.{ports_wanted, shaped, shapes, words_wanted}
use Rattle.netlist_import.specs.Good.{AreMacroNames}
use Rattle.netlist_import.specs.declared.kinds.Kind.{Kind}
use Rattle.netlist_import.specs.declared.shapes.Formal.{Formal}
use Rattle.netlist_import.proofs.Distinct.{names_distinct, none_distinct, turned, was_new}
use Rattle.netlist_import.proofs.Named.{as_many_names}
use Rattle.netlist_import.proofs.WordBytes.{IsSpelledKind, fresh_other, fresh_word, spelled_kind}
use Rattle.drawing_tree.proofs.Every.{every_append}
use Rattle.std.proofs.lemmas.List.{length-append, length-map, length_push}

-- ---- lists whose texts differ

abbrev are_different : List (List ℕ) → Bool
are_different [] = true
are_different (x ∷ xs) = list_all (λ y. not (bytes_eq x y)) xs && are_different xs

each_different : (x : List ℕ) (xs : List (List ℕ)) → list_all (λ y. not (bytes_eq x y)) xs ≡ true →
    AllByRecursion (λ y. bytes_eq x y ≡ false) xs
each_different x [] e = tt
each_different x (y ∷ ys) e =
    let parts = and_parts (not (bytes_eq x y)) (list_all (λ z. not (bytes_eq x z)) ys) e in
    (was_new (bytes_eq x y) parts.0, each_different x ys parts.1)

by_test : (xs : List (List ℕ)) → are_different xs ≡ true → IsDistinct bytes_eq xs
unfolding IsDistinct
by_test [] e = tt
by_test (x ∷ xs) e =
    let parts = and_parts (list_all (λ y. not (bytes_eq x y)) xs) (are_different xs) e in
    (each_different x xs parts.0, by_test xs parts.1)

primitives_differ : IsDistinct bytes_eq kind_names
primitives_differ = by_test kind_names refl

abbrev AreNone : List (List ℕ) → List (List ℕ) → Type 0
AreNone ks names = AllByRecursion (λ n. list_any (bytes_eq n) ks ≡ false) names

first_none : (k : List ℕ) (ks names : List (List ℕ)) → AreNone (k ∷ ks) names →
    AllByRecursion (λ n. bytes_eq k n ≡ false) names
first_none k ks [] none = tt
first_none k ks (n ∷ names) none =
    let parts = or_parts (bytes_eq n k) (list_any (bytes_eq n) ks) none.0 in
    (turned n k parts.0, first_none k ks names none.1)

others_none : (k : List ℕ) (ks names : List (List ℕ)) → AreNone (k ∷ ks) names → AreNone ks names
others_none k ks [] none = tt
others_none k ks (n ∷ names) none =
    let parts = or_parts (bytes_eq n k) (list_any (bytes_eq n) ks) none.0 in
    (parts.1, others_none k ks names none.1)

distinct_both : (ks names : List (List ℕ)) → IsDistinct bytes_eq ks → IsDistinct bytes_eq names →
    AreNone ks names → IsDistinct bytes_eq (ks ++ names)
unfolding IsDistinct
distinct_both [] names a b none = b
distinct_both (k ∷ ks) names a b none = (
  every_append (λ y. bytes_eq k y ≡ false) ks names a.0 (first_none k ks names none),
  distinct_both
      ks names a.1 b (others_none k ks names none),
)

-- ---- names of one place

pub names_each : (P Q : List ℕ → Type 0) → ((taken : List (List ℕ)) (name : List ℕ) →
    length taken < 2 ^ 64 → Q name → P (fresh taken name)) →
    (taken names : List (List ℕ)) → length taken + length names < 2 ^ 64 → AllByRecursion Q names →
    AllByRecursion P (names_after taken names)
unfolding names_after
names_each P Q by taken [] small all = tt
names_each P Q by taken (name ∷ names) small all =
    let more : length (taken ++ fresh taken name ∷ []) ≡ length taken + 1 =
    length_push taken (fresh taken name) in (
      by taken name (omega arith) all.0,
      names_each P Q by (taken ++ fresh taken name ∷ []) names
          (omega arith) all.1,
    )

-- ---- macros

mapped_kinds : {A : Type 0} (f : A → List ℕ) (xs : List A) →
    AllByRecursion IsSpelledKind (map (λ x. kind_word_of (f x)) xs)
mapped_kinds f [] = tt
mapped_kinds f (x ∷ xs) = (spelled_kind (f x), mapped_kinds f xs)

words_kinds : (ms : List Module) → AllByRecursion IsSpelledKind (words_wanted ms)
words_kinds ms =
    every_append IsSpelledKind (map (λ (m : Module). kind_word_of m.name) ms)
    (map (λ (k : Kind). kind_word_of k.kind) (all_kinds ms))
    (mapped_kinds (λ (m : Module). m.name) ms) (mapped_kinds (λ (k : Kind). k.kind) (all_kinds ms))

as_many_ports : (ms : List Module) → length (words_wanted ms) ≡ length (ports_wanted ms)
as_many_ports ms =
    let words = map (λ (m : Module). kind_word_of m.name) ms in
    let kinds = map (λ (k : Kind). kind_word_of k.kind) (all_kinds ms) in
    let ports = map (λ (m : Module). formals_of m.ports) ms in
    let others = map (λ (k : Kind). k.ports) (all_kinds ms) in
    let a = length-append words kinds in
    let b = length-append ports others in
    let c = length-map ms (λ (m : Module). kind_word_of m.name) in
    let d = length-map (all_kinds ms) (λ (k : Kind). kind_word_of k.kind) in
    let e = length-map ms (λ (m : Module). formals_of m.ports) in
    let f = length-map (all_kinds ms) (λ (k : Kind). k.ports) in
    omega arith

shaped_names : (names : List (List ℕ)) (ports : List (List Formal)) → length names ≡ length ports →
    map (λ s. s.name) (shaped names ports) ≡ names
unfolding shaped
shaped_names [] ports e = refl
shaped_names (name ∷ names) [] e = absurd (cc)
shaped_names (name ∷ names) (p ∷ ports) e = ap (λ (ns : List (List ℕ)). name ∷ ns)
    (shaped_names names ports (cc))

shapes_named : (ms : List Module) → map (λ s. s.name) (shapes ms) ≡ names_after [] (words_wanted ms)
shapes_named ms =
    shaped_names (names_after [] (words_wanted ms)) (ports_wanted ms)
    (as_many_names [] (words_wanted ms) ∙ as_many_ports ms)

named_count : (ms : List Module) → length (shapes ms) ≡ length (words_wanted ms)
named_count ms =
    sym (length-map (shapes ms) (λ s. s.name)) ∙ ap (λ (ns : List (List ℕ)). length ns)
    (shapes_named ms) ∙ as_many_names [] (words_wanted ms)

pub macros_named : (ms : List Module) → length (shapes ms) < 2 ^ 64 →
    AreMacroNames (map (λ s. s.name) (shapes ms))
macros_named ms small =
    let words = words_wanted ms in
    let count = named_count ms in
    let few : 0 + length words < 2 ^ 64 = omega arith in
    let kinds = words_kinds ms in
    let free = names_each IsFreeWord IsSpelledKind
    (λ taken name few is. fresh_word taken name few is.spelled) [] words few kinds in
    let others = names_each (λ w. is_primitive w ≡ false) IsSpelledKind fresh_other [] words few
    kinds in
    subst AreMacroNames (sym (shapes_named ms)) (record {
      words = All-from_recursion IsFreeWord (names_after [] words) free;
      different = distinct_both kind_names (names_after [] words) primitives_differ
          (names_distinct [] words none_distinct few) others;
    })
