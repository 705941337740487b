-- There is a kind of a name exactly if one of the names is it.
use Rattle.std.proofs.Common.{◌≡◌, ℕ, Bool, true, false, ◌||◌, cond, List, [], ◌∷◌, map, refl, Option, Some, is_some}
use Rattle.std.specs.List.{find, list_any}
use Rattle.std.specs.Str.{bytes_eq}
use Rattle.element_kinds.specs.declared.kind.Kind.{Kind}
use Rattle.element_kinds.specs.Kinds.{name_of, is_named, kinds, kind_names, kind_of}

found_by : (test rest : Bool) (kind : Kind) (found : Option Kind) → is_some found ≡ rest →
    is_some (cond test (Some kind) found) ≡ (test || rest)
found_by true rest kind found same = refl
found_by false rest kind found same = same

some_of_these : (name : List ℕ) (ks : List Kind) →
    is_some (find (is_named name) ks) ≡ list_any (bytes_eq name) (map name_of ks)
some_of_these name [] = refl
some_of_these name (k ∷ ks) =
    found_by (is_named name k) (list_any (bytes_eq name) (map name_of ks)) k (find (is_named name) ks)
    (some_of_these name ks)

pub some_kind_is_named : (name : List ℕ) → is_some (kind_of name) ≡ list_any (bytes_eq name) kind_names
some_kind_is_named name = some_of_these name kinds
