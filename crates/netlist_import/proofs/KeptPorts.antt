-- The ports of a kind, each name once.
use Rattle.std.proofs.Common.{◌≡◌, ℕ, zero, suc, ◌+◌, Bool, true, false, cond, ◌&&◌, ◌||◌, ◌==◌, List, [], ◌∷◌, ◌++◌, length, map, take, refl, sym, ap, ◌∙◌, arith, Option, Some, None, is_some}
use Rattle.std.specs.Prelude.{not, slice_get}
use Rattle.std.specs.List.{list_any, IsDistinct}
use Rattle.std.specs.Map.{keys_of, lookup}
use Rattle.std.specs.Str.{bytes_eq}
use Rattle.std.specs.Cmp.Lexicographic.{nat_list_eq_equiv}
use Rattle.std.proofs.lemmas.Bool.Decides.{nat_tests}
use Rattle.std.proofs.lemmas.Map.{NonePasses}
use Rattle.std.proofs.lemmas.Map.Entries.{none_past_head}
use Rattle.std.proofs.lemmas.Map.Keys.{IsDistinct-tail}
use Rattle.std.proofs.lemmas.Slice.Eq.{bytes_eq-Decides}
use Rattle.netlist_import.specs.declared.netlist.Port.{Port}
use Rattle.netlist_import.specs.declared.kind_ports.PortForm.{PortForm}
use Rattle.netlist_import.specs.declared.shapes.Formal.{Formal}
use Rattle.netlist_import.specs.Kinds.{differs, is_named, is_same_way}
use Rattle.netlist_import.specs.KindPorts.{formal_in}

bytes_eq_sym : (a b : List ℕ) → bytes_eq a b ≡ bytes_eq b a
bytes_eq_sym a b = grind (arith, nat_tests, bytes_eq-Decides)

pub twice_not : (b : Bool) → b ≡ not (not b)
twice_not true = refl
twice_not false = refl

pub none_there : {A : Type 0} (o : Option A) → is_some o ≡ false → o ≡ None
none_there None h = refl
none_there (Some x) h = absurd cc

-- ---- a port of a name

pub named_at : (name : List ℕ) (es : List (List ℕ × PortForm)) →
    list_any (is_named name) (map formal_in es) ≡ is_some (lookup (bytes_eq name) es)
named_at name [] = refl
named_at name (e ∷ es) = ap (λ (b : Bool). b || list_any (is_named name) (map formal_in es))
    (bytes_eq_sym e.0 name) ∙ at (bytes_eq name e.0) (named_at name es)
  where
    at : (b : Bool) →
        list_any (is_named name) (map formal_in es) ≡ is_some (lookup (bytes_eq name) es) →
        (b || list_any (is_named name) (map formal_in es))
        ≡ is_some (cond b (Some e.1) (lookup (bytes_eq name) es))
    at true h = refl
    at false h = h

-- ---- a port that differs from a connection

-- what stands beside a name is of another direction or width
abbrev pub form_differs : Port → Option PortForm → Bool
form_differs p None = false
form_differs p (Some f) = not (is_same_way f.direction p.direction && f.width == length p.bits)

none_differs : (p : Port) (es : List (List ℕ × PortForm)) → NonePasses (bytes_eq p.name) es →
    list_any (differs p) (map formal_in es) ≡ false
none_differs p [] h = refl
none_differs p (e ∷ es) h =
    ap (λ (b : Bool). (b && form_differs p (Some e.1)) || list_any (differs p) (map formal_in es))
    (bytes_eq_sym e.0 p.name ∙ h.0) ∙ none_differs p es h.1

pub differs_at : (p : Port) (es : List (List ℕ × PortForm)) → IsDistinct bytes_eq (keys_of es) →
    list_any (differs p) (map formal_in es) ≡ form_differs p (lookup (bytes_eq p.name) es)
differs_at p [] d = refl
differs_at p (e ∷ es) d =
    ap (λ (b : Bool). (b && form_differs p (Some e.1)) || list_any (differs p) (map formal_in es))
    (bytes_eq_sym e.0 p.name)
    ∙ at (bytes_eq p.name e.0) refl
    (differs_at p es (IsDistinct-tail bytes_eq e.0 (keys_of es) d))
  where
    or_nothing : (b c : Bool) → c ≡ false → (b || c) ≡ b
    or_nothing true c h = refl
    or_nothing false c h = h

    at : (b : Bool) → bytes_eq p.name e.0 ≡ b →
        list_any (differs p) (map formal_in es) ≡ form_differs p (lookup (bytes_eq p.name) es) →
        ((b && form_differs p (Some e.1)) || list_any (differs p) (map formal_in es))
        ≡ form_differs p (cond b (Some e.1) (lookup (bytes_eq p.name) es))
    at true t h = or_nothing (form_differs p (Some e.1)) (list_any (differs p) (map formal_in es))
        (none_differs p es (none_past_head nat_list_eq_equiv p.name e es d t))
    at false t h = h

-- ---- the ports one after another

pub taken_more : {A B : Type 0} (f : A → B) (xs : List A) (i : ℕ) (x : A) →
    slice_get xs i ≡ Some x → take (i + 1) (map f xs) ≡ take i (map f xs) ++ f x ∷ []
taken_more {A} {B} f xs i x h =
    let one : i + 1 ≡ suc i = omega arith in
    ap (λ (n : ℕ). take n (map f xs)) one ∙ by xs i h
  where
    by : (ys : List A) (j : ℕ) → slice_get ys j ≡ Some x →
        take (suc j) (map f ys) ≡ take j (map f ys) ++ f x ∷ []
    by [] j h = absurd cc
    by (y ∷ ys) zero h = let e : y ≡ x = cc in ap (λ (z : A). f z ∷ []) e
    by (y ∷ ys) (suc j) h = ap (λ (zs : List B). f y ∷ zs) (by ys j h)
