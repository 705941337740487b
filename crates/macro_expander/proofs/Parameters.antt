-- Parameters that a use gives, looked up by their names.
use Rattle.std.proofs.Common.{◌≡◌, ℕ, zero, suc, ◌+◌, ◌<◌, Bool, true, false, not, ◌&&◌, ◌||◌, List, [], ◌∷◌, length, drop, get_or, map, Option, Some, None, refl, ap, sym, ◌∙◌, subst, arith}
use Rattle.std.specs.List.{find, list_any}
use Rattle.std.specs.Option.{is_some, option_copied}
use Rattle.std.specs.Map.{lookup}
use Rattle.std.specs.Str.{bytes_eq}
use Rattle.std.specs.Global.{Vec}
use Rattle.std.proofs.lemmas.List.{drop_more}
use Rattle.drawing_tree.specs.declared.statement.Assign.{Assign}
use Rattle.drawing_tree.specs.Tree.{assignment_of}
use Rattle.macro_expander.specs.Terms.{bit_at_place}
use Rattle.macro_expander.specs.Primitives.{assigns, are_of}
use Rattle.macro_expander.specs.Places.{LeadTo, assigned_name}
use Rattle.macro_expander.specs.Parameters.{KnownBehind}
use Rattle.macro_expander.proofs.Leading.{Place, leads_more}
use Rattle.macro_expander.proofs.Lists.{found_any}
use Rattle.indexmap.specs.IndexMap.{insert_entry}
use denote.Ref.{Bor}

any_map : (name : List ℕ) (xs : List Assign) → list_any (λ x. bytes_eq (assigned_name x) name) xs ≡ list_any (assigns name) (map assignment_of xs)
any_map name [] = refl
any_map name (x ∷ xs) = ap (λ b. bytes_eq x.name name || b) (any_map name xs)

-- whether a look-up finds one is whether one has the name
pub found_given : (name : List ℕ) (xs : List Assign) (r : Option (Bor Assign)) →
    option_copied r ≡ find (λ x. bytes_eq (assigned_name x) name) xs → is_some r ≡ list_any (assigns name) (map assignment_of xs)
found_given name xs r e = copied r ∙ ap is_some e ∙ found_any (λ x. bytes_eq (assigned_name x) name) xs ∙ any_map name xs
  where
    copied : (o : Option (Bor Assign)) → is_some o ≡ is_some (option_copied o)
    copied None = refl
    copied (Some b) = refl

-- ---- one more, before those that follow

unknown : (a b : Bool) → a && (b && false) ≡ false
unknown true true = refl
unknown true false = refl
unknown false b = refl

-- if those from a place on are not known, all are not
pub not_all : (known : List ℕ → Bool) (i : ℕ) (xs : List Assign) → are_of known (map assignment_of (drop i xs)) ≡ false → are_of known (map assignment_of xs) ≡ false
not_all known zero xs h = h
not_all known (suc i) [] h = h
not_all known (suc i) (x ∷ xs) h = rw (not_all known i xs h) (unknown (known x.name) (not (list_any (assigns x.name) (map assignment_of xs))))

module _ (known : List ℕ → Bool) (params : List Assign) (i : ℕ) (x : Assign) (below : i < length params) (is : x ≡ get_or params i x) where
  split : drop i params ≡ x ∷ drop (i + 1) params
  split = rw (drop_more params i x below, sym is) refl

  pub stays_known : (es : List Place) (k : Vec ℕ) → known x.name ≡ true →
      list_any (assigns x.name) (map assignment_of (drop (i + 1) params)) ≡ false → k.items ≡ x.name → KnownBehind known params es (i + 1) →
      KnownBehind known params (insert_entry (λ (a b : Vec ℕ). bytes_eq a.items b.items) es k i) i
  stays_known es k h alone name_is b = record {
    within = omega arith;
    leads = leads_more assigned_name es params i x k below is name_is b.leads;
    are = ap (λ xs. are_of known (map assignment_of xs)) split ∙ rw (h, alone, b.are) refl;
  }

  pub is_unknown : (name : List ℕ) (r : Bool) → name ≡ x.name → r ≡ known name → r ≡ false → are_of known (map assignment_of params) ≡ false
  is_unknown name r name_is e off =
      let unknown : known x.name ≡ false = sym (subst (λ (n : List ℕ). r ≡ known n) name_is e) ∙ off in
      not_all known i params (ap (λ (xs : List Assign). are_of known (map assignment_of xs)) split ∙ rw unknown refl)

  -- whether the look-up of its name finds one is whether one after it has the name
  pub found_behind : (es : List Place) (place : ℕ) (name : List ℕ) (r : Option (Bor Assign)) (found : Bool) → place ≡ i + 1 → name ≡ x.name →
      LeadTo assigned_name es params (drop place params) →
      option_copied r ≡ bit_at_place params (lookup (λ (k : Vec ℕ). bytes_eq name k.items) es) → found ≡ is_some r →
      found ≡ list_any (assigns x.name) (map assignment_of (drop (i + 1) params))
  found_behind es place name r found next name_is l h f =
      f
      ∙ subst (λ (n : ℕ). is_some r ≡ list_any (assigns x.name) (map assignment_of (drop n params))) next
      (subst (λ (n : List ℕ). is_some r ≡ list_any (assigns n) (map assignment_of (drop place params))) name_is (found_given name (drop place params) r (h ∙ l.first name)))

  pub comes_twice : list_any (assigns x.name) (map assignment_of (drop (i + 1) params)) ≡ true → are_of known (map assignment_of params) ≡ false
  comes_twice h = not_all known i params (ap (λ (xs : List Assign). are_of known (map assignment_of xs)) split
      ∙ rw h (nothing (known x.name) (are_of known (map assignment_of (drop (i + 1) params)))))
    where
      nothing : (a b : Bool) → a && (false && b) ≡ false
      nothing true b = refl
      nothing false b = refl
