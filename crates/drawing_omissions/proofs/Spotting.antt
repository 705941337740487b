-- The places of FORs, one macro and one finding after the other.
use Rattle.std.proofs.Common.{◌≡◌, ℕ, ◌+◌, ◌<◌, ◌==◌, ◌&&◌, ◌||◌, not, Bool, true, false, cond, List, [], ◌∷◌, ◌++◌, length, map, take, get_or, refl, sym, ap, subst, ◌∙◌}
use Rattle.std.specs.Prelude.{if◌then◌else◌}
use Rattle.std.specs.List.{flat_map, list_any}
use Rattle.std.proofs.Math.Bool.{or-false}
use Rattle.std.proofs.lemmas.Bool.{and_parts, eqb-true}
use Rattle.std.proofs.lemmas.List.{flat_map_more, map_more}
use Rattle.std.proofs.lemmas.List.Folds.{list_any-append, list_any_more}
use Rattle.indexmap.specs.IndexSet.{insert_key}
use Rattle.scald_base.specs.declared.refusal.Place.{Place}
use Rattle.drawing_tree.specs.declared.drawing.MacroDef.{MacroDef}
use Rattle.drawing_tree.specs.Tree.{Macro, macro_of}
use Rattle.drawing_omissions.specs.declared.fors.Spot.{Spot}
use Rattle.drawing_omissions.specs.declared.spread.Finding.{Finding}
use Rattle.drawing_omissions.specs.Fors.{AreWhere, empty_at, empty_line, fors_in_macro, is_among, is_empty, is_reached, is_turned, same_place, same_spot, spot_of}
use Rattle.drawing_omissions.proofs.Anys.{kept_same}

-- of one macro more
pub macros_more : (ms : List MacroDef) (k : ℕ) (m : MacroDef) (first old new : List Place) → k < length ms → m ≡ get_or ms k m →
    old ≡ first ++ flat_map fors_in_macro (map macro_of (take k ms)) → new ≡ old ++ fors_in_macro (macro_of m) →
    new ≡ first ++ flat_map fors_in_macro (map macro_of (take (k + 1) ms))
macros_more ms k m first old new below at before more =
    more ∙ ap (λ (l : List Place). l ++ fors_in_macro (macro_of m)) before
    ∙ flat_map_more fors_in_macro first (map macro_of (take k ms)) (macro_of m)
    ∙ ap (λ (n : MacroDef). first ++ flat_map fors_in_macro (map macro_of (take k ms) ++ macro_of n ∷ [])) at
    ∙ ap (λ (l : List Macro). first ++ flat_map fors_in_macro l) (sym (map_more macro_of ms k m below))

spots_same : (a b : Spot) → same_spot a b ≡ true → a ≡ b
spots_same a b is =
    let parts = and_parts (a.line == b.line) (a.col == b.col) is in
    let line = eqb-true a.line b.line parts.0 in
    let col = eqb-true a.col b.col parts.1 in
    λ k. record { line = line k; col = col k }

-- a place is put
pub puts_spot : {eq : Spot → Spot → Bool} (old new : List Spot) (k : Spot) (p : Place) → new ≡ insert_key eq old k →
    ((a b : Spot) → eq a b ≡ same_spot a b) → k ≡ spot_of p → (place : Place) → is_among new place ≡ (is_among old place || same_place place p)
puts_spot {eq} old new k p put same at place =
    by (list_any (eq k) old) refl ∙ ap (λ (s : Spot). is_among old place || same_spot (spot_of place) s) at
  where
    there : list_any (eq k) old ≡ list_any (same_spot k) old
    there = ap (λ (q : Spot → Bool). list_any q old) (λ i x. same k x i)

    by : (b : Bool) → list_any (eq k) old ≡ b → is_among new place ≡ (is_among old place || same_spot (spot_of place) k)
    by true e =
        let kept : new ≡ old = put ∙ ap (λ c. if c then old else old ++ k ∷ []) e in
        ap (λ keys. is_among keys place) kept
        ∙ kept_same (is_among old place) (same_spot (spot_of place) k)
        (λ is. ap (λ (s : Spot). list_any (same_spot s) old) (spots_same (spot_of place) k is) ∙ sym there ∙ e)
    by false e =
        let more : new ≡ old ++ k ∷ [] = put ∙ ap (λ c. if c then old else old ++ k ∷ []) e in
        ap (λ keys. is_among keys place) more
        ∙ list_any-append (same_spot (spot_of place)) old (k ∷ [])
        ∙ ap (λ b. is_among old place || b) (or-false (same_spot (spot_of place) k))

-- of one finding more
pub where_more : (test : Place → Finding → Bool) (found : List Finding) (k : ℕ) (f : Finding) (old new : List Spot) → k < length found → f ≡ get_or found k f →
    AreWhere test (take k found) old → ((place : Place) → is_among new place ≡ (is_among old place || test place f)) → AreWhere test (take (k + 1) found) new
where_more test found k f old new below at before put place =
    put place ∙ ap (λ b. b || test place f) (before place)
    ∙ ap (λ (x : Finding). list_any (test place) (take k found) || test place x) at
    ∙ sym (list_any_more (test place) found k f below)

-- by both sets
pub empty_by : (found : List Finding) (reached turned : List Spot) (place : Place) → AreWhere is_reached found reached → AreWhere is_turned found turned →
    (is_among reached place && not (is_among turned place)) ≡ is_empty found place
empty_by found reached turned place r t =
    ap (λ b. b && not (is_among turned place)) (r place) ∙ ap (λ b. list_any (is_reached place) found && not b) (t place)

pub empty_noted : (found : List Finding) (place : Place) → is_empty found place ≡ true → empty_at found place ≡ empty_line place ∷ []
empty_noted found place is = ap (λ b. cond b (empty_line place ∷ []) []) is

pub empty_none : (found : List Finding) (place : Place) → is_empty found place ≡ false → empty_at found place ≡ []
empty_none found place is = ap (λ b. cond b (empty_line place ∷ []) []) is
