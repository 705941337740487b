-- Nets of no loop that pins are on, one pin after the other.
use Rattle.std.proofs.Common.{◌≡◌, ℕ, ◌+◌, ◌<◌, Bool, true, false, cond, not, List, [], ◌∷◌, ◌++◌, length, take, get_or, refl, sym, ap, ◌∙◌, is_some, Option, Some, None, append-nil}
use Rattle.std.specs.List.{filter_map}
use Rattle.std.proofs.lemmas.Bool.{eq-eqb}
use Rattle.std.proofs.lemmas.List.{take_more}
use Rattle.std.proofs.lemmas.List.Elements.{filter_map-append}
use Rattle.flat_circuit.specs.declared.instance.Pin.{Pin}
use Rattle.drawing_notes.specs.Arrivals.{unlooped}
use Rattle.drawing_notes.specs.Parts.{part_at, same_part, together}
use Rattle.drawing_notes.specs.Paths.{is_looped}

module _ (h : Pin → Option ℕ) (pins : List Pin) (k : ℕ) (p : Pin) (below : k < length pins) where
  one_more : filter_map h (take (k + 1) pins) ≡ filter_map h (take k pins) ++ filter_map h (get_or pins k p ∷ [])
  one_more = ap (filter_map h) (take_more pins k p below) ∙ filter_map-append h (take k pins) (get_or pins k p ∷ [])

  pub filter_some : (net : ℕ) → h (get_or pins k p) ≡ Some net → filter_map h (take (k + 1) pins) ≡ filter_map h (take k pins) ++ net ∷ []
  filter_some net is = let one : filter_map h (get_or pins k p ∷ []) ≡ net ∷ [] = rw is refl in one_more ∙ ap (λ (l : List ℕ). filter_map h (take k pins) ++ l) one

  pub filter_none : h (get_or pins k p) ≡ None → filter_map h (take (k + 1) pins) ≡ filter_map h (take k pins)
  filter_none is =
      let none : filter_map h (get_or pins k p ∷ []) ≡ [] = rw is refl in
      one_more ∙ ap (λ (l : List ℕ). filter_map h (take k pins) ++ l) none ∙ append-nil (filter_map h (take k pins))

-- ---- whether a net is on a loop, by its part

pub is_free : (parts : List (Option ℕ)) (net : ℕ) (p : Option ℕ) (b : Bool) → p ≡ part_at parts net → is_some p ≡ not b → b ≡ true → is_looped (together parts) net ≡ false
is_free parts net None b is none set = ap (λ (q : Option ℕ). same_part q q) (sym is)
is_free parts net (Some root) b is none set = let wrong : true ≡ false = none ∙ ap not set in absurd cc

pub on_loop : (parts : List (Option ℕ)) (net : ℕ) (p : Option ℕ) (b : Bool) → p ≡ part_at parts net → is_some p ≡ not b → b ≡ false → is_looped (together parts) net ≡ true
on_loop parts net None b is none unset = let wrong : false ≡ true = none ∙ ap not unset in absurd cc
on_loop parts net (Some root) b is none unset = ap (λ (q : Option ℕ). same_part q q) (sym is) ∙ eq-eqb root root refl

pub open_free : (looped : ℕ → Bool) (o : Option ℕ) (net : ℕ) → o ≡ Some net → looped net ≡ false → unlooped looped o ≡ Some net
open_free looped o net is free = ap (unlooped looped) is ∙ ap (λ b. cond b None (Some net)) free

pub open_looped : (looped : ℕ → Bool) (o : Option ℕ) (net : ℕ) → o ≡ Some net → looped net ≡ true → unlooped looped o ≡ None
open_looped looped o net is on = ap (unlooped looped) is ∙ ap (λ b. cond b None (Some net)) on

pub open_none : (looped : ℕ → Bool) (o : Option ℕ) → o ≡ None → unlooped looped o ≡ None
open_none looped o is = ap (unlooped looped) is
