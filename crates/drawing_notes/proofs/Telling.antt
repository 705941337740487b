-- Loops, noted by the parts of their nets, one place of the name order after the other.
use Rattle.std.proofs.Common.{◌≡◌, ℕ, ◌+◌, ◌<◌, ◌==◌, ◌&&◌, ◌||◌, Bool, true, false, cond, not, List, [], ◌∷◌, length, take, count_by, refl, sym, ap, ◌∙◌, Option, Some, None}
use Rattle.std.specs.List.{list_any, range_with_len}
use Rattle.std.proofs.Math.Bool.{or-false}
use Rattle.std.proofs.Math.ListN.{set}
use Rattle.std.proofs.lemmas.Bool.{eqb-true, eq-eqb}
use Rattle.std.proofs.lemmas.List.Folds.{list_any_more}
use Rattle.flat_circuit.specs.Name.{net_at}
use Rattle.flat_circuit.specs.Circuit.{Circuit}
use Rattle.fixpoint_engine.specs.Settled.{marked_in}
use Rattle.fixpoint_engine.proofs.Listening.{same_order}
use Rattle.fixpoint_engine.proofs.Waiting.{marked_set}
use Rattle.drawing_notes.specs.Loops.{loop_at, loop_line}
use Rattle.drawing_notes.specs.Parts.{nets_on, part_at, same_part, together}

abbrev on_part : List (Option ℕ) → ℕ → ℕ → Bool
on_part parts root m = same_part (Some root) (part_at parts m)

never : (b : Bool) → (b && false) ≡ false
never true = refl
never false = refl

or_same : (a b : Bool) → cond a true b ≡ (b || a)
or_same true true = refl
or_same true false = refl
or_same false true = refl
or_same false false = refl

module _ (c : Circuit) (parts : List (Option ℕ)) (place : ℕ) where
  abbrev told_by : Option ℕ → List (List ℕ)
  told_by p = cond (same_part p p && not (list_any (λ m. same_part p (part_at parts m)) (take place c.order)))
      (loop_line c (net_at c.order place) (count_by (λ j. same_part p (part_at parts j)) (range_with_len 0 (length c.nets))) ∷ []) []

  pub loop_none : part_at parts (net_at c.order place) ≡ None → loop_at c (together parts) place ≡ []
  loop_none is = ap told_by is

  pub loop_again : (root : ℕ) → part_at parts (net_at c.order place) ≡ Some root → list_any (on_part parts root) (take place c.order) ≡ true → loop_at c (together parts) place ≡ []
  loop_again root is noted =
      ap told_by is
      ∙ ap (λ b. cond ((root == root) && not b) (loop_line c (net_at c.order place) (nets_on (length c.nets) parts root) ∷ []) []) noted
      ∙ ap (λ b. cond b (loop_line c (net_at c.order place) (nets_on (length c.nets) parts root) ∷ []) []) (never (root == root))

  pub loop_first : (root : ℕ) → part_at parts (net_at c.order place) ≡ Some root → list_any (on_part parts root) (take place c.order) ≡ false →
      loop_at c (together parts) place ≡ loop_line c (net_at c.order place) (nets_on (length c.nets) parts root) ∷ []
  loop_first root is untold =
      ap told_by is
      ∙ ap (λ b. cond ((root == root) && not b) (loop_line c (net_at c.order place) (nets_on (length c.nets) parts root) ∷ []) []) untold
      ∙ ap (λ b. cond (b && true) (loop_line c (net_at c.order place) (nets_on (length c.nets) parts root) ∷ []) []) (eq-eqb root root refl)

-- ---- which loops are noted

module _ (order : List ℕ) (parts : List (Option ℕ)) (place : ℕ) (below : place < length order) where
  abbrev Tells : ℕ → List Bool → Type 0
  Tells n noted = (root : ℕ) → marked_in noted root ≡ list_any (on_part parts root) (take n order)

  more : (root : ℕ) (p : Option ℕ) → part_at parts (net_at order place) ≡ p →
      list_any (on_part parts root) (take (place + 1) order) ≡ (list_any (on_part parts root) (take place order) || same_part (Some root) p)
  more root p is = list_any_more (on_part parts root) order place 0 below ∙ ap (λ q. list_any (on_part parts root) (take place order) || same_part (Some root) q) is

  pub tells_none : (noted : List Bool) → part_at parts (net_at order place) ≡ None → Tells place noted → Tells (place + 1) noted
  tells_none noted is before root = before root ∙ sym (or-false (list_any (on_part parts root) (take place order))) ∙ sym (more root None is)

  pub tells_again : (noted : List Bool) (part : ℕ) → part_at parts (net_at order place) ≡ Some part → marked_in noted part ≡ true → Tells place noted → Tells (place + 1) noted
  tells_again noted part is marked before root = by (root == part) refl
    where
      by : (b : Bool) → (root == part) ≡ b → marked_in noted root ≡ list_any (on_part parts root) (take (place + 1) order)
      by true same =
          let one = eqb-true root part same in
          let yes : list_any (on_part parts root) (take place order) ≡ true = sym (before root) ∙ ap (marked_in noted) one ∙ marked in
          before root ∙ yes ∙ sym (more root (Some part) is ∙ ap (λ b. b || (root == part)) yes)
      by false other =
          before root ∙ sym (or-false (list_any (on_part parts root) (take place order)))
          ∙ ap (λ b. list_any (on_part parts root) (take place order) || b) (sym other) ∙ sym (more root (Some part) is)

  pub tells_first : (noted new : List Bool) (part : ℕ) → part_at parts (net_at order place) ≡ Some part → part < length noted → new ≡ set noted part true → Tells place noted → Tells (place + 1) new
  tells_first noted new part is inside put before root =
      ap (λ (ms : List Bool). marked_in ms root) put ∙ marked_set noted part root true inside ∙ or_same (part == root) (marked_in noted root)
      ∙ (λ k. before root k || same_order part root k) ∙ sym (more root (Some part) is)
