-- Trees of one leaf and of two halves.
use Rattle.std.proofs.Common.{ℕ, ◌≤◌, List, [], ◌∷◌, ◌++◌, refl, ap, ◌∙◌, append_assoc, max, Option, Some, None, IfSome}
use Rattle.std.specs.List.{All}
use Rattle.std.proofs.Math.Nat.{le-max_left, le-max_right}
use Rattle.flat_circuit.specs.declared.case.CaseValue.{CaseValue}
use Rattle.flat_circuit.specs.Circuit.{Circuit}
use Rattle.narrowing.specs.declared.constraint.Constraint.{Constraint}
use Rattle.narrowing.specs.declared.part.Part.{Part}
use Rattle.narrowing.specs.Leaf.{IsFreeLeaf, NeverBreaksIn}
use Rattle.narrowing.specs.Part.{PartFits, with_part}
use Rattle.narrowing.specs.Tree.{IsRefuted, IsSplit, greatest_of, leaf, leaves, split}
use Rattle.narrowing.proofs.Breaks.{breaks_sooner}
use Rattle.narrowing.proofs.Cover.{never_in_both}

pub never_later : (c : Circuit) (values : List CaseValue) (parts : List Part) (x : Constraint) (t u : ℕ) → t ≤ u →
    NeverBreaksIn c values parts x t → NeverBreaksIn c values parts x u
never_later c values parts x t u less never run is meets inside breaks =
    never run is meets inside (breaks_sooner c run x u t less breaks)

pub one_leaf : (c : Circuit) (values : List CaseValue) (x : Constraint) (parts : List Part) (tick : ℕ)
    (found : List (List Part)) → IsFreeLeaf c values parts x tick →
    IsRefuted c values x parts tick found (found ++ parts ∷ [])
one_leaf c values x parts tick found free = record { tree = leaf; over = tt; refutes = free; appended = refl }

pub two_halves : (c : Circuit) (values : List CaseValue) (x : Constraint) (parts : List Part) (p q : Part) (low high : ℕ)
    (old middle new : List (List Part)) → IsSplit c values parts p q → PartFits c values p → PartFits c values q →
    IsRefuted c values x (with_part parts p) low old middle → IsRefuted c values x (with_part parts q) high middle new →
    IsRefuted c values x parts (max low high) old new
two_halves c values x parts p q low high old middle new is_split p_fits q_fits lower upper = record {
  tree = split p q lower.tree upper.tree;
  over = (is_split, (p_fits, q_fits), lower.over, upper.over);
  refutes = record {
    low_tick = low;
    high_tick = high;
    in_low = lower.refutes;
    in_high = upper.refutes;
    greatest = refl;
  };
  appended = upper.appended
      ∙ ap (λ (found : List (List Part)). found ++ leaves upper.tree (with_part parts q)) lower.appended
      ∙ append_assoc old (leaves lower.tree (with_part parts p)) (leaves upper.tree (with_part parts q));
}

-- Below a narrowing nothing is broken from the greatest tick of both halves on.
pub never_from_both : (c : Circuit) (values : List CaseValue) (parts : List Part) (p q : Part) (x : Constraint)
    (low high : ℕ) → All (PartFits c values) parts → IsSplit c values parts p q →
    NeverBreaksIn c values (with_part parts p) x low → NeverBreaksIn c values (with_part parts q) x high →
    NeverBreaksIn c values parts x (max low high)
never_from_both c values parts p q x low high fit is_split in_low in_high =
    never_in_both c values parts p q x (max low high) fit is_split
    (never_later c values (with_part parts p) x low (max low high) (le-max_left low high) in_low)
    (never_later c values (with_part parts q) x high (max low high) (le-max_right low high) in_high)

-- ---- of ticks that may be known

pub both_halves : (c : Circuit) (values : List CaseValue) (x : Constraint) (parts : List Part) (p q : Part)
    (low high : Option ℕ) (old middle new : List (List Part)) → IsSplit c values parts p q → PartFits c values p →
    PartFits c values q → IfSome low (λ t. IsRefuted c values x (with_part parts p) t old middle) →
    IfSome high (λ t. IsRefuted c values x (with_part parts q) t middle new) →
    IfSome (greatest_of low high) (λ t. IsRefuted c values x parts t old new)
both_halves c values x parts p q None high old middle new is_split p_fits q_fits lower upper = tt
both_halves c values x parts p q (Some low) None old middle new is_split p_fits q_fits lower upper = tt
both_halves c values x parts p q (Some low) (Some high) old middle new is_split p_fits q_fits lower upper =
    two_halves c values x parts p q low high old middle new is_split p_fits q_fits lower upper

pub never_both : (c : Circuit) (values : List CaseValue) (parts : List Part) (p q : Part) (x : Constraint)
    (low high : Option ℕ) → All (PartFits c values) parts → IsSplit c values parts p q →
    IfSome low (NeverBreaksIn c values (with_part parts p) x) → IfSome high (NeverBreaksIn c values (with_part parts q) x) →
    IfSome (greatest_of low high) (NeverBreaksIn c values parts x)
never_both c values parts p q x None high fit is_split in_low in_high = tt
never_both c values parts p q x (Some low) None fit is_split in_low in_high = tt
never_both c values parts p q x (Some low) (Some high) fit is_split in_low in_high =
    never_from_both c values parts p q x low high fit is_split in_low in_high
