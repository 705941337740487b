-- The leaves of a tree over a case are narrowings of it, and every run of the case is in one of them.
use Rattle.std.proofs.Common.{◌⊎◌, inl, inr, List, [], ◌∷◌, ◌++◌, not, filter, ◌≡◌, Bool, true, false, refl, sym}
use Rattle.std.specs.List.{All, AllByRecursion}
use Rattle.std.proofs.lemmas.Bool.{cond_both}
use Rattle.std.proofs.lemmas.List.Elements.{All-append, All-cons, All-filter, All-nil, All-push, Contains-append_left, Contains-append_right, Contains-push, recursion_from_All}
use Rattle.flat_circuit.specs.declared.case.CaseValue.{CaseValue}
use Rattle.flat_circuit.specs.Circuit.{Circuit}
use Rattle.flat_circuit.specs.Run.{IsRun, Run}
use Rattle.fixpoint_engine.specs.Interface.{MeetsInterface}
use Rattle.narrowing.specs.declared.part.Part.{Part}
use Rattle.narrowing.specs.Laws.{IsInOne, LeavesAreNarrowings, LeavesCover}
use Rattle.narrowing.specs.Part.{AreApart, IsIn, IsNarrowing, KeepsTo, PartFits, none, one_more, same_thing, with_part}
use Rattle.narrowing.specs.Tree.{IsOver, Tree, leaf, leaves, split}
use Rattle.narrowing.proofs.Cover.{in_half, keeps_half}

pub half_fits : (c : Circuit) (values : List CaseValue) (parts : List Part) (p : Part) → All (PartFits c values) parts →
    PartFits c values p → All (PartFits c values) (with_part parts p)
half_fits c values parts p fit fits =
    All-push (PartFits c values) (filter (λ q. not (same_thing q p)) parts) p
    (All-filter (λ q. not (same_thing q p)) (PartFits c values) parts fit) fits

-- ---- each part is of a thing of its own

filter_apart : (keeps : Part → Bool) (ps : List Part) → AreApart ps → AreApart (filter keeps ps)
filter_apart keeps [] apart = none
filter_apart keeps (p ∷ ps) (one_more away rest) =
    cond_both (keeps p) (p ∷ filter keeps ps) (filter keeps ps) AreApart
    (λ kept. one_more (All-filter keeps (λ q. same_thing p q ≡ false) ps away) (filter_apart keeps ps rest))
    (λ left. filter_apart keeps ps rest)

others_apart : (p : Part) (ps : List Part) →
    All (λ q. same_thing q p ≡ false) (filter (λ q. not (same_thing q p)) ps)
others_apart p [] = All-nil (λ q. same_thing q p ≡ false)
others_apart p (q ∷ ps) =
    cond_both (not (same_thing q p)) (q ∷ filter (λ r. not (same_thing r p)) ps) (filter (λ r. not (same_thing r p)) ps)
    (All (λ r. same_thing r p ≡ false))
    (λ other.
    All-cons (λ r. same_thing r p ≡ false) q (filter (λ r. not (same_thing r p)) ps) (not_same (same_thing q p) other)
    (others_apart p ps))
    (λ same. others_apart p ps)
  where
    not_same : (b : Bool) → not b ≡ true → b ≡ false
    not_same true other = sym other
    not_same false other = refl

push_apart : (p : Part) (ps : List Part) → AreApart ps → AllByRecursion (λ q. same_thing q p ≡ false) ps →
    AreApart (ps ++ p ∷ [])
push_apart p [] apart others = one_more (All-nil (λ q. same_thing p q ≡ false)) none
push_apart p (q ∷ ps) (one_more away rest) others =
    one_more (All-push (λ r. same_thing q r ≡ false) ps p away others.0) (push_apart p ps rest others.1)

half_apart : (p : Part) (ps : List Part) → AreApart ps → AreApart (with_part ps p)
half_apart p ps apart =
    push_apart p (filter (λ q. not (same_thing q p)) ps) (filter_apart (λ q. not (same_thing q p)) ps apart)
    (recursion_from_All (λ q. same_thing q p ≡ false) (filter (λ q. not (same_thing q p)) ps) (others_apart p ps))

module _ (c : Circuit) (values : List CaseValue) where
  half_narrows : (parts : List Part) (p : Part) → IsNarrowing c values parts → PartFits c values p →
      IsNarrowing c values (with_part parts p)
  half_narrows parts p is fits = record {
    fit = half_fits c values parts p is.fit fits;
    apart = half_apart p parts is.apart;
  }

  all_narrow : (tree : Tree) (parts : List Part) → IsNarrowing c values parts → IsOver c values tree parts →
      All (IsNarrowing c values) (leaves tree parts)
  all_narrow leaf parts is over = All-cons (IsNarrowing c values) parts [] is (All-nil (IsNarrowing c values))
  all_narrow (split p q low high) parts is over =
      All-append (IsNarrowing c values) (leaves low (with_part parts p)) (leaves high (with_part parts q))
      (all_narrow low (with_part parts p) (half_narrows parts p is over.1.0) over.2)
      (all_narrow high (with_part parts q) (half_narrows parts q is over.1.1) over.3)

pub leaves_are_narrowings : LeavesAreNarrowings
leaves_are_narrowings c values tree over =
    all_narrow c values tree [] (record { fit = All-nil (PartFits c values); apart = none }) over

-- ---- every run is in a leaf

in_front : (c : Circuit) (values : List CaseValue) (xs ys : List (List Part)) (run : Run) → IsInOne c values xs run → IsInOne c values (xs ++ ys) run
in_front c values xs ys run is = record { parts = is.parts; one = Contains-append_left xs ys is.parts is.one; inside = is.inside }

in_back : (c : Circuit) (values : List CaseValue) (xs ys : List (List Part)) (run : Run) → IsInOne c values ys run → IsInOne c values (xs ++ ys) run
in_back c values xs ys run is = record { parts = is.parts; one = Contains-append_right xs ys is.parts is.one; inside = is.inside }

module _ (c : Circuit) (values : List CaseValue) (run : Run) (is : IsRun c run) (meets : MeetsInterface c run) where
  -- in one of two lists of narrowings
  in_either : (p q : Part) (xs ys : List (List Part)) → KeepsTo c run p ⊎ KeepsTo c run q →
      (KeepsTo c run p → IsInOne c values xs run) → (KeepsTo c run q → IsInOne c values ys run) →
      IsInOne c values (xs ++ ys) run
  in_either p q xs ys (inl keeps) low high = in_front c values xs ys run (low keeps)
  in_either p q xs ys (inr keeps) low high = in_back c values xs ys run (high keeps)

  in_a_leaf : (tree : Tree) (parts : List Part) → All (PartFits c values) parts → IsOver c values tree parts →
      IsIn c values parts run → IsInOne c values (leaves tree parts) run
  in_a_leaf leaf parts fit over inside = record { parts = parts; one = Contains-push [] parts; inside = inside }
  in_a_leaf (split p q low high) parts fit over inside =
      in_either p q (leaves low (with_part parts p)) (leaves high (with_part parts q))
      (keeps_half c values parts run fit is meets inside p q over.0)
      (λ keeps. in_a_leaf low (with_part parts p) (half_fits c values parts p fit over.1.0) over.2
      (in_half c values parts p run inside keeps))
      (λ keeps. in_a_leaf high (with_part parts q) (half_fits c values parts q fit over.1.1) over.3
      (in_half c values parts q run inside keeps))

pub leaves_cover : LeavesCover
leaves_cover c values tree run over is meets in_case =
    in_a_leaf c values run is meets tree [] (All-nil (PartFits c values)) over
    (record { in_case = in_case; keeps = All-nil (KeepsTo c run) })
