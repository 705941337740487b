-- Cases that set the same nets have one cone.
use Rattle.std.proofs.Common.{◌≡◌, ℕ, ◌+◌, ◌<◌, ◌++◌, ◌∷◌, [], Bool, true, List, length, get_or, map, take, refl, ap, sym, ◌∙◌}
use Rattle.std.specs.Prelude.{◌==◌, ◌||◌}
use Rattle.std.specs.List.{list_any}
use Rattle.std.proofs.lemmas.List.{map-append, take_more}
use Rattle.flat_circuit.specs.declared.case.CaseValue.{CaseValue}
use Rattle.flat_circuit.specs.Circuit.{Circuit}
use Rattle.fixpoint_engine.specs.Settled.{marked_in}
use Rattle.case_analysis.specs.Case.{InCone, Is_set, Hears_one, IsCone, is_set}
use Rattle.case_analysis.specs.Reached.{AreReached, nets_set}
use Rattle.case_analysis.specs.declared.reached.Reached.{Reached}

-- ---- the nets of two cases, one by one

nets_more : (vs : List CaseValue) (i : ℕ) (d : CaseValue) → i < length vs → nets_set (take (i + 1) vs) ≡ nets_set (take i vs) ++ (get_or vs i d).net ∷ []
nets_more vs i d below =
    ap nets_set (take_more vs i d below) ∙ map-append (λ (v : CaseValue). v.net) (take i vs) (get_or vs i d ∷ [])

pub both_more : (vs ws : List CaseValue) (i : ℕ) (d d' : CaseValue) → i < length vs → i < length ws → (get_or vs i d).net ≡ (get_or ws i d').net →
    nets_set (take i vs) ≡ nets_set (take i ws) → nets_set (take (i + 1) vs) ≡ nets_set (take (i + 1) ws)
both_more vs ws i d d' below below' same so_far =
    nets_more vs i d below ∙ (λ j. so_far j ++ same j ∷ []) ∙ sym (nets_more ws i d' below')

-- ---- the same nets are set, so the cones are the same

set_by_nets : (values : List CaseValue) (i : ℕ) → is_set values i ≡ list_any (λ n. n == i) (nets_set values)
set_by_nets [] i = refl
set_by_nets (v ∷ vs) i = ap (λ b. (v.net == i) || b) (set_by_nets vs i)

same_set : (one other : List CaseValue) → nets_set one ≡ nets_set other → (i : ℕ) → is_set one i ≡ is_set other i
same_set one other e i =
    set_by_nets one i ∙ ap (λ (ns : List ℕ). list_any (λ n. n == i) ns) e ∙ sym (set_by_nets other i)

in_other : (c : Circuit) (one other : List CaseValue) (i : ℕ) → ((j : ℕ) → is_set one j ≡ is_set other j) → InCone c one i → InCone c other i
in_other c one other i same (Is_set is) = Is_set (sym (same i) ∙ is)
in_other c one other i same (Hears_one {from = from} inner hears) = Hears_one (in_other c one other from same inner) hears

one_cone : (c : Circuit) (one other : List CaseValue) (cone : ℕ → Bool) → nets_set one ≡ nets_set other → IsCone c one cone → IsCone c other cone
one_cone c one other cone e is i =
    let same = same_set one other e in
    (λ h. in_other c one other i same ((is i).0 h), λ h. (is i).1 (in_other c other one i (λ j. sym (same j)) h))

pub all_reached : (c : Circuit) (one other : List CaseValue) (r : Reached) → nets_set one ≡ nets_set other → AreReached c one r → AreReached c other r
all_reached c one other r e is = record {
  cone_nets = is.cone_nets;
  cone = one_cone c one other (marked_in r.cone) e is.cone;
  active_nets = is.active_nets;
  active = is.active;
}
