-- The regions of two edges share a slot exactly if the edges are near one another, over the period's end too.
use Rattle.std.proofs.Common.{◌≡◌, ℕ, ◌+◌, ◌-◌, ◌*◌, ◌%◌, ◌<◌, ◌≤◌, Bool, true, false, not, cond, ◌⊎◌, inl, inr, refl, sym, ap, ◌∙◌, arith}
use Rattle.std.proofs.lemmas.Bool.{cases_eq, cases_lt, cases_order}
use Rattle.std.specs.Prelude.{MatchBool}
use Rattle.std.proofs.Math.Nat.{mod-lt}
use Rattle.scald_base.specs.declared.assertion.ClockSpec.{ClockSpec}
use Rattle.scald_base.specs.Time.{Header, period}
use Rattle.scald_base.specs.Clock.{ideal, back, IsEdge, IsInRegion, SharesSlot, IsTooWide}
use Rattle.assertion_syntax.specs.Slots.{steps, AreNear}
use Rattle.scald_base.proofs.Back.{mod_small, back_zero, back_one, back_mod, back_later, back_sooner, back_periods, back_to, period_later, period_apart}

-- ---- an edge, by its test

differ_is : (before after : Bool) → cond before (not after) after ≡ true → before ≡ not after
differ_is true true e = absurd cc
differ_is true false e = refl
differ_is false true e = refl
differ_is false false e = absurd cc

differ_from : (to before after : Bool) → before ≡ not to → after ≡ to → cond before (not after) after ≡ true
differ_from true before after b a = rw (b, a) refl
differ_from false before after b a = rw (b, a) refl

edge_of : (c : ClockSpec) (h : Header) (t : ℕ) → 0 < period h → steps c h t ≡ true → IsEdge c h (ideal c h (t % period h)) (t % period h)
edge_of c h t pos e = record {
  within = mod-lt t pos;
  before = ap (ideal c h) (back_mod (period h) t 1 ∙ back_one (period h) t) ∙ differ_is (ideal c h ((t + (period h - 1)) % period h)) (ideal c h (t % period h)) e;
  after = refl;
}

step_at : (c : ClockSpec) (h : Header) (to : Bool) (edge t : ℕ) → IsEdge c h to edge → t % period h ≡ edge → steps c h t ≡ true
step_at c h to edge t is at =
    differ_from to (ideal c h ((t + (period h - 1)) % period h)) (ideal c h (t % period h))
    (ap (ideal c h) (sym (back_one (period h) t) ∙ sym (back_mod (period h) t 1) ∙ ap (λ (z : ℕ). back (period h) z 1) at) ∙ is.before)
    (ap (ideal c h) at ∙ is.after)

-- ---- from two near edges to their regions

abbrev Overlap : ClockSpec → Header → ℕ → ℕ → Type 0
Overlap c h early late = SharesSlot c h early late ⊎ IsTooWide c h early late

pub overlap_from : (c : ClockSpec) (h : Header) (early late : ℕ) → 0 < period h → AreNear (steps c h) (early + late) (2 * period h) → Overlap c h early late
overlap_from c h early late pos near = go (cases_eq (near.first % period h) (near.second % period h))
  where
    p : ℕ
    p = period h

    go : (near.first % period h ≡ near.second % period h) ⊎ (near.first % period h ≡ near.second % period h → ⊥) → Overlap c h early late
    go (inl same) =
        let later : near.second ≡ near.first + period h = period_apart (period h) near.first near.second pos near.ordered near.within same in
        let by : near.second ≤ near.first + (early + late) = near.near in
        inr (record { to = ideal c h (near.first % period h); edge = near.first % period h; is_edge = edge_of c h near.first pos near.at_first; wide = omega arith })
    go (inr other) =
        let by : near.second ≤ near.first + (early + late) = near.near in
        inl (record {
          to = ideal c h (near.first % period h);
          edge = near.first % period h;
          other_to = ideal c h (near.second % period h);
          other = near.second % period h;
          slot = near.second + early * (period h - 1);
          apart = other;
          of_one = record {
            is_edge = edge_of c h near.first pos near.at_first;
            by = near.second - near.first;
            near = omega arith;
            there = back_periods (period h) near.second early (near.second - near.first) pos ∙ back_to (period h) near.first near.second pos near.ordered;
          };
          of_other = record {
            is_edge = edge_of c h near.second pos near.at_second;
            by = 0;
            near = omega arith;
            there = back_periods (period h) near.second early 0 pos ∙ back_zero (period h) near.second;
          };
        })

-- ---- from regions to two near edges

-- an edge, and the same edge a period on
near_itself : (c : ClockSpec) (h : Header) (reach : ℕ) (to : Bool) (edge : ℕ) → IsEdge c h to edge → period h ≤ reach → AreNear (steps c h) reach (2 * period h)
near_itself c h reach to edge is wide =
    let within : edge < period h = is.within in
    let here : edge % period h ≡ edge = mod_small edge (period h) within in
    record {
      first = edge;
      second = edge + period h;
      ordered = omega arith;
      within = omega arith;
      near = omega arith;
      at_first = step_at c h to edge edge is here;
      at_second = step_at c h to edge (edge + period h) is (period_later (period h) edge ∙ here);
    }

-- one edge is reached by fewer slots back than the other
near_later : (c : ClockSpec) (h : Header) (reach tick : ℕ) (to other_to : Bool) (edge other by other_by : ℕ) → 0 < period h → IsEdge c h to edge → IsEdge c h other_to other →
    back (period h) tick by ≡ edge → back (period h) tick other_by ≡ other → by < other_by → other_by ≤ reach → AreNear (steps c h) reach (2 * period h)
near_later c h reach tick to other_to edge other by other_by pos is other_is at other_at less most = go (cases_lt reach (period h))
  where
    go : (reach < period h) ⊎ (period h ≤ reach) → AreNear (steps c h) reach (2 * period h)
    go (inr wide) = near_itself c h reach other_to other other_is wide
    go (inl narrow) =
        let within : other < period h = other_is.within in
        let apart = other_by - by in
        let same : other_by + 0 ≡ apart + by = omega arith in
        let there : (other + apart) % period h ≡ edge =
        sym (back_zero (period h) (other + apart))
        ∙ ap (λ (z : ℕ). back (period h) (z + apart) 0) (sym other_at)
        ∙ back_sooner (period h) tick other_by apart 0
        ∙ ap (back (period h) (tick + apart)) same
        ∙ back_later (period h) tick apart by pos ∙ at in
        record {
          first = other;
          second = other + apart;
          ordered = omega arith;
          within = omega arith;
          near = omega arith;
          at_first = step_at c h other_to other other other_is (mod_small other (period h) within);
          at_second = step_at c h to edge (other + apart) is there;
        }

pub near_from : (c : ClockSpec) (h : Header) (early late : ℕ) → 0 < period h → Overlap c h early late → AreNear (steps c h) (early + late) (2 * period h)
near_from c h early late pos (inr wide) =
    let over : period h < early + late + 1 = wide.wide in
    near_itself c h (early + late) wide.to wide.edge wide.is_edge (omega arith)
near_from c h early late pos (inl shares) = go (cases_order one.by two.by)
  where
    one : IsInRegion c h early late shares.to shares.edge shares.slot
    one = shares.of_one

    two : IsInRegion c h early late shares.other_to shares.other shares.slot
    two = shares.of_other

    go : (one.by ≡ two.by) ⊎ ((one.by < two.by) ⊎ (two.by < one.by)) → AreNear (steps c h) (early + late) (2 * period h)
    go (inl same) = absurd (shares.apart (sym one.there ∙ ap (back (period h) (shares.slot + early)) same ∙ two.there))
    go (inr (inl less)) = near_later c h (early + late) (shares.slot + early) shares.to
        shares.other_to shares.edge shares.other one.by two.by pos one.is_edge two.is_edge one.there two.there less two.near
    go (inr (inr less)) = near_later c h (early + late) (shares.slot + early) shares.other_to
        shares.to shares.other shares.edge two.by one.by pos two.is_edge one.is_edge two.there one.there less one.near

pub overlap_decided : (c : ClockSpec) (h : Header) (skew : ℕ × ℕ) (r : Bool) → 0 < period h →
    (let near = AreNear (steps c h) (skew.0 + skew.1) (2 * period h) in MatchBool r near (¬ near)) → MatchBool r (Overlap c h skew.0 skew.1) (¬ Overlap c h skew.0 skew.1)
overlap_decided c h skew true pos near = overlap_from c h skew.0 skew.1 pos near
overlap_decided c h skew false pos none = λ overlap. none (near_from c h skew.0 skew.1 pos overlap)
