-- The region of an event, as one that begins in the period.
use Rattle.std.proofs.Common.{inl, inr, ◌≡◌, ℕ, ◌+◌, ◌-◌, ◌*◌, ◌<◌, ◌≤◌, true, false, sym, ap, ◌∙◌, arith}
use Rattle.std.proofs.lemmas.Bool.{cases_lt}
use Rattle.critical_paths.specs.Event.{Events}
use Rattle.critical_paths.specs.Region.{IsCyclic, IsRegion}
use Rattle.critical_paths.proofs.Runs.{IsAround, around}

module _ (p : ℕ) (ev : Events) (cyclic : IsCyclic p ev) (long : 2 ≤ p) where
  -- a period before
  pub region_down : (f l : ℕ) → p ≤ f → IsRegion p ev f l → IsRegion p ev (f - p) (l - p)
  region_down f l deep r =
      let ordered = r.ordered in
      let before_at : f - p + (p - 1) + p ≡ f + (p - 1) = omega (arith, deep, long) in
      let after_at : l - p + 1 + p ≡ l + 1 = omega (arith, deep, ordered) in
      record {
        ordered = omega (arith, ordered);
        each = λ t from up_to. sym (cyclic t) ∙ r.each (t + p) (omega (arith, from)) (omega (arith, up_to, deep, ordered));
        before = sym (cyclic (f - p + (p - 1))) ∙ ap ev before_at ∙ r.before;
        after = sym (cyclic (l - p + 1)) ∙ ap ev after_at ∙ r.after;
      }

  -- the region of an event in a slot, and the tick of it there: that slot, or a period on
  pub record IsCovered (t : ℕ) : Type 0 where
    pub first : ℕ
    pub last : ℕ
    pub tick : ℕ
    pub rounds : ℕ
    pub below : first < p
    pub region : IsRegion p ev first last
    pub tick_is : tick ≡ t + rounds * p
    pub from : first ≤ tick
    pub up_to : tick ≤ last

  pub covered : (z : ℕ) → ev z ≡ false → z < p → (t : ℕ) → t < p → ev t ≡ true → IsCovered t
  covered z none below t inside here =
      by (around p ev cyclic long z none below (t + p) (omega arith) (cyclic t ∙ here))
    where
      by : IsAround p ev cyclic long (t + p) → IsCovered t
      by a =
          let from = a.from in
          let up_to = a.up_to in
          elim (cases_lt a.first p) [
            | inl less ↦ record {
              first = a.first;
              last = a.last;
              tick = t + p;
              rounds = 1;
              below = less;
              region = a.region;
              tick_is = omega arith;
              from = from;
              up_to = up_to;
            }
            | inr more ↦ record {
              first = a.first - p;
              last = a.last - p;
              tick = t;
              rounds = 0;
              below = omega (arith, from, inside, more);
              region = region_down a.first a.last more a.region;
              tick_is = omega arith;
              from = omega (arith, from);
              up_to = omega (arith, up_to);
            }
          ]
