-- Each span of a clock begins in the period, and ends no more than a period later.
use Rattle.std.proofs.Common.{◌≡◌, ℕ, zero, suc, ◌+◌, ◌-◌, ◌<◌, ◌≤◌, Bool, true, false, cond, refl, subst, arith, map, Option, Some, None}
use Rattle.std.specs.Prelude.{filter_map}
use Rattle.std.specs.List.{All, cons_option, range_with_len}
use Rattle.std.proofs.lemmas.Int.{ints}
use Rattle.std.proofs.lemmas.List.Elements.{All-cons, All-map, All-nil}
use Rattle.flat_circuit.specs.Limits.{hold_of, setup_of}
use Rattle.flat_circuit.specs.declared.limits.Limits.{Limits}
use Rattle.point_check.specs.Window.{Folds}
use Rattle.critical_paths.specs.Region.{Region}
use Rattle.critical_paths.specs.Views.{ticks_of_region}
use Rattle.slack_rows.specs.Held.{IsInPeriod}
use Rattle.slack_rows.specs.Watch.{fall_of, falls_at, span_at, span_by, spans}
use Rattle.slack_rows.proofs.Spans.{fall_parts}

module _ (p : ℕ) (long : 2 ≤ p) (clock : Folds) (cyclic : (t : ℕ) → clock (t + p) ≡ clock t) (limits : Limits)
    (short : setup_of limits + hold_of limits ≤ p) where
  abbrev Within : Region → Type 0
  Within r = IsInPeriod p (ticks_of_region r)

  span_within : (f : ℕ) (r : Region) → f < p → span_at p clock f ≡ Some r → Within r
  span_within f r below is = by (fall_of p clock f) refl is
    where
      kept : (b : Bool) (fall : ℕ) → fall_of p clock f ≡ Some fall →
          cond b None (Some (record { first = f; last = fall })) ≡ Some r → Within r
      kept true fall falls is = absurd (cc)
      kept false fall falls is =
          let made : Region = record { first = f; last = fall } in
          let same : made ≡ r = cc in
          let parts = fall_parts p long clock clock cyclic cyclic limits short f fall falls in
          let fall_is = parts.fall_is in
          let most = parts.most in
          subst Within same record {
            from = omega (arith, ints);
            ordered = omega (arith, ints, fall_is);
            near = omega (arith, ints, fall_is, most, below);
          }

      by : (o : Option ℕ) → fall_of p clock f ≡ o → span_by p clock f o ≡ Some r → Within r
      by None falls is = absurd (cc)
      by (Some fall) falls is = kept (falls_at (fall + p) (fall_of p clock (f + (p - 1)))) fall falls is

  within_from : (n i : ℕ) → i + n ≤ p → All Within (filter_map (span_at p clock) (range_with_len i n))
  within_from zero i within = All-nil Within
  within_from (suc n) i within = by (span_at p clock i) refl (within_from n (i + 1) (omega (arith, within)))
    where
      by : (o : Option Region) → span_at p clock i ≡ o → All Within (filter_map (span_at p clock) (range_with_len (i + 1) n)) →
          All Within (cons_option o (filter_map (span_at p clock) (range_with_len (i + 1) n)))
      by None is rest = rest
      by (Some r) is rest = All-cons Within r _ (span_within i r (omega (arith, within)) is) rest

  pub spans_within : All (IsInPeriod p) (map ticks_of_region (spans p clock))
  spans_within = All-map (IsInPeriod p) ticks_of_region (spans p clock) (within_from p 0 (omega arith))
