-- A checker about the rise of its clock has a fault exactly where its input may change in one of the windows.
use Rattle.std.proofs.Common.{◌≡◌, ℕ, ◌+◌, ◌≤◌, true, false, not, refl, ap, subst, ◌∙◌, arith}
use Rattle.scald_base.specs.Clock.{back}
use Rattle.step_values.specs.Steps.{has}
use Rattle.element_kinds.specs.declared.kind.Kind.TheVariants.{SetupHold}
use Rattle.flat_circuit.specs.declared.limits.Limits.{Limits}
use Rattle.flat_circuit.specs.Limits.{setup_of, hold_of}
use Rattle.point_check.specs.Window.{Folds}
use Rattle.point_check.specs.Point.{about as places_about, window_of}
use Rattle.critical_paths.specs.declared.direction.Direction.TheVariants.{Rise, Change}
use Rattle.critical_paths.specs.Event.{Events, events, moves}
use Rattle.critical_paths.specs.Region.{IsCyclic}
use Rattle.slack_rows.specs.Watch.{rise_watch}
use Rattle.slack_rows.specs.Limit.{edge_limits}
use Rattle.slack_rows.specs.Laws.{IsTouchedWatch}
use Rattle.slack_rows.proofs.Changes.{moving, unquiet}
use Rattle.slack_rows.proofs.Searched.{IsFaulty, IsHit}
use Rattle.slack_rows.proofs.Touching.{met_touches, touched_met}

module _ (p : ℕ) (long : 2 ≤ p) (clock input : Folds) (clock_cyclic : (t : ℕ) → clock (t + p) ≡ clock t)
    (input_cyclic : (t : ℕ) → input (t + p) ≡ input t) (limits : Limits) (short : setup_of limits + hold_of limits ≤ p) where
  abbrev rises : Events
  rises = events Rise clock

  abbrev changes : Events
  changes = events Change input

  rises_cyclic : IsCyclic p rises
  rises_cyclic t = ap (λ v. has v false true) (clock_cyclic t)

  changes_cyclic : IsCyclic p changes
  changes_cyclic t = ap (λ v. moves Change (has v)) (input_cyclic t)

  abbrev Faulty : Type 0
  Faulty = IsFaulty (window_of SetupHold p clock limits) p clock input

  pub rise_touches : Faulty → IsTouchedWatch (rise_watch p (edge_limits limits) clock input)
  rise_touches faulty =
      let is = faulty.is in
      let same : faulty.window ≡ places_about limits = cc in
      let hit : IsHit p input faulty.tick (places_about limits) = subst (λ w. IsHit p input faulty.tick w) same faulty.hit in
      let within = hit.within in
      met_touches p long rises changes rises_cyclic changes_cyclic (edge_limits limits) short record {
        tick = faulty.tick;
        below = faulty.below;
        edge = faulty.rises;
        place = hit.place;
        within = omega (arith, within);
        change = moving (input (back p (faulty.tick + 1 + hit.place) (setup_of limits))) ∙ ap not hit.moves;
      }

  pub touched_rises : 1 ≤ setup_of limits + hold_of limits → IsTouchedWatch (rise_watch p (edge_limits limits) clock input) → Faulty
  touched_rises some touched =
      let met = touched_met p long rises changes rises_cyclic changes_cyclic (edge_limits limits) short some touched in
      let within = met.within in
      record {
        tick = met.tick;
        below = met.below;
        rises = met.edge;
        window = places_about limits;
        is = refl;
        hit = record {
          place = met.place;
          within = omega (arith, within);
          moves = unquiet (input (back p (met.tick + 1 + met.place) (setup_of limits))) met.change;
        };
      }
