use Rattle.std.proofs.Common.{◌≡◌, ◌∙◌, ◌++◌, ℕ, ◌<◌, ◌≤◌, ap, sym, subst, arith, append-nil, length, map, List, ℤ}
use Rattle.std.specs.List.{All}
use Rattle.scald_base.specs.Time.{period}
use Rattle.step_values.specs.Cell.{values}
use Rattle.skew_algebra.specs.Wave.{folded}
use Rattle.fixpoint_engine.specs.Waves.{waves_of}
use Rattle.fixpoint_engine.proofs.ReadSlots.{length_folded}
use Rattle.critical_paths.specs.Event.{Events}
use Rattle.critical_paths.specs.Region.{IsCyclic, all_events, regions}
use Rattle.critical_paths.specs.declared.region.Test.TheVariants.{May}
use Rattle.critical_paths.specs.Views.{passing, ticks_of_region}
use Rattle.critical_paths.specs.Reached.{IsEdgeRegion, end_time, gathered}
use Rattle.critical_paths.proofs.Arrivals.{events_are, own_none, own_some}
use Rattle.critical_paths.proofs.Finding.{cyclic}
use Rattle.critical_paths.proofs.Gathered.{edge_regions}
use Rattle.critical_paths.proofs.gather.add_edges.Goals as goal

pub returns-then-changes-clause-gathered : goal.returns-then-changes-clause-gathered
returns-then-changes-clause-gathered g c = λ own.
    let circuit = c.args.view.now.circuit.now in
    let ws = waves_of c.args.view.now.waves.now in
    let place = c.args.place in
    let w = ws place.net in
    let long : length w.cells ≡ period circuit.header = c.requires.sees.fit.each_slot place.net c.requires.net in
    let least = c.period-period.ensures.shortest in
    let below : 0 < period circuit.header = omega (arith, least, c.period-period.ensures.is) in
    let some : 0 < length w.cells = omega (arith, long, below) in
    let cells = c.in_ok-fold.ensures.wave ∙ ap (folded values) c.at.ensures in
    let count : length (g.W.CyclicWave.cells c.in_ok-fold.fold) ≡ period circuit.header = length_folded w _ cells ∙ long in
    let events = events_are place.direction w (g.W.CyclicWave.cells c.in_ok-fold.fold) some cells in
    let all = sym (λ i. all_events (count i) (events i)) ∙ sym c.in_ok-changes.ensures.all ∙ c.if-changes.true in
    sym (append-nil (gathered c.args.out.now))
    ∙ ap (λ (l : List (ℤ × ℤ)). gathered c.args.out.now ++ l) (sym (own_none circuit ws place below all))

pub add_each-requires-clause-edges : goal.add_each-requires-clause-edges
add_each-requires-clause-edges g c =
    let circuit = c.args.view.now.circuit.now in
    let ws = waves_of c.args.view.now.waves.now in
    let place = c.args.place in
    let w = ws place.net in
    let long : length w.cells ≡ period circuit.header = c.requires.sees.fit.each_slot place.net c.requires.net in
    let least = c.period-period.ensures.shortest in
    let most = c.period-period.ensures.longest in
    let below : 0 < period circuit.header = omega (arith, least, c.period-period.ensures.is) in
    let some : 0 < length w.cells = omega (arith, long, below) in
    let cells = c.in_ok-fold.ensures.wave ∙ ap (folded values) c.at.ensures in
    let count : length (g.W.CyclicWave.cells c.in_ok-fold.fold) ≡ period circuit.header = length_folded w _ cells ∙ long in
    let events = events_are place.direction w (g.W.CyclicWave.cells c.in_ok-fold.fold) some cells in
    let are = c.as_slice.ensures ∙ c.in_ok-changes.ensures.regions ∙ (λ i. map ticks_of_region (regions (count i) (events i))) in
    let short : period circuit.header ≤ 4096 = omega (arith, most, c.period-period.ensures.is) in
    let two : 2 ≤ period circuit.header = omega (arith, least, c.period-period.ensures.is) in
    let shown = g.W.CyclicWave.cells c.in_ok-fold.fold in
    let repeats : IsCyclic (period circuit.header) (passing (May place.direction) shown) =
    subst (λ (n : ℕ). IsCyclic n (passing (May place.direction) shown)) count
    (cyclic (May place.direction) shown (omega (arith, count, two))) in
    subst (All (IsEdgeRegion circuit ws place)) (sym are)
    (edge_regions circuit ws place short two
    (subst (λ (e : Events). IsCyclic (period circuit.header) e) events repeats))

pub returns-clause-gathered : goal.returns-clause-gathered
returns-clause-gathered g c = λ own.
    let circuit = c.args.view.now.circuit.now in
    let ws = waves_of c.args.view.now.waves.now in
    let place = c.args.place in
    let w = ws place.net in
    let long : length w.cells ≡ period circuit.header = c.requires.sees.fit.each_slot place.net c.requires.net in
    let least = c.period-period.ensures.shortest in
    let below : 0 < period circuit.header = omega (arith, least, c.period-period.ensures.is) in
    let some : 0 < length w.cells = omega (arith, long, below) in
    let cells = c.in_ok-fold.ensures.wave ∙ ap (folded values) c.at.ensures in
    let count : length (g.W.CyclicWave.cells c.in_ok-fold.fold) ≡ period circuit.header = length_folded w _ cells ∙ long in
    let events = events_are place.direction w (g.W.CyclicWave.cells c.in_ok-fold.fold) some cells in
    let all = sym (λ i. all_events (count i) (events i)) ∙ sym c.in_ok-changes.ensures.all ∙ c.if-changes.false in
    let are = c.as_slice.ensures ∙ c.in_ok-changes.ensures.regions ∙ (λ i. map ticks_of_region (regions (count i) (events i))) in
    c.in_ok-add_each.ensures.gathered
    ∙ ap (λ l. gathered c.args.out.now ++ map (end_time circuit place) l) are
    ∙ ap (λ (l : List (ℤ × ℤ)). gathered c.args.out.now ++ l) (sym (own_some circuit ws place below all own))
