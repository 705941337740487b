use Rattle.std.proofs.Common.{arith, ◌≡◌, ◌<◌, ℕ, Bool, List, length, get_or, set, Some, ap, subst, sym, ◌∙◌}
use Rattle.std.specs.Prelude.{slice_get}
use Rattle.std.proofs.lemmas.List.{length-set}
use Rattle.flat_circuit.specs.Name.{net_at}
use Rattle.flat_circuit.proofs.Numbered.{order_long}
use Rattle.trace_sim.specs.Input.{given_row}
use Rattle.trace_sim.proofs.Places.{net_below}
use Rattle.trace_sim.proofs.DrawPlaces.{rows_more}
use Rattle.trace_sim.proofs.seed.given.Goals as goal

pub row_at-requires : goal.row_at-requires
row_at-requires c =
    let circuit = c.args.c.now in
    let long = order_long circuit.nets circuit.order c.known.ensures.by_name in
    omega (arith, long, c.loop-place-test.true, c.net_count-place-end.ensures)

pub set-requires : goal.set-requires
set-requires c =
    let circuit = c.args.c.now in
    let long = order_long circuit.nets circuit.order c.known.ensures.by_name in
    let below : c.loop-place.place < length circuit.order = omega (arith, long, c.loop-place-test.true, c.net_count-place-end.ensures) in
    let inside = net_below circuit c.known.ensures c.loop-place.place below in
    subst (λ n. n < length c.loop-place.rows) (sym c.net_at.ensures)
    (subst (λ n. get_or circuit.order c.loop-place.place 0 < n) (sym c.loop-place.invariant.each) inside)

pub loop-place-preserved : goal.loop-place-preserved
loop-place-preserved c =
    let circuit = c.args.c.now in
    let rows = c.loop-place.rows in
    let place = c.loop-place.place in
    let net = get_or circuit.order place 0 in
    let given = given_row circuit c.args.case.now c.args.ticks c.args.shifts.now c.args.free.now in
    let long = order_long circuit.nets circuit.order c.known.ensures.by_name in
    let below : place < length circuit.order = omega (arith, long, c.loop-place-test.true, c.net_count-place-end.ensures) in
    let sets : c.set.new.self ≡ set rows net (given place) =
    c.set.ensures ∙ ap (λ (n : ℕ). set rows n c.in_ok-row.row) c.net_at.ensures ∙ ap (set rows net) c.in_ok-row.ensures in
    record {
      each = ap length sets ∙ length-set rows net (given place) ∙ c.loop-place.invariant.each;
      are = λ p before.
          subst (λ (all : List (List Bool)). slice_get all (net_at circuit.order p) ≡ Some (given p)) (sym sets)
          (rows_more circuit c.known.ensures rows given place c.loop-place.invariant.each below c.loop-place.invariant.are p before);
    }

pub returns : goal.returns
returns c =
    let circuit = c.args.c.now in
    let long = order_long circuit.nets circuit.order c.known.ensures.by_name in
    record {
      each = c.loop-place.invariant.each;
      are = λ p below.
          c.loop-place.invariant.are p (omega (arith, below, long, c.loop-place-test.false, c.net_count-place-end.ensures));
    }
