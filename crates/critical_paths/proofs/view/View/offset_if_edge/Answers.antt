use Rattle.std.proofs.Common.{◌∙◌, ℕ, ◌<◌, true, false, ap, sym, arith, rules, ℤ, pos, ◌-ℤ◌, to_z, of_z, w64, Some}
use Rattle.std.specs.Prelude.{FitsSigned}
use Rattle.std.proofs.lemmas.Int.{to_z-of_z}
use Rattle.scald_base.specs.Time.{period}
use Rattle.critical_paths.specs.Launch.{offset}
use Rattle.critical_paths.proofs.Edges.{offset_found}
use Rattle.critical_paths.proofs.view.View.offset_if_edge.Goals as goal

pub returns-then-is_edge-clause-is : goal.returns-then-is_edge-clause-is
returns-then-is_edge-clause-is g c =
    let below = c.requires in
    let fits : FitsSigned w64 c.shift-after.result = search rules in
    let fits_edge : FitsSigned w64 c.edge_tick.result = search rules in
    let some : 0 < period c.args.self.now.circuit.now.header = omega (arith, below) in
    ap Some (to_z-of_z w64 c.shift-after.result fits)
    ∙ offset_found c.args.self.now.circuit.now.header c.args.corner c.args.stop.direction
    c.args.stop.slot c.args.clock.now c.args.skew c.shift-after.result
    (to_z w64 (of_z w64 c.edge_tick.result)) true some
    (c.shift-after.ensures.is
    ∙ ap (λ (s : ℕ × ℕ). offset c.args.corner s.0 s.1) c.unwrap_or-early.ensures)
    (to_z-of_z w64 c.edge_tick.result fits_edge ∙ c.edge_tick.ensures.is
    ∙ ap (λ (z : ℤ). pos c.args.stop.slot -ℤ z) (to_z-of_z w64 c.shift-after.result fits)) (sym c.if-is_edge.true ∙ c.is_edge.ensures)

pub returns-else-is_edge-clause-is : goal.returns-else-is_edge-clause-is
returns-else-is_edge-clause-is g c =
    let below = c.requires in
    let fits : FitsSigned w64 c.shift-after.result = search rules in
    let fits_edge : FitsSigned w64 c.edge_tick.result = search rules in
    let some : 0 < period c.args.self.now.circuit.now.header = omega (arith, below) in
    offset_found c.args.self.now.circuit.now.header c.args.corner c.args.stop.direction
    c.args.stop.slot c.args.clock.now c.args.skew c.shift-after.result
    (to_z w64 (of_z w64 c.edge_tick.result)) false some
    (c.shift-after.ensures.is
    ∙ ap (λ (s : ℕ × ℕ). offset c.args.corner s.0 s.1) c.unwrap_or-early.ensures)
    (to_z-of_z w64 c.edge_tick.result fits_edge ∙ c.edge_tick.ensures.is
    ∙ ap (λ (z : ℤ). pos c.args.stop.slot -ℤ z) (to_z-of_z w64 c.shift-after.result fits)) (sym c.if-is_edge.false ∙ c.is_edge.ensures)
