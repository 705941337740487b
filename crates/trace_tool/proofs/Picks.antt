-- A trace that was read has delays that fit.
use Rattle.std.proofs.Common.{◌≡◌, ℕ, List, [], length, ap, subst, ◌∙◌}
use Rattle.std.specs.Prelude.{slice_get, Some}
use Rattle.std.proofs.lemmas.Option.{get_or_from_slice_get}
use Rattle.flat_circuit.specs.Circuit.{Circuit}
use Rattle.trace_sim.specs.declared.choice.Choice.{Choice}
use Rattle.trace_sim.specs.Choice.{PickFits}
use Rattle.trace_sim.specs.Failure.{ArePicks}
use Rattle.trace_tool.specs.declared.extent.Extent.{Extent}
use Rattle.trace_tool.specs.declared.trace.Trace.{Trace}
use Rattle.trace_tool.specs.Trace.{pick_at, wires_at}
use Rattle.trace_tool.specs.Reading.{IsTrace}

-- so a choice of these delays is one whose equations can be tried
pub trace_picks : (e : Extent) (c : Circuit) (trace : Trace) (choice : Choice) → choice.delays ≡ trace.delays →
    choice.wires ≡ trace.wires → IsTrace e c trace → ArePicks c choice
trace_picks e c trace choice delays wires is = record {
  delays = ap length delays ∙ is.delays;
  wires = ap length wires ∙ is.wires;
  fits = λ k i pick row here picked wired.
      let one : pick_at trace k ≡ pick = get_or_from_slice_get trace.delays k pick (0, 0)
      (subst (λ (ds : List (ℕ × ℕ)). slice_get ds k ≡ Some pick) delays picked) in
      let other : wires_at trace k ≡ row = get_or_from_slice_get trace.wires k row []
      (subst (λ (ws : List (List ℕ)). slice_get ws k ≡ Some row) wires wired) in
      subst (λ (p : ℕ × ℕ). PickFits c i p row) one
      (subst (λ (ws : List ℕ). PickFits c i (pick_at trace k) ws) other ((is.fit k i here).fits));
}
