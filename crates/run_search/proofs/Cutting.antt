-- A run that is cut off is a run.
use Rattle.std.proofs.Common.{◌≡◌, ℕ, ◌≤◌, List, map, take, min, arith, subst, sym}
use Rattle.flat_circuit.specs.Circuit.{Circuit}
use Rattle.flat_circuit.specs.Run.{Choice as Chosen, IsRun}
use Rattle.flat_circuit.proofs.Parts.{front_is_run}
use Rattle.trace_sim.specs.Choice.{Bits}
use Rattle.trace_sim.specs.Simulated.{run_of}

pub cut_is_run : (c : Circuit) (choices : List Chosen) (bits fronts : Bits) (ticks last : ℕ) →
    IsRun c (run_of ticks choices bits) → last ≤ ticks → fronts ≡ map (take last) bits →
    IsRun c (run_of last choices fronts)
cut_is_run c choices bits fronts ticks last is short are =
    let ends : min last ticks ≡ last = omega arith in
    subst (λ (rows : Bits). IsRun c (run_of last choices rows)) (sym are)
    (subst (λ (n : ℕ). IsRun c (run_of n choices (map (take last) bits))) ends
    (front_is_run c (run_of ticks choices bits) last is))
