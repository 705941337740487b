use Rattle.std.proofs.Common.{◌≡◌, ℕ, Bool, length}
use Rattle.fixpoint_engine.specs.Waves.{waves_of}
use Rattle.drawing_notes.specs.Paths.{TellsLaunches}
use Rattle.drawing_notes.specs.Common.{skew_at}
use Rattle.drawing_notes.specs.Doubts.{WasFound}
use Rattle.drawing_notes.specs.Seen.{Sees}
use Rattle.drawing_notes.proofs.Doubting.{MarkedTo}
use Rattle.drawing_notes.proofs.common.common_checkers.Given as goal

abbrev pub invariant-loop-doubt : goal.invariant-loop-doubt
invariant-loop-doubt g l =
    let v = l.view in
    record {
      long : length l.common.items ≡ length v.circuit.now.instances;
      each_net : length l.found.marks ≡ length v.circuit.now.nets;
      was_found : (looped : ℕ → Bool) → Sees v.circuit.now looped v.waves.now v.within.now v.held.now →
          WasFound v.circuit.now looped (waves_of v.waves.now) l.last l.found.marks;
      marked : (looped : ℕ → Bool) (launched : ℕ → ℕ → Bool) → Sees v.circuit.now looped v.waves.now v.within.now v.held.now →
          TellsLaunches v.circuit.now looped (waves_of v.waves.now) launched →
          MarkedTo v.circuit.now (skew_at l.skews) l.doubt-items launched l.doubt-index l.common.items;
    }
