use Rattle.std.proofs.Common.{◌≡◌, ◌<◌, ◌+◌, ◌++◌, ◌∷◌, length, drop}
use Rattle.std.specs.List.{zip}
use Rattle.wave_core.specs.Slots.{later}
use Rattle.run_wave.specs.Run.{cells_of}
use Rattle.run_wave.proofs.Zipped.{Continues}
use Rattle.run_wave.proofs.run_wave.RunWave.joined_later.Given as goal

abbrev pub invariant-parts : goal.invariant-parts
invariant-parts g l = record {
  so_far : Continues (λ q d. d ≡ g.T.Cell.kind.join q.0 q.1)
      (zip (cells_of l.self.list.runs.items) (later g.T.Cell.kind (cells_of l.self.list.runs.items) l.by))
      (zip (cells_of (l.now.run ∷ drop l.now.next l.self.list.runs.items))
      (cells_of (l.earlier.run ∷ drop l.earlier.next l.self.list.runs.items) ++ cells_of l.self.list.runs.items))
      (cells_of l.list.runs.items);
  count : length (cells_of l.list.runs.items) + length (cells_of (l.now.run ∷ drop l.now.next l.self.list.runs.items))
      ≡ length (cells_of l.self.list.runs.items);
  some : 0 < length (cells_of (l.now.run ∷ drop l.now.next l.self.list.runs.items)) → 0 < l.now.run.width;
  some_too : 0 < l.earlier.run.width;
}

abbrev pub decreases-parts : goal.decreases-parts
decreases-parts g l = length (cells_of (l.now.run ∷ drop l.now.next l.self.list.runs.items))
