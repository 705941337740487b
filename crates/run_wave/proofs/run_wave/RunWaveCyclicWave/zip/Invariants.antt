use Rattle.std.proofs.Common.{◌≡◌, ◌<◌, ◌+◌, ◌∷◌, length, drop}
use Rattle.std.specs.List.{zip}
use Rattle.run_wave.specs.Run.{cells_of}
use Rattle.run_wave.proofs.Zipped.{Continues}
use Rattle.run_wave.proofs.run_wave.RunWaveCyclicWave.zip.Given as goal

abbrev pub invariant-parts : goal.invariant-parts
invariant-parts g l = record {
  so_far : Continues (λ p d. g.F.Fn.post l.f (p.0, (p.1, tt)) d) (zip (cells_of l.self.list.runs.items) (cells_of l.other.list.runs.items))
      (zip (cells_of (l.mine.run ∷ drop l.mine.next l.self.list.runs.items)) (cells_of (l.theirs.run ∷ drop l.theirs.next l.other.list.runs.items)))
      (cells_of l.list.runs.items);
  together : length (cells_of (l.mine.run ∷ drop l.mine.next l.self.list.runs.items)) ≡ length (cells_of (l.theirs.run ∷ drop l.theirs.next l.other.list.runs.items));
  count : length (cells_of l.list.runs.items) + length (cells_of (l.mine.run ∷ drop l.mine.next l.self.list.runs.items)) ≡ length (cells_of l.self.list.runs.items);
  some : 0 < length (cells_of (l.mine.run ∷ drop l.mine.next l.self.list.runs.items)) → 0 < l.mine.run.width;
  some_too : 0 < length (cells_of (l.theirs.run ∷ drop l.theirs.next l.other.list.runs.items)) → 0 < l.theirs.run.width;
}

abbrev pub decreases-parts : goal.decreases-parts
decreases-parts g l = length (cells_of (l.mine.run ∷ drop l.mine.next l.self.list.runs.items))
