use Rattle.std.proofs.Common.{rules, ◌≡◌, length, List, ℕ, sym, ap, ◌∙◌, subst}
use Rattle.run_wave.specs.Mark.{AreMarks}
use Rattle.run_wave.specs.Run.{IsRuns, cells_of}
use Rattle.run_wave.proofs.run_list.RunList.copy.Goals as goal

pub invariant_of-result : goal.invariant_of-result
invariant_of-result g c =
    let runs : c.in_ok-runs.runs.items ≡ c.args.self.now.runs.items = search rules in
    let marks : c.in_ok-marks.marks.items ≡ c.args.self.now.marks.items = search rules in
    record {
      is_runs = subst IsRuns (sym runs) c.args.self.now.is_runs;
      counted = c.args.self.now.counted ∙ ap (λ l. length (cells_of l)) (sym runs);
      marked = subst (λ l. AreMarks l c.in_ok-marks.marks.items) (sym runs)
          (subst (λ (l : List ℕ). AreMarks c.args.self.now.runs.items l) (sym marks) c.args.self.now.marked);
    }
