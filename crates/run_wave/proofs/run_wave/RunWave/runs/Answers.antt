use Rattle.std.proofs.Common.{ap, ◌∙◌}
use Rattle.std.specs.List.{sum_by}
use Rattle.run_wave.proofs.Runs.{widths_sum}
use Rattle.run_wave.proofs.run_wave.RunWave.runs.Goals as goal

pub returns-clause-whole : goal.returns-clause-whole
returns-clause-whole g c = ap (sum_by (λ r. r.width)) c.deref.ensures.value ∙ widths_sum c.args.self.now.list.runs.items
