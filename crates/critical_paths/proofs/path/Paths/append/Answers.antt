use Rattle.std.proofs.Common.{◌∙◌}
use Rattle.critical_paths.proofs.path.Paths.append.Goals as goal

pub returns-clause-arrivals : goal.returns-clause-arrivals
returns-clause-arrivals c = record {
  arrival = c.numbered.result;
  is = c.in_ok-push-2.ensures.ok;
  time = λ i. (c.numbered.ensures.0 i, c.numbered.ensures.1 i);
  node = c.numbered.ensures.2 ∙ c.len-number.ensures;
}
