use Rattle.std.specs.Str.{bytes_eq}
use Rattle.macro_expander.specs.Runs.{HasRun}
use Rattle.macro_expander.proofs.Lists.{found_has}
use Rattle.macro_expander.proofs.scope.Formals.find.Goals as goal

pub returns-clause-run : goal.returns-clause-run
returns-clause-run c = found_has HasRun (λ f. bytes_eq f.base c.args.base.now) c.self.inside.items c.named.result (rw c.as_slice.ensures at c.named.ensures) c.self.invariant.1
