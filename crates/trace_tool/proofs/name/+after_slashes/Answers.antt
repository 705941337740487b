use Rattle.std.proofs.Common.{sym, ◌∙◌}
use Rattle.trace_tool.proofs.Scopes.{all_base, base_at}
use Rattle.trace_tool.proofs.name.+after_slashes.Goals as goal

pub returns-in-None : goal.returns-in-None
returns-in-None t c = sym (all_base c.args.text.now (sym c.in-None.ensures))

pub returns-in-Some : goal.returns-in-Some
returns-in-Some t c = c.after_slashes.ensures ∙ sym (base_at c.args.text.now c.in-Some.at (sym c.in-Some.ensures))
