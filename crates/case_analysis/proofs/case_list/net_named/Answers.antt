use Rattle.std.proofs.Common.{rules}
use Rattle.macro_expander.specs.Cases.{entry_name}
use Rattle.case_analysis.proofs.Entries.{wide_none}
use Rattle.case_analysis.proofs.case_list.net_named.Goals as goal

pub returns-in-Err : goal.returns-in-Err
returns-in-Err c = wide_none c.args.c.now.nets (entry_name c.args.entry.now) c.bits_known.ensures (search rules)
