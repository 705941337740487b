use Rattle.scald_lex.proofs.Placed.{stop_is_placed}
use Rattle.scald_lex.proofs.Unique.{only_list, only_refusal}
use Rattle.scald_lex.proofs.scan.packed_tokens.Goals as goal

pub returns-clause-placed : goal.returns-clause-placed
returns-clause-placed c = stop_is_placed c.args.text.now c.read.result c.read.ensures.refused

pub returns-clause-only_list : goal.returns-clause-only_list
returns-clause-only_list c = only_list c.args.text.now c.read.result c.read.ensures.found c.read.ensures.refused

pub returns-clause-only_refusal : goal.returns-clause-only_refusal
returns-clause-only_refusal c = only_refusal c.args.text.now c.read.result c.read.ensures.found c.read.ensures.refused
