use Rattle.std.proofs.Common.{◌∙◌, ap, Bool, List, false, slice_index_or}
use Rattle.fault_decider.proofs.steps.bit_at.Goals as goal

pub returns : goal.returns
returns c = c.bit_in.ensures ∙ ap (λ (row : List Bool). slice_index_or row c.args.t false) c.row.ensures
