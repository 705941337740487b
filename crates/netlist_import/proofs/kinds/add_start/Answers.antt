use Rattle.std.proofs.Common.{◌≡◌, ◌∙◌, None, sym}
use Rattle.std.specs.Map.{lookup}
use Rattle.netlist_import.specs.Sorts.{is_sort}
use Rattle.netlist_import.proofs.KeptPorts.{none_there}
use Rattle.netlist_import.proofs.Starts.{same_lookup, start_noted}
use Rattle.netlist_import.proofs.kinds.add_start.Goals as goal

pub returns-in_ok-insert-clause-same : goal.returns-in_ok-insert-clause-same
returns-in_ok-insert-clause-same c = λ s.
    let old = c.args.starts.now.entries in
    let sort = c.args.sort in
    let none : lookup (is_sort sort) old ≡ None =
    none_there (lookup (is_sort sort) old)
    (sym c.contains_key.ensures ∙ c.if-not-contains_key.true) in
    start_noted (lookup (is_sort s) old) (lookup (is_sort s) c.insert.new.self.entries) c.args.count
    (is_sort sort s) (c.in_ok-insert.ensures.updates.0 s)
    (λ h. sym (same_lookup sort s old h) ∙ none)
