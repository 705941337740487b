use Rattle.std.proofs.Common.{◌≡◌, ◌++◌, ◌∙◌, List, ap, codes}
use Rattle.std.proofs.lemmas.Result.{on_ok_weaker}
use Rattle.drawing_tree.specs.Canonical.{statements_lines}
use Rattle.netlist_import.specs.declared.netlist.Port.{Port}
use Rattle.netlist_import.specs.Nets.{numbered_from}
use Rattle.netlist_import.specs.Fresh.{names_after}
use Rattle.netlist_import.specs.Body.{all_outlets, buffer_labels, buffers, listed}
use Rattle.netlist_import.specs.declared.outlets.Outlet.{Outlet}
use Rattle.netlist_import.proofs.body.add_buffer_part.Goals as goal

pub returns : goal.returns
returns c =
    let nets = c.args.nets.now in
    let led : c.as_slice-2.result.now ≡ all_outlets nets (numbered_from 0 c.args.module.now.ports) =
    c.as_slice-2.ensures ∙ c.in_ok-outlets.ensures
    ∙ ap (λ (ps : List Port). all_outlets nets (numbered_from 0 ps)) c.as_slice.ensures in
    on_ok_weaker c.add_buffers.result
    (λ e. e ∙ ap (λ (os : List Outlet). c.args.out.now ++ statements_lines (codes "  ")
    (listed (buffers nets.list (names_after c.args.labels.now (buffer_labels 0 os)) os))) led)
    c.add_buffers.ensures
