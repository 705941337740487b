use Rattle.std.proofs.Common.{◌+◌, ◌++◌, List, Some, drop, ap, ◌∙◌}
use Rattle.critical_paths.specs.declared.common.Counted.{Counted}
use Rattle.critical_paths.specs.Known.{end_of}
use Rattle.critical_paths.proofs.Counting.{parts_done, parts_from, parts_more, parts_noted}
use Rattle.critical_paths.proofs.common.parts.Goals as goal

pub loop-place-preserved : goal.loop-place-preserved
loop-place-preserved c =
    let circuit = c.args.c.now in
    let end = end_of c.node-end.result.end in
    let way = c.as_slice-nodes.result.now in
    let place = c.loop-place.place in
    ap (λ (l : List Counted). l ++ parts_from circuit end (drop (place + 1) way))
    c.in_ok-add_node.ensures
    ∙ parts_more circuit end way place c.loop-place.out (parts_from circuit end way)
    c.node_at-node.result c.node_at-node.ensures
    c.loop-place.invariant

pub returns : goal.returns
returns c =
    let circuit = c.args.c.now in
    let end = end_of c.node-end.result.end in
    let way = c.as_slice-nodes.result.now in
    ap Some (parts_done circuit end way c.loop-place.place c.loop-place.out
    (parts_from circuit end way) c.loop-place-test.false c.loop-place.invariant
    ∙ ap (parts_from circuit end) (c.as_slice-nodes.ensures ∙ c.in_ok-way.ensures))
    ∙ parts_noted circuit c.args.paths.now.nodes c.args.number c.node-end.result c.node-end.ensures
