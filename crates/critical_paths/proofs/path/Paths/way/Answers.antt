use Rattle.std.proofs.Common.{◌+◌, ◌-◌, ◌++◌, ◌∷◌, [], List, ap, sym, arith, ◌∙◌}
use Rattle.critical_paths.specs.declared.path.Node.{Node}
use Rattle.critical_paths.specs.Known.{nodes_on, way_by, way_of}
use Rattle.critical_paths.proofs.Nodes.{way_more}
use Rattle.critical_paths.proofs.path.Paths.way.Goals as goal

pub loop-init : goal.loop-init
loop-init c =
    let nodes = c.args.self.now.nodes in
    let first = c.node-first.result in
    ap (λ (l : List Node). l ++ nodes_on nodes (first.count - 1) first.next)
    (c.in_ok-push.ensures.ok ∙ ap (λ (l : List Node). l ++ first ∷ []) c.new-way.ensures)
    ∙ sym (ap (way_by nodes) c.node-first.ensures)

pub loop-preserved : goal.loop-preserved
loop-preserved c =
    let nodes = c.args.self.now.nodes in
    let count = c.node-first.result.count in
    let test = c.loop-test.true in
    ap (λ (l : List Node). l ++ nodes_on nodes (count - (c.loop.counter + 1))
    c.in-Some.node.now.next) c.in_ok-push-in-Some.ensures.ok
    ∙ way_more nodes c.loop.way (way_of nodes c.args.number) (count - c.loop.counter)
    (count - (c.loop.counter + 1)) c.loop.next
    c.in-Some.node.now (omega (arith, test)) (sym c.in-Some.ensures) c.loop.invariant
