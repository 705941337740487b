use Rattle.std.proofs.Common.{◌≡◌, ◌∙◌, ◌<◌, ℕ, sym, subst, length, arith, get_or}
use Rattle.std.proofs.lemmas.List.{get_or_default}
use Rattle.flat_circuit.specs.Node.{feeders_of}
use Rattle.flat_circuit.proofs.OrderWalk.{pins_read}
use Rattle.flat_circuit.proofs.node.feeder_at.Goals as goal

pub returns-then-at-len : goal.returns-then-at-len
returns-then-at-len c =
    let n = get_or c.args.nodes.now c.args.node c.index-nodes-node.result in
    let e = pins_read c.args.nodes.now c.args.node c.index-nodes-node.result c.requires.node in
    let l : c.args.at < length n.feeders.items = omega (arith, c.len.ensures, n.feeders.ok.0, c.if-at-len.true) in
    let b : c.args.at < length (feeders_of c.args.nodes.now c.args.node) = rw e l in
    let i : c.index.result.now ≡ get_or (feeders_of c.args.nodes.now c.args.node) c.args.at 0 = rw e (c.index.ensures ∙ get_or_default n.feeders.items c.args.at c.index.result.now 0 l) in
    record { below = b; is = i; inside = subst (λ (x : ℕ). x < length c.args.nodes.now) (sym i) (c.requires.nodes c.args.node c.args.at 0 b) }

pub returns-else-at-len : goal.returns-else-at-len
returns-else-at-len c =
    let n = get_or c.args.nodes.now c.args.node c.index-nodes-node.result in
    let e = pins_read c.args.nodes.now c.args.node c.index-nodes-node.result c.requires.node in
    rw e (omega (arith, c.len.ensures, n.feeders.ok.0, c.if-at-len.false))
