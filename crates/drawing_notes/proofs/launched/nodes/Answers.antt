use Rattle.std.proofs.Common.{[], ◌∷◌, ◌++◌, map, ap, sym, ◌∙◌, arith}
use Rattle.std.proofs.lemmas.List.{map-append}
use Rattle.std.proofs.lemmas.List.FromFn.{map-range_with_len_more}
use Rattle.flat_circuit.specs.Node.{node_feeders}
use Rattle.drawing_notes.specs.Arrivals.{feeders_in}
use Rattle.drawing_notes.specs.Parts.{together}
use Rattle.drawing_notes.specs.Paths.{is_looped}
use Rattle.drawing_notes.proofs.launched.nodes.Goals as goal

pub loop-net-preserved : goal.loop-net-preserved
loop-net-preserved c =
    ap (map node_feeders) c.in_ok-push.ensures.items ∙ map-append node_feeders c.loop-net.nodes.items _
    ∙ (λ k. c.loop-net.invariant k ++ c.in_ok-feeders.ensures k ∷ [])
    ∙ sym (map-range_with_len_more (feeders_in c.args.c.now (is_looped (together c.args.parts.now))) 0 c.loop-net.net c.loop-net.net (omega arith))
