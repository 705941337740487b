use Rattle.std.proofs.Common.{◌<◌, length, subst, sym}
use Rattle.std.specs.Option.{IsSome}
use Rattle.trace_sim.proofs.Places.{net_below}
use Rattle.trace_sim.proofs.DrawPlaces.{some_behind, some_within}
use Rattle.trace_sim.proofs.seed.row_at.Goals as goal

pub unwrap-found-requires : goal.unwrap-found-requires
unwrap-found-requires c =
    let circuit = c.args.c.now in
    let inside : c.net_at-net.result < length circuit.nets =
    subst (λ n. n < length circuit.nets) (sym c.net_at-net.ensures) (net_below circuit c.known.ensures c.args.place c.requires) in
    some_behind c.net.result (subst IsSome (sym c.net.ensures) (some_within circuit.nets c.net_at-net.result inside))
