use Rattle.std.proofs.Common.{◌<◌, length, map, arith}
use Rattle.std.proofs.lemmas.List.{length-map}
use Rattle.std.proofs.lemmas.List.Elements.{All-map}
use Rattle.fixpoint_engine.specs.Settled.{marked_in}
use Rattle.fixpoint_engine.proofs.Places.{some_named}
use Rattle.fixpoint_engine.proofs.rounds.unsettled.Goals as goal

pub unreachable-requires : goal.unreachable-requires
unreachable-requires c =
    let long = length-map c.args.changes.now (λ ch. ch.net) in
    some_named c.args.c.now.nets c.args.c.now.order (map (λ ch. ch.net) c.args.changes.now) (marked_in c.in_ok-changed.changed) c.known.ensures.by_name
    (All-map (λ net. net < length c.args.c.now.nets) (λ ch. ch.net) c.args.changes.now c.requires.exist) (omega (arith, long, c.requires.some)) c.in_ok-changed.ensures c.in-None.ensures
