use Rattle.std.proofs.Common.{◌≡◌, subst}
use Rattle.run_clauses.specs.declared.storage.Storage.{Storage}
use Rattle.run_clauses.specs.Meaning.{IsStoredBy, with_delay}
use Rattle.run_clauses.proofs.driven.add_storage.Goals as goal

pub loop-ticks-init : goal.loop-ticks-init
loop-ticks-init c bits is before = before

pub loop-ticks-preserved : goal.loop-ticks-preserved
loop-ticks-preserved c bits is before =
    let storage : Storage = record {
      net = c.args.net;
      unless = c.is_not.result;
      tick = c.saturating_sub.result;
      forced = c.args.forced;
    } in
    let same : with_delay c.args.net c.args.forced c.loop-ticks.ticks ≡ storage = cc in
    c.in_ok-add_stored.ensures bits
    (subst (λ (s : Storage). IsStoredBy c.args.is_latch s bits) same (is c.loop-ticks.ticks))
    (c.loop-ticks.invariant bits is before)
