use Rattle.std.proofs.Common.{◌∙◌, sym, ap, subst}
use Rattle.std.proofs.lemmas.List.{take_all}
use Rattle.fixpoint_engine.specs.Table.{waves_at}
use Rattle.fixpoint_engine.proofs.Growing.{grows_trans, known_still, same_waves}
use Rattle.fixpoint_engine.specs.Waves.{FitWaves, waves_of}
use Rattle.fixpoint_engine.specs.Worklist.{changes_of}
use Rattle.fixpoint_engine.proofs.Changing.{changes_more}
use Rattle.fixpoint_engine.proofs.Numbered.{constants_still}
use Rattle.fixpoint_engine.proofs.changes.changes.Goals as goal

pub add_change-requires-clause-known : goal.add_change-requires-clause-known
add_change-requires-clause-known g c = known_still c.args.store.now c.loop-net.store c.loop-net.invariant.grows c.args.numbers.now c.requires.known

pub add_change-requires-clause-fit : goal.add_change-requires-clause-fit
add_change-requires-clause-fit g c =
    subst (FitWaves c.args.c.now) (sym (same_waves c.args.store.now c.loop-net.store c.loop-net.invariant.grows c.args.numbers.now c.requires.known)) c.requires.fit

pub add_change-requires-clause-constants : goal.add_change-requires-clause-constants
add_change-requires-clause-constants g c =
    constants_still c.args.c.now.header c.args.store.now c.loop-net.store c.args.constants c.loop-net.invariant.grows c.requires.constants

pub loop-net-preserved : goal.loop-net-preserved
loop-net-preserved g c =
    let old = c.loop-net.store in
    let before = c.loop-net.invariant in
    record {
      grows = grows_trans c.args.store.now old c.add_change.new.store before.grows c.in_ok-add_change.ensures.grows;
      known = c.in_ok-add_change.ensures.known;
      made = changes_more c.args.c.now (waves_at c.args.store.now c.args.numbers.now) (waves_at old c.args.numbers.now) c.args.nets.now c.loop-net.net-index _ _
          c.loop-net-test.true (same_waves c.args.store.now old before.grows c.args.numbers.now c.requires.known) before.made c.in_ok-add_change.ensures.made;
    }

pub returns-in_err-add_change-clause-grows : goal.returns-in_err-add_change-clause-grows
returns-in_err-add_change-clause-grows g c =
    grows_trans c.args.store.now c.loop-net.store c.add_change.new.store c.loop-net.invariant.grows c.in_err-add_change.ensures.grows

pub returns-clause-made : goal.returns-clause-made
returns-clause-made g c =
    c.loop-net.invariant.made
    ∙ ap (changes_of c.args.c.now (waves_of (waves_at c.args.store.now c.args.numbers.now)))
    (take_all c.loop-net.net-index c.args.nets.now c.loop-net-test.false)
