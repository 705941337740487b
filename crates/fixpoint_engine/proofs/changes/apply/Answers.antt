use Rattle.std.proofs.Common.{◌∙◌, length, map, take, get_or, ap, refl, sym, arith}
use Rattle.std.proofs.lemmas.List.{length-set, map-set, take_all}
use Rattle.fixpoint_engine.specs.Table.{wave_at, waves_at}
use Rattle.fixpoint_engine.proofs.TableByNumber.{next_item}
use Rattle.fixpoint_engine.specs.Worklist.{changed}
use Rattle.fixpoint_engine.proofs.Added.{known_of, known_set}
use Rattle.fixpoint_engine.proofs.Changing.{applied_more}
use Rattle.fixpoint_engine.proofs.changes.apply.Goals as goal

pub set-requires : goal.set-requires
set-requires c =
    let long = c.loop-change.invariant.long in
    let below = c.requires c.loop-change.change-index (record { net = 0; number = 0 }) c.loop-change-test.true in
    omega (arith, long, below)

pub loop-change-preserved : goal.loop-change-preserved
loop-change-preserved c =
    let numbers = c.loop-change.numbers in
    let index = c.loop-change.change-index in
    let one = get_or c.args.changes.now index (record { net = 0; number = 0 }) in
    let before = c.loop-change.invariant in
    record {
      long = ap length c.set.ensures ∙ length-set numbers one.net one.number ∙ before.long;
      known = λ table old new. known_set table numbers c.set.new.self one.net one.number c.set.ensures (before.known table old new)
          (known_of (λ ch. ch.number) table c.args.changes.now index (record { net = 0; number = 0 }) c.loop-change-test.true new);
      changed = λ table. applied_more (λ ch. (ch.net, wave_at table ch.number)) (waves_at table numbers) (waves_at table c.set.new.self)
          (waves_at table c.args.numbers.now) (take index c.args.changes.now) one (wave_at table one.number) (before.changed table)
          (ap (waves_at table) c.set.ensures ∙ map-set (wave_at table) numbers one.net one.number) refl
          ∙ ap (λ chs. changed (waves_at table c.args.numbers.now) (map (λ ch. (ch.net, wave_at table ch.number)) chs))
          (sym (next_item c.args.changes.now index (record { net = 0; number = 0 }) c.loop-change-test.true));
    }

pub returns-clause-changed : goal.returns-clause-changed
returns-clause-changed c table =
    c.loop-change.invariant.changed table
    ∙ ap (λ chs. changed (waves_at table c.args.numbers.now) (map (λ ch. (ch.net, wave_at table ch.number)) chs))
    (take_all c.loop-change.change-index c.args.changes.now c.loop-change-test.false)
