use Rattle.std.proofs.Common.{◌∙◌, ℕ, List, Option, ap, refl, sym, arith, length, map}
use Rattle.std.proofs.lemmas.List.{length-set, map-set}
use Rattle.flat_circuit.specs.Alike.{class_of}
use Rattle.fixpoint_engine.specs.Table.{wave_at, waves_at}
use Rattle.fixpoint_engine.specs.Members.{members_below}
use Rattle.fixpoint_engine.specs.Worklist.{changed}
use Rattle.fixpoint_engine.proofs.Added.{known_set}
use Rattle.fixpoint_engine.proofs.Members.{above, last_some, members_above, member_applied, all_applied, goes_down, falls}
use Rattle.fixpoint_engine.proofs.changes.apply_class.Goals as goal

pub loop-at-init : goal.loop-at-init
loop-at-init c =
    let ks = c.args.classes.now in
    let class = class_of ks c.args.change.net in
    record {
      long = refl;
      known = λ table old new. old;
      changed = λ table. ap (λ (is : List ℕ). changed (waves_at table c.args.numbers.now) (map (λ i. (i, wave_at table c.args.change.number)) is))
          (ap (λ (o : Option ℕ). members_below ks class (above o)) c.last-at.ensures ∙ sym (members_above ks class (length ks)));
      of = λ t is. last_some ks class (length ks) t (sym c.last-at.ensures ∙ is);
    }

pub set-requires : goal.set-requires
set-requires c =
    let of = (c.loop-at.invariant.of c.in-Some.net c.in-Some.is).1 in
    let each = c.requires.each_net in
    let long = c.loop-at.invariant.long in
    omega (arith, of, each, long)

pub previous-at-requires : goal.previous-at-requires
previous-at-requires c = (c.loop-at.invariant.of c.in-Some.net c.in-Some.is).1

pub loop-at-preserved : goal.loop-at-preserved
loop-at-preserved c =
    let ks = c.args.classes.now in
    let class = class_of ks c.args.change.net in
    let net = c.in-Some.net in
    let number = c.args.change.number in
    let numbers = c.loop-at.numbers in
    let before = c.loop-at.invariant in
    let of = before.of net c.in-Some.is in
    record {
      long = ap length c.set.ensures ∙ length-set numbers net number ∙ before.long;
      known = λ table old new. known_set table numbers c.set.new.self net number c.set.ensures (before.known table old new) new;
      changed = λ table. member_applied ks class net (wave_at table number) (waves_at table numbers) (waves_at table c.set.new.self)
          c.loop-at.at c.previous-at.result _ c.in-Some.is of.0 c.previous-at.ensures
          (ap (waves_at table) c.set.ensures ∙ map-set (wave_at table) numbers net number) (before.changed table);
      of = λ t is. goes_down ks class net t (length ks) of (sym c.previous-at.ensures ∙ is);
    }

pub loop-at-smaller : goal.loop-at-smaller
loop-at-smaller c = falls c.args.classes.now c.in-Some.net c.loop-at.at c.previous-at.result c.in-Some.is c.previous-at.ensures

pub returns-clause-changed : goal.returns-clause-changed
returns-clause-changed c table =
    all_applied c.args.classes.now (class_of c.args.classes.now c.args.change.net) (wave_at table c.args.change.number)
    (waves_at table c.loop-at.numbers) c.loop-at.at _ c.in_default.is (c.loop-at.invariant.changed table)
