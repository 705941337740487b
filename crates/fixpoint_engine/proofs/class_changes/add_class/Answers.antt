use Rattle.std.proofs.Common.{◌∙◌, ◌++◌, ℕ, List, Option, ap, refl, sym, length, map}
use Rattle.flat_circuit.specs.Alike.{class_of}
use Rattle.fixpoint_engine.specs.Members.{members_below}
use Rattle.fixpoint_engine.proofs.Members.{above, last_some, members_above, member_added, goes_down, falls, none_left}
use Rattle.fixpoint_engine.proofs.class_changes.add_class.Goals as goal

pub loop-at-init : goal.loop-at-init
loop-at-init c = record {
  left = λ read. ap (λ (is : List ℕ). map (λ ch. (ch.net, read ch.number)) c.args.made.now.items ++ map (λ i. (i, read c.args.change.number)) is)
      (ap (λ (o : Option ℕ). members_below c.args.classes.now (class_of c.args.classes.now c.args.change.net) (above o)) c.last-at.ensures
      ∙ sym (members_above c.args.classes.now (class_of c.args.classes.now c.args.change.net) (length c.args.classes.now)));
  of = λ t is. last_some c.args.classes.now (class_of c.args.classes.now c.args.change.net) (length c.args.classes.now) t (sym c.last-at.ensures ∙ is);
}

pub previous-at-requires : goal.previous-at-requires
previous-at-requires c = (c.loop-at.invariant.of c.in-Some.net c.in-Some.is).1

pub loop-at-preserved : goal.loop-at-preserved
loop-at-preserved c =
    let of = c.loop-at.invariant.of c.in-Some.net c.in-Some.is in
    record {
      left = λ read. member_added (λ ch. (ch.net, read ch.number)) c.args.classes.now (class_of c.args.classes.now c.args.change.net) c.in-Some.net
          (read c.args.change.number) c.loop-at.made.items c.push.new.self.items (record { net = c.in-Some.net; number = c.args.change.number })
          c.loop-at.at c.previous-at.result _ c.in-Some.is of.0 c.previous-at.ensures c.in_ok-push.ensures.items refl (c.loop-at.invariant.left read);
      of = λ t is. goes_down c.args.classes.now (class_of c.args.classes.now c.args.change.net) c.in-Some.net t (length c.args.classes.now) of (sym c.previous-at.ensures ∙ is);
    }

pub loop-at-smaller : goal.loop-at-smaller
loop-at-smaller c = falls c.args.classes.now c.in-Some.net c.loop-at.at c.previous-at.result c.in-Some.is c.previous-at.ensures

pub returns : goal.returns
returns c = λ read. none_left (λ ch. (ch.net, read ch.number)) c.args.classes.now (class_of c.args.classes.now c.args.change.net)
    (read c.args.change.number) c.loop-at.made.items c.loop-at.at _ (c.loop-at.invariant.left read) c.in_default.is
