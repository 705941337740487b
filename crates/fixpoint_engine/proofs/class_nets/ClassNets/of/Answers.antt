use Rattle.std.proofs.Common.{◌≡◌, ◌∙◌, ◌<◌, ◌+◌, ap, refl, sym, subst, arith, length, nat_eq, ℕ}
use Rattle.std.specs.HashMap.{get}
use Rattle.std.proofs.lemmas.List.{length_push}
use Rattle.flat_circuit.specs.Alike.{class_of}
use Rattle.fixpoint_engine.specs.Members.{AreFirsts, AreLasts, last_below, last_in}
use Rattle.fixpoint_engine.proofs.Members.{IsFirstOf, none_below, last_more, last_some, before_more, class_read, first_none, first_some, firsts_more, lasts_more}
use Rattle.fixpoint_engine.proofs.class_nets.ClassNets.of.Goals as goal
use Rattle.fixpoint_engine.proofs.class_nets.ClassNets.of.Goals.{in-Some, in-None}

pub loop-net-init : goal.loop-net-init
loop-net-init c = record {
  each_net = ap length c.in_ok-before.ensures.items;
  before = λ i below. absurd (omega arith);
  firsts_are = record { each_net = ap length c.in_ok-firsts.ensures.items; is = λ i below. absurd (omega arith); alike = λ i below. absurd (omega arith); below = λ i below. absurd (omega arith) };
  lasts_are = record { each_net = ap length c.in_ok-lasts.ensures.items; is = λ i below. absurd (omega arith) };
  last = λ class. c.in_ok-last.ensures class ∙ sym (none_below c.in_ok-classes.classes.items class);
}

pub index-requires-in-Some : goal.index-requires-in-Some
index-requires-in-Some c =
    let ks = c.in_ok-classes.classes.items in
    let long : length ks ≡ c.args.nets = ap length (c.in_ok-classes.ensures.items ∙ c.as_slice.ensures) ∙ c.requires in
    let below : c.loop-net.net < length ks = omega (arith, long, c.loop-net-test.true) in
    let key = class_read ks c.loop-net.net c.index.result.now below c.index.ensures in
    let earlier = sym c.in-Some.is ∙ c.in_ok-earlier.ensures.old ∙ c.loop-net.invariant.last c.index.result.now ∙ ap (λ (k : ℕ). last_below ks k c.loop-net.net) key in
    let found = (last_some ks (class_of ks c.loop-net.net) c.loop-net.net c.in-Some.one (sym earlier)).1 in
    let each = c.loop-net.invariant.firsts_are.each_net in
    omega (arith, found, each)

pub index_mut-requires : goal.index_mut-requires
index_mut-requires c =
    let ks = c.in_ok-classes.classes.items in
    let net = c.loop-net.net in
    let long : length ks ≡ c.args.nets = ap length (c.in_ok-classes.ensures.items ∙ c.as_slice.ensures) ∙ c.requires in
    let below : net < length ks = omega (arith, long, c.loop-net-test.true) in
    let key = class_read ks net c.index.result.now below c.index.ensures in
    let found : c.in_ok-earlier.earlier ≡ last_below ks (class_of ks net) net =
    c.in_ok-earlier.ensures.old ∙ c.loop-net.invariant.last c.index.result.now ∙ ap (λ (k : ℕ). last_below ks k net) key in
    let first_is : IsFirstOf ks net c.match-earlier.first = elim c.match-earlier.branch [
      | in-Some w ↦ subst (IsFirstOf ks net) (sym w.first-is)
          (first_some ks c.loop-net.firsts.items net w.in-Some.one w.index-in-Some.result.now c.loop-net.invariant.firsts_are
          (sym w.in-Some.is ∙ found) w.index-in-Some.ensures)
      | in-None w ↦ subst (IsFirstOf ks net) (sym w.first-is) (first_none ks net (sym w.in-None.is ∙ found))
    ] in
    let each = c.loop-net.invariant.lasts_are.each_net in
    let grown : length c.push-in-loop-net-2.new.self.items ≡ length c.loop-net.lasts.items + 1 =
    ap length c.in_ok-push-3.ensures.items ∙ length_push c.loop-net.lasts.items net in
    let low = first_is.below in
    omega (arith, each, grown, low)

pub loop-net-preserved : goal.loop-net-preserved
loop-net-preserved c =
    let ks = c.in_ok-classes.classes.items in
    let net = c.loop-net.net in
    let long : length ks ≡ c.args.nets = ap length (c.in_ok-classes.ensures.items ∙ c.as_slice.ensures) ∙ c.requires in
    let below : net < length ks = omega (arith, long, c.loop-net-test.true) in
    let key = class_read ks net c.index.result.now below c.index.ensures in
    let found : c.in_ok-earlier.earlier ≡ last_below ks (class_of ks net) net =
    c.in_ok-earlier.ensures.old ∙ c.loop-net.invariant.last c.index.result.now ∙ ap (λ (k : ℕ). last_below ks k net) key in
    let first_is : IsFirstOf ks net c.match-earlier.first = elim c.match-earlier.branch [
      | in-Some w ↦ subst (IsFirstOf ks net) (sym w.first-is)
          (first_some ks c.loop-net.firsts.items net w.in-Some.one w.index-in-Some.result.now c.loop-net.invariant.firsts_are
          (sym w.in-Some.is ∙ found) w.index-in-Some.ensures)
      | in-None w ↦ subst (IsFirstOf ks net) (sym w.first-is) (first_none ks net (sym w.in-None.is ∙ found))
    ] in
    let same : c.match-earlier.earlier ≡ c.in_ok-earlier.earlier = elim c.match-earlier.branch [
      | in-Some w ↦ w.earlier-is ∙ sym w.in-Some.is
      | in-None w ↦ w.earlier-is
    ] in
    record {
      each_net = ap length c.in_ok-push.ensures.items ∙ length_push c.loop-net.before.items c.match-earlier.earlier ∙ (let each = c.loop-net.invariant.each_net in omega (arith, each));
      before = before_more ks net c.loop-net.before.items c.push.new.self.items c.match-earlier.earlier c.loop-net.invariant.each_net c.in_ok-push.ensures.items
          (same ∙ found) c.loop-net.invariant.before;
      firsts_are = firsts_more ks c.loop-net.firsts.items c.push-in-loop-net.new.self.items net c.match-earlier.first c.loop-net.invariant.firsts_are c.in_ok-push-2.ensures.items first_is;
      lasts_are = lasts_more ks c.loop-net.lasts.items c.push-in-loop-net-2.new.self.items _ net c.match-earlier.first c.loop-net.invariant.lasts_are c.in_ok-push-3.ensures.items refl first_is;
      last = last_more ks (last_in c.loop-net.last.near.items (get nat_eq c.loop-net.last.far)) (last_in c.put.new.self.near.items (get nat_eq c.put.new.self.far))
          c.index.result.now net c.in_ok-earlier.ensures.new key c.loop-net.invariant.last;
    }

pub invariant_of-result : goal.invariant_of-result
invariant_of-result c =
    let ks = c.in_ok-classes.classes.items in
    let long : length ks ≡ c.args.nets = ap length (c.in_ok-classes.ensures.items ∙ c.as_slice.ensures) ∙ c.requires in
    let ends : c.loop-net.net ≡ length ks = (let done = c.loop-net-test.false in let auto = c.loop-net.auto.net-end in omega (arith, long, done, auto)) in
    record {
      each_net = c.loop-net.invariant.each_net ∙ ends;
      before_is = λ i below. c.loop-net.invariant.before i (omega (arith, ends, below));
      firsts_are = subst (AreFirsts ks c.loop-net.firsts.items) ends c.loop-net.invariant.firsts_are;
      lasts_are = subst (AreLasts ks c.loop-net.lasts.items) ends c.loop-net.invariant.lasts_are;
    }
