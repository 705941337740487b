use Rattle.std.proofs.Common.{◌≡◌, ◌<◌, ℕ, length, get_or, None, nat_eq}
use Rattle.std.specs.HashMap.{get}
use Rattle.flat_circuit.specs.Alike.{class_of}
use Rattle.fixpoint_engine.specs.Members.{AreFirsts, AreLasts, last_below, last_in}
use Rattle.fixpoint_engine.proofs.class_nets.ClassNets.of.Given as goal

abbrev pub invariant-loop-net : goal.invariant-loop-net
invariant-loop-net l = record {
  each_net : length l.before.items ≡ l.net;
  before : (i : ℕ) → i < l.net → get_or l.before.items i None ≡ last_below l.classes.items (class_of l.classes.items i) i;
  firsts_are : AreFirsts l.classes.items l.firsts.items l.net;
  lasts_are : AreLasts l.classes.items l.lasts.items l.net;
  last : (class : ℕ) → last_in l.last.near.items (get nat_eq l.last.far) class ≡ last_below l.classes.items class l.net;
}
