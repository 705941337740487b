use Rattle.std.proofs.Common.{◌≡◌, ℕ, ◌∙◌, ◌+◌, List, length, ap, sym, map, None, arith}
use Rattle.netlist_import.specs.declared.netlist.Bit as netlist
use Rattle.netlist_import.specs.Nets.{Wires, names_a_bit, net_name, nets_wanted, with_all, with_net, with_wanted}
use Rattle.netlist_import.specs.declared.nets.Nets.{Nets}
use Rattle.netlist_import.proofs.Claims.{hidden_most, left, net_here, net_past}
use Rattle.netlist_import.proofs.nets.Nets.add_nets.Goals as goal
use Rattle.netlist_import.proofs.nets.Nets.add_nets.Goals.{then-names_a_bit+in_ok-wanted+in_ok-add, else-names_a_bit+in_ok-add_unnamed}

pub loop-place-preserved : goal.loop-place-preserved
loop-place-preserved c =
    let ws = c.args.self.now.wires in
    let first = c.args.first in
    let nets = c.args.nets.now in
    let i = c.loop-place.place in
    let n = c.index-nets-place.result in
    let s = c.loop-place.self in
    let next = c.if-names_a_bit.self in
    let hidden = c.loop-place.hidden in
    let entries = s.wires in
    let all = with_all (nets_wanted ws 0 first nets) (map (λ x. length x.bits) nets) c.args.self.now
    in
    let known : entries ≡ ws = c.loop-place.invariant.wires in
    let told : c.names_a_bit.result ≡ names_a_bit ws (first + i) n.bits =
    c.names_a_bit.ensures
    ∙ ap (λ (bs : List netlist.Bit). names_a_bit entries (first + i) bs) c.as_slice.ensures
    ∙ ap (λ (es : Wires). names_a_bit es (first + i) n.bits) known in
    let width = c.len-width.ensures in
    elim c.if-names_a_bit.branch [
      | then-names_a_bit+in_ok-wanted+in_ok-add w ↦
          let named = sym told ∙ w.if-names_a_bit.true in
          let step : next ≡ with_net (net_name hidden n) (length n.bits) s =
          w.self-is ∙ w.in_ok-add.ensures.nets
          ∙ ap (λ (k : List ℕ). with_net k c.len-width.result s) w.in_ok-wanted.ensures
          ∙ ap (λ (k : ℕ). with_net (net_name hidden n) k s) width in
          let later = w.hidden-is ∙ w.hidden_after-hidden.ensures in
          let most = hidden_most hidden n in
          let few = c.loop-place.invariant.hidden in
          record {
            nets = net_here ws hidden first nets i n s next all c.loop-place-test.true
                c.index-nets-place.is named step c.loop-place.invariant.nets
                ∙ ap (λ (h : ℕ). left ws hidden first nets i n h (i + 1) next) (sym later);
            wires = ap (λ (x : Nets). x.wires) step ∙ c.loop-place.invariant.wires;
            hidden = omega (arith, later, most, few);
          }
      | else-names_a_bit+in_ok-add_unnamed w ↦
          let named = sym told ∙ w.if-names_a_bit.false in
          let step : next ≡ with_wanted None (length n.bits) s =
          w.self-is ∙ w.in_ok-add_unnamed.ensures ∙ ap (λ (k : ℕ). with_wanted None k s) width in
          let same = w.hidden-is in
          let few = c.loop-place.invariant.hidden in
          record {
            nets = net_past ws hidden first nets i n s next all c.loop-place-test.true
                c.index-nets-place.is named step c.loop-place.invariant.nets
                ∙ ap (λ (h : ℕ). left ws hidden first nets i n h (i + 1) next) (sym same);
            wires = ap (λ (x : Nets). x.wires) step ∙ c.loop-place.invariant.wires;
            hidden = omega (arith, same, few);
          }
    ]
