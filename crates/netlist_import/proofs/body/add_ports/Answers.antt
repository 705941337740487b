use Rattle.std.proofs.Common.{◌≡◌, ◌+◌, ◌++◌, ◌∷◌, ◌∙◌, [], ap, sym, drop}
use Rattle.drawing_tree.specs.Tree as tree
use Rattle.drawing_tree.specs.Canonical.{bracketed_if_some, connection_text}
use Rattle.netlist_import.specs.declared.nets.Nets.{Nets}
use Rattle.netlist_import.specs.Body.{Connected, connected, connection_of, of_way, wires_at}
use Rattle.netlist_import.proofs.Bracketed.{is_any, rest_end, some_end, some_here, some_past, text_here, text_past}
use Rattle.netlist_import.proofs.Steps.{connected_end, connected_here, connected_past}
use Rattle.netlist_import.proofs.body.add_ports.Goals as goal
use Rattle.netlist_import.proofs.body.add_ports.Goals.{then-is_same_way+in_ok-add_separator+in_ok-add_port, else-is_same_way}

pub returns-clause-some : goal.returns-clause-some
returns-clause-some c =
    let way = c.args.direction in
    let ports = c.args.ports.now in
    let nets = c.loop-port.nets in
    let i = c.loop-port.port-index in
    some_end c.args.before.now connection_text c.loop-port.is_some
    (is_any (connected c.args.cell.now (of_way way ports) c.args.nets.now).connections)
    (connected c.args.cell.now (of_way way (drop i ports)) nets).connections
    (ap (λ (k : Connected). k.connections) (connected_end c.args.cell.now way ports i nets
    c.loop-port-test.false)) c.loop-port.invariant.some

pub returns-clause-text : goal.returns-clause-text
returns-clause-text c =
    let way = c.args.direction in
    let ports = c.args.ports.now in
    let nets = c.loop-port.nets in
    let i = c.loop-port.port-index in
    let made = (connected c.args.cell.now (of_way way ports) c.args.nets.now).connections in
    rest_end c.args.before.now connection_text c.loop-port.is_some
    (connected c.args.cell.now (of_way way (drop i ports)) nets).connections
    (c.args.out.now ++ bracketed_if_some c.args.before.now [] connection_text made) c.loop-port.out
    (ap (λ (k : Connected). k.connections) (connected_end c.args.cell.now way ports i nets
    c.loop-port-test.false)) c.loop-port.invariant.text

pub returns-clause-nets : goal.returns-clause-nets
returns-clause-nets c =
    sym (c.loop-port.invariant.nets
    ∙ ap (λ (k : Connected). k.nets) (connected_end c.args.cell.now c.args.direction
    c.args.ports.now c.loop-port.port-index c.loop-port.nets c.loop-port-test.false))

pub loop-port-preserved : goal.loop-port-preserved
loop-port-preserved c =
    let way = c.args.direction in
    let cell = c.args.cell.now in
    let before = c.args.before.now in
    let ports = c.args.ports.now in
    let nets = c.loop-port.nets in
    let next = c.if-is_same_way.nets in
    let i = c.loop-port.port-index in
    let p = c.port-item.result in
    let some = c.loop-port.is_some in
    let now = c.if-is_same_way.is_some in
    let out = c.loop-port.out in
    let end = c.if-is_same_way.out in
    let made = (connected cell (of_way way ports) c.args.nets.now).connections in
    let any = is_any made in
    let all = c.args.out.now ++ bracketed_if_some before [] connection_text made in
    let left = (connected cell (of_way way (drop i ports)) nets).connections in
    let later = of_way way (drop (i + 1) ports) in
    let rest = (connected cell later next).connections in
    elim c.if-is_same_way.branch [
      | then-is_same_way+in_ok-add_separator+in_ok-add_port w ↦
          let wired = wires_at cell p nets in
          let item : tree.Connection = connection_of wired.1.list wired.0 in
          let same : next ≡ wired.1 = w.nets-is ∙ w.in_ok-add_port.ensures.nets in
          let step = connected_here cell way ports i p nets c.loop-port-test.true c.port-item.is
          (sym c.is_same_way.ensures ∙ w.if-is_same_way.true) in
          let here : left ≡ item ∷ rest =
          ap (λ (k : Connected). k.connections) step
          ∙ ap (λ (s : Nets). item ∷ (connected cell later s).connections) (sym same) in
          record {
            some = some_here before connection_text some now any item rest left here w.is_some-is
                c.loop-port.invariant.some;
            text = text_here before connection_text some now item rest left all out
                w.add_separator.new.out end here w.is_some-is
                c.loop-port.invariant.text w.in_ok-add_separator.ensures
                (w.out-is ∙ w.in_ok-add_port.ensures.text
                ∙ ap (λ (s : Nets). w.add_separator.new.out
                ++ connection_text (connection_of s.list wired.0))
                w.in_ok-add_port.ensures.nets);
            nets = c.loop-port.invariant.nets ∙ ap (λ (k : Connected). k.nets) step
                ∙ ap (λ (s : Nets). (connected cell later s).nets) (sym same);
          }
      | else-is_same_way w ↦
          let same : next ≡ nets = w.nets-is in
          let step = connected_past cell way ports i p nets c.loop-port-test.true c.port-item.is
          (sym c.is_same_way.ensures ∙ w.if-is_same_way.false) in
          let past : left ≡ rest =
          ap (λ (k : Connected). k.connections) step
          ∙ ap (λ (s : Nets). (connected cell later s).connections) (sym same) in
          record {
            some = some_past before connection_text some now any rest left past w.is_some-is
                c.loop-port.invariant.some;
            text = text_past before connection_text some now rest left all out end past w.is_some-is
                w.out-is c.loop-port.invariant.text;
            nets = c.loop-port.invariant.nets ∙ ap (λ (k : Connected). k.nets) step
                ∙ ap (λ (s : Nets). (connected cell later s).nets) (sym same);
          }
    ]
