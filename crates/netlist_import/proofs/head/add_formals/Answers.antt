use Rattle.std.proofs.Common.{ℕ, ◌+◌, ◌++◌, ◌∙◌, List, [], ap, sym, drop}
use Rattle.drawing_tree.specs.Tree as tree
use Rattle.drawing_tree.specs.Canonical.{bracketed_if_some, formal_text}
use Rattle.netlist_import.specs.Body.{formal_range, formals_named}
use Rattle.netlist_import.proofs.Bracketed.{is_any, rest_end, some_here, some_past, text_here, text_past}
use Rattle.netlist_import.proofs.Steps.{named_end, named_here, named_past, named_short}
use Rattle.netlist_import.proofs.head.add_formals.Goals as goal
use Rattle.netlist_import.proofs.head.add_formals.Goals.{then-is_same_way+in_ok-add_separator+in_ok-add_formal, else-is_same_way}

pub returns-in_default-clause-text : goal.returns-in_default-clause-text
returns-in_default-clause-text c =
    let way = c.args.direction in
    let left = formals_named way (drop c.loop-place.place c.args.ports.now)
    (drop c.loop-place.place c.args.names.now) in
    rest_end c.args.before.now formal_text c.loop-place.is_some left
    (c.args.out.now ++ bracketed_if_some c.args.before.now [] formal_text
    (formals_named way c.args.ports.now c.args.names.now)) c.loop-place.out
    (named_short way c.args.ports.now c.args.names.now c.loop-place.place
    c.in_default.ensures.lookup.3) c.loop-place.invariant.text

pub returns-clause-text : goal.returns-clause-text
returns-clause-text c =
    let way = c.args.direction in
    let left = formals_named way (drop c.loop-place.place c.args.ports.now)
    (drop c.loop-place.place c.args.names.now) in
    rest_end c.args.before.now formal_text c.loop-place.is_some left
    (c.args.out.now ++ bracketed_if_some c.args.before.now [] formal_text
    (formals_named way c.args.ports.now c.args.names.now)) c.loop-place.out
    (named_end way c.args.ports.now c.args.names.now c.loop-place.place c.loop-place-test.false)
    c.loop-place.invariant.text

pub loop-place-preserved : goal.loop-place-preserved
loop-place-preserved c =
    let way = c.args.direction in
    let before = c.args.before.now in
    let ports = c.args.ports.now in
    let names = c.args.names.now in
    let i = c.loop-place.place in
    let p = c.index-ports-place.result in
    let name = c.in-Some.name.now in
    let found = c.in-Some.ensures.lookup in
    let some = c.loop-place.is_some in
    let now = c.if-is_same_way.is_some in
    let out = c.loop-place.out in
    let end = c.if-is_same_way.out in
    let any = is_any (formals_named way ports names) in
    let all = c.args.out.now ++ bracketed_if_some before [] formal_text
    (formals_named way ports names) in
    let left = formals_named way (drop i ports) (drop i names) in
    let rest = formals_named way (drop (i + 1) ports) (drop (i + 1) names) in
    let item : tree.Formal = record { base = name; range = formal_range p.width } in
    elim c.if-is_same_way.branch [
      | then-is_same_way+in_ok-add_separator+in_ok-add_formal w ↦
          let here = named_here way ports names i p name c.loop-place-test.true
          c.index-ports-place.is found.3.0 found.1
          (sym c.is_same_way.ensures ∙ w.if-is_same_way.true) in
          record {
            some = some_here before formal_text some now any item rest left here w.is_some-is
                c.loop-place.invariant.some;
            text = text_here before formal_text some now item rest left all out
                w.add_separator.new.out end here w.is_some-is
                c.loop-place.invariant.text w.in_ok-add_separator.ensures
                (w.out-is ∙ w.in_ok-add_formal.ensures
                ∙ ap (λ (n : List ℕ). w.add_separator.new.out
                ++ formal_text (record { base = n; range = formal_range p.width }))
                w.as_slice.ensures);
          }
      | else-is_same_way w ↦
          let past = named_past way ports names i p name c.loop-place-test.true
          c.index-ports-place.is found.3.0 found.1
          (sym c.is_same_way.ensures ∙ w.if-is_same_way.false) in
          record {
            some = some_past before formal_text some now any rest left past w.is_some-is
                c.loop-place.invariant.some;
            text = text_past before formal_text some now rest left all out end past w.is_some-is
                w.out-is c.loop-place.invariant.text;
          }
    ]
