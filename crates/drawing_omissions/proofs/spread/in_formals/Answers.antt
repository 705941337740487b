use Rattle.std.proofs.Common.{◌++◌, length, map, rules}
use Rattle.std.specs.List.{flat_map, zip}
use Rattle.std.proofs.lemmas.Slice.Zip.{zip_turn, zip_end}
use Rattle.std.proofs.lemmas.List.{length_push}
use Rattle.drawing_tree.specs.Tree.{connection_of}
use Rattle.drawing_omissions.specs.Spreads.{in_formal}
use Rattle.drawing_omissions.specs.Walk.{seen}
use Rattle.drawing_omissions.proofs.Over.{over_all, over_more}
use Rattle.drawing_omissions.proofs.spread.in_formals.Goals as goal

pub loop-shape-preserved : goal.loop-shape-preserved
loop-shape-preserved c =
    let t = zip_turn c.args.shapes.now c.args.ins.now c.loop-shape.yielded c.into_iter-shape-iterator.result c.loop-shape.shape-iterator
    c.next.new.self c.next.result (search rules) (search rules)
    c.loop-shape.yielded_by (c.in-Some.shape, c.in-Some.connection) c.in-Some.is c.next.ensures.steps in
    rw (length_push c.loop-shape.yielded (c.in-Some.shape, c.in-Some.connection)) (over_more (seen c.args.scope.now) c.args.shapes.now c.args.ins.now
    (length c.loop-shape.yielded) c.loop-shape.found
    (c.args.found.now ++ flat_map (in_formal (seen c.args.scope.now)) (zip c.args.shapes.now (map connection_of c.args.ins.now)))
    c.loop-shape.invariant c.in-Some.shape.now c.in-Some.connection.now c.len.result c.add_spread.new.found
    t.0 t.1 t.2 t.3 c.len.ensures c.in_ok-add_spread.ensures)

pub returns : goal.returns
returns c =
    let e = zip_end c.args.shapes.now c.args.ins.now c.loop-shape.yielded c.into_iter-shape-iterator.result c.loop-shape.shape-iterator
    c.next.new.self c.next.result (search rules) (search rules) c.loop-shape.yielded_by c.in-None.is c.next.ensures.steps in
    over_all (seen c.args.scope.now) c.args.shapes.now c.args.ins.now (length c.loop-shape.yielded) c.loop-shape.found
    (c.args.found.now ++ flat_map (in_formal (seen c.args.scope.now)) (zip c.args.shapes.now (map connection_of c.args.ins.now)))
    c.loop-shape.invariant e
