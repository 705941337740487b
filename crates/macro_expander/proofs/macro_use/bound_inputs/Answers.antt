use Rattle.std.proofs.Common.{length, rules, sym, subst}
use Rattle.std.specs.List.{zip}
use Rattle.std.proofs.lemmas.Slice.Zip.{zip_turn, zip_end}
use Rattle.std.proofs.lemmas.List.{length_push}
use Rattle.std.proofs.lemmas.List.Elements.{All-get_or}
use Rattle.macro_expander.specs.Outcome.{collected}
use Rattle.macro_expander.specs.Numbered.{input_bound_ref, IsRange}
use Rattle.macro_expander.proofs.Binding.{zip_step, zip_all}
use Rattle.macro_expander.proofs.macro_use.bound_inputs.Goals as goal

pub bound_input-requires : goal.bound_input-requires
bound_input-requires c =
    let t = zip_turn c.args.shapes.now c.args.ins.now c.loop-shape.yielded c.into_iter-shape-iterator.result c.loop-shape.shape-iterator
    c.next.new.self c.next.result (search rules) (search rules)
    c.loop-shape.yielded_by (c.in-Some.shape, c.in-Some.joined) c.in-Some.is c.next.ensures.steps in
    subst IsRange (sym (t.2 c.in-Some.shape.now)) (All-get_or IsRange c.args.shapes.now (length c.loop-shape.yielded) c.in-Some.shape.now t.0 c.requires)

pub loop-shape-preserved : goal.loop-shape-preserved
loop-shape-preserved c =
    let t = zip_turn c.args.shapes.now c.args.ins.now c.loop-shape.yielded c.into_iter-shape-iterator.result c.loop-shape.shape-iterator
    c.next.new.self c.next.result (search rules) (search rules)
    c.loop-shape.yielded_by (c.in-Some.shape, c.in-Some.joined) c.in-Some.is c.next.ensures.steps in
    let step = rw c.in_ok-bound_input.ensures
    at (zip_step input_bound_ref c.args.shapes.now c.args.ins.now (length c.loop-shape.yielded) c.in-Some.shape.now c.in-Some.joined.now
    c.loop-shape.formals (collected input_bound_ref c.args.formals (zip c.args.shapes.now c.args.ins.now))
    t.0 t.1 t.2 t.3 c.loop-shape.invariant) in
    rw (length_push c.loop-shape.yielded (c.in-Some.shape, c.in-Some.joined), c.in_ok-push.ensures.ok) step

pub returns : goal.returns
returns c =
    let e = zip_end c.args.shapes.now c.args.ins.now c.loop-shape.yielded c.into_iter-shape-iterator.result c.loop-shape.shape-iterator
    c.next.new.self c.next.result (search rules) (search rules) c.loop-shape.yielded_by c.in-None.is c.next.ensures.steps in
    zip_all input_bound_ref c.args.shapes.now c.args.ins.now (length c.loop-shape.yielded) c.loop-shape.formals
    (collected input_bound_ref c.args.formals (zip c.args.shapes.now c.args.ins.now)) e c.loop-shape.invariant
