use Rattle.std.proofs.Common.{◌≡◌, ◌∙◌, Bool, List, length, ap, sym, subst, refl, arith}
use Rattle.std.proofs.lemmas.List.{length-set}
use Rattle.fixpoint_engine.specs.Settled.{marked_in}
use Rattle.fixpoint_engine.specs.Waves.{waves_of}
use Rattle.drawing_notes.specs.Common.{skew_at}
use Rattle.drawing_notes.specs.Doubts.{AreDoubts, IsLaunched}
use Rattle.drawing_notes.proofs.Doubting.{at, clock_exists, doubt_inside, marked_all, marked_more, doubted}
use Rattle.drawing_notes.proofs.common.common_checkers.Goals as goal

pub find_launched-requires-clause-exists : goal.find_launched-requires-clause-exists
find_launched-requires-clause-exists g c =
    let circuit = c.args.view.now.circuit.now in
    let skew = skew_at c.args.skews.now in
    let list = c.as_slice-doubt-items.result.now in
    let are : AreDoubts circuit skew list = subst (AreDoubts circuit skew) (sym c.as_slice-doubt-items.ensures.value) c.in_ok-doubts.ensures in
    let d = at circuit skew list c.loop-doubt.doubt-index in
    clock_exists circuit skew d.checker d c.known.ensures (doubted circuit skew list are c.loop-doubt.doubt-index c.loop-doubt-test.true)

pub index_mut-requires : goal.index_mut-requires
index_mut-requires g c =
    let circuit = c.args.view.now.circuit.now in
    let skew = skew_at c.args.skews.now in
    let list = c.as_slice-doubt-items.result.now in
    let are : AreDoubts circuit skew list = subst (AreDoubts circuit skew) (sym c.as_slice-doubt-items.ensures.value) c.in_ok-doubts.ensures in
    let d = at circuit skew list c.loop-doubt.doubt-index in
    let inside = doubt_inside circuit skew d.checker d (doubted circuit skew list are c.loop-doubt.doubt-index c.loop-doubt-test.true) in
    let long = c.loop-doubt.invariant.long in
    omega (arith, inside, long, c.loop-doubt.common.ok.0)

pub loop-doubt-preserved : goal.loop-doubt-preserved
loop-doubt-preserved g c =
    let circuit = c.args.view.now.circuit.now in
    let skew = skew_at c.args.skews.now in
    let list = c.as_slice-doubt-items.result.now in
    let are : AreDoubts circuit skew list = subst (AreDoubts circuit skew) (sym c.as_slice-doubt-items.ensures.value) c.in_ok-doubts.ensures in
    let n = c.loop-doubt.doubt-index in
    let d = at circuit skew list n in
    let ws = waves_of c.args.view.now.waves.now in
    let marks = c.find_launched.new.found.marks in
    record {
      long = length-set c.loop-doubt.common.items d.checker c.has.result ∙ c.loop-doubt.invariant.long;
      each_net = c.in_ok-find_launched.ensures.each_net;
      was_found = λ looped sees clock is.
          let found = c.in_ok-find_launched.ensures.is looped sees (c.loop-doubt.invariant.was_found looped sees) in
          let same : d.clock ≡ clock = cc in
          subst (λ m. IsLaunched circuit looped ws m marks) same found;
      marked = λ looped launched sees tells.
          let found = c.in_ok-find_launched.ensures.is looped sees (c.loop-doubt.invariant.was_found looped sees) in
          marked_more circuit skew list are launched n c.loop-doubt.common.items _ c.has.result c.loop-doubt-test.true
          (c.has.ensures ∙ ap (λ (ms : List Bool). marked_in ms d.input) c.set.ensures ∙ sym (found launched tells d.input)) refl
          (c.loop-doubt.invariant.marked looped launched sees tells);
    }

pub returns-clause-long : goal.returns-clause-long
returns-clause-long g c = c.loop-doubt.invariant.long

pub returns-clause-are : goal.returns-clause-are
returns-clause-are g c = λ looped launched sees tells.
    let circuit = c.args.view.now.circuit.now in
    let skew = skew_at c.args.skews.now in
    let list = c.as_slice-doubt-items.result.now in
    let are : AreDoubts circuit skew list = subst (AreDoubts circuit skew) (sym c.as_slice-doubt-items.ensures.value) c.in_ok-doubts.ensures in
    let whole : c.loop-doubt.doubt-index ≡ length list = omega (arith, c.loop-doubt-test.false, c.loop-doubt.auto.doubt-index-end) in
    marked_all circuit skew list are launched c.loop-doubt.doubt-index c.loop-doubt.common.items whole (c.loop-doubt.invariant.marked looped launched sees tells)
