use Rattle.std.proofs.Common.{◌<◌, ◌≤◌, sym, subst, ◌∙◌, arith}
use Rattle.scald_base.specs.Time.{IsHeader, period}
use Rattle.fixpoint_engine.specs.Waves.{waves_of}
use Rattle.critical_paths.specs.Path.{choices}
use Rattle.critical_paths.specs.Unfolded.{open_arc}
use Rattle.critical_paths.specs.Views.{arc_with_word, end_asked}
use Rattle.critical_paths.proofs.Backing.{first_here, none_more}
use Rattle.critical_paths.proofs.Ending.{own_nowhere}
use Rattle.critical_paths.proofs.view.View.own_arc.Goals as goal

pub own_arc_at-requires-clause-within : goal.own_arc_at-requires-clause-within
own_arc_at-requires-clause-within g c =
    let test = c.loop-by-test.true in
    let ordered = c.known-2.ensures.ordered in
    omega (arith, test, ordered, c.choices-by-end.ensures)

pub loop-by-preserved : goal.loop-by-preserved
loop-by-preserved g c =
    let circuit = c.args.self.now.circuit.now in
    let ws = waves_of c.args.self.now.waves.now in
    let asked = c.args.asked in
    let j = asked.element.now in
    let p = period circuit.header in
    none_more arc_with_word (open_arc circuit ws j (end_asked p asked c.args.delay) c.args.place)
    c.loop-by.by c.in_ok-found.found
    (sym c.is_some.ensures ∙ c.if-is_some.false) c.in_ok-found.ensures c.loop-by.invariant

pub returns-then-is_some : goal.returns-then-is_some
returns-then-is_some g c =
    let circuit = c.args.self.now.circuit.now in
    let ws = waves_of c.args.self.now.waves.now in
    let asked = c.args.asked in
    let j = asked.element.now in
    let p = period circuit.header in
    let test = c.loop-by-test.true in
    first_here arc_with_word (open_arc circuit ws j (end_asked p asked c.args.delay) c.args.place)
    (choices c.args.delay) c.loop-by.by c.in_ok-found.found
    (sym c.is_some.ensures ∙ c.if-is_some.true) c.in_ok-found.ensures
    c.loop-by.invariant (omega (arith, test, c.choices-by-end.ensures))

pub returns : goal.returns
returns g c =
    let circuit = c.args.self.now.circuit.now in
    let ws = waves_of c.args.self.now.waves.now in
    let asked = c.args.asked in
    let j = asked.element.now in
    let p = period circuit.header in
    let known = subst IsHeader c.header.ensures c.known.ensures in
    let least : 2 ≤ p = known.shortest in
    let some : 0 < p = omega (arith, least) in
    let test = c.loop-by-test.false in
    own_nowhere circuit ws j (end_asked p asked c.args.delay) c.args.place
    c.choices-by-end.result some
    c.known-2.ensures.ordered c.choices-by-end.ensures
    (λ n below. c.loop-by.invariant n (omega (arith, below, test)))
