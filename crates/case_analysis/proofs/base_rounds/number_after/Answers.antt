use Rattle.std.proofs.Common.{◌∙◌, ◌-◌, ◌<◌, Some, ap, refl, sym, arith}
use Rattle.std.proofs.lemmas.Result.{IfOk-weaker}
use Rattle.fixpoint_engine.specs.Table.{IsNumber}
use Rattle.fixpoint_engine.proofs.Growing.{grows_none}
use Rattle.fixpoint_engine.specs.Start.{base_start}
use Rattle.pin_waves.specs.Interface.{interface_wave}
use Rattle.case_analysis.proofs.Numbered.{begins_asserted, begins_unknown, last_number, numbers_begun}
use Rattle.case_analysis.proofs.Start.{asserted_alike}
use Rattle.case_analysis.proofs.base_rounds.number_after.Goals as goal

pub returns-then-is_some-clause-grows : goal.returns-then-is_some-clause-grows
returns-then-is_some-clause-grows g c = grows_none c.args.store.now c.args.store.now refl

pub returns-then-is_some-clause-is : goal.returns-then-is_some-clause-is
returns-then-is_some-clause-is g c =
    c.requires.unknown ∙ ap Some (sym (begins_unknown c.args.c.now c.net_of-this.result.now c.args.net c.net_of-this.ensures (sym c.is_some.ensures ∙ c.if-is_some.true)))

pub offset_bounds-before-net : goal.offset_bounds-before-net
offset_bounds-before-net g c =
    let long = numbers_begun c.args.c.now c.args.store.now c.args.before.now c.args.net c.requires.before in
    omega (arith, long)

pub bounds-before-net : goal.bounds-before-net
bounds-before-net g c =
    let long = numbers_begun c.args.c.now c.args.store.now c.args.before.now c.args.net c.requires.before in
    omega (arith, long)

pub returns-then-are_asserted_alike-clause-grows : goal.returns-then-are_asserted_alike-clause-grows
returns-then-are_asserted_alike-clause-grows g c = grows_none c.args.store.now c.args.store.now refl

pub returns-then-are_asserted_alike-clause-is : goal.returns-then-are_asserted_alike-clause-is
returns-then-are_asserted_alike-clause-is g c =
    let some : 0 < c.args.net = omega arith in
    last_number c.args.c.now c.args.store.now c.args.before.now c.args.net c.requires.before c.requires.known some
    ∙ ap Some (asserted_alike c.args.c.now c.net_of.result.now c.net_of-this.result.now (c.args.net - 1) c.args.net c.net_of.ensures c.net_of-this.ensures c.if-are_asserted_alike.ensures)

pub returns-clause-is : goal.returns-clause-is
returns-clause-is g c =
    let begins = begins_asserted c.args.c.now c.net_of-this.result.now c.args.net c.net_of-this.ensures (sym c.is_some.ensures ∙ c.if-is_some.false) in
    IfOk-weaker c.number.result _ (IsNumber c.number.new.self (base_start c.args.c.now c.args.net))
    (λ n at. at ∙ ap Some (c.in_ok-interface_wave.ensures.wave ∙ (λ k. interface_wave (c.header.ensures k) (c.or.ensures k)) ∙ sym begins)) c.number.ensures.means
