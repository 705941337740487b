use Rattle.std.proofs.Common.{[], ◌∷◌, ◌+◌, not, sym, ap, ◌∙◌, arith, below_more}
use Rattle.std.proofs.lemmas.Result.{on_ok_weaker}
use Rattle.run_clauses.specs.declared.fact.Fact.TheVariants.{Own, Pin}
use Rattle.run_clauses.specs.Clauses.{clause_holds}
use Rattle.run_clauses.specs.Forms.{said}
use Rattle.run_clauses.specs.Meaning.{own_of, pin_of, selects_one}
use Rattle.run_clauses.proofs.Pushing.{begun, differs, other_bit, own_bit, pushed, put_more}
use Rattle.run_clauses.proofs.gates.add_selected.Goals as goal

pub loop-select-init : goal.loop-select-init
loop-select-init c bits fails =
    let g = c.args.gate in
    let input = c.args.selects + c.args.number in
    let none =
    begun bits c.begin.new.some.items
    (said (Own g.instance g.tick) (not c.args.bit) ∷ said (Pin g.instance input g.tick) c.args.bit
    ∷ [])
    (cc c.in_ok-begin.ensures) fails in (
      own_bit c.args.bit (own_of g bits) none.0,
      other_bit c.args.bit (pin_of g bits input) none.1.0,
      λ s below. absurd (omega arith),
    )

pub loop-select-preserved : goal.loop-select-preserved
loop-select-preserved c bits fails =
    let g = c.args.gate in
    let one = selects_one c.args.selects c.args.number c.loop-select.select in
    let parts =
    put_more bits c.loop-select.some.items c.push.new.self.items
    (said (Pin g.instance c.loop-select.select g.tick) (not one)) (cc c.in_ok-push.ensures.items)
    fails in
    let before = c.loop-select.invariant bits parts.0 in (
      before.0,
      before.1,
      below_more _ _ before.2 (own_bit one (pin_of g bits c.loop-select.select) parts.1),
    )

pub returns : goal.returns
returns c =
    let g = c.args.gate in
    on_ok_weaker c.push-2.result
    (λ e bits is before.
    pushed bits c.args.formula.now c.push-2.new.self c.deref.result.now e
    (λ fails.
    let parts =
    c.loop-select.invariant bits (ap (clause_holds bits) (sym c.deref.ensures.value) ∙ fails) in
    differs (pin_of g bits (c.args.selects + c.args.number)) c.args.bit
    (sym (is (λ s below. parts.2 s (omega arith))) ∙ parts.0) parts.1) before)
    c.push-2.ensures
