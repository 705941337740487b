use Rattle.std.proofs.Common.{[], ◌∷◌, not, sym, ap, ◌∙◌, arith, below_more}
use Rattle.std.proofs.lemmas.Result.{on_ok_weaker}
use Rattle.run_clauses.specs.declared.fact.Fact.TheVariants.{Own, Pin}
use Rattle.run_clauses.specs.Clauses.{clause_holds}
use Rattle.run_clauses.specs.Forms.{said}
use Rattle.run_clauses.specs.Meaning.{own_of, pin_of}
use Rattle.run_clauses.proofs.Holding.{all_each}
use Rattle.run_clauses.proofs.Pushing.{added, begun, differs, other_bit, own_bit, pushed, put_more}
use Rattle.run_clauses.proofs.gates.add_all.Goals as goal

pub loop-pin-init : goal.loop-pin-init
loop-pin-init c =
    let g = c.args.gate in
    record {
      clauses = λ bits is before. before;
      put = λ bits fails. (
        other_bit c.args.bit (own_of g bits)
            (begun bits c.begin.new.some.items (said (Own g.instance g.tick) c.args.bit ∷ [])
            (cc c.in_ok-begin.ensures) fails).0,
        λ p below. absurd (omega arith),
      );
    }

pub loop-pin-preserved : goal.loop-pin-preserved
loop-pin-preserved c =
    let g = c.args.gate in
    let pin = c.loop-pin.pin in
    record {
      clauses = λ bits is before.
          added bits c.loop-pin.formula c.push.new.self
          (said (Own g.instance g.tick) (not c.args.bit)
          ∷ said (Pin g.instance pin g.tick) c.args.bit ∷ [])
          (cc c.in_ok-push.ensures) (all_each bits g c.args.bit is pin (omega arith))
          (c.loop-pin.invariant.clauses bits is before);
      put = λ bits fails.
          let parts =
          put_more bits c.loop-pin.some.items c.push-in-loop-pin.new.self.items
          (said (Pin g.instance pin g.tick) (not c.args.bit)) (cc c.in_ok-push-2.ensures.items)
          fails in
          let before = c.loop-pin.invariant.put bits parts.0 in
          (before.0, below_more _ _ before.1 (own_bit c.args.bit (pin_of g bits pin) parts.1));
    }

pub returns : goal.returns
returns c =
    let g = c.args.gate in
    on_ok_weaker c.push-2.result
    (λ e bits is before.
    pushed bits c.loop-pin.formula c.push-2.new.self c.deref.result.now e
    (λ fails.
    let parts =
    c.loop-pin.invariant.put bits (ap (clause_holds bits) (sym c.deref.ensures.value) ∙ fails) in
    differs (own_of g bits) c.args.bit (is.all (λ p below. parts.1 p (omega arith))) parts.0)
    (c.loop-pin.invariant.clauses bits is before))
    c.push-2.ensures
