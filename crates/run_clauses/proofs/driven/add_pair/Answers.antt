use Rattle.std.proofs.Common.{[], ◌∷◌, false, max, min, not, sym, ap, ◌∙◌, arith, below_more}
use Rattle.std.specs.Prelude.{nat_lt}
use Rattle.std.proofs.lemmas.Result.{on_ok_weaker}
use Rattle.scald_base.specs.Time.{Bounds}
use Rattle.run_clauses.specs.declared.fact.Fact.TheVariants.{Fall, Lasts, Own, Rise}
use Rattle.run_clauses.specs.Clauses.{clause_holds}
use Rattle.run_clauses.specs.Forms.{out_said, said}
use Rattle.run_clauses.proofs.Holding.{between_each, between_some}
use Rattle.run_clauses.proofs.Pushing.{added, begun, other_bit, pushed, put_more}
use Rattle.run_clauses.proofs.driven.add_pair.Goals as goal

pub loop-tick-init : goal.loop-tick-init
loop-tick-init c =
    let net = c.args.net in
    record {
      clauses = λ bits is before. before;
      put = λ bits fails. (
        begun bits c.begin.new.some.items
            (said (Lasts net.tick) false ∷ said (Rise net.instance c.args.rise) false
            ∷ said (Fall net.instance c.args.fall) false
            ∷ out_said net (not (nat_lt c.args.rise c.args.fall)) ∷ [])
            (cc c.in_ok-begin.ensures) fails,
        λ u below least. absurd (omega arith),
      );
    }

pub loop-tick-preserved : goal.loop-tick-preserved
loop-tick-preserved c =
    let net = c.args.net in
    let u = c.loop-tick.tick in
    let bit = nat_lt c.args.rise c.args.fall in
    let bounds : Bounds = record {
      min = min c.args.rise c.args.fall;
      max = max c.args.rise c.args.fall;
    } in
    record {
      clauses = λ bits is before.
          added bits c.loop-tick.formula c.push.new.self
          (said (Lasts net.tick) false ∷ said (Rise net.instance c.args.rise) false
          ∷ said (Fall net.instance c.args.fall) false ∷ out_said net bit
          ∷ said (Own net.instance u) (not bit) ∷ [])
          (cc c.in_ok-push.ensures)
          (between_some bits net c.args.rise c.args.fall bit bounds u (omega arith, omega arith) is)
          (c.loop-tick.invariant.clauses bits is before);
      put = λ bits fails.
          let parts =
          put_more bits c.loop-tick.some.items c.push-in-loop-tick.new.self.items
          (said (Own net.instance u) bit)
          (cc c.in_ok-push-2.ensures.items) fails in
          let before = c.loop-tick.invariant.put bits parts.0 in (
            before.0,
            below_more _ _ before.1
                (λ least. other_bit bit (bits (Own net.instance u)) parts.1),
          );
    }

pub returns : goal.returns
returns c =
    let net = c.args.net in
    let bounds : Bounds = record {
      min = min c.args.rise c.args.fall;
      max = max c.args.rise c.args.fall;
    } in
    on_ok_weaker c.push-2.result
    (λ e bits is before.
    pushed bits c.loop-tick.formula c.push-2.new.self c.deref.result.now e
    (λ fails.
    let parts =
    c.loop-tick.invariant.put bits (ap (clause_holds bits) (sym c.deref.ensures.value) ∙ fails) in
    between_each bits net c.args.rise c.args.fall (nat_lt c.args.rise c.args.fall) bounds is parts.0
    (λ u within. parts.1 u (omega arith) (omega arith)))
    (c.loop-tick.invariant.clauses bits is before))
    c.push-2.ensures
