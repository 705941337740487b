use Rattle.std.proofs.Common.{ℕ, refl, subst, sym}
use Rattle.pulse_check.specs.Break.{limit_of}
use Rattle.narrowing.specs.declared.constraint.Constraint.TheVariants.{Pulse as OfPulse}
use Rattle.run_clauses.specs.Meaning.{IsNarrow, stretch}
use Rattle.run_clauses.specs.World.{fact_holds}
use Rattle.run_clauses.proofs.BreakFacts.{narrow_in}
use Rattle.run_clauses.proofs.broken.add_width.Goals as goal

pub returns : goal.returns
returns c values w is before =
    let circuit = c.args.c.now in
    let k = c.args.k in
    let high = c.args.high in
    let bits = fact_holds circuit w in
    c.in_ok-add_pulse.ensures bits
    (subst (λ (n : ℕ). IsNarrow k n high c.args.period bits) (sym c.width_of.ensures.is)
    (subst
    (λ (e : ℕ). IsNarrow k (limit_of c.in-Some.i.now high) high (stretch c.args.period.from e) bits)
    (sym c.requires.end)
    (narrow_in circuit values (OfPulse k high) c.args.period.from w is k c.in-Some.i.now
    (sym c.in-Some.ensures) high refl))) before
