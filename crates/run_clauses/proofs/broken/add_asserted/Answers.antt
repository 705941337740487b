use Rattle.std.proofs.Common.{ℕ, refl, subst, sym}
use Rattle.scald_base.specs.Time.{Header}
use Rattle.scald_base.specs.declared.assertion.AssertSpec.{AssertSpec}
use Rattle.narrowing.specs.declared.constraint.Constraint.TheVariants.{Net as OfNet}
use Rattle.run_clauses.specs.Meaning.{IsLacking, stretch}
use Rattle.run_clauses.specs.World.{fact_holds}
use Rattle.run_clauses.proofs.BreakFacts.{lacking_in}
use Rattle.run_clauses.proofs.broken.add_asserted.Goals as goal

pub returns : goal.returns
returns c values w is before =
    let circuit = c.args.c.now in
    let net = c.args.net in
    let bits = fact_holds circuit w in
    c.in_ok-add_lacking.ensures bits
    (subst (λ (h : Header). IsLacking h c.or-spec.result.now net c.args.period bits)
    (sym c.header.ensures)
    (subst (λ (spec : AssertSpec). IsLacking circuit.header spec net c.args.period bits)
    (sym c.or-spec.ensures)
    (subst (λ (e : ℕ). IsLacking circuit.header c.in-Some.found.now.spec net
    (stretch c.args.period.from e) bits)
    (sym c.requires.end)
    (lacking_in circuit values (OfNet net) c.args.period.from w is net c.in-Some.found.now
    (sym c.in-Some.ensures) refl)))) before
