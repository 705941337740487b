use Rattle.std.proofs.Common.{◌≡◌, ◌∙◌, ℕ, ap, refl, rules, subst, sym}
use Rattle.element_kinds.specs.declared.form.Check.{Check}
use Rattle.element_kinds.specs.declared.form.Form.TheVariants.{Checker}
use Rattle.flat_circuit.specs.Limits.{hold_of, setup_of}
use Rattle.narrowing.specs.declared.constraint.Constraint.TheVariants.{Instance as OfInstance}
use Rattle.run_clauses.specs.Meaning.{IsEdge, stretch}
use Rattle.run_clauses.specs.World.{fact_holds}
use Rattle.run_clauses.proofs.BreakFacts.{edge_in}
use Rattle.run_clauses.proofs.broken.add_checked.Goals as goal

pub returns-in_ok-add_edge-in-SetupHold : goal.returns-in_ok-add_edge-in-SetupHold
returns-in_ok-add_edge-in-SetupHold c values w is before =
    let circuit = c.args.c.now in
    let k = c.args.k in
    let j = c.args.i.now in
    let bits = fact_holds circuit w in
    let setup : setup_of j.limits ≡ c.from-setup.result = search rules in
    let hold : hold_of j.limits ≡ c.from-hold.result = search rules in
    c.in_ok-add_edge-in-SetupHold.ensures bits
    (subst (λ (s : ℕ). IsEdge k s c.from-hold.result c.args.period bits) setup
    (subst (λ (h : ℕ). IsEdge k (setup_of j.limits) h c.args.period bits) hold
    (subst
    (λ (e : ℕ). IsEdge k (setup_of j.limits) (hold_of j.limits) (stretch c.args.period.from e) bits)
    (sym c.requires.end)
    (edge_in circuit values (OfInstance k) c.args.period.from w is k j c.requires.there refl
    (c.requires.form ∙ ap (λ (check : Check). Checker check) c.in-SetupHold.is))))) before
