use Rattle.std.proofs.Common.{◌≡◌, ◌∙◌, ℕ, Some, ap, length, refl, rules, subst, sym}
use Rattle.flat_circuit.proofs.Numbered.{fits_of}
use Rattle.narrowing.specs.declared.constraint.Constraint.TheVariants.{Instance as OfInstance}
use Rattle.run_clauses.specs.Meaning.{IsLetThrough, stretch}
use Rattle.run_clauses.specs.World.{fact_holds}
use Rattle.run_clauses.proofs.BreakFacts.{let_through_in}
use Rattle.run_clauses.proofs.broken.add_marked.Goals as goal

pub returns : goal.returns
returns c values w is before =
    let circuit = c.args.c.now in
    let j = c.args.i.now in
    let k = c.args.k in
    let bits = fact_holds circuit w in
    let place = c.in-Ok.marked in
    let own : place ≡ c.in-Some.place = search rules in
    let counted : c.in-Ok-try_from.pins ≡ length j.pins = search rules in
    let fits = (fits_of circuit k j c.known.ensures c.requires.there).pins in
    c.in_ok-add_mark.ensures bits
    (subst (λ (n : ℕ). IsLetThrough k place n c.args.closed c.args.period bits) (sym counted)
    (subst
    (λ (e : ℕ). IsLetThrough k place (length j.pins) c.args.closed (stretch c.args.period.from e)
    bits)
    (sym c.requires.end)
    (let_through_in circuit values (OfInstance k) c.args.period.from w is k j c.requires.there
    c.args.closed place refl c.requires.form c.requires.closes fits
    (sym c.in-Some.ensures ∙ ap Some (sym own))))) before
