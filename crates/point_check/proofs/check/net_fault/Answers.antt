use Rattle.std.proofs.Common.{sym, ap, subst, ◌∙◌, refl, true, false, None}
use Rattle.std.proofs.lemmas.Option.{slice_get_within}
use Rattle.scald_base.specs.Time.{Header, period}
use Rattle.scald_base.specs.Fitting.{Fits}
use Rattle.fixpoint_engine.specs.Waves.{waves_of}
use Rattle.point_check.specs.Assertion.{assertion_fault}
use Rattle.point_check.proofs.Gathered.{net_is, net_not, net_below, net_long, fits_at}
use Rattle.point_check.proofs.check.net_fault.Goals as goal

pub returns-in_default : goal.returns-in_default
returns-in_default g c = net_not c.args.c.now (waves_of c.args.waves.now) c.args.number c.in_default.ensures

pub returns-then-not-is_held : goal.returns-then-not-is_held
returns-then-not-is_held g c =
    net_is c.args.c.now (waves_of c.args.waves.now) c.args.number c.in-Some.net.now false None
    c.in-Some.ensures (sym c.if-not-is_held.true ∙ c.is_held.ensures) refl

pub net_before-requires-clause-exists : goal.net_before-requires-clause-exists
net_before-requires-clause-exists g c =
    slice_get_within c.args.c.now.nets c.args.number c.in-Some.net.now (sym c.in-Some.ensures)

pub at-requires : goal.at-requires
at-requires g c =
    net_below c.args.c.now c.args.waves.now c.args.number c.in-Some.net.now c.requires.fit c.in-Some.ensures

pub assertion_fault-requires-clause-fits : goal.assertion_fault-requires-clause-fits
assertion_fault-requires-clause-fits g c =
    rw c.or-spec.ensures (subst (λ (h : Header). Fits h c.in-Some.net.now.spec) (sym c.header.ensures)
    (fits_at c.args.c.now c.args.number c.in-Some.net.now c.known.ensures c.in-Some.ensures))

pub assertion_fault-requires-clause-period : goal.assertion_fault-requires-clause-period
assertion_fault-requires-clause-period g c =
    net_long c.args.c.now c.args.waves.now c.args.number c.in-Some.net.now c.at.result.now
    c.requires.fit c.in-Some.ensures c.at.ensures
    ∙ ap period (sym c.header.ensures)

pub returns : goal.returns
returns g c =
    let head = c.header.ensures in
    net_is c.args.c.now (waves_of c.args.waves.now) c.args.number c.in-Some.net.now true
    c.in_ok-found.found c.in-Some.ensures (sym c.if-not-is_held.false ∙ c.is_held.ensures)
    (c.in_ok-found.ensures ∙ (λ i. assertion_fault (head i) (c.or-spec.ensures i) c.args.number (c.at.ensures i)))
