use Rattle.std.proofs.Common.{◌≡◌, Bool, false, Option, None, refl, sym, ◌∙◌, subst}
use Rattle.std.specs.Prelude.{IfOk}
use Rattle.element_kinds.specs.Kinds.{may_be_marked}
use Rattle.flat_circuit.specs.declared.fault.Fault.{Fault}
use Rattle.fixpoint_engine.specs.Waves.{waves_of}
use Rattle.point_check.specs.Faults.{fault_by}
use Rattle.point_check.proofs.Gathered.{points_limits}
use Rattle.point_check.proofs.check.fault_by_kind.Goals as goal

pub limited_fault-requires-clause-limits : goal.limited_fault-requires-clause-limits
limited_fault-requires-clause-limits g c =
    points_limits c.args.c.now.header c.args.instance.now.kind c.args.instance.now.limits
    (sym c.checks_points.ensures ∙ c.if-checks_points.true) c.requires.fits.lim

pub returns-then-checks_points : goal.returns-then-checks_points
returns-then-checks_points g c =
    let j = c.args.instance.now in
    let ws = waves_of c.args.waves.now in
    subst (λ (points : Bool). IfOk c.limited_fault.result (λ found.
    found ≡ fault_by points (may_be_marked j.kind) c.args.c.now ws c.args.number j))
    (sym c.if-checks_points.true ∙ c.checks_points.ensures) c.limited_fault.ensures

pub returns-then-may_be_marked : goal.returns-then-may_be_marked
returns-then-may_be_marked g c =
    let j = c.args.instance.now in
    let ws = waves_of c.args.waves.now in
    subst (λ (points : Bool). IfOk c.mark_fault.result (λ found.
    found ≡ fault_by points (may_be_marked j.kind) c.args.c.now ws c.args.number j))
    (sym c.if-checks_points.false ∙ c.checks_points.ensures)
    (subst (λ (markable : Bool). IfOk c.mark_fault.result (λ found.
    found ≡ fault_by false markable c.args.c.now ws c.args.number j))
    (sym c.if-may_be_marked.true ∙ c.may_be_marked.ensures) c.mark_fault.ensures)

pub returns-else-may_be_marked : goal.returns-else-may_be_marked
returns-else-may_be_marked g c =
    let j = c.args.instance.now in
    let ws = waves_of c.args.waves.now in
    let none : Option Fault = None in
    subst (λ (points : Bool).
    none ≡ fault_by points (may_be_marked j.kind) c.args.c.now ws c.args.number j)
    (sym c.if-checks_points.false ∙ c.checks_points.ensures)
    (subst (λ (markable : Bool). none ≡ fault_by false markable c.args.c.now ws c.args.number j)
    (sym c.if-may_be_marked.false ∙ c.may_be_marked.ensures) refl)
