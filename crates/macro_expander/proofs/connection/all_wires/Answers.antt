use Rattle.std.proofs.Common.{List, map, sym, subst}
use Rattle.std.specs.List.{All}
use Rattle.std.proofs.lemmas.Result.{err_from_is_err_and}
use Rattle.scald_base.specs.Time.{Header}
use Rattle.drawing_tree.specs.declared.connection.Conn.{Conn}
use Rattle.drawing_tree.specs.Tree.{connection_of, use_of}
use Rattle.macro_expander.specs.Fitting.{ConnectionFits}
use Rattle.macro_expander.proofs.Gathered.{scope_exists_stays}
use Rattle.macro_expander.proofs.Uses.{wires_given, wires_failed}
use Rattle.macro_expander.proofs.connection.all_wires.Goals as goal

pub all_joined-requires-clause-fits : goal.all_joined-requires-clause-fits
all_joined-requires-clause-fits c = subst (λ (xs : List Conn). All (ConnectionFits c.args.expansion.now.builder.header) (map connection_of xs)) (sym c.as_slice.ensures) c.requires.fits.ins

pub all_joined-requires-2-clause-fits : goal.all_joined-requires-2-clause-fits
all_joined-requires-2-clause-fits c =
    subst (λ (h : Header). All (ConnectionFits h) (map connection_of c.as_slice-2.result.now)) (sym c.in_ok-ins.ensures.grows.header)
    (subst (λ (xs : List Conn). All (ConnectionFits c.args.expansion.now.builder.header) (map connection_of xs)) (sym c.as_slice-2.ensures) c.requires.fits.outs)

pub all_joined-requires-2-clause-exists : goal.all_joined-requires-2-clause-exists
all_joined-requires-2-clause-exists c = scope_exists_stays c.args.expansion.now c.all_joined.new.expansion c.args.scope.now c.in_ok-ins.ensures.grows c.requires.exists

pub returns-in_err-outs : goal.returns-in_err-outs
returns-in_err-outs c =
    let p = err_from_is_err_and c.from_residual-in_err-outs.result c.from_residual-in_err-outs.ensures.1 in
    rw (p.1, p.2) (wires_failed c.args.expansion.now c.all_joined.new.expansion c.args.scope.now (use_of c.args.statement.now) c.in_ok-ins.ins
    c.requires.exists (rw c.as_slice.ensures at c.in_ok-ins.ensures) c.in_err-outs.field-0.0 (rw c.as_slice-2.ensures at c.in_err-outs.ensures))

pub returns : goal.returns
returns c = wires_given c.args.expansion.now c.all_joined.new.expansion c.args.scope.now (use_of c.args.statement.now) c.in_ok-ins.ins
    c.requires.exists (rw c.as_slice.ensures at c.in_ok-ins.ensures)
    c.all_joined-2.new.expansion c.in_ok-outs.outs (rw c.as_slice-2.ensures at c.in_ok-outs.ensures)
