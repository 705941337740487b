use Rattle.std.proofs.Common.{◌++◌}
use Rattle.std.proofs.lemmas.Result.{err_from_is_err_and}
use Rattle.macro_expander.proofs.Nets.{net_given, net_refused}
use Rattle.macro_expander.proofs.term.net.Goals as goal

pub returns-in_err-number : goal.returns-in_err-number
returns-in_err-number c =
    let p = err_from_is_err_and c.from_residual.result c.from_residual.ensures.1 in
    rw (p.1, p.2) (net_refused c.args.expansion.now (c.args.path.now ++ c.args.base.now) c.args.bit c.args.spec.now c.args.place c.in_err-number.field-0.0 c.in_err-number.ensures.refused.1)

pub returns : goal.returns
returns c = net_given c.args.expansion.now (c.args.path.now ++ c.args.base.now) c.args.bit
    c.args.spec.now c.args.place c.net.new.self c.in_ok-number.number c.known.ensures c.known-2.ensures c.in_ok-number.ensures.given
