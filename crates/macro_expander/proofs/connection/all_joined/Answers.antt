use Rattle.std.proofs.Common.{◌+◌, map, drop, sym, subst, List}
use Rattle.std.proofs.lemmas.Result.{err_from_is_err_and}
use Rattle.macro_expander.specs.declared.connection.Joined.{Joined}
use Rattle.scald_base.specs.Time.{Header}
use Rattle.drawing_tree.specs.Tree.{connection_of}
use Rattle.macro_expander.specs.Fitting.{ConnectionFits}
use Rattle.macro_expander.specs.Terms.{Scope, joined, all_joined}
use Rattle.macro_expander.specs.Numbered.{GatheredJoined, GivesJoined, Failed, scope_of, names_in, state_of}
use Rattle.macro_expander.proofs.Gathered.{joined_none, joined_more, joined_failed, next_of, at_of, scope_stays, scope_exists_stays}
use Rattle.macro_expander.proofs.connection.all_joined.Goals as goal

pub join-requires-clause-fits : goal.join-requires-clause-fits
join-requires-clause-fits c =
    subst (λ (h : Header). ConnectionFits h (connection_of c.connection-item.result)) (sym c.loop-connection.invariant.grows.header)
    (at_of (ConnectionFits c.args.expansion.now.builder.header) connection_of c.args.connections.now
    c.loop-connection.connection-index c.connection-item.result c.requires.fits c.loop-connection-test.true c.connection-item.is)

pub join-requires-clause-exists : goal.join-requires-clause-exists
join-requires-clause-exists c = scope_exists_stays c.args.expansion.now c.loop-connection.expansion c.args.scope.now c.loop-connection.invariant.grows c.requires.exists

pub returns-in_err-join : goal.returns-in_err-join
returns-in_err-join c =
    let p = err_from_is_err_and c.from_residual-in_err-join.result c.from_residual-in_err-join.ensures.1 in
    let scope = scope_of (names_in c.args.expansion.now) c.args.scope.now in
    let want = all_joined scope c.args.place (map connection_of c.args.connections.now) (state_of c.args.expansion.now) in
    let i = c.loop-connection.connection-index in
    let x = c.connection-item.result in
    rw (p.1, p.2) (joined_failed (joined scope c.args.place) c.args.expansion.now want (map connection_of (drop i c.args.connections.now))
    (map connection_of (drop (i + 1) c.args.connections.now)) (connection_of x) c.loop-connection.all c.loop-connection.expansion
    (next_of connection_of c.args.connections.now i x c.loop-connection-test.true c.connection-item.is) c.in_err-join.field-0.0
    (subst (λ (z : Scope). Failed c.in_err-join.field-0.0 (joined z c.args.place (connection_of x) (state_of c.loop-connection.expansion)))
    (scope_stays c.args.expansion.now c.loop-connection.expansion c.args.scope.now c.loop-connection.invariant.grows c.requires.exists)
    c.in_err-join.ensures)
    c.loop-connection.invariant)

pub loop-connection-preserved : goal.loop-connection-preserved
loop-connection-preserved c =
    let scope = scope_of (names_in c.args.expansion.now) c.args.scope.now in
    let want = all_joined scope c.args.place (map connection_of c.args.connections.now) (state_of c.args.expansion.now) in
    let i = c.loop-connection.connection-index in
    let x = c.connection-item.result in
    subst (λ (all : List Joined). GatheredJoined (joined scope c.args.place) c.args.expansion.now
    want (map connection_of (drop (i + 1) c.args.connections.now)) all c.join.new.expansion) (sym c.in_ok-push.ensures.ok)
    (joined_more (joined scope c.args.place) c.args.expansion.now want (map connection_of (drop i c.args.connections.now))
    (map connection_of (drop (i + 1) c.args.connections.now)) (connection_of x) c.loop-connection.all c.loop-connection.expansion
    (next_of connection_of c.args.connections.now i x c.loop-connection-test.true c.connection-item.is) c.in_ok-join.field-0 c.join.new.expansion
    (subst (λ (z : Scope). GivesJoined c.loop-connection.expansion c.join.new.expansion c.in_ok-join.field-0
    (joined z c.args.place (connection_of x) (state_of c.loop-connection.expansion))) (scope_stays c.args.expansion.now
    c.loop-connection.expansion c.args.scope.now c.loop-connection.invariant.grows c.requires.exists) c.in_ok-join.ensures)
    c.loop-connection.invariant)

pub loop-connection-init : goal.loop-connection-init
unfolding all_joined
loop-connection-init c =
    let scope = scope_of (names_in c.args.expansion.now) c.args.scope.now in
    subst (λ (all : List Joined). GatheredJoined (joined scope c.args.place) c.args.expansion.now
    (all_joined scope c.args.place (map connection_of c.args.connections.now) (state_of c.args.expansion.now))
    (map connection_of c.args.connections.now) all c.args.expansion.now) (sym c.in_ok-all.ensures)
    (joined_none (joined scope c.args.place) c.args.expansion.now (map connection_of c.args.connections.now))
