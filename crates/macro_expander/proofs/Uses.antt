-- The connections of a use, by numbers and by names.
use Rattle.std.proofs.Common.{◌≡◌, List, map, refl, subst}
use Rattle.scald_base.specs.declared.refusal.Stop.{Stop}
use Rattle.drawing_tree.specs.Tree.{UseStatement}
use Rattle.macro_expander.specs.declared.expansion.Expansion.{Expansion}
use Rattle.macro_expander.specs.declared.scope.Scope as numbered_scope
use Rattle.macro_expander.specs.declared.connection.Joined as numbered_joined
use Rattle.macro_expander.specs.Outcome.{Gives}
use Rattle.macro_expander.specs.Terms.{Scope, all_joined, wires_of}
use Rattle.macro_expander.specs.Numbered.{scope_of, joined_of, ScopeExists, Failed, GivesAllJoined, GivesWires, nets_in, names_in, state_of}
use Rattle.macro_expander.proofs.Nets.{grows_trans}
use Rattle.macro_expander.proofs.Gathered.{scope_stays, joined_stays, joined_exist_stay}

module _ (e e1 : Expansion) (s : numbered_scope.Scope) (u : UseStatement) (ins : List numbered_joined.Joined) (exists : ScopeExists (nets_in e) s)
    (g : GivesAllJoined e e1 ins (all_joined (scope_of (names_in e) s) u.place u.ins (state_of e))) where
  pub wires_given : (e2 : Expansion) (outs : List numbered_joined.Joined) → GivesAllJoined e1 e2 outs (all_joined (scope_of (names_in e1) s) u.place u.outs (state_of e1)) →
      GivesWires e e2 (record { ins = ins; outs = outs }) (wires_of (scope_of (names_in e) s) u (state_of e))
  unfolding wires_of
  wires_given e2 outs h =
      let same = subst (λ (z : Scope). all_joined z u.place u.outs (state_of e1) ≡ Gives (map (joined_of (names_in e2)) outs) (state_of e2)) (scope_stays e e1 s g.grows exists) h.is in
      record {
        is = rw (g.is, same, joined_stays e1 e2 ins h.grows g.exist) refl;
        grows = grows_trans e e1 e2 g.grows h.grows;
        ins = joined_exist_stay e1 e2 ins h.grows g.exist;
        outs = h.exist;
      }

  pub wires_failed : (stop : Stop) → Failed stop (all_joined (scope_of (names_in e1) s) u.place u.outs (state_of e1)) → Failed stop (wires_of (scope_of (names_in e) s) u (state_of e))
  unfolding wires_of
  wires_failed stop h =
      let same = subst (λ (z : Scope). Failed stop (all_joined z u.place u.outs (state_of e1))) (scope_stays e e1 s g.grows exists) h in
      record { agrees = λ r is. rw (g.is, same.agrees r is) refl }
