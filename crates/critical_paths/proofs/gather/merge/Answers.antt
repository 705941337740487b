use Rattle.std.proofs.Common.{◌∙◌, ap, subst, sym, List}
use Rattle.critical_paths.specs.declared.gather.Reached.{Reached}
use Rattle.critical_paths.specs.Tick.{is_further}
use Rattle.critical_paths.specs.Reached.{AddsOnly, IsFirstOf, IsOfNone, gathered}
use Rattle.critical_paths.proofs.Gathered.{with_first, with_none}
use Rattle.critical_paths.proofs.Ways.{adds_end, adds_further}
use Rattle.critical_paths.proofs.gather.merge.Goals as goal

pub returns-in-Some-clause-gathered : goal.returns-in-Some-clause-gathered
returns-in-Some-clause-gathered c =
    let found = c.in-Some.ensures.is in
    let first = subst (λ (l : List Reached). IsFirstOf c.args.reached.near.ideal l c.in-Some.at found.0)
    c.as_slice.ensures found.1 in
    ap gathered (c.set_further.ensures found.0 first.is)
    ∙ with_first c.args.corner c.args.out.now c.in-Some.at found.0 c.args.reached first

pub returns-in-Some-clause-only : goal.returns-in-Some-clause-only
returns-in-Some-clause-only c =
    let found = c.in-Some.ensures.is in
    let first = subst (λ (l : List Reached). IsFirstOf c.args.reached.near.ideal l c.in-Some.at found.0)
    c.as_slice.ensures found.1 in
    subst (AddsOnly c.args.reached c.args.out.now) (sym (c.set_further.ensures found.0 first.is))
    (adds_further (is_further c.args.corner c.args.reached.near.tick found.0.near.tick)
    c.args.reached c.args.out.now c.in-Some.at)

pub returns-in_ok-push-in-None-clause-only : goal.returns-in_ok-push-in-None-clause-only
returns-in_ok-push-in-None-clause-only c =
    subst (AddsOnly c.args.reached c.args.out.now) (sym c.in_ok-push-in-None.ensures.ok)
    (adds_end c.args.reached c.args.out.now)

pub returns-in_ok-push-in-None-clause-gathered : goal.returns-in_ok-push-in-None-clause-gathered
returns-in_ok-push-in-None-clause-gathered c =
    ap gathered c.in_ok-push-in-None.ensures.ok
    ∙ with_none c.args.corner c.args.out.now c.args.reached
    (subst (IsOfNone c.args.reached.near.ideal) c.as_slice.ensures c.in-None.ensures.none)
