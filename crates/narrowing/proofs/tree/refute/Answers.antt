use Rattle.std.proofs.Common.{List, [], subst}
use Rattle.std.proofs.lemmas.List.Elements.{All-nil}
use Rattle.narrowing.specs.declared.part.Part.{Part}
use Rattle.narrowing.specs.Leaf.{NeverBreaksIn}
use Rattle.narrowing.specs.Part.{PartFits}
use Rattle.narrowing.specs.Tree.{IsRefuted}
use Rattle.narrowing.proofs.SameLists.{at_some}
use Rattle.narrowing.proofs.tree.refute.Goals as goal

pub refute_in-requires-clause-fit : goal.refute_in-requires-clause-fit
refute_in-requires-clause-fit c = All-nil (PartFits c.args.c.now c.args.values.now)

pub returns-in-Some-clause-tree : goal.returns-in-Some-clause-tree
returns-in-Some-clause-tree c =
    let a = c.args in
    subst
    (λ (old : List (List Part)).
    IsRefuted a.c.now a.values.now a.x [] c.in-Some.tick old c.refute_in.new.progress.leaves)
    c.new.ensures (at_some _ c.in-Some.is c.in_ok-tick.ensures.tree)

pub returns-in-Some-clause-never : goal.returns-in-Some-clause-never
returns-in-Some-clause-never c =
    let a = c.args in
    at_some (NeverBreaksIn a.c.now a.values.now [] a.x) c.in-Some.is c.in_ok-tick.ensures.never
