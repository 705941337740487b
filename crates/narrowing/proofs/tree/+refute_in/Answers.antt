use Rattle.std.proofs.Common.{◌≡◌, ◌∙◌, ℕ, List, Option, IfSome, sym, subst}
use Rattle.narrowing.specs.declared.part.Part.{Part}
use Rattle.narrowing.specs.Leaf.{NeverBreaksIn}
use Rattle.narrowing.specs.Part.{with_part}
use Rattle.narrowing.specs.Tree.{IsRefuted}
use Rattle.narrowing.proofs.SameLists.{at_some}
use Rattle.narrowing.proofs.Trees.{both_halves, never_both, one_leaf}
use Rattle.narrowing.proofs.tree.+refute_in.Goals as goal

pub returns-in-Free-clause-tree : goal.returns-in-Free-clause-tree
returns-in-Free-clause-tree t c =
    let a = c.args in
    subst (IsRefuted a.c.now a.values.now a.x a.parts.now c.in-Free.tick a.progress.now.leaves) (sym c.in_ok-add_leaf-in-Free.ensures)
    (one_leaf a.c.now a.values.now a.x a.parts.now c.in-Free.tick a.progress.now.leaves
    (c.in_ok-leaf.ensures.free c.in-Free.tick c.in-Free.is))

pub returns-in-Free-clause-never : goal.returns-in-Free-clause-never
returns-in-Free-clause-never t c = c.in_ok-leaf.ensures.never c.in-Free.tick c.in-Free.is

pub returns-clause-tree : goal.returns-clause-tree
returns-clause-tree t c =
    let a = c.args in
    let halves = c.in-Some.halves in
    let lower : c.as_slice.result.now ≡ with_part a.parts.now halves.lower = c.as_slice.ensures ∙ c.in_ok-lower.ensures.is in
    let upper : c.as_slice-2.result.now ≡ with_part a.parts.now halves.upper = c.as_slice-2.ensures ∙ c.in_ok-upper.ensures.is in
    subst (λ (tick : Option ℕ). IfSome tick (λ n. IsRefuted a.c.now a.values.now a.x a.parts.now n a.progress.now.leaves
    c.refute_in-2.new.progress.leaves)) (sym c.greatest.ensures)
    (both_halves a.c.now a.values.now a.x a.parts.now halves.lower halves.upper c.in_ok-low.low c.in_ok-high.high a.progress.now.leaves
    c.refute_in.new.progress.leaves c.refute_in-2.new.progress.leaves (at_some _ c.in-Some.is c.in_ok-split.ensures.split)
    (at_some _ c.in-Some.is c.in_ok-split.ensures.lower) (at_some _ c.in-Some.is c.in_ok-split.ensures.upper)
    (subst (λ (parts : List Part). IfSome c.in_ok-low.low
    (λ n. IsRefuted a.c.now a.values.now a.x parts n a.progress.now.leaves c.refute_in.new.progress.leaves)) lower c.in_ok-low.ensures.tree)
    (subst (λ (parts : List Part). IfSome c.in_ok-high.high
    (λ n. IsRefuted a.c.now a.values.now a.x parts n c.refute_in.new.progress.leaves c.refute_in-2.new.progress.leaves)) upper
    c.in_ok-high.ensures.tree))

pub returns-clause-never : goal.returns-clause-never
returns-clause-never t c =
    let a = c.args in
    let halves = c.in-Some.halves in
    let lower : c.as_slice.result.now ≡ with_part a.parts.now halves.lower = c.as_slice.ensures ∙ c.in_ok-lower.ensures.is in
    let upper : c.as_slice-2.result.now ≡ with_part a.parts.now halves.upper = c.as_slice-2.ensures ∙ c.in_ok-upper.ensures.is in
    subst (λ (tick : Option ℕ). IfSome tick (NeverBreaksIn a.c.now a.values.now a.parts.now a.x)) (sym c.greatest.ensures)
    (never_both a.c.now a.values.now a.parts.now halves.lower halves.upper a.x c.in_ok-low.low c.in_ok-high.high
    c.requires.fit (at_some _ c.in-Some.is c.in_ok-split.ensures.split)
    (subst (λ (parts : List Part). IfSome c.in_ok-low.low (NeverBreaksIn a.c.now a.values.now parts a.x)) lower
    c.in_ok-low.ensures.never)
    (subst (λ (parts : List Part). IfSome c.in_ok-high.high (NeverBreaksIn a.c.now a.values.now parts a.x)) upper
    c.in_ok-high.ensures.never))
