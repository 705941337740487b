use Rattle.std.proofs.Common.{IfOk, IsTrue, subst, sym}
use Rattle.narrowing.specs.declared.part.Part.{Part}
use Rattle.narrowing.specs.Tree.{IsSplit}
use Rattle.narrowing.proofs.splits.is_split.Goals as goal

pub returns-in-Delay : goal.returns-in-Delay
returns-in-Delay c =
    let a = c.args in
    subst
    (λ (p : Part). IfOk c.splits_one.result (λ is. IsTrue is → IsSplit a.c.now a.values.now a.parts.now p a.halves.upper))
    (sym c.in-Delay.is) (c.splits_one.ensures a.values.now)

pub returns-in-Rise : goal.returns-in-Rise
returns-in-Rise c =
    let a = c.args in
    subst
    (λ (p : Part). IfOk c.splits_rise.result (λ is. IsTrue is → IsSplit a.c.now a.values.now a.parts.now p a.halves.upper))
    (sym c.in-Rise.is) (c.splits_rise.ensures a.values.now)

pub returns-in-Fall : goal.returns-in-Fall
returns-in-Fall c =
    let a = c.args in
    subst
    (λ (p : Part). IfOk c.splits_fall.result (λ is. IsTrue is → IsSplit a.c.now a.values.now a.parts.now p a.halves.upper))
    (sym c.in-Fall.is) (c.splits_fall.ensures a.values.now)

pub returns-in-Offset : goal.returns-in-Offset
returns-in-Offset c =
    let a = c.args in
    subst
    (λ (p : Part). IsTrue c.splits_offset.result → IsSplit a.c.now a.values.now a.parts.now p a.halves.upper)
    (sym c.in-Offset.is) (c.splits_offset.ensures a.values.now)
