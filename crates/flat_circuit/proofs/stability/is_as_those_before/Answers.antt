use Rattle.std.proofs.Common.{arith, ◌≡◌, ℕ}
use Rattle.flat_circuit.specs.Alike.{class_of}
use Rattle.flat_circuit.specs.Stable.{AreAlikeAt}
use Rattle.flat_circuit.proofs.Pairs.{next_one}
use Rattle.flat_circuit.proofs.stability.is_as_those_before.Goals as goal
use Rattle.flat_circuit.proofs.stability.is_as_those_before.Goals.{else-class_of-via-then-class_of+else-not-are_alike, else-class_of-via-else-class_of}

pub returns-then-not-are_alike : goal.returns-then-not-are_alike
returns-then-not-are_alike c h =
    let same : class_of c.args.classes.now c.args.net ≡ class_of c.args.classes.now c.loop-other.other =
    omega (arith, c.class_of.ensures, c.class_of-in-loop-other.ensures, c.if-class_of.true) in
    c.if-not-are_alike.ensures (h c.loop-other.other (omega arith) same)

pub loop-other-preserved : goal.loop-other-preserved
loop-other-preserved c =
    next_one (λ (j : ℕ). class_of c.args.classes.now c.args.net ≡ class_of c.args.classes.now j → AreAlikeAt c.args.c.now c.args.cases.now c.args.classes.now c.args.net j)
    c.loop-other.other c.loop-other.invariant
    (elim c.else-class_of.branch [
      | else-class_of-via-then-class_of+else-not-are_alike w ↦ λ same. w.if-not-are_alike.ensures
      | else-class_of-via-else-class_of w ↦
          λ same. absurd (omega (arith, same, c.class_of.ensures, c.class_of-in-loop-other.ensures, w.if-class_of.false))
    ])

pub returns : goal.returns
returns c j before same = c.loop-other.invariant j (omega (arith, before, c.loop-other-test.false)) same
