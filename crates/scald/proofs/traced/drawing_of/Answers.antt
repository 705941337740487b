use Rattle.std.proofs.Common.{◌≡◌, true, false, subst, sym}
use Rattle.scald.specs.Said.{IsDrawingIn, asks_to_judge}
use Rattle.scald.specs.Said.IsDrawingIn.{whole, untraced, traced}
use Rattle.scald.proofs.traced.drawing_of.Goals as goal

pub returns-then-not-asks_to_judge : goal.returns-then-not-asks_to_judge
returns-then-not-asks_to_judge c =
    let is : asks_to_judge c.args.words.now ≡ false = cc (c.asks_to_judge.ensures, c.if-not-asks_to_judge.true) in
    subst (λ asks. IsDrawingIn asks c.args.text.now c.args.text.now) (sym is) (whole c.args.text.now)

pub returns-in-Some : goal.returns-in-Some
returns-in-Some c =
    let is : asks_to_judge c.args.words.now ≡ true = cc (c.asks_to_judge.ensures, c.if-not-asks_to_judge.false) in
    subst (λ asks. IsDrawingIn asks c.args.text.now c.in-Some.drawing.now) (sym is) (traced c.args.text.now _ c.in-Some.drawing.now c.in-Some.ensures)

pub returns-in-None : goal.returns-in-None
returns-in-None c =
    let is : asks_to_judge c.args.words.now ≡ true = cc (c.asks_to_judge.ensures, c.if-not-asks_to_judge.false) in
    subst (λ asks. IsDrawingIn asks c.args.text.now c.args.text.now) (sym is) (untraced c.args.text.now c.in-None.ensures)
