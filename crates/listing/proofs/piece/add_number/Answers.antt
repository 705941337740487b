use Rattle.std.proofs.Common.{◌≡◌, ℕ, List, ◌+◌, ◌++◌, ◌∷◌, [], decimal, arith, subst, sym}
use Rattle.std.specs.Prelude.{OnOk}
use Rattle.std.proofs.lemmas.Fmt.{decimal_digit}
use Rattle.listing.proofs.piece.add_number.Goals as goal

pub returns-then-number-lt10-clause-ok : goal.returns-then-number-lt10-clause-ok
returns-then-number-lt10-clause-ok c =
    let digit : decimal c.args.number ≡ (48 + c.args.number) ∷ [] = decimal_digit c.args.number (omega arith) in
    subst (λ (text : List ℕ). OnOk c.push.result (c.push.new.self ≡ c.args.out.now ++ text)) (sym digit) c.push.ensures.ok
