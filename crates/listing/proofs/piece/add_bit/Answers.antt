use Rattle.std.proofs.Common.{◌∙◌, ◌++◌, ◌∷◌, [], decimal, append_assoc}
use Rattle.scald_base.proofs.Device.{at_err}
use Rattle.listing.proofs.Parts.{both}
use Rattle.listing.proofs.piece.add_bit.Goals as goal

pub returns-in_err-add_number-clause-err : goal.returns-in_err-add_number-clause-err
returns-in_err-add_number-clause-err c =
    let name = c.args.name.now in
    at_err c.from_residual-in_err-add_number.result (record {
      part = name ++ 60 ∷ [];
      rest = decimal c.args.bit ++ 62 ∷ [];
      added = c.in_err-add_number.ensures.err ∙ both c.args.out.now c.extend.new.self c.push.new.self name (60 ∷ []) c.in_ok-extend.ensures.ok c.in_ok-push.ensures.ok;
      is = append_assoc name (60 ∷ []) (decimal c.args.bit ++ 62 ∷ []);
    })
