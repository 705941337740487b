use Rattle.std.proofs.Common.{ap, sym, subst}
use Rattle.scald_base.specs.declared.refusal.Place.{Place}
use Rattle.scald_base.specs.declared.refusal.RefusalKind.TheVariants.{BadByte}
use Rattle.scald_lex.specs.Tokens.{bad_byte}
use Rattle.scald_lex.specs.Scan.{IsStop}
use Rattle.scald_lex.proofs.scan.read.Goals as goal

pub returns-in-Some-clause-refused : goal.returns-in-Some-clause-refused
returns-in-Some-clause-refused c =
    subst (IsStop c.args.text.now) (sym c.refused.ensures)
    (bad_byte c.in-Some.at c.in-Some.ensures.found (ap (λ (p : Place). record { kind = BadByte; place = p }) c.place_of-place.ensures))
