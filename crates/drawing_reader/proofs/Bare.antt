-- Names without an assertion.
use Rattle.std.proofs.Common.{ℕ, Bool, false, List, refl, sym}
use Rattle.std.proofs.lemmas.List.{append-nil}
use Rattle.scald_base.specs.Time.{Header}
use Rattle.scald_base.specs.declared.refusal.Place.{Place}
use Rattle.scald_base.specs.declared.assertion.AssertSpec.TheVariants.{None as Unasserted}
use Rattle.assertion_syntax.specs.Name.{IsBase}
use Rattle.drawing_grammar.specs.Names.{named, IsGood}

pub bare_good : (h : Header) (text : List ℕ) (of_formal : Bool) (place : Place) → IsBase text → IsGood h (named text of_formal place)
bare_good h text of_formal place is = record {
  name = record { base = text; global = false; spec = Unasserted };
  spelled = record { is_name = record { base = is; assertion = tt }; spelled = sym (append-nil text) };
  plain = λ e. record { local = refl; bare = refl };
  fits = record { intervals = tt; edges = λ x. x };
}
