use Rattle.std.proofs.Common.{◌≡◌, ◌∙◌, sym, subst, true, None, Some, Option}
use Rattle.std.proofs.lemmas.Option.{same_Some}
use Rattle.critical_paths.specs.declared.arrival.Place.{Place}
use Rattle.critical_paths.specs.declared.path.Passage.{Passage}
use Rattle.critical_paths.specs.Reached.{is_done}
use Rattle.critical_paths.proofs.path.Paths.open_behind.Goals as goal

pub returns-in_default-clause-none : goal.returns-in_default-clause-none
returns-in_default-clause-none c = λ behind at.
    let nothing : ◌≡◌ {A = Option (Place × Passage)} None (Some behind) =
    sym c.in_default.is ∙ c.place_behind.ensures.is c.requires ∙ at in
    absurd (cc)

pub returns-then-has_done-clause-none : goal.returns-then-has_done-clause-none
returns-then-has_done-clause-none c = λ behind at.
    subst (λ (x : Place × Passage). is_done c.args.self.now.known.entries x.0 ≡ true)
    (same_Some _ behind (c.in-Some.ensures.is c.requires ∙ at))
    (sym c.has_done.ensures ∙ c.if-has_done.true)

pub returns-clause-some : goal.returns-clause-some
returns-clause-some c = (
  sym c.has_done.ensures ∙ c.if-has_done.false,
  (_, sym (c.in-Some.ensures.is c.requires)),
)
