use Rattle.std.proofs.Common.{◌∙◌, ◌∷◌, [], map, ap, refl, arith}
use Rattle.std.proofs.lemmas.List.{map-append}
use Rattle.fixpoint_engine.proofs.Growing.{known_still}
use Rattle.fixpoint_engine.proofs.TableByNumber.{number_below, known_more}
use Rattle.fixpoint_engine.proofs.Added.{number_added, number_stays}
use Rattle.fixpoint_engine.proofs.Keys.{each_number}
use Rattle.fixpoint_engine.proofs.changes.add_change.Goals as goal

pub returns-in_ok-push-clause-known : goal.returns-in_ok-push-clause-known
returns-in_ok-push-clause-known g c =
    known_more c.args.store.now c.evaluated.new.store (map (λ ch. ch.number) c.args.made.now.items) (map (λ ch. ch.number) c.push.new.self.items)
    c.in_ok-number.number c.in_ok-number.ensures.grows c.requires.made (number_below c.evaluated.new.store _ c.in_ok-number.number c.in_ok-number.ensures.is)
    (ap (map (λ ch. ch.number)) c.in_ok-push.ensures.items
    ∙ map-append (λ ch. ch.number) c.args.made.now.items (record { net = c.args.net; number = c.in_ok-number.number } ∷ []))

pub returns-in_ok-push-clause-made : goal.returns-in_ok-push-clause-made
returns-in_ok-push-clause-made g c =
    let each = each_number c.args.c.now c.args.store.now c.args.numbers.now c.requires.fit in
    let exists = c.requires.exists in
    number_added c.args.c.now c.args.store.now c.evaluated.new.store c.args.numbers.now c.args.net c.in_ok-number.number
    c.in_ok-number.ensures.grows c.requires.known (omega (arith, each, exists)) c.in_ok-number.ensures.is
    (λ ch. ch.net) (λ ch. ch.number) c.args.made.now.items c.requires.made c.push.new.self.items
    (record { net = c.args.net; number = c.in_ok-number.number }) c.in_ok-push.ensures.items refl refl c.known.ensures
    c.if-number-numbers.true

pub returns-else-number-numbers-clause-known : goal.returns-else-number-numbers-clause-known
returns-else-number-numbers-clause-known g c =
    known_still c.args.store.now c.evaluated.new.store c.in_ok-number.ensures.grows (map (λ ch. ch.number) c.args.made.now.items) c.requires.made

pub returns-else-number-numbers-clause-made : goal.returns-else-number-numbers-clause-made
returns-else-number-numbers-clause-made g c =
    let each = each_number c.args.c.now c.args.store.now c.args.numbers.now c.requires.fit in
    let exists = c.requires.exists in
    number_stays c.args.c.now c.args.store.now c.evaluated.new.store c.args.numbers.now c.args.net c.in_ok-number.number
    c.in_ok-number.ensures.grows c.requires.known (omega (arith, each, exists)) c.in_ok-number.ensures.is
    (λ ch. ch.net) (λ ch. ch.number) c.args.made.now.items c.requires.made c.if-number-numbers.false
