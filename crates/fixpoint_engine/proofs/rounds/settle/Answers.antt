use Rattle.std.proofs.Common.{◌≡◌, ◌∙◌, ◌+◌, ◌<◌, ◌&&◌, List, ℕ, map, length, ap, subst, sym, refl}
use Rattle.std.proofs.Common.{arith, true}
use Rattle.std.specs.Prelude.{IfSome}
use Rattle.std.proofs.lemmas.List.Elements.{All-same}
use Rattle.scald_base.specs.Time.{period}
use Rattle.fixpoint_engine.specs.Table.{AreKnown, wave_at, waves_at}
use Rattle.fixpoint_engine.proofs.Growing.{grows_none, grows_trans, known_still, same_waves}
use Rattle.fixpoint_engine.specs.Waves.{FitWaves, waves_of}
use Rattle.flat_circuit.specs.Circuit.{driver}
use Rattle.fixpoint_engine.specs.Settled.{AreSettled, KeepRuns, marked_in}
use Rattle.fixpoint_engine.specs.Rounds.{round}
use Rattle.fixpoint_engine.specs.Work.{hears_in}
use Rattle.fixpoint_engine.specs.Worklist.{Change, changed, changes_of}
use Rattle.fixpoint_engine.specs.Members.{for_all, numbers_in, is_evaluated, is_with_any, leads_in}
use Rattle.fixpoint_engine.proofs.Changing.{all_read, nets_below, nets_made, none_made, some_made}
use Rattle.fixpoint_engine.proofs.Alone.{each_numbered, evaluated_first, evaluations_are}
use Rattle.fixpoint_engine.proofs.Firsts.{made_all, waiting_lead, firsts_below, none_for_all}
use Rattle.fixpoint_engine.proofs.Firsts.{some_for_all, some_read, heard_for_all}
use Rattle.fixpoint_engine.proofs.Kept.{kept_start, kept_more, made_of, waiting_exist, made_exist}
use Rattle.fixpoint_engine.proofs.Kept.{settles, works, keeps, ends_by}
use Rattle.fixpoint_engine.proofs.Keys.{each_number}
use Rattle.fixpoint_engine.proofs.Numbered.{constants_still, grows_cut}
use Rattle.fixpoint_engine.proofs.rounds.settle.Goals as goal

pub rounds-init : goal.rounds-init
rounds-init g c = record {
  grows = grows_none c.args.store.now c.args.store.now refl;
  counted = c.len-kept.ensures;
  constants = c.requires.constants;
  known = subst (AreKnown c.args.store.now) (sym (c.in_ok-numbers.ensures ∙ c.as_slice.ensures))
      c.requires.known;
  kept = kept_start c.args.c.now (marked_in c.args.start.now.active)
      (numbers_in (length c.args.c.now.nets) c.args.classes.now.nets)
      (waves_at c.args.store.now c.args.start.now.numbers)
      (waves_at c.args.store.now c.in_ok-numbers.numbers) c.in_ok-queue.queue
      (is_evaluated c.args.start.now.active c.args.classes.now.nets) c.requires.waves
      (λ i. evaluated_first c.args.c.now c.args.start.now.active c.args.classes.now.nets i
      c.requires.active c.requires.classes.each_net)
      (ap (waves_at c.args.store.now) (c.in_ok-numbers.ensures ∙ c.as_slice.ensures))
      c.in_ok-queue.ensures.each_net c.in_ok-queue.ensures.are;
  within = omega arith;
}

pub changes-requires-clause-exist : goal.changes-requires-clause-exist
changes-requires-clause-exist g c =
    All-same (λ net. net < length c.args.c.now.nets) c.nets.result.now c.rounds.queue.nets
    c.nets.ensures.nets
    (waiting_exist c.args.c.now (marked_in c.args.start.now.active)
    (numbers_in (length c.args.c.now.nets) c.args.classes.now.nets)
    (waves_of (waves_at c.args.store.now c.args.start.now.numbers)) c.requires.classes
    (waves_at c.rounds.store c.rounds.numbers)
    c.rounds.queue c.rounds.rounds c.rounds.evals c.rounds.invariant.kept c.nets.ensures.once)

pub changes-requires-clause-known : goal.changes-requires-clause-known
changes-requires-clause-known g c =
    subst (AreKnown c.rounds.store) (sym c.as_slice-now.ensures) c.rounds.invariant.known

pub changes-requires-clause-fit : goal.changes-requires-clause-fit
changes-requires-clause-fit g c =
    subst (λ ns. FitWaves c.args.c.now (waves_at c.rounds.store ns)) (sym c.as_slice-now.ensures)
    c.rounds.invariant.kept.fit

pub changes-requires-clause-constants : goal.changes-requires-clause-constants
changes-requires-clause-constants g c =
    constants_still c.args.c.now.header c.args.store.now c.rounds.store c.args.start.now.constants
    c.rounds.invariant.grows c.requires.constants

pub returns-then-is_empty-clause-settled : goal.returns-then-is_empty-clause-settled
returns-then-is_empty-clause-settled g c =
    let active = marked_in c.args.start.now.active in
    let classes = c.args.classes.now.nets in
    let numbers = numbers_in (length c.args.c.now.nets) classes in
    let start = waves_of (waves_at c.args.store.now c.args.start.now.numbers) in
    let waves = waves_at c.rounds.store c.rounds.numbers in
    let made : List Change =
    map (λ ch. (ch.net, wave_at c.changes.new.store ch.number)) c.in_ok-made.made.items in
    let all : List Change = for_all classes made in
    let same = same_waves c.rounds.store c.changes.new.store c.in_ok-made.ensures.grows
    c.rounds.numbers c.rounds.invariant.known in
    let firsts = c.in_ok-made.ensures.made
    ∙ ap (λ ns. changes_of c.args.c.now (waves_of (waves_at c.rounds.store ns))
    c.nets.result.now) c.as_slice-now.ensures in
    subst (λ ws. AreSettled c.args.c.now active start c.args.limit c.rounds.rounds (waves_of ws))
    (sym same)
    (settles c.args.c.now active numbers start c.requires.classes waves c.rounds.queue c.rounds.rounds
    c.rounds.evals
    c.rounds.invariant.kept all
    (made_of c.args.c.now active classes start
    c.requires.classes waves c.rounds.queue c.rounds.rounds c.rounds.evals c.rounds.invariant.kept
    c.nets.result.now all c.nets.ensures.once c.nets.ensures.nets (ap (for_all classes) firsts))
    c.args.limit (none_for_all classes made
    (none_made (λ ch. (ch.net, wave_at c.changes.new.store ch.number)) c.in_ok-made.made.items _
    c.in_ok-made.made.ok.0 c.if-is_empty.ensures)) c.rounds.invariant.within)

pub returns-then-is_empty-clause-work : goal.returns-then-is_empty-clause-work
returns-then-is_empty-clause-work g c =
    let active = marked_in c.args.start.now.active in
    let classes = c.args.classes.now.nets in
    let numbers = numbers_in (length c.args.c.now.nets) classes in
    let start = waves_of (waves_at c.args.store.now c.args.start.now.numbers) in
    let waves = waves_at c.rounds.store c.rounds.numbers in
    let made : List Change =
    map (λ ch. (ch.net, wave_at c.changes.new.store ch.number)) c.in_ok-made.made.items in
    let all : List Change = for_all classes made in
    let firsts = c.in_ok-made.ensures.made
    ∙ ap (λ ns. changes_of c.args.c.now (waves_of (waves_at c.rounds.store ns))
    c.nets.result.now) c.as_slice-now.ensures in
    works c.args.c.now active numbers start c.requires.classes waves c.rounds.queue c.rounds.rounds
    c.rounds.evals
    c.rounds.invariant.kept all
    (made_of c.args.c.now active classes start
    c.requires.classes waves c.rounds.queue c.rounds.rounds c.rounds.evals c.rounds.invariant.kept
    c.nets.result.now all c.nets.ensures.once c.nets.ensures.nets (ap (for_all classes) firsts))
    c.nets-in-rounds.result.now c.nets-in-rounds.ensures.nets
    ∙ evaluations_are c.args.c.now classes active (round c.args.c.now active start)
    (c.rounds.rounds + 1)

pub returns-then-is_empty-clause-sound : goal.returns-then-is_empty-clause-sound
returns-then-is_empty-clause-sound g c =
    let some : 0 < period c.args.c.now.header =
    subst (λ h. 0 < period h) c.header.ensures
    (let two = c.known-2.ensures.shortest in omega (arith, two)) in
    let same = same_waves c.rounds.store c.changes.new.store c.in_ok-made.ensures.grows
    c.rounds.numbers c.rounds.invariant.known in
    subst (λ ws. KeepRuns c.args.c.now (waves_of (waves_at c.args.store.now c.args.start.now.numbers))
    c.rounds.rounds (waves_of ws)) (sym same)
    (keeps c.args.c.now (marked_in c.args.start.now.active)
    (numbers_in (length c.args.c.now.nets) c.args.classes.now.nets)
    (waves_of (waves_at c.args.store.now c.args.start.now.numbers)) c.requires.classes
    (waves_at c.rounds.store c.rounds.numbers) c.rounds.queue
    c.rounds.rounds c.rounds.evals c.rounds.invariant.kept c.known.ensures some
    c.requires.waves.each_slot)

pub for_all-requires : goal.for_all-requires
for_all-requires g c =
    let active = marked_in c.args.start.now.active in
    let classes = c.args.classes.now.nets in
    let start = waves_of (waves_at c.args.store.now c.args.start.now.numbers) in
    let waves = waves_at c.rounds.store c.rounds.numbers in
    let firsts = c.in_ok-made.ensures.made
    ∙ ap (λ ns. changes_of c.args.c.now (waves_of (waves_at c.rounds.store ns))
    c.nets.result.now) c.as_slice-now.ensures in
    made_all (λ ch. (ch.net, wave_at c.changes.new.store ch.number))
    (λ net. leads_in classes net ≡ true) c.args.c.now
    (waves_of waves) c.nets.result.now c.rounds.queue.nets c.in_ok-made.made.items
    c.deref.result.now
    (waiting_lead c.args.c.now active classes start
    c.requires.classes waves c.rounds.queue c.rounds.rounds c.rounds.evals c.rounds.invariant.kept
    c.nets.ensures.once) c.nets.ensures.nets firsts c.deref.ensures.value

pub unsettled-requires-clause-exist : goal.unsettled-requires-clause-exist
unsettled-requires-clause-exist g c =
    let active = marked_in c.args.start.now.active in
    let classes = c.args.classes.now.nets in
    let numbers = numbers_in (length c.args.c.now.nets) classes in
    let start = waves_of (waves_at c.args.store.now c.args.start.now.numbers) in
    let waves = waves_at c.rounds.store c.rounds.numbers in
    let firsts = c.in_ok-made.ensures.made
    ∙ ap (λ ns. changes_of c.args.c.now (waves_of (waves_at c.rounds.store ns))
    c.nets.result.now) c.as_slice-now.ensures in
    All-same (λ ch. ch.net < length c.args.c.now.nets) c.deref-then-rounds-limit.result.now
    c.in_ok-all.all.items c.deref-then-rounds-limit.ensures.value
    (all_read (λ ch. (ch.net, wave_at c.changes.new.store ch.number))
    (λ ch. ch.0 < length c.args.c.now.nets) c.in_ok-all.all.items
    (made_exist c.args.c.now active numbers start c.requires.classes waves c.rounds.queue
    c.rounds.rounds c.rounds.evals
    c.rounds.invariant.kept
    (map (λ ch. (ch.net, wave_at c.changes.new.store ch.number)) c.in_ok-all.all.items)
    (made_of c.args.c.now active classes start
    c.requires.classes waves c.rounds.queue c.rounds.rounds c.rounds.evals c.rounds.invariant.kept
    c.nets.result.now (map (λ ch. (ch.net, wave_at c.changes.new.store ch.number))
    c.in_ok-all.all.items) c.nets.ensures.once c.nets.ensures.nets
    (c.in_ok-all.ensures (wave_at c.changes.new.store)
    ∙ ap (for_all classes)
    (ap (map (λ ch. (ch.net, wave_at c.changes.new.store ch.number))) c.deref.ensures.value
    ∙ firsts)))))

pub unsettled-requires-clause-some : goal.unsettled-requires-clause-some
unsettled-requires-clause-some g c =
    let active = marked_in c.args.start.now.active in
    let classes = c.args.classes.now.nets in
    let numbers = numbers_in (length c.args.c.now.nets) classes in
    let start = waves_of (waves_at c.args.store.now c.args.start.now.numbers) in
    let waves = waves_at c.rounds.store c.rounds.numbers in
    let made : List Change =
    map (λ ch. (ch.net, wave_at c.changes.new.store ch.number)) c.in_ok-made.made.items in
    let all : List Change = for_all classes made in
    let firsts = c.in_ok-made.ensures.made
    ∙ ap (λ ns. changes_of c.args.c.now (waves_of (waves_at c.rounds.store ns))
    c.nets.result.now) c.as_slice-now.ensures in
    some_read (λ ch. (ch.net, wave_at c.changes.new.store ch.number)) c.in_ok-all.all.items
    c.deref-then-rounds-limit.result.now all c.deref-then-rounds-limit.ensures.value
    (c.in_ok-all.ensures (wave_at c.changes.new.store)
    ∙ ap (for_all classes)
    (ap (map (λ ch. (ch.net, wave_at c.changes.new.store ch.number))) c.deref.ensures.value))
    (some_for_all (length c.args.c.now.nets) classes made c.requires.classes.each_net
    (firsts_below c.args.c.now (waves_of waves) c.nets.result.now c.rounds.queue.nets made
    (waiting_exist c.args.c.now active numbers start
    c.requires.classes waves c.rounds.queue c.rounds.rounds c.rounds.evals c.rounds.invariant.kept
    c.nets.ensures.once) c.nets.ensures.nets firsts)
    (some_made (λ ch. (ch.net, wave_at c.changes.new.store ch.number)) c.in_ok-made.made.items _
    c.in_ok-made.made.ok.0 c.if-is_empty.ensures))

pub returns-then-rounds-limit-clause-unsettled : goal.returns-then-rounds-limit-clause-unsettled
returns-then-rounds-limit-clause-unsettled g c =
    let active = marked_in c.args.start.now.active in
    let classes = c.args.classes.now.nets in
    let numbers = numbers_in (length c.args.c.now.nets) classes in
    let start = waves_of (waves_at c.args.store.now c.args.start.now.numbers) in
    let waves = waves_at c.rounds.store c.rounds.numbers in
    let firsts = c.in_ok-made.ensures.made
    ∙ ap (λ ns. changes_of c.args.c.now (waves_of (waves_at c.rounds.store ns))
    c.nets.result.now) c.as_slice-now.ensures in
    ends_by (λ ch. (ch.net, wave_at c.changes.new.store ch.number)) (λ ch. ch.net) c.args.c.now
    active
    numbers start c.requires.classes waves
    c.rounds.queue c.args.limit c.rounds.rounds c.rounds.evals c.in_ok-all.all.items
    c.deref-then-rounds-limit.result.now c.in_ok-unsettled.field-0 (λ ch. refl)
    c.rounds.invariant.kept
    (made_of c.args.c.now active classes start
    c.requires.classes waves c.rounds.queue c.rounds.rounds c.rounds.evals c.rounds.invariant.kept
    c.nets.result.now (map (λ ch. (ch.net, wave_at c.changes.new.store ch.number))
    c.in_ok-all.all.items) c.nets.ensures.once c.nets.ensures.nets
    (c.in_ok-all.ensures (wave_at c.changes.new.store)
    ∙ ap (for_all classes)
    (ap (map (λ ch. (ch.net, wave_at c.changes.new.store ch.number))) c.deref.ensures.value
    ∙ firsts)))
    c.if-rounds-limit.true c.deref-then-rounds-limit.ensures.value c.in_ok-unsettled.ensures

pub refill_all-requires-clause-classes : goal.refill_all-requires-clause-classes
refill_all-requires-clause-classes g c =
    let classes = c.args.classes.now.nets in
    each_numbered (length c.args.c.now.nets) classes c.requires.classes.each_net

pub refill_all-requires-clause-exist : goal.refill_all-requires-clause-exist
refill_all-requires-clause-exist g c =
    let active = marked_in c.args.start.now.active in
    let classes = c.args.classes.now.nets in
    let numbers = numbers_in (length c.args.c.now.nets) classes in
    let start = waves_of (waves_at c.args.store.now c.args.start.now.numbers) in
    let waves = waves_at c.rounds.store c.rounds.numbers in
    let firsts = c.in_ok-made.ensures.made
    ∙ ap (λ ns. changes_of c.args.c.now (waves_of (waves_at c.rounds.store ns))
    c.nets.result.now) c.as_slice-now.ensures in
    made_all (λ ch. (ch.net, wave_at c.changes.new.store ch.number))
    (λ net. net < length c.args.c.now.nets) c.args.c.now
    (waves_of waves) c.nets.result.now c.rounds.queue.nets c.in_ok-made.made.items
    c.deref-in-rounds.result.now
    (waiting_exist c.args.c.now active numbers start
    c.requires.classes waves c.rounds.queue c.rounds.rounds c.rounds.evals c.rounds.invariant.kept
    c.nets.ensures.once) c.nets.ensures.nets firsts c.deref-in-rounds.ensures.value

pub refill_all-requires-clause-firsts : goal.refill_all-requires-clause-firsts
refill_all-requires-clause-firsts g c =
    let active = marked_in c.args.start.now.active in
    let classes = c.args.classes.now.nets in
    let start = waves_of (waves_at c.args.store.now c.args.start.now.numbers) in
    let waves = waves_at c.rounds.store c.rounds.numbers in
    let firsts = c.in_ok-made.ensures.made
    ∙ ap (λ ns. changes_of c.args.c.now (waves_of (waves_at c.rounds.store ns))
    c.nets.result.now) c.as_slice-now.ensures in
    made_all (λ ch. (ch.net, wave_at c.changes.new.store ch.number))
    (λ net. leads_in classes net ≡ true) c.args.c.now
    (waves_of waves) c.nets.result.now c.rounds.queue.nets c.in_ok-made.made.items
    c.deref-in-rounds.result.now
    (waiting_lead c.args.c.now active classes start
    c.requires.classes waves c.rounds.queue c.rounds.rounds c.rounds.evals c.rounds.invariant.kept
    c.nets.ensures.once) c.nets.ensures.nets firsts c.deref-in-rounds.ensures.value

pub apply_all-requires-clause-each_net : goal.apply_all-requires-clause-each_net
apply_all-requires-clause-each_net g c =
    let classes = c.args.classes.now.nets in
    subst (λ (n : ℕ). IfSome classes (λ each. length each ≡ n))
    (sym (each_number c.args.c.now c.rounds.store c.rounds.numbers c.rounds.invariant.kept.fit))
    (each_numbered (length c.args.c.now.nets) classes c.requires.classes.each_net)

pub apply_all-requires-clause-exist : goal.apply_all-requires-clause-exist
apply_all-requires-clause-exist g c =
    let active = marked_in c.args.start.now.active in
    let classes = c.args.classes.now.nets in
    let numbers = numbers_in (length c.args.c.now.nets) classes in
    let start = waves_of (waves_at c.args.store.now c.args.start.now.numbers) in
    let waves = waves_at c.rounds.store c.rounds.numbers in
    let firsts = c.in_ok-made.ensures.made
    ∙ ap (λ ns. changes_of c.args.c.now (waves_of (waves_at c.rounds.store ns))
    c.nets.result.now) c.as_slice-now.ensures in
    nets_below (λ ch. ch.net) c.deref-in-rounds-2.result.now (length c.rounds.numbers)
    (length c.args.c.now.nets)
    (each_number c.args.c.now c.rounds.store c.rounds.numbers c.rounds.invariant.kept.fit)
    (made_all (λ ch. (ch.net, wave_at c.changes.new.store ch.number))
    (λ net. net < length c.args.c.now.nets) c.args.c.now
    (waves_of waves) c.nets.result.now c.rounds.queue.nets c.in_ok-made.made.items
    c.deref-in-rounds-2.result.now
    (waiting_exist c.args.c.now active numbers start
    c.requires.classes waves c.rounds.queue c.rounds.rounds c.rounds.evals c.rounds.invariant.kept
    c.nets.ensures.once) c.nets.ensures.nets firsts c.deref-in-rounds-2.ensures.value)

pub apply_all-requires-clause-firsts : goal.apply_all-requires-clause-firsts
apply_all-requires-clause-firsts g c =
    let active = marked_in c.args.start.now.active in
    let classes = c.args.classes.now.nets in
    let start = waves_of (waves_at c.args.store.now c.args.start.now.numbers) in
    let waves = waves_at c.rounds.store c.rounds.numbers in
    let firsts = c.in_ok-made.ensures.made
    ∙ ap (λ ns. changes_of c.args.c.now (waves_of (waves_at c.rounds.store ns))
    c.nets.result.now) c.as_slice-now.ensures in
    made_all (λ ch. (ch.net, wave_at c.changes.new.store ch.number))
    (λ net. leads_in classes net ≡ true) c.args.c.now
    (waves_of waves) c.nets.result.now c.rounds.queue.nets c.in_ok-made.made.items
    c.deref-in-rounds-2.result.now
    (waiting_lead c.args.c.now active classes start
    c.requires.classes waves c.rounds.queue c.rounds.rounds c.rounds.evals c.rounds.invariant.kept
    c.nets.ensures.once) c.nets.ensures.nets firsts c.deref-in-rounds-2.ensures.value

pub returns-in_err-made-clause-grows : goal.returns-in_err-made-clause-grows
returns-in_err-made-clause-grows g c =
    grows_trans c.args.store.now c.rounds.store c.changes.new.store c.rounds.invariant.grows
    c.in_err-made.ensures.grows

pub returns-in_err-numbers-2-clause-grows : goal.returns-in_err-numbers-2-clause-grows
returns-in_err-numbers-2-clause-grows g c =
    grows_cut c.args.store.now c.changes.new.store c.shortened.new.store c.len-kept.result
    (grows_trans c.args.store.now c.rounds.store c.changes.new.store c.rounds.invariant.grows
    c.in_ok-made.ensures.grows)
    c.rounds.invariant.counted c.in_err-numbers-2.ensures.grows

pub returns-then-is_empty-clause-grows : goal.returns-then-is_empty-clause-grows
returns-then-is_empty-clause-grows g c =
    grows_trans c.args.store.now c.rounds.store c.changes.new.store c.rounds.invariant.grows
    c.in_ok-made.ensures.grows

pub returns-then-is_empty-clause-known : goal.returns-then-is_empty-clause-known
returns-then-is_empty-clause-known g c =
    known_still c.rounds.store c.changes.new.store c.in_ok-made.ensures.grows c.rounds.numbers
    c.rounds.invariant.known

pub returns-then-is_empty-clause-fit : goal.returns-then-is_empty-clause-fit
returns-then-is_empty-clause-fit g c =
    let same = same_waves c.rounds.store c.changes.new.store c.in_ok-made.ensures.grows
    c.rounds.numbers c.rounds.invariant.known in
    subst (FitWaves c.args.c.now) (sym same) c.rounds.invariant.kept.fit

pub returns-then-rounds-limit-clause-grows : goal.returns-then-rounds-limit-clause-grows
returns-then-rounds-limit-clause-grows g c =
    grows_trans c.args.store.now c.rounds.store c.changes.new.store c.rounds.invariant.grows
    c.in_ok-made.ensures.grows

pub shortened-requires : goal.shortened-requires
shortened-requires g c =
    c.apply_all.ensures.known c.changes.new.store
    (known_still c.rounds.store c.changes.new.store c.in_ok-made.ensures.grows c.rounds.numbers
    c.rounds.invariant.known)
    (subst (λ chs. AreKnown c.changes.new.store (map (λ ch. ch.number) chs))
    (sym c.deref-in-rounds-2.ensures.value) c.in_ok-made.ensures.known)

pub rounds-preserved : goal.rounds-preserved
rounds-preserved g c =
    let active = marked_in c.args.start.now.active in
    let classes = c.args.classes.now.nets in
    let numbers = numbers_in (length c.args.c.now.nets) classes in
    let start = waves_of (waves_at c.args.store.now c.args.start.now.numbers) in
    let waves = waves_at c.rounds.store c.rounds.numbers in
    let made : List Change =
    map (λ ch. (ch.net, wave_at c.changes.new.store ch.number)) c.in_ok-made.made.items in
    let all : List Change = for_all classes made in
    let firsts = c.in_ok-made.ensures.made
    ∙ ap (λ ns. changes_of c.args.c.now (waves_of (waves_at c.rounds.store ns))
    c.nets.result.now) c.as_slice-now.ensures in
    let some : 0 < period c.args.c.now.header =
    subst (λ h. 0 < period h) c.header.ensures
    (let two = c.known-2.ensures.shortest in omega (arith, two)) in
    let same = same_waves c.rounds.store c.changes.new.store c.in_ok-made.ensures.grows
    c.rounds.numbers c.rounds.invariant.known in
    let after = c.in_ok-numbers-2.ensures.same ∙ c.apply_all.ensures.changed c.changes.new.store
    ∙ (λ k. changed (same k)
    (for_all classes (map (λ ch. (ch.net, wave_at c.changes.new.store ch.number))
    (c.deref-in-rounds-2.ensures.value k)))) in
    let grown = grows_trans c.args.store.now c.rounds.store c.changes.new.store
    c.rounds.invariant.grows c.in_ok-made.ensures.grows in
    record {
      grows = grows_cut c.args.store.now c.changes.new.store c.shortened.new.store c.len-kept.result
          grown c.rounds.invariant.counted c.in_ok-numbers-2.ensures.grows;
      counted = c.rounds.invariant.counted;
      constants = c.requires.constants;
      known = c.in_ok-numbers-2.ensures.known;
      kept = kept_more c.args.c.now active numbers start c.requires.classes waves c.rounds.queue
          c.rounds.rounds c.rounds.evals
          c.rounds.invariant.kept all
          (made_of c.args.c.now active classes start
          c.requires.classes waves c.rounds.queue c.rounds.rounds c.rounds.evals
          c.rounds.invariant.kept
          c.nets.result.now all c.nets.ensures.once c.nets.ensures.nets
          (ap (for_all classes) firsts))
          (waves_at c.shortened.new.store c.in_ok-numbers-2.numbers) c.refill_all.new.self
          c.nets-in-rounds.result.now (is_evaluated c.args.start.now.active classes) c.known.ensures
          some c.requires.waves.each_slot
          c.nets-in-rounds.ensures.nets
          (some_for_all (length c.args.c.now.nets) classes made c.requires.classes.each_net
          (firsts_below c.args.c.now (waves_of waves) c.nets.result.now c.rounds.queue.nets made
          (waiting_exist c.args.c.now active numbers start
          c.requires.classes waves c.rounds.queue c.rounds.rounds c.rounds.evals
          c.rounds.invariant.kept c.nets.ensures.once) c.nets.ensures.nets firsts)
          (some_made (λ ch. (ch.net, wave_at c.changes.new.store ch.number)) c.in_ok-made.made.items
          _ c.in_ok-made.made.ok.0 c.if-is_empty.ensures))
          after c.in_ok-refill_all.ensures.each_net
          (λ i. evaluated_first c.args.c.now c.args.start.now.active classes i c.requires.active
          c.requires.classes.each_net)
          (λ i. c.in_ok-refill_all.ensures.due i
          ∙ ap (λ (nets : List ℕ). is_evaluated c.args.start.now.active classes i && hears_in
          (is_with_any classes nets) (driver c.args.c.now i))
          (nets_made (λ ch. (ch.net, wave_at c.changes.new.store ch.number)) (λ ch. ch.net)
          c.in_ok-made.made.items c.deref-in-rounds.result.now (λ ch. refl)
          c.deref-in-rounds.ensures.value)
          ∙ ap (λ b. is_evaluated c.args.start.now.active classes i && b)
          (heard_for_all c.args.c.now classes made i c.known.ensures
          c.requires.classes.each_net));
      within = omega (arith, c.rounds.invariant.within, c.if-rounds-limit.false);
    }
