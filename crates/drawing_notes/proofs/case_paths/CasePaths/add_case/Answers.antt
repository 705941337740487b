use Rattle.std.proofs.Common.{◌≡◌, ◌∙◌, ℕ, Bool, List, drop, length, refl, sym, ap, subst, arith, Option}
use Rattle.std.specs.Vec.{with_items}
use Rattle.std.proofs.lemmas.Result.{on_ok_weaker}
use Rattle.fixpoint_engine.specs.Waves.{waves_of}
use Rattle.drawing_notes.specs.declared.case_paths.CasePaths.{CasePaths}
use Rattle.drawing_notes.specs.declared.launched.Arrival.{Arrival}
use Rattle.drawing_notes.specs.Arrivals.{AreRaisedBy}
use Rattle.drawing_notes.specs.Common.{AreRaisedTicks}
use Rattle.drawing_notes.specs.Doubts.{ArePassable}
use Rattle.drawing_notes.specs.Parts.{together}
use Rattle.drawing_notes.specs.Paths.{TellsLaunches, is_looped}
use Rattle.drawing_notes.specs.Seen.{Sees}
use Rattle.drawing_notes.specs.SoFar.{IsOrder, looped_in}
use Rattle.drawing_notes.proofs.Deciding.{launched_in, launched_tells}
use Rattle.drawing_notes.proofs.Gathering.{paths_more}
use Rattle.drawing_omissions.proofs.Written.{written_back}
use Rattle.drawing_notes.proofs.case_paths.CasePaths.add_case.Goals as goal

pub raise_latest-requires-clause-sees : goal.raise_latest-requires-clause-sees
raise_latest-requires-clause-sees g c = (
  is_looped (together c.deref.result.now),
  record { circuit = c.known.ensures; fit = c.requires.fit; nets = c.in_ok-within.ensures; marks = c.in_ok-held.ensures },
)

pub raise_latest-requires-clause-order : goal.raise_latest-requires-clause-order
raise_latest-requires-clause-order g c =
    let ready = c.requires.ready in
    (looped_in c.args.self.now, subst (IsOrder c.args.c.now (looped_in c.args.self.now)) (sym c.deref-2.ensures.value) ready.1.order)

pub raise_latest-requires-clause-long : goal.raise_latest-requires-clause-long
raise_latest-requires-clause-long g c = ap length c.deref_mut.ensures.value ∙ c.requires.ready.1.each_net

pub raise_ticks-requires-clause-sees : goal.raise_ticks-requires-clause-sees
raise_ticks-requires-clause-sees g c = (
  is_looped (together c.deref.result.now),
  record { circuit = c.known.ensures; fit = c.requires.fit; nets = c.in_ok-within.ensures; marks = c.in_ok-held.ensures },
)

pub raise_ticks-requires-clause-long : goal.raise_ticks-requires-clause-long
raise_ticks-requires-clause-long g c = ap length c.deref_mut-2.ensures.value ∙ c.requires.ready.1.each_instance

pub returns : goal.returns
returns g c =
    let circuit = c.args.c.now in
    let ws = waves_of c.args.waves.now in
    let old = c.args.self.now in
    let latest = c.raise_latest.new.latest in
    let ticks = c.raise_ticks.new.ticks in
    let new : CasePaths = record {
      parts = old.parts;
      order = old.order;
      latest = with_items old.latest latest;
      ticks = with_items old.ticks ticks;
    } in
    let ready = c.requires.ready.1 in
    let looped = looped_in old in
    let sees : Sees circuit looped c.args.waves.now c.in_ok-within.within c.in_ok-held.held = record {
      circuit = c.known.ensures;
      fit = c.requires.fit;
      nets = subst (λ (parts : List (Option ℕ)). ArePassable circuit (is_looped (together parts)) ws c.in_ok-within.within) c.deref.ensures.value c.in_ok-within.ensures;
      marks = c.in_ok-held.ensures;
    } in
    let order = subst (IsOrder circuit looped) (sym c.deref-2.ensures.value) ready.order in
    let raised : AreRaisedBy circuit looped ws old.latest.items latest =
    subst (λ (xs : List (Option Arrival)). AreRaisedBy circuit looped ws xs latest) c.deref_mut.ensures.value (c.in_ok-raise_latest.ensures looped sees order) in
    let latest_long : length latest ≡ length old.latest.items = raised.0 in
    on_ok_weaker c.raise_ticks.result
    (λ more cases one waves holds.
    let tick : (launched : ℕ → ℕ → Bool) → TellsLaunches circuit looped ws launched → AreRaisedTicks circuit ws launched old.ticks.items ticks =
    λ launched tells. subst (λ (xs : List ℕ). AreRaisedTicks circuit ws launched xs ticks) c.deref_mut-2.ensures.value (more looped launched sees tells) in
    let long : length ticks ≡ length old.ticks.items = (tick (launched_in circuit looped ws) (launched_tells circuit looped ws)).0 in
    paths_more circuit cases one ws old new latest ticks waves refl refl
    (written_back latest (drop (length latest) old.latest.items) old.latest.len (omega (arith, latest_long, old.latest.ok.0)))
    (written_back ticks (drop (length ticks) old.ticks.items) old.ticks.len (omega (arith, long, old.ticks.ok.0)))
    raised tick long holds) c.raise_ticks.ensures
