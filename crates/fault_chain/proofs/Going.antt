-- How a chain goes on from a link that may change, and how it ends.
use Rattle.std.proofs.Common.{inl, inr, ◌≡◌, ◌⊎◌, ℕ, zero, suc, ◌+◌, ◌<◌, ◌≤◌, Bool, true, false, cond, eqb, All, List, [], ◌∷◌, ◌++◌, length, refl, sym, ap, ◌∙◌, arith, Option, Some, None}
use Rattle.std.specs.Prelude.{◌==◌, IfSome}
use Rattle.std.specs.List.{AllByRecursion, IsDistinct, list_any}
use Rattle.std.specs.Option.{option_map}
use Rattle.std.proofs.lemmas.Bool.{eqb-true, or_cases, or_left, or_parts, or_right}
use Rattle.std.proofs.lemmas.List.Elements.{All-cons, All-nil}
use Rattle.std.proofs.lemmas.Map.Keys.{IsDistinct-cons}
use Rattle.std.proofs.lemmas.Map.Steps.{length-le_from_distinct_below}
use Rattle.scald_base.specs.Time.{IsDelay, period}
use Rattle.step_values.specs.Steps.{is_quiet}
use Rattle.step_values.specs.Cell.{values}
use Rattle.skew_algebra.specs.Wave.{fold}
use Rattle.flat_circuit.specs.declared.instance.Instance.{Instance}
use Rattle.flat_circuit.specs.Circuit.{Circuit, IsCircuit, driver}
use Rattle.fixpoint_engine.specs.Waves.{Waves}
use Rattle.fixpoint_engine.proofs.Fits.{AreLong}
use Rattle.fixpoint_engine.specs.Rounds.{evaluated, wave_from}
use Rattle.fixpoint_engine.proofs.Drivers.{driver_fits, driver_makes}
use Rattle.fixpoint_engine.proofs.Listening.{same_order}
use Rattle.fault_chain.specs.declared.chain.Link.{Link}
use Rattle.fault_chain.specs.declared.chain.End.{End}
use Rattle.fault_chain.specs.declared.chain.End.TheVariants.{Level, Repeat, Undriven, Both}
use Rattle.fault_chain.specs.declared.chain.Chain.{Chain}
use Rattle.fault_chain.specs.Chain.{chain_after, chain_from, ending, linked, next_link}
use Rattle.fault_chain.specs.Laws.{AreTwoDelays, HasDelays, IsForced, MayChange}
use Rattle.fault_chain.proofs.Drivers.{driver_passes}
use Rattle.fault_chain.proofs.Elements.{element_quiet}
use Rattle.fault_chain.proofs.Moving.{IsLink, next_is_link}

-- ---- nets that were met

-- Some of so many nets, each once; so many more were not met.
pub record AreMet (nets : ℕ) (seen : List ℕ) (left : ℕ) : Type 0 where
  pub once : IsDistinct eqb seen
  pub exist : (i : ℕ) → list_any (eqb i) seen ≡ true → i < nets
  pub count : left + length seen ≡ nets

apart : (net : ℕ) (seen : List ℕ) → list_any (λ i. i == net) seen ≡ false → AllByRecursion (λ i. eqb net i ≡ false) seen
apart net [] none = tt
apart net (i ∷ seen) none =
    let both = or_parts (i == net) (list_any (λ j. j == net) seen) none in
    (same_order net i ∙ both.0, apart net seen both.1)

met_more : (nets left net : ℕ) (seen : List ℕ) → AreMet nets seen (suc left) → net < nets → list_any (λ i. i == net) seen ≡ false → AreMet nets (net ∷ seen) left
met_more nets left net seen met exists new =
    let count = met.count in
    record {
      once = IsDistinct-cons eqb net seen (apart net seen new) met.once;
      exist = λ i among. elim (or_cases (eqb i net) (list_any (eqb i) seen) among) [
        | inl here ↦ let same : i ≡ net = eqb-true i net here in omega (arith, same, exists)
        | inr later ↦ met.exist i later
      ];
      count = omega (arith, count);
    }

-- If all of them were met, each net was.
all_met : (nets net : ℕ) (seen : List ℕ) → AreMet nets seen 0 → net < nets → list_any (λ i. i == net) seen ≡ true
all_met nets net seen met exists = by (list_any (λ i. i == net) seen) refl
  where
    by : (among : Bool) → list_any (λ i. i == net) seen ≡ among → among ≡ true
    by true is = refl
    by false is =
        let few : length (net ∷ seen) ≤ nets =
        length-le_from_distinct_below (net ∷ seen) nets (IsDistinct-cons eqb net seen (apart net seen is) met.once) (λ i among.
        elim (or_cases (eqb i net) (list_any (eqb i) seen) among) [
          | inl here ↦ let same : i ≡ net = eqb-true i net here in omega (arith, same, exists)
          | inr later ↦ met.exist i later
        ]) in
        let count = met.count in
        absurd (omega (arith, few, count))

-- ---- what is left of a chain

-- by its end, after links on these nets
abbrev pub GoesTo : Circuit → List ℕ → List Link → Link → End → Type 0
GoesTo c seen before last Level = ⊥
GoesTo c seen before last Repeat =
    (list_any (λ i. i == last.net) seen ≡ true) ⊎ (list_any (λ (link : Link). link.net == last.net) before ≡ true)
GoesTo c seen before last Undriven = driver c last.net ≡ None
GoesTo c seen before last Both = IsForced c last

pub record IsGoing (c : Circuit) (seen : List ℕ) (chain : Chain) : Type 0 where
  pub before : List Link
  pub last : Link
  pub links : chain.links ≡ before ++ last ∷ []
  pub moving : All MayChange before
  pub moves : MayChange last
  pub goes : GoesTo c seen before last chain.end

going_end : (c : Circuit) (seen : List ℕ) (link : Link) (end : End) → MayChange link → GoesTo c seen [] link end → IsGoing c seen (ending link end)
going_end c seen link end moves goes = record { before = []; last = link; links = refl; moving = All-nil MayChange; moves = moves; goes = goes }

goes_more : (c : Circuit) (seen : List ℕ) (link : Link) (before : List Link) (last : Link) (end : End) →
    GoesTo c (link.net ∷ seen) before last end → GoesTo c seen (link ∷ before) last end
goes_more c seen link before last Level goes = goes
goes_more c seen link before last Undriven goes = goes
goes_more c seen link before last Both goes = goes
goes_more c seen link before last Repeat (inl met) =
    elim (or_cases (link.net == last.net) (list_any (λ i. i == last.net) seen) met) [
      | inl here ↦ inr (or_left (link.net == last.net) (list_any (λ (one : Link). one.net == last.net) before) here)
      | inr earlier ↦ inl earlier
    ]
goes_more c seen link before last Repeat (inr met) =
    inr (or_right (link.net == last.net) (list_any (λ (one : Link). one.net == last.net) before) met)

going_more : (c : Circuit) (seen : List ℕ) (link : Link) (rest : Chain) → MayChange link → IsGoing c (link.net ∷ seen) rest → IsGoing c seen (linked link rest)
going_more c seen link rest moves going = record {
  before = link ∷ going.before;
  last = going.last;
  links = ap (λ (links : List Link). link ∷ links) going.links;
  moving = All-cons MayChange link going.before moves going.moving;
  moves = going.moves;
  goes = goes_more c seen link going.before going.last rest.end going.goes;
}

module _ (c : Circuit) (ws : Waves) (known : IsCircuit c) (some : 0 < period c.header) (delays : HasDelays c) (long : AreLong c ws)
    (settles : (i : ℕ) → ws i ≡ evaluated c ws i) where
  -- If no pin of the driver changes, it is storage with set and reset.
  forced : (link : Link) (j : Instance) → IsLink c ws link → driver c link.net ≡ Some j → next_link c ws j link.slot ≡ None → IsForced c link
  forced link j is at none =
      elim (element_quiet c ws some long delays.wires j link.slot (driver_fits c link.net j known at) (driver_makes c link.net j known at)
      (driver_passes (λ (one : Instance). IsDelay one.delay) c link.net j delays.delays at)
      (driver_passes (λ (one : Instance). AreTwoDelays one.split) c link.net j delays.splits at) none) [
        | inl both ↦ record { storage = j; drives = at; kind = both }
        | inr quiet ↦
            let wave : ws link.net ≡ evaluated c ws link.net = settles link.net in
            let value : is_quiet link.value ≡ true =
            ap is_quiet (is.value ∙ (λ k. fold values (wave k) link.slot) ∙ (λ k. fold values (wave_from c ws (at k) (ws link.net)) link.slot)) ∙ quiet in
            let clash : false ≡ true = sym is.moves ∙ value in
            absurd (cc)
      ]

  -- one link more, if each chain from the next link goes on
  goes_from : (left : ℕ) (seen : List ℕ) (link : Link) → AreMet (length c.nets) seen (suc left) → IsLink c ws link →
      ((next : Link) → AreMet (length c.nets) (link.net ∷ seen) left → IsLink c ws next → IsGoing c (link.net ∷ seen) (chain_from c ws left (link.net ∷ seen) next)) →
      IsGoing c seen (chain_from c ws (suc left) seen link)
  goes_from left seen link met is rest = by (list_any (λ i. i == link.net) seen) refl
    where
      by_next : (j : Instance) → driver c link.net ≡ Some j → list_any (λ i. i == link.net) seen ≡ false →
          (next : Option Link) → next_link c ws j link.slot ≡ next → IfSome next (IsLink c ws) →
          IsGoing c seen (chain_after link (Some (option_map (chain_from c ws left (link.net ∷ seen)) next)))
      by_next j at new None none next_is = going_end c seen link Both is.moves (forced link j is at none)
      by_next j at new (Some next) found next_is =
          going_more c seen link (chain_from c ws left (link.net ∷ seen) next) is.moves
          (rest next (met_more (length c.nets) left link.net seen met is.exists new) next_is)

      by_driver : (element : Option Instance) → driver c link.net ≡ element → list_any (λ i. i == link.net) seen ≡ false →
          IsGoing c seen (chain_after link (option_map (λ j. option_map (chain_from c ws left (link.net ∷ seen)) (next_link c ws j link.slot)) element))
      by_driver None at new = going_end c seen link Undriven is.moves at
      by_driver (Some j) at new =
          by_next j at new (next_link c ws j link.slot) refl (next_is_link c ws j link.slot (driver_fits c link.net j known at).exists.reads)

      by : (among : Bool) → list_any (λ i. i == link.net) seen ≡ among →
          IsGoing c seen (cond among (ending link Repeat)
          (chain_after link (option_map (λ j. option_map (chain_from c ws left (link.net ∷ seen)) (next_link c ws j link.slot)) (driver c link.net))))
      by true among = going_end c seen link Repeat is.moves (inl among)
      by false new = by_driver (driver c link.net) refl new

  pub goes_on : (left : ℕ) (seen : List ℕ) (link : Link) → AreMet (length c.nets) seen left → IsLink c ws link → IsGoing c seen (chain_from c ws left seen link)
  goes_on zero seen link met is = going_end c seen link Repeat is.moves (inl (all_met (length c.nets) link.net seen met is.exists))
  goes_on (suc left) seen link met is =
      goes_from left seen link met is (λ next next_met next_is. goes_on left (link.net ∷ seen) next next_met next_is)
