-- The links of a chain may change, each as its net's wave says, and there are at most as many as nets and one.
use Rattle.std.proofs.Common.{◌≡◌, ℕ, zero, suc, ◌+◌, ◌-◌, ◌<◌, ◌≤◌, Bool, true, false, cond, All, List, [], ◌∷◌, length, refl, subst, arith, Option, Some, None}
use Rattle.std.specs.Prelude.{◌==◌, IfSome}
use Rattle.std.specs.List.{list_any}
use Rattle.std.specs.Option.{option_map, option_or}
use Rattle.std.proofs.lemmas.List.Elements.{All-head, All-tail}
use Rattle.scald_base.specs.Clock.{back}
use Rattle.scald_base.specs.Time.{Bounds, period}
use Rattle.vector_names.specs.declared.bits.Target.{Target}
use Rattle.vector_names.specs.declared.bits.Target.TheVariants.{Net as OnNet, Constant}
use Rattle.step_values.specs.Steps.{is_quiet}
use Rattle.step_values.specs.Cell.{values}
use Rattle.skew_algebra.specs.Wave.{fold}
use Rattle.element_kinds.specs.declared.kind.Kind.{Kind}
use Rattle.element_kinds.specs.Kinds.{listens}
use Rattle.flat_circuit.specs.declared.instance.Pin.{Pin}
use Rattle.flat_circuit.specs.declared.instance.Instance.{Instance}
use Rattle.flat_circuit.specs.Circuit.{Circuit, wire_at, driver}
use Rattle.flat_circuit.specs.Instances.{PinExists, TargetExists}
use Rattle.gate_eval.specs.Hold.{first_some}
use Rattle.storage_eval.specs.Storage.{listening_from}
use Rattle.fixpoint_engine.specs.Waves.{Waves}
use Rattle.fault_chain.specs.declared.chain.Link.{Link}
use Rattle.fault_chain.specs.declared.chain.End.TheVariants.{Repeat}
use Rattle.fault_chain.specs.declared.chain.Chain.{Chain}
use Rattle.fault_chain.specs.Chain.{chain_after, chain_from, ending, link_back, mover_back, next_link, then_late, through, through_first}
use Rattle.fault_chain.specs.Laws.{MayChange}

-- ---- what holds of whatever is found

or_if : {A : Type 0} (P : A → Type 0) (here later : Option A) → IfSome here P → IfSome later P → IfSome (option_or here later) P
or_if P None later holds rest = rest
or_if P (Some x) later holds rest = holds

-- of numbers from one on
pub each_if : {A : Type 0} (P : A → Type 0) (f : ℕ → Option A) (n i : ℕ) → ((j : ℕ) → i ≤ j → j < i + n → IfSome (f j) P) →
    IfSome (first_some f n i) P
each_if P f zero i each = tt
each_if P f (suc n) i each =
    or_if P (f i) (first_some f n (i + 1)) (each i (omega arith) (omega arith))
    (each_if P f n (i + 1) (λ j above below. each j (omega (arith, above)) (omega (arith, below))))

-- ---- links

-- what a net may do, which it does
pub record IsLink (c : Circuit) (ws : Waves) (link : Link) : Type 0 where
  pub exists : link.net < length c.nets
  pub value : link.value ≡ fold values (ws link.net) link.slot
  pub moves : MayChange link

module _ (c : Circuit) (ws : Waves) where
  mover_link : (i p o : ℕ) → i < length c.nets → IfSome (mover_back c ws i p o) (IsLink c ws)
  mover_link i p o exists = by (is_quiet (fold values (ws i) (back (period c.header) p o))) refl
    where
      by : (quiet : Bool) → is_quiet (fold values (ws i) (back (period c.header) p o)) ≡ quiet →
          IfSome (cond quiet None (Some (link_back c ws i p o))) (IsLink c ws)
      by true is = tt
      by false is = record { exists = exists; value = refl; moves = is }

  pub through_link : (p : ℕ) (d : Bounds) (target : Target) → TargetExists (length c.nets) target → IfSome (through c ws p d target) (IsLink c ws)
  through_link p d (OnNet i) exists =
      let both : Bounds = then_late (wire_at c.nets i) d in
      each_if (IsLink c ws) (mover_back c ws i p) (both.max - both.min + 1) both.min (λ o above below. mover_link i p o exists)
  through_link p d (Constant one) exists = tt

  listening_link : (p : ℕ) (d : Bounds) (kind : Kind) (place : ℕ) (ps : List Pin) → All (PinExists (length c.nets)) ps →
      IfSome (through_first c ws p d (listening_from kind place ps)) (IsLink c ws)
  listening_link p d kind place [] exist = tt
  listening_link p d kind place (pin ∷ ps) exist =
      by (listens kind place) (listening_link p d kind (place + 1) ps (All-tail (PinExists (length c.nets)) pin ps exist))
    where
      by : (heard : Bool) → IfSome (through_first c ws p d (listening_from kind (place + 1) ps)) (IsLink c ws) →
          IfSome (through_first c ws p d (cond heard (pin ∷ listening_from kind (place + 1) ps) (listening_from kind (place + 1) ps))) (IsLink c ws)
      by true rest =
          or_if (IsLink c ws) (through c ws p d pin.target) (through_first c ws p d (listening_from kind (place + 1) ps))
          (through_link p d pin.target (All-head (PinExists (length c.nets)) pin ps exist)) rest
      by false rest = rest

  pub next_is_link : (j : Instance) (p : ℕ) → All (PinExists (length c.nets)) j.pins → IfSome (next_link c ws j p) (IsLink c ws)
  next_is_link j p exist = listening_link p j.delay j.kind 0 j.pins exist

  -- ---- how many links there are

  after_short : (left : ℕ) (link : Link) (rest : Option (Option Chain)) →
      ((chain : Chain) → rest ≡ Some (Some chain) → length chain.links ≤ left) → length (chain_after link rest).links ≤ left + 1
  after_short left link None short = omega arith
  after_short left link (Some None) short = omega arith
  after_short left link (Some (Some chain)) short = let few = short chain refl in omega (arith, few)

  -- one link more than those of the chain from the next link
  few_more : (left : ℕ) (seen : List ℕ) (link : Link) →
      ((next : Link) → length (chain_from c ws left (link.net ∷ seen) next).links ≤ left + 1) →
      length (chain_from c ws (suc left) seen link).links ≤ suc left + 1
  few_more left seen link shorter = by (list_any (λ i. i == link.net) seen)
    where
      of_next : (next : Option Link) (chain : Chain) → option_map (chain_from c ws left (link.net ∷ seen)) next ≡ Some chain → length chain.links ≤ left + 1
      of_next None chain is = absurd (cc)
      of_next (Some next) chain is =
          let same : chain_from c ws left (link.net ∷ seen) next ≡ chain = cc in
          subst (λ (z : Chain). length z.links ≤ left + 1) same (shorter next)

      of_driver : (element : Option Instance) (chain : Chain) →
          option_map (λ j. option_map (chain_from c ws left (link.net ∷ seen)) (next_link c ws j link.slot)) element ≡ Some (Some chain) → length chain.links ≤ left + 1
      of_driver None chain is = absurd (cc)
      of_driver (Some j) chain is =
          let same : option_map (chain_from c ws left (link.net ∷ seen)) (next_link c ws j link.slot) ≡ Some chain = cc in
          of_next (next_link c ws j link.slot) chain same

      chains : Option (Option Chain)
      chains = option_map (λ j. option_map (chain_from c ws left (link.net ∷ seen)) (next_link c ws j link.slot)) (driver c link.net)

      by : (met : Bool) → length (cond met (ending link Repeat) (chain_after link chains)).links ≤ suc left + 1
      by true = omega arith
      by false = let few = after_short (left + 1) link chains (λ chain is. of_driver (driver c link.net) chain is) in omega (arith, few)

  pub few_links : (left : ℕ) (seen : List ℕ) (link : Link) → length (chain_from c ws left seen link).links ≤ left + 1
  few_links zero seen link = omega arith
  few_links (suc left) seen link = few_more left seen link (λ next. few_links left (link.net ∷ seen) next)
