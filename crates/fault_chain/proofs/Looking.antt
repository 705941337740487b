-- How code looks for a link: slot by slot, pin by pin, and not at all on a net that never changes.
use Rattle.std.proofs.Common.{inl, inr, ◌≡◌, ℕ, zero, suc, ◌+◌, ◌-◌, ◌<◌, ◌≤◌, Bool, true, false, cond, List, ◌∷◌, drop, drop-cons, get_or, length, sym, ap, ◌∙◌, arith, Option, Some, None, slice_get}
use Rattle.std.specs.Option.{option_or}
use Rattle.std.proofs.lemmas.Bool.{cases_eq}
use Rattle.scald_base.specs.Clock.{back}
use Rattle.scald_base.specs.Time.{Bounds, period}
use Rattle.scald_base.proofs.Back.{back_lt}
use Rattle.wave_core.specs.Slots.{earlier}
use Rattle.step_values.specs.declared.value.Value.{Value}
use Rattle.step_values.specs.declared.value.Value.TheVariants.{U}
use Rattle.step_values.specs.Steps.{is_quiet}
use Rattle.step_values.specs.Cell.{values}
use Rattle.skew_algebra.specs.Wave.{Wave, fold, is_steady}
use Rattle.skew_algebra.proofs.Cells.{all_at}
use Rattle.element_kinds.specs.declared.kind.Kind.{Kind}
use Rattle.element_kinds.specs.Kinds.{listens}
use Rattle.flat_circuit.specs.declared.instance.Pin.{Pin}
use Rattle.flat_circuit.specs.declared.net.Net.{Net}
use Rattle.flat_circuit.specs.Circuit.{Circuit, wire_at, wire_in}
use Rattle.gate_eval.specs.Hold.{first_some}
use Rattle.gate_eval.proofs.Found.{first_some_beyond}
use Rattle.gate_eval.proofs.Quiet.{quiet_fold}
use Rattle.storage_eval.specs.Storage.{listening_from}
use Rattle.fixpoint_engine.specs.Waves.{Waves}
use Rattle.fault_chain.specs.declared.chain.Link.{Link}
use Rattle.fault_chain.specs.Chain.{first_back, link_back, mover_back, through, through_first}

-- ---- slots

-- the first that there is, if none is before it
pub first_from : {A : Type 0} (f : ℕ → Option A) (n i j : ℕ) (x : A) → ((k : ℕ) → i ≤ k → k < j → f k ≡ None) → i ≤ j → j < i + n → f j ≡ Some x →
    first_some f n i ≡ Some x
first_from f zero i j x none after within is = absurd (omega (arith, after, within))
first_from f (suc n) i j x none after within is = elim (cases_eq j i) [
  | inl same ↦ ap (λ o. option_or o (first_some f n (i + 1))) (ap f (sym same) ∙ is)
  | inr other ↦
      ap (λ o. option_or o (first_some f n (i + 1))) (none i (omega arith) (omega (arith, after, other)))
      ∙ first_from f n (i + 1) j x (λ k above below. none k (omega (arith, above)) below) (omega (arith, after, other)) (omega (arith, within)) is
]

steady_fold : (w : Wave Value) (p : ℕ) → 0 < length w.cells → is_steady values w.cells ≡ true → is_quiet (fold values w p) ≡ true
unfolding earlier
steady_fold w p some steady =
    quiet_fold w p (λ o least most. all_at is_quiet w.cells (back (length w.cells) p o) U steady (back_lt (length w.cells) p o some))

module _ (c : Circuit) (ws : Waves) (i p : ℕ) where
  -- the link of a slot
  quiet_none : (o : ℕ) → is_quiet (link_back c ws i p o).value ≡ true → mover_back c ws i p o ≡ None
  quiet_none o quiet = ap (λ (b : Bool). cond b None (Some (link_back c ws i p o))) quiet

  pub none_here : (o : ℕ) (link : Link) → link ≡ link_back c ws i p o → is_quiet link.value ≡ true → mover_back c ws i p o ≡ None
  none_here o link is quiet = quiet_none o (ap (λ (one : Link). is_quiet one.value) (sym is) ∙ quiet)

  pub some_here : (o : ℕ) (link : Link) → link ≡ link_back c ws i p o → is_quiet link.value ≡ false → mover_back c ws i p o ≡ Some link
  some_here o link is moves =
      ap (λ (b : Bool). cond b None (Some (link_back c ws i p o))) (ap (λ (one : Link). is_quiet one.value) (sym is) ∙ moves) ∙ ap (λ (one : Link). Some one) (sym is)

  pub steady_none : (d : Bounds) → 0 < length (ws i).cells → is_steady values (ws i).cells ≡ true → first_back c ws i p d ≡ None
  steady_none d some steady =
      first_some_beyond (mover_back c ws i p) (d.max - d.min + 1) d.min (λ o above below. quiet_none o (steady_fold (ws i) (back (period c.header) p o) some steady))

-- the wire of a net that is there
pub wire_is : (nets : List Net) (i : ℕ) (net : Net) → slice_get nets i ≡ Some net → wire_at nets i ≡ net.wire
wire_is nets i net is = ap wire_in is

-- ---- pins

module _ (c : Circuit) (ws : Waves) (p : ℕ) (d : Bounds) (kind : Kind) (ps : List Pin) (place : ℕ) (pin : Pin) (below : place < length ps) (is : pin ≡ get_or ps place pin) where
  here : drop place ps ≡ pin ∷ drop (place + 1) ps
  here =
      let next : suc place ≡ place + 1 = omega arith in
      drop-cons ps place pin below ∙ (λ k. sym is k ∷ drop (next k) ps)

  -- a pin that does not count
  pub pass_deaf : listens kind place ≡ false →
      through_first c ws p d (listening_from kind place (drop place ps)) ≡ through_first c ws p d (listening_from kind (place + 1) (drop (place + 1) ps))
  pass_deaf deaf =
      ap (λ (rest : List Pin). through_first c ws p d (listening_from kind place rest)) here
      ∙ ap (λ (b : Bool). through_first c ws p d (cond b (pin ∷ listening_from kind (place + 1) (drop (place + 1) ps)) (listening_from kind (place + 1) (drop (place + 1) ps)))) deaf

  heard : listens kind place ≡ true →
      through_first c ws p d (listening_from kind place (drop place ps))
      ≡ option_or (through c ws p d pin.target) (through_first c ws p d (listening_from kind (place + 1) (drop (place + 1) ps)))
  heard listening =
      ap (λ (rest : List Pin). through_first c ws p d (listening_from kind place rest)) here
      ∙ ap (λ (b : Bool). through_first c ws p d (cond b (pin ∷ listening_from kind (place + 1) (drop (place + 1) ps)) (listening_from kind (place + 1) (drop (place + 1) ps)))) listening

  -- a pin without a change, and one with a change
  pub pass_quiet : listens kind place ≡ true → through c ws p d pin.target ≡ None →
      through_first c ws p d (listening_from kind place (drop place ps)) ≡ through_first c ws p d (listening_from kind (place + 1) (drop (place + 1) ps))
  pass_quiet listening none =
      heard listening ∙ ap (λ (o : Option Link). option_or o (through_first c ws p d (listening_from kind (place + 1) (drop (place + 1) ps)))) none

  pub stop_here : (link : Link) → listens kind place ≡ true → through c ws p d pin.target ≡ Some link →
      through_first c ws p d (listening_from kind place (drop place ps)) ≡ Some link
  stop_here link listening some =
      heard listening ∙ ap (λ (o : Option Link). option_or o (through_first c ws p d (listening_from kind (place + 1) (drop (place + 1) ps)))) some
