-- The chain of every fault of a settled case is whole.
use Rattle.std.proofs.Common.{inl, inr, ◌≡◌, ℕ, ◌<◌, Bool, true, false, not, ◌&&◌, cond, eq-eqb, eqb, All, List, [], ◌∷◌, ◌++◌, length, refl, sym, ap, subst, ◌∙◌, arith, Option, Some, None, slice_get}
use Rattle.std.specs.Prelude.{◌==◌, IfSome, filter_map}
use Rattle.std.specs.List.{cons_option, flat_map, range_with_len}
use Rattle.std.specs.Option.{option_map}
use Rattle.std.proofs.Math.Bool.{and-false}
use Rattle.std.proofs.lemmas.Bool.{and_parts, eqb-true, not-true}
use Rattle.std.proofs.lemmas.List.{get_or-map, length-map}
use Rattle.std.proofs.lemmas.List.Concat.{flat_map-cons}
use Rattle.std.proofs.lemmas.List.Elements.{All-append, All-cons, All-nil}
use Rattle.std.proofs.lemmas.Map.Made.{IsDistinct-from_AllPairs}
use Rattle.std.proofs.lemmas.Option.{slice_get_within}
use Rattle.scald_base.specs.Clock.{back}
use Rattle.scald_base.specs.Time.{period}
use Rattle.step_values.specs.declared.value.Value.{Value}
use Rattle.step_values.specs.declared.value.Value.TheVariants.{U}
use Rattle.step_values.specs.Steps.{has, is_quiet}
use Rattle.step_values.specs.Cell.{values}
use Rattle.skew_algebra.specs.Wave.{Wave, cell_at, fold, skewed}
use Rattle.element_kinds.specs.declared.kind.Kind.{Kind}
use Rattle.element_kinds.specs.Kinds.{checks_points, checks_pulses, may_be_marked}
use Rattle.flat_circuit.specs.Limits.{high_of, low_of}
use Rattle.flat_circuit.specs.declared.instance.Instance.{Instance}
use Rattle.flat_circuit.specs.declared.net.Net.{Net}
use Rattle.flat_circuit.specs.declared.fault.Fault.{Fault}
use Rattle.flat_circuit.specs.declared.fault.Fault.TheVariants.{Assertion}
use Rattle.flat_circuit.specs.Circuit.{Circuit, IsCircuit}
use Rattle.flat_circuit.proofs.Numbered.{fits_of}
use Rattle.pin_waves.specs.Interface.{wide_wave}
use Rattle.gate_eval.specs.Hold.{disturber, hazard, is_closed, mover_beside, moves_beside, value_of_pin}
use Rattle.gate_eval.specs.Instance.{wave_of_pin}
use Rattle.gate_eval.specs.Meeting.{folds_in, period_of}
use Rattle.gate_eval.proofs.Chosen.{some_pins}
use Rattle.fixpoint_engine.specs.Waves.{Waves, marked_pin, pin_waves}
use Rattle.fixpoint_engine.specs.Pins.{read}
use Rattle.fixpoint_engine.proofs.Fits.{AreLong}
use Rattle.fixpoint_engine.proofs.OnePeriod.{length_pins}
use Rattle.fixpoint_engine.specs.Rounds.{evaluated}
use Rattle.case_analysis.proofs.Evaluated.{settled_is_evaluated}
use Rattle.point_check.specs.declared.window.Window.{Window}
use Rattle.point_check.specs.Window.{Folds, fault_at, first_mover, mover_at, places, slot_at, window_fault}
use Rattle.point_check.specs.Point.{checker_fault, edge_fault, window_of}
use Rattle.point_check.specs.Assertion.{assertion_fault, fault_in, first_excess, is_held}
use Rattle.point_check.specs.Faults.{fault_by, fault_if_held, fault_of, fault_of_net, hazard_at, instance_fault, limited_fault, mark_fault, net_fault, point_faults}
use Rattle.pulse_check.specs.Pulse.{first_narrow, least_width, may_begin, narrow_at}
use Rattle.pulse_check.specs.Faults.{fault_at as width_at, faults_by, faults_of as widths_of, instance_faults, limited_fault as limited_width, listed, width_fault, width_faults}
use Rattle.fault_chain.specs.declared.chain.Link.{Link}
use Rattle.fault_chain.specs.declared.chain.End.{End}
use Rattle.fault_chain.specs.declared.chain.End.TheVariants.{Level, Repeat, Undriven, Both}
use Rattle.fault_chain.specs.Chain.{at_net, chain_at, chain_from, chain_of, ending, first_link, link_back}
use Rattle.fault_chain.specs.Laws.{ChainsAreWhole, EndsIn, HasDelays, IsWhole, MayChange}
use Rattle.fault_chain.proofs.Going.{AreMet, GoesTo, IsGoing, goes_on}
use Rattle.fault_chain.proofs.Moving.{IsLink, each_if, few_links}
use Rattle.fault_chain.proofs.Long.{settled_is_long}
use Rattle.fault_chain.proofs.Pins.{cell_quiet}
use Rattle.fault_chain.proofs.Started.{Starts, starts_at_pin, two_pins}

-- ---- what holds of whatever is found

map_if : {A B : Type 0} (P : B → Type 0) (Q : A → Type 0) (h : A → B) (found : Option A) → IfSome found Q → ((x : A) → Q x → P (h x)) →
    IfSome (option_map h found) P
map_if P Q h None holds each = tt
map_if P Q h (Some x) holds each = each x holds

any_if : {A B : Type 0} (P : B → Type 0) (h : A → B) (found : Option A) → ((x : A) → P (h x)) → IfSome (option_map h found) P
any_if P h None each = tt
any_if P h (Some x) each = each x

where_if : {A : Type 0} (P : A → Type 0) (test : Bool) (found : Option A) → (test ≡ true → IfSome found P) → IfSome (cond test found None) P
where_if P true found each = each refl
where_if P false found each = tt

one_if : {A : Type 0} (P : A → Type 0) (test : Bool) (x : A) → (test ≡ true → P x) → IfSome (cond test (Some x) None) P
one_if P true x holds = holds refl
one_if P false x holds = tt

other_if : {A : Type 0} (P : A → Type 0) (test : Bool) (x : A) → (test ≡ false → P x) → IfSome (cond test None (Some x)) P
other_if P true x holds = tt
other_if P false x holds = holds refl

all_found : (P : Fault → Type 0) (f : ℕ → Option Fault) (xs : List ℕ) → ((x : ℕ) → IfSome (f x) P) → All P (filter_map f xs)
all_found P f [] each = All-nil P
all_found P f (x ∷ xs) each = by (f x) (each x) (all_found P f xs each)
  where
    by : (found : Option Fault) → IfSome found P → All P (filter_map f xs) → All P (cons_option found (filter_map f xs))
    by None here rest = rest
    by (Some y) here rest = All-cons P y (filter_map f xs) here rest

all_flat : (P : Fault → Type 0) (f : ℕ → List Fault) (xs : List ℕ) → ((x : ℕ) → All P (f x)) → All P (flat_map f xs)
all_flat P f [] each = All-nil P
all_flat P f (x ∷ xs) each = subst (All P) (sym (flat_map-cons f x xs)) (All-append P (f x) (flat_map f xs) (each x) (all_flat P f xs each))

-- ---- pins that may change

-- the pin that a hazard names
abbrev MovesAt : List (Wave Value) → ℕ × ℕ → Type 0
MovesAt waves found = (found.1 < length waves) × (is_quiet (fold values (wave_of_pin waves found.1) found.0) ≡ false)

beside_moves : (marked : ℕ) (waves : List (Wave Value)) (slot pin : ℕ) → pin < length waves → moves_beside marked (folds_in values waves slot) pin ≡ true →
    is_quiet (fold values (wave_of_pin waves pin) slot) ≡ false
beside_moves marked waves slot pin below moves =
    let folds : List Value = folds_in values waves slot in
    ap is_quiet (sym (get_or-map (λ (w : Wave Value). fold values w slot) waves pin (skewed [] 0) U below))
    ∙ not-true (is_quiet (value_of_pin folds pin)) (and_parts (not (pin == marked)) (not (is_quiet (value_of_pin folds pin))) moves).1

hazard_moves : (kind : Kind) (waves : List (Wave Value)) (marked : Option ℕ) → IfSome (hazard kind waves marked) (MovesAt waves)
unfolding hazard
hazard_moves kind waves None = tt
hazard_moves kind waves (Some marked) =
    each_if (MovesAt waves) (λ slot. option_map (λ pin. (slot, pin)) (disturber kind marked (folds_in values waves slot))) (period_of waves) 0 (λ slot above below.
    map_if (MovesAt waves) (λ pin. MovesAt waves (slot, pin)) (λ pin. (slot, pin)) (disturber kind marked (folds_in values waves slot))
    (by slot (is_closed kind (value_of_pin (folds_in values waves slot) marked))) (λ pin moves. moves))
  where
    by : (slot : ℕ) (closed : Bool) → IfSome (cond closed None (mover_beside marked (folds_in values waves slot))) (λ pin. MovesAt waves (slot, pin))
    by slot true = tt
    by slot false =
        let long : length (folds_in values waves slot) ≡ length waves = length-map waves (λ (w : Wave Value). fold values w slot) in
        each_if (λ pin. MovesAt waves (slot, pin)) (λ pin. cond (moves_beside marked (folds_in values waves slot) pin) (Some pin) None)
        (length (folds_in values waves slot)) 0 (λ pin above below.
        one_if (λ (p : ℕ). MovesAt waves (slot, p)) (moves_beside marked (folds_in values waves slot) pin) pin (λ moves.
        let inside : pin < length waves = omega (arith, below, long) in
        (inside, beside_moves marked waves slot pin inside moves)))

begins_moving : (level : Bool) (v : Value) → may_begin level v ≡ true → is_quiet v ≡ false
begins_moving true v begins = λ k. not (begins k) && not (has v true false)
begins_moving false v begins = (λ k. not (has v false true) && not (begins k)) ∙ and-false (not (has v false true))

-- a wave that may begin a pulse in a slot is not quiet there
fold_moves : (level : Bool) (w : Wave Value) (slot : ℕ) → may_begin level (read w.cells slot) ≡ true → is_quiet (fold values w slot) ≡ false
fold_moves level w slot begins = by (is_quiet (fold values w slot)) refl
  where
    by : (quiet : Bool) → is_quiet (fold values w slot) ≡ quiet → quiet ≡ false
    by false is = refl
    by true is =
        let clash : true ≡ false = sym (cell_quiet w slot is) ∙ begins_moving level (read w.cells slot) begins in
        absurd (cc)

abbrev begun : ℕ → ℕ → ℕ × ℕ
begun slot width = (slot, width)

-- ---- one chain

module _ (c : Circuit) (ws : Waves) (known : IsCircuit c) (some : 0 < period c.header) (delays : HasDelays c) (long : AreLong c ws)
    (settles : (i : ℕ) → ws i ≡ evaluated c ws i) where
  none_met : AreMet (length c.nets) [] (length c.nets)
  none_met = record {
    once = IsDistinct-from_AllPairs {eq = eqb} (λ a b. (eqb-true a b, eq-eqb a b)) [] (λ i j d less below. absurd (omega (arith, below)));
    exist = λ i among. absurd (cc);
    count = omega arith;
  }

  ends_in : (f : Fault) (before : List Link) (last : Link) (end : End) → MayChange last → GoesTo c [] before last end → EndsIn c f before last end
  ends_in f before last Level moves goes = absurd goes
  ends_in f before last Repeat moves (inl met) = absurd (cc)
  ends_in f before last Repeat moves (inr met) = (moves, met)
  ends_in f before last Undriven moves goes = (moves, goes)
  ends_in f before last Both moves goes = (moves, goes)

  moving_whole : (f : Fault) (link : Link) → IsLink c ws link → IsWhole c f (chain_from c ws (length c.nets) [] link)
  moving_whole f link is =
      let going : IsGoing c [] (chain_from c ws (length c.nets) [] link) = goes_on c ws known some delays long settles (length c.nets) [] link none_met is in
      record {
        before = going.before;
        last = going.last;
        links = going.links;
        moving = going.moving;
        ends = ends_in f going.before going.last (chain_from c ws (length c.nets) [] link).end going.moves going.goes;
        short = few_links c ws (length c.nets) [] link;
      }

  pub whole_from : (f : Fault) → Starts c ws (first_link c ws f) → IsWhole c f (chain_of c ws f)
  unfolding chain_of
  whole_from f starts =
      let link : Link = starts.link in
      subst (λ (o : Option Link). IsWhole c f (chain_at c ws o)) (sym starts.is)
      (subst (λ (b : Bool). IsWhole c f (cond b (ending link Level) (chain_from c ws (length c.nets) [] link))) (sym starts.goes.moves)
      (moving_whole f link starts.goes))

  -- of a net that breaks its assertion
  net_whole : (i slot value : ℕ) (net : Net) → slice_get c.nets i ≡ Some net → IsWhole c (Assertion i slot value) (chain_of c ws (Assertion i slot value))
  unfolding chain_of
  net_whole i slot value net at =
      subst (λ (o : Option Net). IsWhole c (Assertion i slot value) (chain_at c ws (at_net c ws i slot o))) (sym at)
      (by (is_quiet (fold values (ws i) (back (period c.header) slot 0))) refl)
    where
      by : (quiet : Bool) → is_quiet (fold values (ws i) (back (period c.header) slot 0)) ≡ quiet →
          IsWhole c (Assertion i slot value) (cond quiet (ending (link_back c ws i slot 0) Level) (chain_from c ws (length c.nets) [] (link_back c ws i slot 0)))
      by true is = record {
        before = [];
        last = link_back c ws i slot 0;
        links = refl;
        moving = All-nil MayChange;
        ends = (refl, is, refl);
        short = omega arith;
      }
      by false is =
          moving_whole (Assertion i slot value) (link_back c ws i slot 0)
          (record { exists = slice_get_within c.nets i net at; value = refl; moves = is })

  -- ---- faults at pins

  abbrev Whole : Fault → Type 0
  Whole f = IsWhole c f (chain_of c ws f)

  module _ (k : ℕ) (j : Instance) (at : slice_get c.instances k ≡ Some j) where
    window_whole : checks_points j.kind ≡ true → (t : ℕ) (w : Option Window) →
        IfSome (window_fault (period c.header) k (fold values (wave_of_pin (pin_waves c ws j) 1)) t w) Whole
    window_whole checks t None = tt
    window_whole checks t (Some w) =
        let input : Folds = fold values (wave_of_pin (pin_waves c ws j) 1) in
        map_if Whole (λ place. is_quiet (input (slot_at (period c.header) w t place)) ≡ false) (fault_at (period c.header) k input w t)
        (first_mover (period c.header) input w t)
        (each_if (λ place. is_quiet (input (slot_at (period c.header) w t place)) ≡ false) (mover_at (period c.header) input w t) (places w) 0
        (λ place above below.
        other_if (λ (p : ℕ). is_quiet (input (slot_at (period c.header) w t p)) ≡ false) (is_quiet (input (slot_at (period c.header) w t place))) place (λ moves. moves)))
        (λ place moves.
        whole_from (fault_at (period c.header) k input w t place)
        (starts_at_pin c ws some delays long k 1 (slot_at (period c.header) w t place) j at (fits_of c k j known at)
        (two_pins j.kind (length j.pins) checks (fits_of c k j known at).pins.least) moves))

    points_whole : checks_points j.kind ≡ true → IfSome (limited_fault c ws k j j.limits) Whole
    unfolding checker_fault
    points_whole checks =
        let clock : Folds = fold values (wave_of_pin (pin_waves c ws j) 0) in
        let input : Folds = fold values (wave_of_pin (pin_waves c ws j) 1) in
        each_if Whole (edge_fault j.kind (period c.header) k clock input j.limits) (period c.header) 0 (λ t above below.
        where_if Whole (has (clock t) false true) (window_fault (period c.header) k input t (window_of j.kind (period c.header) clock j.limits t))
        (λ rises. window_whole checks t (window_of j.kind (period c.header) clock j.limits t)))

    hazard_whole : IfSome (mark_fault c ws k j) Whole
    hazard_whole =
        let pins : length (pin_waves c ws j) ≡ length j.pins = length_pins c ws j in
        map_if Whole (MovesAt (pin_waves c ws j)) (hazard_at k) (hazard j.kind (pin_waves c ws j) (marked_pin j))
        (hazard_moves j.kind (pin_waves c ws j) (marked_pin j)) (λ found moves.
        let inside : found.1 < length (pin_waves c ws j) = moves.0 in
        whole_from (hazard_at k found)
        (starts_at_pin c ws some delays long k found.1 found.0 j at (fits_of c k j known at) (omega (arith, pins, inside)) moves.1))

    width_whole : (level : Bool) (limit : ℕ) → IfSome (limited_width c ws k j level limit) Whole
    unfolding width_fault
    width_whole level limit =
        let w : Wave Value = wave_of_pin (pin_waves c ws j) 0 in
        map_if Whole (λ (found : ℕ × ℕ). is_quiet (fold values w found.0) ≡ false) (width_at k level) (first_narrow (period c.header) level (read w.cells) limit)
        (each_if (λ (found : ℕ × ℕ). is_quiet (fold values w found.0) ≡ false) (narrow_at level (read w.cells) limit) (period c.header) 0 (λ slot above below.
        where_if (λ (found : ℕ × ℕ). is_quiet (fold values w found.0) ≡ false) (may_begin level (read w.cells slot))
        (option_map (begun slot) (least_width level (read w.cells) limit slot)) (λ begins.
        any_if (λ (found : ℕ × ℕ). is_quiet (fold values w found.0) ≡ false) (begun slot) (least_width level (read w.cells) limit slot) (λ width.
        fold_moves level w slot begins))))
        (λ found moves.
        whole_from (width_at k level found)
        (starts_at_pin c ws some delays long k 0 found.0 j at (fits_of c k j known at)
        (some_pins j.kind (length j.pins) (fits_of c k j known at).pins.least) moves))

  -- ---- all faults

  instance_whole : (k : ℕ) → IfSome (instance_fault c ws k) Whole
  unfolding instance_fault
  instance_whole k = by (slice_get c.instances k) refl
    where
      by_kind : (j : Instance) → slice_get c.instances k ≡ Some j → (points markable : Bool) → checks_points j.kind ≡ points →
          IfSome (fault_by points markable c ws k j) Whole
      by_kind j at true markable checks = points_whole k j at checks
      by_kind j at false true checks = hazard_whole k j at
      by_kind j at false false checks = tt

      by : (o : Option Instance) → slice_get c.instances k ≡ o → IfSome (fault_of c ws k o) Whole
      by None at = tt
      by (Some j) at = by_kind j at (checks_points j.kind) (may_be_marked j.kind) refl

  held_whole : (i : ℕ) → IfSome (net_fault c ws i) Whole
  unfolding net_fault assertion_fault
  held_whole i = by (slice_get c.nets i) refl
    where
      by_held : (net : Net) → slice_get c.nets i ≡ Some net → (held : Bool) → IfSome (fault_if_held held c ws i net) Whole
      by_held net at false = tt
      by_held net at true =
          any_if Whole (fault_in i (fold values (ws i))) (first_excess (period c.header) (fold values (ws i)) (cell_at values (wide_wave c.header net.spec)))
          (λ slot. net_whole i slot _ net at)

      by : (o : Option Net) → slice_get c.nets i ≡ o → IfSome (fault_of_net c ws i o) Whole
      by None at = tt
      by (Some net) at = by_held net at (is_held net)

  widths_whole : (k : ℕ) → All Whole (instance_faults c ws k)
  unfolding instance_faults
  widths_whole k = by (slice_get c.instances k) refl
    where
      one : (found : Option Fault) → IfSome found Whole → All Whole (listed found)
      one None holds = All-nil Whole
      one (Some f) holds = All-cons Whole f [] holds (All-nil Whole)

      by_kind : (j : Instance) → slice_get c.instances k ≡ Some j → (pulses : Bool) → All Whole (faults_by pulses c ws k j)
      by_kind j at true =
          All-append Whole (listed (limited_width c ws k j true (high_of j.limits))) (listed (limited_width c ws k j false (low_of j.limits)))
          (one (limited_width c ws k j true (high_of j.limits)) (width_whole k j at true (high_of j.limits)))
          (one (limited_width c ws k j false (low_of j.limits)) (width_whole k j at false (low_of j.limits)))
      by_kind j at false = All-nil Whole

      by : (o : Option Instance) → slice_get c.instances k ≡ o → All Whole (widths_of c ws k o)
      by None at = All-nil Whole
      by (Some j) at = by_kind j at (checks_pulses j.kind)

  all_whole : All Whole (point_faults c ws ++ width_faults c ws)
  all_whole =
      All-append Whole (point_faults c ws) (width_faults c ws)
      (All-append Whole (filter_map (instance_fault c ws) (range_with_len 0 (length c.instances))) (filter_map (net_fault c ws) c.order)
      (all_found Whole (instance_fault c ws) (range_with_len 0 (length c.instances)) instance_whole)
      (all_found Whole (net_fault c ws) c.order held_whole))
      (all_flat Whole (instance_faults c ws) (range_with_len 0 (length c.instances)) widths_whole)

pub chains_are_whole : ChainsAreWhole
chains_are_whole c limit base before case known header delays is_base are_settled =
    let least = header.shortest in
    let some : 0 < period c.header = omega (arith, least) in
    all_whole c case.waves known some delays
    (settled_is_long c limit base case.rounds case.listed.values are_settled.cone case.waves some known are_settled.is)
    (settled_is_evaluated c limit base case.rounds before case.listed.values are_settled.cone case.waves is_base are_settled.is_cone are_settled.is)
