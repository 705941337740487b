-- Instance and checker bits, by numbers and by names, and the room that is left for them.
use Rattle.std.proofs.Common.{◌≡◌, ℕ, zero, suc, ◌+◌, ◌<◌, ◌≤◌, Bool, true, false, not, ◌&&◌, ◌||◌, cond, List, [], ◌∷◌, ◌++◌, length, map, drop, zero-add, refl, ap, sym, ◌∙◌, subst, arith}
use Rattle.std.specs.Prelude.{nat_le, nat_lt, slice_index_or}
use Rattle.std.specs.List.{fold, count_by, sum_by, flat_map, range_with_len}
use Rattle.std.proofs.lemmas.Bool.Decides.{nat_tests}
use Rattle.std.proofs.lemmas.List.{map_push, append-nil, length-map, map-append, drop_more, drop_all}
use Rattle.std.proofs.lemmas.List.FromFn.{length-range_with_len, get_or-range_with_len}
use Rattle.std.proofs.lemmas.List.Sums.{sum_by_push}
use Rattle.scald_base.specs.declared.refusal.Refusal.{Refusal}
use Rattle.scald_base.specs.declared.refusal.Stop.{Stop}
use Rattle.scald_base.specs.declared.refusal.Stop.TheVariants.{Refused, NoMemory}
use Rattle.vector_names.specs.declared.bits.BitRef.{BitRef}
use Rattle.element_kinds.specs.declared.kind.Kind.{Kind}
use Rattle.element_kinds.specs.declared.kind.Kind.TheVariants.{Chg}
use Rattle.flat_circuit.specs.declared.instance.Instance.{Instance}
use Rattle.element_kinds.specs.Kinds.{has_output}
use Rattle.flat_circuit.specs.Name.{Name}
use Rattle.flat_circuit.specs.Instances.{InstanceFits, AreFew, outputs, checkers, all_pins, most_bits, most_pins}
use Rattle.flat_circuit.specs.Builder.{Built, IsBuilt, GivesInstance, IsInstanceRefusal, is_one_too_many}
use Rattle.drawing_tree.specs.declared.statement.UseStmt.{UseStmt}
use Rattle.drawing_tree.specs.Tree.{use_of}
use Rattle.macro_expander.specs.declared.expansion.Expansion.{Expansion}
use Rattle.macro_expander.specs.declared.connection.Joined as numbered_joined
use Rattle.macro_expander.specs.declared.primitive.Plan.{Plan}
use Rattle.macro_expander.specs.Named.{NamedInstance, State}
use Rattle.macro_expander.specs.Outcome.{Outcome, Fails}
use Rattle.macro_expander.specs.Primitives.{is_gate, is_checker, pin_count, are_few, adding, bit_at, no_bit, pin_of as named_pin, pins_of, output_at, target_of, inverted_of, instance_at, all_added}
use Rattle.macro_expander.specs.Numbered.{bit_of, pin_of, out_of, instance_of, joined_of, no_ref, pin_ref, all_refs, column_ref, pin_refs, output_ref, target_ref, inverted_ref, instance_ref, state_of, names_in, nets_in, Failed, GivesDone, SameNets, WentOn}
use Rattle.macro_expander.specs.Terms.{Joined}
use Rattle.macro_expander.proofs.Nets.{grows_refl}
use Rattle.macro_expander.proofs.Gathered.{went_more, went_failed, went_all}
use Rattle.macro_expander.proofs.Lists.{count_by_map, sum_by_map}

-- ---- room

few_by : (b : Bool) (o c p l : ℕ) → o ≤ most_bits → c ≤ most_bits →
    (nat_le (o + cond b 1 0) most_bits && (nat_le (c + cond (not b) 1 0) most_bits && nat_le (p + l) most_pins)) ≡ not (cond b (nat_le most_bits o) (nat_le most_bits c) || nat_lt most_pins (p + l))
few_by true o c p l h k = grind (arith, nat_tests)
few_by false o c p l h k = grind (arith, nat_tests)

same_pins : (names : List Name) (a : ℕ) (js : List Instance) → fold (λ n (x : Instance). n + length (map (pin_of names) x.pins)) a js ≡ fold (λ n (x : Instance). n + length x.pins) a js
same_pins names a [] = refl
same_pins names a (j ∷ js) = rw (length-map j.pins (pin_of names)) (same_pins names (a + length j.pins) js)

room : (names : List Name) (js : List Instance) (j : Instance) → AreFew js → are_few (map (instance_of names) js ++ instance_of names j ∷ []) ≡ not (is_one_too_many js j)
room names js j few =
    let gates : count_by is_gate (map (instance_of names) js ++ instance_of names j ∷ []) ≡ outputs js + cond (has_output j.kind) 1 0 =
    sum_by_push (λ (x : NamedInstance). cond (is_gate x) 1 0) (map (instance_of names) js) (instance_of names j)
    ∙ ap (λ n. n + cond (has_output j.kind) 1 0) (count_by_map is_gate (instance_of names) js) in
    let checks : count_by is_checker (map (instance_of names) js ++ instance_of names j ∷ []) ≡ checkers js + cond (not (has_output j.kind)) 1 0 =
    sum_by_push (λ (x : NamedInstance). cond (is_checker x) 1 0) (map (instance_of names) js) (instance_of names j)
    ∙ ap (λ n. n + cond (not (has_output j.kind)) 1 0) (count_by_map is_checker (instance_of names) js) in
    let counted : sum_by (λ (x : Instance). length (map (pin_of names) x.pins)) js ≡ all_pins js = same_pins names 0 js in
    let pins : sum_by pin_count (map (instance_of names) js ++ instance_of names j ∷ []) ≡ all_pins js + length j.pins =
    sum_by_push pin_count (map (instance_of names) js) (instance_of names j)
    ∙ (ap (λ n. n + length (map (pin_of names) j.pins))
    (sum_by_map pin_count (instance_of names) js ∙ counted) ∙ ap (λ n. all_pins js + n) (length-map j.pins (pin_of names))) in
    rw (gates, checks, pins) (few_by (has_output j.kind) (outputs js) (checkers js) (all_pins js) (length j.pins) few.of_outputs few.of_checkers)

-- ---- one bit more

module _ (e : Expansion) (j : Instance) (built : IsBuilt e.builder) where
  abbrev after_bit : Built → Expansion
  after_bit b = record { statements = e.statements; builder = b }

  pub bit_added : (b : Built) (k : ℕ) → GivesInstance e.builder b j k → GivesDone e (after_bit b) (adding (instance_of (names_in e) j) (state_of e))
  bit_added b k g =
      let fits : are_few (map (instance_of (names_in e)) e.builder.instances ++ instance_of (names_in e) j ∷ []) ≡ true = room (names_in e) e.builder.instances j built.few ∙ ap not g.is_room in
      let later : Built = record e.builder { instances = e.builder.instances ++ j ∷ [] } in
      subst (λ (x : Built). GivesDone e (after_bit x) (adding (instance_of (names_in e) j) (state_of e))) (sym g.after)
      (record {
        is = rw (fits, map_push (instance_of (names_in e)) e.builder.instances j) refl;
        grows = record { more = []; names = sym (append-nil (names_in e)); header = refl; statements = omega arith };
      })

  pub bit_refused : (stop : Stop) → IsInstanceRefusal e.builder j stop → Failed stop (adding (instance_of (names_in e) j) (state_of e))
  bit_refused NoMemory h = record { agrees = λ r is. absurd (cc) }
  bit_refused (Refused at) h = record {
    agrees = λ r is.
        let same : at ≡ r = cc in
        let full : are_few (map (instance_of (names_in e)) e.builder.instances ++ instance_of (names_in e) j ∷ []) ≡ false = room (names_in e) e.builder.instances j built.few ∙ ap not h.1 in
        subst (λ (x : Refusal). adding (instance_of (names_in e) j) (state_of e) ≡ Fails x.kind x.place) (sym h.0 ∙ same) (rw full refl);
  }

-- ---- an instance by names

module _ (names : List Name) where
  index_map : (bits : List BitRef) (k : ℕ) → slice_index_or (map (bit_of names) bits) k no_bit ≡ bit_of names (slice_index_or bits k no_ref)
  index_map [] k = refl
  index_map (b ∷ bits) zero = refl
  index_map (b ∷ bits) (suc k) = index_map bits k

  bit_map : (bits : List BitRef) (k : ℕ) → bit_at no_bit (map (bit_of names) bits) k ≡ bit_of names (bit_at no_ref bits k)
  bit_map [] k = refl
  bit_map (b ∷ []) k = refl
  bit_map (b ∷ c ∷ bits) k = index_map (b ∷ c ∷ bits) k

  column_map : (ins : List numbered_joined.Joined) (k : ℕ) → map (pin_of names) (map (column_ref k) ins) ≡ map (λ c. named_pin c.hold (bit_at no_bit c.bits k)) (map (joined_of names) ins)
  column_map [] k = refl
  column_map (c ∷ ins) k = rw (bit_map c.bits k, column_map ins k) refl

  refs_map : (hold : Bool) (bits : List BitRef) → map (pin_of names) (map (pin_ref hold) bits) ≡ map (named_pin hold) (map (bit_of names) bits)
  refs_map hold [] = refl
  refs_map hold (b ∷ bits) = ap (λ rest. pin_of names (pin_ref hold b) ∷ rest) (refs_map hold bits)

  flat_refs_map : (ins : List numbered_joined.Joined) → map (pin_of names) (flat_map all_refs ins) ≡ flat_map (λ c. map (named_pin c.hold) c.bits) (map (joined_of names) ins)
  flat_refs_map [] = refl
  flat_refs_map (c ∷ ins) = map-append (pin_of names) (all_refs c) (flat_map all_refs ins) ∙ rw (refs_map c.hold c.bits, flat_refs_map ins) refl

  pins_map : (kind : Kind) (ins : List numbered_joined.Joined) (k : ℕ) → map (pin_of names) (pin_refs kind ins k) ≡ pins_of kind (map (joined_of names) ins) k
  pins_map Chg ins k = flat_refs_map ins
  pins_map kind ins k = column_map ins k

  out_map : (outs : List numbered_joined.Joined) (k : ℕ) → out_of names (target_ref (output_ref outs k)) ≡ target_of (output_at (map (joined_of names) outs) k)
  out_map [] k = refl
  out_map (c ∷ outs) k = rw (bit_map c.bits k) refl

  inverted_map : (outs : List numbered_joined.Joined) (k : ℕ) → inverted_ref (output_ref outs k) ≡ inverted_of (output_at (map (joined_of names) outs) k)
  inverted_map [] k = refl
  inverted_map (c ∷ outs) k = rw (bit_map c.bits k) refl

  pub instance_named : (path : List ℕ) (u : UseStmt) (kind : Kind) (plan : Plan) (ins outs : List numbered_joined.Joined) (k : ℕ) →
      instance_of names (instance_ref path u kind plan ins outs k) ≡ instance_at path (use_of u) kind plan (map (joined_of names) ins) (map (joined_of names) outs) k
  instance_named path u kind plan ins outs k = rw (pins_map kind ins k, out_map outs k, inverted_map outs k) refl

-- ---- the bits of a use

range_next : (n k : ℕ) → k < n → drop k (range_with_len 0 n) ≡ k ∷ drop (k + 1) (range_with_len 0 n)
range_next n k h = drop_more (range_with_len 0 n) k 0 (rw (length-range_with_len 0 n) h) ∙ ap (λ i. i ∷ drop (k + 1) (range_with_len 0 n)) (get_or-range_with_len 0 n k 0 h ∙ zero-add k)

module _ (start : Expansion) (path : List ℕ) (u : UseStmt) (kind : Kind) (plan : Plan) (ins outs : List numbered_joined.Joined) (n : ℕ) where
  abbrev named_ins : List Joined
  named_ins = map (joined_of (names_in start)) ins

  abbrev named_outs : List Joined
  named_outs = map (joined_of (names_in start)) outs

  abbrev bit_step : ℕ → State → Outcome (Unit {0})
  bit_step k = adding (instance_at path (use_of u) kind plan named_ins named_outs k)

  abbrev all_bits : Outcome (Unit {0})
  all_bits = all_added path (use_of u) kind plan n named_ins named_outs (state_of start)

  pub bits_none : WentOn bit_step start all_bits (range_with_len 0 n) start
  unfolding all_added
  bits_none = record { went = record { agrees = refl; grows = grows_refl start }; same = record { names = refl; header = refl } }

  module _ (k : ℕ) (e : Expansion) (w : WentOn bit_step start all_bits (drop k (range_with_len 0 n)) e) where
    as_named : instance_of (names_in e) (instance_ref path u kind plan ins outs k) ≡ instance_at path (use_of u) kind plan named_ins named_outs k
    as_named = rw w.same.names (instance_named (names_in start) path u kind plan ins outs k)

    pub bits_more : (f : Expansion) → k < n → GivesDone e f (adding (instance_of (names_in e) (instance_ref path u kind plan ins outs k)) (state_of e)) → SameNets e f →
        WentOn bit_step start all_bits (drop (k + 1) (range_with_len 0 n)) f
    bits_more f h g same = record {
      went = went_more bit_step start all_bits (drop k (range_with_len 0 n)) (drop (k + 1) (range_with_len 0 n))
          k e (range_next n k h) f (subst (λ (j : NamedInstance). GivesDone e f (adding j (state_of e))) as_named g) w.went;
      same = record { names = same.names ∙ w.same.names; header = same.header ∙ w.same.header };
    }

    pub bits_failed : (stop : Stop) → k < n → Failed stop (adding (instance_of (names_in e) (instance_ref path u kind plan ins outs k)) (state_of e)) → Failed stop all_bits
    bits_failed stop h g = went_failed bit_step start all_bits (drop k (range_with_len 0 n)) (drop (k + 1) (range_with_len 0 n))
        k e (range_next n k h) stop (subst (λ (j : NamedInstance). Failed stop (adding j (state_of e))) as_named g) w.went

    pub bits_all : n ≤ k → GivesDone start e all_bits
    bits_all h = went_all bit_step start all_bits (drop k (range_with_len 0 n)) e (drop_all k (range_with_len 0 n) (rw (length-range_with_len 0 n) h)) w.went

    pub bit_fits : InstanceFits start.builder.header (nets_in start) (instance_ref path u kind plan ins outs k) → InstanceFits e.builder.header (nets_in e) (instance_ref path u kind plan ins outs k)
    bit_fits h = rw (w.same.header, w.same.names) h
