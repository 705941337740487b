-- Rises and falls while they are made, one net of the order after the other.
use Rattle.std.proofs.Common.{◌≡◌, ◌≢◌, ℕ, zero, suc, ◌+◌, ◌<◌, ◌≤◌, inl, inr, Bool, true, false, not, ◌&&◌, List, length, get_or, ap, sym, subst, refl, ◌∙◌, arith}
use Rattle.std.specs.Prelude.{nat_lt}
use Rattle.std.proofs.Math.ListN.{set}
use Rattle.std.proofs.lemmas.Bool.{and_parts, cases_eq, cases_lt}
use Rattle.std.proofs.lemmas.Bool.Decides.{nat_tests}
use Rattle.std.proofs.lemmas.List.{get_or-set_same, get_or-set_other, length-set}
use Rattle.flat_circuit.specs.Circuit.{Circuit}
use Rattle.fixpoint_engine.specs.Waves.{Waves}
use Rattle.drawing_notes.specs.declared.launched.Edges.{Edges}
use Rattle.drawing_notes.specs.Arrivals.{AreEdges, TellsEdges, edges_at, made_at, no_edges}
use Rattle.drawing_notes.specs.Passing.{changes, is_passable}
use Rattle.drawing_notes.specs.Paths.{leads}
use Rattle.drawing_notes.specs.SoFar.{IsOrder}
use Rattle.drawing_notes.proofs.Arriving.{made_is, shut_net}

-- what makes the first nets of the order rise and fall is known, and nothing yet of any other net
pub record Placed (c : Circuit) (looped : ℕ → Bool) (ws : Waves) (order : List ℕ) (b : ℕ) (edges : List Edges) : Type 0 where
  pub each_net : length edges ≡ length c.nets
  pub known : (k : ℕ) → k < b → AreEdges c looped ws (get_or order k 0) (edges_at edges (get_or order k 0))
  pub none : (i : ℕ) → ((k : ℕ) → k < b → get_or order k 0 ≢ i) → edges_at edges i ≡ no_edges

pub placed_start : (c : Circuit) (looped : ℕ → Bool) (ws : Waves) (order : List ℕ) (edges : List Edges) → length edges ≡ length c.nets →
    ((i : ℕ) → edges_at edges i ≡ no_edges) → Placed c looped ws order 0 edges
placed_start c looped ws order edges each all = record { each_net = each; known = λ k below. absurd (omega (arith, below)); none = λ i other. all i }

module _ (c : Circuit) (looped : ℕ → Bool) (ws : Waves) (order : List ℕ) (is_order : IsOrder c looped order) where
  -- whether a net stands among the first of the order
  data Stands (b i : ℕ) : Type 0 where
    At : (k : ℕ) → k < b → get_or order k 0 ≡ i → Stands b i
    Nowhere : ((k : ℕ) → k < b → get_or order k 0 ≢ i) → Stands b i

  stands : (b i : ℕ) → Stands b i
  stands b i = by b
    where
      by : (n : ℕ) → Stands n i
      by zero = Nowhere (λ k below. absurd (omega (arith, below)))
      by (suc n) = elim (cases_eq (get_or order n 0) i) [
        | inl here ↦ At n (omega arith) here
        | inr other ↦ elim (by n) [
          | At k below is ↦ At k (omega (arith, below)) is
          | Nowhere none ↦ Nowhere (λ k below. elim (cases_lt k n) [
            | inl less ↦ none k less
            | inr past ↦ let same : k ≡ n = omega (arith, below, past) in subst (λ m. get_or order m 0 ≢ i) (sym same) other
          ])
        ]
      ]

  not_free : (i : ℕ) → looped i ≡ true → is_passable c looped ws i ≡ false
  not_free i is = ap (λ b. nat_lt i (length c.nets) && (not b && changes ws i)) is ∙ never (nat_lt i (length c.nets))
    where
      never : (b : Bool) → (b && false) ≡ false
      never true = refl
      never false = refl

  pub free : (i : ℕ) → is_passable c looped ws i ≡ true → looped i ≡ false
  free i is = by (looped i) (and_parts (not (looped i)) (changes ws i) (and_parts (nat_lt i (length c.nets)) _ is).1).0
    where
      by : (b : Bool) → not b ≡ true → b ≡ false
      by true e = absurd cc
      by false e = refl

  past_shut : (i : ℕ) → length c.nets ≤ i → is_passable c looped ws i ≡ false
  past_shut i past = let no : nat_lt i (length c.nets) ≡ false = grind (arith, nat_tests) in ap (λ b. b && (not (looped i) && changes ws i)) no

  -- what leads to the next net of the order is known, or on a loop
  before_known : (b : ℕ) (edges : List Edges) → b < length order → Placed c looped ws order b edges → looped (get_or order b 0) ≡ false →
      (from : ℕ) → leads c from (get_or order b 0) ≡ true → AreEdges c looped ws from (edges_at edges from)
  before_known b edges below placed unlooped from led = by (looped from) refl
    where
      by : (t : Bool) → looped from ≡ t → AreEdges c looped ws from (edges_at edges from)
      by false open_ =
          let s = is_order.sorted.placed.fed b from below (is_order.feeds from (get_or order b 0) led open_ unlooped) in
          subst (λ i. AreEdges c looped ws i (edges_at edges i)) s.is (placed.known s.place s.before)
      by true is = elim (stands b from) [
        | At k less same ↦ subst (λ i. AreEdges c looped ws i (edges_at edges i)) same (placed.known k less)
        | Nowhere none ↦
            subst (AreEdges c looped ws from) (sym (placed.none from none)) (shut_net c looped ws (edges_at edges) from (not_free from is))
      ]

  -- what makes the next net of the order rise and fall
  next_is : (b : ℕ) (edges : List Edges) → b < length order → Placed c looped ws order b edges →
      AreEdges c looped ws (get_or order b 0) (made_at c looped ws (edges_at edges) (get_or order b 0))
  next_is b edges below placed = by (is_passable c looped ws net) refl
    where
      net : ℕ
      net = get_or order b 0

      by : (t : Bool) → is_passable c looped ws net ≡ t → AreEdges c looped ws net (made_at c looped ws (edges_at edges) net)
      by true passable = made_is c looped ws (edges_at edges) net (before_known b edges below placed (free net passable))
      by false is = subst (AreEdges c looped ws net) (sym (none_at is)) (shut_net c looped ws (edges_at edges) net is)
        where
          none_at : is_passable c looped ws net ≡ false → made_at c looped ws (edges_at edges) net ≡ no_edges
          none_at e = rw e refl

  pub inside_order : (k : ℕ) → k < length order → get_or order k 0 < length c.nets
  inside_order k below = is_order.sorted.inside k 0 below

  pub placed_more : (b : ℕ) (edges more : List Edges) (made : Edges) → b < length order →
      made ≡ made_at c looped ws (edges_at edges) (get_or order b 0) →
      more ≡ set edges (get_or order b 0) made → Placed c looped ws order b edges → Placed c looped ws order (b + 1) more
  placed_more b edges more made below made_so is placed = record {
    each_net = ap length is ∙ length-set edges net made ∙ placed.each_net;
    known = λ k less. elim (cases_lt k b) [
      | inl before ↦
          let other : get_or order k 0 ≢ net = λ same. let k_is = is_order.sorted.placed.once k b (omega (arith, before, below)) below same in omega (arith, before, k_is) in
          subst (AreEdges c looped ws (get_or order k 0)) (sym (elsewhere (get_or order k 0) other)) (placed.known k before)
      | inr past ↦
          let same : k ≡ b = omega (arith, less, past) in
          subst (λ m. AreEdges c looped ws (get_or order m 0) (edges_at more (get_or order m 0))) (sym same)
          (subst (AreEdges c looped ws net) (sym (here ∙ made_so)) (next_is b edges below placed))
    ];
    none = λ i other.
        elsewhere i (λ same. other b (omega arith) (sym same)) ∙ placed.none i (λ k less. other k (omega (arith, less)));
  }
    where
      net : ℕ
      net = get_or order b 0

      inside : net < length edges
      inside = let exists = inside_order b below in let each = placed.each_net in omega (arith, exists, each)

      here : edges_at more net ≡ made
      here = ap (λ (xs : List Edges). edges_at xs net) is ∙ get_or-set_same edges net made no_edges inside

      elsewhere : (i : ℕ) → i ≢ net → edges_at more i ≡ edges_at edges i
      elsewhere i other = ap (λ (xs : List Edges). edges_at xs i) is ∙ get_or-set_other edges net i made no_edges other

  pub placed_end : (b : ℕ) (edges : List Edges) → b ≡ length order → Placed c looped ws order b edges → TellsEdges c looped ws (edges_at edges)
  placed_end b edges whole placed net = elim (cases_lt net (length c.nets)) [
    | inl exists ↦
        let s = is_order.sorted.whole net exists in
        subst (λ i. AreEdges c looped ws i (edges_at edges i)) s.is (placed.known s.place (let before = s.before in omega (arith, before, whole)))
    | inr past ↦
        let none = placed.none net (λ k less same. let inside = inside_order k (omega (arith, less, whole)) in omega (arith, inside, same, past)) in
        subst (AreEdges c looped ws net) (sym none) (shut_net c looped ws (edges_at edges) net (past_shut net past))
  ]
