-- The steps of the search for an order.
use Rattle.std.proofs.Common.{◌≡◌, ◌≢◌, ℕ, zero, suc, ◌+◌, ◌-◌, ◌<◌, ◌≤◌, List, [], ◌∷◌, ◌++◌, length, get_or, set, refl, ap, sym, subst, ◌∙◌, arith, inl, inr, below_more}
use Rattle.std.specs.Prelude.{◌⊎◌}
use Rattle.std.proofs.lemmas.List.{get_or-set_same, get_or-set_other, length-set, length-append, get_or_append_left, get_or_push}
use Rattle.std.proofs.lemmas.List.Elements.{All-from_get_or}
use Rattle.std.proofs.lemmas.Bool.{cases_eq}
use Rattle.flat_circuit.specs.declared.node.Node.{Node}
use Rattle.flat_circuit.specs.declared.order_search.Frame.{Frame}
use Rattle.flat_circuit.specs.declared.order_search.Mark.{Mark}
use Rattle.flat_circuit.specs.declared.order_search.Mark.TheVariants.{Fresh, Open, Clear}
use Rattle.flat_circuit.specs.Loop.{By_one, And_then}
use Rattle.flat_circuit.specs.Node.{feeders_of, Feeds, Leads, AreLoopless, AreInRange, IsFeeder}
use Rattle.flat_circuit.specs.Sorted.{StandsBefore, IsPlaced, IsSorted, mark_at, AreMarks, HasNoOpen, StaysMarked, newest_first, On, Waits, Chain, Searching, Found, fresh_cost, fresh_left, path_left}

pub joined : {feeders : ℕ → List ℕ} {i m j : ℕ} → Leads feeders i m → Leads feeders m j → Leads feeders i j
joined (By_one f) r = And_then f r
joined (And_then f q) r = And_then f (joined q r)

-- ---- marks after a write
pub data Written (marks : List Mark) (k : ℕ) (m : Mark) (i : ℕ) : Type 0 where
  Here : i ≡ k → mark_at (set marks k m) i ≡ m → Written marks k m i
  Elsewhere : i ≢ k → mark_at (set marks k m) i ≡ mark_at marks i → Written marks k m i

written : (marks : List Mark) (k : ℕ) (m : Mark) (i : ℕ) → k < length marks → Written marks k m i
written marks k m i h =
    elim (cases_eq i k) as (λ _. Written marks k m i) [
      | inl e ↦ Here e (subst (λ x. mark_at (set marks k m) x ≡ m) (sym e) (get_or-set_same marks k m Fresh h))
      | inr n ↦ Elsewhere n (get_or-set_other marks k i m Fresh n)
    ]

stay_set : (start marks : List Mark) (k : ℕ) (m : Mark) → m ≢ Fresh → k < length marks → StaysMarked start marks → StaysMarked start (set marks k m)
stay_set start marks k m n h s i f =
    elim (written marks k m i h) as (λ _. mark_at (set marks k m) i ≢ Fresh)
    [ Here e w ↦ (λ x. n (sym w ∙ x)) | Elsewhere o w ↦ (λ x. s i f (sym w ∙ x)) ]

-- a clear mark stays so if what is written is clear, or the place was not clear
clear_stays : (marks : List Mark) (k : ℕ) (m : Mark) (i : ℕ) → k < length marks → (m ≡ Clear) ⊎ (mark_at marks k ≢ Clear) → mark_at marks i ≡ Clear → mark_at (set marks k m) i ≡ Clear
clear_stays marks k m i h o c =
    elim (written marks k m i h) as (λ _. mark_at (set marks k m) i ≡ Clear) [
      | Here e w ↦ elim o as (λ _. mark_at (set marks k m) i ≡ Clear) [ inl z ↦ w ∙ z | inr z ↦ absurd (z (subst (λ x. mark_at marks x ≡ Clear) e c)) ]
      | Elsewhere n w ↦ w ∙ c
    ]

-- an open mark stays so if something else is written
open_stays : (marks : List Mark) (k : ℕ) (m : Mark) (i : ℕ) → i ≢ k → mark_at marks i ≡ Open → mark_at (set marks k m) i ≡ Open
open_stays marks k m i n c = get_or-set_other marks k i m Fresh n ∙ c

waits_stays : (nodes : List Node) (marks : List Mark) (k : ℕ) (m : Mark) (f : Frame) (child : ℕ) → k < length marks →
    (m ≡ Clear) ⊎ (mark_at marks k ≢ Clear) → f.node ≢ k → Waits nodes marks f child → Waits nodes (set marks k m) f child
waits_stays nodes marks k m f child h o n w = record {
  node_in = w.node_in;
  open_is = open_stays marks k m f.node n w.open_is;
  some = w.some;
  at_in = w.at_in;
  is = w.is;
  passed = λ t l. clear_stays marks k m (get_or (feeders_of nodes f.node) t 0) h o (w.passed t l);
}

chain_stays : (nodes : List Node) (marks : List Mark) (k : ℕ) (m : Mark) (fs : List Frame) (child : ℕ) → k < length marks →
    (m ≡ Clear) ⊎ (mark_at marks k ≢ Clear) → ((i : ℕ) → On i fs → i ≢ k) → Chain nodes marks fs child → Chain nodes (set marks k m) fs child
chain_stays nodes marks k m [] child h o n c = tt
chain_stays nodes marks k m (f ∷ fs) child h o n c = (waits_stays nodes marks k m f child h o (n f.node (inl refl)) c.0, chain_stays nodes marks k m fs f.node h o (λ i x. n i (inr x)) c.1)

-- ---- the newest node reaches each node of the path
waits_feeds : (nodes : List Node) (marks : List Mark) (f : Frame) (child : ℕ) → Waits nodes marks f child → Feeds (feeders_of nodes) child f.node
waits_feeds nodes marks f child w = record { at = f.at - 1; below = omega (arith, w.some, w.at_in); is = w.is }

path_reached : (nodes : List Node) (marks : List Mark) (fs : List Frame) (child i : ℕ) → Chain nodes marks fs child → On i fs → Leads (feeders_of nodes) child i
path_reached nodes marks [] child i c o = absurd o
path_reached nodes marks (f ∷ fs) child i c o =
    elim o as (λ _. Leads (feeders_of nodes) child i) [
      | inl e ↦ subst (Leads (feeders_of nodes) child) (sym e) (By_one (waits_feeds nodes marks f child c.0))
      | inr p ↦ And_then (waits_feeds nodes marks f child c.0) (path_reached nodes marks fs f.node i c.1 p)
    ]

path_open : (nodes : List Node) (marks : List Mark) (fs : List Frame) (child i : ℕ) → Chain nodes marks fs child → On i fs → mark_at marks i ≡ Open
path_open nodes marks [] child i c o = absurd o
path_open nodes marks (f ∷ fs) child i c o =
    elim o as (λ _. mark_at marks i ≡ Open) [
      | inl e ↦ subst (λ x. mark_at marks x ≡ Open) (sym e) c.0.open_is
      | inr p ↦ path_open nodes marks fs f.node i c.1 p
    ]

-- no node stands on the path twice
not_on_path : (nodes : List Node) (marks : List Mark) (fs : List Frame) (child : ℕ) → AreLoopless (feeders_of nodes) → Chain nodes marks fs child → (i : ℕ) → On i fs → i ≢ child
not_on_path nodes marks fs child l c i o e = l child (subst (Leads (feeders_of nodes) child) e (path_reached nodes marks fs child i c o))

-- ---- one more in the order

pub before_more : (order : List ℕ) (x i b : ℕ) → b ≤ length order → StandsBefore order i b → StandsBefore (order ++ x ∷ []) i b
before_more order x i b l s =
    let a = s.before in
    record { place = s.place; before = s.before; is = get_or_append_left order (x ∷ []) 0 s.place (omega arith) ∙ s.is }

data AtPlace (order : List ℕ) (x b : ℕ) : Type 0 where
  Was : b < length order → get_or (order ++ x ∷ []) b 0 ≡ get_or order b 0 → AtPlace order x b
  Is_last : b ≡ length order → get_or (order ++ x ∷ []) b 0 ≡ x → AtPlace order x b

at_place : (order : List ℕ) (x b : ℕ) → b < length (order ++ x ∷ []) → AtPlace order x b
at_place order x b h =
    let n = length-append order (x ∷ []) in
    elim (cases_eq b (length order)) as (λ _. AtPlace order x b) [
      | inl e ↦ Is_last e (get_or_push order x 0 b (sym e))
      | inr n2 ↦ let l : b < length order = omega (arith, n, h, n2) in Was l (get_or_append_left order (x ∷ []) 0 b l)
    ]

pub length_more : (order : List ℕ) (x : ℕ) → length (order ++ x ∷ []) ≡ length order + 1
length_more order x = length-append order (x ∷ [])

pub placed_more : (feeders : ℕ → List ℕ) (order : List ℕ) (x : ℕ) → ((b : ℕ) → b < length order → get_or order b 0 ≢ x) →
    ((i : ℕ) → Feeds feeders i x → StandsBefore order i (length order)) → IsPlaced feeders order → IsPlaced feeders (order ++ x ∷ [])
placed_more feeders order x new fed p = record {
  once = λ a b la lb e. elim (at_place order x a la) as (λ _. a ≡ b) [
    | Was ga ha ↦ elim (at_place order x b lb) as (λ _. a ≡ b) [ Was gb hb ↦ p.once a b ga gb (sym ha ∙ e ∙ hb) | Is_last gb hb ↦ absurd (new a ga (sym ha ∙ e ∙ hb)) ]
    | Is_last ga ha ↦ elim (at_place order x b lb) as (λ _. a ≡ b) [ Was gb hb ↦ absurd (new b gb (sym hb ∙ sym e ∙ ha)) | Is_last gb hb ↦ ga ∙ sym gb ]
  ];
  fed = λ b i lb f. elim (at_place order x b lb) as (λ _. StandsBefore (order ++ x ∷ []) i b) [
    | Was gb hb ↦ before_more order x i b (omega arith) (p.fed b i gb (subst (Feeds feeders i) hb f))
    | Is_last gb hb ↦ subst (λ n. StandsBefore (order ++ x ∷ []) i n) (sym gb) (before_more order x i (length order) (omega arith) (fed i (subst (Feeds feeders i) hb f)))
  ];
}

-- ---- what marks say, after a write

marks_open : (nodes : List Node) (marks : List Mark) (order : List ℕ) (k : ℕ) → k < length marks → mark_at marks k ≡ Fresh → AreMarks nodes marks order → AreMarks nodes (set marks k Open) order
marks_open nodes marks order k h fresh a = record {
  length_marks = length-set marks k Open ∙ a.length_marks;
  placed = a.placed;
  clear = λ b l. clear_stays marks k Open (get_or order b 0) h (inr (λ x. cc)) (a.clear b l);
  has = λ i c. elim (written marks k Open i h) as (λ _. StandsBefore order i (length order)) [ Here e w ↦ absurd (cc) | Elsewhere n w ↦ a.has i (sym w ∙ c) ];
}

marks_clear : (nodes : List Node) (marks : List Mark) (order : List ℕ) (k : ℕ) → k < length marks → mark_at marks k ≡ Open → ((i : ℕ) →
    Feeds (feeders_of nodes) i k → mark_at marks i ≡ Clear) → AreMarks nodes marks order → AreMarks nodes (set marks k Clear) (order ++ k ∷ [])
marks_clear nodes marks order k h o fed a =
    let n = length_more order k in
    record {
      length_marks = length-set marks k Clear ∙ a.length_marks;
      placed = placed_more (feeders_of nodes) order k (λ b l e. let c : mark_at marks k ≡ Clear = subst (λ x. mark_at marks x ≡ Clear) e (a.clear b l) in cc) (λ i f. a.has i (fed i f)) a.placed;
      clear = λ b l. elim (at_place order k b l) as (λ _. mark_at (set marks k Clear) (get_or (order ++ k ∷ []) b 0) ≡ Clear) [
        | Was g e ↦ subst (λ x. mark_at (set marks k Clear) x ≡ Clear) (sym e) (clear_stays marks k Clear (get_or order b 0) h (inl refl) (a.clear b g))
        | Is_last g e ↦ subst (λ x. mark_at (set marks k Clear) x ≡ Clear) (sym e) (get_or-set_same marks k Clear Fresh h)
      ];
      has = λ i c. elim (written marks k Clear i h) as (λ _. StandsBefore (order ++ k ∷ []) i (length (order ++ k ∷ []))) [
        | Here e w ↦ record { place = length order; before = omega (arith, n); is = get_or_push order k 0 (length order) refl ∙ sym e }
        | Elsewhere d w ↦ let s = before_more order k i (length order) (omega arith) (a.has i (sym w ∙ c)) in let l = s.before in record { place = s.place; before = omega (arith, n, l); is = s.is }
      ];
    }

-- ---- the steps
step_push : (nodes : List Node) (start marks : List Mark) (order : List ℕ) (fs : List Frame) (node at pin : ℕ) →
    AreInRange nodes → at < length (feeders_of nodes node) → pin ≡ get_or (feeders_of nodes node) at 0 → mark_at marks pin ≡ Fresh →
    Searching nodes start marks order fs node at → Searching nodes start (set marks pin Open) order (record { node = node; at = at + 1 } ∷ fs) pin 0
step_push nodes start marks order fs node at pin g h e m s =
    let pin_in : pin < length nodes = subst (λ x. x < length nodes) (sym e) (g node at 0 h) in
    let l : pin < length marks = omega (arith, s.marks_are.length_marks) in
    let o : (Open ≡ Clear) ⊎ (mark_at marks pin ≢ Clear) = inr (λ x. cc) in
    let d : at + 1 - 1 ≡ at = omega arith in
    let other : (i : ℕ) → mark_at marks i ≡ Open → i ≢ pin = λ i x y. let z : mark_at marks pin ≡ Open = subst (λ v. mark_at marks v ≡ Open) y x in cc in
    record {
      marks_are = marks_open nodes marks order pin l m s.marks_are;
      node_in = pin_in;
      open_is = get_or-set_same marks pin Open Fresh l;
      passed = λ t z. absurd (omega arith);
      chain = (
        record {
          node_in = s.node_in;
          open_is = open_stays marks pin Open node (other node s.open_is) s.open_is;
          some = omega arith;
          at_in = omega arith;
          is = rw d (sym e);
          passed = λ t z. clear_stays marks pin Open (get_or (feeders_of nodes node) t 0) l o (s.passed t (omega arith));
        },
        chain_stays nodes marks pin Open fs node l o (λ i x. other i (path_open nodes marks fs node i s.chain x)) s.chain,
      );
      on_path = λ i x. elim (written marks pin Open i l) as (λ _. (i ≡ pin) ⊎ ((i ≡ node) ⊎ On i fs)) [ Here y w ↦ inl y | Elsewhere y w ↦ inr (s.on_path i (sym w ∙ x)) ];
      stays = stay_set start marks pin Open (λ x. cc) l s.stays;
    }

-- a feeder that was looked at is clear, since on the path it would close a loop
by_mark : (nodes : List Node) (start marks : List Mark) (order : List ℕ) (fs : List Frame) (node at pin : ℕ) (m : Mark) →
    AreLoopless (feeders_of nodes) → mark_at marks pin ≡ m → Feeds (feeders_of nodes) pin node →
    m ≢ Fresh → Searching nodes start marks order fs node at → mark_at marks pin ≡ Clear
by_mark nodes start marks order fs node at pin Fresh ll e d f s = absurd (f refl)
by_mark nodes start marks order fs node at pin Clear ll e d f s = e
by_mark nodes start marks order fs node at pin Open ll e d f s =
    absurd (elim (s.on_path pin e) as (λ _. ⊥) [
      | inl z ↦ ll node (By_one (subst (λ x. Feeds (feeders_of nodes) x node) z d))
      | inr p ↦ ll node (joined (path_reached nodes marks fs node pin s.chain p) (By_one d))
    ])

step_next : (nodes : List Node) (start marks : List Mark) (order : List ℕ) (fs : List Frame) (node at pin : ℕ) →
    AreLoopless (feeders_of nodes) → at < length (feeders_of nodes node) → pin ≡ get_or (feeders_of nodes node) at 0 → mark_at marks pin ≢ Fresh →
    Searching nodes start marks order fs node at → Searching nodes start marks order fs node (at + 1)
step_next nodes start marks order fs node at pin ll h e f s =
    let c = by_mark nodes start marks order fs node at pin (mark_at marks pin) ll refl (record { at = at; below = h; is = sym e }) f s in
    record {
      marks_are = s.marks_are;
      node_in = s.node_in;
      open_is = s.open_is;
      passed = below_more (λ t. mark_at marks (get_or (feeders_of nodes node) t 0) ≡ Clear) at s.passed (subst (λ x. mark_at marks x ≡ Clear) e c);
      chain = s.chain;
      on_path = s.on_path;
      stays = s.stays;
    }

fed_clear : (nodes : List Node) (start marks : List Mark) (order : List ℕ) (fs : List Frame) (node at : ℕ) → length (feeders_of nodes node) ≤ at →
    Searching nodes start marks order fs node at → (i : ℕ) → Feeds (feeders_of nodes) i node → mark_at marks i ≡ Clear
fed_clear nodes start marks order fs node at h s i f = subst (λ x. mark_at marks x ≡ Clear) f.is (s.passed f.at (omega (arith, f.below)))

step_pop : (nodes : List Node) (start marks : List Mark) (order : List ℕ) (f : Frame) (fs : List Frame) (node at : ℕ) →
    AreLoopless (feeders_of nodes) → length (feeders_of nodes node) ≤ at →
    Searching nodes start marks order (f ∷ fs) node at → Searching nodes start (set marks node Clear) (order ++ node ∷ []) fs f.node f.at
step_pop nodes start marks order f fs node at ll h s =
    let l : node < length marks = omega (arith, s.node_in, s.marks_are.length_marks) in
    let apart = not_on_path nodes marks (f ∷ fs) node ll s.chain in
    let w = waits_stays nodes marks node Clear f node l (inl refl) (apart f.node (inl refl)) s.chain.0 in
    let last : mark_at (set marks node Clear) (get_or (feeders_of nodes f.node) (f.at - 1) 0) ≡ Clear = rw w.is (get_or-set_same marks node Clear Fresh l) in
    let e : f.at - 1 + 1 ≡ f.at = omega (arith, w.some) in
    record {
      marks_are = marks_clear nodes marks order node l s.open_is (fed_clear nodes start marks order (f ∷ fs) node at h s) s.marks_are;
      node_in = w.node_in;
      open_is = w.open_is;
      passed = λ t z. below_more (λ t. mark_at (set marks node Clear) (get_or (feeders_of nodes f.node) t 0) ≡ Clear) (f.at - 1) w.passed last t (omega arith);
      chain = chain_stays nodes marks node Clear fs f.node l (inl refl) (λ i x. apart i (inr x)) s.chain.1;
      on_path = λ i x. elim (written marks node Clear i l) as (λ _. (i ≡ f.node) ⊎ On i fs) [
        | Here y v ↦ absurd
            (cc)
        | Elsewhere y v ↦ elim (s.on_path i (sym v ∙ x)) as (λ _. (i ≡ f.node) ⊎ On i fs) [ inl z ↦ absurd (y z) | inr z ↦ z ]
      ];
      stays = stay_set start marks node Clear (λ x. cc) l s.stays;
    }

step_done : (nodes : List Node) (start marks : List Mark) (order : List ℕ) (node at : ℕ) → length (feeders_of nodes node) ≤ at →
    Searching nodes start marks order [] node at → Found nodes start (set marks node Clear) (order ++ node ∷ [])
step_done nodes start marks order node at h s =
    let l : node < length marks = omega (arith, s.node_in, s.marks_are.length_marks) in
    record {
      marks_are = marks_clear nodes marks order node l s.open_is (fed_clear nodes start marks order [] node at h s) s.marks_are;
      none = λ i x. elim (written marks node Clear i l) as (λ _. ⊥) [ Here y v ↦ cc | Elsewhere y v ↦ elim (s.on_path i (sym v ∙ x)) as (λ _. ⊥) [ inl z ↦ y z | inr z ↦ z ] ];
      stays = stay_set start marks node Clear (λ x. cc) l s.stays;
    }

pub newest_push : (xs : List Frame) (x : Frame) → newest_first (xs ++ x ∷ []) ≡ x ∷ newest_first xs
newest_push [] x = refl
newest_push (f ∷ fs) x = rw (newest_push fs x) refl

-- ---- what is left to do
fresh_no_more : (m m' : Mark) (n : Node) → m' ≢ Fresh → fresh_cost m' n ≤ fresh_cost m n
fresh_no_more m Fresh n h = absurd (h refl)
fresh_no_more m Open n h = omega arith
fresh_no_more m Clear n h = omega arith

fresh_less : (marks : List Mark) (nodes : List Node) (k : ℕ) (m : Mark) → m ≢ Fresh → fresh_left (set marks k m) nodes ≤ fresh_left marks nodes
fresh_less [] nodes k m h = omega arith
fresh_less (x ∷ xs) [] zero m h = omega arith
fresh_less (x ∷ xs) [] (suc k) m h = omega arith
fresh_less (x ∷ xs) (n ∷ ns) zero m h = omega (arith, fresh_no_more x m n h)
fresh_less (x ∷ xs) (n ∷ ns) (suc k) m h = omega (arith, fresh_less xs ns k m h)

fresh_none : (m : Mark) (n : Node) → m ≢ Fresh → fresh_cost m n ≡ 0
fresh_none Fresh n h = absurd (h refl)
fresh_none Open n h = refl
fresh_none Clear n h = refl

fresh_taken : (marks : List Mark) (nodes : List Node) (k : ℕ) (m : Mark) → m ≢ Fresh → k < length marks → length marks ≡ length nodes →
    mark_at marks k ≡ Fresh → fresh_left (set marks k m) nodes + (length (feeders_of nodes k) + 2) ≡ fresh_left marks nodes
fresh_taken [] nodes k m h l e f = absurd (omega arith)
fresh_taken (x ∷ xs) [] k m h l e f = absurd (omega arith)
fresh_taken (x ∷ xs) (n ∷ ns) zero m h l e f = rw (fresh_none m n h, f) (omega arith)
fresh_taken (x ∷ xs) (n ∷ ns) (suc k) m h l e f = omega (arith, fresh_taken xs ns k m h (omega arith) (omega arith) f)

path_left_push : (nodes : List Node) (xs : List Frame) (x : Frame) → path_left nodes (xs ++ x ∷ []) ≡ path_left nodes xs + ((length (feeders_of nodes x.node) - x.at) + 1)
path_left_push nodes [] x = omega arith
path_left_push nodes (f ∷ fs) x = omega (arith, path_left_push nodes fs x)

-- ---- as the code says it
pub started : (nodes : List Node) (marks : List Mark) (order : List ℕ) (root : ℕ) → root < length nodes → mark_at marks root ≡ Fresh →
    AreMarks nodes marks order → HasNoOpen marks → Searching nodes (set marks root Open) (set marks root Open) order [] root 0
started nodes marks order root h f a none =
    let l : root < length marks = omega (arith, a.length_marks) in
    record {
      marks_are = marks_open nodes marks order root l f a;
      node_in = h;
      open_is = get_or-set_same marks root Open Fresh l;
      passed = λ t z. absurd (omega arith);
      chain = tt;
      on_path = λ i x. elim (written marks root Open i l) as (λ _. (i ≡ root) ⊎ ⊥) [ Here y w ↦ inl y | Elsewhere y w ↦ absurd (none i (sym w ∙ x)) ];
      stays = λ i x. x;
    }

pub pushed : (nodes : List Node) (start marks : List Mark) (order : List ℕ) (path items : List Frame) (node at pin : ℕ) →
    AreInRange nodes → IsFeeder nodes node at pin → mark_at marks pin ≡ Fresh → items ≡ path ++ record { node = node; at = at + 1 } ∷ [] →
    Searching nodes start marks order (newest_first path) node at → Searching nodes start (set marks pin Open) order (newest_first items) pin 0
pushed nodes start marks order path items node at pin g p m e s =
    let n : newest_first items ≡ record { node = node; at = at + 1 } ∷ newest_first path = ap newest_first e ∙ newest_push path (record { node = node; at = at + 1 }) in
    subst (λ (fs : List Frame). Searching nodes start (set marks pin Open) order fs pin 0) (sym n) (step_push nodes start marks order (newest_first path) node at pin g p.below p.is m s)

pub push_smaller : (nodes : List Node) (start marks : List Mark) (order : List ℕ) (path items : List Frame) (node at pin : ℕ) →
    IsFeeder nodes node at pin → mark_at marks pin ≡ Fresh →
    items ≡ path ++ record { node = node; at = at + 1 } ∷ [] → Searching nodes start marks order (newest_first path) node at →
    fresh_left (set marks pin Open) nodes + path_left nodes items + (length (feeders_of nodes pin) - 0) + 1 < fresh_left marks nodes + path_left nodes path + (length (feeders_of nodes node) - at) + 1
push_smaller nodes start marks order path items node at pin p m e s =
    let f : Frame = record { node = node; at = at + 1 } in
    let a = fresh_taken marks nodes pin Open (λ x. cc) (omega (arith, p.inside, s.marks_are.length_marks)) s.marks_are.length_marks m in
    let b : path_left nodes items ≡ path_left nodes path + ((length (feeders_of nodes node) - (at + 1)) + 1) = ap (path_left nodes) e ∙ path_left_push nodes path f in
    let c = p.below in
    omega (arith, a, b, c)

pub nexted : (nodes : List Node) (start marks : List Mark) (order : List ℕ) (fs : List Frame) (node at pin : ℕ) → AreLoopless (feeders_of nodes) →
    IsFeeder nodes node at pin → mark_at marks pin ≢ Fresh →
    Searching nodes start marks order fs node at → Searching nodes start marks order fs node (at + 1)
nexted nodes start marks order fs node at pin ll p f s = step_next nodes start marks order fs node at pin ll p.below p.is f s

pub popped : (nodes : List Node) (start marks : List Mark) (order items : List ℕ) (path rest : List Frame) (f : Frame) (node at : ℕ) →
    AreLoopless (feeders_of nodes) → items ≡ order ++ node ∷ [] → path ≡ rest ++ f ∷ [] → length (feeders_of nodes node) ≤ at →
    Searching nodes start marks order (newest_first path) node at → Searching nodes start (set marks node Clear) items (newest_first rest) f.node f.at
popped nodes start marks order items path rest f node at ll i e h s =
    let n : newest_first path ≡ f ∷ newest_first rest = ap newest_first e ∙ newest_push rest f in
    subst (λ (o : List ℕ). Searching nodes start (set marks node Clear) o (newest_first rest) f.node f.at) (sym i) (step_pop nodes
    start marks order f (newest_first rest) node at ll h (subst (λ (fs : List Frame). Searching nodes start marks order fs node at) n s))

pub pop_smaller : (nodes : List Node) (marks : List Mark) (path rest : List Frame) (f : Frame) (node at : ℕ) → path ≡ rest ++ f ∷ [] →
    fresh_left (set marks node Clear) nodes + path_left nodes rest + (length (feeders_of nodes f.node) - f.at)
    + 1 < fresh_left marks nodes + path_left nodes path + (length (feeders_of nodes node) - at) + 1
pop_smaller nodes marks path rest f node at e =
    let a = fresh_less marks nodes node Clear (λ x. cc) in
    let b : path_left nodes path ≡ path_left nodes rest + ((length (feeders_of nodes f.node) - f.at) + 1) = ap (path_left nodes) e ∙ path_left_push nodes rest f in
    omega (arith, a, b)

pub ended : (nodes : List Node) (start marks : List Mark) (order items : List ℕ) (path : List Frame) (node at : ℕ) → items ≡ order ++ node ∷ [] →
    path ≡ [] → length (feeders_of nodes node) ≤ at →
    Searching nodes start marks order (newest_first path) node at → Found nodes start (set marks node Clear) items
ended nodes start marks order items path node at i e h s =
    subst (λ (o : List ℕ). Found nodes start (set marks node Clear) o) (sym i)
    (step_done nodes start marks order node at h (subst (λ (p : List Frame). Searching nodes start marks order (newest_first p) node at) e s))

pub root_marked : (marks new : List Mark) (root : ℕ) → root < length marks → StaysMarked (set marks root Open) new → mark_at new root ≢ Fresh
root_marked marks new root h s = s root (λ x. let w = get_or-set_same marks root Open Fresh h in cc)

pub stays_before : (marks new : List Mark) (root : ℕ) → root < length marks → StaysMarked (set marks root Open) new → StaysMarked marks new
stays_before marks new root h s = λ i f. s i (stay_set marks marks root Open (λ x. cc) h (λ j g. g) i f)

pub pins_read : (nodes : List Node) (j : ℕ) (n : Node) → j < length nodes → feeders_of nodes j ≡ (get_or nodes j n).feeders.items
pins_read [] j n h = absurd (omega arith)
pins_read (x ∷ xs) zero n h = refl
pins_read (x ∷ xs) (suc j) n h = pins_read xs j n (omega arith)

-- ---- the whole search

pub no_marks : (nodes : List Node) (marks : List Mark) → length marks ≡ length nodes → ((i : ℕ) → mark_at marks i ≡ Fresh) → AreMarks nodes marks []
no_marks nodes marks e f = record {
  length_marks = e;
  placed = record { once = λ a b la lb q. absurd (omega arith); fed = λ b i lb q. absurd (omega arith) };
  clear = λ b l. absurd (omega arith);
  has = λ i c. let g = f i in absurd (cc);
}

clear_by : (marks : List Mark) (i : ℕ) (m : Mark) → mark_at marks i ≡ m → m ≢ Fresh → m ≢ Open → mark_at marks i ≡ Clear
clear_by marks i Fresh e f o = absurd (f refl)
clear_by marks i Open e f o = absurd (o refl)
clear_by marks i Clear e f o = e

marked_in : (marks : List Mark) (i : ℕ) → mark_at marks i ≡ Clear → i < length marks
marked_in [] i e = absurd (cc)
marked_in (m ∷ ms) zero e = omega arith
marked_in (m ∷ ms) (suc i) e = let l = marked_in ms i e in omega arith

pub all_sorted : (nodes : List Node) (marks : List Mark) (order : List ℕ) → AreMarks nodes marks order →
    HasNoOpen marks → ((i : ℕ) → i < length nodes → mark_at marks i ≢ Fresh) → IsSorted (feeders_of nodes) (length nodes) order
all_sorted nodes marks order a none seen = record {
  placed = a.placed;
  inside = All-from_get_or (λ k. k < length nodes) order 0 (λ b l. let m = marked_in marks (get_or order b 0) (a.clear b l) in omega (arith, a.length_marks, m));
  whole = λ k l. a.has k (clear_by marks k (mark_at marks k) refl (seen k l) (none k));
}
