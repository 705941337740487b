-- The steps of the search for loops.
use Rattle.std.proofs.Common.{◌≡◌, ◌≢◌, ℕ, zero, suc, ◌+◌, ◌-◌, ◌<◌, ◌≤◌, List, [], ◌∷◌, ◌++◌, length, get_or, set, Option, Some, None, refl, ap, sym, subst, ◌∙◌, arith, inl, inr, below_more}
use Rattle.std.specs.Prelude.{◌⊎◌}
use Rattle.std.specs.Option.{MatchOption}
use Rattle.std.proofs.lemmas.List.{get_or-set_same, get_or-set_other, length-set}
use Rattle.std.proofs.lemmas.List.Elements.{All-head, All-tail, All-nil, All-cons}
use Rattle.std.proofs.lemmas.Bool.{cases_eq}
use Rattle.flat_circuit.specs.declared.search.Node.{Node}
use Rattle.flat_circuit.specs.declared.search.Frame.{Frame}
use Rattle.flat_circuit.specs.declared.search.Mark.{Mark}
use Rattle.flat_circuit.specs.declared.search.Mark.TheVariants.{Fresh, Open, Clear, Looped}
use Rattle.flat_circuit.specs.Loop.{By_one, And_then}
use Rattle.flat_circuit.specs.Search.{feeders_of, Feeds, Leads, IsFedByLoop, IsFirstFed, IsClear, Cleared, AreInRange, mark_at, AreMarks, HasNoOpen, StaysMarked, FramesIn, closed, newest_first, On, Waits, Chain, Searching, Found, IsFeeder, IsFirstLooped, fresh_cost, fresh_left, path_left}

-- ---- what is clear is reached by no loop
pub joined : {feeders : ℕ → List ℕ} {i m j : ℕ} → Leads feeders i m → Leads feeders m j → Leads feeders i j
joined (By_one f) r = And_then f r
joined (And_then f q) r = And_then f (joined q r)

feeds_back : {feeders : ℕ → List ℕ} {i j : ℕ} → Feeds feeders i j → IsClear feeders j → IsClear feeders i
feeds_back {i = i} f (Cleared h) = h i f

clear_back : {feeders : ℕ → List ℕ} {i j : ℕ} → Leads feeders i j → IsClear feeders j → IsClear feeders i
clear_back (By_one f) c = feeds_back f c
clear_back (And_then f r) c = feeds_back f (clear_back r c)

record Last (feeders : ℕ → List ℕ) (i j : ℕ) : Type 0 where
  mid : ℕ
  feeds : Feeds feeders mid j
  before : (i ≡ mid) ⊎ Leads feeders i mid

last_of : {feeders : ℕ → List ℕ} {i j : ℕ} → Leads feeders i j → Last feeders i j
last_of (By_one {i = i} f) = record { mid = i; feeds = f; before = inl refl }
last_of {feeders} (And_then {i = i} {m = m} f r) =
    let l = last_of r in
    record { mid = l.mid; feeds = l.feeds; before = inr (elim l.before as (λ _. Leads feeders i l.mid) [ inl e ↦ subst (Leads feeders i) e (By_one f) | inr q ↦ And_then f q ]) }

clear_no_loop : {feeders : ℕ → List ℕ} {j : ℕ} → IsClear feeders j → Leads feeders j j → ⊥
clear_no_loop {feeders} (Cleared {j = j} h) r =
    let l = last_of r in
    clear_no_loop (h l.mid l.feeds) (elim l.before as (λ _. Leads feeders l.mid l.mid) [ inl e ↦ By_one (subst (λ x. Feeds feeders l.mid x) e l.feeds) | inr q ↦ And_then l.feeds q ])

pub clear_not_from : {feeders : ℕ → List ℕ} {j : ℕ} → IsClear feeders j → IsFedByLoop feeders j → ⊥
clear_not_from c h = clear_no_loop (clear_back h.reaches c) h.loops

pub from_feeds : {feeders : ℕ → List ℕ} {i j : ℕ} → Feeds feeders i j → IsFedByLoop feeders i → IsFedByLoop feeders j
from_feeds f h = record { on_loop = h.on_loop; loops = h.loops; reaches = joined h.reaches (By_one f) }

-- ---- marks after a write
pub data Written (marks : List Mark) (k : ℕ) (m : Mark) (i : ℕ) : Type 0 where
  Here : i ≡ k → mark_at (set marks k m) i ≡ m → Written marks k m i
  Elsewhere : i ≢ k → mark_at (set marks k m) i ≡ mark_at marks i → Written marks k m i

pub written : (marks : List Mark) (k : ℕ) (m : Mark) (i : ℕ) → k < length marks → Written marks k m i
written marks k m i h =
    elim (cases_eq i k) as (λ _. Written marks k m i) [
      | inl e ↦ Here e (subst (λ x. mark_at (set marks k m) x ≡ m) (sym e) (get_or-set_same marks k m Fresh h))
      | inr n ↦ Elsewhere n (get_or-set_other marks k i m Fresh n)
    ]

stay_set : (start marks : List Mark) (k : ℕ) (m : Mark) → m ≢ Fresh → k < length marks → StaysMarked start marks → StaysMarked start (set marks k m)
stay_set start marks k m n h s i f =
    elim (written marks k m i h) as (λ _. mark_at (set marks k m) i ≢ Fresh)
    [ Here e w ↦ (λ x. n (sym w ∙ x)) | Elsewhere o w ↦ (λ x. s i f (sym w ∙ x)) ]

-- a mark that is clear stays so if what is written is clear, or the place was not clear
clear_stays : (marks : List Mark) (k : ℕ) (m : Mark) (i : ℕ) → k < length marks →
    (m ≡ Clear) ⊎ (mark_at marks k ≢ Clear) →
    mark_at marks i ≡ Clear → mark_at (set marks k m) i ≡ Clear
clear_stays marks k m i h o c =
    elim (written marks k m i h) as (λ _. mark_at (set marks k m) i ≡ Clear) [
      | Here e w ↦ elim o as (λ _. mark_at (set marks k m) i ≡ Clear) [ inl z ↦ w ∙ z | inr z ↦ absurd (z (subst (λ x. mark_at marks x ≡ Clear) e c)) ]
      | Elsewhere n w ↦ w ∙ c
    ]

waits_stays : (nodes : List Node) (marks : List Mark) (k : ℕ) (m : Mark) (f : Frame) (child : ℕ) →
    k < length marks → (m ≡ Clear) ⊎ (mark_at marks k ≢ Clear) → Waits nodes marks f child → Waits nodes (set marks k m) f child
waits_stays nodes marks k m f child h o w = record {
  node_in = w.node_in;
  some = w.some;
  at_in = w.at_in;
  is = w.is;
  passed = λ t l. clear_stays marks k m (get_or (feeders_of nodes f.node) t 0) h o (w.passed t l);
}

chain_stays : (nodes : List Node) (marks : List Mark) (k : ℕ) (m : Mark) (fs : List Frame) (child : ℕ) →
    k < length marks → (m ≡ Clear) ⊎ (mark_at marks k ≢ Clear) → Chain nodes marks fs child → Chain nodes (set marks k m) fs child
chain_stays nodes marks k m [] child h o c = tt
chain_stays nodes marks k m (f ∷ fs) child h o c = (waits_stays nodes marks k m f child h o c.0, chain_stays nodes marks k m fs f.node h o c.1)

marks_open : (nodes : List Node) (marks : List Mark) (k : ℕ) → k < length marks → AreMarks nodes marks → AreMarks nodes (set marks k Open)
marks_open nodes marks k h a = record {
  length_marks = length-set marks k Open ∙ a.length_marks;
  clear = λ i c. elim (written marks k Open i h) as (λ _. IsClear (feeders_of nodes) i) [ Here e w ↦ absurd (cc) | Elsewhere n w ↦ a.clear i (sym w ∙ c) ];
  looped = λ i c. elim (written marks k Open i h) as (λ _. IsFedByLoop (feeders_of nodes) i) [ Here e w ↦ absurd (cc) | Elsewhere n w ↦ a.looped i (sym w ∙ c) ];
}

marks_clear : (nodes : List Node) (marks : List Mark) (k : ℕ) → k < length marks → IsClear (feeders_of nodes) k → AreMarks nodes marks → AreMarks nodes (set marks k Clear)
marks_clear nodes marks k h d a = record {
  length_marks = length-set marks k Clear ∙ a.length_marks;
  clear = λ i c. elim (written marks k Clear i h) as (λ _. IsClear (feeders_of nodes) i) [ Here e w ↦ subst (IsClear (feeders_of nodes)) (sym e) d | Elsewhere n w ↦ a.clear i (sym w ∙ c) ];
  looped = λ i c. elim (written marks k Clear i h) as (λ _. IsFedByLoop (feeders_of nodes) i) [ Here e w ↦ absurd (cc) | Elsewhere n w ↦ a.looped i (sym w ∙ c) ];
}

marks_looped : (nodes : List Node) (marks : List Mark) (k : ℕ) → k < length marks → IsFedByLoop (feeders_of nodes) k → AreMarks nodes marks → AreMarks nodes (set marks k Looped)
marks_looped nodes marks k h d a = record {
  length_marks = length-set marks k Looped ∙ a.length_marks;
  clear = λ i c. elim (written marks k Looped i h) as (λ _. IsClear (feeders_of nodes) i) [ Here e w ↦ absurd (cc) | Elsewhere n w ↦ a.clear i (sym w ∙ c) ];
  looped = λ i c. elim (written marks k Looped i h) as (λ _. IsFedByLoop (feeders_of nodes) i) [
    | Here e w ↦ subst (IsFedByLoop (feeders_of nodes)) (sym e) d
    | Elsewhere n w ↦ a.looped i (sym w ∙ c)
  ];
}

-- ---- the steps
pub step_push : (nodes : List Node) (start marks : List Mark) (fs : List Frame) (node at pin : ℕ) →
    AreInRange nodes → at < length (feeders_of nodes node) → pin ≡ get_or (feeders_of nodes node) at 0 → mark_at marks pin ≡ Fresh →
    Searching nodes start marks fs node at → Searching nodes start (set marks pin Open) (record { node = node; at = at + 1 } ∷ fs) pin 0
step_push nodes start marks fs node at pin g h e m s =
    let pin_in : pin < length nodes = subst (λ x. x < length nodes) (sym e) (g node at 0 h) in
    let l : pin < length marks = omega (arith, s.marks_are.length_marks) in
    let o : (Open ≡ Clear) ⊎ (mark_at marks pin ≢ Clear) = inr (λ x. cc) in
    let d : at + 1 - 1 ≡ at = omega arith in
    record {
      marks_are = marks_open nodes marks pin l s.marks_are;
      node_in = pin_in;
      passed = λ t z. absurd (omega arith);
      chain = (
        record {
          node_in = s.node_in;
          some = omega arith;
          at_in = omega arith;
          is = rw d (sym e);
          passed = λ t z. clear_stays marks pin Open (get_or (feeders_of nodes node) t 0) l o (s.passed t (omega arith));
        },
        chain_stays nodes marks pin Open fs node l o s.chain,
      );
      on_path = λ i x. elim (written marks pin Open i l) as (λ _. (i ≡ pin) ⊎ ((i ≡ node) ⊎ On i fs)) [ Here y w ↦ inl y | Elsewhere y w ↦ inr (s.on_path i (sym w ∙ x)) ];
      stays = stay_set start marks pin Open (λ x. cc) l s.stays;
    }

node_clear : (nodes : List Node) (start marks : List Mark) (fs : List Frame) (node at : ℕ) →
    length (feeders_of nodes node) ≤ at → Searching nodes start marks fs node at → IsClear (feeders_of nodes) node
node_clear nodes start marks fs node at h s = Cleared (λ i f. subst (IsClear (feeders_of nodes)) f.is (s.marks_are.clear _ (s.passed f.at (omega (arith, f.below)))))

pub step_pop : (nodes : List Node) (start marks : List Mark) (f : Frame) (fs : List Frame) (node at : ℕ) →
    length (feeders_of nodes node) ≤ at → Searching nodes start marks (f ∷ fs) node at → Searching nodes start (set marks node Clear) fs f.node f.at
step_pop nodes start marks f fs node at h s =
    let l : node < length marks = omega (arith, s.node_in, s.marks_are.length_marks) in
    let w = waits_stays nodes marks node Clear f node l (inl refl) s.chain.0 in
    let last : mark_at (set marks node Clear) (get_or (feeders_of nodes f.node) (f.at - 1) 0) ≡ Clear = rw w.is (get_or-set_same marks node Clear Fresh l) in
    let e : f.at - 1 + 1 ≡ f.at = omega (arith, w.some) in
    record {
      marks_are = marks_clear nodes marks node l (node_clear nodes start marks (f ∷ fs) node at h s) s.marks_are;
      node_in = w.node_in;
      passed = λ t z. below_more (λ t. mark_at (set marks node Clear) (get_or (feeders_of nodes f.node) t 0) ≡ Clear) (f.at - 1) w.passed last t (omega arith);
      chain = chain_stays nodes marks node Clear fs f.node l (inl refl) s.chain.1;
      on_path = λ i x. elim (written marks node Clear i l) as (λ _. (i ≡ f.node) ⊎ On i fs) [
        | Here y v ↦ absurd
            (cc)
        | Elsewhere y v ↦ elim (s.on_path i (sym v ∙ x)) as (λ _. (i ≡ f.node) ⊎ On i fs) [ inl z ↦ absurd (y z) | inr z ↦ z ]
      ];
      stays = stay_set start marks node Clear (λ x. cc) l s.stays;
    }

pub step_done : (nodes : List Node) (start marks : List Mark) (node at : ℕ) →
    length (feeders_of nodes node) ≤ at →
    Searching nodes start marks [] node at → Found nodes start (set marks node Clear)
step_done nodes start marks node at h s =
    let l : node < length marks = omega (arith, s.node_in, s.marks_are.length_marks) in
    record {
      marks_are = marks_clear nodes marks node l (node_clear nodes start marks [] node at h s) s.marks_are;
      none = λ i x. elim (written marks node Clear i l) as (λ _. ⊥) [ Here y v ↦ cc | Elsewhere y v ↦ elim (s.on_path i (sym v ∙ x)) as (λ _. ⊥) [ inl z ↦ y z | inr z ↦ z ] ];
      stays = stay_set start marks node Clear (λ x. cc) l s.stays;
    }

-- ---- a loop is found
waits_feeds : (nodes : List Node) (marks : List Mark) (f : Frame) (child : ℕ) → Waits nodes marks f child → Feeds (feeders_of nodes) child f.node
waits_feeds nodes marks f child w = record { at = f.at - 1; below = omega (arith, w.some, w.at_in); is = w.is }

-- the newest node reaches each node of the path
path_reached : (nodes : List Node) (marks : List Mark) (fs : List Frame) (child i : ℕ) → Chain nodes marks fs child → On i fs → Leads (feeders_of nodes) child i
path_reached nodes marks [] child i c o = absurd o
path_reached nodes marks (f ∷ fs) child i c o =
    elim o as (λ _. Leads (feeders_of nodes) child i) [
      | inl e ↦ subst (Leads (feeders_of nodes) child) (sym e) (By_one (waits_feeds nodes marks f child c.0))
      | inr p ↦ And_then (waits_feeds nodes marks f child c.0) (path_reached nodes marks fs f.node i c.1 p)
    ]

closed_found : (nodes : List Node) (start marks : List Mark) (fs : List Frame) → AreMarks nodes marks → FramesIn (length marks) fs →
    ((i : ℕ) → On i fs → IsFedByLoop (feeders_of nodes) i) →
    ((i : ℕ) → mark_at marks i ≡ Open → On i fs) → StaysMarked start marks → Found nodes start (closed marks fs)
closed_found nodes start marks [] a r l o s = record { marks_are = a; none = o; stays = s }
closed_found nodes start marks (f ∷ fs) a r l o s =
    let h = All-head (λ (x : Frame). x.node < length marks) f fs r in
    closed_found nodes start (set marks f.node Looped) fs (marks_looped nodes marks f.node h (l f.node (inl refl)) a)
    (subst (λ n. FramesIn n fs) (sym (length-set marks f.node Looped)) (All-tail (λ (x : Frame). x.node < length marks) f fs r))
    (λ i p. l i (inr p))
    (λ i x. elim (written marks f.node Looped i h) as (λ _. On i fs) [
      | Here y v ↦ absurd (cc)
      | Elsewhere y v ↦ elim (o i (sym v ∙ x)) as (λ _. On i fs) [ inl z ↦ absurd (y z) | inr z ↦ z ]
    ])
    (stay_set start marks f.node Looped (λ x. cc) h s)

by_mark : (nodes : List Node) (start marks : List Mark) (fs : List Frame) (node at pin : ℕ) (m : Mark) → mark_at marks pin ≡ m →
    Feeds (feeders_of nodes) pin node → m ≢ Fresh → m ≢ Clear → Searching nodes start marks fs node at → IsFedByLoop (feeders_of nodes) node
by_mark nodes start marks fs node at pin Fresh e d f c s = absurd (f refl)
by_mark nodes start marks fs node at pin Clear e d f c s = absurd (c refl)
by_mark nodes start marks fs node at pin Looped e d f c s = from_feeds d (s.marks_are.looped pin e)
by_mark nodes start marks fs node at pin Open e d f c s =
    elim (s.on_path pin e) as (λ _. IsFedByLoop (feeders_of nodes) node) [
      | inl z ↦ (let l : Leads (feeders_of nodes) node node = By_one (subst (λ x. Feeds (feeders_of nodes) x node) z d) in record { on_loop = node; loops = l; reaches = l })
      | inr p ↦ (let l : Leads (feeders_of nodes) node node = joined (path_reached nodes marks fs node pin s.chain p) (By_one d) in record { on_loop = node; loops = l; reaches = l })
    ]

pub node_looped : (nodes : List Node) (start marks : List Mark) (fs : List Frame) (node at pin : ℕ) →
    at < length (feeders_of nodes node) → pin ≡ get_or (feeders_of nodes node) at 0 → mark_at marks pin ≢ Fresh → mark_at marks pin ≢ Clear →
    Searching nodes start marks fs node at → IsFedByLoop (feeders_of nodes) node
node_looped nodes start marks fs node at pin h e f c s =
    let feeds : Feeds (feeders_of nodes) pin node = record { at = at; below = h; is = sym e } in
    by_mark nodes start marks fs node at pin (mark_at marks pin) refl feeds f c s

on_append : (i : ℕ) (xs ys : List Frame) → On i (xs ++ ys) → On i xs ⊎ On i ys
on_append i [] ys o = inr o
on_append i (x ∷ xs) ys o = elim o as (λ _. ((i ≡ x.node) ⊎ On i xs) ⊎ On i ys)
    [ inl e ↦ inl (inl e) | inr p ↦ elim (on_append i xs ys p) as (λ _. ((i ≡ x.node) ⊎ On i xs) ⊎ On i ys) [ inl q ↦ inl (inr q) | inr q ↦ inr q ] ]

on_append_left : (i : ℕ) (xs ys : List Frame) → On i xs → On i (xs ++ ys)
on_append_left i [] ys o = absurd o
on_append_left i (x ∷ xs) ys o = elim o as (λ _. (i ≡ x.node) ⊎ On i (xs ++ ys)) [ inl e ↦ inl e | inr p ↦ inr (on_append_left i xs ys p) ]

on_append_right : (i : ℕ) (xs ys : List Frame) → On i ys → On i (xs ++ ys)
on_append_right i [] ys o = o
on_append_right i (x ∷ xs) ys o = inr (on_append_right i xs ys o)

on_path_of : (i : ℕ) (path : List Frame) → On i (newest_first path) → On i path
on_path_of i [] o = o
on_path_of i (f ∷ fs) o = elim (on_append i (newest_first fs) (f ∷ []) o) as (λ _. (i ≡ f.node) ⊎ On i fs)
    [ inl p ↦ inr (on_path_of i fs p) | inr p ↦ elim p as (λ _. (i ≡ f.node) ⊎ On i fs) [ inl e ↦ inl e | inr z ↦ absurd z ] ]

on_newest : (i : ℕ) (path : List Frame) → On i path → On i (newest_first path)
on_newest i [] o = o
on_newest i (f ∷ fs) o = elim o as (λ _. On i (newest_first fs ++ f ∷ []))
    [ inl e ↦ on_append_right i (newest_first fs) (f ∷ []) (inl e) | inr p ↦ on_append_left i (newest_first fs) (f ∷ []) (on_newest i fs p) ]

pub newest_push : (xs : List Frame) (x : Frame) → newest_first (xs ++ x ∷ []) ≡ x ∷ newest_first xs
newest_push [] x = refl
newest_push (f ∷ fs) x = rw (newest_push fs x) refl

chain_in : (nodes : List Node) (marks : List Mark) (fs : List Frame) (child i : ℕ) → Chain nodes marks fs child → On i fs → i < length nodes
chain_in nodes marks [] child i c o = absurd o
chain_in nodes marks (f ∷ fs) child i c o = elim o as (λ _. i < length nodes) [ inl e ↦ subst (λ x. x < length nodes) (sym e) c.0.node_in | inr p ↦ chain_in nodes marks fs f.node i c.1 p ]

frames_from : (n : ℕ) (fs : List Frame) → ((i : ℕ) → On i fs → i < n) → FramesIn n fs
frames_from n [] h = All-nil (λ (x : Frame). x.node < n)
frames_from n (f ∷ fs) h = All-cons (λ (x : Frame). x.node < n) f fs (h f.node (inl refl)) (frames_from n fs (λ i o. h i (inr o)))

pub frames_in : (nodes : List Node) (start marks : List Mark) (path : List Frame) (node at : ℕ) → Searching nodes start marks (newest_first path) node at → FramesIn (length marks) path
frames_in nodes start marks path node at s = frames_from (length marks) path (λ i o. let h =
    chain_in nodes marks (newest_first path) node i s.chain (on_newest i path o) in omega (arith, s.marks_are.length_marks, h))

pub step_loop : (nodes : List Node) (start marks : List Mark) (path : List Frame) (node at pin : ℕ) →
    at < length (feeders_of nodes node) → pin ≡ get_or (feeders_of nodes node) at 0 → mark_at marks pin ≢ Fresh → mark_at marks pin ≢ Clear →
    Searching nodes start marks (newest_first path) node at → Found nodes start (closed (set marks node Looped) path)
step_loop nodes start marks path node at pin h e f c s =
    let l : node < length marks = omega (arith, s.node_in, s.marks_are.length_marks) in
    let from = node_looped nodes start marks (newest_first path) node at pin h e f c s in
    closed_found nodes start (set marks node Looped) path (marks_looped nodes marks node l from s.marks_are)
    (subst (λ n. FramesIn n path) (sym (length-set marks node Looped)) (frames_in nodes start marks path node at s))
    (λ i o. record { on_loop = from.on_loop; loops = from.loops; reaches = joined from.reaches (path_reached nodes marks (newest_first path) node i s.chain (on_newest i path o)) })
    (λ i x. elim (written marks node Looped i l) as (λ _. On i path) [
      | Here y v ↦ absurd (cc)
      | Elsewhere
          y v ↦ elim (s.on_path i (sym v ∙ x)) as (λ _. On i path) [ inl z ↦ absurd (y z) | inr z ↦ on_path_of i path z ]
    ])
    (stay_set start marks node Looped (λ x. cc) l s.stays)

-- ---- what is left to do
fresh_no_more : (m m' : Mark) (n : Node) → m' ≢ Fresh → fresh_cost m' n ≤ fresh_cost m n
fresh_no_more m Fresh n h = absurd (h refl)
fresh_no_more m Open n h = omega arith
fresh_no_more m Clear n h = omega arith
fresh_no_more m Looped n h = omega arith

pub fresh_less : (marks : List Mark) (nodes : List Node) (k : ℕ) (m : Mark) → m ≢ Fresh → fresh_left (set marks k m) nodes ≤ fresh_left marks nodes
fresh_less [] nodes k m h = omega arith
fresh_less (x ∷ xs) [] zero m h = omega arith
fresh_less (x ∷ xs) [] (suc k) m h = omega arith
fresh_less (x ∷ xs) (n ∷ ns) zero m h = omega (arith, fresh_no_more x m n h)
fresh_less (x ∷ xs) (n ∷ ns) (suc k) m h = omega (arith, fresh_less xs ns k m h)

fresh_none : (m : Mark) (n : Node) → m ≢ Fresh → fresh_cost m n ≡ 0
fresh_none Fresh n h = absurd (h refl)
fresh_none Open n h = refl
fresh_none Clear n h = refl
fresh_none Looped n h = refl

pub fresh_taken : (marks : List Mark) (nodes : List Node) (k : ℕ) (m : Mark) → m ≢ Fresh → k < length marks → length marks ≡ length nodes →
    mark_at marks k ≡ Fresh → fresh_left (set marks k m) nodes + (length (feeders_of nodes k) + 2) ≡ fresh_left marks nodes
fresh_taken [] nodes k m h l e f = absurd (omega arith)
fresh_taken (x ∷ xs) [] k m h l e f = absurd (omega arith)
fresh_taken (x ∷ xs) (n ∷ ns) zero m h l e f = rw (fresh_none m n h, f) (omega arith)
fresh_taken (x ∷ xs) (n ∷ ns) (suc k) m h l e f = omega (arith, fresh_taken xs ns k m h (omega arith) (omega arith) f)

pub path_left_push : (nodes : List Node) (xs : List Frame) (x : Frame) → path_left nodes (xs ++ x ∷ []) ≡ path_left nodes xs + ((length (feeders_of nodes x.node) - x.at) + 1)
path_left_push nodes [] x = omega arith
path_left_push nodes (f ∷ fs) x = omega (arith, path_left_push nodes fs x)

-- ---- as the code says it
pub pushed : (nodes : List Node) (start marks : List Mark) (path items : List Frame) (node at pin : ℕ) →
    AreInRange nodes → IsFeeder nodes node at pin → mark_at marks pin ≡ Fresh → items ≡ path ++ record { node = node; at = at + 1 } ∷ [] →
    Searching nodes start marks (newest_first path) node at → Searching nodes start (set marks pin Open) (newest_first items) pin 0
pushed nodes start marks path items node at pin g p m e s =
    let n : newest_first items ≡ record { node = node; at = at + 1 } ∷ newest_first path = ap newest_first e ∙ newest_push path (record { node = node; at = at + 1 }) in
    subst (λ (fs : List Frame). Searching nodes start (set marks pin Open) fs pin 0) (sym n) (step_push nodes start marks (newest_first path) node at pin g p.below p.is m s)

pub push_smaller : (nodes : List Node) (start marks : List Mark) (path items : List Frame) (node at pin : ℕ) → IsFeeder nodes node at pin →
    mark_at marks pin ≡ Fresh → items ≡ path ++ record { node = node; at = at + 1 } ∷ [] → Searching nodes start marks (newest_first path) node at →
    fresh_left (set marks pin Open) nodes + path_left nodes items + (length (feeders_of nodes pin) - 0) + 1 < fresh_left marks nodes + path_left nodes path + (length (feeders_of nodes node) - at) + 1
push_smaller nodes start marks path items node at pin p m e s =
    let f : Frame = record { node = node; at = at + 1 } in
    let a = fresh_taken marks nodes pin Open (λ x. cc) (omega (arith, p.inside, s.marks_are.length_marks)) s.marks_are.length_marks m in
    let b : path_left nodes items ≡ path_left nodes path + ((length (feeders_of nodes node) - (at + 1)) + 1) = ap (path_left nodes) e ∙ path_left_push nodes path f in
    let c = p.below in
    omega (arith, a, b, c)

pub popped : (nodes : List Node) (start marks : List Mark) (path rest : List Frame) (f : Frame) (node at : ℕ) → path ≡ rest ++ f ∷ [] →
    length (feeders_of nodes node) ≤ at → Searching nodes start marks (newest_first path) node at →
    Searching nodes start (set marks node Clear) (newest_first rest) f.node f.at
popped nodes start marks path rest f node at e h s =
    let n : newest_first path ≡ f ∷ newest_first rest = ap newest_first e ∙ newest_push rest f in
    step_pop nodes start marks f (newest_first rest) node at h (subst (λ (fs : List Frame). Searching nodes start marks fs node at) n s)

pub pop_smaller : (nodes : List Node) (marks : List Mark) (path rest : List Frame) (f : Frame) (node at : ℕ) → path ≡ rest ++ f ∷ [] →
    fresh_left (set marks node Clear) nodes + path_left nodes rest + (length (feeders_of nodes f.node) - f.at)
    + 1 < fresh_left marks nodes + path_left nodes path + (length (feeders_of nodes node) - at) + 1
pop_smaller nodes marks path rest f node at e =
    let a = fresh_less marks nodes node Clear (λ x. cc) in
    let b : path_left nodes path ≡ path_left nodes rest + ((length (feeders_of nodes f.node) - f.at) + 1) = ap (path_left nodes) e ∙ path_left_push nodes rest f in
    omega (arith, a, b)

pub ended : (nodes : List Node) (start marks : List Mark) (path : List Frame) (node at : ℕ) → path ≡ [] →
    length (feeders_of nodes node) ≤ at → Searching nodes start marks (newest_first path) node at → Found nodes start (set marks node Clear)
ended nodes start marks path node at e h s = step_done nodes start marks node at h (subst (λ (p : List Frame). Searching nodes start marks (newest_first p) node at) e s)

pub root_marked : (marks new : List Mark) (root : ℕ) → root < length marks → StaysMarked (set marks root Open) new → mark_at new root ≢ Fresh
root_marked marks new root h s = s root (λ x. let w = get_or-set_same marks root Open Fresh h in cc)

pub stays_before : (marks new : List Mark) (root : ℕ) → root < length marks → StaysMarked (set marks root Open) new → StaysMarked marks new
stays_before marks new root h s = λ i f. s i (stay_set marks marks root Open (λ x. cc) h (λ j g. g) i f)

by_last : (nodes : List Node) (marks : List Mark) (i : ℕ) (m : Mark) → mark_at marks i ≡ m → AreMarks nodes marks →
    mark_at marks i ≢ Open → mark_at marks i ≢ Fresh → mark_at marks i ≢ Looped → IsFedByLoop (feeders_of nodes) i → ⊥
by_last nodes marks i Fresh e a o f l from = f e
by_last nodes marks i Open e a o f l from = o e
by_last nodes marks i Looped e a o f l from = l e
by_last nodes marks i Clear e a o f l from = clear_not_from (a.clear i e) from

pub answers_none : (nodes : List Node) (marks : List Mark) → AreMarks nodes marks → HasNoOpen marks → ((i : ℕ) → i < length nodes → mark_at marks
    i ≢ Fresh) → ((i : ℕ) → i < length nodes → mark_at marks i ≢ Looped) → (i : ℕ) → i < length nodes → IsFedByLoop (feeders_of nodes) i → ⊥
answers_none nodes marks a o f l i h from = by_last nodes marks i (mark_at marks i) refl a (o i) (f i h) (l i h) from

pub pins_read : (nodes : List Node) (j : ℕ) (n : Node) → j < length nodes → feeders_of nodes j ≡ (get_or nodes j n).feeders.items
pins_read [] j n h = absurd (omega arith)
pins_read (x ∷ xs) zero n h = refl
pins_read (x ∷ xs) (suc j) n h = pins_read xs j n (omega arith)

pub answers_first : (nodes : List Node) (marks : List Mark) (k : ℕ) → AreMarks nodes marks →
    HasNoOpen marks → ((i : ℕ) → i < length nodes → mark_at marks i ≢ Fresh) → IsFirstLooped marks k → IsFirstFed (feeders_of nodes) k
answers_first nodes marks k a o f l = record {
  is = a.looped k l.is;
  first = λ i h from. let b = l.below in let n : i < length nodes = omega (arith, a.length_marks, b) in by_last nodes marks i (mark_at marks i) refl a (o i) (f i n) (l.first i h) from;
}

pub answers : (nodes : List Node) (marks : List Mark) (o : Option ℕ) → AreMarks nodes marks → HasNoOpen marks → ((i : ℕ) →
    i < length nodes → mark_at marks i ≢ Fresh) → MatchOption o ((i : ℕ) → i < length marks → mark_at marks i ≢ Looped) (IsFirstLooped marks) →
    MatchOption o ((i : ℕ) → i < length nodes → IsFedByLoop (feeders_of nodes) i → ⊥) (IsFirstFed (feeders_of nodes))
answers nodes marks None a n f h = answers_none nodes marks a n f (λ i l. h i (omega (arith, a.length_marks)))
answers nodes marks (Some k) a n f h = answers_first nodes marks k a n f h
