-- Nodes that come to others change nothing of these.
use Rattle.std.proofs.Common.{◌≡◌, ℕ, zero, suc, ◌+◌, ◌-◌, List, [], ◌∷◌, ◌++◌, length, slice_get, refl, sym, ap, ◌∙◌, arith, Option, Some, None, append-nil, append_assoc}
use Rattle.critical_paths.specs.declared.path.Node.{Node}
use Rattle.critical_paths.specs.Known.{nodes_on, on_from, rest_of}

pub get_more : {X : Type 0} (xs ys : List X) (i : ℕ) (x : X) → slice_get xs i ≡ Some x →
    slice_get (xs ++ ys) i ≡ Some x
get_more [] ys i x is = absurd (cc)
get_more (y ∷ xs) ys zero x is = is
get_more (y ∷ xs) ys (suc i) x is = get_more xs ys i x is

pub get_end : {X : Type 0} (xs : List X) (y : X) → slice_get (xs ++ y ∷ []) (length xs) ≡ Some y
get_end [] y = refl
get_end (x ∷ xs) y = get_end xs y

pub nodes_more : (nodes more : List Node) (k i : ℕ) → length (nodes_on nodes k i) ≡ k →
    nodes_on (nodes ++ more) k i ≡ nodes_on nodes k i
nodes_more nodes more zero i long = refl
nodes_more nodes more (suc k) i long = by (slice_get nodes i) refl long
    (λ j rest. nodes_more nodes more k j rest)
  where
    by : (o : Option Node) → slice_get nodes i ≡ o → length (on_from o (nodes_on nodes k)) ≡ suc k →
        ((j : ℕ) → length (nodes_on nodes k j) ≡ k → nodes_on (nodes ++ more) k j
        ≡ nodes_on nodes k j) →
        nodes_on (nodes ++ more) (suc k) i ≡ on_from o (nodes_on nodes k)
    by None is long same = absurd (omega arith)
    by (Some n) is long same =
        ap (λ (o : Option Node). on_from o (nodes_on (nodes ++ more) k))
        (get_more nodes more i n is)
        ∙ ap (λ (l : List Node). n ∷ l) (same n.next (omega (arith, long)))

-- what lies after a node stays
pub rest_more : (nodes more : List Node) (n : Node) → n.count ≡ 1 + length (rest_of nodes n) →
    rest_of (nodes ++ more) n ≡ rest_of nodes n
rest_more nodes more n long = nodes_more nodes more (n.count - 1) n.next (omega arith)

-- a node before another has that and what lies after it
pub rest_before : (nodes : List Node) (n m : Node) → slice_get nodes n.next ≡ Some m → n.count
    ≡ m.count + 1 →
    m.count ≡ 1 + length (rest_of nodes m) → rest_of nodes n ≡ m ∷ rest_of nodes m
rest_before nodes n m is count long =
    by (n.count - 1) (m.count - 1) (omega arith)
  where
    by : (k l : ℕ) → k ≡ l + 1 → nodes_on nodes k n.next ≡ m ∷ nodes_on nodes l m.next
    by zero l e = absurd (omega arith)
    by (suc k) l e =
        let same : k ≡ l = omega arith in
        ap (λ (o : Option Node). on_from o (nodes_on nodes k)) is
        ∙ ap (λ (x : ℕ). m ∷ nodes_on nodes x m.next) same

-- ---- a way, one node after the other

pub way_more : (nodes way all : List Node) (k l next : ℕ) (n : Node) → k ≡ suc l →
    slice_get nodes next ≡ Some n →
    way ++ nodes_on nodes k next ≡ all → (way ++ n ∷ []) ++ nodes_on nodes l n.next ≡ all
way_more nodes way all k l next n one is so_far =
    append_assoc way (n ∷ []) (nodes_on nodes l n.next)
    ∙ sym (ap (λ (o : Option Node). way ++ on_from o (nodes_on nodes l)) is)
    ∙ sym (ap (λ (j : ℕ). way ++ nodes_on nodes j next) one) ∙ so_far

pub way_short : (nodes way all : List Node) (k next : ℕ) → slice_get nodes next ≡ None →
    way ++ nodes_on nodes k next ≡ all → way ≡ all
way_short nodes way all zero next none so_far = sym (append-nil way) ∙ so_far
way_short nodes way all (suc k) next none so_far =
    sym (append-nil way) ∙ sym (ap (λ (o : Option Node). way ++ on_from o (nodes_on nodes k)) none)
    ∙ so_far

pub way_done : (nodes way all : List Node) (k next : ℕ) → k ≡ 0 → way ++ nodes_on nodes k next
    ≡ all → way ≡ all
way_done nodes way all k next done so_far =
    sym (append-nil way) ∙ sym (ap (λ (j : ℕ). way ++ nodes_on nodes j next) done) ∙ so_far
