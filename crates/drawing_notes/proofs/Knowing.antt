-- From what the searches of one root answer to the loop that is known then.
use Rattle.std.proofs.Common.{◌≡◌, ℕ, zero, suc, ◌<◌, ◌==◌, ◌&&◌, ◌||◌, ◌⊎◌, inl, inr, Bool, true, false, cond, not, List, [], ◌∷◌, length, get_or, replicate, ap, sym, subst, refl, ◌∙◌, arith, Option, Some, None}
use Rattle.std.specs.Cmp.{both_ways}
use Rattle.std.specs.List.{All, Contains}
use Rattle.std.proofs.lemmas.Bool.{eqb-true, eq-eqb, or_cases, or_left, or_right}
use Rattle.std.proofs.lemmas.List.Elements.{Contains-get_or}
use Rattle.flat_circuit.specs.Circuit.{Circuit}
use Rattle.fixpoint_engine.specs.Settled.{marked_in}
use Rattle.fixpoint_engine.specs.Worklist.{Queue, IsQueue, among}
use Rattle.fixpoint_engine.proofs.Waiting.{marked_below, unmarked}
use Rattle.case_analysis.specs.Found.{Extends}
use Rattle.drawing_notes.specs.Parts.{ArePartly, part_at}
use Rattle.drawing_notes.specs.Paths.{leads, AreTogether}
use Rattle.drawing_notes.specs.Search.{IsFound, is_led_to}
use Rattle.drawing_notes.proofs.Mutual.{IsMutual, mutual_is, is_mutual, led_looped, looped_led}
use Rattle.drawing_notes.proofs.Parting.{Learns}
use Rattle.drawing_notes.proofs.Reaching.{turned}

-- ---- the nets of a queue

among_has : (nets : List ℕ) (i : ℕ) → among nets i ≡ true → Contains nets i
among_has [] i is = absurd cc
among_has (net ∷ nets) i is = elim (or_cases (net == i) (among nets i) is) [
  | inl here ↦ (0, omega arith, eqb-true net i here)
  | inr later ↦ let at = among_has nets i later in (suc at.0, (let below = at.1 in omega (arith, below)), at.2)
]

has_among : (nets : List ℕ) (i : ℕ) → Contains nets i → among nets i ≡ true
has_among [] i at = absurd (let below = at.1 in omega (arith, below))
has_among (net ∷ nets) i (zero, below, is) = or_left _ _ (eq-eqb net i is)
has_among (net ∷ nets) i (suc k, below, is) = or_right _ _ (has_among nets i (k, omega (arith, below), is))

pub queue_among : (q : Queue) → IsQueue q → (i : ℕ) → among q.nets i ≡ marked_in q.marks i
queue_among q queue i = both_ways _ _ (λ is. (queue.are i).1 (among_has q.nets i is)) (λ is. has_among q.nets i ((queue.are i).0 is))

-- ---- a search from one root

begun_marks : (n root : ℕ) (old new : Queue) → old.marks ≡ replicate n false → Extends (λ i. root == i) old new → (i : ℕ) → marked_in new.marks i ≡ (root == i)
begun_marks n root old new none extends i =
    extends.adds.marks i ∙ ap (λ (ms : List Bool). marked_in ms i || (root == i)) none ∙ ap (λ b. b || (root == i)) (unmarked n i)

pub found_from : (step : ℕ → ℕ → Bool) (within : ℕ → Bool) (n root : ℕ) (old begun found : Queue) → old.marks ≡ replicate n false →
    Extends (λ i. root == i) old begun → IsFound step within (marked_in begun.marks) (marked_in found.marks) → IsFound step within (λ i. root == i) (marked_in found.marks)
found_from step within n root old begun found none extends is =
    subst (λ (start : ℕ → Bool). IsFound step within start (marked_in found.marks)) (λ k i. begun_marks n root old begun none extends i k) is

-- ---- what is learned

-- how the nets of the second search are settled
pub record Settles (nets : List ℕ) (part : Option ℕ) (fresh less : List Bool) (parts more : List (Option ℕ)) : Type 0 where
  pub each_net : length less ≡ length fresh
  pub each_part : length more ≡ length parts
  pub settled : (i : ℕ) → marked_in less i ≡ (marked_in fresh i && not (among nets i))
  pub given : (i : ℕ) → part_at more i ≡ cond (among nets i) part (part_at parts i)

module _ (c : Circuit) (root : ℕ) (fresh less reached : List Bool) (shared : Queue) (parts more : List (Option ℕ)) (part : Option ℕ) where
  pub all_fresh : ArePartly c fresh parts → marked_in fresh root ≡ true → (i : ℕ) → AreTogether c root i → marked_in fresh i ≡ true
  all_fresh partly at_root i t = by (marked_in fresh i) refl
    where
      by : (b : Bool) → marked_in fresh i ≡ b → marked_in fresh i ≡ true
      by true is = is
      by false is = let known = partly.whole i root is (turned t) in absurd cc

  pub learns : root < length c.nets → marked_in fresh root ≡ true → IsQueue shared →
      IsMutual c root (marked_in fresh) (marked_in reached) (marked_in shared.marks) →
      part ≡ cond (is_led_to c (marked_in shared.marks) root) (Some root) None → Settles shared.nets part fresh less parts more →
      Learns c root (marked_in shared.marks) part fresh less parts more
  learns exists at_root queue is part_is settles = record {
    exists = exists;
    at_root = at_root;
    members = mutual_is c root (marked_in fresh) (marked_in reached) (marked_in shared.marks) is;
    all = is_mutual c root (marked_in fresh) (marked_in reached) (marked_in shared.marks) is;
    looped = λ some. led_looped c root (marked_in fresh) (marked_in reached) (marked_in shared.marks) is (led (is_led_to c (marked_in shared.marks) root) refl (sym part_is ∙ some));
    alone = λ none t.
        let looped = looped_led c root (marked_in fresh) (marked_in reached) (marked_in shared.marks) is t in
        let some : part ≡ Some root = part_is ∙ ap (λ b. cond b (Some root) None) looped in
        absurd cc;
    either = one_of (is_led_to c (marked_in shared.marks) root) part_is;
    each_net = settles.each_net;
    each_part = settles.each_part;
    less_is = λ i. settles.settled i ∙ ap (λ b. marked_in fresh i && not b) (queue_among shared queue i);
    more_is = λ i. settles.given i ∙ ap (λ b. cond b part (part_at parts i)) (queue_among shared queue i);
  }
    where
      led : (b : Bool) → is_led_to c (marked_in shared.marks) root ≡ b → cond b (Some root) None ≡ Some root → is_led_to c (marked_in shared.marks) root ≡ true
      led true is at = is
      led false is at = absurd cc

      one_of : (b : Bool) → part ≡ cond b (Some root) None → (part ≡ Some root) ⊎ (part ≡ None)
      one_of true at = inl at
      one_of false at = inr at

-- ---- one turn of the search

-- every net of a queue exists
pub queue_below : (q : Queue) (n : ℕ) → IsQueue q → length q.marks ≡ n → All (λ net. net < n) q.nets
queue_below q n queue each k d below =
    let marked = marked_below q.marks (get_or q.nets k d) ((queue.are (get_or q.nets k d)).1 (Contains-get_or q.nets k d below)) in
    omega (arith, marked, each)

-- What the search of one root learns: begun at the root it finds what is reached over fresh nets, and of these what leads back.
pub knows : (c : Circuit) (root : ℕ) (fresh less set : List Bool) (parts more : List (Option ℕ)) (part : Option ℕ) (none begun reached none_shared begun_shared shared : Queue) (nets : List ℕ) →
    ArePartly c fresh parts → root < length c.nets → marked_in fresh root ≡ true →
    none.marks ≡ replicate (length c.nets) false → Extends (λ i. root == i) none begun → IsFound (leads c) (marked_in fresh) (marked_in begun.marks) (marked_in reached.marks) →
    none_shared.marks ≡ replicate (length c.nets) false → Extends (λ i. root == i) none_shared begun_shared → set ≡ reached.marks →
    IsFound (λ from i. leads c i from) (marked_in set) (marked_in begun_shared.marks) (marked_in shared.marks) →
    IsQueue shared → nets ≡ shared.nets → part ≡ cond (is_led_to c (marked_in shared.marks) root) (Some root) None → Settles nets part fresh less parts more →
    Learns c root (marked_in shared.marks) part fresh less parts more
knows c root fresh less set parts more part none begun reached none_shared begun_shared shared nets partly exists at_root empty extends is empty_shared extends_shared within is_shared queue listed part_is settles =
    learns c root fresh less reached.marks shared parts more part exists at_root queue
    (record {
      reached_are = found_from (leads c) (marked_in fresh) (length c.nets) root none begun reached empty extends is;
      mutual_are = subst (λ (ms : List Bool). IsFound (λ from i. leads c i from) (marked_in ms) (λ i. root == i) (marked_in shared.marks)) within
          (found_from (λ from i. leads c i from) (marked_in set) (length c.nets) root none_shared begun_shared shared empty_shared extends_shared is_shared);
      all_fresh = all_fresh c root fresh less reached.marks shared parts more part partly at_root;
    })
    part_is
    (subst (λ (ns : List ℕ). Settles ns part fresh less parts more) listed settles)
