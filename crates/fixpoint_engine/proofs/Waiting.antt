-- Queues of nets: what goes in, what comes out, and how many wait.
use Rattle.std.proofs.Common.{◌≡◌, ℕ, zero, suc, ◌+◌, ◌<◌, ◌≤◌, ◌==◌, ◌⊎◌, inl, inr, Bool, true, false, cond, List, [], ◌∷◌, ◌++◌, length, get_or, replicate, refl, sym, ap, subst, zero-add, ◌∙◌, arith, count_by, All}
use Rattle.std.specs.List.{Contains}
use Rattle.std.proofs.Math.ListN.{set}
use Rattle.std.proofs.lemmas.Bool.{both_ways, eqb-true, eqb-false, false_from_ne_true}
use Rattle.std.proofs.lemmas.List.{get_or-set_same, get_or-set_other, length-replicate, length_push, ext_get_or}
use Rattle.std.proofs.lemmas.List.Elements.{Contains-append_left, Contains-push, Contains-push_cases, Contains-get_or}
use Rattle.std.proofs.lemmas.List.Sums.{sum_by-cons, sum_by-set, count_by-le-length}
use Rattle.fixpoint_engine.specs.Settled.{marked_in}
use Rattle.fixpoint_engine.specs.Worklist.{Queue, IsQueue}

-- ---- marks

pub marked_below : (marks : List Bool) (i : ℕ) → marked_in marks i ≡ true → i < length marks
marked_below [] i marked = cc
marked_below (m ∷ marks) zero marked = omega arith
marked_below (m ∷ marks) (suc i) marked = let below = marked_below marks i marked in omega (arith, below)

pub marked_set : (marks : List Bool) (net i : ℕ) (mark : Bool) → net < length marks → marked_in (set marks net mark) i ≡ cond (net == i) mark (marked_in marks i)
marked_set marks net i mark below = by (net == i) refl
  where
    by : (same : Bool) → (net == i) ≡ same → marked_in (set marks net mark) i ≡ cond same mark (marked_in marks i)
    by true e = ap (λ k. marked_in (set marks net mark) k) (sym (eqb-true net i e)) ∙ get_or-set_same marks net mark false below
    by false e = get_or-set_other marks net i mark false (λ same. eqb-false net i e (sym same))

pub unmarked : (n i : ℕ) → marked_in (replicate n false) i ≡ false
unmarked zero i = refl
unmarked (suc n) zero = refl
unmarked (suc n) (suc i) = unmarked n i

pub count_set : (marks : List Bool) (net : ℕ) (mark : Bool) → net < length marks →
    count_by (λ b. b) (set marks net mark) + cond (marked_in marks net) 1 0 ≡ count_by (λ b. b) marks + cond mark 1 0
count_set marks net mark below = sum_by-set (λ b. cond b 1 0) marks net mark false below

-- ---- how many are marked

none_marked : (marks : List Bool) → ((i : ℕ) → marked_in marks i ≡ true → ⊥) → count_by (λ b. b) marks ≡ 0
none_marked [] none = refl
none_marked (true ∷ marks) none = absurd (none 0 refl)
none_marked (false ∷ marks) none = sum_by-cons (λ b. cond b 1 0) false marks ∙ zero-add (count_by (λ b. b) marks) ∙ none_marked marks (λ i. none (suc i))

first_or_later : (net : ℕ) (nets : List ℕ) (i : ℕ) → Contains (net ∷ nets) i → (net ≡ i) ⊎ Contains nets i
first_or_later net nets i (zero, below, is) = inl is
first_or_later net nets i (suc k, below, is) = inr (k, omega arith, is)

-- No more are marked than a list has, if it has each that is marked.
most_marked : (nets : List ℕ) (marks : List Bool) → ((i : ℕ) → marked_in marks i ≡ true → Contains nets i) → count_by (λ b. b) marks ≤ length nets
most_marked [] marks all = let none = none_marked marks (λ i marked. let at = all i marked in absurd (omega arith)) in omega (arith, none)
most_marked (net ∷ nets) marks all = by (most_marked nets) (marked_in marks net) refl
  where
    later : (i : ℕ) → marked_in marks i ≡ true → (net ≡ i → ⊥) → Contains nets i
    later i marked other = elim (first_or_later net nets i (all i marked)) [ inl same ↦ absurd (other same) | inr at ↦ at ]

    rest : net < length marks → (i : ℕ) (same : Bool) → (net == i) ≡ same → cond same false (marked_in marks i) ≡ true → Contains nets i
    rest below i true e marked = cc
    rest below i false e marked = later i marked (eqb-false net i e)

    by : ((fewer : List Bool) → ((i : ℕ) → marked_in fewer i ≡ true → Contains nets i) → count_by (λ b. b) fewer ≤ length nets) → (here : Bool) → marked_in marks net ≡ here →
        count_by (λ b. b) marks ≤ length (net ∷ nets)
    by most-of true here =
        let below = marked_below marks net here in
        let fewer : count_by (λ b. b) (set marks net false) + 1 ≡ count_by (λ b. b) marks + 0 =
        (λ k. count_by (λ b. b) (set marks net false) + cond (sym here k) 1 0) ∙ count_set marks net false below in
        let most = most-of (set marks net false) (λ i marked. rest below i (net == i) refl (sym (marked_set marks net i false below) ∙ marked)) in
        omega (arith, fewer, most)
    by most-of false here =
        let most = most-of marks (λ i marked. later i marked (λ same. both_ways (marked_in marks i) (ap (marked_in marks) (sym same) ∙ here) marked)) in
        omega (arith, most)

-- ---- a net goes in

pub added_queue : (nets : List ℕ) (marks : List Bool) (net : ℕ) → IsQueue (record { nets = nets; marks = marks }) → net < length marks → marked_in marks net ≡ false →
    IsQueue (record { nets = nets ++ net ∷ []; marks = set marks net true })
added_queue nets marks net queue below free = record {
  are = λ i. (λ marked. into i (net == i) refl (sym (marked_set marks net i true below) ∙ marked), λ at. marked_set marks net i true below ∙ out i (net == i) refl at);
  once =
      let more = length_push nets net in
      let counted : count_by (λ b. b) (set marks net true) + 0 ≡ count_by (λ b. b) marks + 1 =
      (λ k. count_by (λ b. b) (set marks net true) + cond (sym free k) 1 0) ∙ count_set marks net true below in
      let once = queue.once in
      omega (arith, more, counted, once);
}
  where
    into : (i : ℕ) (same : Bool) → (net == i) ≡ same → cond same true (marked_in marks i) ≡ true → Contains (nets ++ net ∷ []) i
    into i true e marked = let P : ℕ → Type 0 = Contains (nets ++ net ∷ []) in subst P (eqb-true net i e) (Contains-push nets net)
    into i false e marked = Contains-append_left nets (net ∷ []) i ((queue.are i).0 marked)

    out : (i : ℕ) (same : Bool) → (net == i) ≡ same → Contains (nets ++ net ∷ []) i → cond same true (marked_in marks i) ≡ true
    out i true e at = refl
    out i false e at = elim (Contains-push_cases nets net i at) [ inl old ↦ (queue.are i).1 old | inr is ↦ absurd (eqb-false net i e is) ]

-- ---- the last net comes out

last_marked : (nets : List ℕ) (marks : List Bool) (last : ℕ) → IsQueue (record { nets = nets ++ last ∷ []; marks = marks }) → marked_in marks last ≡ true
last_marked nets marks last queue = (queue.are last).1 (Contains-push nets last)

pub last_below : (nets : List ℕ) (marks : List Bool) (last : ℕ) → IsQueue (record { nets = nets ++ last ∷ []; marks = marks }) → last < length marks
last_below nets marks last queue = marked_below marks last (last_marked nets marks last queue)

-- It stood there once.
last_once : (nets : List ℕ) (marks : List Bool) (last : ℕ) → IsQueue (record { nets = nets ++ last ∷ []; marks = marks }) → Contains nets last → ⊥
last_once nets marks last queue again =
    let most = most_marked nets marks (λ i marked. elim (Contains-push_cases nets last i ((queue.are i).0 marked)) [ inl at ↦ at | inr is ↦ subst (Contains nets) is again ]) in
    let more = length_push nets last in
    let once = queue.once in
    omega (arith, most, more, once)

pub taken_queue : (nets : List ℕ) (marks : List Bool) (last : ℕ) → IsQueue (record { nets = nets ++ last ∷ []; marks = marks }) → IsQueue (record { nets = nets; marks = set marks last false })
taken_queue nets marks last queue = record {
  are = λ i. (λ marked. into i (last == i) refl (sym (marked_set marks last i false below) ∙ marked), λ at. marked_set marks last i false below ∙ out i (last == i) refl at);
  once =
      let more = length_push nets last in
      let counted : count_by (λ b. b) (set marks last false) + 1 ≡ count_by (λ b. b) marks + 0 =
      (λ k. count_by (λ b. b) (set marks last false) + cond (sym (last_marked nets marks last queue) k) 1 0) ∙ count_set marks last false below in
      let once = queue.once in
      omega (arith, more, counted, once);
}
  where
    below : last < length marks
    below = last_below nets marks last queue

    into : (i : ℕ) (same : Bool) → (last == i) ≡ same → cond same false (marked_in marks i) ≡ true → Contains nets i
    into i true e marked = cc
    into i false e marked = elim (Contains-push_cases nets last i ((queue.are i).0 marked)) [ inl at ↦ at | inr is ↦ absurd (eqb-false last i e is) ]

    out : (i : ℕ) (same : Bool) → (last == i) ≡ same → Contains nets i → cond same false (marked_in marks i) ≡ true
    out i true e at = absurd (last_once nets marks last queue (subst (Contains nets) (sym (eqb-true last i e)) at))
    out i false e at = (queue.are i).1 (Contains-append_left nets (last ∷ []) i at)

-- ---- the same by what code knows

pub same_queue : (nets new : List ℕ) (marks set : List Bool) → new ≡ nets → set ≡ marks → IsQueue (record { nets = nets; marks = marks }) → IsQueue (record { nets = new; marks = set })
same_queue nets new marks set same-nets same-marks queue =
    subst (λ (ms : List Bool). IsQueue (record { nets = new; marks = ms })) (sym same-marks) (subst (λ (ns : List ℕ). IsQueue (record { nets = ns; marks = marks })) (sym same-nets) queue)

pub take_last : (nets rest : List ℕ) (marks less : List Bool) (last : ℕ) → nets ≡ rest ++ last ∷ [] →
    less ≡ set marks last false → IsQueue (record { nets = nets; marks = marks }) → IsQueue (record { nets = rest; marks = less })
take_last nets rest marks less last ends unmarks queue =
    same_queue rest rest (set marks last false) less refl unmarks (taken_queue rest marks last (same_queue nets (rest ++ last ∷ []) marks marks (sym ends) refl queue))

pub last_exists : (nets rest : List ℕ) (marks : List Bool) (last : ℕ) → nets ≡ rest ++ last ∷ [] → IsQueue (record { nets = nets; marks = marks }) → last < length marks
last_exists nets rest marks last ends queue = last_below rest marks last (same_queue nets (rest ++ last ∷ []) marks marks (sym ends) refl queue)

pub add_net : (nets more : List ℕ) (marks new : List Bool) (net : ℕ) → more ≡ nets ++ net ∷ [] →
    new ≡ set marks net true → net < length marks → marked_in marks net ≡ false → IsQueue (record { nets = nets; marks = marks }) →
    IsQueue (record { nets = more; marks = new })
add_net nets more marks new net ends sets below free queue = same_queue (nets ++ net ∷ []) more (set marks net true) new ends sets (added_queue nets marks net queue below free)

-- ---- no net waits

pub none_waits : (marks : List Bool) → IsQueue (record { nets = []; marks = marks }) → marks ≡ replicate (length marks) false
none_waits marks queue =
    ext_get_or false marks (replicate (length marks) false) (sym (length-replicate (length marks) false))
    (λ i below. false_from_ne_true (marked_in marks i) (λ marked. let at = (queue.are i).0 marked in absurd (omega arith)) ∙ sym (unmarked (length marks) i))

-- ---- the nets that wait exist

-- No more wait than there are nets.
pub waiting_few : (q : Queue) → IsQueue q → length q.nets ≤ length q.marks
waiting_few q queue = let few = count_by-le-length (λ b. b) q.marks in let once = queue.once in omega (arith, few, once)

pub waiting_below : (q : Queue) → IsQueue q → All (λ i. i < length q.marks) q.nets
waiting_below q queue k d below = marked_below q.marks (get_or q.nets k d) ((queue.are (get_or q.nets k d)).1 (Contains-get_or q.nets k d below))
