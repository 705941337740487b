-- Texts that are put on a paper one after another, and the texts of lists of words and of nodes.
use Rattle.std.proofs.Common.{◌≡◌, ℕ, ◌+◌, ◌<◌, ◌≤◌, List, [], ◌∷◌, ◌++◌, length, get_or, map, take, append_assoc, append-nil, refl, sym, ap, subst, ◌∙◌}
use Rattle.std.specs.Prelude.{false, IfOk, Result}
use Rattle.std.proofs.Common.{Ok, Err}
use Rattle.std.specs.List.{flat_map, range_with_len}
use Rattle.std.proofs.lemmas.List.{take_all}
use Rattle.std.proofs.lemmas.List.Concat.{flat_map-append}
use Rattle.listing.proofs.Parts.{item_added}
use Rattle.draw_report.specs.declared.paper.Paper.{Paper}
use Rattle.draw_report.specs.Element.{Node, Word, all_written, word_text, words_onto, words_text, written}
use Rattle.draw_report.specs.Paper.{Adds}
use Rattle.draw_report.proofs.Ranges.{flat_next}

-- ---- on a paper

pub adds_none : (old : Paper) → Adds old old []
adds_none old = λ fine. (fine, sym (append-nil old.bytes))

pub adds_same : (old new : Paper) (text other : List ℕ) → text ≡ other → Adds old new text →
    Adds old new other
adds_same old new text other same h = subst (λ (t : List ℕ). Adds old new t) same h

-- one text, and then another
pub adds_two : (old between new : Paper) (first second : List ℕ) → Adds old between first →
    Adds between new second → Adds old new (first ++ second)
adds_two old between new first second a b = λ fine.
    (let later = b fine in
    let earlier = a later.0 in (
      earlier.0,
      later.1 ∙ ap (λ (l : List ℕ). l ++ second) earlier.1
          ∙ append_assoc old.bytes first second,
    ))

pub adds_three : (old one two new : Paper) (first second third : List ℕ) → Adds old one first →
    Adds one two second → Adds two new third → Adds old new (first ++ (second ++ third))
adds_three old one two new first second third a b c =
    adds_two old one new first (second ++ third) a (adds_two one two new second third b c)

pub adds_four : (old one two three new : Paper) (first second third fourth : List ℕ) →
    Adds old one first → Adds one two second → Adds two three third → Adds three new fourth →
    Adds old new (first ++ (second ++ (third ++ fourth)))
adds_four old one two three new first second third fourth a b c d =
    adds_two old one new first (second ++ (third ++ fourth)) a
    (adds_three one two three new second third fourth b c d)

pub IfOk-both : {T E : Type 0} {P Q R : T → Type 0} (r : Result T E) → IfOk r P → IfOk r Q →
    ((x : T) → P x → Q x → R x) → IfOk r R
IfOk-both (Ok x) p q h = h x p q
IfOk-both (Err e) p q h = tt

-- what a text on an empty paper is in the end
pub done_all : {E : Type 0} (result : Result (List ℕ) E) (empty full : Paper) (all : List ℕ) →
    empty.bytes ≡ [] → Adds empty full all → IfOk result (λ bytes. full.failed ≡ false) →
    IfOk result (λ bytes. bytes ≡ full.bytes) → IfOk result (λ bytes. bytes ≡ all)
done_all result empty full all none put fine done =
    IfOk-both result fine done (λ bytes ok same.
    same ∙ (put ok).1 ∙ ap (λ (l : List ℕ). l ++ all) none)

pub done_text : {E : Type 0} (result : Result (List ℕ) E) (empty between full : Paper)
    (first second all : List ℕ) → empty.bytes ≡ [] → Adds empty between first →
    Adds between full second → IfOk result (λ bytes. full.failed ≡ false) →
    IfOk result (λ bytes. bytes ≡ full.bytes) → first ++ second ≡ all →
    IfOk result (λ bytes. bytes ≡ all)
done_text result empty between full first second all none a b fine done is =
    done_all result empty full all none
    (adds_same empty full (first ++ second) all is (adds_two empty between full first second a b))
    fine done

-- the texts of the items of a list, one more
pub adds_item : {X : Type 0} (f : X → List ℕ) (xs : List X) (i : ℕ) (d : X)
    (old between new : Paper) → i < length xs → Adds old between (flat_map f (take i xs)) →
    Adds between new (f (get_or xs i d)) → Adds old new (flat_map f (take (i + 1) xs))
adds_item f xs i d old between new within a b = λ fine.
    (let later = b fine in
    let earlier = a later.0 in
    (earlier.0, item_added f xs i d old.bytes between.bytes new.bytes within earlier.1 later.1))

-- and all of them
pub adds_all : {X : Type 0} (f : X → List ℕ) (xs : List X) (i : ℕ) (old new : Paper) →
    length xs ≤ i → Adds old new (flat_map f (take i xs)) → Adds old new (flat_map f xs)
adds_all f xs i old new past a =
    adds_same old new (flat_map f (take i xs)) (flat_map f xs)
    (ap (flat_map f) (take_all i xs past))
    a

-- ---- the texts of numbers from one on

pub adds_no_number : (f : ℕ → List ℕ) (from count : ℕ) (old : Paper) → count ≡ 0 →
    Adds old old (flat_map f (range_with_len from count))
adds_no_number f from count old none =
    subst (λ (n : ℕ). Adds old old (flat_map f (range_with_len from n))) (sym none) (adds_none old)

pub adds_number : (f : ℕ → List ℕ) (from count more k : ℕ) (old between new : Paper) →
    k ≡ from + count → more ≡ count + 1 →
    Adds old between (flat_map f (range_with_len from count)) → Adds between new (f k) →
    Adds old new (flat_map f (range_with_len from more))
adds_number f from count more k old between new next one a b =
    adds_same old new (flat_map f (range_with_len from count) ++ f k)
    (flat_map f (range_with_len from more)) (sym (flat_next f from count more k next one))
    (adds_two old between new (flat_map f (range_with_len from count)) (f k) a b)

pub adds_numbers : (f : ℕ → List ℕ) (from count all : ℕ) (old new : Paper) → count ≡ all →
    Adds old new (flat_map f (range_with_len from count)) →
    Adds old new (flat_map f (range_with_len from all))
adds_numbers f from count all old new same a =
    subst (λ (n : ℕ). Adds old new (flat_map f (range_with_len from n))) same a

-- ---- words

pub words_append : (a b : List Word) → words_text (a ++ b) ≡ words_text a ++ words_text b
words_append [] b = refl
words_append (w ∷ ws) b =
    ap (λ (l : List ℕ). word_text w ++ l) (words_append ws b)
    ∙ sym (append_assoc (word_text w) (words_text ws) (words_text b))

pub words_rest : (ws : List Word) (rest : List ℕ) → words_onto ws rest ≡ words_text ws ++ rest
words_rest [] rest = refl
words_rest (w ∷ ws) rest =
    ap (λ (l : List ℕ). word_text w ++ l) (words_rest ws rest)
    ∙ sym (append_assoc (word_text w) (words_text ws) rest)

pub words_flat_map : {X : Type 0} (f : X → List Word) (xs : List X) →
    words_text (flat_map f xs) ≡ flat_map (λ (x : X). words_text (f x)) xs
words_flat_map f [] = refl
words_flat_map f (x ∷ xs) =
    words_append (f x) (flat_map f xs)
    ∙ ap (λ (l : List ℕ). words_text (f x) ++ l) (words_flat_map f xs)

-- ---- nodes

pub nodes_append : (a b : List Node) → all_written (a ++ b) ≡ all_written a ++ all_written b
nodes_append a b = flat_map-append written a b

pub nodes_map : {X : Type 0} (f : X → Node) (xs : List X) →
    all_written (map f xs) ≡ flat_map (λ (x : X). written (f x)) xs
nodes_map f [] = refl
nodes_map f (x ∷ xs) = ap (λ (l : List ℕ). written (f x) ++ l) (nodes_map f xs)

pub nodes_flat_map : {X : Type 0} (f : X → List Node) (xs : List X) →
    all_written (flat_map f xs) ≡ flat_map (λ (x : X). all_written (f x)) xs
nodes_flat_map f [] = refl
nodes_flat_map f (x ∷ xs) =
    nodes_append (f x) (flat_map f xs)
    ∙ ap (λ (l : List ℕ). all_written (f x) ++ l) (nodes_flat_map f xs)

-- a function of a list of items that is that of each, as a loop over a slice puts it
pub nodes_item : {X : Type 0} (f : X → List Node) (xs : List X) (i : ℕ) (d : X)
    (old between new : Paper) → i < length xs →
    Adds old between (flat_map (λ (x : X). all_written (f x)) (take i xs)) →
    Adds between new (all_written (f (get_or xs i d))) →
    Adds old new (flat_map (λ (x : X). all_written (f x)) (take (i + 1) xs))
nodes_item f xs i d old between new within a b =
    adds_item (λ x. all_written (f x)) xs i d old between new within a b

pub nodes_all : {X : Type 0} (f : X → List Node) (xs : List X) (i : ℕ) (old new : Paper) →
    length xs ≤ i → Adds old new (flat_map (λ (x : X). all_written (f x)) (take i xs)) →
    Adds old new (all_written (flat_map f xs))
nodes_all f xs i old new past a =
    adds_same old new (flat_map (λ x. all_written (f x)) xs) (all_written (flat_map f xs))
    (sym (nodes_flat_map f xs)) (adds_all (λ x. all_written (f x)) xs i old new past a)

pub words_all : {X : Type 0} (f : X → List Word) (xs : List X) (i : ℕ) (old new : Paper) →
    length xs ≤ i → Adds old new (flat_map (λ (x : X). words_text (f x)) (take i xs)) →
    Adds old new (words_text (flat_map f xs))
words_all f xs i old new past a =
    adds_same old new (flat_map (λ x. words_text (f x)) xs) (words_text (flat_map f xs))
    (sym (words_flat_map f xs)) (adds_all (λ x. words_text (f x)) xs i old new past a)

-- the same over numbers from one on
pub nodes_numbers : (f : ℕ → List Node) (from count all : ℕ) (old new : Paper) → count ≡ all →
    Adds old new (flat_map (λ (k : ℕ). all_written (f k)) (range_with_len from count)) →
    Adds old new (all_written (flat_map f (range_with_len from all)))
nodes_numbers f from count all old new same a =
    adds_same old new (flat_map (λ k. all_written (f k)) (range_with_len from all))
    (all_written (flat_map f (range_with_len from all)))
    (sym (nodes_flat_map f (range_with_len from all)))
    (adds_numbers (λ k. all_written (f k)) from count all old new same a)

pub words_numbers : (f : ℕ → List Word) (from count all : ℕ) (old new : Paper) → count ≡ all →
    Adds old new (flat_map (λ (k : ℕ). words_text (f k)) (range_with_len from count)) →
    Adds old new (words_text (flat_map f (range_with_len from all)))
words_numbers f from count all old new same a =
    adds_same old new (flat_map (λ k. words_text (f k)) (range_with_len from all))
    (words_text (flat_map f (range_with_len from all)))
    (sym (words_flat_map f (range_with_len from all)))
    (adds_numbers (λ k. words_text (f k)) from count all old new same a)

-- nodes, and then others
pub nodes_two : (old between new : Paper) (a b : List Node) → Adds old between (all_written a) →
    Adds between new (all_written b) → Adds old new (all_written (a ++ b))
nodes_two old between new a b first second =
    adds_same old new (all_written a ++ all_written b) (all_written (a ++ b))
    (sym (nodes_append a b))
    (adds_two old between new (all_written a) (all_written b) first second)
