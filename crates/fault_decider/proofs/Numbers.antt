-- Texts of numbers that count on, of the nets of a circuit in the order of names, and of lines of
-- two calls.
use Rattle.std.proofs.Common.{◌≡◌, ℕ, Bool, true, false, ◌+◌, ◌-◌, ◌<◌, ◌≤◌, List, [], ◌∷◌, ◌++◌, length, take, flat_map, map-id, append-nil, append_assoc, refl, sym, ap, ◌∙◌, arith}
use Rattle.std.specs.Prelude.{◌==◌, codes, decimal, if◌then◌else◌, map}
use Rattle.std.proofs.lemmas.Bool.{eqb-true}
use Rattle.scald_base.specs.Time.{Bounds}
use Rattle.fault_decider.specs.Choices.{bound_line}
use Rattle.std.specs.List.{concat, range_with_len}
use Rattle.std.proofs.lemmas.List.{take_all}
use Rattle.std.proofs.lemmas.List.Concat.{flat_map-append}
use Rattle.std.proofs.lemmas.List.FromFn.{map-range_with_len_more}
use Rattle.flat_circuit.specs.Circuit.{Circuit, IsCircuit}
use Rattle.flat_circuit.specs.Name.{net_at}
use Rattle.flat_circuit.proofs.Numbered.{order_long}
use Rattle.listing.specs.Text.{line}
use Rattle.listing.specs.declared.piece.Piece.{Piece}
use Rattle.listing.specs.Piece.{piece_text}
use Rattle.listing.proofs.Parts.{both, item_added}

range_more : (a n : ℕ) → range_with_len a (n + 1) ≡ range_with_len a n ++ (a + n) ∷ []
range_more a n =
    sym (map-id (range_with_len a (n + 1))) ∙ map-range_with_len_more (λ (x : ℕ). x) a n (a + n) refl
    ∙ ap (λ (l : List ℕ). l ++ (a + n) ∷ []) (map-id (range_with_len a n))

-- the text of one number more
numbers_more : (f : ℕ → List ℕ) (a n : ℕ) →
    flat_map f (range_with_len a (n + 1)) ≡ flat_map f (range_with_len a n) ++ f (a + n)
numbers_more f a n =
    ap (flat_map f) (range_more a n) ∙ flat_map-append f (range_with_len a n) ((a + n) ∷ [])
    ∙ ap (λ (l : List ℕ). flat_map f (range_with_len a n) ++ l) (append-nil (f (a + n)))

pub number_added : (f : ℕ → List ℕ) (a n : ℕ) (old between new : List ℕ) →
    between ≡ old ++ flat_map f (range_with_len a n) → new ≡ between ++ f (a + n) →
    new ≡ old ++ flat_map f (range_with_len a (n + 1))
number_added f a n old between new before added =
    both old between new (flat_map f (range_with_len a n)) (f (a + n)) before added
    ∙ ap (λ (l : List ℕ). old ++ l) (sym (numbers_more f a n))

-- the first is 0
pub next_added : (f : ℕ → List ℕ) (n : ℕ) (old between new : List ℕ) →
    between ≡ old ++ flat_map f (range_with_len 0 n) → new ≡ between ++ f n →
    new ≡ old ++ flat_map f (range_with_len 0 (n + 1))
next_added f n old between new before added =
    let same : n ≡ 0 + n = omega arith in
    number_added f 0 n old between new before (added ∙ ap (λ (m : ℕ). between ++ f m) same)

-- from a number on
pub tick_added : (f : ℕ → List ℕ) (a t : ℕ) (old between new : List ℕ) → a ≤ t →
    between ≡ old ++ flat_map f (range_with_len a (t - a)) → new ≡ between ++ f t →
    new ≡ old ++ flat_map f (range_with_len a (t + 1 - a))
tick_added f a t old between new later before added =
    let same : t ≡ a + (t - a) = omega (arith, later) in
    let more : (t - a) + 1 ≡ t + 1 - a = omega (arith, later) in
    number_added f a (t - a) old between new before (added ∙ ap (λ (m : ℕ). between ++ f m) same)
    ∙ ap (λ (m : ℕ). old ++ flat_map f (range_with_len a m)) more

-- all numbers of instances
pub numbers_whole : (f : ℕ → List ℕ) (n all : ℕ) (old new : List ℕ) → n ≡ all →
    new ≡ old ++ flat_map f (range_with_len 0 n) → new ≡ old ++ flat_map f (range_with_len 0 all)
numbers_whole f n all old new same is = is ∙ ap (λ (m : ℕ). old ++ flat_map f (range_with_len 0 m)) same

-- the net at a place in the order of names, one more
pub net_added : (c : Circuit) (f : ℕ → List ℕ) (place : ℕ) (old between new : List ℕ) → IsCircuit c →
    place < length c.nets → between ≡ old ++ flat_map f (take place c.order) →
    new ≡ between ++ f (net_at c.order place) → new ≡ old ++ flat_map f (take (place + 1) c.order)
net_added c f place old between new is within before added =
    let long = order_long c.nets c.order is.by_name in
    item_added f c.order place 0 old between new (omega (arith, long)) before added

pub nets_whole : (c : Circuit) (f : ℕ → List ℕ) (place : ℕ) (old new : List ℕ) → IsCircuit c → length c.nets ≤ place →
    new ≡ old ++ flat_map f (take place c.order) → new ≡ old ++ flat_map f c.order
nets_whole c f place old new is past so_far =
    let long = order_long c.nets c.order is.by_name in
    so_far ∙ ap (λ (l : List ℕ). old ++ flat_map f l) (take_all place c.order (omega (arith, long)))

-- ---- a line, of which another call puts the front

pieces_text : (ps : List Piece) → flat_map piece_text ps ≡ concat (map piece_text ps)
pieces_text [] = refl
pieces_text (p ∷ ps) = ap (λ (l : List ℕ). piece_text p ++ l) (pieces_text ps)

line_after : (texts others : List (List ℕ)) → concat texts ++ line others ≡ line (texts ++ others)
line_after [] others = refl
line_after (t ∷ ts) others =
    append_assoc t (concat ts) (line others) ∙ ap (λ (l : List ℕ). t ++ l) (line_after ts others)
    ∙ sym (append_assoc t (concat (ts ++ others)) (10 ∷ []))

pub line_added : (ps : List Piece) (others : List (List ℕ)) (old between new : List ℕ) →
    between ≡ old ++ flat_map piece_text ps → new ≡ between ++ line others →
    new ≡ old ++ line (map piece_text ps ++ others)
line_added ps others old between new before added =
    both old between new (flat_map piece_text ps) (line others) before added
    ∙ ap (λ (l : List ℕ). old ++ l)
    (ap (λ (l : List ℕ). l ++ line others) (pieces_text ps) ∙ line_after (map piece_text ps) others)

apart : (a b : ℕ) → (a ≡ b → ⊥) → (a == b) ≡ false
apart a b other = by (a == b) refl
  where
    by : (same : Bool) → (a == b) ≡ same → (a == b) ≡ false
    by true e = absurd (other (eqb-true a b e))
    by false e = e

-- the same, of texts
pub texts_added : (texts others : List (List ℕ)) (old between new : List ℕ) →
    between ≡ old ++ concat texts → new ≡ between ++ line others → new ≡ old ++ line (texts ++ others)
texts_added texts others old between new before added =
    both old between new (concat texts) (line others) before added
    ∙ ap (λ (l : List ℕ). old ++ l) (line_after texts others)

-- a line of a number within bounds that are two numbers
pub bound_added : (ps : List Piece) (n least greatest a b d : ℕ) (old between new : List ℕ) →
    a ≡ n → b ≡ least → d ≡ greatest → (least ≡ greatest → ⊥) →
    between ≡ old ++ flat_map piece_text ps →
    new ≡ between ++ line (decimal a ∷ codes " OF " ∷ decimal b ∷ codes ":" ∷ decimal d ∷ []) →
    new ≡ old ++ bound_line (map piece_text ps) n (record { min = least; max = greatest })
bound_added ps n least greatest a b d old between new is_n is_least is_greatest other before added =
    let texts : ℕ → ℕ → ℕ → List (List ℕ) =
    λ x y z. decimal x ∷ codes " OF " ∷ decimal y ∷ codes ":" ∷ decimal z ∷ [] in
    let rest : List (List ℕ) = texts n least greatest in
    let same : texts a b d ≡ rest =
    ap (λ (x : ℕ). texts x b d) is_n ∙ ap (λ (y : ℕ). texts n y d) is_least
    ∙ ap (λ (z : ℕ). texts n least z) is_greatest in
    line_added ps rest old between new before (added ∙ ap (λ (t : List (List ℕ)). between ++ line t) same)
    ∙ ap (λ (t : Bool). old ++ (if t then [] else line (map piece_text ps ++ rest))) (sym (apart least greatest other))

-- a text and the byte at its end
pub ended_text : (old between new text : List ℕ) → between ≡ old ++ text → new ≡ between ++ 10 ∷ [] →
    new ≡ old ++ line (text ∷ [])
ended_text old between new text before added =
    both old between new text (10 ∷ []) before added
    ∙ ap (λ (t : List ℕ). old ++ (t ++ 10 ∷ [])) (sym (append-nil text))
