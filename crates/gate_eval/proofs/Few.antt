-- What is made of the cells of one wave or of two, by their slots.
use Rattle.std.proofs.Common.{◌≡◌, ℕ, zero, suc, ◌+◌, List, [], ◌∷◌, ◌<◌, ◌≤◌, ◌++◌, length, map, take, get_or, unwrap_or, refl, sym, ap, ◌∙◌, arith}
use Rattle.std.specs.Prelude.{replicate}
use Rattle.std.specs.List.{All, zip}
use Rattle.std.proofs.lemmas.List.{append_assoc, append-nil}
use Rattle.std.proofs.lemmas.Option.{unwrap_or-slice_get}
use Rattle.std.proofs.lemmas.List.Elements.{All-head, All-tail}
use Rattle.wave_core.specs.Slots.{slots_from, slots, SameUntil}
use Rattle.wave_core.proofs.Slots.{slots_push}
use Rattle.step_values.specs.declared.value.Value.{Value}
use Rattle.step_values.specs.Cell.{values}
use Rattle.skew_algebra.specs.Wave.{cell_at}
use Rattle.gate_eval.proofs.Passed.{own_slots}
use Rattle.gate_eval.proofs.Scanned.{map_next}
use Rattle.gate_eval.proofs.Seen.{slots_map}

pub alone_slots : (f : List Value → Value) (cells : List Value) (n : ℕ) → length cells ≡ n →
    map (λ (v : Value). f (v ∷ [])) cells ≡ slots n (λ p. f (cell_at values cells p ∷ []))
alone_slots f cells n long =
    ap (map (λ (v : Value). f (v ∷ []))) (sym (own_slots cells))
    ∙ slots_map (λ (v : Value). f (v ∷ [])) (length cells) (cell_at values cells)
    ∙ ap (λ (m : ℕ). slots m (λ p. f (cell_at values cells p ∷ []))) long

zip_slots_from : {A B : Type 0} (n i : ℕ) (f : ℕ → A) (h : ℕ → B) → zip (slots_from n i f) (slots_from n i h) ≡ slots_from n i (λ p. (f p, h p))
zip_slots_from zero i f h = refl
zip_slots_from (suc n) i f h = ap (λ l. (f i, h i) ∷ l) (zip_slots_from n (i + 1) f h)

-- what is made of two lists, slot by slot
pub zipped : (f : Value → Value → Value) (xs ys : List Value) (n : ℕ) (x y : ℕ → Value) → xs ≡ slots n x → ys ≡ slots n y →
    map (λ (q : Value × Value). f q.0 q.1) (zip xs ys) ≡ slots n (λ p. f (x p) (y p))
zipped f xs ys n x y x_is y_is =
    (λ j. map (λ (q : Value × Value). f q.0 q.1) (zip (x_is j) (y_is j)))
    ∙ ap (map (λ (q : Value × Value). f q.0 q.1)) (zip_slots_from n 0 x y)
    ∙ slots_map (λ (q : Value × Value). f q.0 q.1) n (λ p. (x p, y p))

pub as_slots : (cells : List Value) (n : ℕ) → length cells ≡ n → cells ≡ slots n (cell_at values cells)
as_slots cells n long = sym (own_slots cells) ∙ ap (λ (m : ℕ). slots m (cell_at values cells)) long

pub both_slots : (f : List Value → Value) (xs ys : List Value) (n : ℕ) → length xs ≡ n → length ys ≡ length xs →
    map (λ (q : Value × Value). f (q.0 ∷ q.1 ∷ [])) (zip xs ys) ≡ slots n (λ p. f (cell_at values xs p ∷ cell_at values ys p ∷ []))
both_slots f xs ys n long same =
    zipped (λ v u. f (v ∷ u ∷ [])) xs ys n (cell_at values xs) (cell_at values ys) (as_slots xs n long) (as_slots ys n (same ∙ long))

-- the same, if the list of the waves has one, or has two

pub alone_imaged : {U : Type 0} (f : List Value → Value) (cells : U → List Value) (waves : List U) (only : U) (n : ℕ) → length waves ≡ 1 →
    only ≡ get_or waves 0 only → All (λ u. length (cells u) ≡ n) waves →
    map (λ (v : Value). f (v ∷ [])) (cells only) ≡ slots n (λ p. f (map (λ u. cell_at values (cells u) p) waves))
alone_imaged f cells [] only n one is long = absurd (omega arith)
alone_imaged f cells (u ∷ []) only n one is long =
    ap (λ w. map (λ (v : Value). f (v ∷ [])) (cells w)) is
    ∙ alone_slots f (cells u) n (All-head (λ w. length (cells w) ≡ n) u [] long)
alone_imaged f cells (u ∷ v ∷ waves) only n one is long = absurd (omega arith)

pub both_imaged : {U : Type 0} (f : List Value → Value) (cells : U → List Value) (waves : List U) (one other : U) (n : ℕ) → length waves ≡ 2 →
    one ≡ get_or waves 0 one → other ≡ get_or waves 1 other → All (λ u. length (cells u) ≡ n) waves →
    map (λ (q : Value × Value). f (q.0 ∷ q.1 ∷ [])) (zip (cells one) (cells other)) ≡ slots n (λ p. f (map (λ u. cell_at values (cells u) p) waves))
both_imaged f cells [] one other n two is is' long = absurd (omega arith)
both_imaged f cells (u ∷ []) one other n two is is' long = absurd (omega arith)
both_imaged f cells (u ∷ v ∷ []) one other n two is is' long =
    let first : length (cells u) ≡ n = All-head (λ w. length (cells w) ≡ n) u (v ∷ []) long in
    let second : length (cells v) ≡ n = All-head (λ w. length (cells w) ≡ n) v [] (All-tail (λ w. length (cells w) ≡ n) u (v ∷ []) long) in
    ap (λ w. map (λ (q : Value × Value). f (q.0 ∷ q.1 ∷ [])) (zip (cells w) (cells other))) is
    ∙ ap (λ w. map (λ (q : Value × Value). f (q.0 ∷ q.1 ∷ [])) (zip (cells u) (cells w))) is'
    ∙ both_slots f (cells u) (cells v) n first (second ∙ sym first)
both_imaged f cells (u ∷ v ∷ w ∷ waves) one other n two is is' long = absurd (omega arith)

-- ---- from change to change

-- the same value in some slots more
pub slots_fill : (n a : ℕ) (f : ℕ → Value) (c : Value) → ((p : ℕ) → a ≤ p → p < a + n → f p ≡ c) → slots a f ++ replicate n c ≡ slots (a + n) f
slots_fill zero a f c is = append-nil (slots a f) ∙ (let same : a ≡ a + 0 = omega arith in ap (λ (m : ℕ). slots m f) same)
slots_fill (suc n) a f c is =
    let more : a + 1 + n ≡ a + suc n = omega arith in
    sym (append_assoc (slots a f) (c ∷ []) (replicate n c))
    ∙ ap (λ (l : List Value). l ++ replicate n c) (slots_push a f (slots a f) c refl (sym (is a (omega arith) (omega arith))))
    ∙ slots_fill n (a + 1) f c (λ p after before. is p (omega (arith, after)) (omega (arith, before)))
    ∙ ap (λ (m : ℕ). slots m f) more

-- the cell of a slot up to the change
pub same_value : (cells : List Value) (slot end p : ℕ) → SameUntil cells slot end → slot ≤ p → p < end → cell_at values cells p ≡ cell_at values cells slot
same_value cells slot end p same after before =
    sym (unwrap_or-slice_get cells p values.any) ∙ ap (λ o. unwrap_or o values.any) (same.same p after before) ∙ unwrap_or-slice_get cells slot values.any

-- one item more, of which two readings are the same
pub same_next : {U : Type 0} (f h : U → Value) (waves : List U) (i : ℕ) (w : U) → i < length waves → w ≡ get_or waves i w →
    map f (take i waves) ≡ map h (take i waves) → f w ≡ h w → map f (take (i + 1) waves) ≡ map h (take (i + 1) waves)
same_next f h waves i w below is so_far here =
    sym (map_next f waves i w (map h (take i waves)) (h w) below is (sym so_far) (sym here))
    ∙ map_next h waves i w (map h (take i waves)) (h w) below is refl refl

-- the cells of one wave more
pub same_more : {U : Type 0} (cells : U → List Value) (waves : List U) (i slot p : ℕ) (w : U) → i < length waves → w ≡ get_or waves i w →
    map (λ u. cell_at values (cells u) p) (take i waves) ≡ map (λ u. cell_at values (cells u) slot) (take i waves) →
    cell_at values (cells w) p ≡ cell_at values (cells w) slot →
    map (λ u. cell_at values (cells u) p) (take (i + 1) waves) ≡ map (λ u. cell_at values (cells u) slot) (take (i + 1) waves)
same_more cells waves i slot p w = same_next (λ u. cell_at values (cells u) p) (λ u. cell_at values (cells u) slot) waves i w
