-- Lists of stretches, and the numbers that they hold.
use Rattle.std.proofs.Common.{◌≡◌, ℕ, zero, suc, ◌+◌, ◌-◌, ◌<◌, ◌≤◌, List, [], ◌∷◌, ◌++◌, length, map, get_or, set, take, refl, ap, sym, subst, ◌∙◌, arith}
use Rattle.std.specs.List.{flat_map, range_with_len}
use Rattle.std.specs.List.Sorted.{IsPermutation}
use Rattle.std.proofs.lemmas.List.{append_assoc, append-nil}
use Rattle.std.proofs.lemmas.List.Concat.{flat_map-append}
use Rattle.std.proofs.lemmas.List.Sorted.{IsPermutation-refl, IsPermutation-trans, IsPermutation-append_left, IsPermutation-append_right, IsPermutation-append_comm, IsPermutation-keeps}
use Rattle.std.proofs.lemmas.List.Edits.{swap_is}
use Rattle.std.specs.List.{swap}
use borrow.Rule.Slice.PartMut.{mid_of, post_of, put_mid, put_same}
use Rattle.flat_circuit.specs.declared.order.Stretch.{Stretch}
use Rattle.flat_circuit.specs.Stretch.{numbers_of}

-- ---- a list in another order holds the same

module _ {X A : Type 0} (f : X → List A) where
  -- two parts at the front in each other's place
  turned : (us vs ws : List A) → IsPermutation (us ++ (vs ++ ws)) (vs ++ (us ++ ws))
  turned us vs ws =
      subst (λ l. IsPermutation (us ++ (vs ++ ws)) l) (append_assoc vs us ws)
      (subst (λ l. IsPermutation l ((vs ++ us) ++ ws)) (append_assoc us vs ws) (IsPermutation-append_left ws (us ++ vs) (vs ++ us) (IsPermutation-append_comm us vs)))

  -- an element before a list, and one of the list in each other's place
  swapped_in : (xs : List X) (j : ℕ) (x d : X) → j < length xs → IsPermutation (f x ++ flat_map f xs) (f (get_or xs j d) ++ flat_map f (set xs j x))
  swapped_in [] j x d l = absurd (omega arith)
  swapped_in (y ∷ ys) zero x d l = turned (f x) (f y) (flat_map f ys)
  swapped_in (y ∷ ys) (suc j) x d l =
      IsPermutation-trans _ _ _ (turned (f x) (f y) (flat_map f ys))
      (IsPermutation-trans _ _ _ (IsPermutation-append_right (f y) _ _ (swapped_in ys j x d (omega arith))) (turned (f y) (f (get_or ys j d)) (flat_map f (set ys j x))))

  exchanged : (xs : List X) (i j : ℕ) (d : X) → i < length xs → j < length xs → IsPermutation (flat_map f xs) (flat_map f (set (set xs i (get_or xs j d)) j (get_or xs i d)))
  exchanged [] i j d p q = absurd (omega arith)
  exchanged (x ∷ xs) zero zero d p q = IsPermutation-refl (flat_map f (x ∷ xs))
  exchanged (x ∷ xs) zero (suc j) d p q = swapped_in xs j x d (omega arith)
  exchanged (x ∷ xs) (suc i) zero d p q = swapped_in xs i x d (omega arith)
  exchanged (x ∷ xs) (suc i) (suc j) d p q = IsPermutation-append_right (f x) _ _ (exchanged xs i j d (omega arith) (omega arith))

  swapped : (xs : List X) (i j : ℕ) → i < length xs → j < length xs → IsPermutation (flat_map f xs) (flat_map f (swap xs i j))
  swapped [] i j p q = absurd (omega arith)
  swapped (x ∷ xs) i j p q = subst (λ l. IsPermutation (flat_map f (x ∷ xs)) (flat_map f l)) (swap_is (x ∷ xs) i j x p q) (exchanged (x ∷ xs) i j x p q)

  pub flat_map_permutation : (xs ys : List X) → IsPermutation xs ys → IsPermutation (flat_map f xs) (flat_map f ys)
  flat_map_permutation xs ys = IsPermutation-keeps xs (λ l. IsPermutation (flat_map f xs) (flat_map f l)) (IsPermutation-refl (flat_map f xs))
      (λ l i j p q h. IsPermutation-trans _ _ _ h (swapped l i j p q)) ys

  -- what holds of a part of a list holds of the whole
  pub flat_map_part : (a k : ℕ) (xs ys : List X) → IsPermutation (flat_map f (mid_of a k xs)) (flat_map f ys) → IsPermutation (flat_map f xs) (flat_map f (put_mid a k xs ys))
  flat_map_part a k xs ys h =
      let whole : flat_map f (take a xs) ++ (flat_map f (mid_of a k xs) ++ flat_map f (post_of a k xs)) ≡ flat_map f xs =
      sym (flat_map-append f (take a xs) (mid_of a k xs ++ post_of a k xs)
      ∙ ap (λ l. flat_map f (take a xs) ++ l) (flat_map-append f (mid_of a k xs) (post_of a k xs))) ∙ ap (flat_map f) (put_same a k xs) in
      let parts : flat_map f (take a xs) ++ (flat_map f ys ++ flat_map f (post_of a k xs)) ≡ flat_map f (put_mid a k xs ys) =
      sym (flat_map-append f (take a xs) (ys ++ post_of a k xs)
      ∙ ap (λ l. flat_map f (take a xs) ++ l) (flat_map-append f ys (post_of a k xs))) in
      subst (λ l. IsPermutation l (flat_map f (put_mid a k xs ys))) whole (subst (λ l. IsPermutation (flat_map f (take a xs) ++ (flat_map f (mid_of a k xs) ++ flat_map f (post_of a k xs))) l) parts
      (IsPermutation-append_right (flat_map f (take a xs)) _ _ (IsPermutation-append_left (flat_map f (post_of a k xs)) _ _ h)))

-- the numbers of a list are those of its elements' lists
pub flat_map_by_map : {X A : Type 0} (f : X → List A) (xs ys : List X) → map f xs ≡ map f ys → flat_map f xs ≡ flat_map f ys
flat_map_by_map f [] [] h = refl
flat_map_by_map f [] (y ∷ ys) h = absurd (cc)
flat_map_by_map f (x ∷ xs) [] h = absurd (cc)
flat_map_by_map f (x ∷ xs) (y ∷ ys) h =
    let e : f x ≡ f y = cc in
    let r : map f xs ≡ map f ys = cc in
    ap (λ l. l ++ flat_map f xs) e ∙ ap (λ l. f y ++ l) (flat_map_by_map f xs ys r)

-- ---- numbers one after another

range_split : (a m n : ℕ) → range_with_len a m ++ range_with_len (a + m) n ≡ range_with_len a (m + n)
range_split a zero n =
    let e : a + 0 ≡ a = omega arith in
    let k : n ≡ 0 + n = omega arith in
    ap (λ b. range_with_len b n) e ∙ ap (range_with_len a) k
range_split a (suc m) n =
    let e : a + suc m ≡ a + 1 + m = omega arith in
    let k : suc (m + n) ≡ suc m + n = omega arith in
    ap (λ l. a ∷ l) (ap (λ b. range_with_len (a + 1) m ++ range_with_len b n) e ∙ range_split (a + 1) m n) ∙ ap (range_with_len a) k

-- the numbers before one and those from it on to another
pub ranges_joined : (b e : ℕ) → b ≤ e → range_with_len 0 b ++ range_with_len b (e - b) ≡ range_with_len 0 e
ranges_joined b e l =
    let z : b ≡ 0 + b = omega arith in
    let s : b + (e - b) ≡ e = omega arith in
    ap (λ c. range_with_len 0 b ++ range_with_len c (e - b)) z ∙ range_split 0 b (e - b) ∙ ap (range_with_len 0) s

-- a stretch more
pub stretch_more : (ss : List Stretch) (s : Stretch) (b e : ℕ) → b ≤ e → s.begin ≡ b → s.end ≡ e → flat_map numbers_of ss ≡ range_with_len 0 b → flat_map numbers_of (ss ++ s ∷ []) ≡ range_with_len 0 e
stretch_more ss s b e l p q h =
    flat_map-append numbers_of ss (s ∷ []) ∙ ap (λ x. flat_map numbers_of ss ++ x) (append-nil (numbers_of s)) ∙ ap (λ x. x ++ numbers_of s) h
    ∙ rw (p, q) (ranges_joined b e l)

-- a net's part of a name is read: its numbers stay
pub read_part : (ss : List Stretch) (i : ℕ) (s : Stretch) (d : Stretch) → i < length ss → numbers_of s ≡ numbers_of (get_or ss i d) → map numbers_of (set ss i s) ≡ map numbers_of ss
read_part [] i s d l h = absurd (omega arith)
read_part (x ∷ xs) zero s d l h = ap (λ y. y ∷ map numbers_of xs) h
read_part (x ∷ xs) (suc i) s d l h = ap (λ y. numbers_of x ∷ y) (read_part xs i s d (omega arith) h)
