-- Rounds settle in one way, and so do the cases of a circuit.
use Rattle.std.proofs.Common.{◌≡◌, ℕ, suc, Bool, List, [], ◌∷◌, ◌++◌, map, refl, sym, ap, subst, ◌∙◌, arith, inl, inr}
use Rattle.std.specs.List.{All}
use Rattle.std.proofs.lemmas.List.Elements.{All-head, All-tail}
use Rattle.flat_circuit.specs.Circuit.{Circuit}
use Rattle.flat_circuit.proofs.Names.{below}
use Rattle.fixpoint_engine.specs.Waves.{Waves}
use Rattle.fixpoint_engine.specs.Rounds.{SettlesAt, AreSame, DiffersFirst}
use Rattle.case_analysis.specs.Base.{base_round}
use Rattle.case_analysis.specs.Case.{IsCone, case_round}
use Rattle.case_analysis.proofs.Cases.{one_cone}
use Rattle.timing_analysis.specs.Case.{Listed, Case, IsSettled, AreSettled, NeverSettles, StopsAt}
use Rattle.timing_analysis.specs.Laws.{SettlesOneWay}

-- rounds settle for the first time in one round
pub settles_once : (rounds : ℕ → Waves) (limit limit' r r' : ℕ) → SettlesAt rounds limit r → SettlesAt rounds limit' r' → r ≡ r'
settles_once rounds limit limit' r r' a b =
    elim (below r r') as (λ _. r ≡ r') [
      | inl l ↦ absurd (b.first r l a.still)
      | inr m ↦ elim (below r' r) as (λ _. r ≡ r') [ inl l ↦ absurd (a.first r' l b.still) | inr n ↦ omega arith ]
    ]

pub one_place : (order : List ℕ) (ws vs : Waves) (p q : ℕ) → DiffersFirst order ws vs p → DiffersFirst order ws vs q → p ≡ q
one_place order ws vs p q a b =
    elim (below p q) as (λ _. p ≡ q) [
      | inl l ↦ absurd (a.differs (b.same p l))
      | inr m ↦ elim (below q p) as (λ _. p ≡ q) [ inl l ↦ absurd (b.differs (a.same q l)) | inr n ↦ omega arith ]
    ]

pub same_waves : (ws vs : Waves) → AreSame ws vs → ws ≡ vs
same_waves ws vs same = λ j i. same i j

module _ (c : Circuit) (limit base : ℕ) where
  abbrev rounds_in : Listed → (ℕ → Bool) → ℕ → Waves
  rounds_in l cone = case_round c l.values cone (base_round c base)

  same_cone : (l : Listed) (a b : ℕ → Bool) → IsCone c l.values a → IsCone c l.values b → a ≡ b
  same_cone l a b one other = λ j i. one_cone c l.values a b one other i j

  case_by : (l : Listed) (r r' : ℕ) (ws ws' : Waves) → r ≡ r' → ws ≡ ws' → let x : Case =
      record { listed = l; rounds = r; waves = ws } in let y : Case = record { listed = l; rounds = r'; waves = ws' } in x ≡ y
  case_by l r r' ws ws' a b = rw (a, b) refl

  same_case : (limit' : ℕ) (l : Listed) (r r' : ℕ) (ws ws' : Waves) → IsSettled c limit base (record { listed = l; rounds = r; waves = ws }) →
      IsSettled c limit' base (record { listed = l; rounds = r'; waves = ws' }) →
      let x : Case = record { listed = l; rounds = r; waves = ws } in let y : Case = record { listed = l; rounds = r'; waves = ws' } in x ≡ y
  same_case limit' l r r' ws ws' a b =
      let cones : b.cone ≡ a.cone = same_cone l b.cone a.cone b.is_cone a.is_cone in
      let settles : SettlesAt (rounds_in l a.cone) limit' r' = subst (λ (cone : ℕ → Bool). SettlesAt (rounds_in l cone) limit' r') cones b.is.settles in
      let same : r ≡ r' = settles_once (rounds_in l a.cone) limit limit' r r' a.is.settles settles in
      let mine : ws ≡ rounds_in l a.cone r = same_waves ws (rounds_in l a.cone r) a.is.waves in
      let other : ws' ≡ rounds_in l b.cone r' = same_waves ws' (rounds_in l b.cone r') b.is.waves in
      case_by l r r' ws ws' same (mine ∙ ap (rounds_in l a.cone) same ∙ sym (ap (λ (cone : ℕ → Bool). rounds_in l cone r') cones) ∙ sym other)

  one_case : (limit' : ℕ) (x y : Case) → x.listed ≡ y.listed → IsSettled c limit base x → IsSettled c limit' base y → x ≡ y
  one_case limit' x y same a b =
      let moved : IsSettled c limit base (record { listed = y.listed; rounds = x.rounds; waves = x.waves }) =
      subst (λ (l : Listed). IsSettled c limit base (record { listed = l; rounds = x.rounds; waves = x.waves })) same a in
      let first : x ≡ record { listed = y.listed; rounds = x.rounds; waves = x.waves } = ap (λ (l : Listed). let z : Case = record { listed = l; rounds = x.rounds; waves = x.waves } in z) same in
      first ∙ same_case limit' y.listed x.rounds y.rounds x.waves y.waves moved b

  alike : (limit' : ℕ) (xs ys : List Case) → map (λ (k : Case). k.listed) xs ≡ map (λ (k : Case). k.listed) ys →
      All (IsSettled c limit base) xs → All (IsSettled c limit' base) ys → xs ≡ ys
  alike limit' [] [] e a b = refl
  alike limit' [] (y ∷ ys) e a b = absurd (cc)
  alike limit' (x ∷ xs) [] e a b = absurd (cc)
  alike limit' (x ∷ xs) (y ∷ ys) e a b =
      let first : x.listed ≡ y.listed = cc in
      let others : map (λ (k : Case). k.listed) xs ≡ map (λ (k : Case). k.listed) ys = cc in
      let head : x ≡ y =
      one_case limit' x y first (All-head (IsSettled c limit base) x xs a) (All-head (IsSettled c limit' base) y ys b) in
      let tail : xs ≡ ys =
      alike limit' xs ys others (All-tail (IsSettled c limit base) x xs a) (All-tail (IsSettled c limit' base) y ys b) in
      cc

  -- the cases of a list settle in one way, whatever the limits are
  pub one_cases : (limit' : ℕ) (ls : List Listed) (xs ys : List Case) → AreSettled c limit base ls xs → AreSettled c limit' base ls ys → xs ≡ ys
  one_cases limit' ls xs ys a b = alike limit' xs ys (a.each ∙ sym b.each) a.settled b.settled

  -- a case that never settles is none that does
  never_or_settled : (l : Listed) (x : Case) (place : ℕ) → l ≡ x.listed → NeverSettles c limit base l place → IsSettled c limit base x → ⊥
  never_or_settled l x place same never at =
      let moved : NeverSettles c limit base x.listed place = subst (λ (k : Listed). NeverSettles c limit base k place) same never in
      let cones : at.cone ≡ moved.cone = same_cone x.listed at.cone moved.cone at.is_cone moved.is_cone in
      let settles : SettlesAt (rounds_in x.listed moved.cone) limit x.rounds = subst (λ (cone : ℕ → Bool). SettlesAt (rounds_in x.listed cone) limit x.rounds) cones at.is.settles in
      moved.is.never x.rounds settles.within settles.still

  not_among : (before : List Case) (l : Listed) (after : List Listed) (cases : List Case) (place : ℕ) → map (λ (k : Case). k.listed) before ++ l ∷ after ≡ map (λ (k : Case). k.listed) cases →
      NeverSettles c limit base l place → All (IsSettled c limit base) cases → ⊥
  not_among [] l after [] place e never settled = absurd (cc)
  not_among [] l after (x ∷ cases) place e never settled = let same : l ≡ x.listed = cc in never_or_settled l x place same never (All-head (IsSettled c limit base) x cases settled)
  not_among (b ∷ before) l after [] place e never settled = absurd (cc)
  not_among (b ∷ before) l after (x ∷ cases) place e never settled =
      let later : map (λ (k : Case). k.listed) before ++ l ∷ after ≡ map (λ (k : Case). k.listed) cases = cc in
      not_among before l after cases place later never (All-tail (IsSettled c limit base) x cases settled)

  pub settled_or_stopped : (ls : List Listed) (cases : List Case) (place : ℕ) → AreSettled c limit base ls cases → StopsAt c limit base ls place → ⊥
  settled_or_stopped ls cases place at stops = not_among stops.before stops.case stops.after cases place (stops.order ∙ sym at.each) stops.never at.settled

  same_never : (l k : Listed) (p q : ℕ) → l ≡ k → NeverSettles c limit base l p → NeverSettles c limit base k q → p ≡ q
  same_never l k p q same a b =
      let moved : NeverSettles c limit base k p = subst (λ (x : Listed). NeverSettles c limit base x p) same a in
      let cones : moved.cone ≡ b.cone = same_cone k moved.cone b.cone moved.is_cone b.is_cone in
      let first : DiffersFirst c.order (rounds_in k b.cone limit) (rounds_in k b.cone (suc limit)) p =
      subst (λ (cone : ℕ → Bool). DiffersFirst c.order (rounds_in k cone limit) (rounds_in k cone (suc limit)) p) cones moved.is.first in
      one_place c.order (rounds_in k b.cone limit) (rounds_in k b.cone (suc limit)) p q first b.is.first

  stops_alike : (xs ys : List Case) (l k : Listed) (ls ks : List Listed) (p q : ℕ) → map (λ (z : Case). z.listed) xs ++ l ∷ ls ≡ map (λ (z : Case). z.listed) ys ++ k ∷ ks →
      All (IsSettled c limit base) xs → All (IsSettled c limit base) ys → NeverSettles c limit base l p → NeverSettles c limit base k q → p ≡ q
  stops_alike [] [] l k ls ks p q e a b never never' = let same : l ≡ k = cc in same_never l k p q same never never'
  stops_alike [] (y ∷ ys) l k ls ks p q e a b never never' = let same : l ≡ y.listed = cc in absurd (never_or_settled l y p same never (All-head (IsSettled c limit base) y ys b))
  stops_alike (x ∷ xs) [] l k ls ks p q e a b never never' = let same : k ≡ x.listed = cc in absurd (never_or_settled k x q same never' (All-head (IsSettled c limit base) x xs a))
  stops_alike (x ∷ xs) (y ∷ ys) l k ls ks p q e a b never never' =
      let later : map (λ (z : Case). z.listed) xs ++ l ∷ ls ≡ map (λ (z : Case). z.listed) ys ++ k ∷ ks = cc in
      stops_alike xs ys l k ls ks p q later (All-tail (IsSettled c limit base) x xs a) (All-tail (IsSettled c limit base) y ys b) never never'

  -- the cases of a list stop in one way
  pub one_stop : (ls : List Listed) (p q : ℕ) → StopsAt c limit base ls p → StopsAt c limit base ls q → p ≡ q
  one_stop ls p q a b = stops_alike a.before b.before a.case b.case a.after b.after p q (a.order ∙ sym b.order) a.settled b.settled a.never b.never

pub settles_in_one_way : SettlesOneWay
settles_in_one_way c limit limit' base base' listed cases cases' settles are_settled settles' are_settled' =
    let same : base' ≡ base = settles_once (base_round c) limit' limit base' base settles' settles in
    let moved : AreSettled c limit' base listed cases' =
    subst (λ (b : ℕ). AreSettled c limit' b listed cases') same are_settled' in
    (sym same, one_cases c limit base limit' listed cases cases' are_settled moved)
