-- Each canonical expression stands at each level of the grammar, in parentheses where its text has
-- them.
use Rattle.std.proofs.Common.{◌≡◌, ℕ, suc, Bool, true, false, List, ◌++◌, pos, negsuc, refl, sym, ap, subst, append_assoc}
use Rattle.std.specs.Prelude.{◌||◌, max, ℤ}
use Rattle.drawing_tree.specs.declared.expr.Op as op_type
use Rattle.drawing_tree.specs.declared.expr.Op.TheVariants as op
use Rattle.drawing_tree.specs.Expression.{Expression}
use Rattle.drawing_tree.specs.Expression as e
use Rattle.drawing_tree.specs.ExpressionText.{left_enclosed, right_enclosed, minus_enclosed, is_comparison, is_sum, is_product}
use Rattle.drawing_tree.specs.WellFormed.{IsFreeWord}
use Rattle.drawing_grammar.specs.Nesting.{enclosed_nesting, nesting}
use Rattle.drawing_grammar.proofs.Cutting.{Bare}
use Rattle.drawing_grammar.proofs.CanonicalTokens.{equals, exclamation, less, greater, enclosed_tokens, condition_tokens}
use Rattle.drawing_grammar.proofs.Drawable.{IsDrawn}
use Rattle.drawing_grammar.proofs.Levels.{Levels}

-- its tokens and how deep it nests, in parentheses if they are asked for
abbrev pub tokens_at : Bool → Expression → List Bare
tokens_at asked x = enclosed_tokens asked (condition_tokens x)

abbrev pub deep_at : Bool → Expression → ℕ
deep_at asked x = enclosed_nesting asked (nesting x)

module _ (L : Levels) where
  -- as the operand of a minus, as the right operand of a product, as its left one or the right one
  -- of a sum, as any other operand, and as a whole
  pub record Forms (x : Expression) : Type 0 where
    pub behind_minus : L.AsUnary x (tokens_at (minus_enclosed x) x) (deep_at (minus_enclosed x) x)
    pub unary : L.AsUnary x (tokens_at (is_comparison x || is_sum x || is_product x) x)
        (deep_at (is_comparison x || is_sum x || is_product x) x)
    pub product : L.AsProduct x (tokens_at (is_comparison x || is_sum x) x)
        (deep_at (is_comparison x || is_sum x) x)
    pub sum : L.AsSum x (tokens_at (is_comparison x) x) (deep_at (is_comparison x) x)
    pub whole : L.AsWhole x (condition_tokens x) (nesting x)

  or_false : (b : Bool) → b ≡ (b || false)
  or_false true = refl
  or_false false = refl

  -- asked for in another way
  unary_at : (asked other : Bool) (x : Expression) → asked ≡ other →
      L.AsUnary x (tokens_at asked x) (deep_at asked x) →
      L.AsUnary x (tokens_at other x) (deep_at other x)
  unary_at asked other x h u = subst (λ (b : Bool). L.AsUnary x (tokens_at b x) (deep_at b x)) h u

  sum_at : (asked other : Bool) (x : Expression) → asked ≡ other →
      L.AsSum x (tokens_at asked x) (deep_at asked x) → L.AsSum x (tokens_at other x)
      (deep_at other x)
  sum_at asked other x h s = subst (λ (b : Bool). L.AsSum x (tokens_at b x) (deep_at b x)) h s

  product_at : (asked other : Bool) (x : Expression) → asked ≡ other →
      L.AsProduct x (tokens_at asked x) (deep_at asked x) →
      L.AsProduct x (tokens_at other x) (deep_at other x)
  product_at asked other x h p = subst (λ (b : Bool). L.AsProduct x (tokens_at b x) (deep_at b x)) h
      p

  -- The left operand of a comparison or of a sum is a sum that is no comparison, and so is the
  -- right operand of a comparison.
  left_sum : (x : Expression) → Forms x → L.AsSum x (tokens_at (is_comparison x || false) x)
      (deep_at (is_comparison x || false) x)
  left_sum x f = sum_at (is_comparison x) (is_comparison x || false) x (or_false (is_comparison x))
      f.sum

  right_sum : (x : Expression) → Forms x → L.AsSum x (tokens_at (is_comparison x || false || false)
      x) (deep_at (is_comparison x || false || false) x)
  right_sum x f = sum_at (is_comparison x || false) (is_comparison x || false || false) x
      (or_false (is_comparison x || false)) (left_sum x f)

  right_product : (x : Expression) → Forms x → L.AsProduct x
      (tokens_at (is_comparison x || is_sum x || false) x)
      (deep_at (is_comparison x || is_sum x || false) x)
  right_product x f = product_at (is_comparison x || is_sum x)
      (is_comparison x || is_sum x || false) x (or_false (is_comparison x || is_sum x)) f.product

  -- ---- forms of each kind

  number_forms : (k : ℤ) → Forms (e.Number k)
  unfolding condition_tokens nesting
  number_forms k =
      let x = e.Number k in
      let bs = condition_tokens x in
      let u = L.number_unary k bs refl in
      let p = L.product_of_unary x bs 0 u in
      let s = L.sum_of_product x bs 0 p in
      record { behind_minus = u; unary = u; product = p; sum = s; whole = L.whole_of_sum x bs 0 s }

  word_forms : (text : List ℕ) → IsFreeWord text → Forms (e.Param text)
  unfolding condition_tokens nesting
  word_forms text is =
      let x = e.Param text in
      let bs = condition_tokens x in
      let u = L.word_unary text is in
      let p = L.product_of_unary x bs 0 u in
      let s = L.sum_of_product x bs 0 p in
      record { behind_minus = u; unary = u; product = p; sum = s; whole = L.whole_of_sum x bs 0 s }

  minus_forms : (y : Expression) → Forms y → Forms (e.Negate y)
  unfolding condition_tokens nesting
  minus_forms y f =
      let x = e.Negate y in
      let bs = condition_tokens x in
      let deep = nesting x in
      let u = L.minus_unary y (tokens_at (minus_enclosed y) y) (deep_at (minus_enclosed y) y)
      f.behind_minus in
      let p = L.product_of_unary x bs deep u in
      let s = L.sum_of_product x bs deep p in
      let w = L.whole_of_sum x bs deep s in
      record {
        behind_minus = L.unary_of_whole x bs deep w;
        unary = u;
        product = p;
        sum = s;
        whole =
            w;
      }

  -- a product
  record FromProduct (x : Expression) (bs : List Bare) (deep : ℕ) : Type 0 where
    enclosed : L.AsUnary x (enclosed_tokens true bs) (suc deep)
    sum : L.AsSum x bs deep
    whole : L.AsWhole x bs deep

  from_product : (x : Expression) (bs : List Bare) (deep : ℕ) → L.AsProduct x bs deep →
      FromProduct x bs deep
  from_product x bs deep p =
      let s = L.sum_of_product x bs deep p in
      let w = L.whole_of_sum x bs deep s in
      record { enclosed = L.unary_of_whole x bs deep w; sum = s; whole = w }

  -- a sum
  record FromSum (x : Expression) (bs : List Bare) (deep : ℕ) : Type 0 where
    enclosed : L.AsUnary x (enclosed_tokens true bs) (suc deep)
    product : L.AsProduct x (enclosed_tokens true bs) (suc deep)
    whole : L.AsWhole x bs deep

  from_sum : (x : Expression) (bs : List Bare) (deep : ℕ) → L.AsSum x bs deep → FromSum x bs deep
  from_sum x bs deep s =
      let w = L.whole_of_sum x bs deep s in
      let u = L.unary_of_whole x bs deep w in
      record {
        enclosed = u;
        product = L.product_of_unary x (enclosed_tokens true bs) (suc deep) u;
        whole = w;
      }

  -- a comparison
  record FromWhole (x : Expression) (bs : List Bare) (deep : ℕ) : Type 0 where
    enclosed : L.AsUnary x (enclosed_tokens true bs) (suc deep)
    product : L.AsProduct x (enclosed_tokens true bs) (suc deep)
    sum : L.AsSum x (enclosed_tokens true bs) (suc deep)

  from_whole : (x : Expression) (bs : List Bare) (deep : ℕ) → L.AsWhole x bs deep →
      FromWhole x bs deep
  from_whole x bs deep w =
      let u = L.unary_of_whole x bs deep w in
      let p = L.product_of_unary x (enclosed_tokens true bs) (suc deep) u in
      record {
        enclosed = u;
        product = p;
        sum = L.sum_of_product x (enclosed_tokens true bs)
            (suc deep) p;
      }

  times_forms : (a b : Expression) → Forms a → Forms b → Forms (e.Binary op.Mul a b)
  unfolding condition_tokens nesting
  times_forms a b f g =
      let x = e.Binary op.Mul a b in
      let p = L.product_times a b (tokens_at (left_enclosed op.Mul a) a)
      (tokens_at (right_enclosed op.Mul b) b) (deep_at (left_enclosed op.Mul a) a)
      (deep_at (right_enclosed op.Mul b) b) f.product g.unary in
      let h = from_product x (condition_tokens x) (nesting x) p in
      record {
        behind_minus = h.enclosed;
        unary = h.enclosed;
        product = p;
        sum = h.sum;
        whole =
            h.whole;
      }

  divided_forms : (a b : Expression) → Forms a → Forms b → Forms (e.Binary op.Div a b)
  unfolding condition_tokens nesting
  divided_forms a b f g =
      let x = e.Binary op.Div a b in
      let p = L.product_divided a b (tokens_at (left_enclosed op.Div a) a)
      (tokens_at (right_enclosed op.Div b) b) (deep_at (left_enclosed op.Div a) a)
      (deep_at (right_enclosed op.Div b) b) f.product g.unary in
      let h = from_product x (condition_tokens x) (nesting x) p in
      record {
        behind_minus = h.enclosed;
        unary = h.enclosed;
        product = p;
        sum = h.sum;
        whole =
            h.whole;
      }

  plus_forms : (a b : Expression) → Forms a → Forms b → Forms (e.Binary op.Add a b)
  unfolding condition_tokens nesting
  plus_forms a b f g =
      let x = e.Binary op.Add a b in
      let s = L.sum_plus a b (tokens_at (left_enclosed op.Add a) a)
      (tokens_at (right_enclosed op.Add b) b) (deep_at (left_enclosed op.Add a) a)
      (deep_at (right_enclosed op.Add b) b) (left_sum a f) (right_product b g) in
      let h = from_sum x (condition_tokens x) (nesting x) s in
      record {
        behind_minus = h.enclosed;
        unary = h.enclosed;
        product = h.product;
        sum = s;
        whole =
            h.whole;
      }

  less_forms : (a b : Expression) → Forms a → Forms b → Forms (e.Binary op.Sub a b)
  unfolding condition_tokens nesting
  less_forms a b f g =
      let x = e.Binary op.Sub a b in
      let s = L.sum_less a b (tokens_at (left_enclosed op.Sub a) a)
      (tokens_at (right_enclosed op.Sub b) b) (deep_at (left_enclosed op.Sub a) a)
      (deep_at (right_enclosed op.Sub b) b) (left_sum a f) (right_product b g) in
      let h = from_sum x (condition_tokens x) (nesting x) s in
      record {
        behind_minus = h.enclosed;
        unary = h.enclosed;
        product = h.product;
        sum = s;
        whole =
            h.whole;
      }

  -- the tokens of the right operand of a comparison
  abbrev right_tokens : Expression → List Bare
  right_tokens b = tokens_at (is_comparison b || false || false) b

  abbrev right_deep : Expression → ℕ
  right_deep b = deep_at (is_comparison b || false || false) b

  abbrev left_tokens : Expression → List Bare
  left_tokens a = tokens_at (is_comparison a || false) a

  abbrev left_deep : Expression → ℕ
  left_deep a = deep_at (is_comparison a || false) a

  -- A text of three parts is grouped from the left.
  regrouped : (o : op_type.Op) (a b : Expression) (first middle last : List Bare) (deep : ℕ) →
      L.AsWhole (e.Binary o a b) (first ++ (middle ++ last)) deep →
      L.AsWhole (e.Binary o a b) (first ++ middle ++ last) deep
  regrouped o a b first middle last deep w = subst (λ (bs : List Bare). L.AsWhole (e.Binary o a b)
      bs deep) (sym (append_assoc first middle last)) w

  equal_whole : (a b : Expression) → Forms a → Forms b →
      L.AsWhole (e.Binary op.Eq a b) (condition_tokens (e.Binary op.Eq a b))
      (nesting (e.Binary op.Eq a b))
  unfolding condition_tokens nesting
  equal_whole a b f g = regrouped op.Eq a b (left_tokens a) equals (right_tokens b)
      (max (left_deep a) (right_deep b)) (L.whole_compared op.Eq a b (left_tokens a)
      (equals ++ right_tokens b) (left_deep a) (right_deep b) (left_sum a f)
      (L.compared_equal b (right_tokens b) (right_deep b) (right_sum b g)))

  unequal_whole : (a b : Expression) → Forms a → Forms b →
      L.AsWhole (e.Binary op.Ne a b) (condition_tokens (e.Binary op.Ne a b))
      (nesting (e.Binary op.Ne a b))
  unfolding condition_tokens nesting
  unequal_whole a b f g = regrouped op.Ne a b (left_tokens a) (exclamation ++ equals)
      (right_tokens b) (max (left_deep a) (right_deep b))
      (L.whole_compared op.Ne a b (left_tokens a) ((exclamation ++ equals) ++ right_tokens b)
      (left_deep a) (right_deep b) (left_sum a f) (L.compared_unequal b (right_tokens b)
      (right_deep b) (right_sum b g)))

  below_whole : (a b : Expression) → Forms a → Forms b →
      L.AsWhole (e.Binary op.Lt a b) (condition_tokens (e.Binary op.Lt a b))
      (nesting (e.Binary op.Lt a b))
  unfolding condition_tokens nesting
  below_whole a b f g = regrouped op.Lt a b (left_tokens a) less (right_tokens b)
      (max (left_deep a) (right_deep b)) (L.whole_compared op.Lt a b (left_tokens a)
      (less ++ right_tokens b) (left_deep a) (right_deep b) (left_sum a f)
      (L.compared_below b (right_tokens b) (right_deep b) (right_sum b g)))

  at_most_whole : (a b : Expression) → Forms a → Forms b →
      L.AsWhole (e.Binary op.Le a b) (condition_tokens (e.Binary op.Le a b))
      (nesting (e.Binary op.Le a b))
  unfolding condition_tokens nesting
  at_most_whole a b f g = regrouped op.Le a b (left_tokens a) (less ++ equals) (right_tokens b)
      (max (left_deep a) (right_deep b)) (L.whole_compared op.Le a b (left_tokens a)
      ((less ++ equals) ++ right_tokens b) (left_deep a) (right_deep b) (left_sum a f)
      (L.compared_at_most b (right_tokens b) (right_deep b) (right_sum b g)))

  above_whole : (a b : Expression) → Forms a → Forms b →
      L.AsWhole (e.Binary op.Gt a b) (condition_tokens (e.Binary op.Gt a b))
      (nesting (e.Binary op.Gt a b))
  unfolding condition_tokens nesting
  above_whole a b f g = regrouped op.Gt a b (left_tokens a) greater (right_tokens b)
      (max (left_deep a) (right_deep b)) (L.whole_compared op.Gt a b (left_tokens a)
      (greater ++ right_tokens b) (left_deep a) (right_deep b) (left_sum a f)
      (L.compared_above b (right_tokens b) (right_deep b) (right_sum b g)))

  at_least_whole : (a b : Expression) → Forms a → Forms b →
      L.AsWhole (e.Binary op.Ge a b) (condition_tokens (e.Binary op.Ge a b))
      (nesting (e.Binary op.Ge a b))
  unfolding condition_tokens nesting
  at_least_whole a b f g = regrouped op.Ge a b (left_tokens a) (greater ++ equals) (right_tokens b)
      (max (left_deep a) (right_deep b)) (L.whole_compared op.Ge a b (left_tokens a)
      ((greater ++ equals) ++ right_tokens b) (left_deep a) (right_deep b) (left_sum a f)
      (L.compared_at_least b (right_tokens b) (right_deep b) (right_sum b g)))

  -- Every operand that is a comparison stands in parentheses.
  compared_forms : (x : Expression) → minus_enclosed x ≡ true → is_comparison x ≡ true →
      L.AsWhole x (condition_tokens x) (nesting x) → Forms x
  compared_forms x behind compared w =
      let h = from_whole x (condition_tokens x) (nesting x) w in
      record {
        behind_minus = unary_at true (minus_enclosed x) x (sym behind) h.enclosed;
        unary = unary_at true (is_comparison x || is_sum x || is_product x) x
            (sym (ap (λ b. b || is_sum x || is_product x) compared)) h.enclosed;
        product = product_at true (is_comparison x || is_sum x) x
            (sym (ap (λ b. b || is_sum x) compared)) h.product;
        sum = sum_at true (is_comparison x) x (sym compared) h.sum;
        whole = w;
      }

  -- ---- all expressions

  pub all_forms : (x : Expression) → IsDrawn x → Forms x
  all_forms (e.Number (pos n)) is = number_forms (pos n)
  all_forms (e.Number (negsuc n)) is = absurd is
  all_forms (e.Param text) is = word_forms text is
  all_forms (e.Negate y) is = minus_forms y (all_forms y is)
  all_forms (e.Binary op.Add a b) is = plus_forms a b (all_forms a is.0) (all_forms b is.1)
  all_forms (e.Binary op.Sub a b) is = less_forms a b (all_forms a is.0) (all_forms b is.1)
  all_forms (e.Binary op.Mul a b) is = times_forms a b (all_forms a is.0) (all_forms b is.1)
  all_forms (e.Binary op.Div a b) is = divided_forms a b (all_forms a is.0) (all_forms b is.1)
  all_forms (e.Binary op.Eq a b) is = compared_forms (e.Binary op.Eq a b) refl refl
      (equal_whole a b (all_forms a is.0) (all_forms b is.1))
  all_forms (e.Binary op.Ne a b) is = compared_forms (e.Binary op.Ne a b) refl refl
      (unequal_whole a b (all_forms a is.0) (all_forms b is.1))
  all_forms (e.Binary op.Lt a b) is = compared_forms (e.Binary op.Lt a b) refl refl
      (below_whole a b (all_forms a is.0) (all_forms b is.1))
  all_forms (e.Binary op.Le a b) is = compared_forms (e.Binary op.Le a b) refl refl
      (at_most_whole a b (all_forms a is.0) (all_forms b is.1))
  all_forms (e.Binary op.Gt a b) is = compared_forms (e.Binary op.Gt a b) refl refl
      (above_whole a b (all_forms a is.0) (all_forms b is.1))
  all_forms (e.Binary op.Ge a b) is = compared_forms (e.Binary op.Ge a b) refl refl
      (at_least_whole a b (all_forms a is.0) (all_forms b is.1))
