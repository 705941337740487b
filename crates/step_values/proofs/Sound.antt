-- Each value permits what its rule makes of a permitted step of each argument.
use Rattle.std.proofs.Common.{◌≡◌, Bool, true, false, ◌&&◌, ◌||◌, arith}
use Rattle.step_values.specs.declared.value.Value.{Value}
use Rattle.step_values.specs.Steps.{Steps, has, is_unknown}
use Rattle.step_values.specs.Image.{some_bit, some_step, one_step, image1, image2, image3, image4, and_step, or_step, xor_step, mux2_step, reg_step, reg_rs_step, latch_step, latch_rs_step, differ, selected, reg_rule, latch_rule, reg_rs_rule, latch_rs_rule, any_clock, and_of, and_image, or_of, or_image, xor_of, xor_image, mux2_of, mux2_image, reg_of, reg_image, reg_rs_of, reg_rs_image, latch_of, latch_image, latch_rs_of, latch_rs_image}
use Rattle.step_values.proofs.Permits.{cover_has}

both : (a b : Bool) → a ≡ true → b ≡ true → (a && b) ≡ true
both a b h h' = grind arith

-- a bit that passes
pub some_bit_from : (passes : Bool → Bool) (b : Bool) → passes b ≡ true → some_bit passes ≡ true
some_bit_from passes true h = grind (arith, h)
some_bit_from passes false h = grind (arith, h)

-- a permitted step that passes
some_step_from : (v : Value) (passes : Steps) (b b' : Bool) → has v b b' ≡ true → passes b b' ≡ true → some_step v passes ≡ true
some_step_from v passes b b' h h' =
    some_bit_from (λ a. some_bit (λ a'. has v a a' && passes a a')) b
    (some_bit_from (λ a'. has v b a' && passes b a') b' (both _ _ h h'))

pub image1_from : (rule : Bool → Bool → Steps) (v : Value) (a a' x y : Bool) → has v a a' ≡ true → rule a a' x y ≡ true → image1 rule v x y ≡ true
unfolding image1
image1_from rule v a a' x y h r = some_step_from v (λ b b'. rule b b' x y) a a' h r

pub image2_from : (rule : Bool → Bool → Bool → Bool → Steps) (v w : Value) (a a' b b' x y : Bool) →
    has v a a' ≡ true → has w b b' ≡ true → rule a a' b b' x y ≡ true → image2 rule v w x y ≡ true
unfolding image2
image2_from rule v w a a' b b' x y h h' r =
    some_step_from v (λ c c'. image1 (rule c c') w x y) a a' h (image1_from (rule a a') w b b' x y h' r)

pub image3_from : (rule : Bool → Bool → Bool → Bool → Bool → Bool → Steps) (u v w : Value) (a a' b b' c c' x y : Bool) →
    has u a a' ≡ true → has v b b' ≡ true → has w c c' ≡ true → rule a a' b b' c c' x y ≡ true → image3 rule u v w x y ≡ true
unfolding image3
image3_from rule u v w a a' b b' c c' x y h h' h'' r =
    some_step_from u (λ d d'. image2 (rule d d') v w x y) a a' h (image2_from (rule a a') v w b b' c c' x y h' h'' r)

pub image4_from : (rule : Bool → Bool → Bool → Bool → Bool → Bool → Bool → Bool → Steps) (t u v w : Value) (a a' b b' c c' d d' x y : Bool) →
    has t a a' ≡ true → has u b b' ≡ true → has v c c' ≡ true → has w d d' ≡ true → rule a a' b b' c c' d d' x y ≡ true → image4 rule t u v w x y ≡ true
unfolding image4
image4_from rule t u v w a a' b b' c c' d d' x y ht hu hv hw r =
    some_step_from t (λ e e'. image3 (rule e e') u v w x y) a a' ht (image3_from (rule a a') u v w b b' c c' d d' x y hu hv hw r)

one_step_itself : (b b' : Bool) → one_step b b' b b' ≡ true
one_step_itself b b' = grind arith

pub and_of_has : (v w : Value) (a a' b b' : Bool) → has v a a' ≡ true → has w b b' ≡ true → has (and_of v w) (a && b) (a' && b') ≡ true
unfolding and_of and_image
and_of_has v w a a' b b' h h' =
    cover_has (and_image v w) (is_unknown v || is_unknown w) (a && b) (a' && b')
    (image2_from and_step v w a a' b b' (a && b) (a' && b') h h' (one_step_itself (a && b) (a' && b')))

pub or_of_has : (v w : Value) (a a' b b' : Bool) → has v a a' ≡ true → has w b b' ≡ true → has (or_of v w) (a || b) (a' || b') ≡ true
unfolding or_of or_image
or_of_has v w a a' b b' h h' =
    cover_has (or_image v w) (is_unknown v || is_unknown w) (a || b) (a' || b')
    (image2_from or_step v w a a' b b' (a || b) (a' || b') h h' (one_step_itself (a || b) (a' || b')))

pub xor_of_has : (v w : Value) (a a' b b' : Bool) → has v a a' ≡ true → has w b b' ≡ true → has (xor_of v w) (differ a b) (differ a' b') ≡ true
unfolding xor_of xor_image
xor_of_has v w a a' b b' h h' =
    cover_has (xor_image v w) (is_unknown v || is_unknown w) (differ a b) (differ a' b')
    (image2_from xor_step v w a a' b b' (differ a b) (differ a' b') h h' (one_step_itself (differ a b) (differ a' b')))

pub mux2_of_has : (u v w : Value) (s s' a a' b b' : Bool) → has u s s' ≡ true → has v a a' ≡ true → has w b b' ≡ true →
    has (mux2_of u v w) (selected s a b) (selected s' a' b') ≡ true
unfolding mux2_of mux2_image
mux2_of_has u v w s s' a a' b b' hu hv hw =
    cover_has (mux2_image u v w) (is_unknown u || is_unknown v || is_unknown w) (selected s a b) (selected s' a' b')
    (image3_from mux2_step u v w s s' a a' b b' (selected s a b) (selected s' a' b') hu hv hw (one_step_itself (selected s a b) (selected s' a' b')))

-- Of storage: an output that the rule allowed at the tick before, after some older output, and one that it allows then.

pub reg_of_has : (v : Value) (earlier older c c' x y : Bool) → has v c c' ≡ true →
    reg_rule earlier c older x ≡ true → reg_rule c c' x y ≡ true → has (reg_of v) x y ≡ true
unfolding reg_of reg_image
reg_of_has v earlier older c c' x y h before now =
    cover_has (reg_image v) (is_unknown v) x y (image1_from reg_step v c c' x y h (both _ _
    (some_bit_from (λ o. any_clock (λ e. reg_rule e c) o x) older (some_bit_from (λ e. reg_rule e c older x) earlier before)) now))

pub reg_rs_of_has : (u v w : Value) (earlier older c c' s s' r r' x y : Bool) → has u c c' ≡ true → has v s s' ≡ true → has w r r' ≡ true →
    reg_rs_rule earlier c s r older x ≡ true → reg_rs_rule c c' s' r' x y ≡ true → has (reg_rs_of u v w) x y ≡ true
unfolding reg_rs_of reg_rs_image
reg_rs_of_has u v w earlier older c c' s s' r r' x y hu hv hw before now =
    cover_has (reg_rs_image u v w) (is_unknown u || is_unknown v || is_unknown w) x y
    (image3_from reg_rs_step u v w c c' s s' r r' x y hu hv hw (both _ _
    (some_bit_from (λ o. any_clock (λ e. reg_rs_rule e c s r) o x) older (some_bit_from (λ e. reg_rs_rule e c s r older x) earlier before)) now))

pub latch_of_has : (v w : Value) (older e e' i i' x y : Bool) → has v e e' ≡ true → has w i i' ≡ true →
    latch_rule e i older x ≡ true → latch_rule e' i' x y ≡ true → has (latch_of v w) x y ≡ true
unfolding latch_of latch_image
latch_of_has v w older e e' i i' x y hv hw before now =
    cover_has (latch_image v w) (is_unknown v || is_unknown w) x y
    (image2_from latch_step v w e e' i i' x y hv hw (both _ _ (some_bit_from (λ o. latch_rule e i o x) older before) now))

pub latch_rs_of_has : (t u v w : Value) (older e e' i i' s s' r r' x y : Bool) → has t e e' ≡ true → has u i i' ≡ true → has v s s' ≡ true → has w r r' ≡ true →
    latch_rs_rule e i s r older x ≡ true → latch_rs_rule e' i' s' r' x y ≡ true → has (latch_rs_of t u v w) x y ≡ true
unfolding latch_rs_of latch_rs_image
latch_rs_of_has t u v w older e e' i i' s s' r r' x y ht hu hv hw before now =
    cover_has (latch_rs_image t u v w) (is_unknown t || is_unknown u || is_unknown v || is_unknown w) x y
    (image4_from latch_rs_step t u v w e e' i i' s s' r r' x y ht hu hv hw (both _ _ (some_bit_from (λ o. latch_rs_rule e i s r o x) older before) now))
