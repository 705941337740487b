-- A comment is the piece that stands at its dashes.
use Rattle.std.proofs.Common.{◌≡◌, ◌≢◌, ℕ, ◌+◌, ◌-◌, ◌<◌, ◌≤◌, Bool, true, false, not, nat_lt, List, [], ◌∷◌, length, get_or, take, drop, Some, ◌⊎◌, inl, inr, refl, ap, sym, subst, ◌∙◌, arith, length-drop, eqb-true}
use Rattle.std.specs.Prelude.{◌==◌, codes}
use Rattle.std.specs.List.{prefix_len}
use borrow.Author.Tests.{ltb-true, ltb-false}
use Rattle.std.proofs.lemmas.List.{drop_more, get_or-drop}
use Rattle.std.proofs.lemmas.List.Sums.{prefix_len_passes, prefix_len_stops, prefix_len_is}
use Rattle.scald_lex.specs.declared.piece.Piece.{Piece}
use Rattle.scald_lex.specs.declared.piece.Piece.TheVariants.{Comment}
use Rattle.scald_lex.specs.Bytes.{is_comment_byte}
use Rattle.scald_lex.specs.Piece.{dash_before, piece_at}
use Rattle.scald_lex.specs.Between.{DashesAt, IsComment}
use Rattle.scald_lex.proofs.Caused.{Means, means}
use Rattle.scald_lex.proofs.Cuts.{begins_at}
use Rattle.scald_lex.proofs.Fronts.{passes_one}
use Rattle.scald_lex.proofs.Pieces.{advances}
use Rattle.scald_lex.proofs.Stands.{before_end}
use Rattle.scald_lex.proofs.Whole.{advance}

-- what the piece that stands here says of the bytes from here on
pub means_here : (text : List ℕ) (at : ℕ) (p : Piece) → at < length text →
    piece_at (drop at text) ≡ Some p → Means (get_or text at 0) (drop (at + 1) text) (Some p)
means_here text at p h e =
    let b = get_or text at 0 in
    let bs = drop (at + 1) text in
    subst (Means b bs) (ap piece_at (sym (drop_more text at 0 h)) ∙ e) (means b bs)

-- ---- comments

record IsDouble (rest : List ℕ) : Type 0 where
  more : List ℕ
  parts : rest ≡ 45 ∷ 45 ∷ more

double_front : (rest : List ℕ) → take 2 rest ≡ 45 ∷ 45 ∷ [] → IsDouble rest
double_front [] e = absurd cc
double_front (x ∷ []) e = absurd cc
double_front (x ∷ y ∷ more) e = let f : x ≡ 45 = cc in let g : y ≡ 45 = cc in
    record { more = more; parts = cc }

dashes_front : (text : List ℕ) (at : ℕ) → DashesAt text at → take 2 (drop at text) ≡ 45 ∷ 45 ∷ []
dashes_front text at d = ap (λ (n : ℕ). take n (drop at text)) (let e : 2 ≡ at + 2 - at =
    omega arith in e) ∙ d

double_piece : (more : List ℕ) → piece_at (45 ∷ 45 ∷ more)
    ≡ Some (Comment (prefix_len is_comment_byte (45 ∷ 45 ∷ more)))
unfolding piece_at dash_before
double_piece more = refl

-- Two dashes begin a comment, as far as the line goes.
pub dashes_piece : (text : List ℕ) (at : ℕ) → DashesAt text at →
    piece_at (drop at text) ≡ Some (Comment (prefix_len is_comment_byte (drop at text)))
dashes_piece text at d =
    let is = double_front (drop at text) (dashes_front text at d) in
    ap piece_at is.parts ∙ (double_piece is.more ∙ ap (λ (xs : List ℕ). Some
    (Comment (prefix_len is_comment_byte xs))) (sym is.parts))

not_ten : (b : ℕ) (t : Bool) → (b == 10) ≡ t → b ≢ 10 → not t ≡ true
not_ten b true e n = absurd (n (eqb-true b 10 e))
not_ten b false e n = refl

ten_ends : (b : ℕ) → b ≡ 10 → is_comment_byte b ≡ false
ten_ends b e = ap is_comment_byte e

is_ten : (b : ℕ) (t : Bool) → (b == 10) ≡ t → not t ≡ false → b ≡ 10
is_ten b true e n = eqb-true b 10 e
is_ten b false e n = absurd cc

pub comment_length : (text : List ℕ) (at end : ℕ) → IsComment text at end →
    prefix_len is_comment_byte (drop at text) ≡ end - at
comment_length text at end is =
    let longer = is.longer in
    let within = is.within in
    prefix_len_is is_comment_byte (drop at text) (end - at) 0 (omega (arith, length-drop at text))
    (λ k l. ap is_comment_byte (get_or-drop at text k 0)
    ∙ not_ten (get_or text (at + k) 0) (get_or text (at + k) 0 == 10) refl
    (is.on_line (at + k) (omega arith) (omega arith)))
    (λ h. ends is.ended h)
  where
    ends : (end ≡ length text) ⊎ (get_or text end 0 ≡ 10) → end - at < length (drop at text) →
        is_comment_byte (get_or (drop at text) (end - at) 0) ≡ false
    ends (inl e) h = let longer = is.longer in absurd (omega (arith, length-drop at text))
    ends (inr e) h =
        let longer = is.longer in
        let there : at + (end - at) ≡ end = omega arith in
        ten_ends (get_or (drop at text) (end - at) 0) (get_or-drop at text (end - at) 0
        ∙ (ap (λ (i : ℕ). get_or text i 0) there ∙ e))

pub comment_here : (text : List ℕ) (at count : ℕ) → piece_at (drop at text) ≡ Some (Comment count) →
    IsComment text at (at + count)
comment_here text at count e =
    let h = before_end text at (Comment count) e in
    let is = means_here text at (Comment count) h e in
    let bs = drop (at + 1) text in
    let far = passes_one is_comment_byte 45 bs refl is.second in
    let long = is.long in
    let ends = advance text at (Comment count) h e in
    let within = ends.within in
    let on_line = (advances (drop at text) (Comment count) e).on_line in
    let next : at + 1 < length text = omega arith in
    let second : get_or text (at + 1) 0 ≡ 45 = begins_at 45 text (at + 1) is.second in
    let two : take 2 (drop at text) ≡ get_or text at 0 ∷ get_or text (at + 1) 0 ∷ [] =
    ap (take 2) (drop_more text at 0 h ∙ ap (λ (xs : List ℕ). get_or text at 0 ∷ xs)
    (drop_more text (at + 1) 0 next)) in
    let dashes : take 2 (drop at text) ≡ codes "--" = two
    ∙ (ap (λ (b : ℕ). b ∷ get_or text (at + 1) 0 ∷ []) is.first
    ∙ ap (λ (b : ℕ). 45 ∷ b ∷ []) second) in
    record {
      dashes = ap (λ (n : ℕ). take n (drop at text)) (let f : at + 2 - at ≡ 2 = omega arith in f)
          ∙ dashes;
      longer = omega arith;
      within = within;
      on_line = λ k l m ten.
          let pass = prefix_len_passes is_comment_byte (drop at text) (k - at) 0 (omega arith) in
          let there : at + (k - at) ≡ k = omega arith in
          let same = ten_ends (get_or (drop at text) (k - at) 0)
          (get_or-drop at text (k - at) 0 ∙ (ap (λ (i : ℕ). get_or text i 0) there ∙ ten)) in
          cc;
      ended = ended (nat_lt (at + count) (length text)) refl;
    }
  where
    ended : (t : Bool) → nat_lt (at + count) (length text) ≡ t →
        (at + count ≡ length text) ⊎ (get_or text (at + count) 0 ≡ 10)
    ended false f =
        let far : length text ≤ at + count = ltb-false (at + count) (length text) f in
        let within = (advance text at (Comment count) (before_end text at (Comment count) e)
        e).within in
        inl (omega arith)
    ended true f =
        let far : at + count < length text = ltb-true (at + count) (length text) f in
        let is = means_here text at (Comment count) (before_end text at (Comment count) e) e in
        let bs = drop (at + 1) text in
        let long = is.long in
        let stop = prefix_len_stops is_comment_byte bs 0
        (omega (arith, length-drop (at + 1) text)) in
        let b = get_or bs (prefix_len is_comment_byte bs) 0 in
        let there : at + 1 + prefix_len is_comment_byte bs ≡ at + count = omega arith in
        let same : b ≡ get_or text (at + count) 0 = get_or-drop (at + 1) text
        (prefix_len is_comment_byte bs) 0 ∙ ap (λ (i : ℕ). get_or text i 0) there in
        inr (sym same ∙ is_ten b (b == 10) refl stop)
