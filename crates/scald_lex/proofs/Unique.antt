-- A text is cut in one way, so it has one list of tokens or one refusal.
use Rattle.std.proofs.Common.{◌≡◌, ℕ, ◌+◌, ◌<◌, List, [], ◌∷◌, ◌++◌, length, drop, None, Result, Ok, Err, refl, ap, sym, subst, ◌∙◌, inl, inr, arith}
use Rattle.std.specs.Prelude.{IfOk, IfErr}
use Rattle.std.proofs.Math.Seq.{drop-length}
use Rattle.scald_base.specs.declared.refusal.Refusal.{Refusal}
use Rattle.scald_base.specs.declared.refusal.Stop.{Stop}
use Rattle.scald_base.specs.declared.refusal.Stop.TheVariants.{Refused, NoMemory}
use Rattle.scald_base.specs.declared.refusal.RefusalKind.TheVariants.{BadByte, BadToken}
use Rattle.scald_lex.specs.declared.piece.Piece.{Piece}
use Rattle.scald_lex.specs.declared.token.Token.{Token}
use Rattle.scald_lex.specs.Piece.{piece_at}
use Rattle.scald_lex.specs.Place.{place_at}
use Rattle.scald_lex.specs.Tokens.{size, IsCut, tokens_of, end_token, IsAllowed, AreTokens, IsBadByte, IsRefused, bad_byte, bad_token}
use Rattle.scald_lex.specs.Scan.{IsStop, GivesList, GivesRefusal}
use Rattle.scald_lex.specs.Laws.{OneList, NotBoth, OneRefusal}

record IsSame (ps qs : List Piece) (a b : ℕ) : Type 0 where
  pieces : ps ≡ qs
  to : a ≡ b

one_cut : (text : List ℕ) (from : ℕ) (ps : List Piece) (a : ℕ) (qs : List Piece) (b : ℕ) →
    IsCut text from ps a → piece_at (drop a text) ≡ None → IsCut text from qs b → piece_at (drop b text) ≡ None → IsSame ps qs a b
one_cut text from [] a [] b e h f k = record { pieces = refl; to = sym e ∙ f }
one_cut text from [] a (q ∷ qs) b e h cut k = absurd (let n : piece_at (drop from text) ≡ None = ap (λ (i : ℕ). piece_at (drop i text)) e ∙ h in let s = cut.0 in cc)
one_cut text from (p ∷ ps) a [] b cut h f k = absurd (let n : piece_at (drop from text) ≡ None = ap (λ (i : ℕ). piece_at (drop i text)) f ∙ k in let s = cut.0 in cc)
one_cut text from (p ∷ ps) a (q ∷ qs) b cut h cut' k =
    let s = cut.0 in
    let t = cut'.0 in
    let same : p ≡ q = cc in
    let rest' : IsCut text (from + size p) qs b = subst (λ (x : Piece). IsCut text (from + size x) qs b) (sym same) cut'.1 in
    let rest = one_cut text (from + size p) ps a qs b cut.1 h rest' k in
    let pieces = rest.pieces in
    record { pieces = cc; to = rest.to }

-- At the end nothing stands.
pub none_at_end : (text : List ℕ) → piece_at (drop (length text) text) ≡ None
unfolding piece_at
none_at_end text = ap piece_at (drop-length text)

pub one_list : OneList
one_list text a b is is' =
    let pieces = (one_cut text 0 is.pieces (length text) is'.pieces (length text) is.whole (none_at_end text) is'.whole (none_at_end text)).pieces in
    is.are ∙ ap (λ (ps : List Piece). tokens_of text 0 ps ++ end_token text ∷ []) pieces ∙ sym is'.are

not_allowed : (text : List ℕ) (at : ℕ) → IsAllowed text → IsBadByte text at → ⊥
not_allowed text at allowed bad = let t = allowed at bad.within in let f = bad.bad in absurd cc

pub not_both : NotBoth
not_both text tokens r are (bad_byte at bad e) = not_allowed text at are.allowed bad
not_both text tokens r are (bad_token at bad e) =
    let to = (one_cut text 0 are.pieces (length text) bad.pieces at are.whole (none_at_end text) bad.before bad.bad).to in
    let within = bad.within in
    omega arith

not_before : (text : List ℕ) (a b : ℕ) → IsBadByte text a → IsBadByte text b → a < b → ⊥
not_before text a b is is' h = let t = is'.before a h in let f = is.bad in absurd cc

one_bad_byte : (text : List ℕ) (a b : ℕ) → IsBadByte text a → IsBadByte text b → a ≡ b
one_bad_byte text a b is is' = omega (arith, not_before text a b is is', not_before text b a is' is)

pub one_refusal : OneRefusal
one_refusal text r s (bad_byte a is e) (bad_byte b is' f) =
    e ∙ ap (λ (i : ℕ). record { kind = BadByte; place = place_at text i }) (one_bad_byte text a b is is') ∙ sym f
one_refusal text r s (bad_byte a is e) (bad_token b is' f) = absurd (not_allowed text a is'.allowed is)
one_refusal text r s (bad_token a is e) (bad_byte b is' f) = absurd (not_allowed text b is.allowed is')
one_refusal text r s (bad_token a is e) (bad_token b is' f) =
    e ∙ ap (λ (i : ℕ). record { kind = BadToken; place = place_at text i }) (one_cut text 0 is.pieces a is'.pieces b is.before is.bad is'.before is'.bad).to ∙ sym f

-- So the answer is what the text is.
pub only_list : (text : List ℕ) (result : Result (List Token) Stop) → IfOk result (λ list. AreTokens text list) →
    IfErr result (λ stop. IsStop text stop) → (list : List Token) → AreTokens text list → GivesList list result
only_list text (Ok found) is stops list are = one_list text found list is are
only_list text (Err (Refused r)) is stops list are = absurd (not_both text list r are stops)
only_list text (Err NoMemory) is stops list are = refl

pub only_refusal : (text : List ℕ) (result : Result (List Token) Stop) → IfOk result (λ list. AreTokens text list) →
    IfErr result (λ stop. IsStop text stop) → (r : Refusal) → IsRefused text r → GivesRefusal r result
only_refusal text (Ok found) is stops r refused = not_both text found r is refused
only_refusal text (Err (Refused s)) is stops r refused = inl (ap (λ (x : Refusal). Refused x) (one_refusal text s r stops refused))
only_refusal text (Err NoMemory) is stops r refused = inr refl
