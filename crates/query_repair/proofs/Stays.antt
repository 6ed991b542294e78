-- A query that needs no repair stays as it is.
use Rattle.std.proofs.Common.{◌≡◌, Bool, true, false, cond, not, List, [], ◌∷◌, ◌++◌, refl, ap, ◌∙◌}
use Rattle.std.specs.List.{All, join_with_byte}
use Rattle.std.proofs.lemmas.Bool.{and_parts, not-true}
use Rattle.std.proofs.lemmas.List.{append-nil}
use Rattle.std.proofs.lemmas.List.Elements.{All-head, All-tail}
use Rattle.std.proofs.lemmas.List.Splits.{join_with_byte-slice_split}
use Rattle.text_model.specs.Texts.{Text}
use Rattle.query_repair.specs.Pieces.{ampersand, parts, cleaned, has_base, base_of, after_base, opened, pieces_of, pieces}
use Rattle.query_repair.specs.Joining.{belongs, separator, pair_after, joined_after, joined}
use Rattle.query_repair.specs.Repair.{has_no_second_pair, separated, repaired}
use Rattle.query_repair.specs.Settled.{are_apart_from, are_apart, IsSettled}

-- ---- its pieces are its parts

one_piece : (part : Text) → cleaned part ≡ part → has_base part ≡ false → opened (cleaned part) ≡ part ∷ []
one_piece part clean closed =
    ap opened clean ∙ ap (λ b. cond b (base_of part ∷ after_base part ∷ []) (part ∷ [])) closed

pub pieces_same : (ps : List Text) → All (λ part. cleaned part ≡ part) ps → All (λ part. has_base part ≡ false) ps → pieces_of ps ≡ ps
pieces_same [] clean closed = refl
pieces_same (part ∷ ps) clean closed =
    let C : Text → Type 0 = λ part. cleaned part ≡ part in
    let O : Text → Type 0 = λ part. has_base part ≡ false in
    ap (λ one. one ++ pieces_of ps) (one_piece part (All-head C part ps clean) (All-head O part ps closed))
    ∙ ap (λ rest. part ∷ rest) (pieces_same ps (All-tail C part ps clean) (All-tail O part ps closed))

-- ---- which are joined by `&`

apart_after : (b : Bool) (pair piece : Text) (pieces : List Text) → b ≡ false
    → separator b ++ piece ++ joined_after (pair_after b pair piece) pieces ≡ ampersand ∷ (piece ++ joined_after piece pieces)
apart_after true pair piece pieces e = cc
apart_after false pair piece pieces e = refl

joined_from : (first : Text) (others : List Text) → are_apart_from first others ≡ true
    → first ++ joined_after first others ≡ join_with_byte ampersand (first ∷ others)
joined_from first [] apart = append-nil first
joined_from first (second ∷ others) apart =
    let both = and_parts (not (belongs first second)) (are_apart_from second others) apart in
    ap (λ text. first ++ text) (apart_after (belongs first second) first second others (not-true _ both.0))
    ∙ ap (λ text. first ++ ampersand ∷ text) (joined_from second others both.1)

pub joined_same : (ps : List Text) → are_apart ps ≡ true → joined ps ≡ join_with_byte ampersand ps
joined_same [] apart = refl
joined_same (first ∷ others) apart = joined_from first others apart

-- ---- the query

same_ampersands : (b : Bool) (query other : Text) → (b ≡ true → other ≡ query) → cond b other query ≡ query
same_ampersands true query other same = same refl
same_ampersands false query other same = refl

pub settled_stays : (query : Text) → IsSettled query → repaired query ≡ query
unfolding repaired
settled_stays query settled =
    ap (λ text. joined (pieces text)) (same_ampersands (has_no_second_pair (parts query)) query (separated query) settled.separate)
    ∙ ap joined (pieces_same (parts query) settled.clean settled.closed)
    ∙ joined_same (parts query) settled.apart
    ∙ join_with_byte-slice_split ampersand query
