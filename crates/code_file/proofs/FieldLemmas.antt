-- The fields of a code file.
use Rattle.std.proofs.Common.{◌≡◌, ◌≤◌, ℕ, Bool, ◌∷◌, ◌++◌, length, take, drop, get_or, refl, sym, ◌∙◌, ap, subst, arith}
use Rattle.std.specs.Prelude.{◌==◌, Result, Ok, Err, MatchResult, IsOk}
use Rattle.std.specs.Str.{IsUtf8, IsAscii}
use Rattle.std.proofs.lemmas.Grind.{common_steps}
use Rattle.std.proofs.lemmas.Str.{IsUtf8-from_ascii}
use Rattle.code_file.specs.Private.Tables.{BeginsWith}
use Rattle.text_model.specs.Texts.{Text}
use Rattle.code_model.specs.Code.{Name}
use Rattle.code_file.specs.Grammar.{number, kind_byte, name_field, IsCodeName}

pub kind_byte-kind : (k : ℕ) → k ≤ 1 → kind_byte (k == 1) ≡ k
kind_byte-kind k h = grind arith

pub name_spelled : (bytes rest text after : Text) (list : Bool) (len : ℕ) → bytes ≡ kind_byte list ∷ len ∷ rest
    → text ≡ take len rest → after ≡ drop len rest → length text ≡ len
    → bytes ≡ kind_byte list ∷ length text ∷ (text ++ after)
name_spelled bytes rest text after list len h front back n = grind (arith, common_steps)

pub literal_spelled : (bytes following rest text after : Text) (compared : Bool) (len : ℕ) → bytes ≡ kind_byte compared ∷ following
    → following ≡ number len ++ rest → text ≡ take len rest → after ≡ drop len rest → length text ≡ len
    → bytes ≡ kind_byte compared ∷ (number (length text) ++ (text ++ after))
literal_spelled bytes following rest text after compared len h g front back n = grind (arith, common_steps)

-- a kind, and what follows it
pub name_head : (bytes following rest : Text) (list : Bool) → bytes ≡ kind_byte list ∷ following → following ≡ rest
    → bytes ≡ kind_byte list ∷ rest
name_head bytes following rest list h g = h ∙ ap (λ (t : Text). kind_byte list ∷ t) g

-- ---- the text of a name is ASCII

ascii_name : (n : Name) → IsCodeName n → IsAscii n.text
ascii_name n good i = grind (arith, common_steps)

pub name_text : (bytes following text : Text) → BeginsWith IsCodeName name_field bytes → following ≡ drop 2 bytes
    → text ≡ take (get_or bytes 1 0) following → IsUtf8 text
name_text bytes following text b h e =
    let same : text ≡ b.0.text = grind (arith, common_steps) in
    subst IsUtf8 (sym same) (IsUtf8-from_ascii b.0.text (ascii_name b.0 b.2))

pub ok_of_utf8 : {T E : Type 0} (r : Result T E) (P : T → Type 0) (Q : E → Type 0) (U : Type 0)
    → MatchResult r P (λ e. (U → ⊥) × Q e) → U → IsOk r
ok_of_utf8 (Ok x) P Q U h u = refl
ok_of_utf8 (Err e) P Q U h u = absurd (h.0 u)
