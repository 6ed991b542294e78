-- A head ends at the first empty line.
use Rattle.std.proofs.Common.{◌≡◌, ℕ, zero, suc, ◌+◌, ◌<◌, Bool, true, false, List, [], ◌∷◌, ◌++◌, length, take, refl, sym, ap, ◌∙◌, arith, subst, append_assoc}
use Rattle.std.specs.Prelude.{All, IsTrue, ◌==◌, ◌||◌, ◌&&◌, if◌then◌else◌}
use Rattle.std.specs.List.{flat_map}
use Rattle.std.proofs.lemmas.Bool.{false≢true, ne_eqb}
use Rattle.std.proofs.lemmas.List.{take-append-le, take_all}
use Rattle.std.proofs.lemmas.List.Elements.{All-head, All-tail}
use Rattle.httparse.specs.Grammar.{AllPass, Field, IsField, IsRequestHead, IsToken, LineEnd, ReadsRequest, RequestHead, crlf, is_token_byte, is_uri_byte}
use Rattle.httparse.specs.Grammar.{is_value_byte, lf, print_blank, print_end, print_field, print_request, print_section, print_version}
use Rattle.httparse.proofs.GrammarLemmas.{cons-append}
use Rattle.http_streams.specs.Closing.{begins_with_empty_line, begins_with_lf, has_empty_line, is_closed}
use Rattle.http_request.specs.HeadEnd.{IsFirstClosedAt}

-- the bytes pass the test, and no shorter beginning of them does
record EndsFirst (test : List ℕ → Bool) (bytes : List ℕ) : Type 0 where
  whole : test bytes ≡ true
  front : (n : ℕ) → n < length bytes → test (take n bytes) ≡ false

-- ---- one more byte before

-- after this byte one test continues as the other
ends-following : (test following : List ℕ → Bool) (b : ℕ) (bytes : List ℕ) → test [] ≡ false → ((more : List ℕ) → test (b ∷ more) ≡ following more)
    → EndsFirst following bytes → EndsFirst test (b ∷ bytes)
ends-following test following b bytes none same e = record { whole = same bytes ∙ e.whole; front = front }
  where
    front : (n : ℕ) → n < length (b ∷ bytes) → test (take n (b ∷ bytes)) ≡ false
    front zero l = none
    front (suc n) l = same (take n bytes) ∙ e.front n (omega arith)

-- a byte of a line
ends-byte : (b : ℕ) (bytes : List ℕ) → (b == 10) ≡ false → EndsFirst has_empty_line bytes → EndsFirst has_empty_line (b ∷ bytes)
ends-byte b bytes apart e =
    ends-following has_empty_line has_empty_line b bytes refl
    (λ more. ap (λ (t : Bool). (t && begins_with_empty_line more) || has_empty_line more) apart) e

-- the LF of a line, with no empty line after it
ends-line : (b : ℕ) (bytes : List ℕ) → (b == 10) ≡ false → (b == 13) ≡ false
    → EndsFirst has_empty_line (b ∷ bytes) → EndsFirst has_empty_line (10 ∷ b ∷ bytes)
ends-line b bytes apart none e = record { whole = same bytes ∙ e.whole; front = front }
  where
    same : (more : List ℕ) → has_empty_line (10 ∷ b ∷ more) ≡ has_empty_line (b ∷ more)
    same more =
        ap (λ (t : Bool). (t || ((b == 13) && begins_with_lf more)) || has_empty_line (b ∷ more)) apart
        ∙ ap (λ (t : Bool). (t && begins_with_lf more) || has_empty_line (b ∷ more)) none

    front : (n : ℕ) → n < length (10 ∷ b ∷ bytes) → has_empty_line (take n (10 ∷ b ∷ bytes)) ≡ false
    front zero l = refl
    front (suc zero) l = refl
    front (suc (suc n)) l = same (take n bytes) ∙ e.front (suc n) (omega arith)

-- ---- the parts of a line

-- a byte that passes where LF does not
differs : (test : ℕ → Bool) (other b : ℕ) → test other ≡ false → test b ≡ true → (b == other) ≡ false
differs test other b fails passes = ne_eqb b other (λ e. false≢true (sym fails ∙ subst (λ (v : ℕ). test v ≡ true) e passes))

ends-run : (test : ℕ → Bool) (run bytes : List ℕ) → test 10 ≡ false → AllPass test run
    → EndsFirst has_empty_line bytes → EndsFirst has_empty_line (run ++ bytes)
ends-run test [] bytes fails pass e = e
ends-run test (b ∷ run) bytes fails pass e =
    ends-byte b (run ++ bytes) (differs test 10 b fails (All-head (λ v. IsTrue (test v)) b run pass))
    (ends-run test run bytes fails (All-tail (λ v. IsTrue (test v)) b run pass) e)

ends-line_end : (end : LineEnd) (bytes : List ℕ) → EndsFirst has_empty_line (10 ∷ bytes) → EndsFirst has_empty_line (print_end end ++ bytes)
ends-line_end crlf bytes e = ends-byte 13 (10 ∷ bytes) refl e
ends-line_end lf bytes e = e

-- ---- fields

lf_no_token : is_token_byte 10 ≡ false
unfolding is_token_byte
lf_no_token = refl

cr_no_token : is_token_byte 13 ≡ false
unfolding is_token_byte
cr_no_token = refl

ends-field : (name raw bytes : List ℕ) (end : LineEnd) → IsToken name → AllPass is_value_byte raw
    → EndsFirst has_empty_line (10 ∷ bytes) → EndsFirst has_empty_line (10 ∷ (name ++ (58 ∷ (raw ++ (print_end end ++ bytes)))))
ends-field [] raw bytes end token value e = let never : ⊥ = omega (arith, token.0) in absurd never
ends-field (b ∷ name) raw bytes end token value e =
    let passes = All-head (λ v. IsTrue (is_token_byte v)) b name token.1 in
    let apart = differs is_token_byte 10 b lf_no_token passes in
    let following = ends-byte 58 _ refl (ends-run is_value_byte raw _ refl value (ends-line_end end bytes e)) in
    ends-line b _ apart (differs is_token_byte 13 b cr_no_token passes)
    (ends-byte b _ apart (ends-run is_token_byte name _ lf_no_token (All-tail (λ v. IsTrue (is_token_byte v)) b name token.1) following))

-- the LF of the line before, and then the fields and the empty line
ends-section : (fields : List Field) (last : LineEnd) → All IsField fields → EndsFirst has_empty_line (10 ∷ print_section fields last)
ends-section [] crlf all = record { whole = refl; front = front }
  where
    front : (n : ℕ) → n < length {A = ℕ} (10 ∷ 13 ∷ 10 ∷ []) → has_empty_line (take n (10 ∷ 13 ∷ 10 ∷ [])) ≡ false
    front zero l = refl
    front (suc zero) l = refl
    front (suc (suc zero)) l = refl
    front (suc (suc (suc n))) l = let never : ⊥ = omega (arith, l) in absurd never
ends-section [] lf all = record { whole = refl; front = front }
  where
    front : (n : ℕ) → n < length {A = ℕ} (10 ∷ 10 ∷ []) → has_empty_line (take n (10 ∷ 10 ∷ [])) ≡ false
    front zero l = refl
    front (suc zero) l = refl
    front (suc (suc n)) l = let never : ⊥ = omega (arith, l) in absurd never
ends-section (f ∷ fields) last all =
    let is = All-head IsField f fields all in
    subst (λ (t : List ℕ). EndsFirst has_empty_line (10 ∷ t)) (sym (parted f.name f.raw (print_end f.end) (flat_map print_field fields) (print_end last)))
    (ends-field f.name f.raw (print_section fields last) f.end is.name is.raw (ends-section fields last (All-tail IsField f fields all)))
  where
    parted : (name raw end more last : List ℕ) → name ++ 58 ∷ raw ++ end ++ more ++ last ≡ name ++ (58 ∷ (raw ++ (end ++ (more ++ last))))
    parted name raw end more last = simp (append_assoc, cons-append)

-- ---- the first line

ends-version : (minor : ℕ) (bytes : List ℕ) → EndsFirst has_empty_line bytes → EndsFirst has_empty_line (print_version minor ++ bytes)
ends-version minor bytes e =
    ends-byte 72 _ refl (ends-byte 84 _ refl (ends-byte 84 _ refl (ends-byte 80 _ refl (ends-byte 47 _ refl (ends-byte 49 _ refl
    (ends-byte 46 _ refl (ends-byte (48 + minor) bytes (ne_eqb (48 + minor) 10 (λ e. omega (arith, e))) e)))))))

ends-method : (method bytes : List ℕ) → IsToken method → EndsFirst has_empty_line bytes → EndsFirst is_closed (method ++ bytes)
ends-method [] bytes token e = let never : ⊥ = omega (arith, token.0) in absurd never
ends-method (b ∷ method) bytes token e =
    let passes = All-head (λ v. IsTrue (is_token_byte v)) b method token.1 in
    ends-following is_closed has_empty_line b (method ++ bytes) refl
    (λ more.
    ap (λ (t : Bool). if t || (b == 13) then is_closed more else has_empty_line more) (differs is_token_byte 10 b lf_no_token passes)
    ∙ ap (λ (t : Bool). if t then is_closed more else has_empty_line more) (differs is_token_byte 13 b cr_no_token passes))
    (ends-run is_token_byte method bytes lf_no_token (All-tail (λ v. IsTrue (is_token_byte v)) b method token.1) e)

ends-blank : (ends : List LineEnd) (bytes : List ℕ) → EndsFirst is_closed bytes → EndsFirst is_closed (print_blank ends ++ bytes)
ends-blank [] bytes e = e
ends-blank (crlf ∷ ends) bytes e =
    ends-following is_closed is_closed 13 (10 ∷ (print_blank ends ++ bytes)) refl (λ more. refl)
    (ends-following is_closed is_closed 10 (print_blank ends ++ bytes) refl (λ more. refl) (ends-blank ends bytes e))
ends-blank (lf ∷ ends) bytes e = ends-following is_closed is_closed 10 (print_blank ends ++ bytes) refl (λ more. refl) (ends-blank ends bytes e)

-- ---- the head

ends-request : (head : RequestHead) → IsRequestHead head → EndsFirst is_closed (print_request head)
unfolding print_request
ends-request head is =
    let section = ends-line_end head.line_end (print_section head.fields head.last) (ends-section head.fields head.last is.fields) in
    subst (λ (t : List ℕ). EndsFirst is_closed t)
    (sym (parted (print_blank head.blank) head.method head.target (print_version head.minor) (print_end head.line_end) (print_section head.fields head.last)))
    (ends-blank head.blank _
    (ends-method head.method _ is.method
    (ends-byte 32 _ refl (ends-run is_uri_byte head.target _ refl is.target.1 (ends-byte 32 _ refl (ends-version head.minor _ section))))))
  where
    parted : (a b c d e f : List ℕ) → a ++ b ++ 32 ∷ c ++ 32 ∷ d ++ e ++ f ≡ a ++ (b ++ (32 ∷ (c ++ (32 ∷ (d ++ (e ++ f))))))
    parted a b c d e f = simp (append_assoc, cons-append)

first_closed : (bytes rest : List ℕ) → EndsFirst is_closed bytes → IsFirstClosedAt (bytes ++ rest) (length bytes)
first_closed bytes rest e = record {
  closed = ap is_closed (take-append-le (length bytes) bytes rest (omega arith) ∙ take_all (length bytes) bytes (omega arith)) ∙ e.whole;
  open_before = λ n less. ap is_closed (take-append-le n bytes rest (omega (arith, less))) ∙ e.front n less;
}

pub head-ends : (bytes rest : List ℕ) (head : RequestHead) → ReadsRequest bytes head rest → IsFirstClosedAt bytes (length (print_request head))
head-ends bytes rest head reads =
    subst (λ (t : List ℕ). IsFirstClosedAt t (length (print_request head))) (sym reads.1) (first_closed (print_request head) rest (ends-request head reads.0))
