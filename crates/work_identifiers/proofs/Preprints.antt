-- What follows from the form of an identifier of arXiv.
use Rattle.std.proofs.Common.{◌≡◌, ℕ, ◌+◌, ◌-◌, ◌<◌, ◌≤◌, [], ◌∷◌, ◌++◌, ◌⊎◌, inl, inr, Bool, true, false, cond, length, take, drop, get_or}
use Rattle.std.proofs.Common.{refl, sym, ap, ◌∙◌, subst, arith}
use Rattle.std.specs.Prelude.{nat_le}
use Rattle.std.specs.Char.{is_ascii_digit}
use Rattle.std.specs.List.{All, list_all, prefix_len, take_while}
use Rattle.std.specs.Str.{IsAscii}
use Rattle.std.proofs.lemmas.Bool.{and_parts, or_cases, eqb-true, leb-true}
use Rattle.std.proofs.lemmas.Bool.Decides.{nat_tests}
use Rattle.std.proofs.lemmas.List.{take_all, drop_all, drop_more, take-append-drop, length-drop}
use Rattle.std.proofs.lemmas.List.Elements.{All-append, All-cons, All-head, All-tail, All-weaker, All-get_or}
use Rattle.std.proofs.lemmas.List.Sums.{AllPass-from_list_all, prefix_len_is, prefix_len-le-length, take_while-cons}
use Rattle.std.proofs.lemmas.Str.Ascii.{IsAscii-from_all}
use Rattle.text_model.specs.Texts.{Text}
use Rattle.work_identifiers.specs.Ends.{is_before}
use Rattle.work_identifiers.specs.Forms.{is_digit_or_stop, is_name_byte, is_lead_byte, lead_length, name_length, is_new, is_archive, is_old, is_arxiv}
use Rattle.work_identifiers.specs.Places.{is_rest, preprint_length, preprint}

-- ---- bytes

-- each byte passes a test
abbrev pub Pass : (ℕ → Bool) → Text → Type 0
Pass test t = All (λ b. test b ≡ true) t

digit_joins : (b : ℕ) → is_ascii_digit b ≡ true → is_digit_or_stop b ≡ true
digit_joins b h = grind (arith, nat_tests)

digit_leads_not : (b : ℕ) → is_ascii_digit b ≡ true → is_lead_byte b ≡ false
digit_leads_not b h = grind (arith, nat_tests)

digit_is_no_before : (b : ℕ) → is_ascii_digit b ≡ true → is_before b ≡ false
digit_is_no_before b h = grind (arith, nat_tests)

name_is_no_before : (b : ℕ) → is_name_byte b ≡ true → is_before b ≡ false
name_is_no_before b h = grind (arith, nat_tests)

lead_below : (b : ℕ) → is_lead_byte b ≡ true → b < 128
lead_below b h = grind (arith, nat_tests)

joined_below : (b : ℕ) → is_digit_or_stop b ≡ true → b < 128
joined_below b h = grind (arith, nat_tests)

pub digits_pass : (t : Text) → list_all is_ascii_digit t ≡ true → Pass is_ascii_digit t
digits_pass t h = AllPass-from_list_all is_ascii_digit t h

digits_join : (t : Text) → list_all is_ascii_digit t ≡ true → Pass is_digit_or_stop t
digits_join t h = All-weaker (λ b. is_ascii_digit b ≡ true) (λ b. is_digit_or_stop b ≡ true) digit_joins t (digits_pass t h)

-- the beginning of a text that passes is all of it
pub passes_whole : (test : ℕ → Bool) (t : Text) → Pass test t → prefix_len test t ≡ length t
passes_whole test t all =
    prefix_len_is test t (length t) 0 (omega arith) (λ k g. All-get_or (λ b. test b ≡ true) t k 0 g all) (λ g. absurd (omega arith))

-- ---- new identifiers

pub new_joined : (n : Text) → is_new n ≡ true → Pass is_digit_or_stop n
new_joined n h =
    let P : ℕ → Type 0 = λ b. is_digit_or_stop b ≡ true in
    let front = and_parts _ _ (and_parts _ _ h).0 in
    let long : 9 ≤ length n = leb-true _ _ (and_parts _ _ (and_parts _ _ front.0).0).0 in
    let stop : get_or n 4 0 ≡ 0x2e = eqb-true _ _ front.1 in
    let rest : drop 4 n ≡ get_or n 4 0 ∷ drop 5 n = drop_more n 4 0 (omega arith) in
    subst (All P) (take-append-drop 4 n)
    (All-append P (take 4 n) (drop 4 n) (digits_join (take 4 n) (and_parts _ _ front.0).1)
    (subst (All P) (sym rest) (All-cons P (get_or n 4 0) (drop 5 n) (ap is_digit_or_stop stop) (digits_join (drop 5 n) (and_parts _ _ h).1))))

new_begins : (b : ℕ) (t : Text) → is_new (b ∷ t) ≡ true → is_ascii_digit b ≡ true
new_begins b t h = (and_parts _ _ (and_parts _ _ (and_parts _ _ (and_parts _ _ h).0).0).1).0

lead_none : (b : ℕ) (t : Text) → is_lead_byte b ≡ false → lead_length (b ∷ t) ≡ 0
lead_none b t h = ap (λ c. cond c (1 + lead_length t) 0) h

pub new_leads_not : (n : Text) → is_new n ≡ true → lead_length n ≡ 0
new_leads_not [] h = refl
new_leads_not (b ∷ t) h = lead_none b t (digit_leads_not b (new_begins b t h))

-- ---- the part of an identifier is itself

abbrev IsWhole : Text → ℕ → Type 0
IsWhole n lead = length n ≤ lead + prefix_len is_digit_or_stop (drop lead n)

new_whole : (n : Text) → is_new n ≡ true → IsWhole n (lead_length n)
new_whole n h =
    let all : prefix_len is_digit_or_stop n ≡ length n = passes_whole is_digit_or_stop n (new_joined n h) in
    let at_0 : IsWhole n 0 = omega (arith, all) in
    subst (IsWhole n) (sym (new_leads_not n h)) at_0

old_whole : (n : Text) → is_old n ≡ true → IsWhole n (lead_length n)
old_whole n h =
    let k = lead_length n in
    let digits : list_all is_ascii_digit (drop k n) ≡ true = (and_parts _ _ (and_parts _ _ h).1).1 in
    let all : prefix_len is_digit_or_stop (drop k n) ≡ length (drop k n) =
    passes_whole is_digit_or_stop (drop k n) (digits_join (drop k n) digits) in
    let rest : length (drop k n) ≡ length n - k = length-drop k n in
    let longest : k ≤ length n = prefix_len-le-length is_lead_byte n in
    omega (arith, all, rest, longest)

pub preprint_same : (n : Text) → is_arxiv n ≡ true → preprint n ≡ n
preprint_same n h = by_form (or_cases (is_new n) (is_old n) h)
  where
    whole : IsWhole n (lead_length n) → preprint n ≡ n
    whole w =
        let k = preprint_length n in ap (λ rest. cond (is_rest rest) (take k n) []) (drop_all k n w) ∙ take_all k n w

    by_form : (is_new n ≡ true) ⊎ (is_old n ≡ true) → preprint n ≡ n
    by_form (inl new) = whole (new_whole n new)
    by_form (inr old) = whole (old_whole n old)

-- ---- ASCII

-- the front of a text that passes
pub front_passes : (test : ℕ → Bool) (t : Text) → Pass test (take_while test t)
front_passes test [] = λ k d h. absurd (omega arith)
front_passes test (b ∷ t) = subst (Pass test) (sym (take_while-cons test b t)) (by_test (test b) refl (front_passes test t))
  where
    by_test : (c : Bool) → test b ≡ c → Pass test (take_while test t) → Pass test (cond c (b ∷ take_while test t) [])
    by_test true e rest = All-cons (λ c. test c ≡ true) b (take_while test t) e rest
    by_test false e rest = λ k d h. absurd (omega arith)

-- the front of a text after a part that passes
pub while_front : (test : ℕ → Bool) (s t : Text) → Pass test s → take_while test (s ++ t) ≡ s ++ take_while test t
while_front test [] t all = refl
while_front test (b ∷ s) t all =
    let P : ℕ → Type 0 = λ c. test c ≡ true in
    take_while-cons test b (s ++ t) ∙ ap (λ c. cond c (b ∷ take_while test (s ++ t)) []) (All-head P b s all)
    ∙ ap (λ more. b ∷ more) (while_front test s t (All-tail P b s all))

-- what holds of the bytes of an archive and of a number holds of all bytes
pub arxiv_passes : (P : ℕ → Type 0) → ((b : ℕ) → is_lead_byte b ≡ true → P b) → ((b : ℕ) → is_digit_or_stop b ≡ true → P b)
    → (n : Text) → is_arxiv n ≡ true → All P n
arxiv_passes P lead joined n h = by_form (or_cases (is_new n) (is_old n) h)
  where
    by_form : (is_new n ≡ true) ⊎ (is_old n ≡ true) → All P n
    by_form (inl new) = All-weaker (λ b. is_digit_or_stop b ≡ true) P joined n (new_joined n new)
    by_form (inr old) =
        let k = lead_length n in
        let number = digits_join (drop k n) (and_parts _ _ (and_parts _ _ old).1).1 in
        subst (All P) (take-append-drop k n)
        (All-append P (take k n) (drop k n) (All-weaker (λ b. is_lead_byte b ≡ true) P lead (take k n) (front_passes is_lead_byte n))
        (All-weaker (λ b. is_digit_or_stop b ≡ true) P joined (drop k n) number))

pub arxiv_ascii : (n : Text) → is_arxiv n ≡ true → IsAscii n
arxiv_ascii n h = IsAscii-from_all n (arxiv_passes (λ b. b < 128) lead_below joined_below n h)

-- ---- the first byte

archive_begins : (b : ℕ) (t : Text) → is_archive (b ∷ t) ≡ true → is_name_byte b ≡ true
archive_begins b t h = by_test (is_name_byte b) refl (and_parts _ _ (and_parts _ _ h).0).0
  where
    by_test : (c : Bool) → is_name_byte b ≡ c → nat_le 2 (cond c (1 + name_length t) 0) ≡ true → is_name_byte b ≡ true
    by_test true e g = e
    by_test false e g = cc

old_begins : (b : ℕ) (t : Text) → is_old (b ∷ t) ≡ true → is_name_byte b ≡ true
old_begins b t h = by_test (is_lead_byte b) (subst (λ lead. is_archive lead ≡ true) (take_while-cons is_lead_byte b t) (and_parts _ _ h).0)
  where
    by_test : (c : Bool) → is_archive (cond c (b ∷ take_while is_lead_byte t) []) ≡ true → is_name_byte b ≡ true
    by_test true g = archive_begins b (take_while is_lead_byte t) g
    by_test false g = cc

pub arxiv_begins : (b : ℕ) (t : Text) → is_arxiv (b ∷ t) ≡ true → is_before b ≡ false
arxiv_begins b t h = by_form (or_cases (is_new (b ∷ t)) (is_old (b ∷ t)) h)
  where
    by_form : (is_new (b ∷ t) ≡ true) ⊎ (is_old (b ∷ t) ≡ true) → is_before b ≡ false
    by_form (inl new) = digit_is_no_before b (new_begins b t new)
    by_form (inr old) = name_is_no_before b (old_begins b t old)
