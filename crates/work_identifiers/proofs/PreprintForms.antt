-- The canonical form of an identifier of arXiv is one, and with the beginning of its DOI it is a DOI.
use Rattle.std.proofs.Common.{◌≡◌, ℕ, ◌+◌, ◌-◌, ◌<◌, ◌≤◌, [], ◌∷◌, ◌++◌, ◌⊎◌, inl, inr, true, false, cond, not, ◌&&◌, length, take, drop, get_or}
use Rattle.std.proofs.Common.{map, refl, sym, ap, ◌∙◌, subst, arith, append-nil, append_assoc}
use Rattle.std.specs.Prelude.{codes, nat_lt, slice_index}
use Rattle.std.specs.Char.{is_ascii_digit, to_ascii_lowercase}
use Rattle.std.specs.List.{list_all, take_while}
use Rattle.std.specs.Str.{bytes_eq}
use Rattle.std.proofs.lemmas.Bool.{and_parts, and_from, or_cases, or_from, or_left, or_right, eqb-true, leb-true, le-leb, le-ltb}
use Rattle.std.proofs.lemmas.Bool.Decides.{nat_tests}
use Rattle.std.proofs.lemmas.List.{drop_at, drop_more, length-drop, length-map, map-append, get_or-drop, get_or-take}
use Rattle.std.proofs.lemmas.List.Elements.{All-weaker, All-get_or, All-map}
use Rattle.std.proofs.lemmas.List.Sums.{take_while-cons}
use Rattle.std.proofs.lemmas.List.Folds.{length-prefix_len, map_fixed}
use Rattle.text_model.specs.Texts.{Text}
use Rattle.work_identifiers.specs.declared.namespace.Namespace.TheVariants.{Arxiv}
use Rattle.work_identifiers.specs.Ends.{is_after, opening_of, count_of, is_unopened, ends_loosely}
use Rattle.work_identifiers.specs.Forms.{is_digit_or_stop, is_name_byte, is_lead_byte, lead_length, name_length, is_between}
use Rattle.work_identifiers.specs.Forms.{is_new, is_class, is_archive, is_old_number, is_old, is_arxiv, IsIdentifier}
use Rattle.work_identifiers.specs.Uris.{canonical_arxiv}
use Rattle.work_identifiers.proofs.Preprints.{Pass, digits_pass, front_passes, while_front, new_joined, new_leads_not}

-- ---- the last byte

pub digit_after : (b : ℕ) → is_ascii_digit b ≡ true → is_after b ≡ false
digit_after b h = grind (arith, nat_tests)

pub digit_opening : (b : ℕ) → is_ascii_digit b ≡ true → opening_of b ≡ b
digit_opening b h = grind (arith, nat_tests)

pub firm_digit : (t : Text) → is_ascii_digit (slice_index t (length t - 1)) ≡ true → ends_loosely t ≡ false
firm_digit t h =
    let b = slice_index t (length t - 1) in
    let opened : is_unopened b t ≡ false =
    ap (λ c. nat_lt (count_of c t) (count_of b t)) (digit_opening b h) ∙ le-ltb (count_of b t) (count_of b t) (omega arith) in
    or_from _ _ (digit_after b h) opened

pub last_of_rest : (t : Text) (n : ℕ) → n < length t → list_all is_ascii_digit (drop n t) ≡ true → is_ascii_digit (slice_index t (length t - 1)) ≡ true
last_of_rest t n h digits =
    let m : ℕ = length t - 1 - n in
    let at : n + m ≡ length t - 1 = omega arith in
    let within : m < length (drop n t) = omega (arith, length-drop n t) in
    let same : get_or (drop n t) m 0 ≡ get_or t (length t - 1) 0 = get_or-drop n t m 0 ∙ ap (λ k. get_or t k 0) at in
    ap is_ascii_digit (sym same) ∙ All-get_or (λ b. is_ascii_digit b ≡ true) (drop n t) m 0 within (digits_pass (drop n t) digits)

pub arxiv_last : (n : Text) → is_arxiv n ≡ true → is_ascii_digit (slice_index n (length n - 1)) ≡ true
arxiv_last n h = by_form (or_cases (is_new n) (is_old n) h)
  where
    by_form : (is_new n ≡ true) ⊎ (is_old n ≡ true) → is_ascii_digit (slice_index n (length n - 1)) ≡ true
    by_form (inl new) =
        let long : 9 ≤ length n = leb-true _ _ (and_parts _ _ (and_parts _ _ (and_parts _ _ (and_parts _ _ new).0).0).0).0 in
        last_of_rest n 5 (omega arith) (and_parts _ _ new).1
    by_form (inr old) =
        let k = lead_length n in
        let seven : length (drop k n) ≡ 7 = eqb-true _ _ (and_parts _ _ (and_parts _ _ old).1).0 in
        last_of_rest n k (omega (arith, seven, length-drop k n)) (and_parts _ _ (and_parts _ _ old).1).1

-- ---- an archive

-- the place of the slash at its end
abbrev pub HasSlash : Text → Type 0
HasSlash t = (i : ℕ) × (length t ≡ i + 1) × (i ≤ 3) × (get_or t i 0 ≡ 0x2f)

pub slash_alone : (t : Text) → bytes_eq t (codes "/") ≡ true → HasSlash t
slash_alone [] h = cc
slash_alone (b ∷ []) h = (0, refl, omega arith, eqb-true b 0x2f (and_parts _ _ h).0)
slash_alone (b ∷ d ∷ t) h = absurd (never (and_parts _ _ h).1)
  where
    never : false ≡ true → ⊥
    never e = cc

pub class_ends : (t : Text) → is_class t ≡ true → HasSlash t
class_ends t h =
    let four : length t ≡ 4 = eqb-true _ _ (and_parts _ _ (and_parts _ _ (and_parts _ _ (and_parts _ _ h).0).0).0).0 in
    (3, four, omega arith, eqb-true _ _ (and_parts _ _ h).1)

-- the name, the slash and the number
pub record IsSplit (n : Text) : Type 0 where
  few : 2 ≤ name_length (take (lead_length n) n)
  short : name_length (take (lead_length n) n) ≤ 14
  long : length n ≤ name_length (take (lead_length n) n) + 11
  slashed : drop (length (take (lead_length n) n) - 1) n ≡ 0x2f ∷ drop (lead_length n) n

pub slashed_split : (n : Text) (k j : ℕ) → is_old n ≡ true → lead_length n ≡ k → name_length (take k n) ≡ j → HasSlash (drop j (take k n)) → IsSplit n
slashed_split n k j h lead_is name_is slash =
    let old : is_archive (take k n) && is_old_number (drop k n) ≡ true = ap (λ m. is_archive (take m n) && is_old_number (drop m n)) (sym lead_is) ∙ h in
    let seven : length (drop k n) ≡ 7 = eqb-true _ _ (and_parts _ _ (and_parts _ _ old).1).0 in
    let length_lead : length (take k n) ≡ k = ap (λ m. length (take m n)) (sym lead_is) ∙ length-prefix_len is_lead_byte n ∙ lead_is in
    let rest : length (drop k n) ≡ length n - k = length-drop k n in
    let class : length (drop j (take k n)) ≡ length (take k n) - j = length-drop j (take k n) in
    let one_more : length (drop j (take k n)) ≡ slash.0 + 1 = slash.1 in
    let few_more : slash.0 ≤ 3 = slash.2 in
    let whole : j + slash.0 + 1 ≡ k = omega arith in
    let at : get_or n (j + slash.0) 0 ≡ 0x2f =
    sym (get_or-take k n (j + slash.0) 0 (omega arith)) ∙ sym (get_or-drop j (take k n) slash.0 0) ∙ slash.3 in
    let same : length (take k n) - 1 ≡ j + slash.0 = omega arith in
    let next : drop (j + slash.0 + 1) n ≡ drop k n = ap (λ m. drop m n) whole in
    let between : is_between 2 14 (name_length (take k n)) ≡ true = (and_parts _ _ (and_parts _ _ old).0).0 in
    let few_bytes : 2 ≤ name_length (take k n) = leb-true _ _ (and_parts _ _ between).0 in
    let short_name : name_length (take k n) ≤ 14 = leb-true _ _ (and_parts _ _ between).1 in
    let more_than : length n ≤ name_length (take k n) + 11 = omega arith in
    let slashed_rest : drop (length (take k n) - 1) n ≡ 0x2f ∷ drop k n =
    ap (λ m. drop m n) same ∙ drop_more n (j + slash.0) 0 (omega arith) ∙ ap (λ b. b ∷ drop (j + slash.0 + 1) n) at
    ∙ ap (λ t. 0x2f ∷ t) next in
    record {
      few = subst (λ m. 2 ≤ name_length (take m n)) (sym lead_is) few_bytes;
      short = subst (λ m. name_length (take m n) ≤ 14) (sym lead_is) short_name;
      long = subst (λ m. length n ≤ name_length (take m n) + 11) (sym lead_is) more_than;
      slashed = subst (λ m. drop (length (take m n) - 1) n ≡ 0x2f ∷ drop m n) (sym lead_is) slashed_rest;
    }

pub old_split : (n : Text) → is_old n ≡ true → IsSplit n
old_split n h = by_class (or_cases _ _ (and_parts _ _ (and_parts _ _ h).0).1)
  where
    lead : Text
    lead = take (lead_length n) n

    by_class : (bytes_eq (drop (name_length lead) lead) (codes "/") ≡ true) ⊎ (is_class (drop (name_length lead) lead) ≡ true) → IsSplit n
    by_class (inl alone) = slashed_split n (lead_length n) (name_length lead) h refl refl (slash_alone (drop (name_length lead) lead) alone)
    by_class (inr class) = slashed_split n (lead_length n) (name_length lead) h refl refl (class_ends (drop (name_length lead) lead) class)

-- ---- a name, a slash and seven digits are an identifier

pub digit_leads_not : (b : ℕ) → is_ascii_digit b ≡ true → is_lead_byte b ≡ false
digit_leads_not b h = grind (arith, nat_tests)

pub name_leads : (b : ℕ) → is_name_byte b ≡ true → is_lead_byte b ≡ true
name_leads b h = or_left _ _ (or_left _ _ h)

pub number_leads_not : (number : Text) → is_old_number number ≡ true → take_while is_lead_byte number ≡ []
number_leads_not [] h = refl
number_leads_not (b ∷ t) h =
    take_while-cons is_lead_byte b t
    ∙ ap (λ c. cond c (b ∷ take_while is_lead_byte t) []) (digit_leads_not b (and_parts _ _ (and_parts _ _ h).1).0)

pub old_form : (name number : Text) → Pass is_name_byte name → 2 ≤ length name → length name ≤ 14 → is_old_number number ≡ true
    → is_old (name ++ 0x2f ∷ number) ≡ true
old_form name number all few short digits =
    let t = name ++ 0x2f ∷ number in
    let slash = 0x2f ∷ [] in
    let P : ℕ → Type 0 = λ b. is_name_byte b ≡ true in
    let leads : Pass is_lead_byte name = All-weaker P (λ b. is_lead_byte b ≡ true) name_leads name all in
    let slash_front : take_while is_lead_byte (0x2f ∷ number) ≡ slash =
    take_while-cons is_lead_byte 0x2f number ∙ ap (λ more. 0x2f ∷ more) (number_leads_not number digits) in
    let lead : take (lead_length t) t ≡ name ++ slash = while_front is_lead_byte name (0x2f ∷ number) leads ∙ ap (λ more. name ++ more) slash_front in
    let count : lead_length t ≡ length (name ++ slash) = sym (length-prefix_len is_lead_byte t) ∙ ap length lead in
    let rest : drop (lead_length t) t ≡ number = ap (λ k. drop k t) count ∙ drop_slash in
    let named : take (name_length (name ++ slash)) (name ++ slash) ≡ name = while_front is_name_byte name slash all ∙ append-nil name in
    let named_length : name_length (name ++ slash) ≡ length name = sym (length-prefix_len is_name_byte (name ++ slash)) ∙ ap length named in
    let class : drop (name_length (name ++ slash)) (name ++ slash) ≡ slash =
    ap (λ k. drop k (name ++ slash)) named_length ∙ drop_at name slash (length name) refl in
    let between : is_between 2 14 (name_length (name ++ slash)) ≡ true =
    ap (is_between 2 14) named_length ∙ and_from _ _ (le-leb _ _ few) (le-leb _ _ short) in
    let archive : is_archive (name ++ slash) ≡ true = and_from _ _ between (or_left _ _ (ap (λ u. bytes_eq u (codes "/")) class)) in
    and_from _ _ (ap is_archive lead ∙ archive) (ap is_old_number rest ∙ digits)
  where
    drop_slash : drop (length (name ++ 0x2f ∷ [])) (name ++ 0x2f ∷ number) ≡ number
    drop_slash =
        ap (drop (length (name ++ 0x2f ∷ []))) (sym (append_assoc name (0x2f ∷ []) number))
        ∙ drop_at (name ++ 0x2f ∷ []) number (length (name ++ 0x2f ∷ [])) refl

-- ---- the canonical form

pub joined_stays : (b : ℕ) → is_digit_or_stop b ≡ true → to_ascii_lowercase b ≡ b
joined_stays b h = grind (arith, nat_tests)

pub digit_stays : (b : ℕ) → is_ascii_digit b ≡ true → to_ascii_lowercase b ≡ b
digit_stays b h = grind (arith, nat_tests)

pub name_lowered : (b : ℕ) → is_name_byte b ≡ true → is_name_byte (to_ascii_lowercase b) ≡ true
name_lowered b h = grind (arith, nat_tests)

pub new_stays : (n : Text) → is_new n ≡ true → canonical_arxiv n ≡ n
new_stays n h =
    ap (λ k. map to_ascii_lowercase (take (name_length (take k n)) (take k n) ++ drop (length (take k n) - 1) n)) (new_leads_not n h)
    ∙ map_fixed to_ascii_lowercase n
    (All-weaker (λ b. is_digit_or_stop b ≡ true) (λ b. to_ascii_lowercase b ≡ b) joined_stays n (new_joined n h))

pub old_canonical : (n : Text) → is_old n ≡ true → is_old (canonical_arxiv n) ≡ true
old_canonical n h =
    let split = old_split n h in
    let lead = take (lead_length n) n in
    let name = take (name_length lead) lead in
    let number = drop (lead_length n) n in
    let digits = (and_parts _ _ h).1 in
    let stays : map to_ascii_lowercase number ≡ number =
    map_fixed to_ascii_lowercase number (All-weaker (λ b. is_ascii_digit b ≡ true) (λ b. to_ascii_lowercase b ≡ b) digit_stays number
    (digits_pass number (and_parts _ _ digits).1)) in
    let form : canonical_arxiv n ≡ map to_ascii_lowercase name ++ 0x2f ∷ number =
    ap (λ rest. map to_ascii_lowercase (name ++ rest)) split.slashed ∙ map-append to_ascii_lowercase name (0x2f ∷ number)
    ∙ ap (λ rest. map to_ascii_lowercase name ++ 0x2f ∷ rest) stays in
    let P : ℕ → Type 0 = λ b. is_name_byte b ≡ true in
    let all : Pass is_name_byte (map to_ascii_lowercase name) =
    All-map P to_ascii_lowercase name (All-weaker P (λ b. is_name_byte (to_ascii_lowercase b) ≡ true) name_lowered name (front_passes is_name_byte lead)) in
    let count : length (map to_ascii_lowercase name) ≡ name_length lead = length-map name to_ascii_lowercase ∙ length-prefix_len is_name_byte lead in
    ap is_old form
    ∙ old_form (map to_ascii_lowercase name) number all (omega (arith, split.few, count)) (omega (arith, split.short, count)) digits

pub canonical_is : (n : Text) → is_arxiv n ≡ true → is_arxiv (canonical_arxiv n) ≡ true
canonical_is n h = by_form (or_cases (is_new n) (is_old n) h)
  where
    by_form : (is_new n ≡ true) ⊎ (is_old n ≡ true) → is_arxiv (canonical_arxiv n) ≡ true
    by_form (inl new) = or_left _ _ (ap is_new (new_stays n new) ∙ new)
    by_form (inr old) = or_right _ _ (old_canonical n old)

pub arxiv_short : (n : Text) → is_arxiv n ≡ true → length n ≤ 25
arxiv_short n h = by_form (or_cases (is_new n) (is_old n) h)
  where
    by_form : (is_new n ≡ true) ⊎ (is_old n ≡ true) → length n ≤ 25
    by_form (inl new) =
        let between : is_between 9 10 (length n) ≡ true = (and_parts _ _ (and_parts _ _ (and_parts _ _ new).0).0).0 in
        let few : length n ≤ 10 = leb-true _ _ (and_parts _ _ between).1 in
        omega arith
    by_form (inr old) = let split = old_split n old in omega (arith, split.short, split.long)

pub arxiv_identifier : (n : Text) → is_arxiv n ≡ true → IsIdentifier Arxiv n
arxiv_identifier n h =
    let firm : not (ends_loosely n) ≡ true = ap not (firm_digit n (arxiv_last n h)) in
    and_from _ _ (and_from _ _ (le-leb _ _ (omega (arith, arxiv_short n h))) firm) h
