-- Names as a run of items, how a name grows, and that a name is ASCII and URI text.
use Rattle.std.proofs.Common.{◌≡◌, ℕ, ◌+◌, ◌<◌, ◌≤◌, true, false, ⊎_elim, suc, List, [], ◌∷◌, ◌++◌, length, drop, take, refl, ap, ◌∙◌, sym, subst, arith}
use Rattle.std.proofs.lemmas.Grind.{common_steps}
use Rattle.std.proofs.Common.{append_assoc, append-nil, length-append, ◌==◌, encode_utf8_all}
use Rattle.std.proofs.Math.Seq.{take-add, take-length}
use Rattle.std.proofs.lemmas.Bool.{cases_Bool, cond-true, cond-false, eqb-true, ne_eqb, both_ways, false_from_ne_true}
use Rattle.std.proofs.lemmas.Bool.Decides.{nat_tests}
use Rattle.std.proofs.lemmas.List.{length-take-le}
use Rattle.std.proofs.lemmas.Str.{encode_ascii, encodes-append}
use Rattle.text_model.specs.Texts.{begins_with_triplet, is_unreserved}
use Rattle.text_model.specs.Writing.{is_unreserved_or_reserved}
use Rattle.text_model.specs.UriText.{IsUriText}
use Rattle.text_model.proofs.UriTexts.{IsUriText-append, IsUriText-character, IsUriText-triplet}
use Rattle.text_model.proofs.Lists.{same_halves}
use Rattle.uri_grammar.specs.Private.Lengths.{varchar_len, next_len}
use Rattle.uri_grammar.specs.Names.{is_name_character, IsVarchar, character_varchar, triplet_varchar, IsVarname, first_varchar, next_varchar, dotted_varchar}
use Rattle.uri_grammar.specs.Names.{BeginsWithVarname}
use Rattle.uri_grammar.proofs.RunLemmas.{Run, run-append, run_one, run_longest}
use Rattle.uri_grammar.proofs.LiteralLemmas.{percent_first}

-- ---- varchars

length-varchar : (v : List ℕ) → IsVarchar v → 0 < length v
length-varchar v h = grind (arith, common_steps)

varchar_len-varchar : (v x : List ℕ) → IsVarchar v → varchar_len (v ++ x) ≡ length v
varchar_len-varchar v x (character_varchar c w) = cond-true (is_name_character c) _ _ w
varchar_len-varchar v x (triplet_varchar c d e t) = grind (arith, percent_first, cond-true)

no_dot : (c : ℕ) → is_name_character c ≡ true → (c == 46) ≡ false
no_dot c w =
    false_from_ne_true (c == 46) (λ d. both_ways (is_name_character c) (subst (λ (k : ℕ). is_name_character k ≡ false) (sym (eqb-true c 46 d)) refl) w)

next_len-varchar : (v x : List ℕ) → IsVarchar v → next_len (v ++ x) ≡ length v
next_len-varchar v x (character_varchar c w) = cond-false (c == 46) _ _ (no_dot c w) ∙ varchar_len-varchar (c ∷ []) x (character_varchar c w)
next_len-varchar v x (triplet_varchar c d e t) = grind (arith, percent_first, varchar_len-varchar)

next_len-dotted : (v x : List ℕ) → IsVarchar v → next_len (46 ∷ v ++ x) ≡ suc (length v)
next_len-dotted v x h = grind (arith, varchar_len-varchar, length-varchar, ne_eqb)

IsVarchar-front : (cs : List ℕ) → 0 < varchar_len cs → IsVarchar (take (varchar_len cs) cs)
IsVarchar-front [] h = absurd (omega arith)
IsVarchar-front (c ∷ cs) h =
    ⊎_elim
    (λ w. let e : varchar_len (c ∷ cs) ≡ 1 = cond-true (is_name_character c) _ _ w in
    subst (λ (n : ℕ). IsVarchar (take n (c ∷ cs))) (sym e) (character_varchar c w))
    (λ w. ⊎_elim
    (λ t. let e : varchar_len (c ∷ cs) ≡ 3 = cond-false (is_name_character c) _ _ w ∙ cond-true (begins_with_triplet (c ∷ cs)) _ _ t in
    subst (λ (n : ℕ). IsVarchar (take n (c ∷ cs))) (sym e) (triplet c cs t))
    (λ t. let e : varchar_len (c ∷ cs) ≡ 0 = cond-false (is_name_character c) _ _ w ∙ cond-false (begins_with_triplet (c ∷ cs)) _ _ t in
    absurd (omega (arith, e)))
    (cases_Bool (begins_with_triplet (c ∷ cs))))
    (cases_Bool (is_name_character c))
  where
    triplet : (c : ℕ) (cs : List ℕ) → begins_with_triplet (c ∷ cs) ≡ true → IsVarchar (take 3 (c ∷ cs))
    triplet c [] h = cc
    triplet c (d ∷ []) h = cc
    triplet c (d ∷ e ∷ cs) h = triplet_varchar c d e h

-- ---- names

pub IsVarname-run : (name : List ℕ) → IsVarname name → Run next_len name
IsVarname-run name (first_varchar v h) = run_one next_len v (length-varchar v h) (λ x. next_len-varchar v x h)
IsVarname-run name (next_varchar n v h k) =
    run-append next_len n v (IsVarname-run n h) (run_one next_len v (length-varchar v k) (λ x. next_len-varchar v x k))
IsVarname-run name (dotted_varchar n v h k) =
    run-append next_len n (46 ∷ v) (IsVarname-run n h) (run_one next_len (46 ∷ v) (omega arith) (λ x. next_len-dotted v x k))

-- a name begins with a varchar
pub varchar_len-varname : (name x : List ℕ) → IsVarname name → 0 < varchar_len (name ++ x)
varchar_len-varname name x (first_varchar v h) = omega (arith, varchar_len-varchar v x h, length-varchar v h)
varchar_len-varname name x (next_varchar n v h k) = subst (λ (t : List ℕ). 0 < varchar_len t) (sym (append_assoc n v x)) (varchar_len-varname n (v ++ x) h)
varchar_len-varname name x (dotted_varchar n v h k) =
    subst (λ (t : List ℕ). 0 < varchar_len t) (sym (append_assoc n (46 ∷ v) x)) (varchar_len-varname n (46 ∷ v ++ x) h)

pub length-varname : (name : List ℕ) → IsVarname name → 0 < length name
length-varname name (first_varchar v h) = length-varchar v h
length-varname name (next_varchar n v h k) = omega (arith, length-append n v, length-varname n h)
length-varname name (dotted_varchar n v h k) = omega (arith, length-append n (46 ∷ v), length-varname n h)

-- a text begins with at most one longest name
pub longest_same : (cs name after other following : List ℕ) → BeginsWithVarname cs name after → BeginsWithVarname cs other following
    → (name ≡ other) × (after ≡ following)
longest_same cs name after other following h k = grind (arith, same_halves)

-- a name that cannot continue is the longest
pub ended_varname : (cs name after : List ℕ) → cs ≡ name ++ after → IsVarname name → next_len after ≡ 0 → BeginsWithVarname cs name after
ended_varname cs name after e h ends = record {
  whole = e;
  is_varname = h;
  longest = λ other following f k. run_longest next_len name other after following (IsVarname-run name h) (IsVarname-run other k) (sym e ∙ f) ends;
}

-- ---- how a name grows

pub IsVarname-front : (cs : List ℕ) → 0 < varchar_len cs → IsVarname (take (varchar_len cs) cs)
IsVarname-front cs h = first_varchar (take (varchar_len cs) cs) (IsVarchar-front cs h)

pub IsVarname-next : (name cs : List ℕ) → IsVarname name → 0 < next_len cs → IsVarname (name ++ take (next_len cs) cs)
IsVarname-next name [] h l = absurd (omega arith)
IsVarname-next name (c ∷ cs) h l =
    ⊎_elim
    (λ d. ⊎_elim
    (λ z. let e : next_len (c ∷ cs) ≡ 0 = cond-true (c == 46) _ _ d ∙ cond-true (varchar_len cs == 0) _ _ z in absurd (omega (arith, e)))
    (λ z. let e : next_len (c ∷ cs) ≡ suc (varchar_len cs) = cond-true (c == 46) _ _ d ∙ (cond-false (varchar_len cs == 0) _ _ z ∙ omega arith) in
    let some : 0 < varchar_len cs = grind (arith, nat_tests) in
    let dot : c ≡ 46 = eqb-true c 46 d in
    subst (λ (n : ℕ). IsVarname (name ++ take n (c ∷ cs))) (sym e)
    (subst (λ (x : ℕ). IsVarname (name ++ x ∷ take (varchar_len cs) cs)) (sym dot)
    (dotted_varchar name (take (varchar_len cs) cs) h (IsVarchar-front cs some))))
    (cases_Bool (varchar_len cs == 0)))
    (λ d. let e : next_len (c ∷ cs) ≡ varchar_len (c ∷ cs) = cond-false (c == 46) _ _ d in
    subst (λ (n : ℕ). IsVarname (name ++ take n (c ∷ cs))) (sym e)
    (next_varchar name (take (varchar_len (c ∷ cs)) (c ∷ cs)) h (IsVarchar-front (c ∷ cs) (subst (λ (n : ℕ). 0 < n) e l))))
    (cases_Bool (c == 46))

-- one more varchar makes a longer name
pub IsVarname-more : (cs : List ℕ) (len n : ℕ) → IsVarname (take len cs) → n ≡ next_len (drop len cs) → 0 < n → IsVarname (take (len + n) cs)
IsVarname-more cs len n h e l = rw (e, take-add) (IsVarname-next (take len cs) (drop len cs) h (subst (λ k. 0 < k) e l))

-- ---- a name as text

pub encodes_ascii : (c : ℕ) (cs : List ℕ) → c < 128 → encode_utf8_all cs ≡ cs → encode_utf8_all (c ∷ cs) ≡ c ∷ cs
encodes_ascii c cs l e = ap (λ (t : List ℕ). t ++ encode_utf8_all cs) (encode_ascii c l) ∙ ap (λ (t : List ℕ). c ∷ t) e

encodes-varchar : (v : List ℕ) → IsVarchar v → encode_utf8_all v ≡ v
encodes-varchar v h = grind (arith, common_steps)

-- a name is ASCII, so its characters are its bytes
pub encodes-varname : (name : List ℕ) → IsVarname name → encode_utf8_all name ≡ name
encodes-varname name (first_varchar v h) = encodes-varchar v h
encodes-varname name (next_varchar n v h k) =
    encodes-append n v ∙ (ap (λ (t : List ℕ). t ++ encode_utf8_all v) (encodes-varname n h) ∙ ap (λ (t : List ℕ). n ++ t) (encodes-varchar v k))
encodes-varname name (dotted_varchar n v h k) =
    encodes-append n (46 ∷ v)
    ∙ (ap (λ (t : List ℕ). t ++ encode_utf8_all (46 ∷ v)) (encodes-varname n h)
    ∙ ap (λ (t : List ℕ). n ++ t) (encodes_ascii 46 v (omega arith) (encodes-varchar v k)))

-- ---- a name as URI text

uri_character : (c : ℕ) → is_name_character c ≡ true → is_unreserved_or_reserved c ≡ true
unfolding is_unreserved
uri_character c w = grind (arith, common_steps)

IsUriText-varchar : (v : List ℕ) → IsVarchar v → IsUriText v
IsUriText-varchar v (character_varchar c w) = IsUriText-character c (uri_character c w)
IsUriText-varchar v (triplet_varchar c d e t) = IsUriText-triplet c d e t

pub IsUriText-varname : (name : List ℕ) → IsVarname name → IsUriText name
unfolding is_unreserved
IsUriText-varname name (first_varchar v h) = IsUriText-varchar v h
IsUriText-varname name (next_varchar n v h k) = IsUriText-append n v (IsUriText-varname n h) (IsUriText-varchar v k)
IsUriText-varname name (dotted_varchar n v h k) =
    IsUriText-append n (46 ∷ v) (IsUriText-varname n h) (IsUriText-append (46 ∷ []) v (IsUriText-character 46 refl) (IsUriText-varchar v k))

-- ---- texts that are names

-- the longest name at the beginning of a name is the whole name
pub whole_varname : (cs : List ℕ) (len : ℕ) → len ≤ length cs → BeginsWithVarname cs (take len cs) (drop len cs) → (len ≡ length cs → IsVarname cs)
    × (IsVarname cs → len ≡ length cs)
whole_varname cs len within begins = (
  λ all. subst IsVarname (ap (λ (n : ℕ). take n cs) all ∙ take-length cs) begins.is_varname,
  λ h.
      let same : take len cs ≡ cs = (longest_same cs (take len cs) (drop len cs) cs [] begins (ended_varname cs cs [] (sym (append-nil cs)) h refl)).0 in
      omega (arith, ap length same, length-take-le len cs within),
)

pub no_varname : (cs : List ℕ) → varchar_len cs ≡ 0 → IsVarname cs → ⊥
no_varname cs z h = omega (arith, z, ap varchar_len (append-nil cs), varchar_len-varname cs [] h)
