-- What each pair adds to E and M if no list is declared.
use Rattle.std.proofs.Common.{◌≡◌, ℕ, ◌+◌, ◌||◌, Bool, true, false, cond, not, List, [], ◌∷◌, length, take, is_some, Some, bytes_eq, slice_get, refl}
use Rattle.std.proofs.Common.{sym, ap, ◌∙◌, arith}
use Rattle.std.specs.Prelude.{if◌then◌else◌}
use Rattle.std.specs.List.{list_any}
use Rattle.std.proofs.lemmas.Slice.Eq.{bytes_eq-Decides}
use Rattle.std.proofs.Math.Bool.{or-false, or_assoc}
use Rattle.text_model.specs.Texts.{Text}
use Rattle.environment_model.specs.Environment.{Environment, is_there, text_in, text_of, byte_count, member_count, with_text, with_member}
use Rattle.environment_model.specs.Lists.{is_list}
use Rattle.environment_model.proofs.Environments.{look_up-empty, look_up-same, look_up-append, with_text-new}
use Rattle.environment_model.proofs.OtherNames.{with_text-differs, with_member-differs}
use Rattle.environment_model.proofs.Environments.{byte_count-with_text, byte_count-with_member, member_count-with_text, member_count-with_member}
use Rattle.kev_read.specs.Pairs.{KeyValue, has_key}
use Rattle.kev_read.specs.Filling.{fill_one, filled}
use Rattle.kev_read.proofs.FillingLemmas.{filled_more}
use Rattle.kev_read.proofs.GatheredValues.{with_member-own, same_text}

-- ---- which names are defined after a pair

text_there : (env : Environment) (key t : Text) → is_there (with_text env key t) key ≡ true
text_there env key t = grind (arith, with_text-new, look_up-append, look_up-same, bytes_eq-Decides)

added_there : (list : Bool) (env : Environment) (pair : KeyValue) (key : Text)
    → is_there (cond list (with_member env pair.key pair.value) (with_text env pair.key pair.value)) key ≡ (is_there env key || bytes_eq pair.key key)
added_there list env pair key = by_key (bytes_eq pair.key key) refl list
  where
    by_key : (b : Bool) → bytes_eq pair.key key ≡ b → (list : Bool)
        → is_there (cond list (with_member env pair.key pair.value) (with_text env pair.key pair.value)) key ≡ (is_there env key || b)
    by_key true same true = grind (arith, bytes_eq-Decides, with_member-own)
    by_key true same false = grind (arith, bytes_eq-Decides, text_there)
    by_key false differs true = ap is_some (with_member-differs env pair.key pair.value key differs) ∙ sym (or-false (is_there env key))
    by_key false differs false = ap is_some (with_text-differs env pair.key pair.value key differs) ∙ sym (or-false (is_there env key))

filled_there : (lists : List Text) (env : Environment) (pairs : List KeyValue) (key : Text)
    → is_there (filled lists env pairs) key ≡ (is_there env key || list_any (has_key key) pairs)
filled_there lists env [] key = sym (or-false (is_there env key))
filled_there lists env (pair ∷ pairs) key =
    filled_there lists (fill_one lists env pair) pairs key
    ∙ ap (λ b. b || list_any (has_key key) pairs) (added_there (is_list lists pair.key) env pair key)
    ∙ or_assoc (is_there env key) (bytes_eq pair.key key) (list_any (has_key key) pairs)

-- ---- the name of a list has no text

list_text : (lists : List Text) (env : Environment) (pair : KeyValue) (key : Text) → is_list lists key ≡ true → text_of (fill_one lists env pair) key
    ≡ text_of env key
list_text lists env pair key list = by_list (is_list lists pair.key) refl
  where
    differs : (b : Bool) → bytes_eq pair.key key ≡ b → is_list lists pair.key ≡ false → b ≡ false
    differs b same text = grind (arith, bytes_eq-Decides)

    by_list : (b : Bool) → is_list lists pair.key ≡ b → text_of (cond b (with_member env pair.key pair.value) (with_text env pair.key pair.value)) key
        ≡ text_of env key
    by_list true is = same_text env pair key
    by_list false is = ap text_in (with_text-differs env pair.key pair.value key (differs (bytes_eq pair.key key) refl is))

lists_text : (lists : List Text) (env : Environment) (pairs : List KeyValue) (key : Text) → is_list lists key ≡ true → text_of (filled lists env pairs) key
    ≡ text_of env key
lists_text lists env [] key list = refl
lists_text lists env (pair ∷ pairs) key list = lists_text lists (fill_one lists env pair) pairs key list ∙ list_text lists env pair key list

-- ---- what a pair adds

abbrev pub adds_bytes : Bool → Bool → ℕ → ℕ
adds_bytes list repeated n = if (list || not repeated) then n else 0

bytes_added : (list repeated : Bool) (env : Environment) (pair : KeyValue) → is_there env pair.key ≡ repeated
    → (list ≡ true → is_some (text_of env pair.key) ≡ false)
    → byte_count (cond list (with_member env pair.key pair.value) (with_text env pair.key pair.value)) ≡ byte_count env + adds_bytes list repeated
    (length pair.value)
bytes_added list repeated env pair there no_text = grind (arith, byte_count-with_member, byte_count-with_text)

members_added : (list : Bool) (env : Environment) (pair : KeyValue) → (list ≡ true → is_some (text_of env pair.key) ≡ false)
    → member_count (cond list (with_member env pair.key pair.value) (with_text env pair.key pair.value)) ≡ member_count env + (if list then 1 else 0)
members_added list env pair no_text = grind (arith, member_count-with_member, member_count-with_text)

no_text_yet : (pairs : List KeyValue) (key : Text) → is_list [] key ≡ true → is_some (text_of (filled [] [] pairs) key) ≡ false
no_text_yet pairs key list = ap is_some (lists_text [] [] pairs key list ∙ ap text_in (look_up-empty key))

module _ (pairs : List KeyValue) (n : ℕ) (pair : KeyValue) (here : slice_get pairs n ≡ Some pair) where
  abbrev so_far : Environment
  so_far = filled [] [] (take n pairs)

  pub more_bytes_filled : (repeated : Bool) → repeated ≡ list_any (has_key pair.key) (take n pairs)
      → byte_count (filled [] [] (take (n + 1) pairs)) ≡ byte_count so_far + adds_bytes (is_list [] pair.key) repeated (length pair.value)
  more_bytes_filled repeated is =
      ap byte_count (filled_more [] [] pairs n pair here)
      ∙ bytes_added (is_list [] pair.key) repeated so_far pair
      (filled_there [] [] (take n pairs) pair.key ∙ ap (λ b. b || list_any (has_key pair.key) (take n pairs)) (ap is_some (look_up-empty pair.key)) ∙ sym is)
      (no_text_yet (take n pairs) pair.key)

  pub more_members_filled : member_count (filled [] [] (take (n + 1) pairs)) ≡ member_count so_far + (if is_list [] pair.key then 1 else 0)
  more_members_filled =
      ap member_count (filled_more [] [] pairs n pair here) ∙ members_added (is_list [] pair.key) so_far pair (no_text_yet (take n pairs) pair.key)
