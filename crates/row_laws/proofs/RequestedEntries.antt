-- What a request without a row has under a key.
use Rattle.std.proofs.Common.{◌≡◌, Bool, true, false, List, [], ◌∷◌, ◌++◌, Option, Some, None, bytes_eq, refl, sym, ap, ◌∙◌}
use Rattle.std.proofs.Common.{append_assoc, arith}
use Rattle.std.specs.Prelude.{if◌then◌else◌}
use Rattle.std.proofs.lemmas.Slice.Eq.{bytes_eq-Decides}
use Rattle.text_model.specs.Texts.{Text}
use Rattle.environment_model.specs.Environment.{Environment, Meaning, Single, Several, look_up, text_of, members_of}
use Rattle.environment_model.specs.Environment.{meaning_bytes, meaning_members, with_text, with_member, more}
use Rattle.environment_model.specs.Lists.{is_list}
use Rattle.environment_model.proofs.Environments.{look_up-empty, look_up-same, look_up-other, look_up-append, with_member-empty, with_member-same}
use Rattle.environment_model.proofs.Environments.{with_member-other, with_text-known}
use Rattle.environment_model.proofs.NameTests.{itself}
use Rattle.environment_model.proofs.OtherNames.{with_text-differs, with_member-differs}
use Rattle.kev_read.specs.Pairs.{KeyValue, all_of, first_of}
use Rattle.kev_read.specs.Filling as by_pairs
use Rattle.kev_read.specs.Filling.{added, fill_one}
use Rattle.row_laws.specs.Shadowing.{requested, found_in, requested_bytes, requested_members}

-- what a name is bound to after more values
abbrev pub grown : List Text → Bool → Option Meaning → Option Meaning
grown [] list m = m
grown (v ∷ vs) true None = Some (Several (v ∷ vs))
grown (v ∷ vs) false None = Some (Single v)
grown (v ∷ vs) true (Some (Single t)) = Some (Single t)
grown (v ∷ vs) false (Some (Single t)) = Some (Single t)
grown (v ∷ vs) true (Some (Several ts)) = Some (Several (ts ++ v ∷ vs))
grown (v ∷ vs) false (Some (Several ts)) = Some (Several ts)

grown-more : (v : Text) (vs : List Text) (list : Bool) (m : Option Meaning) → grown vs list (grown (v ∷ []) list m) ≡ grown (v ∷ vs) list m
grown-more v [] list m = refl
grown-more v (w ∷ ws) true None = refl
grown-more v (w ∷ ws) false None = refl
grown-more v (w ∷ ws) true (Some (Single t)) = refl
grown-more v (w ∷ ws) false (Some (Single t)) = refl
grown-more v (w ∷ ws) true (Some (Several ts)) = ap (λ us. Some (Several us)) (append_assoc ts (v ∷ []) (w ∷ ws))
grown-more v (w ∷ ws) false (Some (Several ts)) = refl

-- ---- one pair

pub with_text-same : (env : Environment) (key t : Text) → look_up (with_text env key t) key ≡ grown (t ∷ []) false (look_up env key)
with_text-same env key t = grind (arith, look_up-append, look_up-same, itself, with_text-known)

with_member-grows : (env : Environment) (key t : Text) → look_up (with_member env key t) key ≡ grown (t ∷ []) true (look_up env key)
with_member-grows [] key t =
    ap (λ es. look_up es key) (with_member-empty key t)
    ∙ look_up-same (record { name = key; meaning = Several (t ∷ []) }) [] key (itself key)
    ∙ ap (grown (t ∷ []) true) (sym (look_up-empty key))
with_member-grows (e ∷ env) key t = by_name (bytes_eq e.name key) refl (with_member-grows env key t)
  where
    by_meaning : (m : Meaning) → Some (more m t) ≡ grown (t ∷ []) true (Some m)
    by_meaning (Single u) = refl
    by_meaning (Several us) = refl

    by_name : (b : Bool) → bytes_eq e.name key ≡ b → look_up (with_member env key t) key ≡ grown (t ∷ []) true (look_up env key)
        → look_up (with_member (e ∷ env) key t) key ≡ grown (t ∷ []) true (look_up (e ∷ env) key)
    by_name true same after =
        ap (λ es. look_up es key) (with_member-same e env key t same)
        ∙ look_up-same (record { name = e.name; meaning = more e.meaning t }) env key same
        ∙ by_meaning e.meaning ∙ ap (grown (t ∷ []) true) (sym (look_up-same e env key same))
    by_name false other after =
        ap (λ es. look_up es key) (with_member-other e env key t other) ∙ look_up-other e (with_member env key t) key other
        ∙ after ∙ ap (grown (t ∷ []) true) (sym (look_up-other e env key other))

own_pair : (env : Environment) (list : Bool) (pair : KeyValue) → look_up (added list env pair) pair.key ≡ grown (pair.value ∷ []) list (look_up env pair.key)
own_pair env true pair = with_member-grows env pair.key pair.value
own_pair env false pair = with_text-same env pair.key pair.value

other_pair : (env : Environment) (list : Bool) (pair : KeyValue) (key : Text) → bytes_eq pair.key key ≡ false
    → look_up (added list env pair) key ≡ look_up env key
other_pair env true pair key differs = with_member-differs env pair.key pair.value key differs
other_pair env false pair key differs = with_text-differs env pair.key pair.value key differs

-- ---- all pairs

all_of-other : (pair : KeyValue) (pairs : List KeyValue) (key : Text) → bytes_eq pair.key key ≡ false → all_of (pair ∷ pairs) key ≡ all_of pairs key
all_of-other pair pairs key differs = rw differs refl

look_up-filled : (lists : List Text) (env : Environment) (pairs : List KeyValue) (key : Text)
    → look_up (by_pairs.filled lists env pairs) key ≡ grown (all_of pairs key) (is_list lists key) (look_up env key)
look_up-filled lists env [] key = refl
look_up-filled lists env (pair ∷ pairs) key = look_up-filled lists (fill_one lists env pair) pairs key ∙ by_key (bytes_eq pair.key key) refl
  where
    by_key : (b : Bool) → bytes_eq pair.key key ≡ b
        → grown (all_of pairs key) (is_list lists key) (look_up (fill_one lists env pair) key)
        ≡ grown (all_of (pair ∷ pairs) key) (is_list lists key) (look_up env key)
    by_key true same = grind (arith, bytes_eq-Decides, own_pair, grown-more)
    by_key false differs =
        ap (grown (all_of pairs key) (is_list lists key)) (other_pair env (is_list lists pair.key) pair key differs)
        ∙ ap (λ vs. grown vs (is_list lists key) (look_up env key)) (sym (all_of-other pair pairs key differs))

pub look_up-requested : (lists : List Text) (pairs : List KeyValue) (key : Text)
    → look_up (requested lists pairs) key ≡ grown (all_of pairs key) (is_list lists key) None
look_up-requested lists pairs key = look_up-filled lists [] pairs key ∙ ap (grown (all_of pairs key) (is_list lists key)) (look_up-empty key)

pub text_requested : (lists : List Text) (pairs : List KeyValue) (key : Text)
    → text_of (requested lists pairs) key ≡ (if is_list lists key then None else first_of pairs key)
text_requested lists pairs key = grind (arith, look_up-requested)

pub members_requested : (lists : List Text) (pairs : List KeyValue) (key : Text)
    → members_of (requested lists pairs) key ≡ (if is_list lists key then all_of pairs key else [])
members_requested lists pairs key = grind (arith, look_up-requested)

-- ---- how much is under a key

pub bytes_requested : (lists : List Text) (pairs : List KeyValue) (key : Text)
    → found_in meaning_bytes (look_up (requested lists pairs) key) ≡ requested_bytes lists pairs key
bytes_requested lists pairs key = grind (arith, look_up-requested)

pub members_counted : (lists : List Text) (pairs : List KeyValue) (key : Text)
    → found_in meaning_members (look_up (requested lists pairs) key) ≡ requested_members lists pairs key
members_counted lists pairs key = grind (arith, look_up-requested)
