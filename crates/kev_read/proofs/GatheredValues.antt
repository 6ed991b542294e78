-- The values of pairs as members of lists that have the names of the keys.
use Rattle.std.proofs.Common.{◌≡◌, Bool, false, List, [], ◌∷◌, ◌++◌, Option, Some, None, is_some, bytes_eq, refl, sym, ap, ◌∙◌, append_assoc, append-nil, arith}
use Rattle.std.proofs.lemmas.Grind.{common_steps}
use Rattle.std.specs.Prelude.{fold}
use Rattle.std.proofs.lemmas.Slice.Eq.{bytes_eq-Decides}
use Rattle.text_model.specs.Texts.{Text}
use Rattle.environment_model.specs.Environment.{Environment, Meaning, Several, look_up, text_of, members_of, with_member, more}
use Rattle.environment_model.proofs.Environments.{look_up-empty, look_up-same, look_up-other, with_member-empty, with_member-same, with_member-other}
use Rattle.environment_model.proofs.NameTests.{itself}
use Rattle.environment_model.proofs.OtherNames.{with_member-differs}
use Rattle.kev_read.specs.Pairs.{KeyValue, all_of}
use Rattle.kev_read.specs.Private.Gathered.{gather_one, gathered}

-- ---- one more member

-- what a name is bound to after one more member
abbrev grown : Option Meaning → Text → Meaning
grown None t = Several (t ∷ [])
grown (Some m) t = more m t

pub with_member-own : (env : Environment) (key t : Text) → look_up (with_member env key t) key ≡ Some (grown (look_up env key) t)
with_member-own [] key t = grind (arith, with_member-empty, look_up-same, itself, look_up-empty)
with_member-own (e ∷ env) key t = by_name (bytes_eq e.name key) refl (with_member-own env key t)
  where
    by_name : (b : Bool) → bytes_eq e.name key ≡ b → look_up (with_member env key t) key ≡ Some (grown (look_up env key) t)
        → look_up (with_member (e ∷ env) key t) key ≡ Some (grown (look_up (e ∷ env) key) t)
    by_name b same in_others = grind (arith, with_member-same, look_up-same, with_member-other, look_up-other)

-- ---- all pairs

pub same_text : (env : Environment) (pair : KeyValue) (key : Text) → text_of (gather_one env pair) key ≡ text_of env key
same_text env pair key = grind (arith, bytes_eq-Decides, with_member-own, with_member-differs)

one_value : (env : Environment) (pair : KeyValue) (key : Text) → is_some (text_of env key) ≡ false
    → members_of (gather_one env pair) key ≡ members_of env key ++ all_of (pair ∷ []) key
one_value env pair key no_text = grind (arith, bytes_eq-Decides, with_member-own, with_member-differs, append-nil)

all_of-cons : (pair : KeyValue) (pairs : List KeyValue) (key : Text) → all_of (pair ∷ []) key ++ all_of pairs key ≡ all_of (pair ∷ pairs) key
all_of-cons pair pairs key = grind (arith, common_steps)

members_of-from : (env : Environment) (pairs : List KeyValue) (key : Text) → is_some (text_of env key) ≡ false
    → members_of (fold gather_one env pairs) key ≡ members_of env key ++ all_of pairs key
members_of-from env [] key no_text = sym (append-nil (members_of env key))
members_of-from env (pair ∷ pairs) key no_text =
    members_of-from (gather_one env pair) pairs key (ap is_some (same_text env pair key) ∙ no_text)
    ∙ ap (λ vs. vs ++ all_of pairs key) (one_value env pair key no_text)
    ∙ append_assoc (members_of env key) (all_of (pair ∷ []) key) (all_of pairs key)
    ∙ ap (λ vs. members_of env key ++ vs) (all_of-cons pair pairs key)

-- ---- from no entries

pub members_of-gathered : (pairs : List KeyValue) (key : Text) → members_of (gathered pairs) key ≡ all_of pairs key
members_of-gathered pairs key = grind (arith, members_of-from, look_up-empty)
