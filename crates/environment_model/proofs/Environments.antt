-- Look-ups in an environment, and how it changes when a text or a member is added.
use Rattle.std.proofs.Common.{◌≡◌, ◌+◌, [], ◌∷◌, ◌++◌, Bool, true, false, length, is_some, bytes_eq, Some, None, refl, sym, ap, ◌∙◌, arith}
use Rattle.std.proofs.lemmas.Grind.{common_steps}
use Rattle.std.proofs.lemmas.List.Sums.{sum_by-cons, sum_by_push}
use Rattle.text_model.specs.Texts.{Text}
use Rattle.environment_model.specs.Environment.{Environment, Entry, Meaning, Single, Several, look_up, is_there, text_in, text_of, byte_count, member_count}
use Rattle.environment_model.specs.Environment.{meaning_bytes, meaning_members, with_text, with_member, more}

-- ---- one more entry before

pub look_up-empty : (name : Text) → look_up [] name ≡ None
unfolding look_up
look_up-empty name = refl

pub look_up-same : (e : Entry) (env : Environment) (name : Text) → bytes_eq e.name name ≡ true → look_up (e ∷ env) name ≡ Some e.meaning
unfolding look_up
look_up-same e env name same = rw same refl

pub look_up-other : (e : Entry) (env : Environment) (name : Text) → bytes_eq e.name name ≡ false → look_up (e ∷ env) name ≡ look_up env name
unfolding look_up
look_up-other e env name other = rw other refl

pub with_member-empty : (name t : Text) → with_member [] name t ≡ record { name = name; meaning = Several (t ∷ []) } ∷ []
unfolding with_member
with_member-empty name t = refl

pub with_member-same : (e : Entry) (env : Environment) (name t : Text) → bytes_eq e.name name ≡ true
    → with_member (e ∷ env) name t ≡ record { name = e.name; meaning = more e.meaning t } ∷ env
unfolding with_member
with_member-same e env name t same = rw same refl

pub with_member-other : (e : Entry) (env : Environment) (name t : Text) → bytes_eq e.name name ≡ false
    → with_member (e ∷ env) name t ≡ e ∷ with_member env name t
unfolding with_member
with_member-other e env name t other = rw other refl

-- an entry with another name does not matter for the name
pub other_in_front : (e : Entry) (env : Environment) (name : Text) → is_there (e ∷ env) name ≡ false → bytes_eq e.name name ≡ false
other_in_front e env name absent = grind (arith, look_up-same)

pub absent_after : (e : Entry) (env : Environment) (name : Text) → is_there (e ∷ env) name ≡ false → is_there env name ≡ false
absent_after e env name absent = ap is_some (sym (look_up-other e env name (other_in_front e env name absent))) ∙ absent

-- ---- entries with other names

pub look_up-append : (front back : Environment) (name : Text) → is_there front name ≡ false → look_up (front ++ back) name ≡ look_up back name
look_up-append [] back name absent = refl
look_up-append (e ∷ front) back name absent =
    look_up-other e (front ++ back) name (other_in_front e front name absent) ∙ look_up-append front back name (absent_after e front name absent)

pub with_member-append : (front back : Environment) (name t : Text) → is_there front name ≡ false → with_member (front ++ back) name t
    ≡ front ++ with_member back name t
with_member-append [] back name t absent = refl
with_member-append (e ∷ front) back name t absent =
    with_member-other e (front ++ back) name t (other_in_front e front name absent)
    ∙ ap (λ es. e ∷ es) (with_member-append front back name t (absent_after e front name absent))

pub is_there-append : (front back : Environment) (name : Text) → is_there front name ≡ false → is_there back name ≡ false
    → is_there (front ++ back) name ≡ false
is_there-append front back name absent absent' = ap is_some (look_up-append front back name absent) ∙ absent'

-- the list of a new name comes last
pub with_member-new : (env : Environment) (name t : Text) → is_there env name ≡ false
    → with_member env name t ≡ env ++ record { name = name; meaning = Several (t ∷ []) } ∷ []
with_member-new [] name t absent = with_member-empty name t
with_member-new (e ∷ env) name t absent =
    with_member-other e env name t (other_in_front e env name absent) ∙ ap (λ es. e ∷ es) (with_member-new env name t (absent_after e env name absent))

-- the text of a new name comes last
pub with_text-new : (env : Environment) (name t : Text) → is_there env name ≡ false
    → with_text env name t ≡ env ++ record { name = name; meaning = Single t } ∷ []
with_text-new env name t absent = rw absent refl

pub with_text-known : (env : Environment) (name t : Text) → is_there env name ≡ true → with_text env name t ≡ env
with_text-known env name t there = rw there refl

-- a name that denotes a text keeps it
pub with_member-text : (env : Environment) (name t : Text) → is_some (text_of env name) ≡ true → with_member env name t ≡ env
with_member-text [] name t is_text = let none : is_some (text_of [] name) ≡ false = ap (λ o. is_some (text_in o)) (look_up-empty name) in absurd (cc)
with_member-text (e ∷ env) name t is_text = by_cases (bytes_eq e.name name) refl (with_member-text env name t)
  where
    by_cases : (b : Bool) → bytes_eq e.name name ≡ b → (is_some (text_of env name) ≡ true → with_member env name t ≡ env)
        → with_member (e ∷ env) name t ≡ e ∷ env
    by_cases b same following = grind (arith, with_member-same, look_up-same, with_member-other, look_up-other)

-- ---- E and M

pub byte_count-cons : (e : Entry) (env : Environment) → byte_count (e ∷ env) ≡ meaning_bytes e.meaning + byte_count env
byte_count-cons e env = sum_by-cons (λ x. meaning_bytes x.meaning) e env

pub member_count-cons : (e : Entry) (env : Environment) → member_count (e ∷ env) ≡ meaning_members e.meaning + member_count env
member_count-cons e env = sum_by-cons (λ x. meaning_members x.meaning) e env

pub byte_count-push : (env : Environment) (e : Entry) → byte_count (env ++ e ∷ []) ≡ byte_count env + meaning_bytes e.meaning
byte_count-push env e = sum_by_push (λ x. meaning_bytes x.meaning) env e

pub member_count-push : (env : Environment) (e : Entry) → member_count (env ++ e ∷ []) ≡ member_count env + meaning_members e.meaning
member_count-push env e = sum_by_push (λ x. meaning_members x.meaning) env e

pub byte_count-with_text : (env : Environment) (name t : Text) → is_there env name ≡ false → byte_count (with_text env name t) ≡ byte_count env + length t
byte_count-with_text env name t absent = ap byte_count (with_text-new env name t absent) ∙ byte_count-push env (record { name = name; meaning = Single t })

pub member_count-with_text : (env : Environment) (name t : Text) → member_count (with_text env name t) ≡ member_count env
member_count-with_text env name t = grind (arith, common_steps)

-- a member adds its bytes to a list
more_bytes : (m : Meaning) (t : Text) → is_some (text_in (Some m)) ≡ false → meaning_bytes (more m t) ≡ meaning_bytes m + length t
more_bytes m t h = grind (arith, common_steps)

more_members : (m : Meaning) (t : Text) → is_some (text_in (Some m)) ≡ false → meaning_members (more m t) ≡ meaning_members m + 1
more_members m t h = grind (arith, common_steps)

pub byte_count-with_member : (env : Environment) (name t : Text) → is_some (text_of env name) ≡ false → byte_count (with_member env name t)
    ≡ byte_count env + length t
byte_count-with_member [] name t no_text = grind (arith, with_member-empty, sum_by_push)
byte_count-with_member (e ∷ env) name t no_text = by_cases (bytes_eq e.name name) refl (byte_count-with_member env name t)
  where
    by_cases : (b : Bool) → bytes_eq e.name name ≡ b → (is_some (text_of env name) ≡ false → byte_count (with_member env name t) ≡ byte_count env + length t)
        → byte_count (with_member (e ∷ env) name t) ≡ byte_count (e ∷ env) + length t
    by_cases true same following =
        let grown : meaning_bytes (more e.meaning t) ≡ meaning_bytes e.meaning + length t =
        more_bytes e.meaning t (ap (λ o. is_some (text_in o)) (sym (look_up-same e env name same)) ∙ no_text) in
        let before = byte_count-cons e env in
        let after = byte_count-cons (record { name = e.name; meaning = more e.meaning t }) env in
        ap byte_count (with_member-same e env name t same) ∙ omega arith
    by_cases false other following = grind (arith, look_up-other, byte_count-cons, with_member-other)

pub member_count-with_member : (env : Environment) (name t : Text) → is_some (text_of env name) ≡ false → member_count (with_member env name t)
    ≡ member_count env + 1
member_count-with_member [] name t no_text =
    ap member_count (with_member-empty name t) ∙ member_count-push [] (record { name = name; meaning = Several (t ∷ []) })
member_count-with_member (e ∷ env) name t no_text = by_cases (bytes_eq e.name name) refl (member_count-with_member env name t)
  where
    by_cases : (b : Bool) → bytes_eq e.name name ≡ b → (is_some (text_of env name) ≡ false → member_count (with_member env name t) ≡ member_count env + 1)
        → member_count (with_member (e ∷ env) name t) ≡ member_count (e ∷ env) + 1
    by_cases true same following =
        let grown : meaning_members (more e.meaning t) ≡ meaning_members e.meaning + 1 =
        more_members e.meaning t (ap (λ o. is_some (text_in o)) (sym (look_up-same e env name same)) ∙ no_text) in
        let before = member_count-cons e env in
        let after = member_count-cons (record { name = e.name; meaning = more e.meaning t }) env in
        ap member_count (with_member-same e env name t same) ∙ omega arith
    by_cases false other following = grind (arith, look_up-other, member_count-cons, with_member-other)

-- ---- which names are defined

-- a member of a defined name adds no name
pub is_there-with_member : (env : Environment) (name t other : Text) → is_there env name ≡ true → is_there (with_member env name t) other ≡ is_there env other
is_there-with_member [] name t other there = let none : is_there [] name ≡ false = ap is_some (look_up-empty name) in absurd (cc)
is_there-with_member (e ∷ env) name t other there = by_cases (bytes_eq e.name name) refl (is_there-with_member env name t other)
  where
    front : (e e' : Entry) (es es' : Environment) → e.name ≡ e'.name → is_there es other ≡ is_there es' other
        → is_there (e ∷ es) other ≡ is_there (e' ∷ es') other
    front e e' es es' same following = grind (arith, look_up-same, look_up-other)

    by_cases : (b : Bool) → bytes_eq e.name name ≡ b → (is_there env name ≡ true → is_there (with_member env name t) other ≡ is_there env other)
        → is_there (with_member (e ∷ env) name t) other ≡ is_there (e ∷ env) other
    by_cases b same following = grind (arith, with_member-same, front, look_up-other, with_member-other)
