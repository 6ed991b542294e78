-- The environment that templates, guards and code look names up in.
use Rattle.std.specs.Prelude.{ℕ, List, [], ◌∷◌, ◌++◌, Bool, length, sum_by, Option, Some, None, is_some, if◌then◌else◌}
use Rattle.std.specs.Str.{bytes_eq}
use Rattle.std.specs.List.{list_any}
use Rattle.text_model.specs.Texts.{Text}

-- what a name denotes: a text, or a list of texts
pub data Meaning : Type 0 where
  Single : (text : Text) → Meaning
  Several : (members : List Text) → Meaning

pub record Entry : Type 0 where
  pub name : Text
  pub meaning : Meaning

-- the entries in the order in which their names were added
abbrev pub Environment : Type 0
Environment = List Entry

-- ---- look-ups

-- what a look-up returns for each name: a text, a list of texts, or that it is undefined
abbrev pub LookUp : Type 0
LookUp = Text → Option Meaning

-- the first entry of a name
unfoldable pub look_up : Environment → LookUp
look_up [] name = None
look_up (e ∷ env) name = if bytes_eq e.name name then (Some e.meaning) else look_up env name

abbrev pub is_there : Environment → Text → Bool
is_there env name = is_some (look_up env name)

abbrev pub text_in : Option Meaning → Option Text
text_in None = None
text_in (Some (Single t)) = Some t
text_in (Some (Several ts)) = None

abbrev pub members_in : Option Meaning → List Text
members_in None = []
members_in (Some (Single t)) = []
members_in (Some (Several ts)) = ts

-- the text of a name; a list has none
abbrev pub text_of : Environment → Text → Option Text
text_of env name = text_in (look_up env name)

-- the members of a name; a text has none
abbrev pub members_of : Environment → Text → List Text
members_of env name = members_in (look_up env name)

-- ---- an environment as rules see it

abbrev pub is_among : Text → List Text → Bool
is_among name names = list_any (λ n. bytes_eq n name) names

abbrev pub only_text : Option Meaning → Option Meaning
only_text None = None
only_text (Some (Single t)) = Some (Single t)
only_text (Some (Several ts)) = None

abbrev pub only_list : Option Meaning → Option Meaning
only_list None = None
only_list (Some (Single t)) = None
only_list (Some (Several ts)) = Some (Several ts)

-- with the names of lists: a text whose name is among them is undefined, and so is a list whose name is not
abbrev pub view : List Text → LookUp → LookUp
view lists look name = if is_among name lists then only_list (look name) else only_text (look name)

-- ---- M and E

abbrev pub meaning_bytes : Meaning → ℕ
meaning_bytes (Single t) = length t
meaning_bytes (Several ts) = sum_by length ts

abbrev pub meaning_members : Meaning → ℕ
meaning_members (Single t) = 0
meaning_members (Several ts) = length ts

-- E: the bytes of all texts and members; names are not counted
abbrev pub byte_count : Environment → ℕ
byte_count env = sum_by (λ e. meaning_bytes e.meaning) env

-- M: the members of all lists
abbrev pub member_count : Environment → ℕ
member_count env = sum_by (λ e. meaning_members e.meaning) env

-- ---- how an environment grows

-- the environment after a text is added: the first entry of a name stays
abbrev pub with_text : Environment → Text → Text → Environment
with_text env name t = if is_there env name then env else (env ++ record { name = name; meaning = Single t } ∷ [])

-- one more member, last in a list
abbrev pub more : Meaning → Text → Meaning
more (Single t) member = Single t
more (Several ts) member = Several (ts ++ member ∷ [])

-- one more member, last in the list of its name; an entry that is a text stays
unfoldable pub with_member : Environment → Text → Text → Environment
with_member [] name member = record { name = name; meaning = Several (member ∷ []) } ∷ []
with_member (e ∷ env) name member =
    if bytes_eq e.name name then (record { name = e.name; meaning = more e.meaning member } ∷ env)
    else (e ∷ with_member env name member)
