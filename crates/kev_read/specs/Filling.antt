-- An environment after the pairs of a request are added.
use Rattle.std.specs.Prelude.{◌≡◌, ◌↔◌, ◌⊎◌, ◌+◌, ◌<◌, Bool, true, false, not, MatchBool, List, ◌∷◌, ◌++◌, length, fold, if◌then◌else◌}
use Rattle.text_model.specs.Texts.{Text}
use Rattle.environment_model.specs.Environment.{Environment, is_there, byte_count, member_count, with_text, with_member}
use Rattle.environment_model.specs.Lists.{is_list}
use Rattle.target_vars.specs.EnvValue.{denotes_text}
use Rattle.target_vars.specs.declared.env.TheConstants.{MAX_BYTES, MAX_MEMBERS}
use Rattle.target_vars.specs.declared.error.VarsError.{VarsError}
use Rattle.target_vars.specs.declared.error.VarsError.TheVariants.{TooLarge}
use Rattle.kev_read.specs.Pairs.{KeyValue}

-- ---- one pair, as a member of a list or as a text

-- the environment after the pair
abbrev pub added : Bool → Environment → KeyValue → Environment
added list env pair = if list then with_member env pair.key pair.value else with_text env pair.key pair.value

-- the pair changes the environment: for a list its key has no text, and for a text its key is new
abbrev pub is_added : Bool → Environment → KeyValue → Bool
is_added list env pair = if list then not (denotes_text env pair.key) else not (is_there env pair.key)

-- the pair would be added, and exceed a limit of the environment
abbrev pub MemberIsTooLarge : Environment → KeyValue → Type 0
MemberIsTooLarge env pair =
    (denotes_text env pair.key ≡ false)
    × ((MAX_BYTES < byte_count env + length pair.value) ⊎ (MAX_MEMBERS < member_count env + 1))

abbrev pub TextIsTooLarge : Environment → KeyValue → Type 0
TextIsTooLarge env pair = (is_there env pair.key ≡ false) × (MAX_BYTES < byte_count env + length pair.value)

abbrev pub IsTooLarge : Bool → Environment → KeyValue → Type 0
IsTooLarge list env pair = MatchBool list (MemberIsTooLarge env pair) (TextIsTooLarge env pair)

-- ---- all pairs

-- the environment after one pair, if these lists are declared
abbrev pub fill_one : List Text → Environment → KeyValue → Environment
fill_one lists env pair = added (is_list lists pair.key) env pair

-- the environment after each pair, in order
abbrev pub filled : List Text → Environment → List KeyValue → Environment
filled lists env pairs = fold (fill_one lists) env pairs

-- the environment has the pairs before a rejected one, which would otherwise have been added
pub record StopsAtPair (lists : List Text) (old : Environment) (pairs : List KeyValue) (new : Environment) (e : VarsError) : Type 0 where
  pub before : List KeyValue
  pub refused : KeyValue
  pub after : List KeyValue
  pub in_order : pairs ≡ before ++ refused ∷ after
  pub reached : new ≡ filled lists old before
  pub is_added : is_added (is_list lists refused.key) new refused ≡ true
  pub too_large : (e ≡ TooLarge) ↔ IsTooLarge (is_list lists refused.key) new refused
