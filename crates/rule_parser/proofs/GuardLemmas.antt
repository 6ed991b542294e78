-- Which tokens are those of which guard.
use Rattle.std.proofs.Common.{◌≡◌, ◌≢◌, ◌≤◌, [], ◌∷◌, ◌++◌, true, false, Option, Some, None, Result, Ok, Err, IfOk, length, refl, sym, codes, rules, arith}
use Rattle.std.specs.List.{list_all}
use Rattle.std.specs.Char.{is_ascii_digit}
use Rattle.std.proofs.lemmas.Grind.{common_steps}
use Rattle.text_model.specs.Texts.{Text}
use Rattle.uri_grammar.specs.Names.{IsName}
use Rattle.rule_parser.specs.declared.rule.Bound.{Bound}
use Rattle.rule_parser.specs.declared.rule.Bound.TheVariants as bound
use Rattle.rule_parser.specs.declared.rule.Guard.{Guard}
use Rattle.rule_parser.specs.declared.rule.Guard.TheVariants as guard
use Rattle.rule_parser.specs.Rules.{IsBound, AreBounds, IsGuard}
use Rattle.rule_parser.specs.Statements.{quoted, escaped, bound_text, bounds_text, guard_text}
use Rattle.rule_parser.specs.Private.Reading.{ReadsEscaped, ReadsQuoted, ReadsBound, ReadsBounds, ReadsGuard, IsToken}
use Rattle.rule_parser.proofs.TokenLemmas.{token_split, no_space, name_is_token, bound_is_token}

-- ---- quoted texts

pub quoted_reads : (value rest e : Text) (read : Option Text) → value ≡ 34 ∷ rest → rest ≡ e ++ 34 ∷ [] → ReadsEscaped e read → ReadsQuoted value read
quoted_reads value rest e None v r h = grind (arith, common_steps)
quoted_reads value rest e (Some t) v r h = rw (v, r, h) refl

pub not_quoted : (value : Text) → ((rest : Text) → value ≢ 34 ∷ rest) → (t : Text) → value ≡ quoted t → ⊥
not_quoted value h t q = h (escaped t ++ 34 ∷ []) q

pub not_closed : (value rest : Text) → value ≡ 34 ∷ rest → ((e : Text) → rest ≢ e ++ 34 ∷ []) → (t : Text) → value ≡ quoted t → ⊥
not_closed value rest v h t q = h (escaped t) (cc)

pub quoted_result : {E : Type 0} (value rest e : Text) (r : Result (Option Text) E) → value ≡ 34 ∷ rest → rest ≡ e ++ 34 ∷ []
    → IfOk r (λ read. ReadsEscaped e read)
    → IfOk r (λ read. ReadsQuoted value read)
quoted_result value rest e (Ok read) v r h = quoted_reads value rest e read v r h
quoted_result value rest e (Err f) v r h = tt

-- ---- bounds

pub no_bound : (t : Text) → (t ≡ codes "*" → ⊥) → (list_all is_ascii_digit t ≡ true → 1 ≤ length t → length t ≤ 9 → ⊥)
    → (IsName t → list_all is_ascii_digit t ≡ false → ⊥) → (b : Bound) → IsBound b → t ≡ bound_text b → ⊥
no_bound t star digits name bound.Open h e = star e
no_bound t star digits name (bound.Digits d) h e = digits (rw e h.0) (rw e h.1) (rw e h.2)
no_bound t star digits name (bound.Name n) h e = name (rw e h.0) (rw e h.1)

-- the bounds of a range whose first token ends at its first space
bounds_tokens : (low high : Bound) (l rest : Text) → IsToken l → IsBound low → l ++ 32 ∷ rest ≡ bounds_text low high
    → (l ≡ bound_text low) × (rest ≡ codes "to " ++ bound_text high)
bounds_tokens low high l rest w h e = token_split l rest (bound_text low) (codes "to " ++ bound_text high) w (bound_is_token low h) e

pub no_bounds_in_token : (t : Text) → IsToken t → (low high : Bound) → AreBounds low high → t ≡ bounds_text low high → ⊥
no_bounds_in_token t w low high b e = no_space t (bound_text low) (codes "to " ++ bound_text high) w e

pub no_bounds_without_to : (t l rest : Text) → t ≡ l ++ 32 ∷ rest → IsToken l → ((high : Text) → rest ≢ codes "to " ++ high)
    → (low high : Bound) → AreBounds low high → t ≡ bounds_text low high → ⊥
no_bounds_without_to t l rest s w h low high b e =
    let whole : l ++ 32 ∷ rest ≡ bounds_text low high = cc in
    h (bound_text high) (bounds_tokens low high l rest w b.0 whole).1

pub no_bounds_without_low : (t l rest : Text) → t ≡ l ++ 32 ∷ rest → IsToken l → ReadsBound l None
    → (low high : Bound) → AreBounds low high → t ≡ bounds_text low high → ⊥
no_bounds_without_low t l rest s w h low high b e =
    let whole : l ++ 32 ∷ rest ≡ bounds_text low high = cc in
    h low b.0 (bounds_tokens low high l rest w b.0 whole).0

pub no_bounds_without_high : (t l rest u : Text) → t ≡ l ++ 32 ∷ rest → rest ≡ codes "to " ++ u → IsToken l → ReadsBound u None
    → (low high : Bound) → AreBounds low high → t ≡ bounds_text low high → ⊥
no_bounds_without_high t l rest u s r w h low high b e =
    let whole : l ++ 32 ∷ rest ≡ bounds_text low high = cc in
    let following : rest ≡ codes "to " ++ bound_text high = (bounds_tokens low high l rest w b.0 whole).1 in
    h high b.1 (cc)

pub bounds_read : (t l rest u : Text) (low high : Bound) → t ≡ l ++ 32 ∷ rest → rest ≡ codes "to " ++ u → ReadsBound l (Some low) → ReadsBound u (Some high)
    → ReadsBounds t (Some (low, high))
bounds_read t l rest u low high s r a b = ((a.0, b.0), rw (s, r, a.1, b.1) refl)

-- ---- guards of two tokens

-- the guard of two tokens
abbrev pub IsDefined : Text → Text → Guard → Type 0
IsDefined verb name (guard.Has n) = IsName name × (verb ≡ codes "has") × (n ≡ name)
IsDefined verb name (guard.Lacks n) = IsName name × (verb ≡ codes "lacks") × (n ≡ name)
IsDefined verb name (guard.Given n) = IsName name × (verb ≡ codes "given") × (n ≡ name)
IsDefined verb name (guard.Same n t) = ⊥
IsDefined verb name (guard.Holds n t) = ⊥
IsDefined verb name (guard.Between n low high) = ⊥
IsDefined verb name (guard.Counts n low high) = ⊥

pub defined_tokens : (verb name : Text) → IsToken verb → IsToken name → (g : Guard) → IsGuard g → verb ++ 32 ∷ name ≡ guard_text g → IsDefined verb name g
defined_tokens verb name v w (guard.Has n) h e = let p = token_split verb name (codes "has") n v (search rules) e in (rw p.1 h, p.0, sym p.1)
defined_tokens verb name v w (guard.Lacks n) h e = let p = token_split verb name (codes "lacks") n v (search rules) e in (rw p.1 h, p.0, sym p.1)
defined_tokens verb name v w (guard.Given n) h e = let p = token_split verb name (codes "given") n v (search rules) e in (rw p.1 h, p.0, sym p.1)
defined_tokens verb name v w (guard.Same n t) h e =
    no_space name (codes "is") (quoted t) w (token_split verb name n (codes "is " ++ quoted t) v (name_is_token n h) e).1
defined_tokens verb name v w (guard.Holds n t) h e =
    no_space name (codes "holds") (quoted t) w (token_split verb name n (codes "holds " ++ quoted t) v (name_is_token n h) e).1
defined_tokens verb name v w (guard.Between n low high) h e =
    no_space name (codes "from") (bounds_text low high) w (token_split verb name n (codes "from " ++ bounds_text low high) v (name_is_token n h.0) e).1
defined_tokens verb name v w (guard.Counts n low high) h e =
    no_space name (codes "counts") (bounds_text low high) w (token_split verb name n (codes "counts " ++ bounds_text low high) v (name_is_token n h.0) e).1

pub no_guard_without_name : (verb name : Text) → IsToken verb → IsToken name → (IsName name → ⊥) → ReadsGuard (verb ++ 32 ∷ name) None
no_guard_without_name verb name v w no_name g h e = grind (arith, defined_tokens)

pub no_guard_of_verb : (verb name : Text) → IsToken verb → IsToken name → verb ≢ codes "has" → verb ≢ codes "lacks" → verb ≢ codes "given"
    → ReadsGuard (verb ++ 32 ∷ name) None
no_guard_of_verb verb name v w no_has no_lacks no_given g h e = grind (arith, defined_tokens)

-- ---- guards of more tokens

-- the guard of a name, a verb and the text after them
abbrev pub IsCompared : Text → Text → Text → Guard → Type 0
IsCompared name verb value (guard.Has n) = ⊥
IsCompared name verb value (guard.Lacks n) = ⊥
IsCompared name verb value (guard.Given n) = ⊥
IsCompared name verb value (guard.Same n t) = IsName name × (verb ≡ codes "is") × (value ≡ quoted t) × (n ≡ name)
IsCompared name verb value (guard.Holds n t) = IsName name × (verb ≡ codes "holds") × (value ≡ quoted t) × (n ≡ name)
IsCompared name verb value (guard.Between n low high) =
    IsName name × (verb ≡ codes "from") × AreBounds low high × (value ≡ bounds_text low high) × (n ≡ name)
IsCompared name verb value (guard.Counts n low high) =
    IsName name × (verb ≡ codes "counts") × AreBounds low high × (value ≡ bounds_text low high) × (n ≡ name)

pub compared_tokens : (name verb value : Text) → IsToken name → IsToken verb → (g : Guard) → IsGuard g → name ++ 32 ∷ (verb ++ 32 ∷ value) ≡ guard_text g
    → IsCompared name verb value g
compared_tokens name verb value w v (guard.Has n) h e =
    no_space n verb value (name_is_token n h) (sym (token_split name (verb ++ 32 ∷ value) (codes "has") n w (search rules) e).1)
compared_tokens name verb value w v (guard.Lacks n) h e =
    no_space n verb value (name_is_token n h) (sym (token_split name (verb ++ 32 ∷ value) (codes "lacks") n w (search rules) e).1)
compared_tokens name verb value w v (guard.Given n) h e =
    no_space n verb value (name_is_token n h) (sym (token_split name (verb ++ 32 ∷ value) (codes "given") n w (search rules) e).1)
compared_tokens name verb value w v (guard.Same n t) h e =
    let first = token_split name (verb ++ 32 ∷ value) n (codes "is " ++ quoted t) w (name_is_token n h) e in
    let second = token_split verb value (codes "is") (quoted t) v (search rules) first.1 in
    (rw first.0 h, second.0, second.1, sym first.0)
compared_tokens name verb value w v (guard.Holds n t) h e =
    let first = token_split name (verb ++ 32 ∷ value) n (codes "holds " ++ quoted t) w (name_is_token n h) e in
    let second = token_split verb value (codes "holds") (quoted t) v (search rules) first.1 in
    (rw first.0 h, second.0, second.1, sym first.0)
compared_tokens name verb value w v (guard.Between n low high) h e =
    let first = token_split name (verb ++ 32 ∷ value) n (codes "from " ++ bounds_text low high) w (name_is_token n h.0) e in
    let second = token_split verb value (codes "from") (bounds_text low high) v (search rules) first.1 in
    (rw first.0 h.0, second.0, h.1, second.1, sym first.0)
compared_tokens name verb value w v (guard.Counts n low high) h e =
    let first = token_split name (verb ++ 32 ∷ value) n (codes "counts " ++ bounds_text low high) w (name_is_token n h.0) e in
    let second = token_split verb value (codes "counts") (bounds_text low high) v (search rules) first.1 in
    (rw first.0 h.0, second.0, h.1, second.1, sym first.0)

-- a name, a verb and the text after them are not those of a guard if they do not fit any of the verbs
pub no_compared_guard : (name verb value : Text) → IsToken name → IsToken verb
    → (IsName name → verb ≡ codes "is" → (t : Text) → value ≡ quoted t → ⊥)
    → (IsName name → verb ≡ codes "holds" → (t : Text) → value ≡ quoted t → ⊥)
    → (IsName name → verb ≡ codes "from" → (low high : Bound) → AreBounds low high → value ≡ bounds_text low high → ⊥)
    → (IsName name → verb ≡ codes "counts" → (low high : Bound) → AreBounds low high → value ≡ bounds_text low high → ⊥)
    → ReadsGuard (name ++ 32 ∷ (verb ++ 32 ∷ value)) None
no_compared_guard name verb value w v no_is no_holds no_from no_counts' g h e = refuted g (compared_tokens name verb value w v g h e)
  where
    refuted : (g : Guard) → IsCompared name verb value g → ⊥
    refuted g p = grind (arith, common_steps)

pub no_same : (name value : Text) → IsName name → ReadsQuoted value None → ReadsGuard (name ++ (codes " is " ++ value)) None
no_same name value n h =
    no_compared_guard name (codes "is") value (name_is_token name n) (search rules) (λ a b t q. h t q) (λ a b t q. cc) (λ a b low high k q. cc)
    (λ a b low high k q. cc)

pub no_holds : (name value : Text) → IsName name → ReadsQuoted value None → ReadsGuard (name ++ (codes " holds " ++ value)) None
no_holds name value n h =
    no_compared_guard name (codes "holds") value (name_is_token name n) (search rules) (λ a b t q. cc) (λ a b t q. h t q) (λ a b low high k q. cc)
    (λ a b low high k q. cc)

pub no_between : (name value : Text) → IsName name → ReadsBounds value None → ReadsGuard (name ++ (codes " from " ++ value)) None
no_between name value n h =
    no_compared_guard name (codes "from") value (name_is_token name n) (search rules) (λ a b t q. cc) (λ a b t q. cc) (λ a b low high k q. h low high k q)
    (λ a b low high k q. cc)

pub no_counts : (name value : Text) → IsName name → ReadsBounds value None → ReadsGuard (name ++ (codes " counts " ++ value)) None
no_counts name value n h =
    no_compared_guard name (codes "counts") value (name_is_token name n) (search rules) (λ a b t q. cc) (λ a b t q. cc) (λ a b low high k q. cc)
    (λ a b low high k q. h low high k q)

-- ---- guards of one token

has_space : (g : Guard) → (us : Text) × (vs : Text) × (guard_text g ≡ us ++ 32 ∷ vs)
has_space (guard.Has n) = (codes "has", n, refl)
has_space (guard.Lacks n) = (codes "lacks", n, refl)
has_space (guard.Given n) = (codes "given", n, refl)
has_space (guard.Same n t) = (n, codes "is " ++ quoted t, refl)
has_space (guard.Holds n t) = (n, codes "holds " ++ quoted t, refl)
has_space (guard.Between n low high) = (n, codes "from " ++ bounds_text low high, refl)
has_space (guard.Counts n low high) = (n, codes "counts " ++ bounds_text low high, refl)

pub no_guard_in_token : (t : Text) → IsToken t → ReadsGuard t None
no_guard_in_token t w g h e = let s = has_space g in no_space t s.0 s.1 w (cc (s.2))
