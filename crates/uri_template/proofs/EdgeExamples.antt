-- What RFC 6570 says without an example, or leaves open: the operators' table, and each operator at the edges of values, lists,
-- prefixes and names. The definition computes them.
use Rattle.std.proofs.Common.{◌≡◌, ℕ, List, [], ◌∷◌, ◌++◌, true, false, length, map, refl, codes}
use Rattle.std.specs.List.{range_with_len}
use Rattle.text_model.specs.Texts.{Text, is_unreserved, is_reserved}
use Rattle.text_model.specs.Writing.{written_u, written_ur}
use Rattle.text_model.specs.Cut.{code_points, with_triplets}
use Rattle.text_model.specs.declared.writing.Writing.TheVariants.{U, UR}
use Rattle.environment_model.specs.Environment.{Environment, Single, Several, look_up}
use Rattle.uri_grammar.specs.declared.parts.Op.{Op}
use Rattle.uri_grammar.specs.declared.parts.Op.TheVariants as operator
use Rattle.uri_grammar.specs.declared.parts.Spec.{Spec}
use Rattle.uri_grammar.specs.declared.parts.Part.TheVariants.{Literal, Expression}
use Rattle.uri_template.specs.Expansion.{style_of, prefix, part_text, expansion}
use Rattle.uri_template.proofs.Examples.{expands, whole, exploded, cut_to}

-- ---- the operators' table (appendix A)

abbrev operators : List Op
operators =
    operator.Simple ∷ operator.Plus ∷ operator.Dot ∷ operator.Slash ∷ operator.Semicolon ∷ operator.Question ∷ operator.Ampersand
    ∷ operator.Hash ∷ []

first : map (λ op. (style_of op).first) operators ≡ [] ∷ [] ∷ codes "." ∷ codes "/" ∷ codes ";" ∷ codes "?" ∷ codes "&" ∷ codes "#" ∷ []
first = refl

sep : map (λ op. (style_of op).sep) operators ≡ codes "," ∷ codes "," ∷ codes "." ∷ codes "/" ∷ codes ";" ∷ codes "&" ∷ codes "&" ∷ codes "," ∷ []
sep = refl

named : map (λ op. (style_of op).named) operators ≡ false ∷ false ∷ false ∷ false ∷ true ∷ true ∷ true ∷ false ∷ []
named = refl

ifemp : map (λ op. (style_of op).ifemp) operators ≡ [] ∷ [] ∷ [] ∷ [] ∷ [] ∷ codes "=" ∷ codes "=" ∷ [] ∷ []
ifemp = refl

allow : map (λ op. (style_of op).writing) operators ≡ U ∷ UR ∷ U ∷ U ∷ U ∷ U ∷ U ∷ UR ∷ []
allow = refl

-- ---- the same variables by each operator, in the order of the table

-- `none` is a list without members, `one` a list with one, which is empty
variables : Environment
variables =
    record { name = codes "t"; meaning = Single (codes "a/%41 " ++ 0xC3 ∷ 0xA9 ∷ []) }
    ∷ record { name = codes "p"; meaning = Single (0xC3 ∷ 0xA9 ∷ codes "a%41%42") }
    ∷ record { name = codes "nil"; meaning = Single [] }
    ∷ record { name = codes "v"; meaning = Single (codes "1") }
    ∷ record { name = codes "V"; meaning = Single (codes "2") }
    ∷ record { name = codes "list"; meaning = Several (codes "a/b" ∷ [] ∷ codes "c d" ∷ []) }
    ∷ record { name = codes "one"; meaning = Several ([] ∷ []) }
    ∷ record { name = codes "none"; meaning = Several [] }
    ∷ []

abbrev by_operators : List Spec → List Text
by_operators specs = map (λ op. part_text (look_up variables) (Expression op specs)) operators

abbrev nothing : List Text
nothing = map (λ op. []) operators

text :
    by_operators (whole (codes "t") ∷ [])
    ≡ codes "a%2F%2541%20%C3%A9" ∷ codes "a/%41%20%C3%A9" ∷ codes ".a%2F%2541%20%C3%A9" ∷ codes "/a%2F%2541%20%C3%A9" ∷ codes ";t=a%2F%2541%20%C3%A9"
    ∷ codes "?t=a%2F%2541%20%C3%A9" ∷ codes "&t=a%2F%2541%20%C3%A9" ∷ codes "#a/%41%20%C3%A9" ∷ []
unfolding variables look_up is_unreserved is_reserved written_u written_ur
text = refl

empty_text : by_operators (whole (codes "nil") ∷ []) ≡ [] ∷ [] ∷ codes "." ∷ codes "/" ∷ codes ";nil" ∷ codes "?nil=" ∷ codes "&nil=" ∷ codes "#" ∷ []
unfolding variables look_up written_u written_ur
empty_text = refl

-- explode changes nothing for a text
exploded_text : by_operators (exploded (codes "t") ∷ exploded (codes "nil") ∷ []) ≡ by_operators (whole (codes "t") ∷ whole (codes "nil") ∷ [])
unfolding variables look_up is_unreserved is_reserved written_u written_ur
exploded_text = refl

-- members are written one at a time, an empty one too
list :
    by_operators (whole (codes "list") ∷ [])
    ≡ codes "a%2Fb,,c%20d" ∷ codes "a/b,,c%20d" ∷ codes ".a%2Fb,,c%20d" ∷ codes "/a%2Fb,,c%20d" ∷ codes ";list=a%2Fb,,c%20d"
    ∷ codes "?list=a%2Fb,,c%20d" ∷ codes "&list=a%2Fb,,c%20d" ∷ codes "#a/b,,c%20d" ∷ []
unfolding variables look_up is_unreserved is_reserved written_u written_ur
list = refl

exploded_list :
    by_operators (exploded (codes "list") ∷ [])
    ≡ codes "a%2Fb,,c%20d" ∷ codes "a/b,,c%20d" ∷ codes ".a%2Fb..c%20d" ∷ codes "/a%2Fb//c%20d" ∷ codes ";list=a%2Fb;list;list=c%20d"
    ∷ codes "?list=a%2Fb&list=&list=c%20d" ∷ codes "&list=a%2Fb&list=&list=c%20d" ∷ codes "#a/b,,c%20d" ∷ []
unfolding variables look_up is_unreserved is_reserved written_u written_ur
exploded_list = refl

empty_member : by_operators (whole (codes "one") ∷ []) ≡ [] ∷ [] ∷ codes "." ∷ codes "/" ∷ codes ";one=" ∷ codes "?one=" ∷ codes "&one=" ∷ codes "#" ∷ []
unfolding variables look_up written_u written_ur
empty_member = refl

exploded_empty_member :
    by_operators (exploded (codes "one") ∷ [])
    ≡ [] ∷ [] ∷ codes "." ∷ codes "/" ∷ codes ";one" ∷ codes "?one=" ∷ codes "&one=" ∷ codes "#" ∷ []
unfolding variables look_up written_u written_ur
exploded_empty_member = refl

-- undefined variables: a name without a meaning, even one that differs only in case, a list without members, a prefix of a list
undefined :
    by_operators (
    whole (codes "T") ∷ exploded (codes "missing") ∷ cut_to 2 (codes "missing") ∷ whole (codes "none") ∷ exploded (codes "none")
    ∷ cut_to 1 (codes "none") ∷ cut_to 1 (codes "list") ∷ cut_to 9999 (codes "one") ∷ [])
    ≡ nothing
unfolding variables look_up
undefined = refl

-- `first` comes before the first variable that is defined, `sep` before the others
among_undefined :
    by_operators (
    whole (codes "missing") ∷ cut_to 1 (codes "list") ∷ whole (codes "v") ∷ whole (codes "none") ∷ whole (codes "V") ∷ whole (codes "missing") ∷ [])
    ≡ codes "1,2" ∷ codes "1,2" ∷ codes ".1.2" ∷ codes "/1/2" ∷ codes ";v=1;V=2" ∷ codes "?v=1&V=2" ∷ codes "&v=1&V=2" ∷ codes "#1,2" ∷ []
unfolding variables look_up is_unreserved is_reserved written_u written_ur
among_undefined = refl

-- an empty piece is a piece
after_empty :
    by_operators (whole (codes "nil") ∷ whole (codes "v") ∷ [])
    ≡ codes ",1" ∷ codes ",1" ∷ codes "..1" ∷ codes "//1" ∷ codes ";nil;v=1" ∷ codes "?nil=&v=1"
    ∷ codes "&nil=&v=1" ∷ codes "#,1" ∷ []
unfolding variables look_up is_unreserved is_reserved written_u written_ur
after_empty = refl

-- ---- prefixes count code points, and triplets where these are copied

prefix_of_one :
    by_operators (cut_to 1 (codes "p") ∷ [])
    ≡ codes "%C3%A9" ∷ codes "%C3%A9" ∷ codes ".%C3%A9" ∷ codes "/%C3%A9" ∷ codes ";p=%C3%A9" ∷ codes "?p=%C3%A9"
    ∷ codes "&p=%C3%A9" ∷ codes "#%C3%A9" ∷ []
unfolding variables look_up is_unreserved is_reserved written_u written_ur code_points with_triplets
prefix_of_one = refl

prefix_of_three :
    by_operators (cut_to 3 (codes "p") ∷ [])
    ≡ codes "%C3%A9a%25" ∷ codes "%C3%A9a%41" ∷ codes ".%C3%A9a%25" ∷ codes "/%C3%A9a%25" ∷ codes ";p=%C3%A9a%25" ∷ codes "?p=%C3%A9a%25"
    ∷ codes "&p=%C3%A9a%25" ∷ codes "#%C3%A9a%41" ∷ []
unfolding variables look_up is_unreserved is_reserved written_u written_ur code_points with_triplets
prefix_of_three = refl

longest_prefix : by_operators (cut_to 9999 (codes "p") ∷ []) ≡ by_operators (whole (codes "p") ∷ [])
unfolding variables look_up is_unreserved is_reserved written_u written_ur code_points with_triplets
longest_prefix = refl

prefix_of_empty : by_operators (cut_to 1 (codes "nil") ∷ []) ≡ by_operators (whole (codes "nil") ∷ [])
unfolding variables look_up is_unreserved is_reserved written_u written_ur code_points with_triplets
prefix_of_empty = refl

abbrev letters : ℕ → Text
letters n = map (λ _. 97) (range_with_len 0 n)

-- the longest prefix cuts a value that is longer
longest_prefix_cuts : length (prefix U 9999 (letters 10000)) ≡ 9999
unfolding code_points
longest_prefix_cuts = refl

-- ---- the name `%41` is not `A`: it is looked up and written without decoding (section 2.3)

triplet_text : Environment
triplet_text = record { name = codes "A"; meaning = Single (codes "other") } ∷ record { name = codes "%41"; meaning = Single (codes "x") } ∷ []

triplet_list : Environment
triplet_list = record { name = codes "%41"; meaning = Several (codes "a" ∷ codes "b" ∷ []) } ∷ []

triplet_in_query : expands triplet_text operator.Question ((whole (codes "%41") ∷ [], codes "?%41=x") ∷ [])
unfolding triplet_text look_up is_unreserved written_u
triplet_in_query = refl

triplet_in_parameters : expands triplet_text operator.Semicolon ((whole (codes "%41") ∷ [], codes ";%41=x") ∷ [])
unfolding triplet_text look_up is_unreserved written_u
triplet_in_parameters = refl

triplet_of_a_list :
    expands triplet_list operator.Question (
    (whole (codes "%41") ∷ [], codes "?%41=a,b") ∷ (exploded (codes "%41") ∷ [], codes "?%41=a&%41=b") ∷ [])
unfolding triplet_list look_up is_unreserved written_u
triplet_of_a_list = refl

-- ---- templates: literals are copied, and each part expands in its place

around :
    expansion (look_up variables) (
    Literal (codes "a%2f'/") ∷ Expression operator.Dot (whole (codes "v") ∷ [])
    ∷ Literal (codes "?") ∷ Expression operator.Hash (whole (codes "none") ∷ []) ∷ Expression operator.Simple (whole (codes "V") ∷ []) ∷ [])
    ≡ codes "a%2f'/.1?2"
unfolding variables look_up is_unreserved written_u
around = refl
