-- The examples of RFC 6570 (sections 1.2, 2.4 and 3.2), without those of associative arrays, computed from the definition.
use Rattle.std.proofs.Common.{◌≡◌, ℕ, List, [], ◌∷◌, true, false, map, refl, codes}
use Rattle.text_model.specs.Texts.{Text, is_unreserved, is_reserved}
use Rattle.text_model.specs.Writing.{written_u, written_ur}
use Rattle.text_model.specs.Cut.{code_points, with_triplets}
use Rattle.environment_model.specs.Environment.{Environment, Single, Several, look_up}
use Rattle.uri_grammar.specs.declared.parts.Op.{Op}
use Rattle.uri_grammar.specs.declared.parts.Op.TheVariants as operator
use Rattle.uri_grammar.specs.declared.parts.Spec.{Spec}
use Rattle.uri_grammar.specs.declared.parts.Part.TheVariants.{Expression}
use Rattle.uri_template.specs.Expansion.{part_text}

-- ---- rows: the variables of an expression, and its expansion

abbrev pub Row : Type 0
Row = List Spec × Text

abbrev pub expands : Environment → Op → List Row → Type 0
expands env op rows = map (λ (row : Row). part_text (look_up env) (Expression op row.0)) rows ≡ map (λ (row : Row). row.1) rows

abbrev pub whole : Text → Spec
whole name = record { name = name; cut = 0; explode = false }

abbrev pub exploded : Text → Spec
exploded name = record { name = name; cut = 0; explode = true }

abbrev pub cut_to : ℕ → Text → Spec
cut_to n name = record { name = name; cut = n; explode = false }

-- the variables of section 3.2, with `semi` and `year` of section 2.4; `undef` and `bar` are undefined
variables : Environment
variables =
    record { name = codes "count"; meaning = Several (codes "one" ∷ codes "two" ∷ codes "three" ∷ []) }
    ∷ record { name = codes "dom"; meaning = Several (codes "example" ∷ codes "com" ∷ []) }
    ∷ record { name = codes "dub"; meaning = Single (codes "me/too") }
    ∷ record { name = codes "hello"; meaning = Single (codes "Hello World!") }
    ∷ record { name = codes "half"; meaning = Single (codes "50%") }
    ∷ record { name = codes "var"; meaning = Single (codes "value") }
    ∷ record { name = codes "who"; meaning = Single (codes "fred") }
    ∷ record { name = codes "base"; meaning = Single (codes "http://example.com/home/") }
    ∷ record { name = codes "path"; meaning = Single (codes "/foo/bar") }
    ∷ record { name = codes "list"; meaning = Several (codes "red" ∷ codes "green" ∷ codes "blue" ∷ []) }
    ∷ record { name = codes "v"; meaning = Single (codes "6") }
    ∷ record { name = codes "x"; meaning = Single (codes "1024") }
    ∷ record { name = codes "y"; meaning = Single (codes "768") }
    ∷ record { name = codes "empty"; meaning = Single [] }
    ∷ record { name = codes "empty_keys"; meaning = Several [] }
    ∷ record { name = codes "semi"; meaning = Single (codes ";") }
    ∷ record { name = codes "year"; meaning = Several (codes "1965" ∷ codes "2000" ∷ codes "2012" ∷ []) }
    ∷ []

-- section 3.2.2, and 2.4.1
simple :
    expands variables operator.Simple (
    (whole (codes "var") ∷ [], codes "value")
    ∷ (whole (codes "hello") ∷ [], codes "Hello%20World%21")
    ∷ (whole (codes "half") ∷ [], codes "50%25")
    ∷ (whole (codes "empty") ∷ [], [])
    ∷ (whole (codes "undef") ∷ [], [])
    ∷ (whole (codes "x") ∷ whole (codes "y") ∷ [], codes "1024,768")
    ∷ (whole (codes "x") ∷ whole (codes "hello") ∷ whole (codes "y") ∷ [], codes "1024,Hello%20World%21,768")
    ∷ (whole (codes "x") ∷ whole (codes "empty") ∷ [], codes "1024,")
    ∷ (whole (codes "x") ∷ whole (codes "undef") ∷ [], codes "1024")
    ∷ (whole (codes "undef") ∷ whole (codes "y") ∷ [], codes "768")
    ∷ (whole (codes "base") ∷ [], codes "http%3A%2F%2Fexample.com%2Fhome%2F")
    ∷ (cut_to 3 (codes "var") ∷ [], codes "val")
    ∷ (cut_to 20 (codes "var") ∷ [], codes "value")
    ∷ (cut_to 30 (codes "var") ∷ [], codes "value")
    ∷ (whole (codes "semi") ∷ [], codes "%3B")
    ∷ (cut_to 2 (codes "semi") ∷ [], codes "%3B")
    ∷ (whole (codes "count") ∷ [], codes "one,two,three")
    ∷ (exploded (codes "count") ∷ [], codes "one,two,three")
    ∷ (whole (codes "list") ∷ [], codes "red,green,blue")
    ∷ (exploded (codes "list") ∷ [], codes "red,green,blue")
    ∷ [])
unfolding variables look_up is_unreserved written_u code_points
simple = refl

-- section 3.2.3
reserved :
    expands variables operator.Plus (
    (whole (codes "var") ∷ [], codes "value")
    ∷ (whole (codes "hello") ∷ [], codes "Hello%20World!")
    ∷ (whole (codes "half") ∷ [], codes "50%25")
    ∷ (whole (codes "base") ∷ [], codes "http://example.com/home/")
    ∷ (whole (codes "empty") ∷ [], [])
    ∷ (whole (codes "undef") ∷ [], [])
    ∷ (whole (codes "path") ∷ [], codes "/foo/bar")
    ∷ (whole (codes "x") ∷ whole (codes "hello") ∷ whole (codes "y") ∷ [], codes "1024,Hello%20World!,768")
    ∷ (whole (codes "path") ∷ whole (codes "x") ∷ [], codes "/foo/bar,1024")
    ∷ (cut_to 6 (codes "path") ∷ [], codes "/foo/b")
    ∷ (whole (codes "list") ∷ [], codes "red,green,blue")
    ∷ (exploded (codes "list") ∷ [], codes "red,green,blue")
    ∷ [])
unfolding variables look_up is_unreserved is_reserved written_ur code_points with_triplets
reserved = refl

-- section 3.2.4
fragment :
    expands variables operator.Hash (
    (whole (codes "var") ∷ [], codes "#value")
    ∷ (whole (codes "hello") ∷ [], codes "#Hello%20World!")
    ∷ (whole (codes "half") ∷ [], codes "#50%25")
    ∷ (whole (codes "empty") ∷ [], codes "#")
    ∷ (whole (codes "undef") ∷ [], [])
    ∷ (whole (codes "x") ∷ whole (codes "hello") ∷ whole (codes "y") ∷ [], codes "#1024,Hello%20World!,768")
    ∷ (whole (codes "path") ∷ whole (codes "x") ∷ [], codes "#/foo/bar,1024")
    ∷ (cut_to 6 (codes "path") ∷ [], codes "#/foo/b")
    ∷ (whole (codes "list") ∷ [], codes "#red,green,blue")
    ∷ (exploded (codes "list") ∷ [], codes "#red,green,blue")
    ∷ [])
unfolding variables look_up is_unreserved is_reserved written_ur code_points with_triplets
fragment = refl

-- section 3.2.5
labels :
    expands variables operator.Dot (
    (whole (codes "who") ∷ [], codes ".fred")
    ∷ (whole (codes "who") ∷ whole (codes "who") ∷ [], codes ".fred.fred")
    ∷ (whole (codes "half") ∷ whole (codes "who") ∷ [], codes ".50%25.fred")
    ∷ (whole (codes "x") ∷ whole (codes "y") ∷ [], codes ".1024.768")
    ∷ (exploded (codes "dom") ∷ [], codes ".example.com")
    ∷ (whole (codes "var") ∷ [], codes ".value")
    ∷ (whole (codes "empty") ∷ [], codes ".")
    ∷ (whole (codes "undef") ∷ [], [])
    ∷ (cut_to 3 (codes "var") ∷ [], codes ".val")
    ∷ (whole (codes "list") ∷ [], codes ".red,green,blue")
    ∷ (exploded (codes "list") ∷ [], codes ".red.green.blue")
    ∷ (whole (codes "empty_keys") ∷ [], [])
    ∷ (exploded (codes "empty_keys") ∷ [], [])
    ∷ [])
unfolding variables look_up is_unreserved written_u code_points
labels = refl

-- section 3.2.6
segments :
    expands variables operator.Slash (
    (whole (codes "who") ∷ [], codes "/fred")
    ∷ (whole (codes "who") ∷ whole (codes "who") ∷ [], codes "/fred/fred")
    ∷ (whole (codes "half") ∷ whole (codes "who") ∷ [], codes "/50%25/fred")
    ∷ (whole (codes "who") ∷ whole (codes "dub") ∷ [], codes "/fred/me%2Ftoo")
    ∷ (whole (codes "var") ∷ [], codes "/value")
    ∷ (whole (codes "var") ∷ whole (codes "empty") ∷ [], codes "/value/")
    ∷ (whole (codes "var") ∷ whole (codes "undef") ∷ [], codes "/value")
    ∷ (whole (codes "var") ∷ whole (codes "x") ∷ [], codes "/value/1024")
    ∷ (cut_to 1 (codes "var") ∷ whole (codes "var") ∷ [], codes "/v/value")
    ∷ (whole (codes "count") ∷ [], codes "/one,two,three")
    ∷ (exploded (codes "count") ∷ [], codes "/one/two/three")
    ∷ (whole (codes "list") ∷ [], codes "/red,green,blue")
    ∷ (exploded (codes "list") ∷ [], codes "/red/green/blue")
    ∷ (exploded (codes "list") ∷ cut_to 4 (codes "path") ∷ [], codes "/red/green/blue/%2Ffoo")
    ∷ [])
unfolding variables look_up is_unreserved written_u code_points
segments = refl

-- section 3.2.7
parameters :
    expands variables operator.Semicolon (
    (whole (codes "who") ∷ [], codes ";who=fred")
    ∷ (whole (codes "half") ∷ [], codes ";half=50%25")
    ∷ (whole (codes "empty") ∷ [], codes ";empty")
    ∷ (whole (codes "v") ∷ whole (codes "empty") ∷ whole (codes "who") ∷ [], codes ";v=6;empty;who=fred")
    ∷ (whole (codes "v") ∷ whole (codes "bar") ∷ whole (codes "who") ∷ [], codes ";v=6;who=fred")
    ∷ (whole (codes "x") ∷ whole (codes "y") ∷ [], codes ";x=1024;y=768")
    ∷ (whole (codes "x") ∷ whole (codes "y") ∷ whole (codes "empty") ∷ [], codes ";x=1024;y=768;empty")
    ∷ (whole (codes "x") ∷ whole (codes "y") ∷ whole (codes "undef") ∷ [], codes ";x=1024;y=768")
    ∷ (cut_to 5 (codes "hello") ∷ [], codes ";hello=Hello")
    ∷ (whole (codes "count") ∷ [], codes ";count=one,two,three")
    ∷ (exploded (codes "count") ∷ [], codes ";count=one;count=two;count=three")
    ∷ (whole (codes "list") ∷ [], codes ";list=red,green,blue")
    ∷ (exploded (codes "list") ∷ [], codes ";list=red;list=green;list=blue")
    ∷ [])
unfolding variables look_up is_unreserved written_u code_points
parameters = refl

-- section 3.2.8, and 2.4.2
query :
    expands variables operator.Question (
    (whole (codes "who") ∷ [], codes "?who=fred")
    ∷ (whole (codes "half") ∷ [], codes "?half=50%25")
    ∷ (whole (codes "x") ∷ whole (codes "y") ∷ [], codes "?x=1024&y=768")
    ∷ (whole (codes "x") ∷ whole (codes "y") ∷ whole (codes "empty") ∷ [], codes "?x=1024&y=768&empty=")
    ∷ (whole (codes "x") ∷ whole (codes "y") ∷ whole (codes "undef") ∷ [], codes "?x=1024&y=768")
    ∷ (cut_to 3 (codes "var") ∷ [], codes "?var=val")
    ∷ (whole (codes "count") ∷ [], codes "?count=one,two,three")
    ∷ (exploded (codes "count") ∷ [], codes "?count=one&count=two&count=three")
    ∷ (whole (codes "list") ∷ [], codes "?list=red,green,blue")
    ∷ (exploded (codes "list") ∷ [], codes "?list=red&list=green&list=blue")
    ∷ (exploded (codes "year") ∷ [], codes "?year=1965&year=2000&year=2012")
    ∷ [])
unfolding variables look_up is_unreserved written_u code_points
query = refl

-- section 3.2.9
continuation :
    expands variables operator.Ampersand (
    (whole (codes "who") ∷ [], codes "&who=fred")
    ∷ (whole (codes "half") ∷ [], codes "&half=50%25")
    ∷ (whole (codes "x") ∷ [], codes "&x=1024")
    ∷ (whole (codes "x") ∷ whole (codes "y") ∷ whole (codes "empty") ∷ [], codes "&x=1024&y=768&empty=")
    ∷ (whole (codes "x") ∷ whole (codes "y") ∷ whole (codes "undef") ∷ [], codes "&x=1024&y=768")
    ∷ (cut_to 3 (codes "var") ∷ [], codes "&var=val")
    ∷ (exploded (codes "count") ∷ [], codes "&count=one&count=two&count=three")
    ∷ (whole (codes "list") ∷ [], codes "&list=red,green,blue")
    ∷ (exploded (codes "list") ∷ [], codes "&list=red&list=green&list=blue")
    ∷ [])
unfolding variables look_up is_unreserved written_u code_points
continuation = refl
