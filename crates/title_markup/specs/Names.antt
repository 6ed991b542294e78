-- The names of characters (HTML 4.01, section 24; those of XML 1.0, section 4.6, also in capital letters), and the characters in their order.
use Rattle.std.specs.Prelude.{ℕ, ◌==◌, min, max, Bool, List, [], ◌∷◌, ◌++◌, length, codes, if◌then◌else◌}
use Rattle.std.specs.List.{filter}
use Rattle.text_model.specs.Texts.{Text}

-- the marks of HTML and XML, and Latin letters, punctuation, arrows and symbols
abbrev pub marks_names : List Text
marks_names =
    codes "QUOT" ∷ codes "quot" ∷ codes "AMP" ∷ codes "amp" ∷ codes "apos" ∷ codes "LT" ∷ codes "lt" ∷ codes "GT" ∷ codes "gt" ∷
    codes "OElig" ∷ codes "oelig" ∷ codes "Scaron" ∷ codes "scaron" ∷ codes "Yuml" ∷ codes "fnof" ∷ codes "circ" ∷ codes "tilde" ∷
    codes "ensp" ∷ codes "emsp" ∷ codes "thinsp" ∷ codes "zwnj" ∷ codes "zwj" ∷ codes "lrm" ∷ codes "rlm" ∷ codes "ndash" ∷
    codes "mdash" ∷ codes "lsquo" ∷ codes "rsquo" ∷ codes "sbquo" ∷ codes "ldquo" ∷ codes "rdquo" ∷ codes "bdquo" ∷ codes "dagger" ∷
    codes "Dagger" ∷ codes "bull" ∷ codes "hellip" ∷ codes "permil" ∷ codes "prime" ∷ codes "Prime" ∷ codes "lsaquo" ∷ codes "rsaquo" ∷
    codes "oline" ∷ codes "frasl" ∷ codes "euro" ∷ codes "image" ∷ codes "weierp" ∷ codes "real" ∷ codes "trade" ∷ codes "alefsym" ∷
    codes "larr" ∷ codes "uarr" ∷ codes "rarr" ∷ codes "darr" ∷ codes "harr" ∷ codes "crarr" ∷ codes "lArr" ∷ codes "uArr" ∷
    codes "rArr" ∷ codes "dArr" ∷ codes "hArr" ∷ codes "forall" ∷ codes "part" ∷ codes "exist" ∷ codes "empty" ∷ codes "nabla" ∷
    codes "isin" ∷ codes "notin" ∷ codes "ni" ∷ codes "prod" ∷ codes "sum" ∷ codes "minus" ∷ codes "lowast" ∷ codes "radic" ∷
    codes "prop" ∷ codes "infin" ∷ codes "ang" ∷ codes "and" ∷ codes "or" ∷ codes "cap" ∷ codes "cup" ∷ codes "int" ∷ codes "there4" ∷
    codes "sim" ∷ codes "cong" ∷ codes "asymp" ∷ codes "ne" ∷ codes "equiv" ∷ codes "le" ∷ codes "ge" ∷ codes "sub" ∷ codes "sup" ∷
    codes "nsub" ∷ codes "sube" ∷ codes "supe" ∷ codes "oplus" ∷ codes "otimes" ∷ codes "perp" ∷ codes "sdot" ∷ codes "lceil" ∷
    codes "rceil" ∷ codes "lfloor" ∷ codes "rfloor" ∷ codes "lang" ∷ codes "rang" ∷ codes "loz" ∷ codes "spades" ∷ codes "clubs" ∷
    codes "hearts" ∷ codes "diams" ∷ []

abbrev pub marks_characters : List ℕ
marks_characters =
    0x22 ∷ 0x22 ∷ codes "&&'<<>>ŒœŠšŸƒˆ˜" ++ 0x2002 ∷ 0x2003 ∷ 0x2009 ∷ 0x200c ∷ 0x200d ∷ 0x200e ∷ 0x200f ∷
    codes "–—‘’‚“”„†‡•…‰′″‹›‾⁄€ℑ℘ℜ™ℵ←↑→↓↔↵⇐⇑⇒⇓⇔∀∂∃∅∇∈∉∋∏∑−∗" ++ codes "√∝∞∠∧∨∩∪∫∴∼≅≈≠≡≤≥⊂⊃⊄⊆⊇⊕⊗⊥⋅⌈⌉⌊⌋〈〉◊♠♣♥♦"

-- the characters of ISO 8859-1
abbrev pub latin_names : List Text
latin_names =
    codes "nbsp" ∷ codes "iexcl" ∷ codes "cent" ∷ codes "pound" ∷ codes "curren" ∷ codes "yen" ∷ codes "brvbar" ∷ codes "sect" ∷
    codes "uml" ∷ codes "copy" ∷ codes "ordf" ∷ codes "laquo" ∷ codes "not" ∷ codes "shy" ∷ codes "reg" ∷ codes "macr" ∷ codes "deg" ∷
    codes "plusmn" ∷ codes "sup2" ∷ codes "sup3" ∷ codes "acute" ∷ codes "micro" ∷ codes "para" ∷ codes "middot" ∷ codes "cedil" ∷
    codes "sup1" ∷ codes "ordm" ∷ codes "raquo" ∷ codes "frac14" ∷ codes "frac12" ∷ codes "frac34" ∷ codes "iquest" ∷ codes "Agrave" ∷
    codes "Aacute" ∷ codes "Acirc" ∷ codes "Atilde" ∷ codes "Auml" ∷ codes "Aring" ∷ codes "AElig" ∷ codes "Ccedil" ∷ codes "Egrave" ∷
    codes "Eacute" ∷ codes "Ecirc" ∷ codes "Euml" ∷ codes "Igrave" ∷ codes "Iacute" ∷ codes "Icirc" ∷ codes "Iuml" ∷ codes "ETH" ∷
    codes "Ntilde" ∷ codes "Ograve" ∷ codes "Oacute" ∷ codes "Ocirc" ∷ codes "Otilde" ∷ codes "Ouml" ∷ codes "times" ∷ codes "Oslash" ∷
    codes "Ugrave" ∷ codes "Uacute" ∷ codes "Ucirc" ∷ codes "Uuml" ∷ codes "Yacute" ∷ codes "THORN" ∷ codes "szlig" ∷ codes "agrave" ∷
    codes "aacute" ∷ codes "acirc" ∷ codes "atilde" ∷ codes "auml" ∷ codes "aring" ∷ codes "aelig" ∷ codes "ccedil" ∷ codes "egrave" ∷
    codes "eacute" ∷ codes "ecirc" ∷ codes "euml" ∷ codes "igrave" ∷ codes "iacute" ∷ codes "icirc" ∷ codes "iuml" ∷ codes "eth" ∷
    codes "ntilde" ∷ codes "ograve" ∷ codes "oacute" ∷ codes "ocirc" ∷ codes "otilde" ∷ codes "ouml" ∷ codes "divide" ∷ codes "oslash" ∷
    codes "ugrave" ∷ codes "uacute" ∷ codes "ucirc" ∷ codes "uuml" ∷ codes "yacute" ∷ codes "thorn" ∷ codes "yuml" ∷ []

abbrev pub latin_characters : List ℕ
latin_characters =
    0xa0 ∷ codes "¡¢£¤¥¦§¨©ª«¬" ++ 0xad ∷ codes "®¯°±²³´µ¶·¸¹º»¼½¾¿ÀÁÂÃÄÅÆÇÈÉÊËÌÍÎÏÐÑÒÓÔÕÖ×ØÙÚÛÜÝ" ++
    codes "Þßàáâãäåæçèéêëìíîïðñòóôõö÷øùúûüýþÿ"

-- Greek
abbrev pub greek_names : List Text
greek_names =
    codes "Alpha" ∷ codes "Beta" ∷ codes "Gamma" ∷ codes "Delta" ∷ codes "Epsilon" ∷ codes "Zeta" ∷ codes "Eta" ∷ codes "Theta" ∷
    codes "Iota" ∷ codes "Kappa" ∷ codes "Lambda" ∷ codes "Mu" ∷ codes "Nu" ∷ codes "Xi" ∷ codes "Omicron" ∷ codes "Pi" ∷ codes "Rho" ∷
    codes "Sigma" ∷ codes "Tau" ∷ codes "Upsilon" ∷ codes "Phi" ∷ codes "Chi" ∷ codes "Psi" ∷ codes "Omega" ∷ codes "alpha" ∷
    codes "beta" ∷ codes "gamma" ∷ codes "delta" ∷ codes "epsilon" ∷ codes "zeta" ∷ codes "eta" ∷ codes "theta" ∷ codes "iota" ∷
    codes "kappa" ∷ codes "lambda" ∷ codes "mu" ∷ codes "nu" ∷ codes "xi" ∷ codes "omicron" ∷ codes "pi" ∷ codes "rho" ∷ codes "sigmaf" ∷
    codes "sigma" ∷ codes "tau" ∷ codes "upsilon" ∷ codes "phi" ∷ codes "chi" ∷ codes "psi" ∷ codes "omega" ∷ codes "thetasym" ∷
    codes "upsih" ∷ codes "piv" ∷ []

abbrev pub greek_characters : List ℕ
greek_characters =
    codes "ΑΒΓΔΕΖΗΘΙΚΛΜΝΞΟΠΡΣΤΥΦΧΨΩαβγδεζηθικλμνξοπρςστυφχψ" ++ codes "ωϑϒϖ"

-- ---- by size

-- how many letters a name has: 2 of one with fewer, and 6 of one with more
abbrev pub size : Text → ℕ
size name = min (max (length name) 2) 6

abbrev pub has_size : ℕ → Text → Bool
has_size n name = size name == n

unfoldable pub names_of : ℕ → List Text
names_of n = filter (has_size n) (latin_names ++ greek_names ++ marks_names)

-- those at the places of names of this size
abbrev pub characters_at : ℕ → List Text → List ℕ → List ℕ
characters_at n [] characters = []
characters_at n (name ∷ names) [] = []
characters_at n (name ∷ names) (c ∷ characters) =
    if has_size n name then c ∷ characters_at n names characters else characters_at n names characters

unfoldable pub characters_of : ℕ → List ℕ
characters_of n =
    characters_at n (latin_names ++ greek_names ++ marks_names) (latin_characters ++ greek_characters ++ marks_characters)
