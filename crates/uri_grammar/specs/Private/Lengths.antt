-- The lengths of the items of literals and of names. For private contracts.
use Rattle.std.specs.Prelude.{ℕ, ◌+◌, ◌==◌, List, [], ◌∷◌, if◌then◌else◌}
use Rattle.text_model.specs.Texts.{begins_with_triplet}
use Rattle.uri_grammar.specs.Characters.{dot}
use Rattle.uri_grammar.specs.Literals.{is_literal_character}
use Rattle.uri_grammar.specs.Names.{is_name_character}

-- how many characters the literal at the beginning has, which is one character or one triplet; 0 if there is none
abbrev pub literal_item_len : List ℕ → ℕ
literal_item_len [] = 0
literal_item_len (c ∷ cs) = if is_literal_character c then 1 else (if begins_with_triplet (c ∷ cs) then 3 else 0)

-- how many characters the varchar at the beginning has; 0 if there is none
abbrev pub varchar_len : List ℕ → ℕ
varchar_len [] = 0
varchar_len (c ∷ cs) = if is_name_character c then 1 else (if begins_with_triplet (c ∷ cs) then 3 else 0)

-- how many characters the ["."] varchar at the beginning has; 0 if there is none
abbrev pub next_len : List ℕ → ℕ
next_len [] = 0
next_len (c ∷ cs) = if c == dot then (if varchar_len cs == 0 then 0 else (varchar_len cs + 1)) else varchar_len (c ∷ cs)
