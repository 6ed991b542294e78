-- The names of lists, as `lists` returns them.
use Rattle.std.specs.Prelude.{List, [], ◌∷◌, not, filter}
use Rattle.std.specs.Str.{bytes_eq}
use Rattle.text_model.specs.Texts.{Text}

-- the texts without those that came before
abbrev pub each_once : List Text → List Text
each_once [] = []
each_once (t ∷ texts) = t ∷ filter (λ other. not (bytes_eq t other)) (each_once texts)
