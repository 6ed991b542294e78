-- The values of names, from their texts and members, and the lines of several names.
use Rattle.std.proofs.Common.{◌≡◌, ◌<◌, ◌+◌, ℕ, List, ◌++◌, Bor, length, take, get_or, ap, sym, ◌∙◌}
use Rattle.std.specs.List.{flat_map}
use Rattle.std.proofs.lemmas.List.{flat_map_more, map_more}
use Rattle.text_model.specs.Texts.{Text, texts_of}

-- one more name
pub names_more : (line : Text → Text) (start : Text) (names : List (Bor Text)) (i : ℕ) (d : Bor Text) (before after : Text) → i < length names
    → before ≡ start ++ flat_map line (texts_of (take i names)) → after ≡ before ++ line (get_or names i d).now
    → after ≡ start ++ flat_map line (texts_of (take (i + 1) names))
names_more line start names i d before after within so_far appended =
    appended ∙ ap (λ (t : Text). t ++ line (get_or names i d).now) so_far
    ∙ flat_map_more line start (texts_of (take i names)) (get_or names i d).now
    ∙ ap (λ ns. start ++ flat_map line ns) (sym (map_more (λ (n : Bor Text). n.now) names i d within))
