-- Where a key has some values, it has some after the steps of texts.
use Rattle.std.proofs.Common.{◌≡◌, List, map, take, Bool, true, false, cond, refl, ap, inl, inr, ◌⊎◌, get_or}
use Rattle.std.specs.List.{All}
use Rattle.std.proofs.lemmas.List.Elements.{All-append, All-map}
use Rattle.text_model.specs.Texts.{Text}
use Rattle.kev_read.specs.Pairs.{KeyValue, all_of}
use Rattle.written_texts.specs.declared.readings.Role.{Role}
use Rattle.written_texts.specs.declared.readings.Role.TheVariants.{Title, Other}
use Rattle.written_texts.specs.Readings.{written}
use Rattle.openurl_reading.specs.Steps.{Change, unchanged, replacing}
use Rattle.openurl_reading.specs.Values.{most_values, values_of}
use Rattle.openurl_reading.specs.Texts.{are_read, texting, title_texts, other_texts, text_steps}
use Rattle.openurl_reading.proofs.Filled.{HasSome, KeepsKey}

texting_keeps : (key : Text) (role : Role) (own : Text) → KeepsKey key (texting role own)
texting_keeps key role own = inr (λ pairs. by_test pairs (are_read role (values_of pairs own)))
  where
    made : List KeyValue → Bool → Change
    made pairs b = cond b unchanged (replacing (map (written role) (values_of pairs own)))

    by_test : (pairs : List KeyValue) (b : Bool) → ((made pairs b).keeps ≡ true) ⊎ (HasSome (all_of pairs own) → HasSome (made pairs b).values)
    by_test pairs true = inl refl
    by_test pairs false =
        inr (λ some. (written role some.0, map (written role) (take 19 some.1), ap (λ values. map (written role) (take most_values values)) some.2))

pub texts_keep : (key : Text) → All (KeepsKey key) text_steps
texts_keep key =
    All-append (KeepsKey key) (map (texting Title) title_texts) (map (texting Other) other_texts)
    (All-map (KeepsKey key) (texting Title) title_texts (λ k d h. texting_keeps key Title (get_or title_texts k d)))
    (All-map (KeepsKey key) (texting Other) other_texts (λ k d h. texting_keeps key Other (get_or other_texts k d)))
