-- Texts computed: they are written out here, and the checker compares.
use Rattle.std.proofs.Common.{◌≡◌, [], ◌∷◌, ◌++◌, true, false, codes, refl}
use Rattle.std.specs.Fmt.{digits}
use Rattle.serde_json.proofs.OnLiterals.{serde_json_on_literals}
use Rattle.openurl_reading.specs.Reading.{ReadRequest}
use Rattle.source_menus.specs.Found.{Any, Further, Own}
use Rattle.source_json.specs.Values.{found_text, reading_text}

no_pairs : reading_text (record { pairs = []; left_out = 0; is_retracted = false }) ≡ codes "{\"notes\":{\"left_out\":0,\"retracted\":false},\"pairs\":[]}"
unfolding digits serde_json_on_literals
no_pairs = refl

-- a title with a quote, a line feed, and letters that are not of ASCII
abbrev reading : ReadRequest
reading = record {
  pairs = record { key = codes "rft.issn"; value = codes "2049-3630" } ∷ record { key = codes "rft.title"; value = codes "\"É\"\n" } ∷ [];
  left_out = 12;
  is_retracted = true;
}

escaped : reading_text reading
    ≡ codes "{\"notes\":{\"left_out\":12,\"retracted\":true},\"pairs\":[[\"rft.issn\",\"2049-3630\"],[\"rft.title\",\"\\\"É\\\"\\n\"]]}"
unfolding digits serde_json_on_literals
escaped = refl

with_links : found_text (record {
  reading = reading;
  links = record { name = codes "press.2"; row = 3; link = codes "http://e.org/a?b"; request = Own }
      ∷ record { name = codes "shop"; row = 0; link = codes "http://e.org/b"; request = Further (codes "2049-3630") }
      ∷ record { name = codes "search"; row = 10; link = codes "http://e.org/c"; request = Any } ∷ [];
})
    ≡ codes "{\"links\":[{\"link\":\"http://e.org/a?b\",\"part\":\"press.2\",\"query\":\"own\",\"row\":3,\"target\":\"press\"},"
    ++ codes "{\"link\":\"http://e.org/b\",\"part\":\"shop\",\"query\":\"2049-3630\",\"row\":0,\"target\":\"shop\"},"
    ++ codes "{\"link\":\"http://e.org/c\",\"part\":\"search\",\"query\":\"any\",\"row\":10,\"target\":\"search\"}],"
    ++ codes "\"notes\":{\"left_out\":12,\"retracted\":true},\"pairs\":[[\"rft.issn\",\"2049-3630\"],[\"rft.title\",\"\\\"É\\\"\\n\"]]}"
unfolding digits serde_json_on_literals
with_links = refl
