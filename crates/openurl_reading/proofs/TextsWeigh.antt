-- Pairs weigh no more after the steps of texts.
use Rattle.std.proofs.Common.{ℕ, ◌≤◌, List, [], ◌∷◌, map, take, Bool, true, false, cond, sym, subst, arith}
use Rattle.std.specs.List.{sum_by}
use Rattle.std.proofs.lemmas.List.Sums.{sum_by-take-le, sum_by-cons, fold-append}
use Rattle.text_model.specs.Texts.{Text}
use Rattle.kev_read.specs.Pairs.{KeyValue, all_of}
use Rattle.written_texts.specs.declared.readings.Role.{Role}
use Rattle.written_texts.specs.declared.readings.Role.TheVariants.{Title, Other}
use Rattle.written_texts.specs.Readings.{written}
use Rattle.openurl_reading.specs.Steps.{unchanged, replacing, changed, taken, after}
use Rattle.openurl_reading.specs.Values.{most_values, values_of}
use Rattle.openurl_reading.specs.Texts.{are_read, texting, title_texts, other_texts, text_steps}
use Rattle.openurl_reading.proofs.Totals.{total, total_replaced}

-- a text weighs no more than what it is read from
abbrev pub AreTextsLight : (Text → ℕ) → Type 0
AreTextsLight g = (role : Role) (text : Text) → g (written role text) ≤ g text

written_weigh : (g : Text → ℕ) → AreTextsLight g → (role : Role) (values : List Text) → sum_by g (map (written role) values) ≤ sum_by g values
written_weigh g light role [] = omega arith
written_weigh g light role (v ∷ vs) =
    omega (
      arith,
      sum_by-cons g (written role v) (map (written role) vs),
      sum_by-cons g v vs,
      light role v,
      written_weigh g light role vs,
    )

texting_weighs : (g : Text → ℕ) → AreTextsLight g → (role : Role) (key : Text) (pairs : List KeyValue)
    → total g (taken pairs (texting role key)) ≤ total g pairs
texting_weighs g light role key pairs = by_test (are_read role (values_of pairs key))
  where
    by_test : (b : Bool) → total g (changed key (cond b unchanged (replacing (map (written role) (values_of pairs key)))) pairs) ≤ total g pairs
    by_test true = omega arith
    by_test false =
        let values = all_of pairs key in
        total_replaced g key (map (written role) (take most_values values)) pairs
        (omega (arith, written_weigh g light role (take most_values values), sum_by-take-le g values most_values))

keys_weigh : (g : Text → ℕ) → AreTextsLight g → (role : Role) (keys : List Text) (pairs : List KeyValue)
    → total g (after (map (texting role) keys) pairs) ≤ total g pairs
keys_weigh g light role [] pairs = omega arith
keys_weigh g light role (key ∷ keys) pairs =
    omega (arith, texting_weighs g light role key pairs, keys_weigh g light role keys (taken pairs (texting role key)))

pub texts_weigh : (g : Text → ℕ) → AreTextsLight g → (pairs : List KeyValue) → total g (after text_steps pairs) ≤ total g pairs
texts_weigh g light pairs =
    let titled = after (map (texting Title) title_texts) pairs in
    subst (λ p. total g p ≤ total g pairs) (sym (fold-append taken pairs (map (texting Title) title_texts) (map (texting Other) other_texts)))
    (omega (arith, keys_weigh g light Title title_texts pairs, keys_weigh g light Other other_texts titled))
