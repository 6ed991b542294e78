-- The arguments after `expand` can be parsed in at most one way.
use Rattle.std.proofs.Common.{◌≡◌, ◌-◌, List, [], ◌∷◌, ◌++◌, length, take, drop, true, false, refl, sym, ◌∙◌, ap, append_assoc, length-append}
use Rattle.std.proofs.Common.{slice_index_or, take_all, ◌≤◌, ◌<◌, arith}
use Rattle.std.specs.Prelude.{◌≢◌, codes}
use Rattle.std.specs.Borrow.{Bor}
use Rattle.std.specs.Str.{bytes_eq}
use Rattle.std.proofs.Math.Seq.{take-append_seam}
use Rattle.std.proofs.lemmas.List.{length-map, map-append}
use Rattle.std.proofs.lemmas.Grind.{flat_map-append}
use Rattle.std.proofs.lemmas.Slice.Eq.{bytes_eq-Decides}
use Rattle.text_model.specs.Texts.{Text, texts_of}
use Rattle.answers.specs.Expansion.{names_of}
use Rattle.commands.specs.ExpandArguments.{AreExpandArguments, NoExpandArguments, begins_with_option, list_options}

-- ---- arguments that begin with options

-- some options come first
abbrev pub AfterOptions : List (Bor Text) → List (Bor Text) → Type 0
AfterOptions arguments rest = (done : List (Bor Text)) × (names : List Text) × (arguments ≡ done ++ rest) × (texts_of done ≡ list_options names)

pub no_options : (arguments : List (Bor Text)) → AfterOptions arguments arguments
no_options arguments = ([], [], refl, refl)

pub next_option : (arguments rest after : List (Bor Text)) → AfterOptions arguments rest → begins_with_option (texts_of rest) ≡ true → after ≡ drop 2 rest
    → AfterOptions arguments after
next_option arguments [] after so_far begins same = absurd (cc)
next_option arguments (option ∷ []) after so_far begins same = absurd (cc)
next_option arguments (option ∷ name ∷ rest) after so_far begins same =
    let is_option : option.now ≡ codes "--list" = (bytes_eq-Decides option.now (codes "--list")).0 begins in
    let more : texts_of (so_far.0 ++ option ∷ name ∷ []) ≡ list_options (so_far.1 ++ name.now ∷ []) =
    map-append (λ argument. argument.now) so_far.0 (option ∷ name ∷ [])
    ∙ ap (λ texts. texts ++ option.now ∷ name.now ∷ []) so_far.3
    ∙ ap (λ text. list_options so_far.1 ++ text ∷ name.now ∷ []) is_option
    ∙ sym (flat_map-append (λ name. codes "--list" ∷ name ∷ []) so_far.1 (name.now ∷ []))
    in
    let whole : arguments ≡ (so_far.0 ++ option ∷ name ∷ []) ++ rest = so_far.2 ∙ sym (append_assoc so_far.0 (option ∷ name ∷ []) rest) in (
      so_far.0 ++ option ∷ name ∷ [],
      so_far.1 ++ name.now ∷ [],
      whole ∙ ap (λ following. (so_far.0 ++ option ∷ name ∷ []) ++ following) (sym same),
      more,
    )

-- ---- the names in options

names_of-options : (names : List Text) → names_of (list_options names) ≡ names
names_of-options [] = refl
names_of-options (name ∷ names) = ap (λ more. name ∷ more) (names_of-options names)

-- two arguments after the options are the template and the query
two_after : (arguments options : List (Bor Text)) (template query : Bor Text) → AfterOptions arguments (template ∷ query ∷ [])
    → begins_with_option (texts_of (template ∷ query ∷ [])) ≡ false → options ≡ take (length arguments - 2) arguments
    → AreExpandArguments (texts_of arguments) (names_of (texts_of options)) template.now query.now
two_after arguments options template query so_far ends taken =
    let left : List (Bor Text) = template ∷ query ∷ [] in
    let size : length arguments - 2 ≡ length so_far.0 = omega (arith, ap length so_far.2, length-append so_far.0 left) in
    let same : options ≡ so_far.0 = taken ∙ ap (λ n. take n arguments) size ∙ ap (take (length so_far.0)) so_far.2 ∙ take-append_seam so_far.0 left in
    let names : names_of (texts_of options) ≡ so_far.1 = ap (λ o. names_of (texts_of o)) same ∙ ap names_of so_far.3 ∙ names_of-options so_far.1 in
    record {
      whole =
          ap texts_of so_far.2 ∙ map-append (λ argument. argument.now) so_far.0 left
          ∙ ap (λ texts. texts ++ template.now ∷ query.now ∷ []) so_far.3
          ∙ ap (λ lists. list_options lists ++ template.now ∷ query.now ∷ []) (sym names);
      no_option = λ is_option.
          let begins : bytes_eq template.now (codes "--list") ≡ true = (bytes_eq-Decides template.now (codes "--list")).1 is_option in
          cc (ends, begins);
    }

pub two_left : (arguments rest options : List (Bor Text)) (d : Bor Text) → AfterOptions arguments rest → 2 ≤ length rest → length rest < 3
    → begins_with_option (texts_of rest) ≡ false → options ≡ take (length arguments - 2) arguments
    → AreExpandArguments (texts_of arguments) (names_of (texts_of options)) (slice_index_or rest 0 d).now (slice_index_or rest 1 d).now
two_left arguments [] options d so_far more fewer ends taken = absurd (omega arith)
two_left arguments (template ∷ []) options d so_far more fewer ends taken = absurd (omega arith)
two_left arguments (template ∷ query ∷ []) options d so_far more fewer ends taken = two_after arguments options template query so_far ends taken
two_left arguments (template ∷ query ∷ third ∷ rest) options d so_far more fewer ends taken = absurd (omega arith)

-- ---- arguments that are wrong for `expand`

-- options, and then arguments that begin with none and are not two
only_options : (done rest lists : List Text) (template query : Text) → begins_with_option rest ≡ false → (length rest ≡ 2 → ⊥) → template ≢ codes "--list"
    → list_options done ++ rest ≡ list_options lists ++ template ∷ query ∷ [] → ⊥
only_options [] rest [] template query e h n w = h (ap length w)
only_options [] rest (name ∷ lists) template query e h n w = cc (e, ap begins_with_option w)
only_options (name ∷ done) rest [] template query e h n w = n (cc (w))
only_options (name ∷ done) rest (other ∷ lists) template query e h n w =
    let same : list_options done ++ rest ≡ list_options lists ++ template ∷ query ∷ [] = cc (w) in
    only_options done rest lists template query e h n same

pub no_arguments : (arguments rest : List (Bor Text)) → AfterOptions arguments rest → begins_with_option (texts_of rest) ≡ false → (length rest ≡ 2 → ⊥)
    → NoExpandArguments (texts_of arguments)
no_arguments arguments rest so_far e h lists template query a =
    let whole : texts_of arguments ≡ list_options so_far.1 ++ texts_of rest =
    ap texts_of so_far.2 ∙ map-append (λ argument. argument.now) so_far.0 rest ∙ ap (λ options. options ++ texts_of rest) so_far.3
    in
    only_options so_far.1 (texts_of rest) lists template query e (λ two. h (sym (length-map rest (λ argument. argument.now)) ∙ two))
    a.no_option (sym whole ∙ a.whole)
