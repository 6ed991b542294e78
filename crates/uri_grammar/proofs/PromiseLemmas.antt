-- What holds for every tree of the grammar.
use Rattle.std.proofs.Common.{ℕ, ◌<◌, List, [], ◌∷◌, ◌++◌, length, sym, subst, arith, All, encode_utf8_all}
use Rattle.std.proofs.lemmas.List.Elements.{All-nil, All-cons}
use Rattle.std.proofs.lemmas.Grind.{common_steps}
use Rattle.text_model.specs.Texts.{Text}
use Rattle.text_model.specs.UriText.{IsUriText}
use Rattle.text_model.proofs.UriTexts.{written_ur-uri}
use Rattle.uri_grammar.specs.Characters.{comma}
use Rattle.uri_grammar.specs.declared.parts.Part.{Part}
use Rattle.uri_grammar.specs.declared.parts.Part.TheVariants.{Literal, Expression}
use Rattle.uri_grammar.specs.declared.parts.Spec.{Spec}
use Rattle.uri_grammar.specs.Specs.{IsSpec, SpellsSpecs}
use Rattle.uri_grammar.specs.Templates.{Spells}
use Rattle.uri_grammar.specs.Texts.{IsTemplate}
use Rattle.uri_grammar.specs.Promises.{IsSoundSpec, IsSoundPart}
use Rattle.uri_grammar.proofs.NameLemmas.{IsUriText-varname}
use Rattle.uri_grammar.proofs.SpecLemmas.{modifier_range}

sound_spec : (cs : List ℕ) (spec : Spec) → IsSpec cs spec → IsSoundSpec spec
sound_spec cs spec h =
    let range = modifier_range h.after spec.cut spec.explode h.modified in
    record { is_name = h.is_name; uri_text = IsUriText-varname spec.name h.is_name.0; cut = range.0; uncut = range.1 }

sound_specs : (specs : List Spec) (cs : List ℕ) → SpellsSpecs cs specs → All IsSoundSpec specs
sound_specs [] cs h = All-nil IsSoundSpec
sound_specs (s ∷ ss) cs h = All-cons IsSoundSpec s ss (sound_spec h.1.piece s h.1.is_spec) (sound_specs ss h.0 h.2)

some_spec : (specs : List Spec) (list : List ℕ) → SpellsSpecs (list ++ comma ∷ []) specs → 0 < length specs
some_spec specs list h = grind (arith, common_steps)

sound_parts : (parts : List Part) (cs : List ℕ) → Spells cs parts → All IsSoundPart parts
sound_parts [] cs h = All-nil IsSoundPart
sound_parts (Literal text ∷ parts) cs h =
    All-cons IsSoundPart (Literal text) parts (subst IsUriText (sym h.1.is_written) (written_ur-uri (encode_utf8_all h.1.raw))) (sound_parts parts h.0 h.3)
sound_parts (Expression op specs ∷ parts) cs h =
    All-cons IsSoundPart (Expression op specs) parts (
      some_spec specs h.1.is_body.0 h.1.is_body.2,
      sound_specs specs (h.1.is_body.0 ++ comma ∷ []) h.1.is_body.2,
    ) (sound_parts parts h.0 h.2)

pub template_sound : (text : Text) (parts : List Part) → IsTemplate text parts → All IsSoundPart parts
template_sound text parts h = sound_parts parts h.1 h.3
