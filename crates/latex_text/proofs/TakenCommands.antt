-- Commands, and the text after them.
use Rattle.std.proofs.Common.{◌≡◌, ℕ, suc, ◌≤◌, []}
use Rattle.std.proofs.Common.{true, Option, Some, None, length, drop}
use Rattle.std.proofs.Common.{refl, arith}
use Rattle.std.specs.Prelude.{encode_utf8}
use Rattle.std.specs.Str.{IsUtf8}
use Rattle.std.proofs.lemmas.Str.{IsUtf8-nil}
use Rattle.text_model.specs.Texts.{Text}
use Rattle.latex_text.specs.declared.commands.Command.{Command}
use Rattle.latex_text.specs.declared.places.Place.{Place}
use Rattle.latex_text.specs.declared.places.Place.TheVariants.{Word, Escaped}
use Rattle.latex_text.specs.Places.{has_commands}
use Rattle.latex_text.specs.Groups.{ungrouped}
use Rattle.latex_text.specs.Commands.{written}
use Rattle.latex_text.specs.Texts.{done, IsFree}
use Rattle.latex_text.proofs.Characters.{IsCharacter}
use Rattle.latex_text.proofs.Settled.{quiet_free}

-- ---- commands

pub record IsTaken (t : Text) (p : Command) : Type 0 where
  pub within : p.len ≤ length t
  pub short : length (written p.character) ≤ suc p.len
  pub free : (s : Place) → has_commands s ≡ true → IsFree Escaped t → IsFree s (done t p)
  pub utf8 : IsUtf8 t → IsUtf8 (drop p.len t)
  pub character : IsUtf8 (written p.character)

-- a command after which the text is free
pub record IsEnded (t : Text) (n : ℕ) : Type 0 where
  pub within : n ≤ length t
  pub free : IsFree Escaped t → IsFree Word (ungrouped (drop n t))
  pub utf8 : IsUtf8 t → IsUtf8 (drop n t)

abbrev pub made : ℕ → Option ℕ → Command
made n c = record { len = n; character = c }

pub letter_taken : (t : Text) (n m c : ℕ) → IsEnded t n → IsCharacter m c → m ≤ n → IsTaken t (record { len = n; character = Some c })
letter_taken t n m c ended character fits =
    let short = character.short in
    record {
      within = ended.within;
      short = omega (arith, short, fits);
      free = λ s o free. quiet_free s (encode_utf8 c) (ungrouped (drop n t)) o character.quiet (ended.free free);
      utf8 = ended.utf8;
      character = character.utf8;
    }

pub font_taken : (t : Text) (n : ℕ) → IsEnded t n → IsTaken t (record { len = n; character = None })
font_taken t n ended = record {
  within = ended.within;
  short = omega arith;
  free = λ s o free. quiet_free s [] (ungrouped (drop n t)) o refl (ended.free free);
  utf8 = ended.utf8;
  character = IsUtf8-nil;
}
