use Rattle.written_texts.proofs.Plain.{once_utf8}
use Rattle.written_texts.proofs.laws.readings_are_utf8.Goals as goal

pub returns : goal.returns
returns c =
    once_utf8 record {
      texts = c.texts_are_utf8.ensures;
      latex = c.texts_are_bounded.ensures.utf8;
      markup = c.plain_titles_are_bounded.ensures.utf8;
      remarks = c.titles_are_parts.ensures.utf8;
      numbers = c.numbers_are_utf8.ensures;
      identifiers = c.identifiers_are_utf8.ensures;
    }
