use Rattle.uri_grammar.proofs.PromiseLemmas.{template_sound}
use Rattle.uri_grammar.proofs.laws.trees_are_sound.Goals as goal

pub returns : goal.returns
returns c = template_sound
