use Rattle.uri_grammar.proofs.PromiseLemmas.{template_sound}
use Rattle.uri_grammar.proofs.template.Template.parts.Goals as goal

pub returns-clause-sound : goal.returns-clause-sound
returns-clause-sound c = rw (← c.self.view_is) (template_sound _ _ c.self.invariant)
