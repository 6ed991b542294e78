use Rattle.registry.proofs.SoundMenus.{sound_menu}
use Rattle.registry.proofs.laws.menus_are_sound.Goals as goal

pub returns : goal.returns
returns c = sound_menu c.course_is_decided.ensures.outcome
